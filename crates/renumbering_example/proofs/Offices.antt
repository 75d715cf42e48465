-- Two offices are told the same premium, and where the list forms the tree it is paid. Assumes nothing.
use mathlib.Core.Path.{◌≡◌, refl, sym, ap}
use mathlib.Core.List.{List, ◌++◌}
use mathlib.Core.Option.{none, Option-elim}
use Prim.Native.Nat.{ℕ, ◌≤◌}
use native.Mathlib.Omega.{arith}
use lib.ListN.{length, drop}
use lib.IntN.{ℤ, nat_abs}
use Rattle.base.specs.Numbers.{Outcome, Says}
use Rattle.base.specs.Limits.{top_mark, table_words}
use Rattle.base.specs.Amounts.{most_sum}
use Rattle.tree.specs.Faults.{Tree}
use Rattle.tree.specs.Questions.{rating_of}
use Rattle.tree.proofs.Meanings.{has-class}
use Rattle.table.specs.Table.{table_of}
use Rattle.table.specs.Preparing.{Accepted, refusal, preparing, table_after}
use Rattle.table.proofs.Acceptance.{accepted-iff}
use Rattle.table.proofs.Outcomes.{zero-iff, refusal-none, accepted-is, refused-is}
use Rattle.money.specs.Prices.{refused}
use Rattle.money.specs.declared.Price.{Price}
use Rattle.premiums.specs.Quotes.{price_of}
use Rattle.premiums.proofs.Theorems.{rated-premium}
use Rattle.sheets.specs.Verdicts.{naming, depths_of, Good}
use Rattle.pricing.specs.Quotes.{refusing, price_on}
use Rattle.pricing.specs.declared.prices.SheetPrice.{SheetPrice}
use Rattle.pricing.specs.Promises.{Priced}
use Rattle.pricing.proofs.Theorems.{good-prices}
use Rattle.renumbering.specs.Alike.{SamePremium, paid_of}
use Rattle.renumbering.proofs.Theorems.{premium-alike, price-alike}
use Rattle.renumbering_example.specs.Offices.{Office, premium_from, price_from}
use Rattle.renumbering_example.specs.Promises.{SamePremiums, SamePrices, Known, PaidByRate, PaidPremium, PaidPrice}
use Rattle.renumbering_example.proofs.Refusals.{both_ways}

-- from what preparing answers to an office's premium
module _ (o : Office) (d : ℕ) (sum : ℤ) (x : Outcome) (is : x ≡ preparing o.list o.table o.space) where
  says : Says (preparing o.list o.table o.space) x.number x.word
  says = (ap (λ (p : Outcome). p.number) is, ap (λ (p : Outcome). p.word) is)

  pub premium-refused : (x.number ≡ 0 → ⊥) → refused x ≡ premium_from o d sum
  unfolding premium_from
  premium-refused z = sym (refused-is o.list o.table o.space x.number x.word says (price_of o.tariff sum (rating_of o.list o.entry d)) refused z)

  pub premium-asked : x.number ≡ 0 → price_of o.tariff sum (rating_of o.list o.entry d) ≡ premium_from o d sum
  unfolding premium_from
  premium-asked z = sym (accepted-is o.list o.table o.space x.number x.word says (price_of o.tariff sum (rating_of o.list o.entry d)) refused z)

  pub price-refused : (x.number ≡ 0 → ⊥) → refusing (naming x 0) ≡ price_from o d sum
  unfolding price_from
  price-refused z = sym (refused-is o.list o.table o.space x.number x.word says (price_on o.list o.tariff o.entry d sum) (λ y. refusing (naming y 0)) z)

  pub price-asked : x.number ≡ 0 → price_on o.list o.tariff o.entry d sum ≡ price_from o d sum
  unfolding price_from
  price-asked z = sym (accepted-is o.list o.table o.space x.number x.word says (price_on o.list o.tariff o.entry d sum) (λ y. refusing (naming y 0)) z)

-- a refusal of preparing: the same number, and no cents
refused-both : (r : ℕ → ℕ) (o i : Outcome) → (o.number ≡ 0 → ⊥) → i.number ≡ o.number → SamePremium r (refused o) (refused i)
refused-both r o i n number = record { number = number; cents = refl; class = λ z. absurd (n z) }

module _ (ps : List ℕ) (a : Accepted ps) where
  fits : length ps ≤ top_mark
  fits = let (one, most, tree) = (accepted-iff ps).0 a in omega (arith, most)

  forms : Tree ps
  forms = ((accepted-iff ps).0 a).2

module _ (x y : Office) (d : ℕ) (sum : ℤ) where
  same-premiums : SamePremiums x y (premium_from x d sum) (premium_from y d sum)
  unfolding premium_from
  same-premiums r h same =
      rw h.entries
      (both_ways r x.list y.list h.lists x.table x.space y.table y.space h.room h.other-room (SamePremium r)
      (price_of x.tariff sum (rating_of x.list x.entry d)) refused (price_of y.tariff sum (rating_of y.list (r x.entry) d)) refused
      (λ a. (premium-alike r x.list y.list h.lists (fits x.list a) (forms x.list a) x.entry d x.tariff y.tariff same sum).premium)
      (refused-both r))

  same-prices : SamePrices d x y (price_from x d sum) (price_from y d sum)
  unfolding price_from
  same-prices r h same g =
      rw h.entries
      (both_ways r x.list y.list h.lists x.table x.space y.table y.space h.room h.other-room (λ p q. SamePremium r (paid_of p) (paid_of q))
      (price_on x.list x.tariff x.entry d sum) (λ o. refusing (naming o 0)) (price_on y.list y.tariff (r x.entry) d sum) (λ o. refusing (naming o 0))
      (λ a. (price-alike r x.list y.list h.lists (fits x.list a) (forms x.list a) x.entry d x.tariff y.tariff same g sum).price.premium)
      (refused-both r))

-- where a list forms one tree, preparing refuses nothing
module _ (o : Office) (d : ℕ) (sum : ℤ) (h : Known o) where
  small : length o.list ≤ top_mark
  small = omega (arith, h.most)

  prepares : refusal o.list o.table o.space ≡ none
  prepares = refusal-none o.list o.table o.space ((zero-iff o.list o.table o.space).1 (omega (arith, h.entry), h.most, h.tree, h.room.words, h.room.working))

  paid-premium : PaidByRate o d sum (premium_from o d sum)
  unfolding premium_from Option-elim
  paid-premium =
      let (u, c) = has-class o.list small h.tree o.entry d h.entry in
      record {
        class = u;
        rated = c;
        paid = λ listed limit legal. rw prepares (rated-premium o.list o.tariff sum o.entry d u listed limit legal small h.tree c);
      }

  paid-price : Good (depths_of o.list) d o.tariff → nat_abs sum ≤ most_sum → Priced o.list o.tariff o.entry d sum (price_from o d sum)
  unfolding price_from Option-elim
  paid-price g legal = rw prepares (good-prices o.list o.tariff o.entry d sum small h.tree h.entry g legal)

-- what is promised of both, where they are the offices'
module _ (x y : Office) (d : ℕ) (sum : ℤ) where
  pub told-premiums : (p q : Price) → p ≡ premium_from x d sum → q ≡ premium_from y d sum → SamePremiums x y p q × PaidPremium x d sum p
  told-premiums p q a b = (rw (a, b) (same-premiums x y d sum), rw a (paid-premium x d sum))

  pub told-prices : (p q : SheetPrice) → p ≡ price_from x d sum → q ≡ price_from y d sum → SamePrices d x y p q × PaidPrice x d sum p
  told-prices p q a b = (rw (a, b) (same-prices x y d sum), rw a (paid-price x d sum))

-- preparing looks at the length of the space alone
pub same-table : (ps table space other : List ℕ) → length other ≡ length space → table_after ps table other ≡ table_after ps table space
unfolding table_after
same-table ps table space other e = ap (λ k. Option-elim (refusal ps (length table) k) (table_of ps ++ drop (table_words (length ps)) table) (λ o. table)) e
