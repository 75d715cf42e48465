-- The theorems of 2026-06: `specs/Statements` has what they say. Assumes nothing.
use mathlib.Core.Path.{◌≡◌, refl, sym, ap, ◌∙◌}
use mathlib.Core.List.{List}
use Prim.Native.Nat.{ℕ, ◌≤◌, ◌<◌}
use native.Mathlib.Omega.{arith}
use native.Mathlib.Decide.{dec_le}
use lib.ListN.{length}
use lib.IntN.{ℤ}
use Rattle.base.specs.Numbers.{Outcome, unknown}
use Rattle.base.specs.Limits.{top_mark}
use Rattle.tree.specs.Faults.{Tree}
use Rattle.tree.specs.Questions.{rating_of}
use Rattle.tree.proofs.Meanings.{rating-unknown, rating-class, rating-depth, has-class}
use Rattle.answers.specs.Reading.{Reading, Within, run}
use Rattle.answers.specs.Answers.{answer_to}
use Rattle.answers.proofs.Bounds.{level-within, climbing-within, rating-within, ancestry-within, branch-within}
use Rattle.answers.proofs.ProgramAnswers.{few}
use Rattle.climbs.proofs.TableWords.{small, tree}
use Rattle.climbs.proofs.Questions.{level-right, climb-right, rating-right, ancestry-right, branch-right}
use Rattle.premiums.specs.Quotes.{price_of}
use Rattle.premiums.proofs.Theorems.{premium-right}
use Rattle.sheets.specs.Verdicts.{naming, verdict, depths_of, Good}
use Rattle.sheets.specs.Texts.{sheet_of, bands_in}
use Rattle.sheets.proofs.Theorems.{checked-good, covered-iff}
use Rattle.bands.specs.Bands.{covers}
use Rattle.pricing.specs.Quotes.{refusing, class_price, sheet_price, price_on}
use Rattle.pricing.proofs.SheetPrices.{price-unfound}
use Rattle.pricing.proofs.Theorems.{price-right, good-price}
use Rattle.renumbering.specs.Numbering.{Renumbered, SameRates}
use Rattle.renumbering.specs.Sheets.{SameSheets}
use Rattle.renumbering.specs.Alike.{SameClass, SameRelation, SamePrice, SameSheetPrice}
use Rattle.renumbering.specs.Statements.{EveryList, OneList, SameWidth, EveryRates, Acceptance, Classes, Premiums, EverySheet, SheetAcceptance, Prices}
use Rattle.renumbering.proofs.Numbers as numbers
use Rattle.renumbering.proofs.Acceptance as acceptance
use Rattle.renumbering.proofs.Meanings.{renamed, class-new, climbing-new, rating-new, ancestry-new, branch-new}
use Rattle.renumbering.proofs.Sheets.{good-stated, good_new, sheets-back}
use Rattle.renumbering.proofs.Texts as texts
use Rattle.renumbering.proofs.Prices.{rates-alike, refusing-alike, bands-alike}

pub every-list : EveryList
every-list = numbers.every-list

pub one_list : OneList
one_list r ps qs os a b = numbers.one_list r ps qs a os b

pub same_width : SameWidth
same_width = numbers.same_width

pub every-rates : EveryRates
every-rates = numbers.every-rates

pub one-acceptance : Acceptance
one-acceptance = acceptance.acceptance

-- the answers of two reading programs, from what the questions mean
module _ (r : ℕ → ℕ) (t u : List ℕ) (p q : Reading) (m k : Outcome) (here : run t p ≡ m) (there : run u q ≡ k) (most : ℕ) (w : Within most p) (x : Within most q) where
  same_class : k ≡ renamed r m → SameClass most r (answer_to t p) (answer_to u q)
  unfolding answer_to
  same_class e =
      let z : run u q ≡ renamed r (run t p) = there ∙ e ∙ ap (renamed r) (sym here) in
      record { number = ap (λ o. o.number) z; named = ap (λ o. o.word) z; few = few t most p w; other-few = few u most q x }

same_relation : (t u : List ℕ) (p q : Reading) → Within 4 p → Within 4 q → run u q ≡ run t p → SameRelation (answer_to t p) (answer_to u q)
unfolding answer_to
same_relation t u p q a b z = record { number = ap (λ o. o.number) z; word = ap (λ o. o.word) z; few = few t 4 p a; other-few = few u 4 q b }

pub classes : Classes
classes r ps qs t u w =
    let a = w.first in
    let b = w.second in
    record {
      levels = λ v d. same_class r t u _ _ _ _ (level-right ps t a v d) (level-right qs u b (r v) d) 10 (level-within (length t) v d) (level-within (length u) (r v) d) (class-new r ps qs w.lists v d);
      climbs = λ v k. same_class r t u _ _ _ _ (climb-right ps t a v k) (climb-right qs u b (r v) k) 10 (climbing-within (length t) v k) (climbing-within (length u) (r v) k) (climbing-new r ps qs w.lists v k);
      ratings = λ v d. same_class r t u _ _ _ _ (rating-right ps t a v d) (rating-right qs u b (r v) d) 10 (rating-within (length t) v d) (rating-within (length u) (r v) d) (rating-new r ps qs w.lists v d);
      branches = λ x v. same_class r t u _ _ _ _ (branch-right ps t a x v) (branch-right qs u b (r x) (r v)) 15 (branch-within (length t) x v) (branch-within (length u) (r x) (r v)) (branch-new r ps qs w.lists (small ps t a) (tree ps t a) (tree qs u b) x v);
      ancestries = λ x v. same_relation t u _ _ (ancestry-within (length t) x v) (ancestry-within (length u) (r x) (r v)) (ancestry-right qs u b (r x) (r v) ∙ ancestry-new r ps qs w.lists x v ∙ sym (ancestry-right ps t a x v));
    }

-- the price behind a lookup that found no class
unfound : (ps text : List ℕ) (v d : ℕ) (sum : ℤ) (o : Outcome) → rating_of ps v d ≡ o → (o.number ≡ 0 → ⊥) → price_on ps text v d sum ≡ refusing (naming o 0)
unfolding price_on
unfound ps text v d sum o q z =
    ap (sheet_price (verdict (depths_of ps) d text) (bands_in (sheet_of (depths_of ps) d text)) sum) q ∙ price-unfound (verdict (depths_of ps) d text) (bands_in (sheet_of (depths_of ps) d text)) sum o z

-- a rating names an entry, or a number that is none and stays
module _ (r : ℕ → ℕ) (ps qs : List ℕ) (e : Renumbered r ps qs) (few : length ps ≤ top_mark) (forms : Tree ps) (v d : ℕ) where
  rated-entry : (rating_of ps v d).number ≡ 0 → (rating_of ps v d).word < length ps
  rated-entry z = go (dec_le (length ps) v)
    where
      go : Dec (length ps ≤ v) → (rating_of ps v d).word < length ps
      go (yes h) = absurd (omega (arith, z, ap (λ o. o.number) (rating-unknown ps few forms v d h)))
      go (no h) = let (u, c) = has-class ps few forms v d (omega arith) in omega (arith, ap (λ o. o.word) (rating-class ps few forms v d u c), (rating-depth ps few forms v d u c).0)

  unrated-stays : ((rating_of ps v d).number ≡ 0 → ⊥) → r (rating_of ps v d).word ≡ (rating_of ps v d).word
  unrated-stays z = go (dec_le (length ps) v)
    where
      go : Dec (length ps ≤ v) → r (rating_of ps v d).word ≡ (rating_of ps v d).word
      go (yes h) = rw (rating-unknown ps few forms v d h) (e.numbers.others v h)
      go (no h) = let (u, c) = has-class ps few forms v d (omega arith) in absurd (z (ap (λ o. o.number) (rating-class ps few forms v d u c)))

  -- the price of an entry by rates, as the question means it on the lists
  pub premium-alike : (rates others : List ℕ) → SameRates r (length ps) rates others → (sum : ℤ) → SamePrice r (price_of rates sum (rating_of ps v d)) (price_of others sum (rating_of qs (r v) d))
  premium-alike rates others same sum = rw (rating-new r ps qs e v d) (rates-alike r (length ps) rates others e.numbers same sum (rating_of ps v d) rated-entry unrated-stays)

  -- and by sheets that are one
  pub price-alike : (text other : List ℕ) → SameSheets r text other → Good (depths_of ps) d text → (sum : ℤ) → SameSheetPrice r (price_on ps text v d sum) (price_on qs other (r v) d sum)
  price-alike text other s g sum = go (dec_le (length ps) v)
    where
      go : Dec (length ps ≤ v) → SameSheetPrice r (price_on ps text v d sum) (price_on qs other (r v) d sum)
      go (yes h) =
          let q = rating-unknown ps few forms v d h in
          rw (unfound ps text v d sum (unknown v) q (λ z. omega (arith, z)), unfound qs other (r v) d sum (unknown (r v)) (rating-new r ps qs e v d ∙ ap (renamed r) q) (λ z. omega (arith, z)))
          (refusing-alike r (unknown v) (unknown (r v)) (λ z. omega (arith, z)) refl (e.numbers.others v h))
      go (no h) =
          let (u, c) = has-class ps few forms v d (omega arith) in
          let q = rating-class ps few forms v d u c in
          let covered = (covered-iff ps d u).1 (rating-depth ps few forms v d u c) in
          let z = (good-stated (depths_of ps) d text s.bands s.states g).0 in
          let i = good_new r ps qs e d text other s g in
          let here = good-price ps text v d sum u g q ∙ ap (λ l. class_price l sum u) z in
          let there = good-price qs other (r v) d sum (r u) i (rating-new r ps qs e v d ∙ ap (renamed r) q) ∙ ap (λ l. class_price l sum (r u)) (good-stated (depths_of qs) d other s.other-bands s.other-states i).0 in
          rw (here, there)
          (bands-alike r (length ps) e.numbers s.bands s.other-bands s.alike sum u (λ a k. ap (λ l. covers l u a) (sym z) ∙ g.once.once u covered a k))

-- the same of the prepared tables
pub premiums : Premiums
premiums r ps qs t u rates others w same v d sum =
    rw (premium-right ps t rates v d sum w.first, premium-right qs u others (r v) d sum w.second)
    (premium-alike r ps qs w.lists (small ps t w.first) (tree ps t w.first) v d rates others same sum)

pub every-sheet : EverySheet
every-sheet r ps t text n p d z = texts.every-sheet r ps n (omega (arith, small ps t p)) d text ((checked-good ps t p d text).0 z)

pub sheet-acceptance : SheetAcceptance
sheet-acceptance r ps qs t u text other w s d = (
  λ z. (checked-good qs u w.second d other).1 (good_new r ps qs w.lists d text other s ((checked-good ps t w.first d text).0 z)),
  λ z.
      let back = numbers.flipped r ps qs w.lists in
      (checked-good ps t w.first d text).1 (good_new (numbers.way_back r ps qs w.lists) qs ps back d other text (sheets-back r ps qs w.lists text other s) ((checked-good qs u w.second d other).0 z)),
)

pub prices : Prices
prices r ps qs t u text other w s d ok v sum =
    rw (price-right ps t text v d sum w.first, price-right qs u other (r v) d sum w.second)
    (price-alike r ps qs w.lists (small ps t w.first) (tree ps t w.first) v d text other s ((checked-good ps t w.first d text).0 ok) sum)
