-- Which numbers preparing and judging give, and when the number is 0. Assumes nothing.
use mathlib.Core.Path.{◌≡◌, refl, sym, ap, ◌∙◌}
use mathlib.Core.Logic.{◌↔◌}
use mathlib.Core.List.{List, [], ◌∷◌}
use mathlib.Core.Bool.{Bool, true, false, not, cond, ◌||◌}
use mathlib.Core.Option.{Option, none, some, some-ne-none, map, Option-elim, or_else}
use Prim.Native.Nat.{ℕ, ◌≤◌}
use native.Mathlib.Omega.{arith}
use native.Mathlib.Decide.{dec_le}
use lib.ListN.{length}
use lib.Dec.{eqb, ltb}
use borrow.Author.Tests.{lt-ltb, le-ltb}
use Rattle.base.specs.Lists.{some?, has}
use Rattle.base.specs.Numbers.{Outcome, accepted, count, short_table, short_space, stray, loop, Says}
use Rattle.base.specs.Limits.{most_entries, table_words, space_words, top_mark}
use Rattle.base.proofs.Lists.{clash}
use Rattle.tree.specs.Parents.{children}
use Rattle.tree.specs.Faults.{Tree, lowest, is_stray, meets_top, tops_fault, list_fault}
use Rattle.table.specs.Preparing.{refuse, count_fault, table_fault, space_fault, call_fault, lend_fault, refusal, preparing, judging}
use Rattle.table.proofs.Acceptance.{accepted-iff, accepts}

-- the number of what is answered is among those of a list
abbrev Among : List ℕ → Option Outcome → Type 0
Among l none = Unit
Among l (some o) = has l o.number ≡ true

module _ (l : List ℕ) where
  among-or : (a b : Option Outcome) → Among l a → Among l b → Among l (or_else a b)
  unfolding or_else
  among-or none b p q = q
  among-or (some o) b p q = p

  among-refuse : (test : Bool) (o : Outcome) → has l o.number ≡ true → Among l (refuse test o)
  among-refuse true o e = e
  among-refuse false o e = tt

  among-map : (f : ℕ → Outcome) → ((v : ℕ) → has l (f v).number ≡ true) → (a : Option ℕ) → Among l (map f a)
  among-map f e none = tt
  among-map f e (some v) = e v

  -- with 0 for acceptance
  among-answer : (a : Option Outcome) (w : ℕ) → Among l a → has (0 ∷ l) (Option-elim a (accepted w) (λ o. o)).number ≡ true
  unfolding some? Option-elim
  among-answer none w p = refl
  among-answer (some o) w p = go (eqb o.number 0)
    where
      go : (b : Bool) → cond b true (has l o.number) ≡ true
      go true = refl
      go false = p

  -- where 0 is not among them, it is acceptance's alone
  among-accepts : (a : Option Outcome) (w : ℕ) → has l 0 ≡ false → Among l a → (Option-elim a (accepted w) (λ o. o)).number ≡ 0 → a ≡ none
  unfolding Option-elim
  among-accepts none w z p e = refl
  among-accepts (some o) w z p e = clash (sym z ∙ (rw e at p))

  among-list : has l 4 ≡ true → has l 5 ≡ true → has l 6 ≡ true → (ps : List ℕ) → Among l (list_fault ps)
  unfolding list_fault
  among-list a b c ps = among-or _ _ (among-map stray (λ v. a) (lowest ps (is_stray ps))) (among-or _ _ (tops-among (length ps) (children ps top_mark)) (among-map loop (λ v. c) (lowest ps (λ v. not (meets_top ps v)))))
    where
      tops-among : (n : ℕ) (vs : List ℕ) → Among l (tops_fault n vs)
      tops-among n [] = b
      tops-among n (t ∷ []) = tt
      tops-among n (t ∷ u ∷ us) = b

-- what two tests pass, and what one does
none_or : (a b : Option Outcome) → or_else a b ≡ none → (a ≡ none) × (b ≡ none)
unfolding or_else
none_or none b e = (refl, e)
none_or (some o) b e = absurd (some-ne-none o e)

not_short : (len least : ℕ) (o : Outcome) → refuse (ltb len least) o ≡ none → least ≤ len
not_short len least o e = go (dec_le least len)
  where
    go : Dec (least ≤ len) → least ≤ len
    go (yes h) = h
    go (no h) = absurd (some-ne-none o (rw (lt-ltb len least (omega arith)) at e))

abbrev pub refusals : List ℕ
refusals = 1 ∷ 2 ∷ 3 ∷ 4 ∷ 5 ∷ 6 ∷ []

abbrev pub judgments : List ℕ
judgments = 1 ∷ 3 ∷ 4 ∷ 5 ∷ 6 ∷ []

-- 4 to 6, or acceptance: 0 is acceptance's alone
pub list-zero : (ps : List ℕ) (w : ℕ) → (Option-elim (list_fault ps) (accepted w) (λ o. o)).number ≡ 0 → list_fault ps ≡ none
unfolding some?
list-zero ps w e = among-accepts refusals (list_fault ps) w refl (among-list refusals refl refl refl ps) e

module _ (ps : List ℕ) (t s : ℕ) where
  refused : Among refusals (refusal ps t s)
  unfolding refusal call_fault count_fault table_fault space_fault some?
  refused =
      among-or refusals _ _
      (among-or refusals _ _ (among-refuse refusals (eqb (length ps) 0 || ltb most_entries (length ps)) count refl) (among-or refusals _ _ (among-refuse refusals (ltb t (table_words (length ps))) short_table refl) (among-refuse refusals (ltb s (space_words (length ps))) short_space refl)))
      (among-list refusals refl refl refl ps)

  -- preparing gives 0 to 6
  pub preparing-numbers : has (0 ∷ refusals) (preparing ps t s).number ≡ true
  unfolding preparing
  preparing-numbers = among-answer refusals (refusal ps t s) (table_words (length ps)) refused

  pub refusal-none : (preparing ps t s).number ≡ 0 → refusal ps t s ≡ none
  unfolding preparing some?
  refusal-none e = among-accepts refusals (refusal ps t s) (table_words (length ps)) refl refused e

  judged : Among judgments (or_else (lend_fault (length ps) s) (list_fault ps))
  unfolding lend_fault count_fault space_fault some?
  judged = among-or judgments _ _ (among-or judgments _ _ (among-refuse judgments (eqb (length ps) 0 || ltb most_entries (length ps)) count refl) (among-refuse judgments (ltb s (space_words (length ps))) short_space refl)) (among-list judgments refl refl refl ps)

  -- judging gives 0, 1 and 3 to 6
  pub judging-numbers : has (0 ∷ judgments) (judging ps s).number ≡ true
  unfolding judging
  judging-numbers = among-answer judgments _ (length ps) judged

  pub judging-none : (judging ps s).number ≡ 0 → (lend_fault (length ps) s ≡ none) × (list_fault ps ≡ none)
  unfolding judging some?
  judging-none e = none_or _ _ (among-accepts judgments _ (length ps) refl judged e)

  -- and 0 just where the list has from 1 to 1,048,576 entries and forms one tree, and the space is long enough
  pub judging-iff : ((judging ps s).number ≡ 0) ↔ ((1 ≤ length ps) × (length ps ≤ most_entries) × Tree ps × (space_words (length ps) ≤ s))
  unfolding judging lend_fault space_fault or_else Option-elim
  judging-iff = (
    λ e.
        let (lent, sound) = judging-none e in
        let (counted, space) = none_or _ _ lent in
        let (one, most, tree) = (accepted-iff ps).0 (record { counted = counted; sound = sound }) in
        (one, most, tree, not_short s (space_words (length ps)) short_space space),
    λ h. let a = (accepted-iff ps).1 (h.0, h.1, h.2) in rw (a.counted, le-ltb s (space_words (length ps)) h.3, a.sound),
  )

  -- 0 is given just where the list has from 1 to 1,048,576 entries and forms one tree, and table and space are long enough
  pub zero-iff : ((preparing ps t s).number ≡ 0) ↔ ((1 ≤ length ps) × (length ps ≤ most_entries) × Tree ps × (table_words (length ps) ≤ t) × (space_words (length ps) ≤ s))
  unfolding refusal call_fault table_fault space_fault
  zero-iff = (
    λ e.
        let (call, sound) = none_or _ _ (refusal-none e) in
        let (counted, lent) = none_or _ _ call in
        let (table, space) = none_or _ _ lent in
        let (one, most, tree) = (accepted-iff ps).0 (record { counted = counted; sound = sound }) in
        (one, most, tree, not_short t (table_words (length ps)) short_table table, not_short s (space_words (length ps)) short_space space),
    λ h. ap (λ o. o.number) (accepts ps t s ((accepted-iff ps).1 (h.0, h.1, h.2)) h.3 h.4),
  )

  -- a refusal is the answer, and acceptance is 0
  pub none-zero : refusal ps t s ≡ none → (preparing ps t s).number ≡ 0
  unfolding preparing Option-elim
  none-zero e = rw e

  pub some-refused : (o : Outcome) → refusal ps t s ≡ some o → preparing ps t s ≡ o
  unfolding preparing Option-elim
  some-refused o e = rw e

-- what a caller hands on, by preparing's number and word: a where the list is accepted, else f of the refusal
module _ {A : Type 0} (ps : List ℕ) (t s number word : ℕ) (says : Says (preparing ps t s) number word) (a : A) (f : Outcome → A) where
  pub accepted-is : number ≡ 0 → Option-elim (refusal ps t s) a f ≡ a
  unfolding Option-elim
  accepted-is z = rw (refusal-none ps t s (sym says.0 ∙ z))

  pub refused-is : (number ≡ 0 → ⊥) → Option-elim (refusal ps t s) a f ≡ f (record { number = number; word = word })
  unfolding Option-elim
  refused-is z = go (refusal ps t s) refl
    where
      go : (o : Option Outcome) → refusal ps t s ≡ o → Option-elim o a f ≡ f (record { number = number; word = word })
      go none e = absurd (z (says.0 ∙ none-zero ps t s e))
      go (some o) e =
          let q = sym (some-refused ps t s o e) in
          ap f (q ∙ ap (λ x. record { number = x; word = (preparing ps t s).word }) (sym says.0) ∙ ap (λ x. record { number = number; word = x }) (sym says.1))
