-- Of two lists under a renumbering preparing accepts one just where it accepts the other: its refusals have the same number. Assumes nothing.
use mathlib.Core.Path.{◌≡◌, refl, sym, ap, subst, ◌∙◌}
use mathlib.Core.Logic.{◌↔◌}
use mathlib.Core.List.{List, [], ◌∷◌}
use mathlib.Core.Bool.{Bool, not, ◌||◌}
use mathlib.Core.Option.{Option, none, some, map, Option-elim, or_else, some-ne-none}
use Prim.Native.Nat.{ℕ, ◌≤◌, ◌<◌}
use native.Mathlib.Omega.{arith}
use native.Mathlib.Nat.{zero-add}
use native.Mathlib.Decide.{ℕ_discrete, dec_lt}
use lib.ListN.{length, get_or-eq_default}
use lib.Dec.{eqb, ltb}
use borrow.Author.Tests.{le-ltb, lt-ltb}
use Rattle.base.specs.Lists.{some?}
use Rattle.base.specs.Numbers.{Outcome, accepted, stray, tops, loop}
use Rattle.base.specs.Limits.{top_mark, table_words, space_words}
use Rattle.base.proofs.Lists.{first-none, none_first, places-one}
use Rattle.base.proofs.Counts.{times}
use Rattle.base.proofs.Places.{times-same, times-other}
use Rattle.base.proofs.Filters.{some-map}
use Rattle.tree.specs.Parents.{word, children}
use Rattle.tree.specs.Faults.{lowest, is_stray, stray_fault, tops_fault, meets_top, loop_fault, list_fault}
use Rattle.tree.proofs.Forests.{child-of, of-child}
use Rattle.table.specs.Preparing.{Accepted, count_fault, table_fault, space_fault, call_fault, refusal, preparing}
use Rattle.table.proofs.Acceptance.{accepted-iff, count-iff}
use Rattle.table.proofs.Outcomes.{zero-iff}
use Rattle.renumbering.specs.Numbering.{Renumbered}
use Rattle.renumbering.specs.Statements.{Room, SameAcceptance}
use Rattle.renumbering.proofs.Numbers.{injective, same_test, new-old, old_below, way_back, word-new, flipped}
use Rattle.renumbering.proofs.Climbs.{new_in, climb-new}

-- the number of a refusal, 0 for none
abbrev number_of : Option Outcome → ℕ
number_of none = 0
number_of (some o) = o.number

-- refusals of one number, on both sides or on none, before others
or-number : (f : ℕ → Outcome) (k : ℕ) → ((v : ℕ) → (f v).number ≡ k) → (a b : Option ℕ) (x y : Option Outcome) → (a ≡ none) ↔ (b ≡ none) → number_of y ≡ number_of x
    → number_of (or_else (map f b) y) ≡ number_of (or_else (map f a) x)
unfolding or_else
or-number f k only none none x y h e = e
or-number f k only none (some w) x y h e = absurd (some-ne-none w (h.0 refl))
or-number f k only (some v) none x y h e = absurd (some-ne-none v (h.1 refl))
or-number f k only (some v) (some w) x y h e = only w ∙ sym (only v)

-- what 5 names; there is nothing to name where there is one top
second_top : ℕ → List ℕ → Option ℕ
second_top n [] = some n
second_top n (t ∷ []) = none
second_top n (t ∷ u ∷ l) = some u

tops-mapped : (n : ℕ) (l : List ℕ) → tops_fault n l ≡ map tops (second_top n l)
unfolding second_top
tops-mapped n [] = refl
tops-mapped n (t ∷ []) = refl
tops-mapped n (t ∷ u ∷ l) = refl

tops-one : (n : ℕ) (l : List ℕ) → second_top n l ≡ none → (t : ℕ) × (l ≡ t ∷ [])
unfolding second_top
tops-one n [] q = absurd (some-ne-none n q)
tops-one n (t ∷ []) q = (t, refl)
tops-one n (t ∷ u ∷ l) q = absurd (some-ne-none u q)

module _ (r : ℕ → ℕ) (ps qs : List ℕ) (e : Renumbered r ps qs) where
  -- the lowest entry that passes a test: there is one on both sides, or on none
  lowest-none : (f g : ℕ → Bool) → ((v : ℕ) → v < length ps → g (r v) ≡ f v) → (lowest ps f ≡ none) ↔ (lowest qs g ≡ none)
  lowest-none f g h = (
    λ q. none_first g (length qs) 0 (λ w a b.
        let k : way_back r ps qs e w < length ps = old_below (length ps) r e.numbers w (omega (arith, e.size)) in
        ap g (sym (new-old (length ps) r e.numbers w)) ∙ h (way_back r ps qs e w) k ∙ first-none f (length ps) 0 q (way_back r ps qs e w) (omega arith) (omega arith)),
    λ q. none_first f (length ps) 0 (λ v a b.
        let k : v < length ps = omega arith in
        sym (h v k) ∙ first-none g (length qs) 0 q (r v) (omega arith) (omega (arith, new_in r ps qs e v k))),
  )

  module _ (small : length ps ≤ top_mark) where
    mark-stays : r top_mark ≡ top_mark
    mark-stays = e.numbers.others top_mark small

    -- the top mark corresponds to the top mark, a stray word to a stray word
    marked-new : (v : ℕ) → eqb (word qs (r v)) top_mark ≡ eqb (word ps v) top_mark
    marked-new v = go (dec_lt v (length ps))
      where
        go : Dec (v < length ps) → eqb (word qs (r v)) top_mark ≡ eqb (word ps v) top_mark
        go (yes h) = ap (λ w. eqb w top_mark) (e.words v h) ∙ ap (eqb (r (word ps v))) (sym mark-stays) ∙ same_test (length ps) r e.numbers (word ps v) top_mark
        go (no h) = ap (λ w. eqb w top_mark) (get_or-eq_default qs 0 (omega (arith, e.size, e.numbers.others v (omega arith))) ∙ sym (get_or-eq_default ps 0 (omega arith)))

    below_new : (x : ℕ) → ltb (r x) (length qs) ≡ ltb x (length ps)
    below_new x = go (dec_lt x (length ps))
      where
        go : Dec (x < length ps) → ltb (r x) (length qs) ≡ ltb x (length ps)
        go (yes h) = lt-ltb (r x) (length qs) (new_in r ps qs e x h) ∙ sym (lt-ltb x (length ps) h)
        go (no h) = le-ltb (r x) (length qs) (omega (arith, e.size, e.numbers.others x (omega arith))) ∙ sym (le-ltb x (length ps) (omega arith))

    stray-new : (v : ℕ) → v < length ps → is_stray qs (r v) ≡ is_stray ps v
    unfolding is_stray
    stray-new v h = ap (λ b. not (b || ltb (word qs (r v)) (length qs))) (marked-new v) ∙ ap (λ b. not (eqb (word ps v) top_mark || b)) (ap (λ w. ltb w (length qs)) (e.words v h) ∙ below_new (word ps v))

    meets-new : (v : ℕ) → meets_top qs (r v) ≡ meets_top ps v
    unfolding meets_top
    meets-new v = ap (some? (λ u. eqb (word qs u) top_mark)) (climb-new r ps qs e v) ∙ some-map r (λ u. eqb (word ps u) top_mark) (λ u. eqb (word qs u) top_mark) marked-new _

    -- one top on this side is one top on the other
    only-top : (t : ℕ) → children ps top_mark ≡ t ∷ [] → (m : ℕ) → m < length qs → word qs m ≡ top_mark → m ≡ r t
    unfolding times
    only-top t alone m b marked =
        let v : ℕ = way_back r ps qs e m in
        let (h, q) = word-new r ps qs e m b in
        let w : word ps v ≡ top_mark = injective (length ps) r e.numbers (word ps v) top_mark (sym q ∙ marked ∙ sym mark-stays) in
        sym (new-old (length ps) r e.numbers m) ∙ ap r (go v (sym (ap (times v) alone) ∙ ap (λ x. times v (children ps x)) (sym w) ∙ of-child ps small v h) (ℕ_discrete v t))
      where
        go : (v : ℕ) → times v (t ∷ []) ≡ 1 → Dec (v ≡ t) → v ≡ t
        go v k (yes q) = q
        go v k (no q) = absurd (omega (arith, times-other v t [] q))

    one-top : (t : ℕ) → children ps top_mark ≡ t ∷ [] → children qs top_mark ≡ r t ∷ []
    unfolding times
    one-top t alone =
        let (h, w) = child-of ps small top_mark t (omega (arith, ap (times t) alone, times-same t t [] refl)) in
        places-one qs 0 top_mark (r t) (new_in r ps qs e t h) (e.words t h ∙ ap r w ∙ mark-stays) (λ m b other marked. other (only-top t alone m b marked))
        ∙ ap (λ x. x ∷ []) (zero-add (r t))

    tops-new : second_top (length ps) (children ps top_mark) ≡ none → second_top (length qs) (children qs top_mark) ≡ none
    unfolding second_top
    tops-new q = let (t, alone) = tops-one (length ps) (children ps top_mark) q in ap (second_top (length qs)) (one-top t alone)

-- so the first fault of the lists has the same number
or-none : (o : Option Outcome) → o ≡ or_else o none
unfolding or_else
or-none none = refl
or-none (some o) = refl

list-faults : (ps : List ℕ)
    → list_fault ps ≡ or_else (map stray (lowest ps (is_stray ps))) (or_else (map tops (second_top (length ps) (children ps top_mark))) (or_else (map loop (lowest ps (λ v. not (meets_top ps v)))) none))
unfolding list_fault
list-faults ps = ap (λ o. or_else (stray_fault ps) (or_else o (loop_fault ps))) (tops-mapped (length ps) (children ps top_mark)) ∙ ap (λ o. or_else (stray_fault ps) (or_else (map tops (second_top (length ps) (children ps top_mark))) o)) (or-none (loop_fault ps))

fault-number : (r : ℕ → ℕ) (ps qs : List ℕ) → Renumbered r ps qs → length ps ≤ top_mark → number_of (list_fault qs) ≡ number_of (list_fault ps)
fault-number r ps qs e small =
    ap number_of (list-faults qs)
    ∙ or-number stray 4 (λ v. refl) (lowest ps (is_stray ps)) (lowest qs (is_stray qs)) _ _ (lowest-none r ps qs e (is_stray ps) (is_stray qs) (stray-new r ps qs e small))
    (or-number tops 5 (λ v. refl) (second_top (length ps) (children ps top_mark)) (second_top (length qs) (children qs top_mark)) _ _
    (tops-new r ps qs e small, tops-new (way_back r ps qs e) qs ps (flipped r ps qs e) (omega (arith, e.size)))
    (or-number loop 6 (λ v. refl) (lowest ps (λ v. not (meets_top ps v))) (lowest qs (λ v. not (meets_top qs v))) none none
    (lowest-none r ps qs e (λ v. not (meets_top ps v)) (λ v. not (meets_top qs v)) (λ v h. ap not (meets-new r ps qs e small v))) refl))
    ∙ ap number_of (sym (list-faults ps))

-- with table and space long enough, only the count and the list's faults are left
room-refusal : (ps : List ℕ) (t s : ℕ) → Room (length ps) t s → refusal ps t s ≡ or_else (count_fault (length ps)) (list_fault ps)
unfolding refusal call_fault table_fault space_fault or_else
room-refusal ps t s room = rw (le-ltb t (table_words (length ps)) room.words, le-ltb s (space_words (length ps)) room.working) (go (count_fault (length ps)))
  where
    go : (c : Option Outcome) → or_else (or_else c none) (list_fault ps) ≡ or_else c (list_fault ps)
    go none = refl
    go (some o) = refl

answer-number : (o : Option Outcome) (w : ℕ) → (Option-elim o (accepted w) (λ x. x)).number ≡ number_of o
unfolding Option-elim
answer-number none w = refl
answer-number (some o) w = refl

module _ (r : ℕ → ℕ) (ps qs : List ℕ) (e : Renumbered r ps qs) where
  counted-number : (c : Option Outcome) → count_fault (length ps) ≡ c → number_of (or_else c (list_fault qs)) ≡ number_of (or_else c (list_fault ps))
  unfolding or_else
  counted-number none q = fault-number r ps qs e (let (one, most) = (count-iff (length ps)).0 q in omega arith)
  counted-number (some o) q = refl

  preparing-number : (t s u w : ℕ) → Room (length ps) t s → Room (length ps) u w → (preparing qs u w).number ≡ (preparing ps t s).number
  unfolding preparing
  preparing-number t s u w here there =
      answer-number (refusal qs u w) (table_words (length qs))
      ∙ ap number_of (room-refusal qs u w (subst (λ n. Room n u w) (sym e.size) there) ∙ ap (λ n. or_else (count_fault n) (list_fault qs)) e.size)
      ∙ counted-number (count_fault (length ps)) refl
      ∙ ap number_of (sym (room-refusal ps t s here))
      ∙ sym (answer-number (refusal ps t s) (table_words (length ps)))

  pub accepted-new : Accepted ps → Accepted qs
  accepted-new a =
      let n = length ps in
      let (one, most, tree) = (accepted-iff ps).0 a in
      let room : Room n (table_words n) (space_words n) = record { words = omega arith; working = omega arith } in
      let here = (zero-iff ps (table_words n) (space_words n)).1 (one, most, tree, room.words, room.working) in
      let (first, few, other, words, working) = (zero-iff qs (table_words n) (space_words n)).0 (preparing-number (table_words n) (space_words n) (table_words n) (space_words n) room room ∙ here) in
      (accepted-iff qs).1 (first, few, other)

pub acceptance : (r : ℕ → ℕ) (ps qs : List ℕ) → Renumbered r ps qs → SameAcceptance ps qs
acceptance r ps qs e = record {
  accepted = (accepted-new r ps qs e, accepted-new (way_back r ps qs e) qs ps (flipped r ps qs e));
  number = preparing-number r ps qs e;
}
