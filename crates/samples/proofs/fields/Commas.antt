-- The laws of a search for commas, and a text cut at its first. Assumes nothing.
use Rattle.std.proofs.Common.{◌≡◌, ℕ, zero, suc, ◌+◌, ◌-◌, ◌<◌, ◌≤◌, Bool, true, false, cond, eqb, List, [], ◌∷◌, ◌++◌, length, get_or, take, drop, sym, refl, ap, ◌∙◌, not-suc-le-zero, add-one, arith, length-append, length-drop, drop_of_length-le, drop-cons, take_at, eq-eqb, ne_eqb}
use Rattle.samples.specs.Fields.{behind_commas, to_comma}

comma : (k x : ℕ) (l : List ℕ) → 0 < k → x ≡ 44 → behind_commas k (x ∷ l) ≡ behind_commas (k - 1) l
unfolding behind_commas
comma zero x l h e = absurd (not-suc-le-zero h)
comma (suc k) x l h e =
    let n : suc k - 1 ≡ k = omega arith in
    rw (eq-eqb x 44 e, n)

other : (k x : ℕ) (l : List ℕ) → 0 < k → (x ≡ 44 → ⊥) → behind_commas k (x ∷ l) ≡ behind_commas k l
unfolding behind_commas
other zero x l h e = absurd (not-suc-le-zero h)
other (suc k) x l h e = rw (ne_eqb x 44 e)

-- k commas are left to pass from place i on: one turn, and the end
module _ (l : List ℕ) (i k : ℕ) where
  module _ (h : i < length l) (some : 0 < k) where
    pub past-comma : get_or l i 0 ≡ 44 → behind_commas (k - 1) (drop (i + 1) l) ≡ behind_commas k (drop i l)
    past-comma e = rw (add-one, drop-cons l i 0) (sym (comma k (get_or l i 0) (drop (suc i) l) some e))

    pub past-other : (get_or l i 0 ≡ 44 → ⊥) → behind_commas k (drop (i + 1) l) ≡ behind_commas k (drop i l)
    past-other e = rw (add-one, drop-cons l i 0) (sym (other k (get_or l i 0) (drop (suc i) l) some e))

  pub at-end : length l ≤ i → drop i l ≡ behind_commas k (drop i l)
  unfolding behind_commas
  at-end h = rw (drop_of_length-le l {i = i} h) (go k)
    where
      go : (k : ℕ) → [] ≡ behind_commas k []
      go zero = refl
      go (suc k) = refl

-- a text is what stands up to its first comma, and what stands behind it
cut : (l : List ℕ) → to_comma l ++ behind_commas 1 l ≡ l
unfolding behind_commas to_comma
cut [] = refl
cut (x ∷ l) = ap (◌∷◌ x) (go (eqb x 44) (cut l))
  where
    go : (t : Bool) → to_comma l ++ behind_commas 1 l ≡ l → cond t [] (to_comma l) ++ cond t l (behind_commas 1 l) ≡ l
    go true e = refl
    go false e = e

-- so its part up to there is the first field
pub field_is : (l : List ℕ) (from to : ℕ) → from ≤ to → to ≤ length l → drop to l ≡ behind_commas 1 (drop from l) → take (to - from) (drop from l) ≡ to_comma (drop from l)
field_is l from to low high e =
    let f = drop from l in
    let n : length (to_comma f) ≡ to - from =
    omega (arith, length-append (to_comma f) (behind_commas 1 f), ap length (cut f), ap length e, length-drop from l, length-drop to l) in
    ap (take (to - from)) (sym (cut f)) ∙ take_at (to_comma f) (behind_commas 1 f) (to - from) n
