-- A shape's own parent list forms one tree, and a climb in it lowers the local number: so a row of the shape table has all that climbs reach. Assumes nothing.
use mathlib.Core.Path.{◌≡◌, refl, sym, ap, ◌∙◌}
use mathlib.Core.Logic.{◌⊎◌, inl, inr}
use mathlib.Core.List.{List, [], ◌∷◌}
use mathlib.Core.Option.{Option, none, some, bind-eq-some_iff, Option-elim}
use Prim.Native.Nat.{ℕ, zero, suc, ◌+◌, ◌≤◌, ◌<◌}
use native.Mathlib.Omega.{arith}
use native.Mathlib.Nat.{not-suc-le-zero}
use native.Mathlib.Decide.{ℕ_discrete, dec_lt}
use lib.ListN.{length, get_or, get_elem?, drop, get_or-eq_default}
use Rattle.base.specs.Lists.{below}
use Rattle.base.proofs.Lists.{below_at, each-length, each_same}
use Rattle.base.specs.Limits.{top_mark}
use Rattle.tree.specs.Parents.{word}
use Rattle.tree.specs.Parents.{up as climb_up}
use Rattle.tree.specs.Faults.{Tree}
use Rattle.tree.proofs.Climbs.{parent_in, parent-some, up_step, up_first, up_from, entry_in, entry-some}
use Rattle.shapes.specs.Walks.{down, up, Walk, shapes}
use Rattle.shapes.specs.Climbs.{parents, parent_list, reached, local_depth, climbs_out, mark, row_of}
use Rattle.shapes.proofs.Sizes.{shape-fits}

-- the local numbers on a path are below m
abbrev Low : ℕ → List ℕ → Type 0
Low m path = (i : ℕ) → get_or path i 0 < m

low-drop : (m : ℕ) (path : List ℕ) → Low m path → Low m (drop 1 path)
low-drop m [] h i = h i
low-drop m (x ∷ path) h i = h (suc i)

low-push : (m : ℕ) (path : List ℕ) → Low m path → Low (suc m) (m ∷ path)
low-push m path h zero = omega arith
low-push m path h (suc i) = omega (arith, h i)

-- a parent's local number is lower
parents-low : (w : Walk) (path : List ℕ) (m : ℕ) → Low m path → (i : ℕ) → i < length (parents w path m) → get_or (parents w path m) i 0 < m + i
parents-low [] path m h i b = absurd (not-suc-le-zero b)
parents-low (down ∷ w) path m h zero b = omega (arith, h 0)
parents-low (down ∷ w) path m h (suc i) b = omega (arith, parents-low w (m ∷ path) (suc m) (low-push m path h) i (omega arith))
parents-low (up ∷ w) path m h i b = parents-low w (drop 1 path) m (low-drop m path h) i b

low-start : Low 1 (0 ∷ [])
low-start zero = omega arith
low-start (suc i) = omega arith

module _ (w : Walk) where
  pub word_low : (v : ℕ) → v < length (parent_list w) → (v ≡ 0 → ⊥) → word (parent_list w) v < v
  unfolding parent_list
  word_low zero h n = absurd (n refl)
  word_low (suc i) h n = omega (arith, parents-low w (0 ∷ []) 1 low-start i (omega arith))

  root_is : get_elem? (parent_list w) 0 ≡ some top_mark
  unfolding parent_list
  root_is = refl

  pub root-word : word (parent_list w) 0 ≡ top_mark
  unfolding parent_list
  root-word = refl

  to-root : (m v : ℕ) → v < m → v < length (parent_list w) → (k : ℕ) × (climb_up (parent_list w) k v ≡ some 0)
  unfolding climb_up
  to-root zero v h b = absurd (not-suc-le-zero h)
  to-root (suc m) v h b = go (ℕ_discrete v 0) (to-root m (word (parent_list w) v))
    where
      go : Dec (v ≡ 0) → (word (parent_list w) v < m → word (parent_list w) v < length (parent_list w) → (k : ℕ) × (climb_up (parent_list w) k (word (parent_list w) v) ≡ some 0))
          → (k : ℕ) × (climb_up (parent_list w) k v ≡ some 0)
      go (yes z) ih = (0, entry_in (parent_list w) v b ∙ ap some z)
      go (no z) ih =
          let p = word_low v b z in
          let r = ih (omega arith) (omega arith) in
          (suc r.0, up_step (parent_list w) r.0 v (word (parent_list w) v) (parent_in (parent_list w) v b (omega arith)) ∙ r.1)

  pub shape-tree : Tree (parent_list w)
  shape-tree = record {
    root = 0;
    marked = root_is;
    others = λ v h n. omega (arith, word_low v h n);
    climbs = λ v h. to-root (suc v) v (omega arith) h;
  }

-- a climb lowers the local number
climb-low : (w : Walk) → length (parent_list w) ≤ top_mark → (k l i : ℕ) → climb_up (parent_list w) k l ≡ some i → k + i ≤ l
unfolding climb_up
climb-low w small zero l i e = omega (arith, (entry-some (parent_list w) l i e).0)
climb-low w small (suc k) l i e =
    let (p, q, r) = up_first (parent_list w) k l i e in
    let o = parent-some (parent_list w) l p q in
    let z : l ≡ 0 → ⊥ = λ z. omega (arith, o.1, o.2, ap (word (parent_list w)) z, root-word w) in
    omega (arith, climb-low w small k p i r, o.2, word_low w l o.0 z)

within : (L : ℕ) → L ≤ 255 → (s l k i : ℕ) → reached L s l k ≡ some i → (l < L) × (k ≤ l)
unfolding reached
within L small s l k i e =
    let t = (bind-eq-some_iff (get_elem? (shapes L) s) (λ w. climb_up (parent_list w) k l)).0 e in
    let b = shape-fits L s t.0 t.1 in
    (omega (arith, up_from (parent_list t.0) k l i t.2), omega (arith, climb-low t.0 (omega arith) k l i t.2))

-- so L climbs, or a local number from L on, reach nothing
pub reached-past : (L : ℕ) → L ≤ 255 → (s l k : ℕ) → (L ≤ l) ⊎ (L ≤ k) → reached L s l k ≡ none
reached-past L small s l k h = go (reached L s l k) refl h
  where
    go : (o : Option ℕ) → reached L s l k ≡ o → (L ≤ l) ⊎ (L ≤ k) → o ≡ none
    go none e h = refl
    go (some i) e h = absurd (let r = within L small s l k i e in bad h r.0 r.1)
      where
        bad : (L ≤ l) ⊎ (L ≤ k) → l < L → k ≤ l → ⊥
        bad (inl a) b c = omega arith
        bad (inr a) b c = omega arith

-- the cell of a row at any number of climbs, 255 past its end
pub row_at : (L : ℕ) → L ≤ 255 → (s l k : ℕ) → get_or (row_of L s l) k 255 ≡ mark (reached L s l k)
unfolding row_of
row_at L small s l k = go (dec_lt k L)
  where
    go : Dec (k < L) → get_or (row_of L s l) k 255 ≡ mark (reached L s l k)
    go (yes h) = below_at L (λ j. mark (reached L s l j)) 255 k h
    go (no h) =
        get_or-eq_default (row_of L s l) 255 (omega (arith, each-length L 0 (λ j. mark (reached L s l j))))
        ∙ sym (ap mark (reached-past L small s l k (inr (omega arith))))

-- a local number from L on has only 255
pub row-past : (L : ℕ) → L ≤ 255 → (s l : ℕ) → L ≤ l → row_of L s l ≡ below L (λ k. 255)
unfolding row_of
row-past L small s l h = each_same L 0 (λ k. mark (reached L s l k)) (λ k. 255) (λ k. ap mark (reached-past L small s l k (inl h)))

-- nothing leads out from a local number that is not there
pub none_out : (L s l : ℕ) → reached L s l 0 ≡ none → climbs_out L s l ≡ 0
unfolding climbs_out Option-elim
none_out L s l e = ap (λ (o : Option ℕ). Option-elim o 0 (λ j. suc (local_depth L s l))) e

pub out-past : (L : ℕ) → L ≤ 255 → (s l : ℕ) → L ≤ l → climbs_out L s l ≡ 0
out-past L small s l h = none_out L s l (reached-past L small s l 0 (inl h))
