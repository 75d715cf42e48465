-- Words written one after another: at the places of an array, and at the cells of the entries in preorder. Assumes nothing.
use mathlib.Core.Path.{◌≡◌, sym, ap, ◌∙◌}
use mathlib.Core.List.{List}
use Prim.Native.Nat.{ℕ, ◌+◌, ◌≤◌, ◌<◌}
use native.Mathlib.Omega.{arith}
use borrow.Author.Count.{below_more}
use lib.ListN.{length, get_or, set, length-set}
use lib.Seq.{get_or-set_same, get_or-set_other, ext_get_or}
use Rattle.base.specs.Lists.{below}
use Rattle.base.proofs.Lists.{below_at, each-length}
use Rattle.tree.specs.Forest.{position}
use Rattle.prepare.specs.Arrays.{OneTree, entry_at}
use Rattle.prepare.proofs.Preorder.{located-at, located-of}

-- the first i words of an array are those of g
abbrev pub Ran : (ℕ → ℕ) → ℕ → List ℕ → Type 0
Ran g i cells = (k : ℕ) → k < i → get_or cells k 0 ≡ g k

pub ran-more : (g : ℕ → ℕ) (i : ℕ) (cells : List ℕ) (x : ℕ) → i < length cells → x ≡ g i → Ran g i cells → Ran g (i + 1) (set cells i x)
ran-more g i cells x h e r =
    let before : (k : ℕ) → k < i → get_or (set cells i x) k 0 ≡ g k = λ k l. get_or-set_other cells i k x 0 (λ q. omega arith) ∙ r k l in
    below_more _ i before (get_or-set_same cells i x 0 h ∙ e)

-- the cells of the entries at the first i positions hold the words of g
pub record Written (ps : List ℕ) (g : ℕ → ℕ) (i : ℕ) (cells : List ℕ) : Type 0 where
  pub room : length cells ≡ length ps
  pub words : (k : ℕ) → k < i → get_or cells (entry_at ps k) 0 ≡ g k

pub written_none : (ps : List ℕ) (g : ℕ → ℕ) (cells : List ℕ) → length cells ≡ length ps → Written ps g 0 cells
written_none ps g cells e = record { room = e; words = λ k h. absurd (omega arith) }

module _ {ps : List ℕ} (t : OneTree ps) {g : ℕ → ℕ} {i : ℕ} {cells : List ℕ} (w : Written ps g i cells) where
  -- one position further
  module _ (h : i < length ps) (v : ℕ) (e : v ≡ entry_at ps i) where
    pub written-room : v < length cells
    written-room = omega (arith, e, w.room, (located-at t i h).inside)

    pub written-more : (x : ℕ) → x ≡ g i → Written ps g (i + 1) (set cells v x)
    written-more x q =
        let other : (k : ℕ) → k < i → entry_at ps k ≡ v → ⊥ = λ k l z. omega (arith, ap (position ps) (z ∙ e), (located-at t k (omega arith)).place, (located-at t i h).place) in
        let here : get_or (set cells v x) (entry_at ps i) 0 ≡ g i = ap (λ u. get_or (set cells v x) u 0) (sym e) ∙ get_or-set_same cells v x 0 written-room ∙ q in
        record { room = length-set cells v x ∙ w.room; words = below_more _ i (λ k l. get_or-set_other cells v (entry_at ps k) x 0 (other k l) ∙ w.words k l) here }

  -- once all are written, the section is the one by entry
  pub written_all : length ps ≤ i → (f : ℕ → ℕ) → ((v : ℕ) → v < length ps → g (position ps v) ≡ f v) → cells ≡ below (length ps) f
  written_all all f same =
      ext_get_or 0 cells (below (length ps) f) (w.room ∙ sym (each-length (length ps) 0 f)) (λ v h.
      let b : v < length ps = omega (arith, w.room) in
      let there = located-of t v b in
      sym (ap (λ u. get_or cells u 0) there.entry) ∙ w.words (position ps v) (omega (arith, there.low)) ∙ same v b ∙ sym (below_at (length ps) f 0 v b))
