-- The walk's state: what is written, and what the pending chains will give. Assumes nothing.
use mathlib.Core.Path.{◌≡◌, refl, ap}
use mathlib.Core.List.{List, [], ◌∷◌, ◌++◌, append_assoc, append-nil}
use Prim.Native.Nat.{ℕ, zero, suc, ◌+◌, ◌-◌, ◌≤◌, ◌<◌}
use native.Mathlib.Omega.{arith}
use lib.ListN.{length, get_or, set, length-append}
use Rattle.base.specs.Lists.{view}
use Rattle.base.specs.Limits.{top_mark}
use Rattle.tree.specs.Parents.{word, children}
use Rattle.tree.specs.Forest.{Forest, empty, node, plant, grow, preorder, levels, whole, order}
use Rattle.tree.proofs.Preorders.{whole-more}
use Rattle.tree.proofs.Forests.{order-short}
use Rattle.judge.specs.Regions.{after, first_of, Linked}
use Rattle.judge.proofs.link.Chains.{sibs, sibs-in, sibs-out, sibs-from}
use Rattle.base.proofs.Views.{view-length, view-more, view-push}

-- the forest of a chain with d chains pending behind it: it hangs that deep
abbrev hangs : List ℕ → ℕ → ℕ → Forest
hangs ps d c = grow ps (suc (length ps) - d) (sibs ps c)

-- the preorders of the chains of a stack, one after another, and their depths
abbrev pend : List ℕ → List ℕ → List ℕ
pend ps [] = []
pend ps (c ∷ st) = preorder (hangs ps (length st) c) ++ pend ps st

abbrev deeps : List ℕ → List ℕ → List ℕ
deeps ps [] = []
deeps ps (c ∷ st) = levels (length st) (hangs ps (length st) c) ++ deeps ps st

-- `out` is written with its depths, and the chains in `st` are pending
pub record Walked (ps out deep st : List ℕ) : Type 0 where
  pub entries : out ++ pend ps st ≡ order ps
  pub depths : deep ++ deeps ps st ≡ levels 0 (whole ps)

-- the forests of no entries, and of an entry with its later siblings
grow-none : (ps : List ℕ) (k : ℕ) → grow ps k [] ≡ empty
unfolding grow plant
grow-none ps zero = refl
grow-none ps (suc k) = refl

grow-cons : (ps : List ℕ) (k v : ℕ) (vs : List ℕ) → grow ps (suc k) (v ∷ vs) ≡ node v (grow ps k (children ps v)) (grow ps (suc k) vs)
unfolding grow plant
grow-cons ps k v vs = refl

module _ (ps : List ℕ) (small : length ps ≤ top_mark) where
  pub walk_start : (f : ℕ) → f ≡ first_of (children ps top_mark) → Walked ps [] [] (f ∷ [])
  walk_start f e =
      let k : suc (length ps) - 0 ≡ suc (length ps) = omega arith in
      let w : hangs ps 0 f ≡ whole ps = rw (k, e, sibs-from ps top_mark small (length ps) 0 (omega arith)) (whole-more ps small) in
      record { entries = rw (append-nil, w); depths = rw (append-nil, w) }

  pub walk-skip : (out deep st : List ℕ) (c : ℕ) → length ps ≤ c → Walked ps out deep (c ∷ st) → Walked ps out deep st
  unfolding preorder levels
  walk-skip out deep st c h w =
      let z : hangs ps (length st) c ≡ empty = rw (sibs-out ps c h) (grow-none ps (suc (length ps) - length st)) in
      record { entries = rw z at w.entries; depths = rw z at w.depths }

  pub walk_end : (out deep : List ℕ) → Walked ps out deep [] → (out ≡ order ps) × (deep ≡ levels 0 (whole ps))
  walk_end out deep w = (rw append-nil at w.entries, rw append-nil at w.depths)

  pub walk-fits : (out deep st : List ℕ) → Walked ps out deep st → length out ≤ length ps
  walk-fits out deep st w = omega (arith, simp length-append at (ap length w.entries), order-short ps small)

  module _ (head next : List ℕ) (f : ℕ) (l : Linked ps 0 head next f) where
    -- an entry's chain is the entry, the chain of its children and the chain of its later siblings
    grow-sibs : (k c : ℕ) → c < length ps → grow ps (suc k) (sibs ps c) ≡ node c (grow ps k (sibs ps (get_or head c 0))) (grow ps (suc k) (sibs ps (get_or next c 0)))
    grow-sibs k c h =
        rw (sibs-in ps c h, grow-cons ps k c (after ps c), l.heads c h, l.nexts c (omega arith) h, sibs-from ps c small (length ps) 0 (omega arith), sibs-from ps (word ps c) small (length ps - suc c) (suc c) (omega arith))

    module _ (out deep st : List ℕ) (c : ℕ) (h : c < length ps) (s : length st ≤ length out) (w : Walked ps out deep (c ∷ st)) where
      pub walk-emit : Walked ps (out ++ c ∷ []) (deep ++ length st ∷ []) (get_or head c 0 ∷ get_or next c 0 ∷ st)
      unfolding preorder levels
      walk-emit =
          let k : suc (length ps) - length st ≡ suc (length ps - length st) = omega (arith, walk-fits out deep (c ∷ st) w) in
          let j : suc (length ps) - suc (length st) ≡ length ps - length st = omega arith in
          record {
            entries = rw (j, k) (simp append_assoc (simp (k, grow-sibs (length ps - length st) c h, append_assoc) at w.entries));
            depths = rw (j, k) (simp append_assoc (simp (k, grow-sibs (length ps - length st) c h, append_assoc) at w.depths));
          }

      -- and so there is room for it
      pub walk-room : length out < length ps
      walk-room = omega (arith, walk-fits (out ++ c ∷ []) (deep ++ length st ∷ []) (get_or head c 0 ∷ get_or next c 0 ∷ st) walk-emit, length-append out (c ∷ []))

-- the same in the regions: a word of the preorder, its depth, and the entry's later siblings are stored
module _ (ps order depths pending head next : List ℕ) (small : length ps ≤ top_mark) (lo : length order ≡ length ps) (ld : length depths ≡ length ps) (lp : length pending ≡ length ps)
    (f : ℕ) (l : Linked ps 0 head next f) (count sp c : ℕ) (h : c < length ps) (t : sp ≤ length ps) (d : length ps ≤ sp + count) (e : count ≤ length ps)
    (w : Walked ps (view 0 count order) (view 0 count depths) (c ∷ view sp (length ps - sp) pending)) where
  few : length (view sp (length ps - sp) pending) ≤ length (view 0 count order)
  few = omega (arith, view-length sp (length ps - sp) pending (omega arith), view-length 0 count order (omega arith))

  pub room_in : count < length ps
  room_in =
      omega (arith, walk-room ps small head next f l (view 0 count order) (view 0 count depths) (view sp (length ps - sp) pending) c h few w, view-length 0 count order (omega arith))

  pub emit-in : (j deep : ℕ) → deep ≡ length ps - sp → suc j ≡ sp
      → Walked ps (view 0 (count + 1) (set order count c)) (view 0 (count + 1) (set depths count deep)) (get_or head c 0 ∷ view j (length ps - j) (set pending j (get_or next c 0)))
  emit-in j deep ed ej =
      let r = room_in in
      let ed2 : deep ≡ length (view sp (length ps - sp) pending) = omega (arith, view-length sp (length ps - sp) pending (omega arith)) in
      rw (
        view-more 0 count order count c (omega arith) (omega arith),
        view-more 0 count depths count deep (omega arith) (omega arith),
        view-push j sp (length ps) pending (get_or next c 0) ej t (omega arith),
        ed2,
      )
      (walk-emit ps small head next f l (view 0 count order) (view 0 count depths) (view sp (length ps - sp) pending) c h few w)
