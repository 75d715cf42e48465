-- A climb in a shape ends at a local number below the group limit. Assumes nothing.
use mathlib.Core.Path.{◌≡◌, refl, ap}
use mathlib.Core.List.{List, [], ◌∷◌, map}
use mathlib.Core.Option.{some, bind-eq-some_iff}
use Prim.Native.Nat.{ℕ, zero, suc, ◌≤◌, ◌<◌}
use native.Mathlib.Omega.{arith}
use lib.ListN.{length, get_elem?, drop, replicate}
use Rattle.base.proofs.Lists.{All, all-at, all_append, all_from, all_map}
use Rattle.tree.specs.Parents.{up as climb_up}
use Rattle.tree.proofs.Climbs.{up_in}
use Rattle.shapes.specs.Walks.{down, up, Walk, after, walks, shapes}
use Rattle.shapes.specs.Climbs.{parents, parent_list, reached}

-- a walk has o downs: wherever it starts it gives o local numbers
abbrev pub Downs : ℕ → Walk → Type 0
Downs o w = (path : List ℕ) (m : ℕ) → length (parents w path m) ≡ o

-- a walk of ups has no down
ups : (c : ℕ) → Downs 0 (replicate c up)
ups zero path m = refl
ups (suc c) path m = ups c (drop 1 path) m

-- a down in front is one down more
one_more : (o : ℕ) (l : List Walk) → All (Downs o) l → All (Downs (suc o)) (map (◌∷◌ down) l)
one_more o l = all_map (Downs (suc o)) (Downs o) (◌∷◌ down) (λ w d path m. ap suc (d (m ∷ path) (suc m))) l

-- an up in front is no down more
no_more : (o : ℕ) (l : List Walk) → All (Downs o) l → All (Downs o) (map (◌∷◌ up) l)
no_more o l = all_map (Downs o) (Downs o) (◌∷◌ up) (λ w d path m. d (drop 1 path) m) l

-- the walks that go on from an entry have one down more than those of `fewer`
after-downs : (fewer : ℕ → List Walk) (o : ℕ) → ((c : ℕ) → All (Downs o) (fewer c)) → (c : ℕ) → All (Downs (suc o)) (after fewer c)
after-downs fewer o h zero = one_more o (fewer 1) (h 1)
after-downs fewer o h (suc c) =
    all_append (Downs (suc o)) (map (◌∷◌ down) (fewer (suc (suc c)))) (map (◌∷◌ up) (after fewer c))
    (one_more o (fewer (suc (suc c))) (h (suc (suc c))))
    (no_more (suc o) (after fewer c) (after-downs fewer o h c))

-- the walks with o downs to come have o downs
pub walks-downs : (o c : ℕ) → All (Downs o) (walks o c)
walks-downs zero c = (ups c, tt)
walks-downs (suc o) c = after-downs (walks o) o (walks-downs o) c

-- a shape has at most M local numbers
abbrev pub Fits : ℕ → Walk → Type 0
Fits M w = length (parent_list w) ≤ M

-- the shapes of up to L entries have at most L local numbers
pub shapes-fit : (M L : ℕ) → L ≤ M → All (Fits M) (shapes L)
unfolding parent_list
shapes-fit M zero h = tt
shapes-fit M (suc L) h =
    all_append (Fits M) (shapes L) (walks L 0) (shapes-fit M L (omega arith))
    (all_from (Fits M) (Downs L) (λ w d. omega (arith, d (0 ∷ []) 1)) (walks L 0) (walks-downs L 0))

-- shape s of the limit L has at most L local numbers
pub shape-fits : (L s : ℕ) (w : Walk) → get_elem? (shapes L) s ≡ some w → length (parent_list w) ≤ L
shape-fits L = all-at (Fits L) (shapes L) (shapes-fit L L (omega arith))

-- a local number that is reached is below the limit
pub reached-below : (L s l k j : ℕ) → reached L s l k ≡ some j → j < L
unfolding reached
reached-below L s l k j e =
    let t = (bind-eq-some_iff (get_elem? (shapes L) s) (λ w. climb_up (parent_list w) k l)).0 e in
    omega (arith, up_in (parent_list t.0) k l j t.2, shape-fits L s t.0 t.1)
