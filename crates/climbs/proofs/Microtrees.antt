-- Microtrees of 003, section 4.2: the climb in a group's shape is the climb in the tree. Assumes nothing.
use mathlib.Core.Path.{◌≡◌, refl, sym, ap, ◌∙◌}
use mathlib.Core.List.{List, [], ◌∷◌, ◌++◌, append_assoc, append-nil}
use mathlib.Core.Option.{some, bind, Option-elim}
use Prim.Native.Nat.{ℕ, zero, suc, ◌+◌, ◌-◌, ◌≤◌, ◌<◌}
use native.Mathlib.Omega.{arith}
use native.Mathlib.Nat.{add-zero, not-suc-le-zero}
use native.Mathlib.Decide.{dec_lt}
use lib.ListN.{length, get_or, length-append, get_or-append}
use lib.Seq.{get_or-append-add}
use Rattle.base.proofs.Counts.{times}
use Rattle.base.proofs.Places.{times-same}
use Rattle.base.specs.Limits.{top_mark}
use Rattle.tree.specs.Parents.{word, parent, depth, children}
use Rattle.tree.specs.Parents.{up as climb_up}
use Rattle.tree.specs.Forest.{Forest, empty, node, plant, grow, preorder, forest_size, under, size, family, order, position}
use Rattle.tree.specs.Faults.{Tree}
use Rattle.tree.proofs.Climbs.{entry_in, entry-some, parent_in, parent-none, up_step}
use Rattle.tree.proofs.Depths.{depth-top, depth-parent, up_depth}
use Rattle.tree.proofs.Forests.{forest-length, child-of}
use Rattle.tree.proofs.Positions.{at_position, position-is}
use Rattle.tree.proofs.Intervals.{ancestor-in, family-room, family-at}
use Rattle.shapes.specs.Walks.{up, Walk, walk_round, shapes, shape_number}
use Rattle.shapes.specs.Climbs.{parents, parent_list, reached, local_depth}
use Rattle.shapes.proofs.Heights.{root-word, word_low, shape-tree}
use Rattle.shapes.proofs.Rank.{number_small, number-shape}
use Rattle.climbs.proofs.Groups.{Grouped}

-- for each entry of a forest, in preorder, the local number of its parent: q is that of the first level's, and m the next local number
fathers : ℕ → ℕ → Forest → List ℕ
fathers q m empty = []
fathers q m (node v b later) = q ∷ (fathers m (suc m) b ++ fathers q (suc m + forest_size b) later)

fathers-length : (f : Forest) (q m : ℕ) → length (fathers q m f) ≡ forest_size f
unfolding fathers forest_size
fathers-length empty q m = refl
fathers-length (node v b later) q m =
    omega (arith, length-append (fathers m (suc m) b) (fathers q (suc m + forest_size b) later), fathers-length b m (suc m), fathers-length later q (suc m + forest_size b))

-- they are the parents that the walk round the forest gives
walk-fathers : (f : Forest) (w : Walk) (q : ℕ) (path : List ℕ) (m : ℕ) → parents (walk_round f ++ w) (q ∷ path) m ≡ fathers q m f ++ parents w (q ∷ path) (m + forest_size f)
unfolding fathers forest_size walk_round
walk-fathers empty w q path m = rw add-zero
walk-fathers (node v b later) w q path m =
    let n = suc m + forest_size b in
    let z : m + (suc (forest_size b) + forest_size later) ≡ n + forest_size later = omega arith in
    rw (
      z,
      append_assoc (walk_round b) (up ∷ walk_round later) w,
      walk-fathers b (up ∷ (walk_round later ++ w)) m (q ∷ path) (suc m),
      walk-fathers later w q path n,
      append_assoc (fathers m (suc m) b) (fathers q n later) (parents w (q ∷ path) (n + forest_size later)),
    )

parent-list : (f : Forest) → parent_list (walk_round f) ≡ top_mark ∷ fathers 0 1 f
unfolding parent_list
parent-list f = ap (◌∷◌ top_mark) (simp append-nil at (walk-fathers f [] 0 [] 1))

-- a forest hangs under p: p is the parent of its first level, and each entry of those below it
abbrev Hangs : List ℕ → ℕ → Forest → Type 0
Hangs ps p empty = Unit
Hangs ps p (node v b later) = (parent ps v ≡ some p) × Hangs ps v b × Hangs ps p later

plant-hangs : (ps : List ℕ) (f : ℕ → Forest) (p : ℕ) (vs : List ℕ) → ((c : ℕ) → 1 ≤ times c vs → (parent ps c ≡ some p) × Hangs ps c (f c)) → Hangs ps p (plant f vs)
unfolding plant times
plant-hangs ps f p [] h = tt
plant-hangs ps f p (v ∷ vs) h =
    let (a, b) = h v (omega (arith, times-same v v vs refl)) in
    (a, b, plant-hangs ps f p vs (λ c k. h c (omega arith)))

grown-hangs : (ps : List ℕ) → length ps ≤ top_mark → (k p : ℕ) → p < length ps → Hangs ps p (grow ps k (children ps p))
unfolding grow
grown-hangs ps small zero p h = tt
grown-hangs ps small (suc k) p h =
    plant-hangs ps (λ c. grow ps k (children ps c)) p (children ps p)
    (λ c i. let (hc, w) = child-of ps small p c i in (parent_in ps c hc (omega arith) ∙ ap some w, grown-hangs ps small k c hc))

-- X gives the entries of a forest by their local numbers, from m on
abbrev Gives : (ℕ → ℕ) → Forest → ℕ → Type 0
Gives X f m = (i : ℕ) → i < forest_size f → X (m + i) ≡ get_or (preorder f) i 0

module _ (X : ℕ → ℕ) (v : ℕ) (b later : Forest) (m : ℕ) (x : Gives X (node v b later) m) where
  gives-first : X m ≡ v
  unfolding forest_size preorder
  gives-first = rw add-zero at (x 0 (omega arith))

  gives-below : Gives X b (suc m)
  unfolding forest_size preorder
  gives-below i h =
      let z : m + suc i ≡ suc m + i = omega arith in
      (rw z at (x (suc i) (omega arith))) ∙ get_or-append (preorder b) (preorder later) 0 i (omega (arith, forest-length b))

  gives-later : Gives X later (suc m + forest_size b)
  unfolding forest_size preorder
  gives-later i h =
      let z : m + suc (length (preorder b) + i) ≡ suc m + forest_size b + i = omega (arith, forest-length b) in
      (rw z at (x (suc (length (preorder b) + i)) (omega (arith, forest-length b)))) ∙ get_or-append-add (preorder b) (preorder later) i 0

-- then the fathers give the parents, where q gives the parent p of the first level
fathers-at : (ps : List ℕ) (X : ℕ → ℕ) (f : Forest) (p q m : ℕ) → Hangs ps p f → X q ≡ p → Gives X f m → (i : ℕ) → i < forest_size f → parent ps (X (m + i)) ≡ some (X (get_or (fathers q m f) i 0))
unfolding fathers forest_size
fathers-at ps X empty p q m h e x i k = absurd (not-suc-le-zero k)
fathers-at ps X (node v b later) p q m h e x zero k = rw (add-zero, gives-first X v b later m x, e) h.0
fathers-at ps X (node v b later) p q m h e x (suc i) k =
    go (dec_lt i (forest_size b)) (fathers-at ps X b v m (suc m) h.1 (gives-first X v b later m x) (gives-below X v b later m x) i) (fathers-at ps X later p q n h.2 e (gives-later X v b later m x) (i - forest_size b))
  where
    n : ℕ
    n = suc m + forest_size b

    go : Dec (i < forest_size b) → (i < forest_size b → parent ps (X (suc m + i)) ≡ some (X (get_or (fathers m (suc m) b) i 0)))
        → (i - forest_size b < forest_size later → parent ps (X (n + (i - forest_size b))) ≡ some (X (get_or (fathers q n later) (i - forest_size b) 0)))
        → parent ps (X (m + suc i)) ≡ some (X (get_or (fathers m (suc m) b ++ fathers q n later) i 0))
    go (yes c) inner next =
        let z : m + suc i ≡ suc m + i = omega arith in
        rw (z, get_or-append (fathers m (suc m) b) (fathers q n later) 0 i (omega (arith, fathers-length b m (suc m)))) (inner c)
    go (no c) inner next =
        let z : m + suc i ≡ n + (i - forest_size b) = omega arith in
        let y : length (fathers m (suc m) b) + (i - forest_size b) ≡ i = omega (arith, fathers-length b m (suc m)) in
        rw z (next (omega arith) ∙ ap (λ j. some (X j)) (sym (rw y at (get_or-append-add (fathers m (suc m) b) (fathers q n later) (i - forest_size b) 0))))

-- the number of the shape of the group with root r
abbrev pub shape_of : ℕ → List ℕ → ℕ → ℕ
shape_of L ps r = shape_number L (walk_round (under ps r))

-- the entry of local number i in the family of r, and the shape's own parent list
abbrev entry_at : List ℕ → ℕ → ℕ → ℕ
entry_at ps r i = get_or (family ps r) i 0

abbrev shape_list : List ℕ → ℕ → List ℕ
shape_list ps r = parent_list (walk_round (under ps r))

module _ (ps : List ℕ) (small : length ps ≤ top_mark) (tree : Tree ps) (r : ℕ) (h : r < length ps) where
  -- the shape has as many local numbers as the family entries
  list_length : length (shape_list ps r) ≡ size ps r
  list_length = ap length (parent-list (under ps r)) ∙ ap suc (fathers-length (under ps r) 0 1)

  list-small : length (shape_list ps r) ≤ top_mark
  list-small = omega (arith, list_length, family-room ps small tree r h)

  -- a local number's parent is that of its entry
  list-parent : (i : ℕ) → suc i < size ps r → (j : ℕ) × (parent (shape_list ps r) (suc i) ≡ some j) × (j < size ps r) × (parent ps (entry_at ps r (suc i)) ≡ some (entry_at ps r j))
  list-parent i b =
      let w = walk_round (under ps r) in
      let j = get_or (fathers 0 1 (under ps r)) i 0 in
      let q : word (parent_list w) (suc i) ≡ j = ap (λ l. get_or l (suc i) 0) (parent-list (under ps r)) in
      let n : suc i < length (parent_list w) = omega (arith, list_length) in
      let low = word_low w (suc i) n (λ z. omega arith) in
      let z : 1 + i ≡ suc i = omega arith in
      let gives : Gives (entry_at ps r) (under ps r) 1 = λ k c. let y : 1 + k ≡ suc k = omega arith in rw y in (
        j,
        parent_in (parent_list w) (suc i) n (omega arith) ∙ ap some q,
        omega (arith, list_length),
        rw z at (fathers-at ps (entry_at ps r) (under ps r) r 0 1 (grown-hangs ps small (length ps) r h) refl gives i (omega arith)),
      )

  -- so is its climb, up to the root
  list-climb : (k l u : ℕ) → l < size ps r → k + depth ps r ≤ depth ps (entry_at ps r l) → climb_up ps k (entry_at ps r l) ≡ some u
      → (j : ℕ) × (climb_up (shape_list ps r) k l ≡ some j) × (j < size ps r) × (entry_at ps r j ≡ u)
  unfolding climb_up
  list-climb zero l u b d e = (l, entry_in (shape_list ps r) l (omega (arith, list_length)), b, (entry-some ps (entry_at ps r l) u e).0)
  list-climb (suc k) zero u b d e = absurd (omega arith)
  list-climb (suc k) (suc i) u b d e =
      let (p, q, c, s) = list-parent i b in
      let (j, t, a, y) = list-climb k p u c (omega (arith, depth-parent ps small tree (entry_at ps r (suc i)) (entry_at ps r p) s)) (sym (up_step ps k (entry_at ps r (suc i)) (entry_at ps r p) s) ∙ e) in
      (j, up_step (shape_list ps r) k (suc i) p q ∙ t, a, y)

-- v is in the group with root r and number g, and has local number l there
module _ (ps : List ℕ) (small : length ps ≤ top_mark) (tree : Tree ps) (L v r g l : ℕ) (m : Grouped L ps v r g l) where
  -- the local number of v is l, and of each entry its place behind the root's position
  hv : v < length ps
  hv = (ancestor-in ps small tree r v m.above).1

  entry-is : (i : ℕ) → i < size ps r → get_or (order ps) (position ps r + i) 0 ≡ entry_at ps r i
  entry-is i b = family-at ps small tree r i m.entry b

  own : entry_at ps r l ≡ v
  own = sym (entry-is l m.local) ∙ ap (λ i. get_or (order ps) i 0) (sym m.placed) ∙ at_position ps small tree v hv

  pub root-depth : depth ps r ≤ depth ps v
  root-depth = omega (arith, up_depth ps small tree m.above.climbs v r m.above.reached)

  -- the shape is one of the shapes, and l a local number of it
  pub shape-small : shape_of L ps r < length (shapes L)
  shape-small = number_small L (under ps r) m.limit

  reached-is : (k : ℕ) → reached L (shape_of L ps r) l k ≡ climb_up (shape_list ps r) k l
  unfolding reached bind
  reached-is k = rw (number-shape L (under ps r) m.limit)

  pub local-self : reached L (shape_of L ps r) l 0 ≡ some l
  unfolding climb_up
  local-self = reached-is 0 ∙ entry_in (shape_list ps r) l (omega (arith, m.local, list_length ps small tree r m.entry))

  climb-is : (k u : ℕ) → k + depth ps r ≤ depth ps v → climb_up ps k v ≡ some u → (j : ℕ) × (climb_up (shape_list ps r) k l ≡ some j) × (j < size ps r) × (entry_at ps r j ≡ u)
  climb-is k u b e = list-climb ps small tree r m.entry k l u m.local (omega (arith, ap (depth ps) own)) (ap (climb_up ps k) own ∙ e)

  -- up to the group's root its climb in the shape is that of v in the tree
  pub local-climb : (k u : ℕ) → k ≤ depth ps v - depth ps r → climb_up ps k v ≡ some u
      → (j : ℕ) × (reached L (shape_of L ps r) l k ≡ some j) × (get_or (order ps) (position ps r + j) 0 ≡ u) × (j < size ps r)
  local-climb k u b e =
      let (j, q, c, x) = climb-is k u (omega (arith, root-depth)) e in
      (j, reached-is k ∙ q, entry-is j c ∙ x, c)

  -- so its depth in the shape is how far v is below the root
  pub local-depth : local_depth L (shape_of L ps r) l ≡ depth ps v - depth ps r
  unfolding local_depth Option-elim
  local-depth =
      let k = m.above.climbs in
      let w = walk_round (under ps r) in
      let s = list-small ps small tree r m.entry in
      let n = list_length ps small tree r m.entry in
      let d = up_depth ps small tree k v r m.above.reached in
      let (j, q, c, x) = climb-is k r (omega arith) m.above.reached in
      let z : j ≡ 0 = omega (arith, position-is ps small tree r (position ps r + j) m.entry (omega (arith, family-room ps small tree r m.entry)) (entry-is j c ∙ x)) in
      let t = depth-top (parent_list w) s (shape-tree w) 0 (omega arith) (parent-none (parent_list w) 0 (omega arith) (omega (arith, root-word w))) in
      rw (number-shape L (under ps r) m.limit)
      (omega (arith, up_depth (parent_list w) s (shape-tree w) k l j q, ap (depth (parent_list w)) z))
