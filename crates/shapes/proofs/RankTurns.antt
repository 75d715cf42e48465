-- The laws of a loop that counts the number of a group's shape, an entry a turn. Assumes nothing.
use mathlib.Core.Path.{◌≡◌, refl, sym, ap, subst, ◌∙◌}
use mathlib.Core.List.{List, [], ◌∷◌, ◌++◌, map, map-append}
use Prim.Native.Nat.{ℕ, zero, suc, ◌+◌, ◌-◌, ◌≤◌, ◌<◌}
use native.Mathlib.Numerals.{add-one}
use native.Mathlib.Omega.{arith}
use native.Mathlib.Nat.{zero-add, suc-add, add-suc, sub_self, zero-sub, not-suc-le-zero}
use lib.ListN.{length, get_or, take, drop, length-append, length-map, length-take, length-drop, take-append-drop, drop_of_length-le, get_or-map}
use lib.Seq.{drop-cons, take_at}
use Rattle.tree.specs.Forest.{Forest, empty, node, forest_size}
use Rattle.shapes.specs.Walks.{walk_round, walks, shapes, shape_number}
use Rattle.tree.specs.Forest.{levels}
use Rattle.tree.proofs.Levels.{levels-length}
use Rattle.shapes.proofs.Turns.{Goes, goes-levels}
use Rattle.shapes.proofs.Depths.{goes-forest}
use Rattle.shapes.proofs.Rank.{ways, rank_from, after_more, after-deeper, number-rank}

-- there is a way on from every depth, and from a deeper entry there are no fewer; the shapes of more entries are no fewer
ways-some : (o c : ℕ) → 0 < ways o c
ways-some zero c = omega arith
ways-some (suc o) c = omega (arith, ways-some o (suc c), after_more (walks o) c)

ways-deeper : (o a b : ℕ) → a ≤ b → ways o a ≤ ways o b
ways-deeper zero a b h = omega arith
ways-deeper (suc o) a b h =
    let k : b - a + a ≡ b = omega arith in
    rw k at (after-deeper (walks o) a (b - a))

shapes-more : (m u : ℕ) → length (shapes m) ≤ length (shapes (u + m))
shapes-more m zero = rw zero-add (omega arith)
shapes-more m (suc u) = rw suc-add (omega (arith, length-append (shapes (u + m)) (walks (u + m) 0), shapes-more m u))

-- a down to depth e takes one of the ways from the depth above, and what comes before is counted an entry at a time
ways-down : (o n e : ℕ) → 0 < e → suc o ≡ n → ways o e ≤ ways n (e - 1)
ways-down o n zero h q = absurd (not-suc-le-zero h)
ways-down o n (suc c) h q =
    let k : suc c - 1 ≡ c = omega arith in
    rw (← q, k) (after_more (walks o) c)

rank-cons : (n d e : ℕ) (ds : List ℕ) → suc (length ds) ≡ n → rank_from d (e ∷ ds) ≡ ways n d - ways n (e - 1) + rank_from e ds
rank-cons n d e ds q = rw (← q)

-- the depths of a forest that stands d levels higher
levels-lower : (d e : ℕ) (f : Forest) → map (λ x. x - d) (levels (d + e) f) ≡ levels e f
unfolding levels
levels-lower d e empty = refl
levels-lower d e (node v b later) =
    let z : d + e - d ≡ e = omega arith in
    rw (z, map-append (λ (x : ℕ). x - d) (levels (suc (d + e)) b) (levels (d + e) later), ← add-suc d e, levels-lower d (suc e) b, levels-lower d e later)

-- how far below its root a group's entry at place i stands; and all of them
abbrev pub fall : List ℕ → ℕ → ℕ
fall group i = get_or group i 0 - get_or group 0 0

abbrev pub lowered : List ℕ → List ℕ
lowered group = map (λ e. e - get_or group 0 0) group

lowered-length : (group : List ℕ) → length (lowered group) ≡ length group
lowered-length group = length-map group (λ e. e - get_or group 0 0)

lowered-at : (group : List ℕ) (i : ℕ) → get_or (lowered group) i 0 ≡ fall group i
lowered-at group i = ap (get_or (lowered group) i) (sym (zero-sub (get_or group 0 0))) ∙ get_or-map (λ e. e - get_or group 0 0) group i 0

lowered-levels : (group : List ℕ) (f : Forest) (d : ℕ) → group ≡ d ∷ levels (suc d) f → lowered group ≡ 0 ∷ levels 1 f
lowered-levels group f d e = rw (e, sub_self, ← add-one d, levels-lower d 1 f)

-- depths that go as a group's do are a group's
depths-forest : (group : List ℕ) → 0 < length group → Goes 0 (drop 1 (lowered group)) → (f : Forest) × (group ≡ get_or group 0 0 ∷ levels (suc (get_or group 0 0)) f)
depths-forest [] h g = absurd (not-suc-le-zero h)
depths-forest (d ∷ ds) h g = let t = goes-forest d ds g in (t.0, ap (◌∷◌ d) t.1)

-- of a group with these depths `sum` has been counted: the entries before place i are passed, the last of them `at` levels below the root;
-- those to come go as a group's do just where all of them do
pub record Ranked (L : ℕ) (group : List ℕ) (sum at i : ℕ) : Type 0 where
  pub few : length group ≤ L
  pub upto : i ≤ length group
  pub low : at < i
  pub room : sum + ways (length group - i) at ≤ length (shapes (length group))
  pub total : sum + rank_from at (drop i (lowered group)) ≡ length (shapes (length group - 1)) + rank_from 0 (drop 1 (lowered group))
  pub goes : Goes 0 (drop 1 (lowered group)) → Goes at (drop i (lowered group))
  pub gone : Goes at (drop i (lowered group)) → Goes 0 (drop 1 (lowered group))

pub start : (L : ℕ) (group : List ℕ) → 0 < length group → length group ≤ L → Ranked L group (length (shapes (length group - 1))) 0 1
start L [] h b = absurd (not-suc-le-zero h)
start L (x ∷ group) h b =
    let e : suc (length group) - 1 ≡ length group = omega arith in
    record { few = b; upto = h; low = omega arith; room = rw e (omega (arith, length-append (shapes (length group)) (walks (length group) 0))); total = refl; goes = λ g. g; gone = λ g. g }

module _ (L : ℕ) (group : List ℕ) (sum at i : ℕ) (r : Ranked L group sum at i) where
  -- what is counted is the number of a shape
  pub small : sum < length (shapes L)
  small =
      let b : length group ≤ L = r.few in
      let k : L - length group + length group ≡ L = omega arith in
      omega (arith, r.room, ways-some (length group - i) at, rw k at (shapes-more (length group) (L - length group)))

  -- at the end none is left: the depths are a group's, and what is counted is the number of its shape
  module _ (h : length group ≤ i) where
    all : drop i (lowered group) ≡ []
    all = drop_of_length-le (lowered group) {i = i} (omega (arith, lowered-length group))

    pub finish : (f : Forest) (d : ℕ) → group ≡ d ∷ levels (suc d) f → sum ≡ shape_number L (walk_round f)
    finish f d e =
        let n : length group ≡ suc (forest_size f) = ap length e ∙ ap suc (levels-length (suc d) f) in
        let b : length group ≤ L = r.few in
        let t : sum + 0 ≡ length (shapes (length group - 1)) + rank_from 0 (drop 1 (lowered group)) = rw all at r.total in
        let k : suc (forest_size f) - 1 ≡ forest_size f = omega arith in
        omega (arith, number-rank L f (omega arith), rw (n, k, lowered-levels group f d e) at t)

    pub group-is : (f : Forest) × (group ≡ get_or group 0 0 ∷ levels (suc (get_or group 0 0)) f)
    group-is = depths-forest group (omega (arith, r.low, r.upto)) (r.gone (rw all tt))

  module _ (h : i < length group) where
    next : drop i (lowered group) ≡ fall group i ∷ drop (i + 1) (lowered group)
    next = rw (add-one, drop-cons (lowered group) i 0 (omega (arith, lowered-length group)), lowered-at)

    -- the depth of a group's next entry is more than its root's, and at most one more than that of the entry before
    pub due : (f : Forest) (d : ℕ) → group ≡ d ∷ levels (suc d) f → (get_or group 0 0 < get_or group i 0) × (fall group i ≤ at + 1)
    due f d e =
        let g : Goes 0 (drop 1 (lowered group)) = rw (lowered-levels group f d e) (goes-levels f) in
        let k : Goes at (fall group i ∷ drop (i + 1) (lowered group)) = subst (Goes at) next (r.goes g) in
        (omega (arith, k.0), omega (arith, k.1))

    -- one entry more, e levels below the root: a and b are the ways from the last entry, and from the parent of this
    pub stepped : (e a b : ℕ) → fall group i ≡ e → 0 < e → e ≤ at + 1 → a ≡ ways (length group - i) at → b ≡ ways (length group - i) (e - 1)
        → (b ≤ a) × Ranked L group (sum + (a - b)) e (i + 1)
    stepped e a b p low high u v =
        let q : suc (length (drop (i + 1) (lowered group))) ≡ length group - i = omega (arith, length-drop (i + 1) (lowered group), lowered-length group) in
        let n : drop i (lowered group) ≡ e ∷ drop (i + 1) (lowered group) = rw (← p) next in
        let t : rank_from at (drop i (lowered group)) ≡ a - b + rank_from e (drop (i + 1) (lowered group)) =
        rw (n, u, v) (rank-cons (length group - i) at e (drop (i + 1) (lowered group)) q) in
        let m : ways (length group - i) (e - 1) ≤ ways (length group - i) at = ways-deeper (length group - i) (e - 1) at (omega arith) in
        let w : ways (length group - (i + 1)) e ≤ ways (length group - i) (e - 1) = ways-down (length group - (i + 1)) (length group - i) e low (omega arith) in (
          omega arith,
          record {
            few = r.few;
            upto = omega arith;
            low = omega (arith, r.low);
            room = omega (arith, r.room);
            total = omega (arith, r.total);
            goes = λ g. (subst (Goes at) n (r.goes g)).2;
            gone = λ g. r.gone (rw n (low, omega arith, g));
          },
        )

-- a group's depths are a part of those of a greater forest
module _ (depths : List ℕ) (from : ℕ) (f : Forest) (d : ℕ) (rest : List ℕ) (e : drop from depths ≡ d ∷ (levels (suc d) f ++ rest)) where
  pub part-levels : take (suc (forest_size f)) (drop from depths) ≡ d ∷ levels (suc d) f
  part-levels = rw (e, take_at (levels (suc d) f) rest (forest_size f) (levels-length (suc d) f))

  pub part-fits : from + suc (forest_size f) ≤ length depths
  part-fits = omega (arith, length-drop from depths, ap length e, length-append (levels (suc d) f) rest, levels-length (suc d) f)

-- and a part of these that is a group's depths stands before the rest of them
module _ (depths : List ℕ) (from entries : ℕ) (f : Forest) (d : ℕ) (e : take entries (drop from depths) ≡ d ∷ levels (suc d) f) where
  pub levels-part : drop from depths ≡ d ∷ (levels (suc d) f ++ drop entries (drop from depths))
  levels-part = sym (take-append-drop entries (drop from depths)) ∙ ap (λ (l : List ℕ). l ++ drop entries (drop from depths)) e

  pub levels-count : from + entries ≤ length depths → entries ≡ suc (forest_size f)
  levels-count h = omega (arith, length-take entries (drop from depths), length-drop from depths, ap length e, levels-length (suc d) f)
