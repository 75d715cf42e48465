-- GROUPS: three words for each group, one position further. Assumes nothing.
use mathlib.Core.Path.{◌≡◌, refl, sym, ap, ◌∙◌}
use mathlib.Core.List.{List, [], ◌∷◌, ◌++◌, map, map-append, flat_map, append_assoc}
use mathlib.Core.Bool.{true}
use mathlib.Core.Option.{get_or}
use Prim.Native.Nat.{ℕ, zero, suc, ◌+◌, ◌*◌, ◌-◌, ◌≤◌, ◌<◌}
use native.Mathlib.Omega.{arith}
use borrow.Rule.Slice.PartMut.{mid_of, put_mid}
use lib.ListN.{length, set, take, drop, replicate}
use lib.Seq.{take_all, take_at}
use Rattle.base.specs.Limits.{group_limit, top_mark}
use Rattle.base.specs.Lists.{keep, padded}
use Rattle.base.proofs.Rows.{rows-length, rows_more}
use Rattle.base.proofs.Views.{Laid, laid_none, laid-length, laid_more}
use Rattle.base.proofs.Puts.{wiped}
use Rattle.base.proofs.Lists.{drop-map}
use Rattle.base.proofs.Filters.{keep-few, keep-next, keep_same}
use Rattle.tree.specs.Parents.{parent, depth}
use Rattle.tree.specs.Forest.{levels, under, size, family, order, position}
use Rattle.tree.proofs.OneTree.{tree-meets}
use Rattle.tree.proofs.Levels.{under-levels}
use Rattle.tree.proofs.Intervals.{ancestor-self, family-room, interval, family-drop}
use Rattle.table.specs.Groups.{group_root, group_words}
use Rattle.table.specs.Table.{group_cells}
use Rattle.shapes.specs.Walks.{walk_round, shape_number}
use Rattle.climbs.proofs.Groups.{roots_within}
use Rattle.climbs.proofs.Jumps.{size-micro, size-macro}
use Rattle.prepare.specs.Arrays.{OneTree, entry_at, depths_of}
use Rattle.prepare.proofs.Preorder.{Located, small, order-many, located-at}
use Rattle.prepare.proofs.Roots.{Ended, macro-none, root-next, root_none, ended_same, ended-group}

-- the words of the groups among the first i positions, over those of a section, and where the next stand
abbrev GroupRows : List ℕ → List ℕ → ℕ → ℕ → List ℕ → Type 0
GroupRows ps old i at cells = Laid old (flat_map (group_words group_limit ps) (roots_within group_limit ps i)) cells at

-- and none of those groups goes on at position i
pub record GroupsBefore (ps old : List ℕ) (i at : ℕ) (cells : List ℕ) : Type 0 where
  pub room : length old ≡ 3 * length ps
  pub words : GroupRows ps old i at cells
  pub ended : Ended group_limit ps i i

pub groups_none : {ps old : List ℕ} → length old ≡ 3 * length ps → GroupsBefore ps old 0 0 old
unfolding keep flat_map
groups_none {ps} {old} e = record { room = e; words = laid_none old; ended = λ k b. absurd (omega arith) }

module _ {ps : List ℕ} (t : OneTree ps) {old : List ℕ} {i at : ℕ} {cells : List ℕ} (g : GroupsBefore ps old i at cells) where
  abbrev n : ℕ
  n = length ps

  little : n ≤ top_mark
  little = small t

  pub groups-long : length cells ≡ 3 * n
  groups-long = laid-length g.words ∙ g.room

  pub groups-fit : at ≤ length cells
  groups-fit = omega (arith, laid-length g.words, g.words.fits)

  -- all groups, once the words behind them are set to 0
  pub groups-end : n ≤ i → (tail : List ℕ) → tail ≡ replicate (length (mid_of at (length cells - at) cells)) 0 → put_mid at (length cells - at) cells tail ≡ group_cells ps
  groups-end h tail e =
      let whole : take i (order ps) ≡ order ps = take_all i (order ps) (omega (arith, order-many t)) in
      let words = flat_map (group_words group_limit ps) (roots_within group_limit ps i) in
      let front : take at cells ≡ words = ap (take at) g.words.is ∙ take_at words (drop at old) at g.words.size in
      rw whole at (wiped cells tail at groups-fit e ∙ ap (λ m. padded m (take at cells)) groups-long ∙ ap (padded (3 * n)) front)

  module _ (h : i < n) where
    abbrev v : ℕ
    v = entry_at ps i

    here : Located ps i v
    here = located-at t i h

    inner : i < length (order ps)
    inner = omega (arith, order-many t)

    pub groups-room : at + 3 ≤ 3 * n
    unfolding group_words
    groups-room = omega (arith, g.words.size, rows-length (group_words group_limit ps) 3 (λ x. refl) (roots_within group_limit ps i), keep-few (group_root group_limit ps) (order ps) i)

    -- the depths from there on are those of the group, and of what stands behind it
    pub group-depths : (deep : List ℕ) → deep ≡ depths_of ps → drop i deep ≡ depth ps v ∷ (levels (suc (depth ps v)) (under ps v) ++ map (depth ps) (drop (position ps v + size ps v) (order ps)))
    group-depths deep e =
        ap (drop i) e
        ∙ drop-map (depth ps) i (order ps)
        ∙ ap (λ j. map (depth ps) (drop j (order ps))) (sym here.place)
        ∙ ap (map (depth ps)) (family-drop ps little t.tree v here.inside)
        ∙ map-append (depth ps) (family ps v) (drop (position ps v + size ps v) (order ps))
        ∙ ap (λ l. depth ps v ∷ (l ++ map (depth ps) (drop (position ps v + size ps v) (order ps)))) (under-levels ps little v (tree-meets ps little t.tree v here.inside))

    -- what SIZE says: where the family ends
    module _ (x : ℕ) (e : x ≡ size ps v) where
      pub group-room : i + x ≤ n
      group-room = omega (arith, family-room ps little t.tree v here.inside, here.place)

      pub group-some : 0 < x
      group-some = omega (arith, ((interval ps little t.tree v v here.inside here.inside).0 (ancestor-self ps little t.tree v here.inside)).1)

      -- past an entry of a larger size
      pub groups-same : group_limit < x → GroupsBefore ps old (i + 1) at cells
      groups-same b =
          let q = macro-none group_limit ps v (size-macro group_limit ps v (omega arith)) in
          record {
            room = g.room;
            words = rw (keep_same (group_root group_limit ps) (order ps) i inner q) g.words;
            ended = λ k l r. omega (arith, ended_same t group_limit i i q g.ended k l r);
          }

      -- a group: its own words behind the others, and no other root up to its end
      module _ (b : x ≤ group_limit) where
        starts : group_root group_limit ps v ≡ true
        starts = root-next t group_limit i i h g.ended (omega arith) (size-micro group_limit ps v (omega arith))

        words_more : (shape over : ℕ) → shape ≡ shape_number group_limit (walk_round (under ps v)) → over ≡ get_or (parent ps v) top_mark → GroupRows ps old (i + 1) (at + 3) (set (set (set cells at i) (at + 1) shape) (at + 2) over)
        unfolding group_words
        words_more shape over s o =
            let room = g.room in
            let l = laid_more over (omega (arith, groups-room)) (laid_more shape (omega (arith, groups-room)) (laid_more i (omega (arith, groups-room)) g.words)) in
            let words = flat_map (group_words group_limit ps) (roots_within group_limit ps i) in
            let q : flat_map (group_words group_limit ps) (roots_within group_limit ps (i + 1)) ≡ ((words ++ i ∷ []) ++ shape ∷ []) ++ over ∷ [] =
            ap (flat_map (group_words group_limit ps)) (keep-next (group_root group_limit ps) (order ps) i inner starts)
            ∙ rows_more (group_words group_limit ps) (roots_within group_limit ps i) v
            ∙ rw (here.place, ← s, ← o) (simp append_assoc) in
            let z : (at + 1) + 1 ≡ at + 2 = omega arith in
            let y : (at + 2) + 1 ≡ at + 3 = omega arith in
            rw (q, ← y) (rw z at l)

        words-hop : (at₁ : ℕ) (cells₁ : List ℕ) → GroupRows ps old (i + 1) at₁ cells₁ → (k : ℕ) → (i + 1) + k ≤ i + x → GroupRows ps old ((i + 1) + k) at₁ cells₁
        words-hop at₁ cells₁ w zero l = let z : (i + 1) + zero ≡ i + 1 = omega arith in rw z w
        words-hop at₁ cells₁ w (suc k) l =
            let z : (i + 1) + suc k ≡ ((i + 1) + k) + 1 = omega arith in
            let low : (i + 1) + k < n = omega (arith, group-room) in
            let q = root_none t group_limit i ((i + 1) + k) low (omega arith) (omega arith) starts (omega arith) in
            rw (z, keep_same (group_root group_limit ps) (order ps) ((i + 1) + k) (omega (arith, order-many t)) q) (words-hop at₁ cells₁ w k (omega arith))

        pub groups-more : (shape over : ℕ) → shape ≡ shape_number group_limit (walk_round (under ps v)) → over ≡ get_or (parent ps v) top_mark
            → GroupsBefore ps old (i + x) (at + 3) (set (set (set cells at i) (at + 1) shape) (at + 2) over)
        groups-more shape over s o =
            let z : i + x ≡ (i + 1) + (x - 1) = omega (arith, group-some) in
            record {
              room = g.room;
              words = rw z (words-hop _ _ (words_more shape over s o) (x - 1) (omega (arith, group-some)));
              ended = rw e (ended-group t group_limit i (omega (arith, group-room)) starts g.ended);
            }
