-- Whether a long path starts at a position, and where an entry stands that a path goes on to. Assumes nothing.
use mathlib.Core.Path.{◌≡◌, refl, sym, ap, ◌∙◌}
use mathlib.Core.List.{List}
use mathlib.Core.Bool.{Bool, true, false, not}
use native.Mathlib.Decide.{ℕ_discrete}
use lib.Dec.{eqb}
use borrow.Author.Tests.{eq-eqb, ne_eqb}
use mathlib.Core.Option.{Option, none, some, Option-elim, some-injective}
use Prim.Native.Nat.{ℕ, ◌+◌, ◌*◌, ◌≤◌, ◌<◌}
use native.Mathlib.Omega.{arith}
use lib.ListN.{length, get_or}
use Rattle.base.specs.Limits.{most_entries, top_mark}
use Rattle.tree.specs.Forest.{position, long_child, path_top}
use Rattle.tree.proofs.Climbs.{parent-some}
use Rattle.table.specs.Ladders.{lad_pos}
use Rattle.climbs.proofs.Paths.{path-top-root, path-top-no, long-child, long-no-top}
use Rattle.climbs.proofs.Ladders.{ladpos-next, ladpos-in}
use Rattle.climbs.proofs.Room.{ladders-fit}
use Rattle.prepare.specs.Arrays.{OneTree, entry_at, by_position, above_position, long_position, aboves_of}
use Rattle.prepare.proofs.Preorder.{Over, small, entries-some, located-at, located-of, no-parent, over-of, over-at, array-words}

module _ {ps aboves : List ℕ} (t : OneTree ps) (e : aboves ≡ aboves_of ps) where
  abbrev n : ℕ
  n = length ps

  little : n ≤ top_mark
  little = small t

  -- ABOVE's word
  abbrev up_from : ℕ → ℕ
  up_from i = get_or aboves i 0

  above_word : (i : ℕ) → i < n → up_from i ≡ above_position ps (entry_at ps i)
  above_word = array-words t (above_position ps) aboves e

  pub top-first : path_top ps (entry_at ps 0) ≡ true
  top-first = path-top-root ps little t.tree (entry_at ps 0) (located-at t 0 (entries-some t)).inside (no-parent t)

  module _ (i : ℕ) (b : 0 < i) (h : i < n) where
    over : (p : ℕ) × Over ps i (up_from i) p
    over = over-at t i h (above_word i h) b

    pub over-less : up_from i < i
    over-less = over.1.earlier

    module _ {longs : List ℕ} (l : longs ≡ by_position ps (long_position ps)) where
      long-is : get_or longs (up_from i) 0 ≡ long_position ps over.0
      long-is = array-words t (long_position ps) longs l (up_from i) over.1.there.low ∙ ap (long_position ps) over.1.there.entry

      pub top-no : get_or longs (up_from i) 0 ≡ i → false ≡ path_top ps (entry_at ps i)
      unfolding long_position Option-elim
      top-no e = go (long_child ps over.0) refl (sym long-is ∙ e)
        where
          go : (c : Option ℕ) → long_child ps over.0 ≡ c → Option-elim c top_mark (position ps) ≡ i → false ≡ path_top ps (entry_at ps i)
          go none q s = absurd (omega (arith, little))
          go (some c) q s =
              let hp = over.1.there.inside in
              let hc = (parent-some ps c over.0 (long-child ps little t.tree over.0 c q hp).0).0 in
              let z : c ≡ entry_at ps i = sym (located-of t c hc).entry ∙ ap (entry_at ps) s in
              sym (rw z at (long-no-top ps little t.tree over.0 c q hp))

      pub top-yes : (get_or longs (up_from i) 0 ≡ i → ⊥) → true ≡ path_top ps (entry_at ps i)
      unfolding long_position Option-elim
      top-yes not = sym (go (path_top ps (entry_at ps i)) refl)
        where
          go : (b : Bool) → path_top ps (entry_at ps i) ≡ b → b ≡ true
          go true e = refl
          go false e =
              let here = located-at t i h in
              let (p, q, l) = path-top-no ps little t.tree (entry_at ps i) e here.inside in
              let z : p ≡ over.0 = some-injective p over.0 (sym q ∙ over.1.parent_is) in
              let is : long_position ps over.0 ≡ i = rw (sym z, l) here.place in
              absurd (not (long-is ∙ is))

      -- the test of the code
      pub top-test : path_top ps (entry_at ps i) ≡ not (eqb (get_or longs (up_from i) 0) i)
      top-test = go (ℕ_discrete (get_or longs (up_from i) 0) i)
        where
          go : Dec (get_or longs (up_from i) 0 ≡ i) → path_top ps (entry_at ps i) ≡ not (eqb (get_or longs (up_from i) 0) i)
          go (yes q) = sym (top-no q) ∙ sym (ap not (eq-eqb _ _ q))
          go (no q) = sym (top-yes q) ∙ sym (ap not (ne_eqb _ _ q))

  -- the place behind that of the entry above, where the path goes on
  module _ (i : ℕ) (h : i < n) (goes : path_top ps (entry_at ps i) ≡ false) where
    from : (p : ℕ) × Over ps i (up_from i) p
    from = let (p, q, l) = path-top-no ps little t.tree (entry_at ps i) goes (located-at t i h).inside in (p, over-of t i h (above_word i h) p q)

    pub from_less : up_from i < i
    from_less = from.1.earlier

    module _ (places : List ℕ) (placed : (k : ℕ) → k < i → get_or places k 0 ≡ lad_pos ps (entry_at ps k)) where
      place-above : get_or places (up_from i) 0 ≡ lad_pos ps from.0
      place-above = placed (up_from i) from_less ∙ ap (lad_pos ps) from.1.there.entry

      pub next_place : get_or places (up_from i) 0 + 1 ≡ lad_pos ps (entry_at ps i)
      next_place = omega (arith, place-above, ladpos-next ps little t.tree (entry_at ps i) from.0 from.1.parent_is goes)

      pub next_small : get_or places (up_from i) 0 ≤ 2 * most_entries
      next_small = omega (arith, place-above, ladpos-in ps little t.tree from.0 from.1.there.inside, ladders-fit ps little t.tree, t.few)
