-- The paths of the first positions, laid in the working space and in LADDERS. Assumes nothing.
use mathlib.Core.Path.{◌≡◌, refl, sym, ap, ◌∙◌}
use mathlib.Core.List.{List, [], ◌∷◌}
use mathlib.Core.Bool.{true, false}
use Prim.Native.Nat.{ℕ, ◌+◌, ◌*◌, ◌≤◌, ◌<◌}
use native.Mathlib.Omega.{arith}
use native.Mathlib.Numerals.{add-one}
use borrow.Author.Count.{below_more}
use lib.ListN.{length, get_or, set, take, length-append, length-take}
use lib.Seq.{get_or-set_same, get_or-set_other}
use Rattle.base.specs.Limits.{most_entries, top_mark}
use Rattle.base.proofs.Filters.{keep-most}
use Rattle.base.specs.Lists.{padded}
use Rattle.tree.specs.Forest.{height, order, path_top}
use Rattle.table.specs.Ladders.{path_tops, lad_pos}
use Rattle.table.specs.Table.{ladder_cells}
use Rattle.climbs.proofs.OwnPaths.{tops_within}
use Rattle.climbs.proofs.Ladders.{rise, rungs_within}
use Rattle.climbs.proofs.PathTops.{tops-more, tops-same, tops-none, tops-all, rungs-more, rungs-same, rungs-none, rungs-all, rungs-fit, ladpos-met}
use Rattle.prepare.specs.Arrays.{OneTree, entry_at, by_position, Risen}
use Rattle.prepare.proofs.Preorder.{small, words-array}
use Rattle.prepare.proofs.laying.Rungs.{RungsBefore, fill_none, fill_end, fill-inner, fill-top, place-room}

-- the paths of the first i positions, with their number and the words of their ladders
pub record PathsBefore (ps : List ℕ) (i paths words : ℕ) (places cells : List ℕ) : Type 0 where
  pub paths-are : paths ≡ length (tops_within ps i)
  pub words_are : words ≡ rungs_within ps i
  pub placed : (k : ℕ) → k < i → get_or places k 0 ≡ lad_pos ps (entry_at ps k)
  pub rungs : RungsBefore ps i cells

pub before-none : {ps : List ℕ} (places cells : List ℕ) → OneTree ps → length cells ≡ 2 * length ps → PathsBefore ps 0 0 0 places cells
before-none {ps} places cells t b =
    record {
      paths-are = sym (ap length (tops-none ps (small t) t.tree));
      words_are = sym (rungs-none ps (small t) t.tree);
      placed = λ k h. absurd (omega arith);
      rungs = fill_none ps cells b;
    }

module _ {ps : List ℕ} (t : OneTree ps) {i paths words : ℕ} {places cells : List ℕ} (s : PathsBefore ps i paths words places cells) (long : length places ≡ length ps) where
  abbrev n : ℕ
  n = length ps

  little : n ≤ top_mark
  little = small t

  pub words-room : i ≤ n → words ≤ length cells
  words-room h = omega (arith, s.words_are, rungs-fit ps little t.tree i h, s.rungs.size)

  -- all paths, once the words behind their ladders are set to 0
  module _ (all : i ≡ n) where
    pub paths-end : paths ≡ length (path_tops ps)
    paths-end = s.paths-are ∙ ap (λ j. length (tops_within ps j)) all ∙ ap length (tops-all ps little t.tree)

    pub places-end : places ≡ by_position ps (lad_pos ps)
    places-end = words-array t (lad_pos ps) places long (λ k h. s.placed k (omega arith))

    pub rungs-end : (new : List ℕ) → new ≡ padded (length cells) (take words cells) → new ≡ ladder_cells ps
    rungs-end new b = b ∙ fill_end t words cells (s.words_are ∙ ap (rungs_within ps) all ∙ rungs-all ps little t.tree) (rw all at s.rungs)

  -- one position further
  module _ (h : i < n) where
    abbrev v : ℕ
    v = entry_at ps i

    pub paths-small : paths ≤ i
    paths-small = omega (arith, s.paths-are, keep-most (path_top ps) (take i (order ps)), length-take i (order ps))

    pub own_room : lad_pos ps v < length cells
    own_room = place-room t i h cells s.rungs

    -- a place more
    placed-more : (x : ℕ) → x ≡ lad_pos ps v → (k : ℕ) → k < i + 1 → get_or (set places i x) k 0 ≡ lad_pos ps (entry_at ps k)
    placed-more x q =
        below_more (λ k. get_or (set places i x) k 0 ≡ lad_pos ps (entry_at ps k)) i
        (λ k b. get_or-set_other places i k x 0 (λ z. omega arith) ∙ s.placed k b)
        (get_or-set_same places i x 0 (omega (arith, long)) ∙ q)

    -- where a long path starts
    module _ (top : path_top ps (entry_at ps i) ≡ true) where
      pub own-place : words + rise ps v ≡ lad_pos ps v
      own-place = omega (arith, s.words_are, ladpos-met ps little t.tree i v h refl top)

      rungs-next : rungs_within ps (i + 1) ≡ words + rise ps v + height ps v
      rungs-next = rw (add-one i) (omega (arith, rungs-more ps little t.tree i v h refl top, s.words_are))

      pub words_small : words + rise ps v + height ps v ≤ 2 * most_entries
      words_small = omega (arith, rungs-next, rungs-fit ps little t.tree (i + 1) (omega arith), t.few)

      pub before-top : (place high : ℕ) (mid places₁ cells₁ : List ℕ) → place ≡ words + rise ps v → high ≡ height ps v → Risen ps v place (rise ps v) cells mid
          → places₁ ≡ set places i place → cells₁ ≡ set mid place v → PathsBefore ps (i + 1) (paths + 1) (place + high) places₁ cells₁
      before-top place high mid places₁ cells₁ q w r a b =
          let own : place ≡ lad_pos ps v = q ∙ own-place in
          rw (a, b) (record {
            paths-are = rw (add-one i, tops-more ps little t.tree i v h refl top) (omega (arith, length-append (tops_within ps i) (v ∷ []), s.paths-are));
            words_are = omega (arith, rungs-next, q, w);
            placed = placed-more place own;
            rungs = rw own (fill-top t i h cells mid s.rungs (rw own at r));
          })

    -- where one goes on
    pub before-next : (place : ℕ) (places₁ cells₁ : List ℕ) → path_top ps (entry_at ps i) ≡ false → place ≡ lad_pos ps v
        → places₁ ≡ set places i place → cells₁ ≡ set cells place v → PathsBefore ps (i + 1) paths words places₁ cells₁
    before-next place places₁ cells₁ goes own a b =
        rw (a, b) (record {
          paths-are = rw (add-one i, tops-same ps little t.tree i v h refl goes) s.paths-are;
          words_are = rw (add-one i, rungs-same ps little t.tree i v h refl goes) s.words_are;
          placed = placed-more place own;
          rungs = rw own (fill-inner t i h cells s.rungs goes);
        })
