-- The words of groups and jump nodes: three for each group, 21 for each jump node, laid end to end. Assumes nothing.
use mathlib.Core.Path.{◌≡◌, refl, ap, ◌∙◌}
use mathlib.Core.List.{List, flat_map}
use mathlib.Core.Option
use Prim.Native.Nat.{ℕ, suc, ◌+◌, ◌*◌, ◌^◌, ◌<◌}
use native.Mathlib.Omega.{arith}
use lib.ListN.{length, get_or}
use Rattle.base.proofs.Lists.{below_at, each-length}
use Rattle.base.proofs.Rows.{rows-length, rows_at}
use Rattle.base.specs.Limits.{top_mark}
use Rattle.tree.specs.Parents.{parent, up, depth}
use Rattle.tree.specs.Forest.{under, position}
use Rattle.shapes.specs.Walks.{walk_round, shape_number}
use Rattle.table.specs.Groups.{group_roots, group_words, jump_nodes, jump_record}

module _ (L : ℕ) (ps : List ℕ) where
  -- how many words they are
  group-wide : (r : ℕ) → length (group_words L ps r) ≡ 3
  unfolding group_words
  group-wide r = refl

  pub jump-wide : (j : ℕ) → length (jump_record ps j) ≡ 21
  unfolding jump_record
  jump-wide j = ap suc (each-length 20 0 (λ e. Option.get_or (up ps (2 ^ e) j) 0))

  pub groups-length : length (flat_map (group_words L ps) (group_roots L ps)) ≡ 3 * length (group_roots L ps)
  groups-length = rows-length (group_words L ps) 3 group-wide (group_roots L ps)

  pub jumps-length : length (flat_map (jump_record ps) (jump_nodes L ps)) ≡ 21 * length (jump_nodes L ps)
  jumps-length = rows-length (jump_record ps) 21 jump-wide (jump_nodes L ps)

  -- group g has root r
  module _ (g r : ℕ) (h : g < length (group_roots L ps)) (e : get_or (group_roots L ps) g 0 ≡ r) where
    group-word : (k : ℕ) → k < 3 → get_or (flat_map (group_words L ps) (group_roots L ps)) (3 * g + k) 0 ≡ get_or (group_words L ps r) k 0
    group-word k b = rows_at (group_words L ps) 3 group-wide (group_roots L ps) g k 0 0 h b ∙ ap (λ x. get_or (group_words L ps x) k 0) e

    pub group-position : get_or (flat_map (group_words L ps) (group_roots L ps)) (3 * g) 0 ≡ position ps r
    unfolding group_words
    group-position = let z : 3 * g + 0 ≡ 3 * g = omega arith in rw z at (group-word 0 (omega arith))

    pub group-shape : get_or (flat_map (group_words L ps) (group_roots L ps)) (3 * g + 1) 0 ≡ shape_number L (walk_round (under ps r))
    unfolding group_words
    group-shape = group-word 1 (omega arith)

    pub group-parent : get_or (flat_map (group_words L ps) (group_roots L ps)) (3 * g + 2) 0 ≡ Option.get_or (parent ps r) top_mark
    unfolding group_words
    group-parent = group-word 2 (omega arith)

  -- jump node i is j
  module _ (i j : ℕ) (h : i < length (jump_nodes L ps)) (e : get_or (jump_nodes L ps) i 0 ≡ j) where
    jump-word : (k : ℕ) → k < 21 → get_or (flat_map (jump_record ps) (jump_nodes L ps)) (21 * i + k) 0 ≡ get_or (jump_record ps j) k 0
    jump-word k b = rows_at (jump_record ps) 21 jump-wide (jump_nodes L ps) i k 0 0 h b ∙ ap (λ x. get_or (jump_record ps x) k 0) e

    pub jump-depth : get_or (flat_map (jump_record ps) (jump_nodes L ps)) (21 * i) 0 ≡ depth ps j
    unfolding jump_record
    jump-depth = let z : 21 * i + 0 ≡ 21 * i = omega arith in rw z at (jump-word 0 (omega arith))

    pub jump-ancestor : (k : ℕ) → k < 20 → get_or (flat_map (jump_record ps) (jump_nodes L ps)) (21 * i + 1 + k) 0 ≡ Option.get_or (up ps (2 ^ k) j) 0
    unfolding jump_record
    jump-ancestor k b =
        let z : 21 * i + 1 + k ≡ 21 * i + suc k = omega arith in
        rw z (jump-word (suc k) (omega arith) ∙ below_at 20 (λ x. Option.get_or (up ps (2 ^ x) j) 0) 0 k b)
