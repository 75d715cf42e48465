-- Micro entries, groups and jump entries, for groups of up to L entries. A group is a microtree of 003, a jump entry its jump node.
-- Assumes nothing.
use Rattle.std.specs.Prelude.{List, [], ◌∷◌, map, Bool, true, not, cond, ◌&&◌, ℕ, ◌+◌, ◌*◌, ◌^◌, get_or, leb}
use Rattle.std.proofs.Math.Option
use Rattle.std.proofs.Math.Option.{Option-elim}
use Rattle.base.specs.Lists.{below, keep, index, place, has, every}
use Rattle.base.specs.Limits.{micro_mark, local_span, top_mark}
use Rattle.tree.specs.Parents.{parent, up, depth, children}
use Rattle.tree.specs.Forest.{under, size, family, order, position}
use Rattle.shapes.specs.Walks.{walk_round, shape_number}

-- an entry of size L or less is micro
unfoldable pub micro : ℕ → List ℕ → ℕ → Bool
micro L ps v = leb (size ps v) L

-- the root of a group: a micro entry that is the top or whose parent is not micro
unfoldable pub group_root : ℕ → List ℕ → ℕ → Bool
group_root L ps v = micro L ps v && Option-elim (parent ps v) true (λ p. not (micro L ps p))

-- the groups, numbered in preorder: each is a root with all below it
abbrev pub group_roots : ℕ → List ℕ → List ℕ
group_roots L ps = keep (group_root L ps) (order ps)

unfoldable pub groups : ℕ → List ℕ → List (List ℕ)
groups L ps = map (family ps) (group_roots L ps)

-- a group's three cells: its root's position, its shape, and its root's parent, or the top mark
unfoldable pub group_words : ℕ → List ℕ → ℕ → List ℕ
group_words L ps r = position ps r ∷ shape_number L (walk_round (under ps r)) ∷ Option.get_or (parent ps r) top_mark ∷ []

-- a jump entry has a size over L and no child of such a size
unfoldable pub jump_node : ℕ → List ℕ → ℕ → Bool
jump_node L ps v = not (micro L ps v) && every (micro L ps) (children ps v)

-- the jump entries, numbered in preorder
abbrev pub jump_nodes : ℕ → List ℕ → List ℕ
jump_nodes L ps = keep (jump_node L ps) (order ps)

-- a jump entry's record: its depth, then for e = 0 to 19 the ancestor 2^e above it, 0 if none
unfoldable pub jump_record : List ℕ → ℕ → List ℕ
jump_record ps v = depth ps v ∷ below 20 (λ e. Option.get_or (up ps (2 ^ e) v) 0)

-- KIND of a micro entry, by its group and its local number there: its preorder position in the group, from 0
unfoldable pub micro_kind : ℕ → List ℕ → ℕ → ℕ
micro_kind L ps v =
    let g = index (λ group. has group v) (groups L ps) in
    micro_mark + local_span * g + place v (get_or (groups L ps) g [])

-- KIND of any other: the number of the first jump entry, in preorder, at or below it
unfoldable pub macro_kind : ℕ → List ℕ → ℕ → ℕ
macro_kind L ps v = index (has (family ps v)) (jump_nodes L ps)

unfoldable pub kind : ℕ → List ℕ → ℕ → ℕ
kind L ps v = cond (micro L ps v) (micro_kind L ps v) (macro_kind L ps v)
