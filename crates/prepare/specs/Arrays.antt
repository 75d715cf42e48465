-- Arrays by preorder position, and the sections that a pass over them leaves. Assumes nothing.
use Rattle.std.specs.Prelude.{◌≡◌, List, map, ℕ, ◌+◌, ◌-◌, ◌≤◌, ◌<◌, length, get_or}
use Rattle.std.proofs.Math.Option.{some, Option-elim}
use Rattle.base.specs.Limits.{most_entries, group_limit, top_mark}
use Rattle.base.specs.Lists.{below}
use Rattle.base.specs.Powers.{exponent}
use Rattle.tree.specs.Parents.{parent, up, depth}
use Rattle.tree.specs.Forest.{size, order, position, long_child}
use Rattle.tree.specs.Faults.{Tree}
use Rattle.table.specs.Groups.{kind}

-- a list of few enough entries that forms one tree
pub record OneTree (ps : List ℕ) : Type 0 where
  pub few : length ps ≤ most_entries
  pub tree : Tree ps

-- the entry at a position
abbrev pub entry_at : List ℕ → ℕ → ℕ
entry_at ps i = get_or (order ps) i 0

-- the position of the entry above v, and of the child to which its long path continues, or the top mark
unfoldable pub above_position : List ℕ → ℕ → ℕ
above_position ps v = Option-elim (parent ps v) top_mark (position ps)

unfoldable pub long_position : List ℕ → ℕ → ℕ
long_position ps v = Option-elim (long_child ps v) top_mark (position ps)

-- an array with a word for each position, that of the entry there
abbrev pub by_position : List ℕ → (ℕ → ℕ) → List ℕ
by_position ps f = map f (order ps)

-- ORDER, DEPTH, SIZE and ABOVE by position
abbrev pub order_of : List ℕ → List ℕ
order_of ps = order ps

abbrev pub depths_of : List ℕ → List ℕ
depths_of ps = by_position ps (depth ps)

abbrev pub sizes_of : List ℕ → List ℕ
sizes_of ps = by_position ps (size ps)

abbrev pub aboves_of : List ℕ → List ℕ
aboves_of ps = by_position ps (above_position ps)

-- KIND by entry
abbrev pub kinds_of : List ℕ → List ℕ
kinds_of ps = below (length ps) (kind group_limit ps)

-- the word of a record behind its ancestors, by the entry's depth: the ancestor for e stands in word e + 1, and the last of them is for the exponent of the depth
unfoldable pub ancestors_end : ℕ → ℕ
ancestors_end deep = Option-elim (exponent deep) 1 (λ e. e + 2)

-- the ancestors of v, the nearest last, in the words before a place, and all else as it was
pub record Risen (ps : List ℕ) (v place count : ℕ) (old new : List ℕ) : Type 0 where
  pub same : length new ≡ length old
  pub before : (j : ℕ) → j + count < place → get_or new j 0 ≡ get_or old j 0
  pub behind : (j : ℕ) → place ≤ j → get_or new j 0 ≡ get_or old j 0
  pub words : (k u : ℕ) → 1 ≤ k → k ≤ count → up ps k v ≡ some u → get_or new (place - k) 0 ≡ u
