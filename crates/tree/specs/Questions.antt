-- What the five questions mean, by climbing from parent to parent. The class of an entry at a depth is its level ancestor there. Assumes nothing.
use Rattle.std.specs.Prelude.{List, cond, ℕ, length, leb}
use Rattle.std.proofs.Math.Option.{Option-elim}
use Rattle.base.specs.Lists.{first, has}
use Rattle.base.specs.Numbers.{Outcome, accepted, unknown, too_deep, not_above}
use Rattle.tree.specs.Parents.{up, climb, children}
use Rattle.tree.specs.Level.{level_ancestor}

-- 7 where v is no entry, else o
abbrev pub known : List ℕ → ℕ → Outcome → Outcome
known ps v o = cond (leb (length ps) v) (unknown v) o

-- level: 8 where v has no ancestor at depth d
unfoldable pub class_of : List ℕ → ℕ → ℕ → Outcome
class_of ps v d = known ps v (Option-elim (level_ancestor ps v d) (too_deep v) accepted)

-- rating at rating level d: v itself where it has no ancestor at depth d
unfoldable pub rating_of : List ℕ → ℕ → ℕ → Outcome
rating_of ps v d = known ps v (accepted (Option-elim (level_ancestor ps v d) v (λ u. u)))

-- climb: 8 where no entry is k climbs above v
unfoldable pub climb_of : List ℕ → ℕ → ℕ → Outcome
climb_of ps v k = known ps v (Option-elim (up ps k v) (too_deep v) accepted)

-- ancestry: 1 where u is on v's climb, else 0
unfoldable pub ancestry_of : List ℕ → ℕ → ℕ → Outcome
ancestry_of ps u v = known ps u (known ps v (accepted (cond (has (climb ps v) u) 1 0)))

-- branch: the child of u on v's climb, 10 where there is none
unfoldable pub branch_of : List ℕ → ℕ → ℕ → Outcome
branch_of ps u v = known ps u (known ps v (Option-elim (first (has (climb ps v)) (children ps u)) (not_above u) accepted))
