-- `shapes::numbering::ways` meets its contract: each word has the counts at its number. Assumes nothing.
use Rattle.std.proofs.Common.{◌≡◌, ℕ, ◌-◌, List, [], length, get_or, refl, sym, ap, ◌∙◌}
use Rattle.base.specs.Limits.{group_limit}
use Rattle.base.specs.Lists.{each, below}
use Rattle.base.proofs.Lists.{below_at}
use Rattle.shapes.specs.Walks.{walks}
use Rattle.shapes.specs.Packed.{byte}
use Rattle.shapes.specs.declared.numbering.TheConstants.{WAYS}
use Rattle.shapes.proofs.numbering.ways.Goals as goal

-- the bytes of each word are the ways with so many downs to come
bytes : ℕ → List ℕ
bytes o = below (group_limit - o) (byte (get_or WAYS o 0))

counts : ℕ → List ℕ
counts o = below (group_limit - o) (λ c. length (walks o c))

all : below group_limit bytes ≡ below group_limit counts
unfolding each bytes counts
all = refl

pub returns : goal.returns
unfolding bytes counts
returns c = let o = c.args.downs in sym (below_at group_limit bytes [] o c.requires) ∙ ap (λ l. get_or l o []) all ∙ below_at group_limit counts [] o c.requires
