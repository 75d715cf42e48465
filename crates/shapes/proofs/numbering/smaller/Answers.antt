-- `shapes::numbering::smaller` meets its contract: each byte is the count at its place. Assumes nothing.
use mathlib.Core.Path.{◌≡◌, refl, sym, ap, ◌∙◌}
use mathlib.Core.List.{List}
use Prim.Native.Nat.{ℕ, ◌<◌}
use lib.ListN.{length, get_or}
use Rattle.base.specs.Limits.{group_limit}
use Rattle.base.specs.Lists.{each, below}
use Rattle.base.proofs.Lists.{below_at}
use Rattle.shapes.specs.Walks.{shapes}
use Rattle.shapes.specs.Packed.{byte}
use Rattle.shapes.proofs.numbering.smaller.Goals as goal

abbrev word : ℕ
word = 0x41170904020100

all : ◌≡◌ {A = List ℕ} (below group_limit (byte word)) (below group_limit (λ m. length (shapes m)))
unfolding each
all = refl

at : (m : ℕ) → m < group_limit → byte word m ≡ length (shapes m)
at m h = sym (below_at group_limit (byte word) 0 m h) ∙ ap (λ l. get_or l m 0) all ∙ below_at group_limit (λ k. length (shapes k)) 0 m h

pub returns : goal.returns
returns c = c.byte.ensures ∙ at _ c.requires
