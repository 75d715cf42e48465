-- `packed::climbs_along` meets its contract: each word has the row along its path. Assumes nothing.
use Rattle.std.proofs.Common.{◌≡◌, ℕ, List, [], get_or, refl, sym, ap, ◌∙◌}
use Rattle.base.specs.Limits.{group_limit}
use Rattle.base.specs.Lists.{each, below}
use Rattle.base.proofs.Lists.{below_at}
use Rattle.shapes.specs.Packed.{byte, path_row}
use Rattle.shapes.specs.declared.packed.TheConstants.{CLIMBS_ALONG}
use Rattle.shapes.proofs.Fields.{no-path}
use Rattle.shapes.proofs.packed.climbs_along.Goals as goal

-- the table's words have the rows, one after another
all : below 64 (λ p. below group_limit (byte (get_or CLIMBS_ALONG p 0))) ≡ below 64 path_row
unfolding path_row each
all = refl

pub returns-then-path-ge-PATH_SPAN : goal.returns-then-path-ge-PATH_SPAN
unfolding path_row each
returns-then-path-ge-PATH_SPAN c = sym (no-path _ c.if-path-ge-PATH_SPAN.true)

pub returns : goal.returns
returns c =
    let p = c.args.path in
    let some = c.if-path-ge-PATH_SPAN.false in
    let word : ℕ → List ℕ = λ i. below group_limit (byte (get_or CLIMBS_ALONG i 0)) in
    sym (below_at 64 word [] p some) ∙ ap (λ l. get_or l p []) all ∙ below_at 64 path_row [] p some
