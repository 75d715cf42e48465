-- `records::jump_section` meets its contract. Assumes nothing.
use mathlib.Core.Path.{◌≡◌}
use Prim.Native.Nat.{◌+◌, ◌*◌}
use native.Mathlib.Omega.{arith}
use lib.ListN.{length, take}
use Rattle.base.specs.Limits.{group_limit}
use Rattle.base.proofs.Puts.{lent}
use Rattle.table.specs.Groups.{jump_nodes}
use Rattle.prepare.specs.Arrays.{OneTree}
use Rattle.prepare.proofs.Preorder.{one-tree}
use Rattle.prepare.proofs.records.Rows.{zeros-put, ready, jumps-laid}
use Rattle.prepare.proofs.records.jump_section.Goals as goal
use Rattle.prepare.proofs.records.jump_section.Goals.{Start, After-jump_nodes}

one : (c : Start) → OneTree c.args.tree.parents.now
one c = one-tree c.args.tree.few c.args.tree.judged

pub jump_nodes-requires : goal.jump_nodes-requires
jump_nodes-requires c =
    let n = length c.args.tree.parents.now in
    (lent (4 + n) (4 + 2 * n) n c.args.table.now _ (omega arith) c.requires.0.families.kinds, c.requires.2)

-- the list of the jump entries, as it is lent
nodes : (j : After-jump_nodes) → take j.args.jumps j.jump_nodes.new.cells ≡ jump_nodes group_limit j.args.tree.parents.now
nodes j = rw j.requires.3 j.jump_nodes.ensures

pub records-requires : goal.records-requires
records-requires c =
    let t = one (goal.at.records-requires c).Start in
    ready t c.requires.0 c.requires.1 _ _ (zeros-put t c.requires.0 c.requires.1 c.fill.new.self (c.fill.ensures.after (λ y e. e))) (nodes (goal.at.records-requires c).After-jump_nodes)

pub returns : goal.returns
returns c =
    let t = one (goal.at.returns c).Start in
    jumps-laid t c.requires.0 c.requires.1 _ _ _ (zeros-put t c.requires.0 c.requires.1 c.fill.new.self (c.fill.ensures.after (λ y e. e))) (nodes (goal.at.returns c).After-jump_nodes) c.records.ensures
