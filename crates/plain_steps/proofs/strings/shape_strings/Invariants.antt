-- The strings before the next are listed. Assumes nothing.
use Rattle.plain_steps.proofs.strings.StringLists.{Listed}
use Rattle.plain_steps.proofs.strings.shape_strings.Given as goal

abbrev pub invariant-loop-string : goal.invariant-loop-string
invariant-loop-string l = Listed l.all l.at l.string
