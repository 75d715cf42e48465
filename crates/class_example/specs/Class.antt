-- The class of an entry, from the parent list. Assumes nothing.
use Rattle.std.specs.Prelude.{List, ℕ}
use Rattle.std.proofs.Math.Option.{Option-elim}
use Rattle.base.specs.Numbers.{Outcome}
use Rattle.tree.specs.Questions.{class_of}
use Rattle.table.specs.Preparing.{refusal}

-- the refusal of a call of preparing, and else the class by climbing
unfoldable pub class_from : List ℕ → ℕ → ℕ → ℕ → ℕ → Outcome
class_from ps table_len space_len v d = Option-elim (refusal ps table_len space_len) (class_of ps v d) (λ o. o)
