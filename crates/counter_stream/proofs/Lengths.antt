-- The buffers that are lent stay the same from step to step, and so does their room. Assumes nothing.
use mathlib.Core.Path.{refl, ◌∙◌}
use native.Mathlib.Omega.{arith}
use Rattle.counter_stream.specs.declared.workspace.Workspace.{Workspace}
use Rattle.counter_stream.specs.Loans.{lent_by, SameLoan}
use Rattle.counter_stream.specs.Pieces.{Room}

pub room-kept : (w v : Workspace) → SameLoan w v → Room (lent_by w) → Room (lent_by v)
room-kept w v s r =
    record {
      line = omega (arith, s.line_length, r.line);
      list = record { listed = omega (arith, s.parents_length, r.list.listed); laid = omega (arith, s.table_length, r.list.laid); worked = omega (arith, s.space_length, r.list.worked) };
    }

pub loan-same : (w : Workspace) → SameLoan w w
loan-same w =
    record { line = refl; parents = refl; table = refl; space = refl; line_length = refl; parents_length = refl; table_length = refl; space_length = refl }

pub loan-then : (u v w : Workspace) → SameLoan u v → SameLoan v w → SameLoan u w
loan-then u v w s t =
    record {
      line = t.line ∙ s.line;
      parents = t.parents ∙ s.parents;
      table = t.table ∙ s.table;
      space = t.space ∙ s.space;
      line_length = t.line_length ∙ s.line_length;
      parents_length = t.parents_length ∙ s.parents_length;
      table_length = t.table_length ∙ s.table_length;
      space_length = t.space_length ∙ s.space_length;
    }
