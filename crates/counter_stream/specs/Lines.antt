-- What a whole line needs, and what it prints and leaves. Assumes nothing.
use Rattle.std.specs.Prelude.{◌≡◌, List, true, ℕ, ◌+◌, ◌≤◌, ◌<◌, length}
use Rattle.base.specs.Limits.{table_words, space_words}
use Rattle.lines.specs.Counter.{most_listed}
use Rattle.lines.specs.Stages.{Turn, on_line}
use Rattle.counter_stream.specs.declared.phases.Phase.TheVariants.{AwaitsParent}
use Rattle.counter_stream.specs.declared.phases.State.{State}
use Rattle.counter_stream.specs.Fitness.{Lent, held_bytes, phase_fits, stage_of, most_line}

-- parents, table and space have room for the longest list
pub record ListRoom (b : Lent) : Type 0 where
  pub listed : most_listed ≤ length b.parents
  pub laid : table_words most_listed ≤ length b.table
  pub worked : space_words most_listed ≤ length b.space

-- before a line, which is held
pub record LineDue (st : State) (b : Lent) : Type 0 where
  pub fits : phase_fits st.phase st ≡ true
  pub numbered : st.line < most_line
  pub held : st.held ≤ length b.line
  pub room : ListRoom b

-- behind a line of the list
pub record ListDue (st : State) (b : Lent) : Type 0 where
  pub phase : st.phase ≡ AwaitsParent
  pub fresh : st.held ≡ 0
  pub read : st.filled ≤ st.count
  pub few : st.count ≤ most_listed
  pub room : ListRoom b

-- behind a line: what it printed, where the program then stands, and the most that the next line's number can be
pub record Turned (turn : Turn) (most : ℕ) (st : State) (b : Lent) (text : List ℕ) : Type 0 where
  pub printed : text ≡ turn.out
  pub stands : stage_of st b ≡ turn.next
  pub fits : phase_fits st.phase st ≡ true
  pub fresh : st.held ≡ 0
  pub lines : st.line ≤ most

-- behind a held line
abbrev pub LineTurned : State → Lent → State → Lent → List ℕ → Type 0
LineTurned st b after left text = Turned (on_line (stage_of st b) (held_bytes st b)) (st.line + 1) after left text
