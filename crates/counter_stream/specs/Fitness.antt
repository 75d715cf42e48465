-- Where the program stands, for every state and all lent buffers. Assumes nothing.
use Rattle.std.specs.Prelude.{List, [], Bool, true, false, cond, not, ◌&&◌, ℕ, suc, ◌-◌, length, take, eqb, ltb, leb}
use Rattle.base.specs.Lists.{has}
use Rattle.base.specs.Limits.{table_words, space_words}
use Rattle.lines.specs.Text.{line_feed}
use Rattle.lines.specs.Texts.{row_room}
use Rattle.lines.specs.Counter.{most_listed, bad_line}
use Rattle.lines.specs.Stages.{Stage, counting, parenting, asking, ended, most_bytes}
use Rattle.counter_stream.specs.declared.phases.Phase.{Phase}
use Rattle.counter_stream.specs.declared.phases.Phase.TheVariants.{AwaitsCount, AwaitsParent, AwaitsQuestion, AtEnd}
use Rattle.counter_stream.specs.declared.phases.State.{State}

-- what is lent: the bytes of an unfinished line, the parents, the table, the working space
pub record Lent : Type 0 where
  pub line : List ℕ
  pub parents : List ℕ
  pub table : List ℕ
  pub space : List ℕ

abbrev pub lent : List ℕ → List ℕ → List ℕ → List ℕ → Lent
lent line parents table space = record { line = line; parents = parents; table = table; space = space }

-- the states before the first byte, and at the end
abbrev pub start_state : State
start_state = record { phase = AwaitsCount; line = 1; count = 0; filled = 0; held = 0 }

abbrev pub end_state : State
end_state = record { phase = AtEnd; line = 0; count = 0; filled = 0; held = 0 }

abbrev pub is_end : Phase → Bool
is_end AwaitsCount = false
is_end AwaitsParent = false
is_end AwaitsQuestion = false
is_end AtEnd = true

-- the bytes of the unfinished line
abbrev pub held_bytes : State → Lent → List ℕ
held_bytes st b = take st.held b.line

-- room for the longest line and the longest list
abbrev pub has_room : Lent → Bool
has_room b = leb most_bytes (length b.line) && (leb most_listed (length b.parents) && (leb (table_words most_listed) (length b.table) && leb (space_words most_listed) (length b.space)))

-- the count is on line 1; in the list there is an entry to come; a list has at most 512 entries
abbrev pub phase_fits : Phase → State → Bool
phase_fits AwaitsCount st = eqb st.line 1
phase_fits AwaitsParent st = ltb st.filled st.count && leb st.count most_listed
phase_fits AwaitsQuestion st = leb st.count most_listed
phase_fits AtEnd st = true

-- a state fits these buffers: they have room, it holds at most 23 bytes and no line feed, and its phase's numbers are those of a list of at most 512 entries
unfoldable pub fits : State → Lent → Bool
fits st b = (has_room b && leb st.held most_bytes) && (phase_fits st.phase st && not (has (held_bytes st b) line_feed))

-- the stage that a phase's numbers tell, with the parents and the table
abbrev pub stage_at : Phase → State → List ℕ → List ℕ → Stage
stage_at AwaitsCount st parents table = counting
stage_at AwaitsParent st parents table = parenting (st.count - suc st.filled) (take st.filled parents) st.line
stage_at AwaitsQuestion st parents table = asking (take (table_words st.count) table) st.line
stage_at AtEnd st parents table = ended

abbrev pub stage_of : State → Lent → Stage
stage_of st b = stage_at st.phase st b.parents b.table

-- where the program stands: at its end, where state and buffers do not fit
unfoldable pub stage_with : State → Lent → Stage
stage_with st b = cond (fits st b) (stage_of st b) ended

-- where it stands as n bytes are lent: at its end too, where so many lines could not all be numbered in 64 bits
abbrev pub most_line : ℕ
most_line = 18446744073709551615

unfoldable pub beginning : State → Lent → ℕ → Stage
beginning st b n = cond (leb n (most_line - st.line)) (stage_with st b) ended

-- what the end of the input prints: what is cut short or missing
abbrev pub ending_at : Phase → State → List ℕ
ending_at AwaitsCount st = bad_line 1
ending_at AwaitsParent st = bad_line st.line
ending_at AwaitsQuestion st = cond (eqb st.held 0) [] (bad_line st.line)
ending_at AtEnd st = []

abbrev pub ending : State → List ℕ
ending st = ending_at st.phase st

-- with no room for a row nothing is printed
abbrev pub last_text : State → ℕ → List ℕ
last_text st room = cond (leb row_room room) (ending st) []
