-- The program piece by piece: what the bytes of a piece print, and the state behind them. Assumes nothing.
use Rattle.std.specs.Prelude.{◌≡◌, List, [], ◌∷◌, ◌++◌, true, false, ℕ, ◌+◌, ◌-◌, ◌≤◌, ◌<◌, length, take}
use Rattle.base.specs.Lists.{has}
use Rattle.lines.specs.Text.{line_feed}
use Rattle.lines.specs.Stages.{remaining, most_bytes}
use Rattle.counter_stream.specs.declared.phases.State.{State}
use Rattle.counter_stream.specs.declared.pieces.Progress.{Progress}
use Rattle.lines.specs.Texts.{row_room}
use Rattle.counter_stream.specs.Fitness.{Lent, held_bytes, phase_fits, stage_with, most_line, beginning, ending}
use Rattle.counter_stream.specs.Lines.{ListRoom}

-- room for the longest line and the longest list
pub record Room (b : Lent) : Type 0 where
  pub line : most_bytes ≤ length b.line
  pub list : ListRoom b

-- room too for a row of the output: what a program lends
pub record Buffers (b : Lent) (out : List ℕ) : Type 0 where
  pub room : Room b
  pub row : row_room ≤ length out

-- a state fits these buffers: the same, as facts
pub record StateFits (st : State) (b : Lent) : Type 0 where
  pub room : Room b
  pub few : st.held ≤ most_bytes
  pub phase : phase_fits st.phase st ≡ true
  pub unbroken : has (held_bytes st b) line_feed ≡ false

-- and the lines of n bytes can all be numbered
pub record Ready (st : State) (n : ℕ) (b : Lent) : Type 0 where
  pub fits : StateFits st b
  pub numbered : n ≤ most_line - st.line

-- bytes of a piece of n bytes were read: their text, with what goes on or the end prints behind them, is what was to be printed
pub record Fed (st : State) (b : Lent) (n : ℕ) (read text : List ℕ) (after : State) (left : Lent) : Type 0 where
  pub lines : after.line ≤ st.line + length read
  pub goes_on : (rest : List ℕ) → remaining (beginning st b n) (held_bytes st b ++ (read ++ rest)) ≡ text ++ remaining (stage_with after left) (held_bytes after left ++ rest)
  pub ends : remaining (beginning st b n) (held_bytes st b ++ read) ≡ text ++ ending after

-- a byte was read
pub record ByteFed (st : State) (b : Lent) (byte : ℕ) (text : List ℕ) (after : State) (left : Lent) : Type 0 where
  pub fed : Fed st b 1 (byte ∷ []) text after left
  pub fits : StateFits after left

-- what a call of `feed` reads and prints
abbrev pub FedPiece : State → Lent → List ℕ → Progress → List ℕ → Lent → Type 0
FedPiece st b input r out left = Fed st b (length input) (take r.used input) (take r.written out) r.state left

-- how much it reads and prints: all, as long as a row has room
pub record Counted (input out : ℕ) (r : Progress) : Type 0 where
  pub there : r.used ≤ input
  pub within : r.written ≤ out
  pub all : r.used < input → out < r.written + row_room
  pub some : 0 < input → row_room ≤ out → 0 < r.used

-- calls of `feed` one behind the other, each lent n bytes of the input that is left and reading some, and `finish` behind them
pub data Calls : State → Lent → List ℕ → List ℕ → Type 0 where
  finishes : (st : State) (b : Lent) → Calls st b [] (ending st)
  feeds : (st : State) (b : Lent) (n : ℕ) (xs t : List ℕ) (mid : State) (kept : Lent) → Fed st b n xs t mid kept → (ys u : List ℕ) → n ≤ length xs + length ys → Calls mid kept ys u
      → (input text : List ℕ) → input ≡ xs ++ ys → text ≡ t ++ u → Calls st b input text
