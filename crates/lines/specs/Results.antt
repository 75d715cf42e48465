-- How a result says what a line says. Assumes nothing.
use Rattle.std.specs.Prelude.{◌≡◌, List, [], ◌∷◌, Bool, false, ◌&&◌, ℕ, ◌+◌, ◌-◌, ◌≤◌, ◌<◌, length, get_or, take, drop, eqb, Some, None}
use Rattle.std.proofs.Math.Option.{Option, none, some}
use Rattle.lines.specs.Text.{comma, line_feed}
use Rattle.lines.specs.Fields.{number, Question}
use Rattle.lines.specs.Bands.{band_line}
use Rattle.lines.specs.declared.reading.Question.{Question as Asked}
use Rattle.lines.specs.declared.band_lines.Band.{Band}
use Rattle.std.specs.declared.option.Option as found

-- the question that was read, or none
abbrev pub asked_of : found.Option Asked → Option Question
asked_of (Some q) = some (record { entry = q.entry.0; depth = q.depth })
asked_of None = none

-- whether a line's first field is one stated letter, with a field behind it
unfoldable pub headed : ℕ → List ℕ → Bool
headed letter [] = false
headed letter (b ∷ []) = false
headed letter (b ∷ c ∷ l) = eqb b letter && eqb c comma

-- the first place of a byte from a place on, or the end
pub record NextByte (bytes : List ℕ) (byte from place : ℕ) : Type 0 where
  pub behind : from ≤ place
  pub within : from ≤ length bytes → place ≤ length bytes
  pub others : (k : ℕ) → from ≤ k → k < place → get_or bytes k 0 ≡ byte → ⊥
  pub there : place < length bytes → get_or bytes place 0 ≡ byte

-- the bytes from one place up to another
abbrev pub part : ℕ → ℕ → List ℕ → List ℕ
part a e bytes = take (e - a) (drop a bytes)

-- what stands from a place up to the next such byte, and was read as x, with the place behind that byte
pub record ReadTo {A : Type 0} (read : List ℕ → Option A) (bytes : List ℕ) (byte from : ℕ) (x : A) (next : ℕ) : Type 0 where
  pub end : ℕ
  pub found : NextByte bytes byte from end
  pub within : end < length bytes
  pub says : some x ≡ read (part from end bytes)
  pub behind : next ≡ end + 1

-- what stands there says nothing, wherever that byte is
abbrev pub NoneTo : {A : Type 0} → (List ℕ → Option A) → List ℕ → ℕ → ℕ → Type 0
NoneTo read bytes byte from = (end : ℕ) → NextByte bytes byte from end → end < length bytes → none ≡ read (part from end bytes)

-- a number that ends in a stated byte, and the place behind that byte
abbrev pub FieldAt : List ℕ → ℕ → ℕ → found.Option (ℕ × ℕ) → Type 0
FieldAt text end at (Some (x, next)) = ReadTo number text end at x next
FieldAt text end at None = NoneTo number text end at

-- a band, whose line ends in a line feed, and the place behind that
abbrev pub BandAt : List ℕ → ℕ → found.Option (Band × ℕ) → Type 0
BandAt text at (Some (b, next)) = ReadTo band_line text line_feed at (record { class = b.class.0; from = b.from; to = b.to; rate = b.rate }) next
BandAt text at None = NoneTo band_line text line_feed at
