-- What is left of a text from the start of a line on. Assumes nothing.
use mathlib.Core.Path.{◌≡◌}
use mathlib.Core.List.{List, [], ◌∷◌}
use Prim.Native.Nat.{ℕ, ◌+◌, ◌≤◌, ◌<◌}
use lib.ListN.{length, drop, drop_of_length-le}
use Rattle.lines.specs.Text.{line_feed}
use Rattle.lines.specs.Fields.{parted}
use Rattle.lines.specs.Results.{NextByte, part}
use Rattle.lines.proofs.Cuts.{parted-next, parted-last}

module _ (text : List ℕ) (at : ℕ) where
  -- a line up to the next line feed, and what stands behind that
  pub rest-line : (end : ℕ) → NextByte text line_feed at end → end < length text → parted line_feed (drop at text) ≡ part at end text ∷ parted line_feed (drop (end + 1) text)
  rest-line end next h = parted-next line_feed text at end next h

  -- a line that is cut short, without a further line feed
  pub rest-cut : (end : ℕ) → NextByte text line_feed at end → length text ≤ end → parted line_feed (drop at text) ≡ drop at text ∷ []
  rest-cut end next h = parted-last line_feed text at end next h

  -- at the end nothing is left
  pub rest-none : length text ≤ at → parted line_feed (drop at text) ≡ [] ∷ []
  unfolding parted
  rest-none h = rw (drop_of_length-le text h)
