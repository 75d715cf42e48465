-- A byte more: a line's end, a byte of a line, a line that is too long, a byte behind the end. Assumes nothing.
use mathlib.Core.Path.{◌≡◌, refl, sym, ap, ◌∙◌}
use mathlib.Core.List.{List, [], ◌∷◌, ◌++◌, append_assoc, append-nil}
use mathlib.Core.Bool.{true, false}
use Prim.Native.Nat.{ℕ, suc, ◌+◌, ◌≤◌, ◌<◌}
use native.Mathlib.Omega.{arith}
use lib.ListN.{length, take, set, length-append, length-take, length-set}
use lib.Seq.{take-suc-set}
use Rattle.base.specs.Lists.{some?, has}
use Rattle.lines.specs.Text.{line_feed}
use Rattle.lines.specs.Counter.{bad_line}
use Rattle.lines.specs.Stages.{ended, remaining, on_line, most_bytes}
use Rattle.lines.proofs.LineTexts.{line-text}
use Rattle.lines.proofs.LongLines.{long-text}
use Rattle.counter_stream.specs.declared.phases.Phase.{Phase}
use Rattle.counter_stream.specs.declared.phases.Phase.TheVariants.{AwaitsCount, AwaitsParent, AwaitsQuestion, AtEnd}
use Rattle.counter_stream.specs.declared.phases.State.{State}
use Rattle.counter_stream.specs.Fitness.{Lent, end_state, is_end, held_bytes, phase_fits, stage_at, stage_of, stage_with, beginning}
use Rattle.counter_stream.specs.Lines.{Turned}
use Rattle.counter_stream.specs.Pieces.{Room, StateFits, Ready, Fed, ByteFed}
use Rattle.counter_stream.proofs.LineFeeds.{plain_of, has_more}
use Rattle.counter_stream.proofs.Fitness.{stage-fit, end_is, cut_short, at-end, stage-end, begins}

-- the end fits all buffers with room
end_fits : (b : Lent) → Room b → StateFits end_state b
unfolding some?
end_fits b r = record { room = r; few = omega arith; phase = refl; unbroken = refl }

-- with one byte more of a line
abbrev pub longer : State → State
longer st = record { phase = st.phase; line = st.line; count = st.count; filled = st.filled; held = st.held + 1 }

longer-stage : (p : Phase) (st : State) (parents table : List ℕ) → stage_at p st parents table ≡ stage_at p (longer st) parents table
longer-stage AwaitsCount st parents table = refl
longer-stage AwaitsParent st parents table = refl
longer-stage AwaitsQuestion st parents table = refl
longer-stage AtEnd st parents table = refl

longer-fits : (p : Phase) (st : State) → phase_fits p (longer st) ≡ phase_fits p st
longer-fits AwaitsCount st = refl
longer-fits AwaitsParent st = refl
longer-fits AwaitsQuestion st = refl
longer-fits AtEnd st = refl

module _ (st : State) (b : Lent) (n : ℕ) (ready : Ready st n b) where
  -- what was read, from one fitting state to another
  fed_by : (read text : List ℕ) (after : State) (left : Lent) → StateFits after left → after.line ≤ st.line + length read
      → ((rest : List ℕ) → remaining (stage_of st b) (held_bytes st b ++ (read ++ rest)) ≡ text ++ remaining (stage_of after left) (held_bytes after left ++ rest))
      → Fed st b n read text after left
  fed_by read text after left f lines same = record {
    lines = lines;
    goes_on = on;
    ends = sym (ap (λ l. remaining (beginning st b n) (held_bytes st b ++ l)) (append-nil read)) ∙ on [] ∙ ap (λ l. text ++ l) (ap (remaining (stage_with after left)) (append-nil (held_bytes after left)) ∙ end_is after left f);
  }
    where
      on : (rest : List ℕ) → remaining (beginning st b n) (held_bytes st b ++ (read ++ rest)) ≡ text ++ remaining (stage_with after left) (held_bytes after left ++ rest)
      on rest =
          ap (λ s. remaining s (held_bytes st b ++ (read ++ rest))) (begins st b n ready.numbered ∙ stage-fit st b ready.fits)
          ∙ same rest
          ∙ ap (λ s. text ++ remaining s (held_bytes after left ++ rest)) (sym (stage-fit after left f))

  pub fed-none : Fed st b n [] [] st b
  fed-none = fed_by [] [] st b ready.fits (omega arith) (λ rest. refl)

module _ (st : State) (b : Lent) (ready : Ready st 1 b) (byte : ℕ) (text : List ℕ) where
  -- a line's end
  pub end-feeds : byte ≡ line_feed → (after : State) (left : Lent) → Room left
      → Turned (on_line (stage_of st b) (held_bytes st b)) (st.line + 1) after left text
      → ByteFed st b byte text after left
  unfolding some?
  end-feeds e after left room u =
      let s = stage_of st b in
      let l = held_bytes st b in
      let none-held : held_bytes after left ≡ [] = ap (λ k. take k left.line) u.fresh in
      let f : StateFits after left = record { room = room; few = omega (arith, u.fresh); phase = u.fits; unbroken = ap (λ l. has l line_feed) none-held } in
      record {
        fed = fed_by st b 1 ready (byte ∷ []) text after left f u.lines
            (λ rest. ap (λ x. remaining s (l ++ (x ∷ rest))) e
            ∙ line-text l rest (plain_of l ready.fits.unbroken) s
            ∙ ap (λ x. x ++ remaining (on_line s l).next rest) (sym u.printed)
            ∙ ap (λ s. text ++ remaining s rest) (sym u.stands)
            ∙ ap (λ x. text ++ remaining (stage_of after left) (x ++ rest)) (sym none-held));
        fits = f;
      }

  -- a byte of a line
  pub byte-feeds : (byte ≡ line_feed → ⊥) → st.held < most_bytes → text ≡ []
      → ByteFed st b byte text (longer st) (record { line = set b.line st.held byte; parents = b.parents; table = b.table; space = b.space })
  byte-feeds n h e =
      let room = ready.fits.room in
      let left : Lent = record { line = set b.line st.held byte; parents = b.parents; table = b.table; space = b.space } in
      let k : st.held + 1 ≡ suc st.held = omega arith in
      let held : held_bytes (longer st) left ≡ held_bytes st b ++ (byte ∷ []) = ap (λ k. take k left.line) k ∙ take-suc-set b.line st.held byte (omega (arith, room.line)) in
      let f : StateFits (longer st) left = record {
        room = record { line = omega (arith, room.line, length-set b.line st.held byte); list = record { listed = room.list.listed; laid = room.list.laid; worked = room.list.worked } };
        few = omega arith;
        phase = longer-fits st.phase st ∙ ready.fits.phase;
        unbroken = ap (λ l. has l line_feed) held ∙ has_more (held_bytes st b) byte n ready.fits.unbroken;
      } in
      record {
        fed = fed_by st b 1 ready (byte ∷ []) text (longer st) left f (omega arith)
            (λ rest. ap (λ s. remaining s (held_bytes st b ++ (byte ∷ rest))) (longer-stage st.phase st b.parents b.table)
            ∙ ap (remaining (stage_at st.phase (longer st) b.parents b.table)) (sym (append_assoc (held_bytes st b) (byte ∷ []) rest) ∙ ap (λ l. l ++ rest) (sym held))
            ∙ ap (λ x. x ++ remaining (stage_at st.phase (longer st) b.parents b.table) (held_bytes (longer st) left ++ rest)) (sym e));
        fits = f;
      }

  -- a byte too many for a line
  pub long-feeds : (byte ≡ line_feed → ⊥) → most_bytes ≤ st.held → is_end st.phase ≡ false → text ≡ bad_line st.line → ByteFed st b byte text end_state b
  unfolding remaining
  long-feeds n h live e =
      let l = held_bytes st b ++ (byte ∷ []) in
      let s = stage_of st b in
      let room = ready.fits.room in
      let len : length l ≡ suc st.held = omega (arith, length-append (held_bytes st b) (byte ∷ []), length-take st.held b.line, room.line, ready.fits.few) in
      record {
        fed = fed_by st b 1 ready (byte ∷ []) text end_state b (end_fits b room) (omega arith)
            (λ rest. sym (ap (remaining s) (append_assoc (held_bytes st b) (byte ∷ []) rest))
            ∙ long-text l rest (plain_of l (has_more (held_bytes st b) byte n ready.fits.unbroken)) (omega (arith, len)) s
            ∙ cut_short st.phase st b.parents b.table l ready.fits.phase live (omega (arith, len))
            ∙ sym e
            ∙ sym (append-nil text));
        fits = end_fits b room;
      }

  -- a byte behind the end
  pub ended-feeds : is_end st.phase ≡ true → text ≡ [] → ByteFed st b byte text end_state b
  unfolding remaining
  ended-feeds z e =
      let room = ready.fits.room in
      record {
        fed = fed_by st b 1 ready (byte ∷ []) text end_state b (end_fits b room) (omega arith)
            (λ rest. ap (λ s. remaining s (held_bytes st b ++ (byte ∷ rest))) (at-end st.phase st b.parents b.table z) ∙ sym (append-nil []) ∙ ap (λ l. l ++ []) (sym e));
        fits = end_fits b room;
      }

-- a piece for a program at its end
pub unfit-feeds : (st : State) (b left : Lent) (n : ℕ) (read text : List ℕ) → beginning st b n ≡ ended → text ≡ [] → Fed st b n read text end_state left
unfolding remaining
unfit-feeds st b left n read text z e = record {
  lines = omega arith;
  goes_on = λ rest. ap (λ s. remaining s (held_bytes st b ++ (read ++ rest))) z ∙ sym (ap (λ s. text ++ remaining s rest) (stage-end left) ∙ append-nil text ∙ e);
  ends = ap (λ s. remaining s (held_bytes st b ++ read)) z ∙ sym (append-nil text ∙ e);
}
