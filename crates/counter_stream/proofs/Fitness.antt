-- What a state that fits tells, and where the program then stands. Assumes nothing.
use mathlib.Core.Path.{◌≡◌, refl, sym, ap, ◌∙◌}
use mathlib.Core.Logic.{◌⊎◌, inl, inr}
use mathlib.Core.List.{List, [], ◌∷◌}
use mathlib.Core.Bool.{Bool, true, false, cond, not, ◌&&◌}
use Prim.Native.Nat.{ℕ, zero, suc, ◌-◌, ◌≤◌, ◌<◌}
use native.Mathlib.Omega.{arith}
use lib.ListN.{length, take}
use lib.Dec.{eqb, ltb, leb}
use borrow.Author.Tests.{eqb-true, ltb-true, leb-true, le-leb, lt-leb, ne_eqb, not-true}
use Rattle.base.specs.Lists.{has}
use Rattle.base.specs.Limits.{table_words, space_words}
use Rattle.base.proofs.Lists.{clash}
use Rattle.lines.specs.Text.{line_feed}
use Rattle.lines.specs.Counter.{most_listed, bad_line}
use Rattle.lines.specs.Stages.{asking, ended, remaining, on_end, most_bytes}
use Rattle.lines.proofs.LineTexts.{end-text}
use Rattle.counter_stream.specs.declared.phases.Phase.{Phase}
use Rattle.counter_stream.specs.declared.phases.Phase.TheVariants.{AwaitsCount, AwaitsParent, AwaitsQuestion, AtEnd}
use Rattle.counter_stream.specs.declared.phases.State.{State}
use Rattle.counter_stream.specs.Fitness.{Lent, end_state, is_end, held_bytes, has_room, phase_fits, fits, stage_at, stage_of, stage_with, most_line, beginning, ending_at, ending}
use Rattle.counter_stream.specs.Pieces.{Room, StateFits, Ready}
use Rattle.counter_stream.proofs.LineFeeds.{plain_of}

-- both tests hold
pub both : (a b : Bool) → (a && b) ≡ true → (a ≡ true) × (b ≡ true)
both true b e = (refl, e)
both false b e = clash e

-- the room that a test finds
pub room_of : (b : Lent) → has_room b ≡ true → Room b
room_of b e =
    let l = both (leb most_bytes (length b.line)) _ e in
    let p = both (leb most_listed (length b.parents)) _ l.1 in
    let t = both (leb (table_words most_listed) (length b.table)) _ p.1 in
    record {
      line = leb-true _ _ l.0;
      list = record { listed = leb-true _ _ p.0; laid = leb-true _ _ t.0; worked = leb-true _ _ t.1 };
    }

module _ (st : State) (b : Lent) where
  pub fits-of : fits st b ≡ true → StateFits st b
  unfolding fits
  fits-of e =
      let r = both (has_room b && leb st.held most_bytes) _ e in
      let h = both (has_room b) _ r.0 in
      let p = both (phase_fits st.phase st) _ r.1 in
      record { room = room_of b h.0; few = leb-true _ _ h.1; phase = p.0; unbroken = not-true _ p.1 }

  -- the tests, one behind the other
  pub no_place : (has_room b ≡ false) ⊎ (most_bytes < st.held) → false ≡ fits st b
  unfolding fits
  no_place (inl r) = rw r
  no_place (inr h) = rw (lt-leb st.held most_bytes h) (go (has_room b))
    where
      go : (t : Bool) → false ≡ ((t && false) && (phase_fits st.phase st && not (has (held_bytes st b) line_feed)))
      go true = refl
      go false = refl

  pub held-within : (r : Bool) → r ≡ has_room b → (r && leb st.held most_bytes) ≡ true → st.held ≤ length b.line
  held-within r is t =
      let h = both (has_room b) _ (ap (λ x. x && leb st.held most_bytes) (sym is) ∙ t) in
      omega (arith, (room_of b h.0).line, leb-true st.held most_bytes h.1)

  module _ (room : has_room b ≡ true) (few : st.held ≤ most_bytes) where
    pub place-fits : (p x : Bool) → p ≡ phase_fits st.phase st → x ≡ has (held_bytes st b) line_feed → (p && not x) ≡ fits st b
    unfolding fits
    place-fits p x q e = rw (room, le-leb st.held most_bytes few, q, e)

    pub no_phase : phase_fits st.phase st ≡ false → false ≡ fits st b
    no_phase e = place-fits false (has (held_bytes st b) line_feed) (sym e) refl

  module _ (f : StateFits st b) where
    has-room : has_room b ≡ true
    has-room = rw (
      le-leb most_bytes (length b.line) f.room.line,
      le-leb most_listed (length b.parents) f.room.list.listed,
      le-leb (table_words most_listed) (length b.table) f.room.list.laid,
      le-leb (space_words most_listed) (length b.space) f.room.list.worked,
    )

    pub stage-fit : stage_with st b ≡ stage_of st b
    unfolding stage_with fits
    stage-fit = rw (has-room, le-leb st.held most_bytes f.few, f.phase, f.unbroken)

    -- the end of the input
    pub end_is : remaining (stage_with st b) (held_bytes st b) ≡ ending st
    unfolding on_end
    end_is =
        ap (λ s. remaining s (held_bytes st b)) stage-fit
        ∙ end-text (held_bytes st b) (plain_of (held_bytes st b) f.unbroken) (stage_of st b)
        ∙ go st.phase
      where
        cut : (table : List ℕ) (k held : ℕ) (l : List ℕ) → held ≤ length l → on_end (asking table k) (take held l) ≡ cond (eqb held 0) [] (bad_line k)
        cut table k zero l h = refl
        cut table k (suc n) [] h = absurd (omega arith)
        cut table k (suc n) (x ∷ l) h = rw (ne_eqb (suc n) 0 (λ z. omega arith))

        go : (p : Phase) → on_end (stage_at p st b.parents b.table) (held_bytes st b) ≡ ending_at p st
        go AwaitsCount = refl
        go AwaitsParent = refl
        go AwaitsQuestion = cut (take (table_words st.count) b.table) st.line st.held b.line (omega (arith, f.few, f.room.line))
        go AtEnd = refl

-- what the test of a phase finds
pub count_fits : (p : Phase) (st : State) → p ≡ AwaitsCount → phase_fits p st ≡ true → st.line ≡ 1
count_fits p st q e = eqb-true st.line 1 (rw q at e)

pub parent-fits : (p : Phase) (st : State) → p ≡ AwaitsParent → phase_fits p st ≡ true → (st.filled < st.count) × (st.count ≤ most_listed)
parent-fits p st q e = let t = both (ltb st.filled st.count) (leb st.count most_listed) (rw q at e) in (ltb-true _ _ t.0, leb-true _ _ t.1)

pub question-fits : (p : Phase) (st : State) → p ≡ AwaitsQuestion → phase_fits p st ≡ true → st.count ≤ most_listed
question-fits p st q e = leb-true st.count most_listed (rw q at e)

-- a line of bytes that the end cuts short
pub cut_short : (p : Phase) (st : State) (parents table l : List ℕ) → phase_fits p st ≡ true → is_end p ≡ false → 0 < length l → on_end (stage_at p st parents table) l ≡ bad_line st.line
unfolding on_end
cut_short AwaitsCount st parents table l e n h = ap bad_line (sym (eqb-true st.line 1 e))
cut_short AwaitsParent st parents table l e n h = refl
cut_short AwaitsQuestion st parents table [] e n h = absurd (omega arith)
cut_short AwaitsQuestion st parents table (b ∷ l) e n h = refl
cut_short AtEnd st parents table l e n h = clash (sym n)

pub at-end : (p : Phase) (st : State) (parents table : List ℕ) → is_end p ≡ true → stage_at p st parents table ≡ ended
at-end AwaitsCount st parents table e = clash e
at-end AwaitsParent st parents table e = clash e
at-end AwaitsQuestion st parents table e = clash e
at-end AtEnd st parents table e = refl

pub stage-end : (b : Lent) → stage_with end_state b ≡ ended
unfolding stage_with
stage-end b = go (fits end_state b)
  where
    go : (t : Bool) → cond t ended ended ≡ ended
    go true = refl
    go false = refl

-- the lines of a piece can be numbered, or the program is at its end
module _ (st : State) (b : Lent) (n : ℕ) where
  pub begins : n ≤ most_line - st.line → beginning st b n ≡ stage_with st b
  unfolding beginning
  begins h = rw (le-leb n (most_line - st.line) h)

  pub ready_of : leb n (most_line - st.line) ≡ true → fits st b ≡ true → Ready st n b
  ready_of k f = record { fits = fits-of st b f; numbered = leb-true n (most_line - st.line) k }

  pub unfit : (leb n (most_line - st.line) ≡ false) ⊎ (fits st b ≡ false) → beginning st b n ≡ ended
  unfolding beginning stage_with
  unfit (inl k) = rw k
  unfit (inr f) = rw f (go (leb n (most_line - st.line)))
    where
      go : (t : Bool) → cond t ended ended ≡ ended
      go true = refl
      go false = refl
