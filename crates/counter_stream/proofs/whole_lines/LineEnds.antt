-- A whole line at each stage. Assumes nothing.
use mathlib.Core.Path.{◌≡◌, refl, sym, ap, ◌∙◌}
use mathlib.Core.List.{List, [], ◌∷◌, ◌++◌}
use mathlib.Core.Option.{none, some, Option-elim}
use Prim.Native.Nat.{ℕ, suc, ◌+◌, ◌-◌, ◌≤◌, ◌<◌}
use native.Mathlib.Omega.{arith}
use lib.ListN.{length, take, set}
use lib.Seq.{take-suc-set}
use borrow.Author.Tests.{lt-ltb, le-ltb, le-leb}
use Rattle.base.specs.Limits.{table_words}
use Rattle.lines.specs.Fields.{count_of, parent_of, Question, question_of}
use Rattle.lines.specs.Counter.{most_listed, bad_line, answer_row}
use Rattle.lines.specs.Stages.{asking, ends, listed, on_line}
use Rattle.counter_stream.specs.declared.phases.Phase.TheVariants.{AwaitsCount, AwaitsParent, AwaitsQuestion}
use Rattle.counter_stream.specs.declared.phases.State.{State}
use Rattle.counter_stream.specs.Fitness.{Lent, end_state, stage_of}
use Rattle.counter_stream.specs.Lines.{Turned}

-- a text, and the end
pub ends-turn : (most : ℕ) (b : Lent) (text out : List ℕ) → text ≡ out → Turned (ends out) most end_state b text
ends-turn most b text out e = record { printed = e; stands = refl; fits = refl; fresh = refl; lines = omega arith }

module _ (st : State) (b left : Lent) (l text : List ℕ) (most : ℕ) where
  module _ (q : st.phase ≡ AwaitsCount) where
    pub count-bad : none ≡ count_of l → text ≡ bad_line 1 → Turned (on_line (stage_of st b) l) most end_state left text
    unfolding on_line Option-elim
    count-bad e t = rw (q, sym e) (ends-turn most left text (bad_line 1) t)

    pub count-large : (n : ℕ) → some n ≡ count_of l → most_listed < n → text ≡ bad_line 1 → Turned (on_line (stage_of st b) l) most end_state left text
    unfolding on_line Option-elim
    count-large n e h t = rw (q, sym e, lt-ltb most_listed n h) (ends-turn most left text (bad_line 1) t)

    pub count-fine : (n : ℕ) (after : State) → some n ≡ count_of l → n ≤ most_listed → Turned (listed n [] 2) most after left text → Turned (on_line (stage_of st b) l) most after left text
    unfolding on_line Option-elim
    count-fine n after e h t = rw (q, sym e, le-ltb most_listed n h) t

  module _ (q : st.phase ≡ AwaitsParent) where
    pub parent-bad : none ≡ parent_of l → text ≡ bad_line st.line → Turned (on_line (stage_of st b) l) most end_state left text
    unfolding on_line Option-elim
    parent-bad e t = rw (q, sym e) (ends-turn most left text (bad_line st.line) t)

    -- one parent more, in its place
    pub parent-fine : (p : ℕ) (after : State) → some p ≡ parent_of l → st.filled < length b.parents
        → Turned (listed (st.count - (st.filled + 1)) (take (st.filled + 1) (set b.parents st.filled p)) (st.line + 1)) most after left text
        → Turned (on_line (stage_of st b) l) most after left text
    unfolding on_line Option-elim
    parent-fine p after e h t =
        let f : st.filled + 1 ≡ suc st.filled = omega arith in
        let k : st.line + 1 ≡ suc st.line = omega arith in
        let ps : take (st.filled + 1) (set b.parents st.filled p) ≡ take st.filled b.parents ++ (p ∷ []) = ap (λ k. take k (set b.parents st.filled p)) f ∙ take-suc-set b.parents st.filled p h in
        let turn : listed (st.count - (st.filled + 1)) (take (st.filled + 1) (set b.parents st.filled p)) (st.line + 1) ≡ listed (st.count - suc st.filled) (take st.filled b.parents ++ (p ∷ [])) (suc st.line) =
        ap (λ n. listed (st.count - n) (take (st.filled + 1) (set b.parents st.filled p)) (st.line + 1)) f
        ∙ ap (λ l. listed (st.count - suc st.filled) l (st.line + 1)) ps
        ∙ ap (listed (st.count - suc st.filled) (take st.filled b.parents ++ (p ∷ []))) k in
        rw (q, sym e) (rw turn at t)

  module _ (q : st.phase ≡ AwaitsQuestion) where
    pub question-bad : none ≡ question_of l → text ≡ bad_line st.line → Turned (on_line (stage_of st b) l) most end_state left text
    unfolding on_line Option-elim
    question-bad e t = rw (q, sym e) (ends-turn most left text (bad_line st.line) t)

    pub question-fine : (x : Question) → some x ≡ question_of l → text ≡ answer_row (take (table_words st.count) b.table) x → st.count ≤ most_listed → st.line + 1 ≤ most
        → Turned (on_line (stage_of st b) l) most (record { phase = st.phase; line = st.line + 1; count = st.count; filled = st.filled; held = 0 }) b text
    unfolding on_line Option-elim
    question-fine x e t few h =
        let z : st.line + 1 ≡ suc st.line = omega arith in
        rw (q, sym e) record { printed = t; stands = ap (asking (take (table_words st.count) b.table)) z; fits = le-leb st.count most_listed few; fresh = refl; lines = h }
