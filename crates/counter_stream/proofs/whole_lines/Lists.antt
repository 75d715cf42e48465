-- The list so far: one line more to come, or prepared. Assumes nothing.
use mathlib.Core.Path.{◌≡◌, refl, sym, ap, ◌∙◌}
use mathlib.Core.List.{List, []}
use mathlib.Core.Option.{Option, none, some, Option-elim, or_else}
use Prim.Native.Nat.{ℕ, zero, suc, ◌-◌, ◌≤◌, ◌<◌}
use native.Mathlib.Omega.{arith}
use lib.ListN.{length, take, length-take}
use borrow.Author.Tests.{lt-ltb, le-leb, le-ltb}
use Rattle.base.specs.Numbers.{Outcome, accepted}
use Rattle.base.specs.Limits.{table_words, space_words}
use Rattle.tree.specs.Faults.{list_fault}
use Rattle.table.specs.Table.{table_of}
use Rattle.table.specs.Preparing.{count_fault, table_fault, space_fault, call_fault, refusal, preparing, Prepared}
use Rattle.table.proofs.Outcomes.{refusal-none}
use Rattle.lines.specs.Counter.{most_listed, bad_list, header_row, fault}
use Rattle.lines.specs.Stages.{Turn, asking, listed}
use Rattle.counter_stream.specs.declared.phases.Phase.TheVariants.{AwaitsQuestion}
use Rattle.counter_stream.specs.declared.phases.State.{State}
use Rattle.counter_stream.specs.Fitness.{Lent, end_state}
use Rattle.counter_stream.specs.Lines.{ListDue, Turned}

-- with room for the table and the space only the list turns it away
refusal-fault : (ps : List ℕ) (t s : ℕ) → table_words (length ps) ≤ t → space_words (length ps) ≤ s → refusal ps t s ≡ fault ps
unfolding refusal call_fault table_fault space_fault or_else
refusal-fault ps t s ht hs = rw (le-ltb t (table_words (length ps)) ht, le-ltb s (space_words (length ps)) hs) (go (count_fault (length ps)))
  where
    go : (o : Option Outcome) → or_else (or_else o none) (list_fault ps) ≡ or_else o (list_fault ps)
    go none = refl
    go (some o) = refl

refusal-some : (ps : List ℕ) (t s : ℕ) (o : Outcome) → o ≡ preparing ps t s → (o.number ≡ 0 → ⊥) → refusal ps t s ≡ some o
unfolding preparing Option-elim
refusal-some ps t s o e z = go (refusal ps t s) e
  where
    go : (f : Option Outcome) → o ≡ Option-elim f (accepted (table_words (length ps))) (λ o. o) → f ≡ some o
    go none q = absurd (z (ap (λ x. x.number) q))
    go (some p) q = ap some (sym q)

-- what the list so far comes to
abbrev turn : State → List ℕ → Turn
turn st parents = listed (st.count - st.filled) (take st.filled parents) st.line

module _ (st : State) (b : Lent) (due : ListDue st b) (text : List ℕ) where
  pub more-to-come : st.filled < st.count → text ≡ [] → Turned (turn st b.parents) st.line st b text
  unfolding listed
  more-to-come h e =
      let z : st.count - st.filled ≡ suc (st.count - suc st.filled) = omega arith in
      rw z record {
        printed = e;
        stands = rw due.phase;
        fits = rw (due.phase, lt-ltb st.filled st.count h, le-leb st.count most_listed due.few);
        fresh = due.fresh;
        lines = omega arith;
      }

  -- the list is whole, and was lent to be prepared
  module _ (h : st.count ≤ st.filled) (whole : List ℕ) (is : whole ≡ take st.count b.parents) (o : Outcome) (answer : o ≡ preparing whole (length b.table) (length b.space)) where
    same : whole ≡ take st.filled b.parents
    same = let z : st.count ≡ st.filled = omega (arith, due.read) in is ∙ ap (λ k. take k b.parents) z

    long : length whole ≡ st.count
    long = omega (arith, ap length is, length-take st.count b.parents, due.few, due.room.listed)

    judged : refusal whole (length b.table) (length b.space) ≡ fault (take st.filled b.parents)
    judged = refusal-fault whole (length b.table) (length b.space) (omega (arith, long, due.few, due.room.laid)) (omega (arith, long, due.few, due.room.worked)) ∙ ap fault same

    empty : st.count - st.filled ≡ zero
    empty = omega arith

    pub list-taken : o.number ≡ 0 → text ≡ header_row → (left : Lent) → Prepared whole left.table
        → Turned (turn st b.parents) st.line (record { phase = AwaitsQuestion; line = st.line; count = st.count; filled = st.filled; held = st.held }) left text
    unfolding listed Option-elim
    list-taken z e left p =
        let none-there : fault (take st.filled b.parents) ≡ none = sym judged ∙ refusal-none whole (length b.table) (length b.space) (ap (λ x. x.number) (sym answer) ∙ z) in
        let words : take (table_words st.count) left.table ≡ table_of (take st.filled b.parents) = ap (λ n. take (table_words n) left.table) (sym long) ∙ p.words ∙ ap table_of same in
        rw (empty, none-there) record {
          printed = e;
          stands = ap (λ t. asking t st.line) words;
          fits = le-leb st.count most_listed due.few;
          fresh = due.fresh;
          lines = omega arith;
        }

    pub list-refused : (o.number ≡ 0 → ⊥) → text ≡ bad_list o → (left : Lent)
        → Turned (turn st b.parents) st.line end_state left text
    unfolding listed Option-elim
    list-refused z e left =
        let there : fault (take st.filled b.parents) ≡ some o = sym judged ∙ refusal-some whole (length b.table) (length b.space) o answer z in
        rw (empty, there) record { printed = e; stands = refl; fits = refl; fresh = refl; lines = omega arith }
