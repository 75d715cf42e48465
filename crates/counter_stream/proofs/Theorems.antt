-- Pieces of the input, cut anywhere, print one behind the other what the whole input prints. Assumes nothing.
use mathlib.Core.Path.{◌≡◌, refl, sym, ap, ◌∙◌}
use mathlib.Core.List.{List, ◌++◌, append_assoc, append-nil}
use Prim.Native.Nat.{ℕ, ◌+◌, ◌-◌, ◌≤◌}
use native.Mathlib.Omega.{arith}
use lib.ListN.{length, length-append}
use Rattle.base.specs.Lists.{some?}
use Rattle.lines.specs.Fields.{parted}
use Rattle.lines.specs.Counter.{opening, counter}
use Rattle.lines.specs.Stages.{remaining}
use Rattle.counter_stream.specs.declared.phases.State.{State}
use Rattle.counter_stream.specs.Fitness.{Lent, start_state, held_bytes, stage_with, most_line, beginning, ending}
use Rattle.counter_stream.specs.Pieces.{Room, StateFits, Fed, Calls, finishes, feeds}
use Rattle.counter_stream.proofs.Fitness.{stage-fit, begins}

-- a piece of m bytes behind another
pub fed-join : (st : State) (b : Lent) (n : ℕ) (xs t : List ℕ) (mid : State) (kept : Lent) → Fed st b n xs t mid kept
    → (m : ℕ) (ys u : List ℕ) (after : State) (left : Lent) → Fed mid kept m ys u after left → m ≤ most_line - mid.line
    → (zs v : List ℕ) → zs ≡ xs ++ ys → v ≡ t ++ u → Fed st b n zs v after left
fed-join st b n xs t mid kept f m ys u after left g h zs v e d = record {
  lines = omega (arith, f.lines, g.lines, ap length e, length-append xs ys);
  goes_on = λ rest. piece rest
      ∙ ap (λ l. t ++ l) (ap (λ s. remaining s (held_bytes mid kept ++ (ys ++ rest))) (sym same) ∙ g.goes_on rest)
      ∙ joined (remaining (stage_with after left) (held_bytes after left ++ rest));
  ends = ap (λ l. remaining (beginning st b n) (held_bytes st b ++ l)) e
      ∙ f.goes_on ys
      ∙ ap (λ l. t ++ l) (ap (λ s. remaining s (held_bytes mid kept ++ ys)) (sym same) ∙ g.ends)
      ∙ joined (ending after);
}
  where
    same : beginning mid kept m ≡ stage_with mid kept
    same = begins mid kept m h

    joined : (l : List ℕ) → t ++ (u ++ l) ≡ v ++ l
    joined l = sym (append_assoc t u l) ∙ sym (ap (λ x. x ++ l) d)

    piece : (rest : List ℕ) → remaining (beginning st b n) (held_bytes st b ++ (zs ++ rest)) ≡ t ++ remaining (stage_with mid kept) (held_bytes mid kept ++ (ys ++ rest))
    piece rest = ap (λ l. remaining (beginning st b n) (held_bytes st b ++ l)) (ap (λ l. l ++ rest) e ∙ append_assoc xs ys rest) ∙ f.goes_on (ys ++ rest)

-- the whole input from the start, and what its end prints: for every input of fewer than 2^64 - 1 bytes
pub fed-whole : (b : Lent) → Room b → (n : ℕ) → n ≤ most_line - 1 → (input text : List ℕ) (after : State) (left : Lent) → Fed start_state b n input text after left → text ++ ending after ≡ counter input
unfolding remaining counter some?
fed-whole b room n h input text after left f =
    let start_fits : StateFits start_state b = record { room = room; few = omega arith; phase = refl; unbroken = refl } in
    sym f.ends ∙ ap (λ s. remaining s input) (begins start_state b n h ∙ stage-fit start_state b start_fits)

-- calls behind a piece from the start
module _ (b : Lent) (room : Room b) (n : ℕ) (few : n ≤ most_line - 1) where
  behind : (xs t : List ℕ) (mid : State) (kept : Lent) → Fed start_state b n xs t mid kept → (ys u : List ℕ) → length xs + length ys ≤ most_line - 1 → Calls mid kept ys u → t ++ u ≡ counter (xs ++ ys)
  behind xs t mid kept f ys u h (finishes st c) = fed-whole b room n few xs t mid kept f ∙ ap counter (sym (append-nil xs))
  behind xs t mid kept f ys u h (feeds st c m ys₁ u₁ next left g zs v k r input text e d) =
      let long : length ys ≡ length ys₁ + length zs = ap length e ∙ length-append ys₁ zs in
      let j = fed-join start_state b n xs t mid kept f m ys₁ u₁ next left g (omega (arith, f.lines)) (xs ++ ys₁) (t ++ u₁) refl refl in
      ap (λ l. t ++ l) d
      ∙ sym (append_assoc t u₁ v)
      ∙ behind (xs ++ ys₁) (t ++ u₁) next left j zs v (omega (arith, length-append xs ys₁)) r
      ∙ ap counter (append_assoc xs ys₁ zs ∙ ap (λ l. xs ++ l) (sym e))

-- calls from the start print `counter` of the whole input, of fewer than 2^64 - 1 bytes, however it is cut
pub calls-print : (b : Lent) → Room b → (input text : List ℕ) → length input ≤ most_line - 1 → Calls start_state b input text → text ≡ counter input
unfolding counter opening parted
calls-print b room input text h (finishes st c) = refl
calls-print b room input text h (feeds st c n xs t mid kept f ys u k r input₁ text₁ e d) =
    let long : length input ≡ length xs + length ys = ap length e ∙ length-append xs ys in
    d ∙ behind b room n (omega arith) xs t mid kept f ys u (omega arith) r ∙ ap counter (sym e)
