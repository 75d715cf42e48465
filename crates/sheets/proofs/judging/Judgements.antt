-- The verdict on the bands of a sheet, from the fault that was found. Assumes nothing.
use mathlib.Core.Path.{◌≡◌, refl, sym, ap, ◌∙◌}
use mathlib.Core.List.{List, [], ◌∷◌, ◌++◌}
use mathlib.Core.Bool.{true}
use mathlib.Core.Option.{Option, none, some, Option-elim}
use Prim.Native.Nat.{ℕ, ◌+◌, ◌*◌, ◌≤◌}
use native.Mathlib.Omega.{arith}
use lib.ListN.{length, take, drop, length-append, length-drop}
use lib.Seq.{length-take-le, take_at}
use Rattle.base.specs.Lists.{every, has, some?}
use Rattle.base.specs.Numbers.{accepted}
use Rattle.base.specs.Amounts.{most_lines}
use Rattle.base.proofs.Lists.{clash}
use Rattle.sorting.specs.Orders.{Ascending, Shuffled, Sorted}
use Rattle.bands.specs.Bands.{Band, Fault, is_band, sheet_fault, SameBands}
use Rattle.bands.proofs.SameBands.{covers-same, fault-same}
use Rattle.bands.proofs.Theorems.{accepted-iff, fault-numbered, single-bands}
use Rattle.sheets.specs.Texts.{whole}
use Rattle.sheets.specs.Verdicts.{Verdict, naming, judged}
use Rattle.sheets.specs.Keys.{key_bands, Legal, Stored}
use Rattle.sheets.specs.Checked.{Checked}
use Rattle.sheets.specs.Parts.{Says}
use Rattle.sheets.proofs.judging.Words.{checked-words}
use Rattle.sheets.proofs.judging.Orders.{same-bands, legal-shuffled}

abbrev answer : ℕ → ℕ → ℕ → Verdict
answer n w a = record { number = n; word = w; amount = a }

-- the keys of m lines were sorted
module _ (m : ℕ) (words keys spare sorted : List ℕ) (few : m ≤ most_lines) (long : length keys ≡ most_lines) (room : length spare ≡ most_lines)
    (size : length sorted ≡ length (take m keys)) (sorts : Sorted (take m spare) (take m keys) sorted) where
  abbrev pub new : List ℕ
  new = sorted ++ drop m keys

  old-length : length (take m keys) ≡ m
  old-length = length-take-le m keys (omega arith)

  both : length (take m spare) ≡ length (take m keys)
  both = length-take-le m spare (omega arith) ∙ sym old-length

  front : take m new ≡ sorted
  front = take_at sorted (drop m keys) m (size ∙ old-length)

  pub whole_length : length new ≡ most_lines
  whole_length = omega (arith, length-append sorted (drop m keys), length-drop m keys, size, old-length)

  pub ascending : Ascending (take m new)
  ascending = rw front (sorts.ascending both)

  shuffled : Shuffled (take m keys) (take m new)
  shuffled = rw front (sorts.same both)

  pub legal : Legal words (take m keys) → Legal words (take m new)
  legal = legal-shuffled words (take m keys) (take m new) shuffled

  module _ (depths : List ℕ) (d : ℕ) (bs : List Band) (stored : Stored words keys m bs) where
    same : SameBands bs (key_bands words (take m new))
    same = rw (← stored.bands) (same-bands words (take m keys) (take m new) shuffled)

    fault-is : sheet_fault depths d (key_bands words (take m new)) ≡ sheet_fault depths d bs
    fault-is = fault-same bs (key_bands words (take m new)) (covers-same bs (key_bands words (take m new)) same) depths d

    module _ (r : Verdict) (says : Says (sheet_fault depths d (key_bands words (take m new))) r.number r.word r.amount) where
      said : Says (sheet_fault depths d bs) r.number r.word r.amount
      said = rw fault-is at says

      pub fault-judged : (r.number ≡ 0 → ⊥) → r ≡ judged depths d (whole bs)
      unfolding judged Says Option-elim
      fault-judged n = go (sheet_fault depths d bs) said
        where
          go : (o : Option Fault) → Says o r.number r.word r.amount → r ≡ Option-elim o (naming (accepted (length bs)) 0) (λ f. naming f.outcome f.amount)
          go none s = absurd (n s)
          go (some f) (x, y, z) = ap (λ v. answer v r.word r.amount) x ∙ ap (λ v. answer f.outcome.number v r.amount) y ∙ ap (answer f.outcome.number f.outcome.word) z

      -- a fault has a number
      numbered : (o : Option Fault) → sheet_fault depths d bs ≡ o → Says o r.number r.word r.amount → r.number ≡ 0 → o ≡ none
      unfolding Says some?
      numbered none e s z = refl
      numbered (some f) e s z = clash (sym (ap (has (14 ∷ 15 ∷ [])) (sym s.0 ∙ z)) ∙ fault-numbered depths d bs f e)

      module _ (z : r.number ≡ 0) where
        sound : sheet_fault depths d bs ≡ none
        sound = numbered (sheet_fault depths d bs) refl said z

        pub accepted-judged : (w : ℕ) → length bs ≡ w → answer 0 w 0 ≡ judged depths d (whole bs)
        unfolding judged Option-elim
        accepted-judged w e = rw (sound, e)

        pub accepted-checked : length words ≡ most_lines → every (is_band depths d) bs ≡ true → Checked ((d * 4294967296 + m) ∷ (new ++ words)) d bs
        accepted-checked wide e =
            checked-words d m new words few whole_length wide bs (legal stored.legal) ascending same
            (λ c a h. single-bands depths d c a bs e ((accepted-iff depths d bs).0 sound) h)
