-- A field read from a place of a text, up to the byte that ends it. Assumes nothing.
use mathlib.Core.Path.{◌≡◌, refl, sym, ap, ◌∙◌}
use mathlib.Core.Bool.{false}
use mathlib.Core.List.{List}
use Prim.Native.Nat.{ℕ, ◌+◌, ◌*◌, ◌-◌, ◌≤◌, ◌<◌}
use native.Mathlib.Omega.{arith}
use lib.ListN.{length, get_or, take, drop, length-drop}
use lib.Seq.{get_or-drop}
use Rattle.std.specs.Prelude.{Result, Some, None}
use Rattle.std.specs.Result.{OkIff, result_ok}
use Rattle.base.specs.Options.{option_of}
use Rattle.lines.specs.Fields.{is_digit, number}
use Rattle.lines.specs.Results.{NextByte, part, ReadTo, NoneTo}
use Rattle.lines.proofs.Digits.{Valued, valued-none, valued-more, valued_fits, valued-front, read-empty, read-long, read-other, read-converted}
use Rattle.lines.proofs.Searches.{Free, free-none, free_more, free-next, free-least, next-same}
use Rattle.lines.proofs.Cuts.{part_length, part-byte}

-- d digits, at most ten, stand from a place on, of the value v, and the byte that ends the field is none of them; `rest` is what stands from the place on
pub record Run (text rest : List ℕ) (end at d v : ℕ) : Type 0 where
  pub free : Free text end at (at + d)
  pub few : d ≤ 10
  pub valued : Valued rest d v

module _ (text rest : List ℕ) (end at : ℕ) where
  pub run_none : Run text rest end at 0 0
  run_none =
      let z : at + 0 ≡ at = omega arith in
      record { free = rw z (free-none text end at); few = omega arith; valued = valued-none rest }

  module _ (e : rest ≡ drop at text) (d v : ℕ) (p : Run text rest end at d v) where
    pub run_fits : d < 10 → 10 * v + 9 < 10000000000
    run_fits h = valued_fits rest d v h p.valued

    module _ (h : d < length rest) where
      within : at + d < length text
      within = omega (arith, ap length e, length-drop at text)

      byte : get_or rest d 0 ≡ get_or text (at + d) 0
      byte = ap (λ l. get_or l d 0) e ∙ get_or-drop at text d 0

      pub run_more : d < 10 → end < 48 → 48 ≤ get_or rest d 0 → get_or rest d 0 ≤ 57 → Run text rest end at (d + 1) (10 * v + (get_or rest d 0 - 48))
      run_more few low lo hi =
          let z : at + (d + 1) ≡ at + d + 1 = omega arith in
          record { free = rw z (free_more text end at (at + d) p.free within (λ q. absurd (omega (arith, byte)))); few = omega arith; valued = valued-more rest d v h lo hi p.valued }

      -- the field goes on behind the digits, where the byte there does not end it
      past : (get_or rest d 0 ≡ end → ⊥) → (m : ℕ) → NextByte text end at m → m < length text → at + d < m
      past n m next w = omega (arith, free-least text end at (at + d + 1) (free_more text end at (at + d) p.free within (λ q. n (byte ∙ q))) m next w)

      pub run-other : (get_or rest d 0 ≡ end → ⊥) → is_digit (get_or rest d 0) ≡ false → NoneTo number text end at
      run-other n t m next w =
          let k = past n m next w in
          let z : at + d - at ≡ d = omega arith in
          let b : get_or (part at m text) d 0 ≡ get_or rest d 0 = ap (λ j. get_or (part at m text) j 0) (sym z) ∙ part-byte text at m (at + d) (omega arith) k ∙ sym byte in
          read-other (part at m text) d (omega (arith, part_length text at m (omega arith))) (ap is_digit b ∙ t)

      pub run_long : (get_or rest d 0 ≡ end → ⊥) → 10 ≤ d → NoneTo number text end at
      run_long n k m next w =
          let l = past n m next w in
          read-long (part at m text) (omega (arith, part_length text at m (omega arith)))

      -- the byte ends the field here
      module _ (is : get_or rest d 0 ≡ end) where
        ended : NextByte text end at (at + d)
        ended = free-next text end at (at + d) p.free (λ k. sym byte ∙ is)

        same : (m : ℕ) → NextByte text end at m → m < length text → m ≡ at + d
        same m next w = next-same text end at m (at + d) next w ended within

        long : length (part at (at + d) text) ≡ d
        long = omega (arith, part_length text at (at + d) (omega (arith, within)))

        pub run-empty : d ≡ 0 → NoneTo number text end at
        run-empty q m next w = read-empty (part at m text) (omega (arith, part_length text at m (omega arith), same m next w))

        -- and its value is converted to 32 bits
        module _ {E : Type 0} (any : d ≡ 0 → ⊥) (r : Result ℕ E) (k : OkIff r (v < 4294967296) v) where
          converted : option_of (result_ok r) ≡ number (part at (at + d) text)
          converted =
              let z : at + d - at ≡ d = omega arith in
              let whole : part at (at + d) text ≡ take d rest = ap (λ j. take j (drop at text)) z ∙ ap (take d) (sym e) in
              read-converted (part at (at + d) text) d v (omega (arith, long)) (omega (arith, long, p.few)) (omega (arith, long)) (rw whole (valued-front rest d v p.valued)) r k

          pub run-great : None ≡ result_ok r → NoneTo number text end at
          run-great q m next w = rw (same m next w) (ap option_of q ∙ converted)

          pub run-read : (x : ℕ) → Some x ≡ result_ok r → ReadTo number text end at x (at + d + 1)
          run-read x q = record { end = at + d; found = ended; within = within; says = ap option_of q ∙ converted; behind = refl }
