-- Within a piece: the first bytes were read, and what they print was written. Assumes nothing.
use mathlib.Core.Path.{◌≡◌, refl, ap, ◌∙◌}
use mathlib.Core.List.{List, [], ◌∷◌, ◌++◌}
use Prim.Native.Nat.{ℕ, suc, ◌+◌, ◌≤◌, ◌<◌}
use native.Mathlib.Omega.{arith}
use lib.ListN.{length, take, get_or, length-take}
use lib.Seq.{take-suc}
use Rattle.counter_stream.specs.declared.phases.State.{State}
use Rattle.counter_stream.specs.Fitness.{Lent}
use Rattle.counter_stream.specs.Pieces.{StateFits, Ready, Fed, ByteFed}
use Rattle.counter_stream.proofs.Bytes.{fed-none}
use Rattle.counter_stream.proofs.Theorems.{fed-join}

pub record Partway (st : State) (b : Lent) (input out : List ℕ) (at : State) (left : Lent) (used written : ℕ) : Type 0 where
  pub there : used ≤ length input
  pub within : written ≤ length out
  pub nothing : used ≡ 0 → written ≡ 0
  pub fits : StateFits at left
  pub fed : Fed st b (length input) (take used input) (take written out) at left

module _ (st : State) (b : Lent) (input : List ℕ) (ready : Ready st (length input) b) where
  pub partway_start : (out : List ℕ) → Partway st b input out st b 0 0
  partway_start out = record { there = omega arith; within = omega arith; nothing = λ e. refl; fits = ready.fits; fed = fed-none st b (length input) ready }

  module _ (out : List ℕ) (at : State) (left : Lent) (used written : ℕ) (p : Partway st b input out at left used written) where
    partway-ready : used < length input → Ready at 1 left
    partway-ready h = record { fits = p.fits; numbered = omega (arith, p.fed.lines, ready.numbered, length-take used input) }

    pub partway-more : used < length input → (text : List ℕ) (next : State) (kept : Lent) → ByteFed at left (get_or input used 0) text next kept
        → (out₁ : List ℕ) (written₁ : ℕ) → written₁ ≤ length out₁ → take written₁ out₁ ≡ take written out ++ text → Partway st b input out₁ next kept (used + 1) written₁
    partway-more h text next kept g out₁ written₁ w e =
        let k : used + 1 ≡ suc used = omega arith in
        record {
          there = omega arith;
          within = w;
          nothing = λ z. absurd (omega arith);
          fits = g.fits;
          fed = fed-join st b (length input) (take used input) (take written out) at left p.fed 1 (get_or input used 0 ∷ []) text next kept g.fed (partway-ready h).numbered
              (take (used + 1) input) (take written₁ out₁) (ap (λ n. take n input) k ∙ take-suc input used 0 h) e;
        }
