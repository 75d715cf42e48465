-- The check of a sheet of rating level d, for every table and every text (2026-02). Assumes nothing.
use Rattle.std.specs.Prelude.{◌≡◌, List, cond, ℕ, length, eqb, Result, Ok, Err}
use Rattle.std.proofs.Math.Option.{Option-elim}
use Rattle.base.specs.Lists.{below, view}
use Rattle.base.specs.Limits.{depth_start}
use Rattle.base.specs.Numbers.{Outcome, accepted, bad_line}
use Rattle.tree.specs.Parents.{depth}
use Rattle.query.specs.StepOne.{step_one}
use Rattle.bands.specs.Bands.{Band, sheet_fault}
use Rattle.bands.specs.Accepted.{Accepted}
use Rattle.sheets.specs.Texts.{Sheet, bad, whole, sheet_of, bands_in}
use Rattle.base.specs.declared.refusals.Refusal.{Refusal}
use Rattle.base.specs.Refusals.{refused, amount_of}

-- the number of an answer, the number of lines or what the refusal names, and the amount that 14 and 15 name besides
pub record Verdict : Type 0 where
  pub number : ℕ
  pub word : ℕ
  pub amount : ℕ

-- an outcome, and the amount that it names beside its word
abbrev pub naming : Outcome → ℕ → Verdict
naming o amount = record { number = o.number; word = o.word; amount = amount }

-- the code's answer: how many lines an accepted sheet has, or a refusal
abbrev pub told : Result ℕ Refusal → Verdict
told (Ok lines) = naming (accepted lines) 0
told (Err refusal) = naming (refused refusal) (amount_of refusal)

-- "it refuses the first bad line, .. then, whichever the named amount has, a gap (14) or an overlap (15)"; "Acceptance names the number of lines"
unfoldable pub judged : List ℕ → ℕ → Sheet → Verdict
judged depths d (bad k) = naming (bad_line k) 0
judged depths d (whole bs) = Option-elim (sheet_fault depths d bs) (naming (accepted (length bs)) 0) (λ f. naming f.outcome f.amount)

unfoldable pub verdict : List ℕ → ℕ → List ℕ → Verdict
verdict depths d text = judged depths d (sheet_of depths d text)

-- the depths of all entries: by climbing in the list, and in DEPTH of a table
unfoldable pub depths_of : List ℕ → List ℕ
depths_of ps = below (length ps) (depth ps)

unfoldable pub depths_in : List ℕ → List ℕ
depths_in t = let n = (step_one t).word in view (depth_start n) n t

-- the check: "After 9 for a table that step 1 calls broken, .."
unfoldable pub check_to : List ℕ → ℕ → List ℕ → Verdict
check_to t d text = cond (eqb (step_one t).number 0) (verdict (depths_in t) d text) (naming (step_one t) 0)

-- the bands of a sheet that is checked on a table
abbrev pub bands_on : List ℕ → ℕ → List ℕ → List Band
bands_on t d text = bands_in (sheet_of (depths_in t) d text)

-- a sheet that is to be accepted: no line is bad, and each class has each amount in one band only
pub record Good (depths : List ℕ) (d : ℕ) (text : List ℕ) : Type 0 where
  pub bands : List Band
  pub lines : sheet_of depths d text ≡ whole bands
  pub once : Accepted depths d bands
