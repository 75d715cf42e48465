-- `strings::noted` meets its contract. Assumes nothing.
use mathlib.Core.Path.{◌≡◌, ap, ◌∙◌}
use Prim.Native.Nat.{ℕ, ◌<◌}
use native.Mathlib.Omega.{arith}
use borrow.Author.Tests.{le-leb}
use lib.ListN.{set}
use Rattle.samples.specs.Words.{narrowed}
use Rattle.plain_steps.proofs.strings.noted.Goals as goal

-- a short string is a word
fits : (s : ℕ) → s < 8192 → narrowed s ≡ s
unfolding narrowed
fits s h = simp (le-leb s 4294967295 (omega arith))

pub returns-clause-with : goal.returns-clause-with
returns-clause-with c = λ e. (c.put.ensures ∙ ap (set c.args.all.now c.args.at) (fits c.args.string c.requires.0), omega arith)
