-- `reading::Table::read` meets its contract: the sum does not wrap. Assumes nothing.
use Rattle.std.proofs.Common.{◌≡◌, ℕ, ◌%◌, ◌^◌, ◌<◌, ◌∙◌, mod-eq_of_lt, arith}
use Rattle.query.proofs.reading.Table.read.Goals as goal

sum : (a r : ℕ) → r ≡ a % 2 ^ 32 → a < 2 ^ 32 → r ≡ a
sum a r e h = e ∙ mod-eq_of_lt h

pub bounds-self-at : goal.bounds-self-at
bounds-self-at g c = omega (arith, sum _ _ c.wrapping_add_u32-cell.ensures.value c.requires.1)

pub returns : goal.returns
returns g c = let s = sum _ _ c.wrapping_add_u32-cell.ensures.value c.requires.1 in record { word-is = cc; more-is = cc }
