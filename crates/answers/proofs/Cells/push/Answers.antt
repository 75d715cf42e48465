-- `Cells::push` meets its contract: the arm of the count stores at that place, and a full list stays. Assumes nothing.
use mathlib.Core.Path.{◌≡◌, ◌∙◌}
use Prim.Native.Nat.{ℕ, ◌+◌, ◌<◌, ◌≤◌}
use lib.Dec.{lit<}
use lib.ListN.{set}
use borrow.Author.Tests.{lt-ltb, le-ltb}
use Rattle.base.proofs.Arms.{past}
use Rattle.answers.specs.Answers.{pushed}
use Rattle.answers.specs.declared.Cells.{Cells}
use Rattle.answers.proofs.Cells.push.Goals as goal

placed : (cs r : Cells) (cell i : ℕ) → i < 15 → cs.count ≡ i → r ≡ record { at = set cs.at i cell; count = i + 1 } → r ≡ pushed cs cell
unfolding pushed
placed cs r cell i low e h = h ∙ (rw (← e) (simp (lt-ltb cs.count 15 (rw e low))))

full : (cs : Cells) (cell : ℕ) → 15 ≤ cs.count → cs ≡ pushed cs cell
unfolding pushed
full cs cell h = rw (le-ltb cs.count 15 h)

pub returns-in-0 : goal.returns-in-0
returns-in-0 c = placed _ _ _ 0 (lit< tt) c.in-0.is c.put.ensures

pub returns-in-1 : goal.returns-in-1
returns-in-1 c = placed _ _ _ 1 (lit< tt) c.in-1.is c.put-in-1.ensures

pub returns-in-2 : goal.returns-in-2
returns-in-2 c = placed _ _ _ 2 (lit< tt) c.in-2.is c.put-in-2.ensures

pub returns-in-3 : goal.returns-in-3
returns-in-3 c = placed _ _ _ 3 (lit< tt) c.in-3.is c.put-in-3.ensures

pub returns-in-4 : goal.returns-in-4
returns-in-4 c = placed _ _ _ 4 (lit< tt) c.in-4.is c.put-in-4.ensures

pub returns-in-5 : goal.returns-in-5
returns-in-5 c = placed _ _ _ 5 (lit< tt) c.in-5.is c.put-in-5.ensures

pub returns-in-6 : goal.returns-in-6
returns-in-6 c = placed _ _ _ 6 (lit< tt) c.in-6.is c.put-in-6.ensures

pub returns-in-7 : goal.returns-in-7
returns-in-7 c = placed _ _ _ 7 (lit< tt) c.in-7.is c.put-in-7.ensures

pub returns-in-8 : goal.returns-in-8
returns-in-8 c = placed _ _ _ 8 (lit< tt) c.in-8.is c.put-in-8.ensures

pub returns-in-9 : goal.returns-in-9
returns-in-9 c = placed _ _ _ 9 (lit< tt) c.in-9.is c.put-in-9.ensures

pub returns-in-10 : goal.returns-in-10
returns-in-10 c = placed _ _ _ 10 (lit< tt) c.in-10.is c.put-in-10.ensures

pub returns-in-11 : goal.returns-in-11
returns-in-11 c = placed _ _ _ 11 (lit< tt) c.in-11.is c.put-in-11.ensures

pub returns-in-12 : goal.returns-in-12
returns-in-12 c = placed _ _ _ 12 (lit< tt) c.in-12.is c.put-in-12.ensures

pub returns-in-13 : goal.returns-in-13
returns-in-13 c = placed _ _ _ 13 (lit< tt) c.in-13.is c.put-in-13.ensures

pub returns-in-14 : goal.returns-in-14
returns-in-14 c = placed _ _ _ 14 (lit< tt) c.in-14.is c.put-in-14.ensures

pub returns-in_default : goal.returns-in_default
returns-in_default c = full _ _ (past 15 _ c.in_default.in_default-own.rest)
