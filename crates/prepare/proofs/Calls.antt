-- What preparing answers and leaves, as its steps find it. Assumes nothing.
use mathlib.Core.Path.{◌≡◌, refl, sym, ap, ◌∙◌}
use mathlib.Core.List.{List, ◌++◌}
use mathlib.Core.Option.{Option, none, some, Option-elim, or_else}
use Prim.Native.Nat.{ℕ, ◌+◌, ◌≤◌, ◌<◌}
use native.Mathlib.Omega.{arith}
use borrow.Author.Tests.{lt-ltb, le-ltb}
use lib.ListN.{length, take, drop, replicate, length-take, take-append-drop}
use Rattle.base.specs.Lists.{view}
use Rattle.base.specs.Numbers.{Outcome, accepted, count, short_table}
use Rattle.base.specs.Limits.{most_entries, table_words, space_words}
use Rattle.base.proofs.Views.{view-front}
use Rattle.tree.specs.Faults.{Tree, list_fault}
use Rattle.table.specs.Table.{table_of}
use Rattle.table.specs.Preparing.{count_fault, table_fault, lend_fault, call_fault, refusal, preparing, table_after, space_after, judging, judged_space}
use Rattle.table.proofs.Outcomes.{judging-none}
use Rattle.judge.specs.Regions.{Ordered}
use Rattle.prepare.specs.Stages.{Walked}

-- 1 and 2; past them, what judging is lent decides
module _ (n t s : ℕ) where
  pub call-count : count_fault n ≡ some count → call_fault n t s ≡ some count
  unfolding call_fault or_else
  call-count e = rw e

  module _ (e : count_fault n ≡ none) where
    pub call-table : t < table_words n → call_fault n t s ≡ some short_table
    unfolding call_fault table_fault or_else
    call-table b = rw (e, lt-ltb t (table_words n) b)

    pub call-lent : table_words n ≤ t → call_fault n t s ≡ lend_fault n s
    unfolding call_fault table_fault lend_fault or_else
    call-lent b = rw (e, le-ltb t (table_words n) b)

-- the answer, the table and the space: turned away before the list is judged
module _ (ps table space : List ℕ) where
  pub turned-away : (o : Outcome) → call_fault (length ps) (length table) (length space) ≡ some o
      → (preparing ps (length table) (length space) ≡ o) × (table_after ps table space ≡ table) × (space_after ps table space ≡ space)
  unfolding preparing refusal table_after space_after or_else Option-elim
  turned-away o e = (rw e, rw e, rw e)

  -- and else by what judging says
  module _ (lent : call_fault (length ps) (length table) (length space) ≡ lend_fault (length ps) (length space)) (o : Outcome) (answer : o ≡ judging ps (length space)) where
    pub judged-away : (o.number ≡ 0 → ⊥) → (o ≡ preparing ps (length table) (length space)) × (table_after ps table space ≡ table) × (space_after ps table space ≡ judged_space ps space)
    unfolding preparing refusal table_after space_after judging judged_space Option-elim
    judged-away not = rw lent (go (or_else (lend_fault (length ps) (length space)) (list_fault ps)) answer)
      where
        t : List ℕ
        t = table_of ps ++ drop (table_words (length ps)) table

        go : (f : Option Outcome) → o ≡ Option-elim f (accepted (length ps)) (λ a. a)
            → (o ≡ Option-elim f (accepted (table_words (length ps))) (λ a. a)) × (Option-elim f t (λ a. table) ≡ table) × (judged_space ps space ≡ judged_space ps space)
        go none s = absurd (not (ap (λ a. a.number) s))
        go (some a) s = (s, refl, refl)

    pub let_through : o.number ≡ 0
        → (preparing ps (length table) (length space) ≡ accepted (table_words (length ps)))
        × (table_after ps table space ≡ table_of ps ++ drop (table_words (length ps)) table)
        × (space_after ps table space ≡ replicate (space_words (length ps)) 0 ++ drop (space_words (length ps)) space)
    unfolding preparing refusal table_after space_after or_else Option-elim
    let_through z = let (a, b) = judging-none ps 0 (length space) (ap (λ a. a.number) (sym answer) ∙ z) in (rw (lent, a, b), rw (lent, a, b), rw (lent, a))

-- the part of the space that a list's preorder and depths stand in
pub walked-of : (ps space : List ℕ) → length ps ≤ most_entries → Tree ps → space_words (length ps) ≤ length space → Ordered ps space → Walked ps (take (space_words (length ps)) space)
walked-of ps space few tree room o =
    let m = space_words (length ps) in
    let long : length (take m space) ≡ m = simp length-take (omega arith) in
    let front : (a : ℕ) → a + length ps ≤ m → view a (length ps) (take m space) ≡ view a (length ps) space = λ a h. sym (view-front a (length ps) (take m space) (drop m space) (omega arith)) ∙ ap (view a (length ps)) (take-append-drop m space) in
    record {
      one = record { few = few; tree = tree };
      room = long;
      orders = front 0 (omega arith) ∙ o.orders;
      depths = front (length ps) (omega arith) ∙ o.depths;
    }
