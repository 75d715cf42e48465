-- What preparing answers, and what table and space then hold, for every list, table and space. Assumes nothing.
use Rattle.std.specs.Prelude.{◌≡◌, List, ◌++◌, Bool, cond, ◌||◌, ℕ, ◌≤◌, length, take, drop, replicate, eqb, ltb}
use Rattle.std.proofs.Math.Option.{Option, none, some, Option-elim, or_else}
use Rattle.base.specs.Numbers.{Outcome, accepted, count, short_table, short_space}
use Rattle.base.specs.Limits.{most_entries, table_words, space_words}
use Rattle.tree.specs.Faults.{list_fault}
use Rattle.table.specs.Table.{table_of}

-- a refusal where a test holds
abbrev pub refuse : Bool → Outcome → Option Outcome
refuse test o = cond test (some o) none

-- 1 to 3, for n entries and the lengths of table and space
unfoldable pub count_fault : ℕ → Option Outcome
count_fault n = refuse (eqb n 0 || ltb most_entries n) count

unfoldable pub table_fault : ℕ → ℕ → Option Outcome
table_fault n len = refuse (ltb len (table_words n)) short_table

unfoldable pub space_fault : ℕ → ℕ → Option Outcome
space_fault n len = refuse (ltb len (space_words n)) short_space

unfoldable pub call_fault : ℕ → ℕ → ℕ → Option Outcome
call_fault n table_len space_len = or_else (count_fault n) (or_else (table_fault n table_len) (space_fault n space_len))

-- 1 to 6, in that order
unfoldable pub refusal : List ℕ → ℕ → ℕ → Option Outcome
refusal ps table_len space_len = or_else (call_fault (length ps) table_len space_len) (list_fault ps)

-- preparing's answer: acceptance is number 0 and names W
unfoldable pub preparing : List ℕ → ℕ → ℕ → Outcome
preparing ps table_len space_len = Option-elim (refusal ps table_len space_len) (accepted (table_words (length ps))) (λ o. o)

-- the table after preparing: every refusal leaves it unchanged; after acceptance the words beyond W are
unfoldable pub table_after : List ℕ → List ℕ → List ℕ → List ℕ
table_after ps table space = Option-elim (refusal ps (length table) (length space)) (table_of ps ++ drop (table_words (length ps)) table) (λ o. table)

-- the space after preparing: 1, 2 and 3 leave it unchanged; after any other answer its first 6n words are zero, and those beyond unchanged
unfoldable pub space_after : List ℕ → List ℕ → List ℕ → List ℕ
space_after ps table space =
    let m = space_words (length ps) in
    Option-elim (call_fault (length ps) (length table) (length space)) (replicate m 0 ++ drop m space) (λ o. space)

-- a list that preparing accepts, with table and space long enough
pub record Accepted (ps : List ℕ) : Type 0 where
  pub counted : count_fault (length ps) ≡ none
  pub sound : list_fault ps ≡ none

-- a table is prepared from a list: the list is accepted, and the table's first W words are the list's table. Nothing is said of the words behind
pub record Prepared (ps table : List ℕ) : Type 0 where
  pub accepts : Accepted ps
  pub long : table_words (length ps) ≤ length table
  pub words : take (table_words (length ps)) table ≡ table_of ps

-- judging alone: 1 and 3, for n entries and the length of the space
unfoldable pub lend_fault : ℕ → ℕ → Option Outcome
lend_fault n space_len = or_else (count_fault n) (space_fault n space_len)

-- its answer: 1, 3, 4, 5, 6 in that order; acceptance is number 0 and names n
unfoldable pub judging : List ℕ → ℕ → Outcome
judging ps space_len = Option-elim (or_else (lend_fault (length ps) space_len) (list_fault ps)) (accepted (length ps)) (λ o. o)

-- the space after judging: 1 and 3 leave it unchanged; after any other answer its first 6n words are zero, and those beyond unchanged
unfoldable pub judged_space : List ℕ → List ℕ → List ℕ
judged_space ps space =
    let m = space_words (length ps) in
    Option-elim (lend_fault (length ps) (length space)) (replicate m 0 ++ drop m space) (λ o. space)
