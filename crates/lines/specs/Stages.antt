-- The counter program line by line: what a line prints, and where the program then stands. Assumes nothing.
use Rattle.std.specs.Prelude.{List, [], ◌∷◌, ◌++◌, cond, ℕ, zero, suc, ltb}
use Rattle.std.proofs.Math.Option.{Option-elim}
use Rattle.table.specs.Table.{table_of}
use Rattle.lines.specs.Text.{line_feed}
use Rattle.lines.specs.Fields.{parted, count_of, parent_of, question_of}
use Rattle.lines.specs.Counter.{most_listed, bad_line, bad_list, header_row, answer_row, answering, fault, listing, opening}

-- where the program stands: before the count; with m + 1 lines of the list to come behind the parents ps, the next of number k; before the question of
-- number k on a table; at its end
pub data Stage : Type 0 where
  counting : Stage
  parenting : ℕ → List ℕ → ℕ → Stage
  asking : List ℕ → ℕ → Stage
  ended : Stage

-- what is still printed, where these bytes are still to be read
unfoldable pub remaining : Stage → List ℕ → List ℕ
remaining counting bytes = opening (parted line_feed bytes)
remaining (parenting m ps k) bytes = listing (suc m) ps k (parted line_feed bytes)
remaining (asking table k) bytes = answering table k (parted line_feed bytes)
remaining ended bytes = []

-- what a line prints, and the stage behind it
pub record Turn : Type 0 where
  pub out : List ℕ
  pub next : Stage

abbrev pub ends : List ℕ → Turn
ends out = record { out = out; next = ended }

-- the list so far, with m lines to come: judged once it is whole
unfoldable pub listed : ℕ → List ℕ → ℕ → Turn
listed zero ps k = Option-elim (fault ps) (record { out = header_row; next = asking (table_of ps) k }) (λ o. ends (bad_list o))
listed (suc m) ps k = record { out = []; next = parenting m ps k }

-- a whole line
unfoldable pub on_line : Stage → List ℕ → Turn
on_line counting l = Option-elim (count_of l) (ends (bad_line 1)) (λ n. cond (ltb most_listed n) (ends (bad_line 1)) (listed n [] 2))
on_line (parenting m ps k) l = Option-elim (parent_of l) (ends (bad_line k)) (λ p. listed m (ps ++ (p ∷ [])) (suc k))
on_line (asking table k) l = Option-elim (question_of l) (ends (bad_line k)) (λ q. record { out = answer_row table q; next = asking table (suc k) })
on_line ended l = ends []

-- the end of the input behind a part of a line: what is cut short or missing
unfoldable pub on_end : Stage → List ℕ → List ℕ
on_end counting l = bad_line 1
on_end (parenting m ps k) l = bad_line k
on_end (asking table k) [] = []
on_end (asking table k) (b ∷ l) = bad_line k
on_end ended l = []

-- the longest line of a form that the program knows: `Q,` and two numbers of ten digits
abbrev pub most_bytes : ℕ
most_bytes = 23
