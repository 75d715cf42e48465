-- The program's text follows line by line: each whole line prints its own part, and so does the end. Assumes nothing.
use mathlib.Core.Path.{◌≡◌, refl, sym, ap, ◌∙◌}
use mathlib.Core.List.{List, [], ◌∷◌, ◌++◌, append-nil}
use mathlib.Core.Bool.{Bool, true, false, cond}
use mathlib.Core.Option.{Option, none, some, Option-elim}
use Prim.Native.Nat.{ℕ, zero, suc}
use lib.Dec.{ltb}
use Rattle.base.specs.Numbers.{Outcome}
use Rattle.table.specs.Table.{table_of}
use Rattle.lines.specs.Text.{line_feed}
use Rattle.lines.specs.Fields.{parted, count_of, parent_of, Question, question_of}
use Rattle.lines.specs.Counter.{most_listed, bad_line, bad_list, header_row, answer_row, answering, fault, judged, listing, opening}
use Rattle.lines.proofs.Parts.{Plain, parted-some, parted-plain, parted-join}
use Rattle.lines.specs.Stages.{Stage, counting, parenting, asking, ended, remaining, ends, listed, on_line, on_end}

-- the list so far, once its last line is read
listed-text : (m : ℕ) (ps : List ℕ) (k : ℕ) (rest : List ℕ) → listing m ps k (parted line_feed rest) ≡ (listed m ps k).out ++ remaining (listed m ps k).next rest
unfolding listing listed judged remaining Option-elim
listed-text zero ps k rest = go (fault ps)
  where
    go : (o : Option Outcome) → Option-elim o (header_row ++ answering (table_of ps) k (parted line_feed rest)) bad_list
        ≡ (Option-elim o (record { out = header_row; next = asking (table_of ps) k }) (λ o. ends (bad_list o))).out
        ++ remaining (Option-elim o (record { out = header_row; next = asking (table_of ps) k }) (λ o. ends (bad_list o))).next rest
    go none = refl
    go (some o) = sym (append-nil (bad_list o))
listed-text (suc m) ps k rest = refl

module _ (l rest : List ℕ) (plain : Plain line_feed l) where
  -- the pieces behind it: one at least
  head : List ℕ
  head = (parted-some line_feed rest).0

  tail : List (List ℕ)
  tail = (parted-some line_feed rest).1

  are : parted line_feed rest ≡ head ∷ tail
  unfolding head tail
  are = (parted-some line_feed rest).2

  both : parted line_feed (l ++ (line_feed ∷ rest)) ≡ l ∷ head ∷ tail
  both = parted-join line_feed l rest plain ∙ ap (λ x. l ∷ x) are

  -- a whole line
  pub line-text : (s : Stage) → remaining s (l ++ (line_feed ∷ rest)) ≡ (on_line s l).out ++ remaining (on_line s l).next rest
  unfolding remaining on_line opening listing answering Option-elim
  line-text counting = ap opening both ∙ go (count_of l)
    where
      small : (n : ℕ) (b : Bool) → cond b (bad_line 1) (listing n [] 2 (head ∷ tail)) ≡ (cond b (ends (bad_line 1)) (listed n [] 2)).out ++ remaining (cond b (ends (bad_line 1)) (listed n [] 2)).next rest
      small n true = sym (append-nil (bad_line 1))
      small n false = ap (listing n [] 2) (sym are) ∙ listed-text n [] 2 rest

      go : (o : Option ℕ) → Option-elim o (bad_line 1) (λ n. cond (ltb most_listed n) (bad_line 1) (listing n [] 2 (head ∷ tail)))
          ≡ (Option-elim o (ends (bad_line 1)) (λ n. cond (ltb most_listed n) (ends (bad_line 1)) (listed n [] 2))).out
          ++ remaining (Option-elim o (ends (bad_line 1)) (λ n. cond (ltb most_listed n) (ends (bad_line 1)) (listed n [] 2))).next rest
      go none = sym (append-nil (bad_line 1))
      go (some n) = small n (ltb most_listed n)
  line-text (parenting m ps k) = ap (listing (suc m) ps k) both ∙ go (parent_of l)
    where
      go : (o : Option ℕ) → Option-elim o (bad_line k) (λ v. listing m (ps ++ (v ∷ [])) (suc k) (head ∷ tail))
          ≡ (Option-elim o (ends (bad_line k)) (λ v. listed m (ps ++ (v ∷ [])) (suc k))).out ++ remaining (Option-elim o (ends (bad_line k)) (λ v. listed m (ps ++ (v ∷ [])) (suc k))).next rest
      go none = sym (append-nil (bad_line k))
      go (some v) = ap (listing m (ps ++ (v ∷ [])) (suc k)) (sym are) ∙ listed-text m (ps ++ (v ∷ [])) (suc k) rest
  line-text (asking table k) = ap (answering table k) both ∙ turn l (question_of l) refl
    where
      go : (o : Option Question) → Option-elim o (bad_line k) (λ q. answer_row table q ++ answering table (suc k) (head ∷ tail))
          ≡ (Option-elim o (ends (bad_line k)) (λ q. record { out = answer_row table q; next = asking table (suc k) })).out
          ++ remaining (Option-elim o (ends (bad_line k)) (λ q. record { out = answer_row table q; next = asking table (suc k) })).next rest
      go none = sym (append-nil (bad_line k))
      go (some q) = ap (λ x. answer_row table q ++ answering table (suc k) x) (sym are)

      turn : (l : List ℕ) (o : Option Question) → question_of l ≡ o → answering table k (l ∷ head ∷ tail)
          ≡ (Option-elim (question_of l) (ends (bad_line k)) (λ q. record { out = answer_row table q; next = asking table (suc k) })).out
          ++ remaining (Option-elim (question_of l) (ends (bad_line k)) (λ q. record { out = answer_row table q; next = asking table (suc k) })).next rest
      turn [] o e = go (question_of [])
      turn (b ∷ l) o e = go (question_of (b ∷ l))
  line-text ended = refl

-- the end, behind a part of a line
pub end-text : (l : List ℕ) → Plain line_feed l → (s : Stage) → remaining s l ≡ on_end s l
unfolding remaining on_end opening listing answering
end-text l h counting = ap opening (parted-plain line_feed l h)
end-text l h (parenting m ps k) = ap (listing (suc m) ps k) (parted-plain line_feed l h)
end-text [] h (asking table k) = ap (answering table k) (parted-plain line_feed [] h)
end-text (b ∷ l) h (asking table k) = ap (answering table k) (parted-plain line_feed (b ∷ l) h)
end-text l h ended = refl
