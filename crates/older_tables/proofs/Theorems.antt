-- An older table is broken to every question, and a new table to the older step 1. Assumes nothing.
use mathlib.Core.Path.{◌≡◌, ap, ◌∙◌}
use mathlib.Core.List.{List, ◌∷◌}
use mathlib.Core.Bool.{cond}
use Prim.Native.Nat.{ℕ, ◌≤◌, ◌<◌}
use native.Mathlib.Omega.{arith}
use native.Mathlib.Decide.{dec_lt}
use lib.ListN.{length}
use borrow.Author.Tests.{le-ltb, lt-ltb, eq-eqb, ne_eqb}
use Rattle.base.specs.Numbers.{Outcome}
use Rattle.base.specs.Numbers.{broken as broken_table}
use Rattle.base.specs.Limits.{most_entries, header_mark, entries_of}
use Rattle.table.specs.Preparing.{Prepared}
use Rattle.answers.specs.Reading.{Reading, read, if_lt, if_eq, word_at, run, trace}
use Rattle.answers.specs.Answers.{listed, answer_to, outcome}
use Rattle.answers.specs.declared.Answer.{Answer}
use Rattle.answers.specs.Steps.{broken, after_count, opened, level, climbing, rating, ancestry, branch}
use Rattle.climbs.proofs.TableWords.{count_word}
use Rattle.query.specs.StepOne.{step_one}
use Rattle.common_ancestors.specs.Admission.{admission}
use Rattle.premiums.specs.Quotes.{price_of, quote_of, quote_to}
use Rattle.sheets.specs.Checked.{level_in}
use Rattle.sheets.specs.Verdicts.{check_to}
use Rattle.pricing.specs.Quotes.{sheet_price, price_to}
use Rattle.older_tables.specs.Older.{OlderTable, broken_at_once, BrokenToAll, older_opened, BrokenToOlder}

-- a test whose side is known
module _ (a b : ℕ) (p q : Reading) where
  taken : a < b → if_lt a b p q ≡ p
  unfolding if_lt
  taken h = ap (λ x. cond x p q) (lt-ltb a b h)

  passed : b ≤ a → if_lt a b p q ≡ q
  unfolding if_lt
  passed h = ap (λ x. cond x p q) (le-ltb a b h)

  equal : a ≡ b → if_eq a b p q ≡ p
  unfolding if_eq
  equal h = ap (λ x. cond x p q) (eq-eqb a b h)

  unequal : (a ≡ b → ⊥) → if_eq a b p q ≡ q
  unfolding if_eq
  unequal h = ap (λ x. cond x p q) (ne_eqb a b h)

-- a table that is found broken by its cell 0
broken-by-cell : (t : List ℕ) (k : ℕ → Reading) → k (word_at t 0) ≡ broken → answer_to t (read 0 k) ≡ broken_at_once
unfolding answer_to run trace
broken-by-cell t k e = ap (λ (p : Reading). record { number = (run t p).number; word = (run t p).word; cells = listed (0 ∷ trace t p) }) e

module _ (t : List ℕ) (old : OlderTable t) where
  -- step 1 ends every program behind cell 0
  opened-broken : (next : ℕ → Reading) → answer_to t (opened (length t) next) ≡ broken_at_once
  unfolding opened after_count
  opened-broken next =
      let low = old.low in
      ap (answer_to t) (passed (length t) 4 broken _ old.long) ∙ broken-by-cell t _ (equal (entries_of (word_at t 0)) 0 broken _ (omega arith))

  rated : (v d : ℕ) → answer_to t (rating (length t) v d) ≡ broken_at_once
  unfolding rating
  rated v d = opened-broken _

  step-one : step_one t ≡ broken_table
  unfolding step_one answer_to
  step-one = ap outcome (opened-broken _)

  admitted : (u v : ℕ) → admission t u v ≡ broken_table
  unfolding admission
  admitted u v = rw step-one

  -- an older table is broken to every question
  pub older-broken : BrokenToAll t
  unfolding level climbing ancestry branch quote_to price_of check_to price_to sheet_price
  older-broken = record {
    level = λ v d. opened-broken _;
    climb = λ v k. opened-broken _;
    rating = rated;
    ancestry = λ u v. opened-broken _;
    branch = λ u v. opened-broken _;
    premium = λ rates v d sum. ap (quote_of rates sum) (rated v d);
    price = λ text v d sum. rw (rated v d);
    quotation = λ sheet v sum r q. let looks = rated v (level_in sheet) in q.refusal (λ z. omega (arith, ap (λ (a : Answer). a.number) looks)) ∙ rw looks;
    check = λ d text. rw step-one;
    entries = step-one;
    shared = λ most u v o any. any.refused (λ z. omega (arith, ap (λ (x : Outcome). x.number) (admitted u v))) ∙ admitted u v;
  }

-- a new table is broken to every program that starts with the older step 1
pub newer-broken : (t : List ℕ) → 4 ≤ length t → header_mark ≤ word_at t 0 → BrokenToOlder t
unfolding older_opened
newer-broken t long high next =
    ap (answer_to t) (passed (length t) 4 broken _ long)
    ∙ broken-by-cell t _ (unequal (word_at t 0) 0 broken _ (λ z. omega arith) ∙ taken most_entries (word_at t 0) broken _ (omega arith))

pub prepared-broken : (ps t : List ℕ) → Prepared ps t → BrokenToOlder t
prepared-broken ps t p = let room = p.long in newer-broken t (omega arith) (omega (arith, count_word ps t p))

-- a table that an older program goes on with is an older table
pub passed-older : (t : List ℕ) → 4 ≤ length t → (BrokenToOlder t → ⊥) → OlderTable t
passed-older t long goes = go (dec_lt (word_at t 0) header_mark)
  where
    go : Dec (word_at t 0 < header_mark) → OlderTable t
    go (yes low) = record { long = long; low = low }
    go (no high) = absurd (goes (newer-broken t long (omega arith)))
