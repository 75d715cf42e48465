-- "an older table is read as broken (9) and not misread"; "a new table is broken to an older program" (2026-08). Assumes nothing.
use Rattle.std.specs.Prelude.{◌≡◌, List, [], ◌∷◌, ℕ, ◌+◌, ◌*◌, ◌/◌, ◌≤◌, ◌<◌, length, ℤ}
use Rattle.base.specs.Numbers.{Outcome}
use Rattle.base.specs.Numbers.{broken as broken_table}
use Rattle.base.specs.Limits.{most_entries, header_mark}
use Rattle.answers.specs.Reading.{Reading, read, if_lt, if_eq, word_at}
use Rattle.answers.specs.Answers.{listed, answer_to}
use Rattle.answers.specs.Steps.{broken, level, climbing, rating, ancestry, branch}
use Rattle.answers.specs.declared.Answer.{Answer}
use Rattle.query.specs.StepOne.{step_one}
use Rattle.common_ancestors.specs.Promises.{OnAnyTable}
use Rattle.money.specs.Prices.{refused}
use Rattle.premiums.specs.Quotes.{quoted, quote_to}
use Rattle.sheets.specs.Verdicts.{naming, check_to}
use Rattle.pricing.specs.Quotes.{refusing, price_to}
use Rattle.pricing.specs.Quotes.{quoted as band_quoted}
use Rattle.pricing.specs.Promises.{Quotation}
use Rattle.pricing.specs.declared.BandQuote.{BandQuote}

-- a table whose cell 0 is below the mark, as that of every older one is, whatever else it holds
pub record OlderTable (t : List ℕ) : Type 0 where
  pub long : 4 ≤ length t
  pub low : word_at t 0 < header_mark

-- 9 after cell 0
abbrev pub broken_at_once : Answer
broken_at_once = record { number = 9; word = 0; cells = listed (0 ∷ []) }

-- every question about a table is refused with 9: those that list cells list cell 0
pub record BrokenToAll (t : List ℕ) : Type 0 where
  pub level : (v d : ℕ) → answer_to t (level (length t) v d) ≡ broken_at_once
  pub climb : (v k : ℕ) → answer_to t (climbing (length t) v k) ≡ broken_at_once
  pub rating : (v d : ℕ) → answer_to t (rating (length t) v d) ≡ broken_at_once
  pub ancestry : (u v : ℕ) → answer_to t (ancestry (length t) u v) ≡ broken_at_once
  pub branch : (u v : ℕ) → answer_to t (branch (length t) u v) ≡ broken_at_once
  pub premium : (rates : List ℕ) (v d : ℕ) (sum : ℤ) → quote_to t rates v d sum ≡ quoted (refused broken_table) (listed (0 ∷ []))
  pub price : (text : List ℕ) (v d : ℕ) (sum : ℤ) → price_to t text v d sum ≡ band_quoted (refusing (naming broken_table 0)) (listed (0 ∷ []))
  pub quotation : (sheet : List ℕ) (v : ℕ) (sum : ℤ) (r : BandQuote) → Quotation sheet v sum t r → r ≡ band_quoted (refusing (naming broken_table 0)) (listed (0 ∷ []))
  pub check : (d : ℕ) (text : List ℕ) → check_to t d text ≡ naming broken_table 0
  pub entries : step_one t ≡ broken_table
  pub shared : (most : ℕ → ℕ) (u v : ℕ) (o : Outcome) → OnAnyTable most t u v o → o ≡ broken_table

-- the older W, and the older step 1: "A table under 4 words, or with cell 0 zero or over 1,048,576, or shorter than W, is broken."
abbrev pub older_words : ℕ → ℕ
older_words n = 4 + 11 * n + 21 * (n / 6)

unfoldable pub older_opened : ℕ → (ℕ → Reading) → Reading
older_opened len next = if_lt len 4 broken (read 0 (λ n. if_eq n 0 broken (if_lt most_entries n broken (if_lt len (older_words n) broken (next n)))))

-- every program that starts with the older step 1 finds a table broken, after cell 0
abbrev pub BrokenToOlder : List ℕ → Type 0
BrokenToOlder t = (next : ℕ → Reading) → answer_to t (older_opened (length t) next) ≡ broken_at_once
