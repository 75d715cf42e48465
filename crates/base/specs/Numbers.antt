-- "Answers that turn a call away": each number with what it names. Assumes nothing.
use Rattle.std.specs.Prelude.{◌≡◌, ℕ}

-- an answer's number and its result word: for a refusal, what the refusal names
pub record Outcome : Type 0 where
  pub number : ℕ
  pub word : ℕ

-- 0: acceptance, or a result
abbrev pub accepted : ℕ → Outcome
accepted w = record { number = 0; word = w }

-- 1 count: n is 0 or over 1,048,576
abbrev pub count : Outcome
count = record { number = 1; word = 0 }

-- 2 short table: the table is under W words
abbrev pub short_table : Outcome
short_table = record { number = 2; word = 0 }

-- 3 short space: the working space is under 6n words
abbrev pub short_space : Outcome
short_space = record { number = 3; word = 0 }

-- 4 stray: a word is neither the top mark nor below n; the lowest such entry
abbrev pub stray : ℕ → Outcome
stray v = record { number = 4; word = v }

-- 5 tops: not exactly one top mark; the second-lowest top, or n
abbrev pub tops : ℕ → Outcome
tops v = record { number = 5; word = v }

-- 6 loop: an entry's climb never meets the top; the lowest such entry
abbrev pub loop : ℕ → Outcome
loop v = record { number = 6; word = v }

-- 7 unknown: an entry argument is n or more; the first such argument
abbrev pub unknown : ℕ → Outcome
unknown v = record { number = 7; word = v }

-- 8 too deep: the depth asked exceeds the entry's, or the climbs do; the entry
abbrev pub too_deep : ℕ → Outcome
too_deep v = record { number = 8; word = v }

-- 9 broken: the table is not one that the question can be answered from
abbrev pub broken : Outcome
broken = record { number = 9; word = 0 }

-- 10 not above: branch, where u is not strictly above v; u
abbrev pub not_above : ℕ → Outcome
not_above u = record { number = 10; word = u }

-- 11 bad rate: the class's rate is over its limit, or past the end of the list of rates
abbrev pub bad_rate : Outcome
bad_rate = record { number = 11; word = 0 }

-- 12 bad sum: the sum insured is outside its range
abbrev pub bad_sum : Outcome
bad_sum = record { number = 12; word = 0 }

-- 13 bad line: a sheet's line is not one of its bands; the first such line's number, from 1
abbrev pub bad_line : ℕ → Outcome
bad_line line = record { number = 13; word = line }

-- 14 gap: an amount of a class is in no band of a sheet; the class, and the amount beside it
abbrev pub gap : ℕ → Outcome
gap class = record { number = 14; word = class }

-- 15 overlap: an amount of a class is in more than one band of a sheet; the class, and the amount beside it
abbrev pub overlap : ℕ → Outcome
overlap class = record { number = 15; word = class }

-- a number and a word are an outcome's
abbrev pub Says : Outcome → ℕ → ℕ → Type 0
Says o number word = (number ≡ o.number) × (word ≡ o.word)
