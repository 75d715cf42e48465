-- A parent list that forms one tree, and what turns one away that does not: numbers 4, 5 and 6, on any list of words. Assumes nothing.
use Rattle.std.specs.Prelude.{◌≡◌, List, [], ◌∷◌, Bool, not, ◌||◌, ℕ, ◌<◌, length, eqb, ltb}
use Rattle.std.proofs.Math.Option.{Option, none, some, map, or_else}
use Rattle.std.proofs.Math.ListN.{get_elem?}
use Rattle.base.specs.Lists.{below, first, some?}
use Rattle.base.specs.Numbers.{Outcome, stray, tops, loop}
use Rattle.base.specs.Limits.{top_mark}
use Rattle.tree.specs.Parents.{word, up, climb, children}

-- a list forms one tree: some entry holds the top mark, every other word is an entry, and from every entry some climbs lead to that entry
pub record Tree (ps : List ℕ) : Type 0 where
  pub root : ℕ
  pub marked : get_elem? ps root ≡ some top_mark
  pub others : (v : ℕ) → v < length ps → (v ≡ root → ⊥) → word ps v < length ps
  pub climbs : (v : ℕ) → v < length ps → (k : ℕ) × (up ps k v ≡ some root)

-- the lowest entry that passes a test
abbrev pub lowest : List ℕ → (ℕ → Bool) → Option ℕ
lowest ps test = first test (below (length ps) (λ v. v))

-- 4 stray: v's word is neither the top mark nor below n
unfoldable pub is_stray : List ℕ → ℕ → Bool
is_stray ps v = not (eqb (word ps v) top_mark || ltb (word ps v) (length ps))

abbrev pub stray_fault : List ℕ → Option Outcome
stray_fault ps = map stray (lowest ps (is_stray ps))

-- 5 tops: not exactly one top mark. It names the second-lowest top, or n if there is none
abbrev pub tops_fault : ℕ → List ℕ → Option Outcome
tops_fault n [] = some (tops n)
tops_fault n (t ∷ []) = none
tops_fault n (t ∷ u ∷ l) = some (tops u)

-- 6 loop: v's climb never meets the top
unfoldable pub meets_top : List ℕ → ℕ → Bool
meets_top ps v = some? (λ u. eqb (word ps u) top_mark) (climb ps v)

abbrev pub loop_fault : List ℕ → Option Outcome
loop_fault ps = map loop (lowest ps (λ v. not (meets_top ps v)))

-- the first fault of a list, in the order of the numbers
unfoldable pub list_fault : List ℕ → Option Outcome
list_fault ps = or_else (stray_fault ps) (or_else (tops_fault (length ps) (children ps top_mark)) (loop_fault ps))
