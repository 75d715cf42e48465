-- What a parent list is turned away for, as the steps of judging find it. Assumes nothing.
use mathlib.Core.Path.{◌≡◌, sym, ap, ◌∙◌}
use mathlib.Core.List.{List, ◌∷◌, ◌++◌}
use mathlib.Core.Bool.{Bool, true, false, not, cond}
use mathlib.Core.Option.{none, some, Option-elim, or_else}
use Prim.Native.Nat.{ℕ, suc, ◌*◌, ◌-◌, ◌≤◌, ◌<◌}
use native.Mathlib.Omega.{arith}
use lib.ListN.{length, take, drop, replicate}
use lib.Seq.{take_all, take_at, drop_at}
use Rattle.base.specs.Lists.{view}
use borrow.Author.Tests.{lt-ltb, le-ltb}
use Rattle.base.specs.Numbers.{Outcome, accepted, count, short_space, stray, tops, loop}
use Rattle.base.specs.Limits.{space_words, top_mark}
use Rattle.base.proofs.Lists.{clash}
use Rattle.tree.specs.Parents.{word, children}
use Rattle.tree.specs.Forest.{order, whole, levels}
use Rattle.tree.proofs.Levels.{order-levels}
use Rattle.tree.specs.Faults.{lowest, is_stray, tops_fault, meets_top, loop_fault, list_fault}
use Rattle.table.specs.Preparing.{count_fault, space_fault, lend_fault, judging, judged_space}
use Rattle.judge.specs.Regions.{after, first_of, Ordered}
use Rattle.judge.specs.Verdict.{verdict}
use Rattle.judge.proofs.link.Chains.{sibs, sibs-in, sibs-out, sibs-from}

module _ (ps : List ℕ) (small : length ps ≤ top_mark) where
  pub verdict-stray : (s : ℕ) → lowest ps (is_stray ps) ≡ some s → verdict ps ≡ stray s
  unfolding verdict list_fault or_else Option-elim
  verdict-stray s e = rw e

  module _ (fine : lowest ps (is_stray ps) ≡ none) (t : ℕ) (et : t ≡ first_of (children ps top_mark)) where
    rest-is : verdict ps ≡ Option-elim (or_else (tops_fault (length ps) (children ps top_mark)) (loop_fault ps)) (accepted (length ps)) (λ o. o)
    unfolding verdict list_fault or_else
    rest-is = rw fine

    all : children ps top_mark ≡ sibs ps t
    all = sym (sibs-from ps top_mark small (length ps) 0 (omega arith)) ∙ ap (sibs ps) (sym et)

    pub verdict-none : length ps ≤ t → verdict ps ≡ tops (length ps)
    unfolding or_else Option-elim
    verdict-none h = rest-is ∙ rw (all, sibs-out ps t h)

    module _ (h : t < length ps) (u : ℕ) (eu : u ≡ first_of (after ps t)) where
      both : children ps top_mark ≡ t ∷ sibs ps u
      both = all ∙ sibs-in ps t h ∙ ap (λ l. t ∷ l) (sym (sibs-from ps (word ps t) small (length ps - suc t) (suc t) (omega arith)) ∙ ap (sibs ps) (sym eu))

      pub verdict-two : u < length ps → verdict ps ≡ tops u
      unfolding or_else Option-elim
      verdict-two k = rest-is ∙ rw (both, sibs-in ps u k)

      module _ (k : length ps ≤ u) where
        one-top : verdict ps ≡ Option-elim (loop_fault ps) (accepted (length ps)) (λ o. o)
        unfolding or_else
        one-top = rest-is ∙ rw (both, sibs-out ps u k)

        pub verdict-loop : (w : ℕ) → lowest ps (λ v. not (meets_top ps v)) ≡ some w → verdict ps ≡ loop w
        unfolding Option-elim
        verdict-loop w e = one-top ∙ rw e

        pub verdict-whole : lowest ps (λ v. not (meets_top ps v)) ≡ none → verdict ps ≡ accepted (length ps)
        unfolding Option-elim
        verdict-whole e = one-top ∙ rw e

-- the first two regions, as the walk leaves them
pub ordered : (ps o d rest : List ℕ) (c : ℕ) → length ps ≤ top_mark → c ≡ length ps → length o ≡ length ps → length d ≡ length ps → view 0 c o ≡ order ps → view 0 c d ≡ levels 0 (whole ps) → Ordered ps (o ++ (d ++ rest))
unfolding view
ordered ps o d rest c small e lo ld orders depths =
    let n = length ps in
    let all : take n o ≡ order ps = rw e at orders in
    let deep : take n d ≡ levels 0 (whole ps) = rw e at depths in
    record {
      orders = take_at o (d ++ rest) n lo ∙ sym (take_all n o (omega arith)) ∙ all;
      depths = ap (take n) (drop_at o (d ++ rest) n lo) ∙ take_at d rest n ld ∙ sym (take_all n d (omega arith)) ∙ deep ∙ sym (order-levels ps small);
    }

-- what is answered before the list is read, and else
module _ (n len : ℕ) where
  pub lend-count : count_fault n ≡ some count → lend_fault n len ≡ some count
  unfolding lend_fault or_else
  lend-count e = rw e

  module _ (e : count_fault n ≡ none) where
    pub lend-short : len < space_words n → lend_fault n len ≡ some short_space
    unfolding lend_fault space_fault or_else
    lend-short s = rw (e, lt-ltb len (space_words n) s)

    pub lend-fine : space_words n ≤ len → lend_fault n len ≡ none
    unfolding lend_fault space_fault or_else
    lend-fine s = rw (e, le-ltb len (space_words n) s)

-- the count as it is tested
pub counted : (n : ℕ) (r : Bool) → not r ≡ false → count_fault n ≡ cond r none (some count) → count_fault n ≡ none
counted n true t e = e
counted n false t e = clash (sym t)

pub uncounted : (n : ℕ) (r : Bool) → not r ≡ true → count_fault n ≡ cond r none (some count) → count_fault n ≡ some count
uncounted n true t e = clash t
uncounted n false t e = e

module _ (ps space : List ℕ) where
  pub judging-lent : (o : Outcome) → lend_fault (length ps) (length space) ≡ some o → (judging ps (length space) ≡ o) × (judged_space ps space ≡ space)
  unfolding judging judged_space or_else Option-elim
  judging-lent o e = (rw e, rw e)

  pub judging-rest : lend_fault (length ps) (length space) ≡ none → (judging ps (length space) ≡ verdict ps) × (judged_space ps space ≡ replicate (6 * length ps) 0 ++ drop (6 * length ps) space)
  unfolding judging judged_space verdict or_else Option-elim
  judging-rest e = (rw e, rw e)
