-- SIZE, HEIGHT and LONG, one position further down. Assumes nothing.
use mathlib.Core.Path.{◌≡◌, refl, ap, ◌∙◌}
use mathlib.Core.List.{List}
use mathlib.Core.Option.{Option-elim}
use Prim.Native.Nat.{ℕ, suc, ◌+◌, ◌≤◌, ◌<◌}
use native.Mathlib.Omega.{arith}
use lib.ListN.{length, get_or, set, replicate, get_or-replicate}
use lib.Seq.{get_or-set_same, get_or-set_other}
use Rattle.base.specs.Limits.{most_entries, top_mark}
use Rattle.tree.specs.Forest.{forest_size, forest_height, tallest, size, height}
use Rattle.prepare.specs.Arrays.{OneTree, by_position, above_position, long_position, sizes_of, aboves_of}
use Rattle.prepare.proofs.Preorder.{Over, over-at, array-words, words-array}
use Rattle.prepare.proofs.measure.Subforests.{WordsFrom, size_of, height_of, long_of, words-none, words-all, words_more, sum_is, sum_fits, rise-fits, taller, shorter}

-- what is below each entry from position i on is measured
pub record MeasuredFrom (ps : List ℕ) (i : ℕ) (sizes heights longs : List ℕ) : Type 0 where
  pub sums : WordsFrom ps size_of i (λ k. get_or sizes k 0)
  pub highs : WordsFrom ps height_of i (λ k. get_or heights k 0)
  pub tails : WordsFrom ps (long_of ps) i (λ k. get_or longs k 0)

filled : (n x : ℕ) (l : List ℕ) → l ≡ replicate n x → (k : ℕ) → k < n → get_or l k 0 ≡ x
filled n x l z k h = ap (λ w. get_or w k 0) z ∙ get_or-replicate n k x 0 h

module _ {ps sizes heights longs : List ℕ} (t : OneTree ps) where
  -- each entry by itself
  pub measured-none : sizes ≡ replicate (length ps) 1 → heights ≡ replicate (length ps) 1 → longs ≡ replicate (length ps) top_mark → MeasuredFrom ps (length ps) sizes heights longs
  unfolding forest_size forest_height tallest Option-elim
  measured-none s g l = record {
    sums = words-none t size_of _ (filled (length ps) 1 sizes s);
    highs = words-none t height_of _ (filled (length ps) 1 heights g);
    tails = words-none t (long_of ps) _ (filled (length ps) top_mark longs l);
  }

  module _ (ls : length sizes ≡ length ps) (lh : length heights ≡ length ps) (ll : length longs ≡ length ps) where
    -- at the first position, all
    pub measured-all : (i : ℕ) → i ≤ 1 → MeasuredFrom ps i sizes heights longs
        → (sizes ≡ sizes_of ps) × (heights ≡ by_position ps (height ps)) × (longs ≡ by_position ps (long_position ps))
    unfolding long_position
    measured-all i b m = (
      words-array t (size ps) sizes ls (λ k h. words-all t size_of _ i m.sums k (omega arith) h),
      words-array t (height ps) heights lh (λ k h. words-all t height_of _ i m.highs k (omega arith) h),
      words-array t (long_position ps) longs ll (λ k h. words-all t (long_of ps) _ i m.tails k (omega arith) h),
    )

    -- one position further down
    module _ {aboves : List ℕ} (e : aboves ≡ aboves_of ps) (at : ℕ) (b : 0 < at) (h : at < length ps) (m : MeasuredFrom ps (suc at) sizes heights longs) where
      abbrev over : ℕ
      over = get_or aboves at 0

      above : (p : ℕ) × Over ps at over p
      above = over-at t at h (array-words t (above_position ps) aboves e at h) b

      pub over-low : over < at
      over-low = above.1.earlier

      abbrev sum : ℕ
      sum = get_or sizes over 0 + get_or sizes at 0

      pub sum-small : sum ≤ most_entries
      sum-small = sum_fits t at over _ h above.1 _ m.sums

      pub rise-small : get_or heights at 0 ≤ most_entries
      rise-small = rise-fits t at over _ h above.1 _ m.highs

      sums-on : WordsFrom ps size_of at (λ k. get_or (set sizes over sum) k 0)
      sums-on =
          words_more t at over _ h above.1 size_of _ _ m.sums (λ k l q. get_or-set_other sizes over k sum 0 q)
          (get_or-set_same sizes over sum 0 (omega (arith, ls, over-low)) ∙ sum_is t at over _ h above.1 _ m.sums)

      -- by what the height above is
      pub short : get_or heights at 0 + 1 < get_or heights over 0 → MeasuredFrom ps at (set sizes over sum) heights longs
      short w =
          let (x, y) = shorter t at over _ h above.1 _ m.highs w in
          record {
            sums = sums-on;
            highs = words_more t at over _ h above.1 height_of _ _ m.highs (λ k l q. refl) x;
            tails = words_more t at over _ h above.1 (long_of ps) _ _ m.tails (λ k l q. refl) (m.tails over (omega (arith, over-low)) ∙ y);
          }

      pub tall : get_or heights over 0 ≤ get_or heights at 0 + 1 → MeasuredFrom ps at (set sizes over sum) (set heights over (get_or heights at 0 + 1)) (set longs over at)
      tall w =
          let x = get_or heights at 0 + 1 in
          let (y, z) = taller t at over _ h above.1 _ m.highs w in
          record {
            sums = sums-on;
            highs = words_more t at over _ h above.1 height_of _ _ m.highs (λ k l q. get_or-set_other heights over k x 0 q) (get_or-set_same heights over x 0 (omega (arith, lh, over-low)) ∙ y);
            tails = words_more t at over _ h above.1 (long_of ps) _ _ m.tails (λ k l q. get_or-set_other longs over k at 0 q) (get_or-set_same longs over at 0 (omega (arith, ll, over-low)) ∙ z);
          }
