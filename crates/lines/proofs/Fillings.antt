-- A text's array stays zero past its bytes as it takes more of them. Assumes nothing.
use Rattle.std.proofs.Common.{◌≡◌, ◌∙◌, sym, ap, List, ℕ, ◌+◌, ◌-◌, ◌<◌, ◌≤◌, length, set, drop, replicate, arith}
use Rattle.std.proofs.lemmas.List.{length-set, drop-set-lt, drop-drop, drop-replicate}
use borrow.Rule.Slice.PartMut.{put_mid, mid_len, same_len_mid, drop_put}
use Rattle.lines.specs.Texts.{row_room, Filled}

module _ {bytes : List ℕ} {count : ℕ} (f : Filled bytes count) where
  -- further on it is zero too
  rest-on : (n : ℕ) → count ≤ n → drop n bytes ≡ replicate (row_room - n) 0
  rest-on n h =
      let e : n ≡ count + (n - count) = omega arith in
      let z : (row_room - count) - (n - count) ≡ row_room - n = omega arith in
      ap (λ k. drop k bytes) e ∙ rw (← drop-drop (n - count) count bytes, f.rest, drop-replicate, z)

  -- one byte more, and as many as fill it up to n
  pub filled_set : (b : ℕ) → count < row_room → Filled (set bytes count b) (count + 1)
  filled_set b h = record {
    fits = omega arith;
    size = length-set bytes count b ∙ f.size;
    rest = drop-set-lt (count + 1) bytes count b (omega arith) ∙ rest-on (count + 1) (omega arith);
  }

  pub filled_put : (n : ℕ) (more : List ℕ) → count ≤ n → n ≤ row_room → length more ≡ n - count → Filled (put_mid count (n - count) bytes more) n
  filled_put n more h k e = record {
    fits = k;
    size = same_len_mid count (n - count) bytes more (e ∙ sym (mid_len count n bytes (omega arith))) ∙ f.size;
    rest = drop_put count n bytes more h (omega arith) e ∙ rest-on n h;
  }
