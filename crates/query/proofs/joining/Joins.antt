-- Cells listed by a part of a program, put behind those so far. Assumes nothing.
use Rattle.std.proofs.Common.{◌≡◌, ℕ, suc, ◌+◌, ◌-◌, ◌<◌, ◌≤◌, List, [], ◌∷◌, ◌++◌, length, get_or, take, set, replicate, sym, refl, ap, ◌∙◌, append_assoc, append-nil, arith, lit≤, length-append, ext_get_or}
use native.Mathlib.Decide.{dec_lt}
use lib.ListN.{length-replicate, replicate-append-replicate}
use lib.Seq.{set-append_seam, sets, take-append_seam}
use Rattle.base.specs.Lists.{each, below, padded}
use Rattle.base.proofs.Lists.{each-length, below_at}
use Rattle.base.proofs.Joins.{padded-length, padded-in, padded-past}
use Rattle.answers.specs.Reading.{Reading, trace}
use Rattle.answers.specs.Answers.{pushed_all, listed, answer_to, answer_from}
use Rattle.answers.specs.Steps.{from_jump}
use Rattle.answers.specs.declared.Answer.{Answer}
use Rattle.answers.specs.declared.Cells.{Cells}
use Rattle.answers.proofs.ProgramAnswers.{push-all-listed, from_is, whole, few, cells-listed}
use Rattle.answers.proofs.Bounds.{jump-within}
use Rattle.query.specs.Reads.{Held}
use Rattle.query.proofs.Programs.{Listing, listing-held}

-- a part's answer with its cells behind those so far is the answer of going on with it
pub part-goes : (t : List ℕ) (cs : Cells) (p : Reading) (a : Answer) (all : Cells) → a ≡ answer_to t p → all ≡ pushed_all cs (take a.cells.count a.cells.at)
    → record { number = a.number; word = a.word; cells = all } ≡ answer_from t cs p
unfolding answer_to
part-goes t cs p a all e h =
    let cells : all ≡ pushed_all cs (trace t p) = h ∙ ap (pushed_all cs) (ap (λ b. take b.cells.count b.cells.at) e ∙ cells-listed t p) in
    rw (e, cells) (sym (from_is t cs p))

-- an answer lists the cells that it has read
pub answer-held : (t : List ℕ) (p : Reading) (a : Answer) → a ≡ answer_to t p → Held a.cells.count a.cells
unfolding answer_to listed
answer-held t p a e = rw e (listing-held (trace t p))

-- step 4's answer
module _ (t : List ℕ) (n d jump : ℕ) (a : Answer) (e : a ≡ answer_from t (listed []) (from_jump n d jump)) where
  pub jump-answer : a ≡ answer_to t (from_jump n d jump)
  jump-answer = e ∙ whole t 4 (from_jump n d jump) (jump-within n d jump) (lit≤ tt)

  pub jump-four : a.cells.count ≤ 4
  jump-four = rw jump-answer (few t 4 (from_jump n d jump) (jump-within n d jump))

  pub jump-held : Held a.cells.count a.cells
  jump-held = answer-held t (from_jump n d jump) a jump-answer

  pub jump_goes : (cs all : Cells) → all ≡ pushed_all cs (take a.cells.count a.cells.at) → record { number = a.number; word = a.word; cells = all } ≡ answer_from t cs (from_jump n d jump)
  jump_goes cs all h = part-goes t cs (from_jump n d jump) a all jump-answer h

-- the first places of a list with zeros behind it
first-places : (n j : ℕ) (xs : List ℕ) → length xs ≤ j → below j (λ i. get_or (padded n xs) i 0) ≡ padded j xs
unfolding each
first-places n j xs h =
    ext_get_or 0 (below j (λ i. get_or (padded n xs) i 0)) (padded j xs) (each-length j 0 _ ∙ sym (padded-length j xs h))
    (λ i b. below_at j (λ i. get_or (padded n xs) i 0) 0 i (omega (arith, each-length j 0 (λ i. get_or (padded n xs) i 0))) ∙ go i (dec_lt i (length xs)))
  where
    go : (i : ℕ) → Dec (i < length xs) → get_or (padded n xs) i 0 ≡ get_or (padded j xs) i 0
    go i (yes b) = padded-in n xs i b ∙ sym (padded-in j xs i b)
    go i (no b) = padded-past n xs i (omega arith) ∙ sym (padded-past j xs i (omega arith))

-- no zeros stand behind a list that fills its places
full : (n : ℕ) (xs : List ℕ) → length xs ≡ n → padded n xs ≡ xs
unfolding padded
full n xs h = let z : n - length xs ≡ 0 = omega arith in rw z (append-nil xs)

-- zeros behind one list are zeros behind both
padded-behind : (n j : ℕ) (xs ys : List ℕ) → length ys ≤ j → length xs + j ≤ n → padded n (xs ++ padded j ys) ≡ padded n (xs ++ ys)
unfolding padded
padded-behind n j xs ys h r =
    let z : (j - length ys) + (n - length (xs ++ (ys ++ replicate (j - length ys) 0))) ≡ n - length (xs ++ ys) =
    omega (arith, length-append xs (ys ++ replicate (j - length ys) 0), length-append ys (replicate (j - length ys) 0), length-append xs ys, length-replicate {A = ℕ} (j - length ys) 0) in
    simp (append_assoc, replicate-append-replicate, z)

-- words stored at the first unused places
sets_behind : (n : ℕ) (vs xs : List ℕ) → length xs + length vs ≤ n → sets (padded n xs) (length xs) vs ≡ padded n (xs ++ vs)
unfolding padded
sets_behind n [] xs h = ap (padded n) (sym (append-nil xs))
sets_behind n (v ∷ vs) xs h =
    let l = length-append xs (v ∷ []) in
    let m : n - length xs ≡ suc (n - length (xs ++ (v ∷ []))) = omega arith in
    let s : set (padded n xs) (length xs) v ≡ padded n (xs ++ (v ∷ [])) = rw m (set-append_seam xs 0 _ v ∙ sym (append_assoc xs (v ∷ []) _)) in
    let k : suc (length xs) ≡ length (xs ++ (v ∷ [])) = omega arith in
    rw (s, k) (sets_behind n vs (xs ++ (v ∷ [])) (omega arith) ∙ ap (padded n) (append_assoc xs (v ∷ []) vs))

-- one list behind another: its first j places are copied, where it has no more cells
behind : (xs ys : List ℕ) (j : ℕ) → length ys ≤ j → length xs + j ≤ 15
    → record { at = padded 15 (xs ++ below j (λ i. get_or (listed ys).at i 0)); count = length xs + length ys } ≡ pushed_all (listed xs) (take (length ys) (listed ys).at)
unfolding listed
behind xs ys j h r =
    let t : take (length ys) (padded 15 ys) ≡ ys = unfold padded in take-append_seam ys _ in
    rw (first-places 15 j ys h, padded-behind 15 j xs ys h r, ← (length-append xs ys), t) (sym (push-all-listed xs ys (omega arith)))

module _ (cs more : Cells) (k : ℕ) (a : Listing k cs) (b : Listing more.count more) where
  -- by four stores
  pub four-behind : k ≤ 11 → more.count ≤ 4
      → record { at = set (set (set (set cs.at k (get_or more.at 0 0)) (k + 1) (get_or more.at 1 0)) (k + 2) (get_or more.at 2 0)) (k + 3) (get_or more.at 3 0); count = k + more.count } ≡ pushed_all cs (take more.count more.at)
  unfolding each listed
  four-behind h f =
      let one : k + 1 ≡ suc k = omega arith in
      let two : k + 2 ≡ suc (suc k) = omega arith in
      let three : k + 3 ≡ suc (suc (suc k)) = omega arith in
      let s = sets_behind 15 (below 4 (λ i. get_or (listed b.list).at i 0)) a.list (omega (arith, a.long)) in
      rw (one, two, three, ← a.long, a.is, b.is) (rw s (behind a.list b.list 4 (omega (arith, b.long)) (omega (arith, a.long))))

  -- by fifteen words
  pub rest-behind : (j : ℕ) → k + j ≡ 15 → more.count ≤ j
      → record { at = below k (λ i. get_or cs.at i 0) ++ below j (λ i. get_or more.at i 0); count = k + more.count } ≡ pushed_all cs (take more.count more.at)
  unfolding listed
  rest-behind j h f =
      let xs = a.list in
      let ys = b.list in
      let more-at = below j (λ i. get_or (listed ys).at i 0) in
      let front : below (length xs) (λ i. get_or (listed xs).at i 0) ≡ xs = first-places 15 (length xs) xs (omega arith) ∙ full (length xs) xs refl in
      let all : xs ++ more-at ≡ padded 15 (xs ++ more-at) = sym (full 15 (xs ++ more-at) (omega (arith, a.long, length-append xs more-at, each-length j 0 (λ i. get_or (listed ys).at i 0)))) in
      rw (← a.long, a.is, b.is, front, all) (behind xs ys j (omega (arith, b.long)) (omega (arith, a.long)))
