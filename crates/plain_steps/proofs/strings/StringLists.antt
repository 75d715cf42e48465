-- The laws of a loop that lists the strings that go round a group, in 197 places. Assumes nothing.
use mathlib.Core.Path.{◌≡◌, refl, sym, ap, ◌∙◌}
use mathlib.Core.Bool.{Bool, true, false, cond}
use mathlib.Core.List.{List, [], ◌∷◌, ◌++◌, append-nil, append_assoc}
use Prim.Native.Nat.{ℕ, zero, suc, ◌+◌, ◌-◌, ◌≤◌, ◌<◌}
use native.Mathlib.Omega.{arith}
use native.Mathlib.Nat.{zero-add, suc-add}
use lib.ListN.{length, set, replicate, length-append}
use lib.Seq.{set_at}
use Rattle.plain_steps.specs.Strings.{steps_back, closes, goes_round, strings}

-- how many there are up to a number: 197 below 8192, and no more up to any number below
unfoldable counted : ℕ → ℕ
counted zero = 0
counted (suc n) = counted n + cond (goes_round (suc n)) 1 0

count-is : (n : ℕ) → length (strings n) ≡ counted n
unfolding strings counted
count-is zero = refl
count-is (suc n) = length-append (strings n) _ ∙ (λ i. count-is n i + one (goes_round (suc n)) i)
  where
    one : (t : Bool) → length (cond t (suc n ∷ []) []) ≡ cond t 1 0
    one true = refl
    one false = refl

count : counted 8191 ≡ 197
unfolding counted steps_back closes
count = refl

more : (m k : ℕ) → counted m ≤ counted (k + m)
unfolding counted
more m zero = rw zero-add (omega arith)
more m (suc k) = rw suc-add (omega (arith, more m k))

few : (m : ℕ) → m ≤ 8191 → length (strings m) ≤ 197
few m h =
    let k : 8191 - m + m ≡ 8191 = omega arith in
    omega (arith, count, count-is m, rw k at (more m (8191 - m)))

-- strings in 197 places, with zeros behind
abbrev placed : List ℕ → List ℕ
placed l = l ++ replicate (197 - length l) 0

put-behind : (l : List ℕ) (x : ℕ) → length l < 197 → set (placed l) (length l) x ≡ placed (l ++ (x ∷ []))
put-behind l x h =
    let k : 197 - length l ≡ suc (196 - length l) = omega arith in
    let j : 197 - length (l ++ (x ∷ [])) ≡ 196 - length l = omega (arith, length-append l (x ∷ [])) in
    rw (k, j, append_assoc) (set_at l 0 (replicate (196 - length l) 0) x (length l) refl)

strings-with : (n : ℕ) → goes_round (suc n) ≡ true → strings (suc n) ≡ strings n ++ (suc n ∷ [])
unfolding strings
strings-with n e = rw e

strings-without : (n : ℕ) → goes_round (suc n) ≡ false → strings (suc n) ≡ strings n
unfolding strings
strings-without n e = rw (e, append-nil)

-- those of the `passed` strings before one that go round are listed, and the next place is behind them
pub record Listed (all : List ℕ) (at string : ℕ) : Type 0 where
  pub passed : ℕ
  pub here : string ≡ suc passed
  pub most : passed ≤ 8191
  pub list : all ≡ placed (strings passed)
  pub next : at ≡ length (strings passed)

pub start : Listed (replicate 197 0) 0 1
unfolding strings
start = record { passed = 0; here = refl; most = omega arith; list = refl; next = refl }

module _ (all : List ℕ) (at string : ℕ) (l : Listed all at string) where
  pub small : at ≤ 197
  small = omega (arith, l.next, few l.passed l.most)

  -- one string more: all' and at' are what noting it leaves
  module _ (h : string < 8192) (all' : List ℕ) (at' : ℕ) where
    on : (s : List ℕ) → strings (suc l.passed) ≡ s → all' ≡ placed s → at' ≡ length s → Listed all' at' (string + 1)
    on s q e n = record {
      passed = suc l.passed;
      here = omega (arith, l.here);
      most = omega (arith, l.here);
      list = e ∙ ap placed (sym q);
      next = n ∙ ap length (sym q);
    }

    with : goes_round string ≡ true → all' ≡ set all at string → at' ≡ at + 1 → Listed all' at' (string + 1)
    with e p n =
        let s = strings l.passed in
        let x = suc l.passed in
        let q : strings x ≡ s ++ (x ∷ []) = strings-with l.passed (ap goes_round (sym l.here) ∙ e) in
        let m : length (s ++ (x ∷ [])) ≡ length s + 1 = length-append s (x ∷ []) in
        let b : length s < 197 = omega (arith, ap length q, few x (omega (arith, l.here))) in
        on (s ++ (x ∷ [])) q (p ∙ (λ i. set (l.list i) (l.next i) (l.here i)) ∙ put-behind s x b) (omega (arith, l.next))

    pub stepped : (goes_round string ≡ true → (all' ≡ set all at string) × (at' ≡ at + 1)) → (goes_round string ≡ false → (all' ≡ all) × (at' ≡ at)) → Listed all' at' (string + 1)
    stepped round other = go (goes_round string) refl
      where
        go : (t : Bool) → goes_round string ≡ t → Listed all' at' (string + 1)
        go true e = with e (round e).0 (round e).1
        go false e = on (strings l.passed) (strings-without l.passed (ap goes_round (sym l.here) ∙ e)) ((other e).0 ∙ l.list) ((other e).1 ∙ l.next)

  pub finish : string ≡ 8192 → all ≡ strings 8191
  finish e =
      let n : l.passed ≡ 8191 = omega (arith, l.here) in
      let z : 197 - length (strings 8191) ≡ 0 = omega (arith, count, count-is 8191) in
      l.list ∙ ap (λ k. placed (strings k)) n ∙ rw (z, append-nil)
