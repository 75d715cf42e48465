-- Functions on lists that the definitions share. Assumes nothing.
use Rattle.std.specs.Prelude.{List, [], ◌∷◌, ◌++◌, Bool, true, false, cond, ℕ, zero, suc, ◌+◌, ◌-◌, length, take, drop, replicate, eqb}
use Rattle.std.proofs.Math.Option.{Option, none, some}

-- f i, f (i + 1), and so on: n of them
unfoldable pub each {ℓ} : {A : Type ℓ} → ℕ → ℕ → (ℕ → A) → List A
each zero i f = []
each (suc n) i f = f i ∷ each n (suc i) f

-- f of each number below n
abbrev pub below {ℓ} : {A : Type ℓ} → ℕ → (ℕ → A) → List A
below n f = each n 0 f

-- those of a list that pass a test, in its order
unfoldable pub keep {ℓ} : {A : Type ℓ} → (A → Bool) → List A → List A
keep test [] = []
keep test (x ∷ l) = cond (test x) (x ∷ keep test l) (keep test l)

-- the first of a list that passes a test, if one does
unfoldable pub first {ℓ} : {A : Type ℓ} → (A → Bool) → List A → Option A
first test [] = none
first test (x ∷ l) = cond (test x) (some x) (first test l)

-- how many stand before the first that passes a test: all, where none does
unfoldable pub index {ℓ} : {A : Type ℓ} → (A → Bool) → List A → ℕ
index test [] = 0
index test (x ∷ l) = cond (test x) 0 (suc (index test l))

-- whether every one of a list passes a test; whether one does
unfoldable pub every {ℓ} : {A : Type ℓ} → (A → Bool) → List A → Bool
every test [] = true
every test (x ∷ l) = cond (test x) (every test l) false

unfoldable pub some? {ℓ} : {A : Type ℓ} → (A → Bool) → List A → Bool
some? test [] = false
some? test (x ∷ l) = cond (test x) true (some? test l)

-- x's place in a list, and whether it is there
abbrev pub place : ℕ → List ℕ → ℕ
place x l = index (eqb x) l

abbrev pub has : List ℕ → ℕ → Bool
has l x = some? (eqb x) l

-- the places at which x stands in a list whose first place is i, in increasing order
unfoldable pub places : List ℕ → ℕ → ℕ → List ℕ
places [] i x = []
places (y ∷ l) i x = cond (eqb y x) (i ∷ places l (suc i) x) (places l (suc i) x)

-- a list with zeros behind it, up to n words
unfoldable pub padded : ℕ → List ℕ → List ℕ
padded n l = l ++ replicate (n - length l) 0

-- the c words from a on
unfoldable pub view : ℕ → ℕ → List ℕ → List ℕ
view a c l = take c (drop a l)

-- a list with x in the place of its words from a on
unfoldable pub put : List ℕ → ℕ → List ℕ → List ℕ
put l a x = take a l ++ (x ++ drop (a + length x) l)
