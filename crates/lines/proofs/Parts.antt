-- Lines parted by commas, and what their first field says. Assumes nothing.
use mathlib.Core.Path.{◌≡◌, refl, sym, ap, ◌∙◌}
use mathlib.Core.Logic.{◌⊎◌, inl, inr}
use mathlib.Core.List.{List, [], ◌∷◌, ◌++◌}
use mathlib.Core.Bool.{Bool, true, false, cond, ◌&&◌}
use mathlib.Core.Option.{Option, none, some, bind}
use Prim.Native.Nat.{ℕ}
use native.Mathlib.Decide.{ℕ_discrete}
use lib.ListN.{take, drop}
use lib.Dec.{eqb}
use borrow.Author.Tests.{eq-eqb, ne_eqb}
use Rattle.std.specs.Cmp.Lexicographic.{pointwise}
use Rattle.base.proofs.Lists.{All}
use Rattle.lines.specs.Text.{comma}
use Rattle.lines.specs.Fields.{parted, fields, tagged, single}
use Rattle.lines.specs.Results.{headed}

module _ (sep : ℕ) where
  -- a byte more before a parted list
  pub parted-at : (b : ℕ) (l : List ℕ) → b ≡ sep → parted sep (b ∷ l) ≡ [] ∷ parted sep l
  unfolding parted
  parted-at b l e = rw (eq-eqb b sep e)

  pub parted-by : (b : ℕ) (l f : List ℕ) (fs : List (List ℕ)) → (b ≡ sep → ⊥) → parted sep l ≡ f ∷ fs → parted sep (b ∷ l) ≡ (b ∷ f) ∷ fs
  unfolding parted
  parted-by b l f fs n e = rw (ne_eqb b sep n, e)

  -- there is a part at least
  pub parted-some : (l : List ℕ) → (f : List ℕ) × (fs : List (List ℕ)) × (parted sep l ≡ f ∷ fs)
  unfolding parted
  parted-some [] = ([], [], refl)
  parted-some (b ∷ l) = go (ℕ_discrete b sep) (parted-some l)
    where
      go : Dec (b ≡ sep) → ((f : List ℕ) × (fs : List (List ℕ)) × (parted sep l ≡ f ∷ fs)) → (f : List ℕ) × (fs : List (List ℕ)) × (parted sep (b ∷ l) ≡ f ∷ fs)
      go (yes e) r = ([], parted sep l, parted-at b l e)
      go (no n) (f, fs, e) = (b ∷ f, fs, parted-by b l f fs n e)

  -- no separator stands in a list
  abbrev pub Plain : List ℕ → Type 0
  Plain l = All (λ b. b ≡ sep → ⊥) l

  pub parted-plain : (f : List ℕ) → Plain f → parted sep f ≡ f ∷ []
  unfolding parted
  parted-plain [] h = refl
  parted-plain (b ∷ f) h = parted-by b f f [] h.0 (parted-plain f h.1)

  pub parted-join : (f g : List ℕ) → Plain f → parted sep (f ++ (sep ∷ g)) ≡ f ∷ parted sep g
  parted-join [] g h = parted-at sep g refl
  parted-join (b ∷ f) g h = parted-by b (f ++ (sep ∷ g)) f (parted sep g) h.0 (parted-join f g h.1)

  -- a plain list lengthens the first part
  pub parted-onto : (l rest h : List ℕ) (t : List (List ℕ)) → Plain l → parted sep rest ≡ h ∷ t → parted sep (l ++ rest) ≡ (l ++ h) ∷ t
  parted-onto [] rest h t p e = e
  parted-onto (b ∷ l) rest h t p e = parted-by b (l ++ rest) (l ++ h) t p.0 (parted-onto l rest h t p.1 e)

  -- a list is plain, or has a first separator
  pub record Join (l : List ℕ) : Type 0 where
    pub front : List ℕ
    pub back : List ℕ
    pub plain : Plain front
    pub is : l ≡ front ++ (sep ∷ back)

  pub plain-or : (l : List ℕ) → Plain l ⊎ Join l
  plain-or [] = inl tt
  plain-or (b ∷ l) = go (ℕ_discrete b sep) (plain-or l)
    where
      go : Dec (b ≡ sep) → Plain l ⊎ Join l → Plain (b ∷ l) ⊎ Join (b ∷ l)
      go (yes e) r = inr record { front = []; back = l; plain = tt; is = rw e }
      go (no n) (inl h) = inl (n, h)
      go (no n) (inr j) = inr record { front = b ∷ j.front; back = j.back; plain = (n, j.plain); is = ap (◌∷◌ b) j.is }

-- the one field of a line, where what is read of it is nothing if it has a comma
module _ {A : Type 0} (read : List ℕ → Option A) (other : (f g : List ℕ) → read (f ++ (comma ∷ g)) ≡ none) where
  pub single-read : (line : List ℕ) → bind (single (fields line)) read ≡ read line
  unfolding single bind
  single-read line = go (plain-or comma line)
    where
      go : Plain comma line ⊎ Join comma line → bind (single (fields line)) read ≡ read line
      go (inl h) = rw (parted-plain comma line h)
      go (inr j) =
          let (f, fs, e) = parted-some comma j.back in
          rw (j.is, parted-join comma j.front j.back j.plain, e, other j.front j.back)

-- the fields behind a letter
module _ {A : Type 0} (letter : ℕ) (plain : letter ≡ comma → ⊥) (read : List (List ℕ) → Option A) (empty : read [] ≡ none) where
  abbrev told : List ℕ → Type 0
  told line = bind (tagged letter (fields line)) read ≡ cond (headed letter line) (read (fields (drop 2 line))) none

  first-comma : (b : ℕ) (l : List ℕ) → b ≡ comma → bind (tagged letter (fields (b ∷ l))) read ≡ none
  unfolding tagged bind
  first-comma b l e = rw (parted-at comma b l e)

  unheaded : (b c : ℕ) (l : List ℕ) → b ≡ comma → headed letter (b ∷ c ∷ l) ≡ false
  unfolding headed
  unheaded b c l e = rw (ne_eqb b letter (λ q. plain (sym q ∙ e)))

  one : (b : ℕ) → Dec (b ≡ comma) → told (b ∷ [])
  unfolding tagged bind headed parted
  one b (yes e) = first-comma b [] e
  one b (no n) = rw (ne_eqb b comma n) (go (eqb b letter))
    where
      go : (t : Bool) → bind (cond t (some []) none) read ≡ none
      go true = empty
      go false = refl

  more : (b c : ℕ) (l : List ℕ) → Dec (b ≡ comma) → Dec (c ≡ comma) → told (b ∷ c ∷ l)
  unfolding tagged bind headed
  more b c l (yes e) d = first-comma b (c ∷ l) e ∙ rw (unheaded b c l e)
  more b c l (no n) (yes e) = rw (parted-by comma b (c ∷ l) [] (fields l) n (parted-at comma c l e), eq-eqb c comma e) (go (eqb b letter))
    where
      go : (t : Bool) → bind (cond t (some (fields l)) none) read ≡ cond (t && true) (read (fields l)) none
      go true = refl
      go false = refl
  more b c l (no n) (no m) =
      let (f, fs, e) = parted-some comma l in
      rw (parted-by comma b (c ∷ l) (c ∷ f) fs n (parted-by comma c l f fs m e), ne_eqb c comma m) (go (eqb b letter))
    where
      go : (t : Bool) → none ≡ cond (t && false) (read (fields l)) none
      go true = refl
      go false = refl

  pub headed-read : (line : List ℕ) → told line
  unfolding tagged bind headed parted
  headed-read [] = refl
  headed-read (b ∷ []) = one b (ℕ_discrete b comma)
  headed-read (b ∷ c ∷ l) = more b c l (ℕ_discrete b comma) (ℕ_discrete c comma)

-- a line that begins with a letter and a comma is headed by the letter
pub headed-prefix : (letter : ℕ) (line : List ℕ) → pointwise eqb (take 2 line) (letter ∷ comma ∷ []) ≡ headed letter line
unfolding headed
headed-prefix letter [] = refl
headed-prefix letter (b ∷ []) = go (eqb b letter)
  where
    go : (t : Bool) → (t && false) ≡ false
    go true = refl
    go false = refl
headed-prefix letter (b ∷ c ∷ l) = go (eqb b letter) (eqb c comma)
  where
    go : (t u : Bool) → (t && (u && true)) ≡ (t && u)
    go true true = refl
    go true false = refl
    go false u = refl
