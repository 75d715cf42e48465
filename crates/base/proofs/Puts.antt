-- A part of a list replaced by other words: what stands there, before it and behind it. Assumes nothing.
use mathlib.Core.Path.{◌≡◌, refl, sym, ap, ◌∙◌}
use mathlib.Core.List.{List, [], ◌++◌, append_assoc, ◌∷◌, append-nil}
use Prim.Native.Nat.{ℕ, ◌+◌, ◌-◌, ◌≤◌, ◌<◌}
use native.Mathlib.Omega.{arith}
use native.Mathlib.Decide.{dec_le}
use borrow.Rule.Slice.PartMut.{mid_of, put_mid, Post-is, mid_len}
use lib.ListN.{length, take, drop, length-append, length-take, length-drop, take-append-drop, drop_of_length-le, set, get_or, replicate, length-replicate}
use lib.Seq.{drop-append-le, drop_at, drop-drop, length-take-le, take_at, take-add, take_all, take-nil, take-take, set_split}
use Rattle.base.specs.Lists.{view, put, padded}
use Rattle.base.proofs.Views.{view-back, view-other, filled_at}
use mathlib.Core.Logic.{◌⊎◌, ⊎_elim}
use native.Mathlib.Numerals.{add-one}

-- a part that was lent, as it is lent and as it comes back
pub lent_view : (a b c : ℕ) (l : List ℕ) → a + c ≡ b → mid_of a (b - a) l ≡ view a c l
unfolding view
lent_view a b c l e = let z : b - a ≡ c = omega arith in ap (λ k. take k (drop a l)) z

pub lent_back : (a b : ℕ) (l y x : List ℕ) → y ≡ x → a + length x ≡ b → put_mid a (b - a) l y ≡ put l a x
unfolding put
lent_back a b l y x q e = rw q (ap (λ r. take a l ++ (x ++ r)) (Post-is a b l (omega arith) ∙ ap (λ k. drop k l) (sym e)))

module _ (l : List ℕ) (a : ℕ) (x : List ℕ) (room : a + length x ≤ length l) where
  pub put-length : length (put l a x) ≡ length l
  unfolding put
  put-length = simp (length-append, length-take, length-drop) (omega arith)

  -- the words that were put, and those before and behind them
  pub put_view : (c : ℕ) → length x ≡ c → view a c (put l a x) ≡ x
  unfolding put
  put_view c e = view-back a c l x (drop (a + length x) l) (omega arith) e

  pub put-before : (b c : ℕ) → b + c ≤ a → view b c (put l a x) ≡ view b c l
  unfolding put
  put-before b c h = view-other a b c l (x ++ drop (a + length x) l) h (omega arith)

  put-drop : drop (a + length x) (put l a x) ≡ drop (a + length x) l
  unfolding put
  put-drop = ap (drop (a + length x)) (sym (append_assoc (take a l) x (drop (a + length x) l))) ∙ drop_at (take a l ++ x) _ (a + length x) (simp (length-append, length-take) (omega arith))

  pub put-behind : (b c : ℕ) → a + length x ≤ b → view b c (put l a x) ≡ view b c l
  unfolding view
  put-behind b c h =
      let k = b - (a + length x) in
      let z : b ≡ (a + length x) + k = omega arith in
      let e : (m : List ℕ) → drop b m ≡ drop k (drop (a + length x) m) = λ m. ap (λ j. drop j m) z ∙ sym (drop-drop k (a + length x) m) in
      ap (take c) (e (put l a x) ∙ ap (drop k) put-drop ∙ sym (e l))

pub put-none : (l : List ℕ) (a : ℕ) → put l a [] ≡ l
unfolding put
put-none l a = let z : a + 0 ≡ a = omega arith in ap (λ k. take a l ++ drop k l) z ∙ take-append-drop a l

-- words put behind those that were put
pub put-more : (l : List ℕ) (a b : ℕ) (x y : List ℕ) → a + length x ≡ b → b + length y ≤ length l → put (put l a x) b y ≡ put l a (x ++ y)
unfolding put
put-more l a b x y e h =
    let room : a + length x ≤ length l = omega arith in
    let front : take b (put l a x) ≡ take a l ++ x
    = ap (take b) (sym (append_assoc (take a l) x (drop (a + length x) l))) ∙ take_at (take a l ++ x) _ b (simp (length-append, length-take) (omega arith)) in
    let z : b + length y ≡ (a + length x) + length y = omega arith in
    let w : (a + length x) + length y ≡ a + length (x ++ y) = omega (arith, length-append x y) in
    let back : drop (b + length y) (put l a x) ≡ drop (a + length (x ++ y)) l
    = ap (λ k. drop k (put l a x)) z ∙ sym (drop-drop (length y) (a + length x) (put l a x)) ∙ ap (drop (length y)) (put-drop l a x room) ∙ drop-drop (length y) (a + length x) l ∙ ap (λ k. drop k l) w in
    ap (λ f. f ++ (y ++ drop (b + length y) (put l a x))) front
    ∙ ap (λ r. (take a l ++ x) ++ (y ++ r)) back
    ∙ append_assoc (take a l) x (y ++ drop (a + length (x ++ y)) l)
    ∙ ap (λ r. take a l ++ r) (sym (append_assoc x y (drop (a + length (x ++ y)) l)))

-- words put over the front of others
pub put-over : (l : List ℕ) (a : ℕ) (x y : List ℕ) → a + length y ≤ length l → length x ≤ length y → put (put l a y) a x ≡ put l a (x ++ drop (length x) y)
unfolding put
put-over l a x y h k =
    let front : take a (put l a y) ≡ take a l = take_at (take a l) (y ++ drop (a + length y) l) a (simp length-take (omega arith)) in
    let split : drop (a + length x) (put l a y) ≡ drop (length x) (y ++ drop (a + length y) l)
    = sym (drop-drop (length x) a (put l a y)) ∙ ap (drop (length x)) (drop_at (take a l) _ a (simp length-take (omega arith))) in
    let whole : a + length (x ++ drop (length x) y) ≡ a + length y = omega (arith, length-append x (drop (length x) y), length-drop (length x) y) in
    ap (λ f. f ++ (x ++ drop (a + length x) (put l a y))) front
    ∙ ap (λ r. take a l ++ (x ++ r)) (split ∙ drop-append-le (length x) y _ k)
    ∙ ap (λ r. take a l ++ r) (sym (append_assoc x (drop (length x) y) (drop (a + length y) l)))
    ∙ ap (λ m. take a l ++ ((x ++ drop (length x) y) ++ drop m l)) (sym whole)

-- parts that lie side by side
pub view-join : (a c d : ℕ) (l : List ℕ) → view a (c + d) l ≡ view a c l ++ view (a + c) d l
unfolding view
view-join a c d l = take-add c d (drop a l) ∙ ap (λ r. take c (drop a l) ++ take d r) (drop-drop c a l)

pub view-all : (c : ℕ) (l : List ℕ) → length l ≡ c → view 0 c l ≡ l
unfolding view
view-all c l e = take_all c l (omega arith)

-- a part of a part, and so a part of the words that were put
view-view : (a k b c : ℕ) (l : List ℕ) → b + c ≤ k → view b c (view a k l) ≡ view (a + b) c l
unfolding view
view-view a k b c l h =
    let z : b + (k - b) ≡ k = omega arith in
    let e : drop b (take k (drop a l)) ≡ take (k - b) (drop b (drop a l)) = go (drop a l) (dec_le b (length (drop a l))) z in
    ap (take c) e ∙ take-take c (k - b) (drop b (drop a l)) (omega arith) ∙ ap (take c) (drop-drop b a l)
  where
    go : (m : List ℕ) → Dec (b ≤ length m) → b + (k - b) ≡ k → drop b (take k m) ≡ take (k - b) (drop b m)
    go m (yes g) z = ap (λ j. drop b (take j m)) (sym z) ∙ ap (drop b) (take-add b (k - b) m) ∙ drop_at (take b m) _ b (length-take-le b m g)
    go m (no g) z =
        drop_of_length-le (take k m) {i = b} (simp length-take (omega arith))
        ∙ sym (ap (take (k - b)) (drop_of_length-le m {i = b} (omega arith)) ∙ take-nil (k - b))

pub put-inside : (l : List ℕ) (a : ℕ) (x : List ℕ) → a + length x ≤ length l → (b c : ℕ) → b + c ≤ length x → view (a + b) c (put l a x) ≡ view b c x
put-inside l a x room b c h = sym (view-view a (length x) b c (put l a x) h) ∙ ap (view b c) (put_view l a x room (length x) refl)

-- a part that is lent has the words that stand there
pub lent : (a b c : ℕ) (l x : List ℕ) → a + c ≡ b → view a c l ≡ x → mid_of a (b - a) l ≡ x
lent a b c l x e q = lent_view a b c l e ∙ q

-- and what comes back of it is put there
pub came-back : (a c : ℕ) (l y x : List ℕ) → a + c ≤ length l → length y ≡ length (mid_of a (a + c - a) l) → y ≡ x → put_mid a (a + c - a) l y ≡ put l a x
came-back a c l y x h n e = lent_back a (a + c) l y x e (omega (arith, ap length e, mid_len a (a + c) l h))

-- a part that is lent and set to one word
module _ (a b c x : ℕ) (l y : List ℕ) (e : a + c ≡ b) (h : b ≤ length l) (q : y ≡ replicate (length (mid_of a (b - a) l)) x) where
  pub filled-all : y ≡ replicate c x
  filled-all = let z : length (mid_of a (b - a) l) ≡ c = mid_len a b l h ∙ omega arith in q ∙ ap (λ k. replicate k x) z

  pub came-filled : put_mid a (b - a) l y ≡ put l a (replicate c x)
  came-filled = lent_back a b l y (replicate c x) filled-all (omega (arith, length-replicate {A = ℕ} c x))

pub put-filled : (a c x : ℕ) (l : List ℕ) → a + c ≤ length l → (v : ℕ) → v < c → get_or (view a c (put l a (replicate c x))) v 0 ≡ x
put-filled a c x l h v b =
    let n : length (replicate c x) ≡ c = length-replicate c x in
    ap (λ w. get_or w v 0) (put_view l a (replicate c x) (omega arith) c n) ∙ filled_at (replicate c x) c x v refl (omega arith)

-- all words from a on, lent and set to 0
pub wiped : (l y : List ℕ) (a : ℕ) → a ≤ length l → y ≡ replicate (length (mid_of a (length l - a) l)) 0 → put_mid a (length l - a) l y ≡ padded (length l) (take a l)
unfolding padded
wiped l y a h e =
    let zeros : y ≡ replicate (length l - length (take a l)) 0 = e ∙ ap (λ k. replicate k 0) (mid_len a (length l) l (omega arith) ∙ ap (λ k. length l - k) (sym (length-take-le a l h))) in
    ap (λ r. take a l ++ (y ++ r)) (Post-is a (length l) l h ∙ drop_of_length-le l {i = length l} (omega arith)) ∙ ap (λ r. take a l ++ r) (append-nil y ∙ zeros)

-- c words from b on lie apart from k words from a on
abbrev pub Apart : ℕ → ℕ → ℕ → ℕ → Type 0
Apart a k b c = (b + c ≤ a) ⊎ (a + k ≤ b)

-- words that stand apart from those that are put stay
pub stays : (l : List ℕ) (a : ℕ) (x : List ℕ) → a + length x ≤ length l → (b c : ℕ) → Apart a (length x) b c → view b c (put l a x) ≡ view b c l
stays l a x fits b c o = ⊎_elim (λ h. put-before l a x fits b c h) (λ h. put-behind l a x fits b c h) o

-- one word that is stored is put
pub set-put : (l : List ℕ) (k x : ℕ) → k < length l → set l k x ≡ put l k (x ∷ [])
unfolding put
set-put l k x h = set_split l k x h ∙ ap (λ j. take k l ++ (x ∷ drop j l)) (sym (add-one k))
