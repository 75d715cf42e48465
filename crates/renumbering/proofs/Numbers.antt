-- Laws of a renumbering: it is one to one on all numbers, and the way back is one too; so two lists of one tree are so both ways, and every list has its renumbered list. Assumes nothing.
use mathlib.Core.Path.{◌≡◌, sym, ap, subst, ◌∙◌}
use mathlib.Core.List.{List}
use Prim.Native.Nat.{ℕ, ◌≤◌, ◌<◌}
use native.Mathlib.Omega.{arith}
use native.Mathlib.Decide.{ℕ_discrete, dec_lt}
use lib.ListN.{length, get_or}
use lib.Seq.{ext_get_or}
use lib.Dec.{eqb}
use borrow.Author.Tests.{eq-eqb, ne_eqb}
use Rattle.base.specs.Lists.{below}
use Rattle.base.proofs.Lists.{below_at, each-length}
use Rattle.tree.specs.Parents.{word}
use Rattle.renumbering.specs.Numbering.{Renumbering, Renumbered, SameRates}

module _ (n : ℕ) (r : ℕ → ℕ) (p : Renumbering n r) where
  -- what has a new number below n is an entry
  pub old-in : (v : ℕ) → r v < n → v < n
  old-in v h = go (dec_lt v n)
    where
      go : Dec (v < n) → v < n
      go (yes a) = a
      go (no a) = omega (arith, p.others v (omega arith))

  pub injective : (u v : ℕ) → r u ≡ r v → u ≡ v
  injective u v e = go (dec_lt u n) (dec_lt v n)
    where
      go : Dec (u < n) → Dec (v < n) → u ≡ v
      go (yes a) (yes b) = p.one-one u v a b e
      go (yes a) (no b) = absurd (omega (arith, p.within u a, p.others v (omega arith)))
      go (no a) (yes b) = absurd (omega (arith, p.within v b, p.others u (omega arith)))
      go (no a) (no b) = omega (arith, p.others u (omega arith), p.others v (omega arith))

  pub same_test : (u v : ℕ) → eqb (r u) (r v) ≡ eqb u v
  same_test u v = go (ℕ_discrete u v)
    where
      go : Dec (u ≡ v) → eqb (r u) (r v) ≡ eqb u v
      go (yes e) = eq-eqb (r u) (r v) (ap r e) ∙ sym (eq-eqb u v e)
      go (no e) = ne_eqb (r u) (r v) (λ q. e (injective u v q)) ∙ sym (ne_eqb u v e)

  -- the number of which w is the new one
  old_of : (w : ℕ) → Dec (w < n) → ℕ
  old_of w (yes h) = (p.onto w h).0
  old_of w (no h) = w

  pub old : ℕ → ℕ
  old w = old_of w (dec_lt w n)

  pub new-old : (w : ℕ) → r (old w) ≡ w
  unfolding old old_of
  new-old w = go (dec_lt w n)
    where
      go : (b : Dec (w < n)) → r (old_of w b) ≡ w
      go (yes h) = (p.onto w h).2
      go (no h) = p.others w (omega arith)

  pub old-new : (v : ℕ) → old (r v) ≡ v
  old-new v = injective (old (r v)) v (new-old (r v))

  pub old_below : (w : ℕ) → w < n → old w < n
  old_below w h = old-in (old w) (omega (arith, new-old w))

  pub back : Renumbering n old
  back = record {
    within = old_below;
    one-one = λ u v a b e. sym (new-old u) ∙ ap r e ∙ new-old v;
    onto = λ w h. (r w, p.within w h, old-new w);
    others = λ v h. injective (old v) v (new-old v ∙ sym (p.others v h));
  }

-- two lists of one tree
module _ (r : ℕ → ℕ) (ps qs : List ℕ) (e : Renumbered r ps qs) where
  abbrev pub way_back : ℕ → ℕ
  way_back = old (length ps) r e.numbers

  pub word-new : (w : ℕ) → w < length qs → (way_back w < length ps) × (word qs w ≡ r (word ps (way_back w)))
  word-new w h =
      let k = old_below (length ps) r e.numbers w (omega (arith, e.size)) in
      (k, ap (word qs) (sym (new-old (length ps) r e.numbers w)) ∙ e.words (way_back w) k)

  -- they are so both ways
  pub flipped : Renumbered way_back qs ps
  flipped = record {
    numbers = subst (λ n. Renumbering n way_back) (sym e.size) (back (length ps) r e.numbers);
    size = sym e.size;
    words = λ w h. sym (old-new (length ps) r e.numbers (word ps (way_back w))) ∙ ap way_back (sym (word-new w h).1);
  }

  -- the first list fixes the second, and how wide its words are
  pub one_list : (os : List ℕ) → Renumbered r ps os → qs ≡ os
  one_list os i = ext_get_or 0 qs os (e.size ∙ sym i.size) (λ w h.
      let (k, q) = word-new w h in
      q ∙ sym (i.words (way_back w) k) ∙ ap (word os) (new-old (length ps) r e.numbers w))

  new-below : (m x : ℕ) → length ps ≤ m → x < m → r x < m
  new-below m x most h = go (dec_lt x (length ps))
    where
      go : Dec (x < length ps) → r x < m
      go (yes a) = omega (arith, e.numbers.within x a)
      go (no a) = omega (arith, e.numbers.others x (omega arith))

  pub same_width : (m : ℕ) → length ps ≤ m → ((v : ℕ) → v < length ps → word ps v < m) → (w : ℕ) → w < length qs → word qs w < m
  same_width m most below w h = let (k, q) = word-new w h in omega (arith, new-below m (word ps (way_back w)) most (below (way_back w) k))

-- every list has its renumbered list, and every list of rates
pub every-list : (r : ℕ → ℕ) (ps : List ℕ) → Renumbering (length ps) r → (qs : List ℕ) × Renumbered r ps qs
every-list r ps p =
    let old : ℕ → ℕ = old (length ps) r p in (
      below (length ps) (λ w. r (word ps (old w))),
      record {
        numbers = p;
        size = each-length (length ps) 0 (λ w. r (word ps (old w)));
        words = λ v h. below_at (length ps) (λ w. r (word ps (old w))) 0 (r v) (p.within v h) ∙ ap (λ x. r (word ps x)) (old-new (length ps) r p v);
      },
    )

pub every-rates : (r : ℕ → ℕ) (n : ℕ) (rates : List ℕ) → Renumbering n r → length rates ≡ n → (others : List ℕ) × SameRates r n rates others
every-rates r n rates p size =
    let old : ℕ → ℕ = old n r p in (
      below n (λ w. get_or rates (old w) 0),
      record {
        size = size;
        other-size = each-length n 0 (λ w. get_or rates (old w) 0);
        words = λ v h. below_at n (λ w. get_or rates (old w) 0) 0 (r v) (p.within v h) ∙ ap (λ x. get_or rates x 0) (old-new n r p v);
      },
    )
