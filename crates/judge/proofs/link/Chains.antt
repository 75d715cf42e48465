-- Chains of siblings, linked one entry after another. Assumes nothing.
use mathlib.Core.Path.{◌≡◌, sym, ap, ◌∙◌}
use mathlib.Core.Logic.{◌≢◌}
use mathlib.Core.List.{List, [], ◌∷◌}
use mathlib.Core.Bool.{cond}
use Prim.Native.Nat.{ℕ, zero, suc, ◌+◌, ◌≤◌, ◌<◌}
use native.Mathlib.Omega.{arith}
use native.Mathlib.Decide.{ℕ_discrete}
use lib.ListN.{length, get_or, set, replicate, drop_of_length-le}
use Rattle.std.proofs.lemmas.List.{get_or-replicate}
use lib.Seq.{drop-cons, get_or-set_same, get_or-set_other}
use lib.Dec.{eqb, ltb}
use borrow.Author.Tests.{eq-eqb, ne_eqb, lt-ltb, le-ltb}
use Rattle.base.specs.Lists.{places}
use Rattle.base.specs.Limits.{top_mark}
use Rattle.tree.specs.Parents.{word}
use Rattle.judge.specs.Regions.{from, after, first_of, Linked}

-- what holds of the stored value at its place, and of the others where they are, holds after the store
pub at_set : (P : ℕ → Type 0) (l : List ℕ) (j a k : ℕ) → j < length l → (k ≡ j → P a) → (k ≢ j → P (get_or l k 0)) → P (get_or (set l j a) k 0)
at_set P l j a k h p q = go (ℕ_discrete k j)
  where
    go : Dec (k ≡ j) → P (get_or (set l j a) k 0)
    go (yes e) = rw e (rw get_or-set_same (p e))
    go (no e) = rw (get_or-set_other l j k a 0 e) (q e)

-- the entries from i on: one step, and the end
pub from_step : (ps : List ℕ) (i v : ℕ) → i < length ps → from ps i v ≡ cond (eqb (word ps i) v) (i ∷ from ps (suc i) v) (from ps (suc i) v)
unfolding places
from_step ps i v h = rw (drop-cons ps i 0 h)

pub from_end : (ps : List ℕ) (i v : ℕ) → length ps ≤ i → from ps i v ≡ []
unfolding places
from_end ps i v h = rw (drop_of_length-le ps h)

pub from-own : (ps : List ℕ) (i v : ℕ) → i < length ps → word ps i ≡ v → from ps i v ≡ i ∷ from ps (suc i) v
from-own ps i v h e = from_step ps i v h ∙ simp (eq-eqb _ _ e)

pub from-other : (ps : List ℕ) (i v : ℕ) → i < length ps → word ps i ≢ v → from ps i v ≡ from ps (suc i) v
from-other ps i v h e = from_step ps i v h ∙ simp (ne_eqb _ _ e)

-- an entry with its later siblings; nothing at a number that is no entry
abbrev pub sibs : List ℕ → ℕ → List ℕ
sibs ps c = cond (ltb c (length ps)) (c ∷ after ps c) []

pub sibs-in : (ps : List ℕ) (c : ℕ) → c < length ps → sibs ps c ≡ c ∷ after ps c
sibs-in ps c h = simp (lt-ltb _ _ h)

pub sibs-out : (ps : List ℕ) (c : ℕ) → length ps ≤ c → sibs ps c ≡ []
sibs-out ps c h = simp (le-ltb _ _ h)

-- a chain is known by its first entry
pub sibs-from : (ps : List ℕ) (v : ℕ) → length ps ≤ top_mark → (m i : ℕ) → i + m ≡ length ps → sibs ps (first_of (from ps i v)) ≡ from ps i v
sibs-from ps v small zero i e = rw (from_end ps i v (omega arith)) (sibs-out ps top_mark small)
sibs-from ps v small (suc m) i e = go (sibs-from ps v small m (suc i) (omega arith)) (ℕ_discrete (word ps i) v)
  where
    below : i < length ps
    below = omega arith

    go : sibs ps (first_of (from ps (suc i) v)) ≡ from ps (suc i) v → Dec (word ps i ≡ v) → sibs ps (first_of (from ps i v)) ≡ from ps i v
    go ih (yes p) = rw (from-own ps i v below p) (sibs-in ps i below ∙ rw p)
    go ih (no p) = rw (from-other ps i v below p) ih

-- linking one entry more: below an entry, and as a top
pub link-below : (ps : List ℕ) (i k p : ℕ) (head next : List ℕ) (r : ℕ) → suc k ≡ i → k < length ps → length head ≡ length ps → length next ≡ length ps
    → p ≡ get_or ps k 0 → p < length ps → length ps ≤ top_mark → Linked ps i head next r → Linked ps k (set head p k) (set next k (get_or head p 0)) r
link-below ps i k p head next r e below lh ln ep h small l =
    let own : word ps k ≡ p = sym ep in
    record {
      heads = λ v hv. at_set (λ y. y ≡ first_of (from ps k v)) head p k v (omega arith)
          (λ q. rw (from-own ps k v below (own ∙ sym q)))
          (λ q. rw (from-other ps k v below (λ o. q (sym o ∙ own)), e) (l.heads v hv));
      nexts = λ j hj hn. at_set (λ y. y ≡ first_of (after ps j)) next k (get_or head p 0) j (omega arith)
          (λ q. rw (q, own, e) (l.heads p h))
          (λ q. l.nexts j (omega arith) hn);
      tops = l.tops ∙ rw (from-other ps k top_mark below (λ o. omega arith), e);
    }

pub link-top : (ps : List ℕ) (i k : ℕ) (head next : List ℕ) (r : ℕ) → suc k ≡ i → k < length ps → length head ≡ length ps → length next ≡ length ps
    → word ps k ≡ top_mark → length ps ≤ top_mark → Linked ps i head next r → Linked ps k head (set next k r) k
link-top ps i k head next r e below lh ln own small l =
    record {
      heads = λ v hv. rw (from-other ps k v below (λ o. omega arith), e) (l.heads v hv);
      nexts = λ j hj hn. at_set (λ y. y ≡ first_of (after ps j)) next k r j (omega arith)
          (λ q. rw (q, own, e) l.tops)
          (λ q. l.nexts j (omega arith) hn);
      tops = rw (from-own ps k top_mark below own);
    }

-- none is linked: every chain is empty
pub link-none : (ps : List ℕ) (head next : List ℕ) → head ≡ replicate (length ps) top_mark → Linked ps (length ps) head next top_mark
link-none ps head next e =
    let n = length ps in
    record {
      heads = λ v h. ap (λ l. get_or l v 0) e ∙ get_or-replicate n v top_mark 0 h ∙ rw (from_end ps n v (omega arith));
      nexts = λ j h k. absurd (omega arith);
      tops = rw (from_end ps n top_mark (omega arith));
    }
