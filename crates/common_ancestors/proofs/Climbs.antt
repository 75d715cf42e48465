-- The first entry of a climb that is on another climb, in a list that forms one tree. Assumes nothing.
use mathlib.Core.Path.{◌≡◌, refl, sym, ap, ◌∙◌}
use mathlib.Core.Logic.{◌⊎◌, inl, inr}
use mathlib.Core.List.{List, [], ◌∷◌}
use mathlib.Core.Bool.{Bool, true, false}
use mathlib.Core.Option.{some, Option-elim}
use Prim.Native.Nat.{ℕ, zero, suc, ◌+◌, ◌-◌, ◌≤◌, ◌<◌}
use native.Mathlib.Omega.{arith}
use native.Mathlib.Decide.{dec_lt}
use lib.ListN.{length}
use borrow.Author.Tests.{eq-eqb, ne_eqb}
use Rattle.base.specs.Limits.{top_mark}
use Rattle.base.specs.Lists.{first, index, has}
use Rattle.base.proofs.Lists.{clash}
use Rattle.tree.specs.Parents.{parent, up, climb_within, climb, depth}
use Rattle.tree.specs.Level.{Ancestor}
use Rattle.tree.specs.Faults.{Tree}
use Rattle.tree.proofs.Climbs.{entry_in, entry-some, up_first, up_from, up_step, up-add}
use Rattle.tree.proofs.Depths.{climb-parent, up_depth}
use Rattle.tree.proofs.Ancestry.{on-climb}
use Rattle.common_ancestors.specs.Common.{nearest_common_ancestor, climbs_to, Nearest}

-- w is the first entry of u's climb that is on v's, k climbs from u
pub record Meets (ps : List ℕ) (u v w k : ℕ) : Type 0 where
  pub reached : up ps k u ≡ some w
  pub on : Ancestor ps w v
  pub before : (j x : ℕ) → j < k → up ps j u ≡ some x → Ancestor ps x v → ⊥

-- a climb starts with its entry
climb-head : (ps : List ℕ) (m v : ℕ) → 1 ≤ m → (l : List ℕ) × (climb_within ps m v ≡ v ∷ l)
unfolding climb_within
climb-head ps zero v h = absurd (omega arith)
climb-head ps (suc m) v h = (Option-elim (parent ps v) [] (climb_within ps m), refl)

module _ (ps : List ℕ) (small : length ps ≤ top_mark) (tree : Tree ps) where
  -- who stands k climbs above v has k before it on v's climb
  pub place_up : (k v w : ℕ) → up ps k v ≡ some w → climbs_to ps v w ≡ k
  unfolding up index
  place_up zero v w e =
      let (q, h) = entry-some ps v w e in
      let (l, r) = climb-head ps (length ps) v (omega arith) in
      rw (r, eq-eqb w v (sym q))
  place_up (suc k) v w e =
      let (p, q, r) = up_first ps k v w e in
      rw (climb-parent ps small tree v p q, ne_eqb w v (λ z. omega (arith, up_depth ps small tree (suc k) v w e, ap (depth ps) z))) (ap suc (place_up k p w r))

  -- every entry on both climbs is at or above the first
  pub meets-nearest : (u v w k : ℕ) → Meets ps u v w k → Nearest ps u v w
  meets-nearest u v w k m = record { above-first = record { climbs = k; reached = m.reached }; above-second = m.on; lowest = λ x a b. go x a b (dec_lt a.climbs k) }
    where
      go : (x : ℕ) (a : Ancestor ps x u) → Ancestor ps x v → Dec (a.climbs < k) → Ancestor ps x w
      go x a b (yes i) = absurd (m.before a.climbs x i a.reached b)
      go x a b (no i) =
          let z : a.climbs ≡ k + (a.climbs - k) = omega arith in
          record { climbs = a.climbs - k; reached = sym (up-add ps k (a.climbs - k) u w m.reached) ∙ ap (λ j. up ps j u) (sym z) ∙ a.reached }

  module _ (v : ℕ) (hv : v < length ps) where
    -- whether an entry is on v's climb
    on? : (x : ℕ) → (Ancestor ps x v × (has (climb ps v) x ≡ true)) ⊎ ((Ancestor ps x v → ⊥) × (has (climb ps v) x ≡ false))
    on? x = go (has (climb ps v) x) refl
      where
        go : (b : Bool) → has (climb ps v) x ≡ b → (Ancestor ps x v × (has (climb ps v) x ≡ true)) ⊎ ((Ancestor ps x v → ⊥) × (has (climb ps v) x ≡ false))
        go true e = inl ((on-climb ps small tree x v hv).0 e, e)
        go false e = inr (λ a. clash (sym e ∙ (on-climb ps small tree x v hv).1 a), e)

    -- u's climb starts with u
    own : (u : ℕ) → u < length ps → Ancestor ps u v → (nearest_common_ancestor ps u v ≡ some u) × Meets ps u v u 0
    unfolding nearest_common_ancestor first up
    own u h a =
        let (l, r) = climb-head ps (length ps) u (omega arith) in
        (rw (r, (on-climb ps small tree u v hv).1 a), record { reached = entry_in ps u h; on = a; before = λ j x i. absurd (omega arith) })

    -- and goes on with its parent's
    further : (u p w k : ℕ) → parent ps u ≡ some p → (Ancestor ps u v → ⊥) → (nearest_common_ancestor ps p v ≡ some w) × Meets ps p v w k → (nearest_common_ancestor ps u v ≡ some w) × Meets ps u v w (suc k)
    unfolding nearest_common_ancestor first up
    further u p w k q n (e, m) = (rw (climb-parent ps small tree u p q, missed) e, record { reached = up_step ps k u p q ∙ m.reached; on = m.on; before = earlier })
      where
        missed : has (climb ps v) u ≡ false
        missed = go (on? u)
          where
            go : (Ancestor ps u v × (has (climb ps v) u ≡ true)) ⊎ ((Ancestor ps u v → ⊥) × (has (climb ps v) u ≡ false)) → has (climb ps v) u ≡ false
            go (inl (a, e)) = absurd (n a)
            go (inr (a, e)) = e

        earlier : (j x : ℕ) → j < suc k → up ps j u ≡ some x → Ancestor ps x v → ⊥
        earlier zero x i f a = let z : u ≡ x = (entry-some ps u x f).0 in n (rw z a)
        earlier (suc j) x i f a = m.before j x (omega arith) (sym (up_step ps j u p q) ∙ f) a

    -- there is one, the top at the latest
    meets-from : (k u : ℕ) → up ps k u ≡ some tree.root → (w j : ℕ) × ((nearest_common_ancestor ps u v ≡ some w) × Meets ps u v w j)
    unfolding up
    meets-from zero u e =
        let (q, h) = entry-some ps u tree.root e in
        let (k, r) = tree.climbs v hv in
        (u, 0, own u (up_from ps 0 u tree.root e) (rw q (record { climbs = k; reached = r })))
    meets-from (suc k) u e = go (on? u) (meets-from k)
      where
        go : (Ancestor ps u v × (has (climb ps v) u ≡ true)) ⊎ ((Ancestor ps u v → ⊥) × (has (climb ps v) u ≡ false))
            → ((p : ℕ) → up ps k p ≡ some tree.root → (w j : ℕ) × ((nearest_common_ancestor ps p v ≡ some w) × Meets ps p v w j))
            → (w j : ℕ) × ((nearest_common_ancestor ps u v ≡ some w) × Meets ps u v w j)
        go (inl (a, q)) ih = (u, 0, own u (up_from ps (suc k) u tree.root e) a)
        go (inr (n, q)) ih =
            let (p, r, s) = up_first ps k u tree.root e in
            let (w, j, m) = ih p s in
            (w, suc j, further u p w j r n m)

  -- two entries share one: the first of u's climb on v's is nearest to both
  pub nearest-defined : (u v : ℕ) → u < length ps → v < length ps → (w : ℕ) × ((nearest_common_ancestor ps u v ≡ some w) × Nearest ps u v w)
  nearest-defined u v hu hv =
      let (k, r) = tree.climbs u hu in
      let (w, j, (e, m)) = meets-from v hv k u r in
      (w, (e, meets-nearest u v w j m))
