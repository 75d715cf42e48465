-- Of two lists under a renumbering, whether they form a tree or not: parents, climbs, depths and level ancestors correspond. Assumes nothing.
use mathlib.Core.Path.{◌≡◌, refl, sym, ap, ◌∙◌}
use mathlib.Core.List.{List, [], ◌∷◌, map}
use mathlib.Core.Bool.{Bool, true, false, cond}
use mathlib.Core.Option
use mathlib.Core.Option.{Option, none, some, Option-elim, bind, map-eq-some_iff}
use Prim.Native.Nat.{ℕ, zero, suc, ◌-◌, ◌≤◌, ◌<◌}
use native.Mathlib.Omega.{arith}
use native.Mathlib.Decide.{dec_lt}
use lib.ListN.{length, length-map}
use lib.Dec.{leb}
use Rattle.tree.specs.Parents.{word, entry, parent, up, climb_within, climb, depth}
use Rattle.tree.specs.Level.{Ancestor, level_ancestor}
use Rattle.tree.proofs.Climbs.{entry_in, entry_past, parent_is, parent-past}
use Rattle.renumbering.specs.Numbering.{Renumbered}
use Rattle.renumbering.proofs.Numbers.{injective}

module _ (r : ℕ → ℕ) (ps qs : List ℕ) (e : Renumbered r ps qs) where
  pub new_in : (v : ℕ) → v < length ps → r v < length qs
  new_in v h = omega (arith, e.size, e.numbers.within v h)

  pub new-past : (v : ℕ) → length ps ≤ v → length qs ≤ r v
  new-past v h = omega (arith, e.size, e.numbers.others v h)

  pub entry_new : (v : ℕ) → entry qs (r v) ≡ Option.map r (entry ps v)
  entry_new v = go (dec_lt v (length ps))
    where
      go : Dec (v < length ps) → entry qs (r v) ≡ Option.map r (entry ps v)
      go (yes h) = entry_in qs (r v) (new_in v h) ∙ ap (Option.map r) (sym (entry_in ps v h))
      go (no h) = let k : length ps ≤ v = omega arith in entry_past qs (r v) (new-past v k) ∙ ap (Option.map r) (sym (entry_past ps v k))

  pub parent-new : (v : ℕ) → parent qs (r v) ≡ Option.map r (parent ps v)
  parent-new v = go (dec_lt v (length ps))
    where
      go : Dec (v < length ps) → parent qs (r v) ≡ Option.map r (parent ps v)
      go (yes h) = parent_is qs (r v) (new_in v h) ∙ ap (entry qs) (e.words v h) ∙ entry_new (word ps v) ∙ ap (Option.map r) (sym (parent_is ps v h))
      go (no h) = let k : length ps ≤ v = omega arith in parent-past qs (r v) (new-past v k) ∙ ap (Option.map r) (sym (parent-past ps v k))

  pub up-new : (k v : ℕ) → up qs k (r v) ≡ Option.map r (up ps k v)
  unfolding up bind
  up-new zero v = entry_new v
  up-new (suc k) v = ap (λ o. bind o (up qs k)) (parent-new v) ∙ go (parent ps v) (up-new k)
    where
      go : (o : Option ℕ) → ((x : ℕ) → up qs k (r x) ≡ Option.map r (up ps k x)) → bind (Option.map r o) (up qs k) ≡ Option.map r (bind o (up ps k))
      go none ih = refl
      go (some x) ih = ih x

  pub ancestor-new : (u v : ℕ) → Ancestor ps u v → Ancestor qs (r u) (r v)
  ancestor-new u v a = record { climbs = a.climbs; reached = up-new a.climbs v ∙ ap (Option.map r) a.reached }

  pub ancestor-old : (u v : ℕ) → Ancestor qs (r u) (r v) → Ancestor ps u v
  ancestor-old u v a =
      let (w, q, s) = (map-eq-some_iff r (up ps a.climbs v)).0 (sym (up-new a.climbs v) ∙ a.reached) in
      record { climbs = a.climbs; reached = q ∙ ap some (injective (length ps) r e.numbers w u s) }

  within_new : (m v : ℕ) → climb_within qs m (r v) ≡ map r (climb_within ps m v)
  unfolding climb_within Option-elim
  within_new zero v = refl
  within_new (suc m) v = ap (λ o. r v ∷ Option-elim o [] (climb_within qs m)) (parent-new v) ∙ ap (◌∷◌ (r v)) (go (parent ps v) (within_new m))
    where
      go : (o : Option ℕ) → ((x : ℕ) → climb_within qs m (r x) ≡ map r (climb_within ps m x)) → Option-elim (Option.map r o) [] (climb_within qs m) ≡ map r (Option-elim o [] (climb_within ps m))
      go none ih = refl
      go (some x) ih = ih x

  pub climb-new : (v : ℕ) → climb qs (r v) ≡ map r (climb ps v)
  climb-new v = ap (λ m. climb_within qs m (r v)) e.size ∙ within_new (length ps) v

  pub depth-new : (v : ℕ) → depth qs (r v) ≡ depth ps v
  unfolding depth
  depth-new v = ap (λ l. length l - 1) (climb-new v) ∙ ap (λ k. k - 1) (length-map (climb ps v) r)

  pub level-new : (v d : ℕ) → level_ancestor qs (r v) d ≡ Option.map r (level_ancestor ps v d)
  unfolding level_ancestor
  level-new v d = ap (λ k. cond (leb d k) (up qs (k - d) (r v)) none) (depth-new v) ∙ go (leb d (depth ps v))
    where
      go : (b : Bool) → cond b (up qs (depth ps v - d) (r v)) none ≡ Option.map r (cond b (up ps (depth ps v - d) v) none)
      go true = up-new (depth ps v - d) v
      go false = refl
