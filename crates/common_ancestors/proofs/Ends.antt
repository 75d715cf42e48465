-- Two entries by their depths. Assumes nothing.
use mathlib.Core.Path.{◌≡◌}
use mathlib.Core.Logic.{inl, inr}
use mathlib.Core.List.{List}
use Rattle.std.specs.Prelude.{Some, None}
use Prim.Native.Nat.{ℕ, ◌+◌, ◌≤◌, ◌<◌}
use native.Mathlib.Omega.{arith}
use Rattle.base.specs.Limits.{depth_cell}
use Rattle.base.specs.declared.Node.{Node}
use Rattle.answers.specs.Reading.{word_at}
use Rattle.common_ancestors.specs.Parts.{Ordered, Of, Given, Reaches, Between}
use Rattle.common_ancestors.specs.declared.search.Ends.{Ends}
use Rattle.common_ancestors.specs.declared.search.Shared.{Shared}
use Rattle.common_ancestors.proofs.Narrowing.{given, given-shallow, reached-both, nears-turned}

-- a depth of a prepared table is less than its entries
pub deep-not : (ps t : List ℕ) (n : ℕ) → Of ps t n → (a da : ℕ) → a < n → da ≡ word_at t (depth_cell n a) → n ≤ da → ⊥
deep-not ps t n of a da h e d = omega (arith, given-shallow ps t n a a da (given ps t n a a da of h h e))

-- both are entries, of depths less than n
pub record Shallow (n : ℕ) (r : Ends) : Type 0 where
  pub first : r.first.0 < n
  pub depth : r.depth < n
  pub below : r.depth + r.below < n

pub shallow : (n du dv : ℕ) (u v : Node) (r : Ends) → Ordered u v du dv r → u.0 < n → v.0 < n → du < n → dv < n → Shallow n r
shallow n du dv u v r (inl (h, e)) a b c d = rw e (record { first = a; depth = c; below = omega arith })
shallow n du dv u v r (inr (h, e)) a b c d = rw e (record { first = b; depth = d; below = omega arith })

-- the search from the less deep tells of both
module _ (ps t : List ℕ) (n du dv : ℕ) (u v : Node) (of : Of ps t n) (hu : u.0 < n) (hv : v.0 < n) (eu : du ≡ word_at t (depth_cell n u.0)) (ev : dv ≡ word_at t (depth_cell n v.0)) where
  first : Given ps t n u.0 v.0 du
  first = given ps t n u.0 v.0 du of hu hv eu

  second : Given ps t n v.0 u.0 dv
  second = given ps t n v.0 u.0 dv of hv hu ev

  pub ends_found : (r : Ends) → ((ps : List ℕ) → Given ps t n r.first.0 r.second.0 r.depth → Reaches ps r.first.0 r.second.0 None) → Ordered u v du dv r → ⊥
  ends_found r right (inl (h, e)) = (rw e at right) ps first
  ends_found r right (inr (h, e)) = (rw e at right) ps second

  pub ends-nears : (f : Shared) (r : Ends) → ((ps : List ℕ) → Given ps t n r.first.0 r.second.0 r.depth → Reaches ps r.first.0 r.second.0 (Some f)) → Ordered u v du dv r
      → Between ps u.0 v.0 (record { class = f.class; climbs = f.climbs + f.climbs + r.below })
  ends-nears f r right (inl (h, e)) = rw e (reached-both ps t n u.0 v.0 du first dv f second.deep h ((rw e at right) ps first))
  ends-nears f r right (inr (h, e)) = rw e (nears-turned ps v.0 u.0 _ (reached-both ps t n v.0 u.0 dv second du f first.deep (omega arith) ((rw e at right) ps second)))
