-- The jump entries, one position further: of the macro entries of one kind the jump entry stands last. Assumes nothing.
use mathlib.Core.Path.{◌≡◌, refl, sym, ap, ◌∙◌}
use mathlib.Core.List.{List, [], ◌∷◌, ◌++◌}
use mathlib.Core.Bool.{Bool, true, false}
use Prim.Native.Nat.{ℕ, suc, ◌+◌, ◌≤◌, ◌<◌}
use native.Mathlib.Omega.{arith}
use lib.ListN.{length, set, take, length-append}
use lib.Seq.{take-suc-set, take-set-le}
use Rattle.base.specs.Limits.{group_limit, micro_mark}
use Rattle.base.specs.Lists.{keep}
use Rattle.base.proofs.Filters.{keep-few, keep-next, keep_same}
use Rattle.tree.specs.Forest.{order}
use Rattle.table.specs.Groups.{micro, jump_node, micro_kind, kind}
use Rattle.climbs.proofs.Jumps.{jump-not, macro-kind}
use Rattle.prepare.specs.Arrays.{OneTree, entry_at}
use Rattle.prepare.proofs.Preorder.{Located, small, order-many, located-at}
use Rattle.prepare.proofs.kinds.Turns.{jumps_within}

-- the jump entries among the first i positions
abbrev pub JumpsBefore : List ℕ → ℕ → List ℕ → Type 0
JumpsBefore ps i cells = take (length (jumps_within group_limit ps i)) cells ≡ jumps_within group_limit ps i

pub jumps-none : (ps cells : List ℕ) → JumpsBefore ps 0 cells
unfolding keep
jumps-none ps cells = refl

module _ {ps : List ℕ} (t : OneTree ps) (i : ℕ) where
  module _ (h : i < length ps) where
    abbrev v : ℕ
    v = entry_at ps i

    here : Located ps i v
    here = located-at t i h

    inner : i < length (order ps)
    inner = omega (arith, order-many t)

    few-before : length (jumps_within group_limit ps i) ≤ i
    few-before = keep-few (jump_node group_limit ps) (order ps) i

    -- KIND tells micro entries from macro ones, and counts the jump entries before a macro one
    module _ (k : ℕ) (e : k ≡ kind group_limit ps v) where
      macro-counts : micro group_limit ps v ≡ false → k ≡ length (jumps_within group_limit ps i)
      unfolding kind
      macro-counts m = e ∙ rw m (macro-kind ps (small t) t.tree group_limit v here.inside m ∙ ap (λ p. length (jumps_within group_limit ps p)) here.place)

      micro-marked : (b : Bool) → micro group_limit ps v ≡ b → micro_mark ≤ k → b ≡ true
      micro-marked true m a = refl
      micro-marked false m a = let few = t.few in absurd (omega (arith, macro-counts m, few-before, few))

      macro-unmarked : (b : Bool) → micro group_limit ps v ≡ b → k < micro_mark → k ≡ length (jumps_within group_limit ps i)
      unfolding kind micro_kind
      macro-unmarked true m a =
          let q : kind group_limit ps v ≡ micro_kind group_limit ps v = rw m in
          absurd (omega (arith, q))
      macro-unmarked false m a = macro-counts m

      pub node-room : k < micro_mark → k < length ps
      node-room b = omega (arith, macro-unmarked (micro group_limit ps v) refl b, few-before)

      module _ (cells : List ℕ) (l : JumpsBefore ps i cells) where
        -- a macro entry stands in the cell of its kind until a later one of that kind takes the cell
        pub jumps-macro : (x : ℕ) → x ≡ v → length cells ≡ length ps → k < micro_mark → JumpsBefore ps (i + 1) (set cells k x)
        jumps-macro x q n b = go (jump_node group_limit ps v) refl
          where
            z : k ≡ length (jumps_within group_limit ps i)
            z = macro-unmarked (micro group_limit ps v) refl b

            go : (j : Bool) → jump_node group_limit ps v ≡ j → JumpsBefore ps (i + 1) (set cells k x)
            go true m =
                let next = keep-next (jump_node group_limit ps) (order ps) i inner m in
                let c : length (jumps_within group_limit ps (i + 1)) ≡ suc k = ap length next ∙ omega (arith, z, length-append (jumps_within group_limit ps i) (v ∷ [])) in
                ap (λ c. take c (set cells k x)) c
                ∙ take-suc-set cells k x (omega (arith, node-room b))
                ∙ ap (λ c. take c cells ++ (x ∷ [])) z
                ∙ ap (λ w. w ++ (x ∷ [])) l
                ∙ ap (λ y. jumps_within group_limit ps i ++ (y ∷ [])) q
                ∙ sym next
            go false m = rw (keep_same (jump_node group_limit ps) (order ps) i inner m) (take-set-le (length (jumps_within group_limit ps i)) cells k x (omega (arith, z)) ∙ l)

        pub jumps-micro : micro_mark ≤ k → JumpsBefore ps (i + 1) cells
        jumps-micro b = rw (keep_same (jump_node group_limit ps) (order ps) i inner (jump-not group_limit ps v (micro-marked (micro group_limit ps v) refl b))) l
