-- A list of seven is one for each number below the group limit. Assumes nothing.
use Rattle.std.proofs.Common.{◌≡◌, ℕ, ◌<◌, List, length, get_or, sym, ◌∙◌, arith, ext_get_or}
use Rattle.base.specs.Limits.{group_limit}
use Rattle.base.specs.Lists.{below}
use Rattle.base.proofs.Lists.{each-length, below_at}

pub seven : {A : Type 0} (d : A) (p : ℕ → A) (xs : List A) → length xs ≡ 7 → ((j : ℕ) → j < 7 → get_or xs j d ≡ p j) → xs ≡ below group_limit p
seven d p xs long each =
    ext_get_or d xs (below group_limit p) (long ∙ sym (each-length group_limit 0 p)) (λ j h. let low : j < 7 = omega (arith, long) in each j low ∙ sym (below_at group_limit p d j low))
