-- `link::link` meets its contract. The entries from `v` on are linked. Assumes nothing.
use mathlib.Core.Path.{◌≡◌, refl, ap, ◌∙◌}
use mathlib.Core.Logic.{⊎_elim}
use Prim.Native.Nat.{◌-◌, ◌<◌}
use native.Mathlib.Omega.{arith}
use lib.ListN.{length, replicate}
use Rattle.base.specs.Limits.{top_mark}
use Rattle.tree.specs.Parents.{word}
use Rattle.judge.proofs.link.Chains.{link-none, link-below, link-top}
use Rattle.judge.proofs.link.link.Goals as goal

pub loop-v-init : goal.loop-v-init
loop-v-init c = record { linked = link-none _ _ _ (c.fill.ensures.after (λ y e. e) ∙ ap (λ n. replicate n top_mark) c.requires.1); within = tt }

pub loop-v-preserved-then-over-n : goal.loop-v-preserved-then-over-n
loop-v-preserved-then-over-n c =
    let l = c.loop-v in
    let ps = c.args.parents.now in
    record { linked = link-below ps l.v (l.v - 1) (word ps (l.v - 1)) l.heads l.nexts _ (omega arith) (omega arith) (l.auto.heads ∙ c.fill.ensures.len ∙ c.requires.1) (l.auto.nexts ∙ c.requires.2) refl c.if-over-n.true (omega arith) l.invariant.linked; within = l.invariant.within }

pub loop-v-preserved : goal.loop-v-preserved
loop-v-preserved c =
    let l = c.loop-v in
    let ps = c.args.parents.now in
    let below : l.v - 1 < length ps = omega arith in
    let own : word ps (l.v - 1) ≡ top_mark = ⊎_elim (λ h. absurd (omega (arith, c.if-over-n.false))) (λ e. e) (c.requires.3 (l.v - 1) below) in
    record { linked = rw c.chain_word.ensures (link-top ps l.v (l.v - 1) l.heads l.nexts _ (omega arith) below (l.auto.heads ∙ c.fill.ensures.len ∙ c.requires.1) (l.auto.nexts ∙ c.requires.2) own (omega arith) l.invariant.linked); within = below }
