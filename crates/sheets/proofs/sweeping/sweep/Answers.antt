-- `sweeping::sweep` meets its contract. Assumes nothing.
use mathlib.Core.Path.{◌≡◌, refl, ap, ◌∙◌}
use Prim.Native.Nat.{ℕ, ◌<◌}
use native.Mathlib.Omega.{arith}
use lib.ListN.{length, get_or}
use Rattle.sheets.specs.Keys.{word_to, Legal}
use Rattle.sheets.proofs.sweeping.Classes.{cls, upto, class-order, sweep-start, sweep-other, sweep-more, sweep-gap, sweep-overlap, sweep-end}
use Rattle.sheets.proofs.sweeping.sweep.Goals as goal
use Rattle.sheets.proofs.sweeping.sweep.Goals.{After-line_of, After-to_of-next}

pub loop-place-preserved-then-own-class : goal.loop-place-preserved-then-own-class
loop-place-preserved-then-own-class c =
    sweep-other c.args.words.now c.args.keys.now c.args.class.0 c.loop-place.place c.loop-place.next (omega arith) (omega arith) c.loop-place.invariant

pub returns-then-class-own : goal.returns-then-class-own
returns-then-class-own c =
    let own : c.args.class.0 < cls c.args.words.now c.args.keys.now c.loop-place.place = omega arith in
    sweep-end c.args.words.now c.args.keys.now c.requires.0 c.requires.1 c.args.class.0 c.loop-place.place c.loop-place.next c.loop-place.invariant
    (λ k p q. omega (arith, class-order (get_or c.args.keys.now c.loop-place.place 0) (get_or c.args.keys.now k 0) (c.requires.1 c.loop-place.place k p q)))
    c.args.class refl c.ended.result c.ended.ensures.full c.ended.ensures.short

pub returns-then-next-from : goal.returns-then-next-from
returns-then-next-from c = (
  c.loop-place.place,
  refl,
  sweep-gap c.args.words.now c.args.keys.now c.requires.0 c.requires.1 c.args.class.0 c.loop-place.place c.loop-place.next c.loop-place.invariant (omega arith) (omega arith) (omega arith),
)

pub returns-then-from-next : goal.returns-then-from-next
returns-then-from-next c = (
  c.loop-place.place,
  refl,
  rw c.from_of-from.ensures
      (sweep-overlap c.args.words.now c.args.keys.now c.requires.0 c.requires.1 c.args.class.0 c.loop-place.place c.loop-place.next c.loop-place.invariant (omega arith) (omega arith) (omega arith)),
)

legal : (c : After-line_of) → Legal c.args.words.now c.args.keys.now
legal c = c.requires.0

reach : (c : After-to_of-next) → c.to_of-next.result ≡ upto c.args.words.now c.args.keys.now c.loop-place.place
reach c =
    c.to_of-next.ensures ∙ ap (λ (i : ℕ). word_to (get_or c.args.words.now i 0)) c.line_of.ensures

pub loop-place-preserved : goal.loop-place-preserved
loop-place-preserved c =
    rw (reach (goal.at.loop-place-preserved c).After-to_of-next)
    (sweep-more c.args.words.now c.args.keys.now c.requires.0 c.args.class.0 c.loop-place.place c.loop-place.next (omega arith) (omega arith) (omega arith) c.loop-place.invariant)

pub returns : goal.returns
returns c =
    let e : c.loop-place.place ≡ length c.args.keys.now = omega (arith, c.loop-place.invariant.places) in
    sweep-end c.args.words.now c.args.keys.now c.requires.0 c.requires.1 c.args.class.0 c.loop-place.place c.loop-place.next c.loop-place.invariant
    (λ k p q. absurd (omega arith))
    c.args.class refl c.ended-2.result (λ h. rw e (c.ended-2.ensures.full h)) c.ended-2.ensures.short

pub loop-place-init : goal.loop-place-init
loop-place-init c = sweep-start c.args.words.now c.args.keys.now c.args.class.0 c.args.start c.requires.2 c.requires.3
