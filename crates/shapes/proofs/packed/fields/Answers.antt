-- `packed::fields` meets its contract: each word has the rows, and the climbs out, that the table computes to at its number. Assumes nothing.
use Rattle.std.proofs.Common.{◌≡◌, ℕ, ◌<◌, List, [], get_or, refl, sym, ap, ◌∙◌}
use mathlib.Core.Option.{bind, Option-elim}
use Rattle.base.specs.Limits.{group_limit, shape_count, local_span}
use Rattle.base.specs.Lists.{each, below}
use Rattle.base.proofs.Lists.{each_same, below_at}
use Rattle.tree.specs.Parents.{entry, parent, up, climb_within, depth}
use Rattle.shapes.specs.Climbs.{parent_list, reached, local_depth, climbs_out, row_of}
use Rattle.shapes.specs.Packed.{path_row, field_row, field_rows, field_outs}
use Rattle.shapes.proofs.Rule.{no-shape, no-out}
use Rattle.shapes.specs.declared.packed.TheConstants.{FIELDS}
use Rattle.shapes.proofs.packed.fields.Goals as goal

-- the table's words have the rows and the climbs out, one after another
all-rows : below shape_count (λ s. field_rows (get_or FIELDS s 0)) ≡ below shape_count (λ s. below local_span (row_of group_limit s))
unfolding row_of reached local_depth climbs_out parent_list up climb_within depth parent entry bind Option-elim each path_row field_row field_rows
all-rows = refl

all-outs : below shape_count (λ s. field_outs (get_or FIELDS s 0)) ≡ below shape_count (λ s. below local_span (climbs_out group_limit s))
unfolding reached local_depth climbs_out parent_list up climb_within depth parent entry bind Option-elim each field_outs
all-outs = refl

pub returns-then-shape-ge-SHAPE_COUNT : goal.returns-then-shape-ge-SHAPE_COUNT
unfolding each path_row field_row field_rows field_outs
returns-then-shape-ge-SHAPE_COUNT c =
    let s = c.args.shape in
    let none = c.if-shape-ge-SHAPE_COUNT.true in
    record { rows = sym (each_same local_span 0 (row_of group_limit s) _ (no-shape group_limit s none)); outs = sym (each_same local_span 0 (climbs_out group_limit s) _ (no-out group_limit s none)) }

-- the word at one number is one of them
at : {A : Type 0} (f p : ℕ → List A) (s : ℕ) → s < shape_count → below shape_count f ≡ below shape_count p → f s ≡ p s
at f p s h all = sym (below_at shape_count f [] s h) ∙ ap (λ l. get_or l s []) all ∙ below_at shape_count p [] s h

pub returns : goal.returns
returns c =
    let s = c.args.shape in
    let some = c.if-shape-ge-SHAPE_COUNT.false in
    record {
      rows = at (λ i. field_rows (get_or FIELDS i 0)) (λ i. below local_span (row_of group_limit i)) s some all-rows;
      outs = at (λ i. field_outs (get_or FIELDS i 0)) (λ i. below local_span (climbs_out group_limit i)) s some all-outs;
    }
