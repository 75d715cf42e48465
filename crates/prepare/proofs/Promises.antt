-- What preparing promises, from its answer and what it leaves. Assumes nothing.
use mathlib.Core.Path.{◌≡◌, refl, sym, ap, ◌∙◌}
use mathlib.Core.Logic.{◌↔◌}
use mathlib.Core.List.{List, ◌∷◌}
use mathlib.Core.Bool.{true}
use mathlib.Core.Option.{Option-elim}
use Prim.Native.Nat.{ℕ, ◌≤◌}
use native.Mathlib.Omega.{arith}
use lib.ListN.{length, drop, length-append, length-drop}
use lib.Seq.{take_at}
use Rattle.base.specs.Lists.{has}
use Rattle.base.specs.Limits.{most_entries, group_limit, table_words, space_words, top_mark}
use Rattle.base.proofs.Lists.{each-length}
use Rattle.tree.specs.Parents.{depth}
use Rattle.tree.specs.Forest.{size, position}
use Rattle.tree.specs.Faults.{Tree}
use Rattle.tree.proofs.Positions.{order-length}
use Rattle.table.specs.Ladders.{lad_pos}
use Rattle.table.specs.Groups.{kind}
use Rattle.table.specs.Table.{header, entry_sections, laid_sections, table_of}
use Rattle.table.specs.Preparing.{preparing, table_after, Prepared}
use Rattle.table.proofs.Acceptance.{accepted-iff}
use Rattle.table.proofs.Outcomes.{refusals, preparing-numbers, refusal-none, zero-iff}
use Rattle.climbs.proofs.SectionLengths.{ladder-cells-length, group-cells-length, jump-cells-length}
use Rattle.base.specs.Refusals.{outcome_of}
use Rattle.base.proofs.RefusalNumbers.{refused-numbered}
use Rattle.base.specs.declared.refusals.Refusal.{Refusal}
use Rattle.std.specs.Prelude.{Result, Ok, Err, IsOk, OnOk}
use Rattle.base.proofs.Lists.{clash}

-- the table of a list that forms one tree has W words
pub table-length : (ps : List ℕ) → length ps ≤ most_entries → Tree ps → length (table_of ps) ≡ table_words (length ps)
unfolding table_of header entry_sections laid_sections
table-length ps few tree =
    let small : length ps ≤ top_mark = omega arith in
    let n = length ps in
    simp length-append (omega (arith, each-length n 0 (depth ps), each-length n 0 (kind group_limit ps), each-length n 0 (lad_pos ps), order-length ps small tree, each-length n 0 (position ps), each-length n 0 (size ps), ladder-cells-length ps small tree, group-cells-length ps small tree, jump-cells-length ps small tree))

-- 0 is acceptance's alone
ok-zero : (r : Result ℕ Refusal) → IsOk r → (outcome_of r).number ≡ 0
ok-zero (Ok w) z = refl
ok-zero (Err e) z = clash z

zero-ok : (r : Result ℕ Refusal) → (outcome_of r).number ≡ 0 → IsOk r
zero-ok (Ok w) z = refl
zero-ok (Err e) z = absurd (refused-numbered e z)

module _ (ps table space : List ℕ) where
  -- acceptance leaves a prepared table
  prepared-after : (preparing ps (length table) (length space)).number ≡ 0 → Prepared ps (table_after ps table space)
  unfolding table_after Option-elim
  prepared-after e =
      let (one, most, tree, long, room) = (zero-iff ps (length table) (length space)).0 e in
      let w = table-length ps most tree in
      rw (refusal-none ps (length table) (length space) e) (record {
        accepts = (accepted-iff ps).1 (one, most, tree);
        long = simp (length-append, length-drop) (omega arith);
        words = take_at (table_of ps) (drop (table_words (length ps)) table) (table_words (length ps)) w;
      })

  -- what else is promised of an answer
  module _ (r : Result ℕ Refusal) (answer : outcome_of r ≡ preparing ps (length table) (length space)) where
    pub named : has (0 ∷ refusals) (outcome_of r).number ≡ true
    named = rw answer (preparing-numbers ps (length table) (length space))

    pub accepting : IsOk r ↔ ((1 ≤ length ps) × (length ps ≤ most_entries) × Tree ps × (table_words (length ps) ≤ length table) × (space_words (length ps) ≤ length space))
    accepting =
        let i = zero-iff ps (length table) (length space) in
        let e = ap (λ o. o.number) answer in
        (λ z. i.0 (sym e ∙ ok-zero r z), λ h. zero-ok r (e ∙ i.1 h))

    pub prepares : (t : List ℕ) → t ≡ table_after ps table space → OnOk r (Prepared ps t)
    prepares t e = go r (ap (λ o. o.number) answer)
      where
        go : (q : Result ℕ Refusal) → (outcome_of q).number ≡ (preparing ps (length table) (length space)).number → OnOk q (Prepared ps t)
        go (Ok w) n = rw e (prepared-after (sym n))
        go (Err f) n = tt
