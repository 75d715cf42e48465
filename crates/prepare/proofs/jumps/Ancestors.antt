-- A jump entry's record: the ancestor twice as far up stands in the ladder of the last one. Assumes nothing.
use mathlib.Core.Path.{◌≡◌, refl, sym, ap, ◌∙◌}
use mathlib.Core.Logic.{◌↔◌}
use mathlib.Core.List.{List, flatten}
use mathlib.Core.Option
use mathlib.Core.Option.{Option, none, some, Option-elim}
use Prim.Native.Nat.{ℕ, zero, suc, ◌+◌, ◌*◌, ◌-◌, ◌^◌, ◌≤◌, ◌<◌}
use native.Mathlib.Omega.{arith}
use native.Mathlib.Decide.{dec_lt}
use native.Mathlib.Nat.{lt_of_not-le, two-pow-succ, pow-le-pow_right}
use borrow.Author.Count.{below_more}
use lib.Pow.{pow_pos}
use lib.ListN.{length, get_or, set, length-set, replicate, length-replicate, get_or-replicate}
use lib.Seq.{get_or-set_same, get_or-set_other, ext_get_or}
use Rattle.base.specs.Limits.{most_entries, group_limit, record_words}
use Rattle.base.specs.Lists.{below}
use Rattle.base.specs.Powers.{exponent}
use Rattle.base.proofs.Exponents.{exponent-none, exponent-largest}
use Rattle.base.proofs.Lists.{below_at, each-length}
use Rattle.base.proofs.Joins.{padded-in}
use Rattle.tree.specs.Parents.{up, depth}
use Rattle.tree.proofs.Climbs.{entry_in, up_in, up-add}
use Rattle.tree.proofs.Depths.{up-some, up_none}
use Rattle.tree.proofs.Intervals.{height-up, depth-less}
use Rattle.table.specs.Ladders.{ladders, lad_pos}
use Rattle.table.specs.Groups.{jump_record}
use Rattle.table.specs.Table.{ladder_cells}
use Rattle.climbs.proofs.Ladders.{ladpos-in, lemma-5}
use Rattle.climbs.proofs.Room.{ladders-fit}
use Rattle.climbs.proofs.SectionLengths.{ladder-cells-length}
use Rattle.climbs.proofs.RecordWords.{jump-wide}
use Rattle.prepare.specs.Arrays.{OneTree, ancestors_end}
use Rattle.prepare.proofs.Preorder.{small}

-- the words of a record
record-first : (ps : List ℕ) (v : ℕ) → get_or (jump_record ps v) 0 0 ≡ depth ps v
unfolding jump_record
record-first ps v = refl

record-next : (ps : List ℕ) (v k : ℕ) → k < 20 → get_or (jump_record ps v) (suc k) 0 ≡ Option.get_or (up ps (2 ^ k) v) 0
unfolding jump_record
record-next ps v k h = below_at 20 (λ e. Option.get_or (up ps (2 ^ e) v) 0) 0 k h

-- there is an ancestor just where its power of two is not above the depth
pub has-ancestor : (deep e : ℕ) → deep < 2 ^ 32 → (e + 1 < ancestors_end deep) ↔ (2 ^ e ≤ deep)
unfolding ancestors_end Option-elim
has-ancestor deep e small = go (exponent deep) refl
  where
    go : (o : Option ℕ) → exponent deep ≡ o → (e + 1 < Option-elim (exponent deep) 1 (λ k. k + 2)) ↔ (2 ^ e ≤ deep)
    go none q = rw q (λ h. absurd (omega arith), λ h. absurd (omega (arith, (exponent-none deep small).0 q, pow_pos e)))
    go (some k) q = let p = exponent-largest deep k e small q in rw q (λ h. p.0 (omega arith), λ h. omega (arith, p.1 h))

-- the words before e, and zeros behind. The next ancestor is t climbs above v, and s above w
pub record RecordBefore (ps : List ℕ) (v : ℕ) (r : List ℕ) (w s t e : ℕ) : Type 0 where
  pub started : 1 ≤ e
  pub far : t ≡ 2 ^ (e - 1)
  pub less : s ≤ t
  pub near : 2 * s ≤ t + 1
  pub reached : up ps (t - s) v ≡ some w
  pub room : length r ≡ record_words
  pub words : (k : ℕ) → k < e → get_or r k 0 ≡ get_or (jump_record ps v) k 0
  pub zeros : (k : ℕ) → e ≤ k → k < record_words → get_or r k 0 ≡ 0

module _ {ps : List ℕ} (t : OneTree ps) (v : ℕ) (hv : v < length ps) where
  pub depth_small : depth ps v < most_entries
  depth_small = let few = t.few in omega (arith, few, depth-less ps (small t) t.tree v hv)

  pub record-none : (r : List ℕ) (d : ℕ) → d ≡ depth ps v → r ≡ set (replicate record_words 0) 0 d → RecordBefore ps v r v 1 1 1
  unfolding up
  record-none r d e q = record {
    started = omega arith;
    far = refl;
    less = omega arith;
    near = omega arith;
    reached = entry_in ps v hv;
    room = rw q (length-set (replicate {A = ℕ} record_words 0) 0 d ∙ length-replicate {A = ℕ} record_words 0);
    words = λ k h. let z : k ≡ 0 = omega arith in rw (z, q) (e ∙ sym (record-first ps v));
    zeros = λ k h b. rw q (get_or-set_other (replicate {A = ℕ} record_words 0) 0 k d 0 (λ z. omega arith) ∙ get_or-replicate {A = ℕ} record_words k 0 0 b);
  }

  module _ {r : List ℕ} {w s far e : ℕ} (d : RecordBefore ps v r w s far e) where
    -- all of them
    pub record-end : record_words ≤ e → r ≡ jump_record ps v
    record-end h = ext_get_or 0 r (jump_record ps v) (d.room ∙ sym (jump-wide group_limit ps v)) (λ k b. d.words k (omega (arith, d.room)))

    -- no ancestor is as far up
    record-stop : depth ps v < far → r ≡ jump_record ps v
    record-stop h = ext_get_or 0 r (jump_record ps v) (d.room ∙ sym (jump-wide group_limit ps v)) (λ k b. go k (omega (arith, d.room)) (dec_lt k e))
      where
        past : (k : ℕ) → e ≤ k → k < record_words → get_or (jump_record ps v) k 0 ≡ 0
        past zero b l = absurd (omega (arith, d.started))
        past (suc k) b l =
            let p : 2 ^ (e - 1) ≤ 2 ^ k = pow-le-pow_right (omega arith) (omega arith) in
            record-next ps v k (omega arith) ∙ ap (λ o. Option.get_or o 0) (up_none ps (small t) t.tree (2 ^ k) v (omega (arith, d.far)))

        go : (k : ℕ) → k < record_words → Dec (k < e) → get_or r k 0 ≡ get_or (jump_record ps v) k 0
        go k l (yes b) = d.words k b
        go k l (no b) = d.zeros k (omega arith) l ∙ sym (past k (omega arith) l)

    -- before the ancestors' end there is a next one, and from it on all are laid
    module _ (deep : ℕ) (q : deep ≡ depth ps v) (end : ℕ) (is : end ≡ ancestors_end deep) where
      next-iff : (e < end) ↔ (far ≤ depth ps v)
      next-iff =
          let (has, ends) = has-ancestor deep (e - 1) (omega (arith, q, depth_small)) in
          (λ h. omega (arith, q, d.far, has (omega (arith, is, d.started))), λ h. omega (arith, is, d.started, ends (omega (arith, q, d.far))))

      pub record-further : e < end → far ≤ depth ps v
      record-further = next-iff.0

      pub record-whole : end ≤ e → r ≡ jump_record ps v
      record-whole h = record-stop (lt_of_not-le (λ b. omega (arith, next-iff.1 b)))

    -- one ancestor further, from LADPOS and LADDERS
    module _ (b : far ≤ depth ps v) where
      hw : w < length ps
      hw = up_in ps (far - s) v w d.reached

      abbrev Next : Type 0
      Next = (x : ℕ) × (up ps far v ≡ some x) × (s ≤ lad_pos ps w) × (get_or (flatten (ladders ps)) (lad_pos ps w - s) 0 ≡ x)

      next : Next
      next =
          let (x, q) = up-some ps (small t) t.tree far v hv b in
          let z : (far - s) + s ≡ far = omega (arith, d.less) in
          let f : up ps s w ≡ some x = sym (up-add ps (far - s) s v w d.reached) ∙ ap (λ k. up ps k v) z ∙ q in
          let tall = height-up ps (small t) t.tree (far - s) v w d.reached in
          let (low, is) = lemma-5 ps (small t) t.tree w s x (omega (arith, d.near, d.less)) f in
          (x, q, low, is)

      module _ (places : List ℕ) (pe : places ≡ below (length ps) (lad_pos ps)) where
        place_is : get_or places w 0 ≡ lad_pos ps w
        place_is = ap (λ l. get_or l w 0) pe ∙ below_at (length ps) (lad_pos ps) 0 w hw

        pub place_in : w < length places
        place_in = omega (arith, hw, ap length pe ∙ each-length (length ps) 0 (lad_pos ps))

        pub place-low : s ≤ get_or places w 0
        place-low = omega (arith, place_is, next.2)

        module _ (rungs : List ℕ) (re : rungs ≡ ladder_cells ps) where
          pub place-high : get_or places w 0 < length rungs
          place-high = omega (arith, place_is, ladpos-in ps (small t) t.tree w hw, ladders-fit ps (small t) t.tree, ap length re ∙ ladder-cells-length ps (small t) t.tree)

          abbrev x : ℕ
          x = get_or rungs (get_or places w 0 - s) 0

          x-up : up ps far v ≡ some x
          x-up =
              let is : x ≡ next.0 =
              ap (λ l. get_or l (get_or places w 0 - s) 0) re
              ∙ padded-in (2 * length ps) (flatten (ladders ps)) (get_or places w 0 - s) (omega (arith, place_is, ladpos-in ps (small t) t.tree w hw))
              ∙ ap (λ p. get_or (flatten (ladders ps)) (p - s) 0) place_is
              ∙ next.3 in
              next.1 ∙ ap some (sym is)

          -- its word is the next, and twice as many climbs lead to the one behind it
          module _ (j : ℕ) (z : e ≡ suc j) where
            far-is : far ≡ 2 ^ j
            far-is = d.far ∙ ap (λ k. 2 ^ k) (omega arith)

            word-is : e < record_words → x ≡ get_or (jump_record ps v) e 0
            word-is h = sym (ap (λ k. get_or (jump_record ps v) k 0) z ∙ record-next ps v j (omega arith) ∙ ap (λ k. Option.get_or (up ps k v) 0) (sym far-is) ∙ ap (λ o. Option.get_or o 0) x-up)

            far-next : far + far ≡ 2 ^ ((e + 1) - 1)
            far-next =
                let y : suc j ≡ (e + 1) - 1 = omega arith in
                omega (arith, far-is, two-pow-succ j) ∙ ap (λ k. 2 ^ k) y

          pub record-more : e < record_words → RecordBefore ps v (set r e x) x far (far + far) (e + 1)
          record-more h =
              let z : e ≡ suc (e - 1) = omega (arith, d.started) in
              let y : (far + far) - far ≡ far = omega arith in
              let before : (k : ℕ) → k < e → get_or (set r e x) k 0 ≡ get_or (jump_record ps v) k 0 = λ k l. get_or-set_other r e k x 0 (λ q. omega arith) ∙ d.words k l in
              record {
                started = omega arith;
                far = far-next (e - 1) z;
                less = omega arith;
                near = omega arith;
                reached = ap (λ k. up ps k v) y ∙ x-up;
                room = length-set r e x ∙ d.room;
                words = below_more _ e before (get_or-set_same r e x 0 (omega (arith, d.room)) ∙ word-is (e - 1) z h);
                zeros = λ k l n. get_or-set_other r e k x 0 (λ q. omega arith) ∙ d.zeros k (omega arith) n;
              }
