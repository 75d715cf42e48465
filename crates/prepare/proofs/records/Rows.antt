-- JUMPS: one record behind another. Assumes nothing.
use mathlib.Core.Path.{◌≡◌, refl, sym, ap, ◌∙◌}
use mathlib.Core.Logic.{inl, inr}
use mathlib.Core.List.{List, [], ◌∷◌, ◌++◌, flat_map}
use Prim.Native.Nat.{ℕ, ◌+◌, ◌*◌, ◌-◌, ◌≤◌, ◌<◌}
use native.Mathlib.Omega.{arith}
use native.Mathlib.Numerals.{add-one}
use borrow.Rule.Slice.PartMut.{mid_of, put_mid}
use lib.ListN.{length, get_or, take, replicate, length-replicate, length-take}
use lib.Seq.{take_all, take-suc}
use Rattle.base.specs.Lists.{put, padded}
use Rattle.base.specs.Limits.{group_limit, header_of, jump_room, record_words, table_words}
use Rattle.base.proofs.Lists.{below_at, drop-zeros}
use Rattle.base.proofs.Places.{stands}
use Rattle.base.proofs.Filters.{keep-in}
use Rattle.base.proofs.Puts.{put-length, put_view, put-none, put-more, put-over, came-filled, stays}
use Rattle.base.proofs.Rows.{rows-length, rows_more}
use Rattle.base.proofs.Views.{view-at}
use Rattle.tree.specs.Parents.{depth}
use Rattle.tree.specs.Forest.{order}
use Rattle.tree.proofs.Positions.{position-before}
use Rattle.table.specs.Groups.{group_roots, jump_node, jump_nodes, jump_record}
use Rattle.table.specs.Ladders.{path_tops}
use Rattle.table.specs.Table.{header, jump_cells, table_of}
use Rattle.climbs.proofs.Jumps.{jumps-few}
use Rattle.climbs.proofs.RecordWords.{jump-wide, jumps-length}
use Rattle.climbs.proofs.SectionLengths.{jump-cells-length}
use Rattle.prepare.specs.Arrays.{OneTree}
use Rattle.prepare.specs.Stages.{Sectioned, Reached, EndsBefore}
use Rattle.prepare.proofs.Preorder.{small}
use Rattle.prepare.proofs.sections.Whole.{sectioned-put, whole-table}

-- what one record is filled from
module _ {ps : List ℕ} {d p l : ℕ} {t : List ℕ} (r : Reached ps d p l t) where
  pub record-depth : (v : ℕ) → v < length ps → get_or t (d + v) 0 ≡ depth ps v
  record-depth v h = view-at d (length ps) t v (d + v) h refl ∙ ap (λ w. get_or w v 0) r.depths ∙ below_at (length ps) (depth ps) 0 v h

  -- words behind all of it leave it
  pub reached-put : (a : ℕ) (x : List ℕ) → EndsBefore ps d p l a → a + length x ≤ length t → Reached ps d p l (put t a x)
  reached-put a x h b =
      let long = put-length t a x b in
      record {
        one = r.one;
        fits = (omega (arith, long, r.fits.0), omega (arith, long, r.fits.1), omega (arith, long, r.fits.2));
        depths = stays t a x b d (length ps) (inl h.0) ∙ r.depths;
        places = stays t a x b p (length ps) (inl h.1) ∙ r.places;
        rungs = stays t a x b l (2 * length ps) (inl h.2) ∙ r.rungs;
      }

-- the records of the first i entries of a list, from `first` on, behind all that they are filled from
pub record RowsBefore (ps : List ℕ) (d p l first : ℕ) (nodes old : List ℕ) (table : List ℕ) (at i : ℕ) : Type 0 where
  pub room : first + record_words * length nodes ≤ length old
  pub behind : EndsBefore ps d p l first
  pub place : at ≡ first + record_words * i
  pub within : i ≤ length nodes
  pub laid : table ≡ put old first (flat_map (jump_record ps) (take i nodes))
  pub long : length table ≡ length old
  pub reached : Reached ps d p l table

pub rows_none : {ps : List ℕ} {d p l first : ℕ} {nodes old : List ℕ} → first + record_words * length nodes ≤ length old → EndsBefore ps d p l first → Reached ps d p l old → RowsBefore ps d p l first nodes old old first 0
unfolding flat_map
rows_none {first = first} {old = old} h b r = record { room = h; behind = b; place = omega arith; within = omega arith; laid = sym (put-none old first); long = refl; reached = r }

module _ {ps : List ℕ} {d p l first : ℕ} {nodes old table : List ℕ} {at i : ℕ} (s : RowsBefore ps d p l first nodes old table at i) where
  module _ (h : i < length nodes) where
    pub rows-room : at + record_words ≤ length table
    rows-room = omega (arith, s.place, s.long, s.room)

    pub rows_next : (new : List ℕ) → new ≡ put table at (jump_record ps (get_or nodes i 0)) → length new ≡ length table → RowsBefore ps d p l first nodes old new (at + record_words) (i + 1)
    rows_next new e same =
        let x = jump_record ps (get_or nodes i 0) in
        let rows = flat_map (jump_record ps) (take i nodes) in
        let w = jump-wide group_limit ps (get_or nodes i 0) in
        let many : length rows ≡ record_words * i = rows-length (jump_record ps) record_words (jump-wide group_limit ps) (take i nodes) ∙ ap (λ k. record_words * k) (length-take i nodes ∙ omega arith) in
        let q : flat_map (jump_record ps) (take (i + 1) nodes) ≡ rows ++ x
        = ap (flat_map (jump_record ps)) (ap (λ k. take k nodes) (add-one i) ∙ take-suc nodes i 0 h) ∙ rows_more (jump_record ps) (take i nodes) (get_or nodes i 0) in
        let both : put table at x ≡ put old first (rows ++ x) = ap (λ m. put m at x) s.laid ∙ put-more old first at rows x (omega (arith, s.place)) (omega (arith, s.place, s.room)) in
        record {
          room = s.room;
          behind = s.behind;
          place = omega (arith, s.place);
          within = omega arith;
          laid = e ∙ both ∙ ap (put old first) (sym q);
          long = same ∙ s.long;
          reached = rw e (reached-put s.reached at x (omega (arith, s.place, s.behind.0), omega (arith, s.place, s.behind.1), omega (arith, s.place, s.behind.2)) (omega (arith, rows-room)));
        }

-- JUMPS as a whole: the list of the jump entries, and their records over zeros
module _ {ps t : List ℕ} (one : OneTree ps) (s : Sectioned ps t) (long : length t ≡ table_words (length ps)) where
  pub nodes-few : (record_words * length (jump_nodes group_limit ps) ≤ record_words * jump_room (length ps)) × (length (jump_nodes group_limit ps) ≤ length ps)
  nodes-few = let f = jumps-few ps (small one) one.tree group_limit in (omega arith, omega arith)

  nodes-in : (i : ℕ) → i < length (jump_nodes group_limit ps) → get_or (jump_nodes group_limit ps) i 0 < length ps
  nodes-in i h =
      let v = get_or (jump_nodes group_limit ps) i 0 in
      let k = keep-in (jump_node group_limit ps) v (order ps) (stands v (jump_nodes group_limit ps) i h refl) in
      (position-before ps (small one) one.tree v (length (order ps)) (rw (take_all (length (order ps)) (order ps) (omega arith)) k.1)).0

  -- JUMPS wiped, and what the records then ask
  abbrev first : ℕ
  first = 4 + 11 * length ps

  abbrev zeros : List ℕ
  zeros = replicate (record_words * jump_room (length ps)) 0

  zeros-wide : length zeros ≡ record_words * jump_room (length ps)
  zeros-wide = length-replicate {A = ℕ} (record_words * jump_room (length ps)) 0

  pub zeros-put : (cells : List ℕ) → cells ≡ replicate (length (mid_of first (length t - first) t)) 0 → put_mid first (length t - first) t cells ≡ put t first zeros
  zeros-put cells e = came-filled first (length t) (record_words * jump_room (length ps)) 0 t cells (omega arith) (omega arith) e

  pub ready : (t₁ nodes : List ℕ) → t₁ ≡ put t first zeros → nodes ≡ jump_nodes group_limit ps
      → Reached ps 4 (4 + 2 * length ps) (4 + 6 * length ps) t₁ × EndsBefore ps 4 (4 + 2 * length ps) (4 + 6 * length ps) first × (first + record_words * length nodes ≤ length t₁) × ((i : ℕ) → i < length nodes → get_or nodes i 0 < length ps)
  ready t₁ nodes e f =
      let reached : Reached ps 4 (4 + 2 * length ps) (4 + 6 * length ps) t = record { one = one; fits = (omega arith, omega arith, omega arith); depths = s.depths; places = s.paths.places; rungs = s.paths.rungs } in
      let behind : EndsBefore ps 4 (4 + 2 * length ps) (4 + 6 * length ps) first = (omega arith, omega arith, omega arith) in
      let b : first + length zeros ≤ length t = omega (arith, zeros-wide) in
      (rw e (reached-put reached first zeros behind b), behind, omega (arith, ap length e, ap length f, put-length t first zeros b, nodes-few.0), rw f nodes-in)

  -- the records over zeros
  pub jumps-laid : (t₁ nodes new : List ℕ) → t₁ ≡ put t first zeros → nodes ≡ jump_nodes group_limit ps → new ≡ put t₁ first (flat_map (jump_record ps) nodes) → new ≡ put t first (jump_cells ps)
  unfolding padded
  jumps-laid t₁ nodes new e f g =
      let x = flat_map (jump_record ps) (jump_nodes group_limit ps) in
      g
      ∙ rw (e, f) (put-over t first x zeros (omega (arith, zeros-wide)) (omega (arith, zeros-wide, jumps-length group_limit ps, nodes-few.0)))
      ∙ ap (λ r. put t first (x ++ r)) (drop-zeros (length x) (record_words * jump_room (length ps)))

  -- with the header, the whole table
  pub finished : (t₁ t₂ : List ℕ) (jumps groups paths : ℕ) → jumps ≡ length (jump_nodes group_limit ps) → groups ≡ length (group_roots group_limit ps) → paths ≡ length (path_tops ps)
      → t₁ ≡ put t first (jump_cells ps) → t₂ ≡ put t₁ 0 (header_of (length ps) ∷ jumps ∷ groups ∷ paths ∷ []) → t₂ ≡ table_of ps
  unfolding header
  finished t₁ t₂ jumps groups paths ej eg ep e₁ e₂ =
      let m = record_words * jump_room (length ps) in
      let h = header_of (length ps) ∷ jumps ∷ groups ∷ paths ∷ [] in
      let wide : length (jump_cells ps) ≡ m = jump-cells-length ps (small one) one.tree in
      let l₁ = put t first (jump_cells ps) in
      let b₀ : first + length (jump_cells ps) ≤ length t = omega arith in
      let long₁ = put-length t first (jump_cells ps) b₀ in
      let b₁ : 0 + length h ≤ length l₁ = omega arith in
      e₂ ∙ ap (λ l. put l 0 h) e₁ ∙ whole-table ps (sectioned-put ps l₁ 0 h b₁ (inr (omega arith)) (sectioned-put ps t first (jump_cells ps) b₀ (inl (omega arith)) s)) (put-length l₁ 0 h b₁ ∙ long₁ ∙ long)
      (stays l₁ 0 h b₁ first m (inr (omega arith)) ∙ put_view t first (jump_cells ps) b₀ m wide)
      (put_view l₁ 0 h b₁ 4 refl ∙ rw (ej, eg, ep))
