-- The words of a prepared table, cell by cell. Assumes nothing.
use mathlib.Core.Path.{◌≡◌, refl, sym, ap, ◌∙◌}
use mathlib.Core.List.{List, ◌++◌, append_assoc, flatten, flat_map}
use mathlib.Core.Option
use Prim.Native.Nat.{ℕ, ◌+◌, ◌*◌, ◌^◌, ◌≤◌, ◌<◌}
use native.Mathlib.Omega.{arith}
use lib.ListN.{length, get_or, get_or-append}
use lib.Seq.{get_or-append-add, get_or-take}
use Rattle.base.specs.Lists.{below, padded}
use Rattle.base.specs.Limits.{most_entries, group_limit, header_of, jump_room, record_words, table_words, depth_cell, kind_cell, ladpos_cell, order_cell, pre_cell, size_cell, ladder_cell, position_cell, shape_cell, parent_cell, jump_cell, ancestor_cell, top_mark}
use Rattle.base.proofs.Lists.{below_at, each-length}
use Rattle.base.proofs.Joins.{padded-in}
use Rattle.tree.specs.Parents.{parent, up, depth}
use Rattle.tree.specs.Forest.{under, size, order, position}
use Rattle.tree.specs.Faults.{Tree}
use Rattle.tree.proofs.Positions.{order-length}
use Rattle.shapes.specs.Walks.{walk_round, shape_number}
use Rattle.table.specs.Ladders.{ladders, lad_pos}
use Rattle.table.specs.Groups.{group_roots, group_words, jump_nodes, jump_record, kind}
use Rattle.table.specs.Table.{header, entry_sections, laid_sections, table_of}
use Rattle.table.specs.Preparing.{Prepared}
use Rattle.table.proofs.Acceptance.{accepted-iff}
use Rattle.answers.specs.Reading.{word_at}
use Rattle.climbs.proofs.Room.{ladders-fit}
use Rattle.climbs.proofs.Groups.{groups-few}
use Rattle.climbs.proofs.Jumps.{jumps-room}
use Rattle.climbs.proofs.SectionLengths.{ladder-cells-length, group-cells-length}
use Rattle.climbs.proofs.RecordWords.{groups-length, jumps-length, group-position, group-shape, group-parent, jump-depth, jump-ancestor}

-- past a first list, and within it
past : (a b : List ℕ) (m i : ℕ) → length a ≡ m → get_or (a ++ b) (m + i) 0 ≡ get_or b i 0
past a b m i e = ap (λ k. get_or (a ++ b) (k + i) 0) (sym e) ∙ get_or-append-add a b i 0

within : (a b : List ℕ) (i : ℕ) → i < length a → get_or (a ++ b) i 0 ≡ get_or a i 0
within a b i h = get_or-append a b 0 i h

module _ (ps t : List ℕ) (p : Prepared ps t) where
  -- a prepared table's list has from 1 to 1,048,576 entries and forms one tree
  pub many : 1 ≤ length ps
  many = ((accepted-iff ps).0 p.accepts).0

  pub few : length ps ≤ most_entries
  few = ((accepted-iff ps).0 p.accepts).1

  pub tree : Tree ps
  tree = ((accepted-iff ps).0 p.accepts).2

  pub small : length ps ≤ top_mark
  small = omega (arith, few)

  -- the nine sections, one behind another
  rungs : List ℕ
  rungs = padded (2 * length ps) (flatten (ladders ps))

  triples : List ℕ
  triples = padded (3 * length ps) (flat_map (group_words group_limit ps) (group_roots group_limit ps))

  records : List ℕ
  records = padded (record_words * jump_room (length ps)) (flat_map (jump_record ps) (jump_nodes group_limit ps))

  per : (ℕ → ℕ) → List ℕ
  per f = below (length ps) f

  -- what stands from GROUPS, LADDERS, SIZE, PRE, ORDER, LADPOS, KIND and DEPTH on
  from_groups : List ℕ
  from_groups = triples ++ records

  from_ladders : List ℕ
  from_ladders = rungs ++ from_groups

  from_size : List ℕ
  from_size = per (size ps) ++ from_ladders

  from_pre : List ℕ
  from_pre = per (position ps) ++ from_size

  from_order : List ℕ
  from_order = order ps ++ from_pre

  from_ladpos : List ℕ
  from_ladpos = per (lad_pos ps) ++ from_order

  from_kind : List ℕ
  from_kind = per (kind group_limit ps) ++ from_ladpos

  from_depth : List ℕ
  from_depth = per (depth ps) ++ from_kind

  sections : table_of ps ≡ header ps ++ from_depth
  unfolding table_of entry_sections laid_sections per rungs triples records from_groups from_ladders from_size from_pre from_order from_ladpos from_kind from_depth
  sections = simp append_assoc

  per-length : (f : ℕ → ℕ) → length (per f) ≡ length ps
  unfolding per
  per-length f = each-length (length ps) 0 f

  rungs-length : length rungs ≡ 2 * length ps
  unfolding rungs
  rungs-length = ladder-cells-length ps small tree

  triples-length : length triples ≡ 3 * length ps
  unfolding triples
  triples-length = group-cells-length ps small tree

  -- a word of the table, by its place behind the header
  word-is : (c : ℕ) → c < table_words (length ps) → word_at t c ≡ get_or (table_of ps) c 0
  word-is c h = sym (get_or-take (table_words (length ps)) t c 0 h) ∙ ap (λ l. get_or l c 0) p.words

  -- from the header on, section by section
  body : (i : ℕ) → 4 + i < table_words (length ps) → word_at t (4 + i) ≡ get_or from_depth i 0
  unfolding header
  body i h = word-is (4 + i) h ∙ ap (λ l. get_or l (4 + i) 0) sections ∙ past (header ps) from_depth 4 i refl

  past-depth : (i : ℕ) → get_or from_depth (length ps + i) 0 ≡ get_or from_kind i 0
  unfolding from_depth
  past-depth i = past (per (depth ps)) from_kind (length ps) i (per-length (depth ps))

  past-kind : (i : ℕ) → get_or from_kind (length ps + i) 0 ≡ get_or from_ladpos i 0
  unfolding from_kind
  past-kind i = past (per (kind group_limit ps)) from_ladpos (length ps) i (per-length (kind group_limit ps))

  past-ladpos : (i : ℕ) → get_or from_ladpos (length ps + i) 0 ≡ get_or from_order i 0
  unfolding from_ladpos
  past-ladpos i = past (per (lad_pos ps)) from_order (length ps) i (per-length (lad_pos ps))

  past-order : (i : ℕ) → get_or from_order (length ps + i) 0 ≡ get_or from_pre i 0
  unfolding from_order
  past-order i = past (order ps) from_pre (length ps) i (order-length ps small tree)

  past-pre : (i : ℕ) → get_or from_pre (length ps + i) 0 ≡ get_or from_size i 0
  unfolding from_pre
  past-pre i = past (per (position ps)) from_size (length ps) i (per-length (position ps))

  past-size : (i : ℕ) → get_or from_size (length ps + i) 0 ≡ get_or from_ladders i 0
  unfolding from_size
  past-size i = past (per (size ps)) from_ladders (length ps) i (per-length (size ps))

  past-ladders : (i : ℕ) → get_or from_ladders (2 * length ps + i) 0 ≡ get_or from_groups i 0
  unfolding from_ladders
  past-ladders i = past rungs from_groups (2 * length ps) i rungs-length

  past-groups : (i : ℕ) → get_or from_groups (3 * length ps + i) 0 ≡ get_or records i 0
  unfolding from_groups
  past-groups i = past triples records (3 * length ps) i triples-length

  in-per : (f : ℕ → ℕ) (rest : List ℕ) (v : ℕ) → v < length ps → get_or (per f ++ rest) v 0 ≡ f v
  unfolding per
  in-per f rest v h = within (per f) rest v (omega (arith, per-length f)) ∙ below_at (length ps) f 0 v h

  -- the words of an entry's cells
  pub count_word : word_at t 0 ≡ header_of (length ps)
  unfolding header
  count_word = word-is 0 (omega arith) ∙ ap (λ l. get_or l 0 0) sections

  module _ (v : ℕ) (h : v < length ps) where
    pub depth-word : word_at t (depth_cell (length ps) v) ≡ depth ps v
    unfolding from_depth
    depth-word = body v (omega arith) ∙ in-per (depth ps) from_kind v h

    pub kind-word : word_at t (kind_cell (length ps) v) ≡ kind group_limit ps v
    unfolding from_kind
    kind-word =
        let z : 4 + length ps + v ≡ 4 + (length ps + v) = omega arith in
        rw z (body (length ps + v) (omega arith) ∙ past-depth v ∙ in-per (kind group_limit ps) from_ladpos v h)

    pub ladpos-word : word_at t (ladpos_cell (length ps) v) ≡ lad_pos ps v
    unfolding from_ladpos
    ladpos-word =
        let z : 4 + 2 * length ps + v ≡ 4 + (length ps + (length ps + v)) = omega arith in
        rw z (body (length ps + (length ps + v)) (omega arith) ∙ past-depth (length ps + v) ∙ past-kind v ∙ in-per (lad_pos ps) from_order v h)

    -- from DEPTH to the word behind ORDER's place i
    to-order : (i : ℕ) → 4 + 3 * length ps + i < table_words (length ps) → word_at t (order_cell (length ps) i) ≡ get_or from_order i 0
    to-order i b =
        let z : 4 + 3 * length ps + i ≡ 4 + (length ps + (length ps + (length ps + i))) = omega arith in
        rw z (body (length ps + (length ps + (length ps + i))) (omega arith) ∙ past-depth (length ps + (length ps + i)) ∙ past-kind (length ps + i) ∙ past-ladpos i)

    pub order-word : word_at t (order_cell (length ps) v) ≡ get_or (order ps) v 0
    unfolding from_order
    order-word = to-order v (omega arith) ∙ within (order ps) from_pre v (omega (arith, order-length ps small tree))

    pub pre-word : word_at t (pre_cell (length ps) v) ≡ position ps v
    unfolding from_pre
    pre-word =
        let z : 4 + 4 * length ps + v ≡ 4 + 3 * length ps + (length ps + v) = omega arith in
        rw z (to-order (length ps + v) (omega arith) ∙ past-order v ∙ in-per (position ps) from_size v h)

    pub size_word : word_at t (size_cell (length ps) v) ≡ size ps v
    unfolding from_size
    size_word =
        let z : 4 + 5 * length ps + v ≡ 4 + 3 * length ps + (length ps + (length ps + v)) = omega arith in
        rw z (to-order (length ps + (length ps + v)) (omega arith) ∙ past-order (length ps + v) ∙ past-pre v ∙ in-per (size ps) from_ladders v h)

  -- a word of LADDERS, of a group and of a jump record
  module _ (i : ℕ) where
    to-ladders : 4 + 6 * length ps + i < table_words (length ps) → word_at t (ladder_cell (length ps) i) ≡ get_or from_ladders i 0
    to-ladders b =
        let n = length ps in
        let z : 4 + 6 * n + i ≡ 4 + (n + (n + (n + (n + (n + (n + i)))))) = omega arith in
        rw z (body (n + (n + (n + (n + (n + (n + i)))))) (omega arith) ∙ past-depth (n + (n + (n + (n + (n + i))))) ∙ past-kind (n + (n + (n + (n + i)))) ∙ past-ladpos (n + (n + (n + i))) ∙ past-order (n + (n + i)) ∙ past-pre (n + i) ∙ past-size i)

    pub ladder-word : i < length (flatten (ladders ps)) → word_at t (ladder_cell (length ps) i) ≡ get_or (flatten (ladders ps)) i 0
    unfolding from_ladders rungs
    ladder-word h =
        let f = ladders-fit ps small tree in
        to-ladders (omega arith) ∙ within rungs from_groups i (omega (arith, rungs-length)) ∙ padded-in (2 * length ps) (flatten (ladders ps)) i h

  to-groups : (i : ℕ) → 4 + 8 * length ps + i < table_words (length ps) → word_at t (4 + 8 * length ps + i) ≡ get_or from_groups i 0
  to-groups i b =
      let z : 4 + 8 * length ps + i ≡ 4 + 6 * length ps + (2 * length ps + i) = omega arith in
      rw z (to-ladders (2 * length ps + i) (omega arith) ∙ past-ladders i)

  to-jumps : (i : ℕ) → 4 + 11 * length ps + i < table_words (length ps) → word_at t (4 + 11 * length ps + i) ≡ get_or records i 0
  to-jumps i b =
      let z : 4 + 11 * length ps + i ≡ 4 + 8 * length ps + (3 * length ps + i) = omega arith in
      rw z (to-groups (3 * length ps + i) (omega arith) ∙ past-groups i)

  -- group g has root r
  module _ (g r : ℕ) (h : g < length (group_roots group_limit ps)) (e : get_or (group_roots group_limit ps) g 0 ≡ r) where
    in_group : (k : ℕ) → k < 3 → word_at t (4 + 8 * length ps + (3 * g + k)) ≡ get_or (flat_map (group_words group_limit ps) (group_roots group_limit ps)) (3 * g + k) 0
    unfolding from_groups triples
    in_group k b =
        let few = groups-few ps small tree group_limit in
        let l = groups-length group_limit ps in
        to-groups (3 * g + k) (omega arith)
        ∙ within triples records (3 * g + k) (omega (arith, triples-length))
        ∙ padded-in (3 * length ps) _ (3 * g + k) (omega arith)

    pub position-word : word_at t (position_cell (length ps) g) ≡ position ps r
    position-word =
        let z : 4 + 8 * length ps + 3 * g ≡ 4 + 8 * length ps + (3 * g + 0) = omega arith in
        let y : 3 * g + 0 ≡ 3 * g = omega arith in
        rw z (in_group 0 (omega arith) ∙ ap (λ i. get_or (flat_map (group_words group_limit ps) (group_roots group_limit ps)) i 0) y ∙ group-position group_limit ps g r h e)

    pub shape-word : word_at t (shape_cell (length ps) g) ≡ shape_number group_limit (walk_round (under ps r))
    shape-word =
        let z : 4 + 8 * length ps + 3 * g + 1 ≡ 4 + 8 * length ps + (3 * g + 1) = omega arith in
        rw z (in_group 1 (omega arith) ∙ group-shape group_limit ps g r h e)

    pub parent-word : word_at t (parent_cell (length ps) g) ≡ Option.get_or (parent ps r) top_mark
    parent-word =
        let z : 4 + 8 * length ps + 3 * g + 2 ≡ 4 + 8 * length ps + (3 * g + 2) = omega arith in
        rw z (in_group 2 (omega arith) ∙ group-parent group_limit ps g r h e)

  -- jump node i is j
  module _ (i j : ℕ) (h : i < length (jump_nodes group_limit ps)) (e : get_or (jump_nodes group_limit ps) i 0 ≡ j) where
    in-record : (k : ℕ) → k < 21 → word_at t (4 + 11 * length ps + (21 * i + k)) ≡ get_or (flat_map (jump_record ps) (jump_nodes group_limit ps)) (21 * i + k) 0
    unfolding records
    in-record k b =
        let few = jumps-room ps small tree group_limit in
        let l = jumps-length group_limit ps in
        to-jumps (21 * i + k) (omega arith) ∙ padded-in (record_words * jump_room (length ps)) _ (21 * i + k) (omega arith)

    pub jump-depth-word : word_at t (jump_cell (length ps) i) ≡ depth ps j
    jump-depth-word =
        let z : 4 + 11 * length ps + 21 * i ≡ 4 + 11 * length ps + (21 * i + 0) = omega arith in
        let y : 21 * i + 0 ≡ 21 * i = omega arith in
        rw z (in-record 0 (omega arith) ∙ ap (λ x. get_or (flat_map (jump_record ps) (jump_nodes group_limit ps)) x 0) y ∙ jump-depth group_limit ps i j h e)

    pub ancestor-word : (k : ℕ) → k < 20 → word_at t (ancestor_cell (length ps) i k) ≡ Option.get_or (up ps (2 ^ k) j) 0
    ancestor-word k b =
        let z : 4 + 11 * length ps + 21 * i + 1 + k ≡ 4 + 11 * length ps + (21 * i + (1 + k)) = omega arith in
        let y : 21 * i + (1 + k) ≡ 21 * i + 1 + k = omega arith in
        rw z (in-record (1 + k) (omega arith) ∙ ap (λ x. get_or (flat_map (jump_record ps) (jump_nodes group_limit ps)) x 0) y ∙ jump-ancestor group_limit ps i j h e k b)
