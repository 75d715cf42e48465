-- LADDERS: the ancestors before a path top's own word, one climb further, and every word that is right stays right. Assumes nothing.
use mathlib.Core.Path.{◌≡◌, refl, sym, ap, subst, ◌∙◌}
use mathlib.Core.List.{List, flatten}
use mathlib.Core.Bool.{true, false}
use mathlib.Core.Option.{some, some-injective}
use Prim.Native.Nat.{ℕ, ◌+◌, ◌*◌, ◌-◌, ◌≤◌, ◌<◌}
use native.Mathlib.Omega.{arith}
use native.Mathlib.Decide.{ℕ_discrete, dec_lt, dec_le}
use borrow.Author.Count.{below_more}
use lib.ListN.{length, get_or, set, take, length-set}
use lib.Seq.{get_or-set_same, get_or-set_other, get_or-take, length-take-le}
use Rattle.base.specs.Lists.{padded}
use Rattle.base.proofs.Lists.{clash}
use Rattle.base.proofs.Joins.{padded-length, padded-in, padded-past}
use Rattle.tree.specs.Parents.{up, depth}
use Rattle.tree.specs.Forest.{position, path_top}
use Rattle.tree.proofs.Climbs.{entry_in, entry-some, up_first, up-add}
use Rattle.tree.proofs.Depths.{up-some}
use Rattle.tree.proofs.Positions.{position_in, at_position}
use Rattle.table.specs.Ladders.{ladders, lad_pos}
use Rattle.table.specs.Table.{ladder_cells}
use Rattle.climbs.proofs.Ladders.{rise, ladpos-in, ladder-own, lemma-5}
use Rattle.climbs.proofs.Room.{ladders-fit}
use Rattle.climbs.proofs.LadderWords.{filled}
use Rattle.prepare.specs.Arrays.{OneTree, entry_at, above_position, Risen}
use Rattle.prepare.proofs.Preorder.{small, located-at, over-of}

-- so many climbs up, at a position
pub record Climbed (ps : List ℕ) (v k at : ℕ) : Type 0 where
  pub inside : at < length ps
  pub reached : up ps k v ≡ some (entry_at ps at)

module _ {ps : List ℕ} (t : OneTree ps) where
  pub climbed-none : (i : ℕ) → i < length ps → Climbed ps (entry_at ps i) 0 i
  unfolding up
  climbed-none i h = record { inside = h; reached = entry_in ps (entry_at ps i) (located-at t i h).inside }

  -- one climb further
  pub climbed-more : {v k at j : ℕ} → j ≡ above_position ps (entry_at ps at) → v < length ps → k < depth ps v → Climbed ps v k at → Climbed ps v (k + 1) j
  unfolding up
  climbed-more {v} {k} {at} w h b s =
      let (u, e) = up-some ps (small t) t.tree (k + 1) v h (omega arith) in
      let q : up ps 1 (entry_at ps at) ≡ some u = sym (up-add ps k 1 v (entry_at ps at) s.reached) ∙ e in
      let (p, f, r) = up_first ps 0 (entry_at ps at) u q in
      let o = over-of t at s.inside w p f in
      record { inside = o.there.low; reached = e ∙ ap some (sym (o.there.entry ∙ (entry-some ps p u r).0)) }

pub risen-none : (ps : List ℕ) (v place : ℕ) (old : List ℕ) → Risen ps v place 0 old old
risen-none ps v place old = record { same = refl; before = λ j h. refl; behind = λ j h. refl; words = λ k u a b. absurd (omega arith) }

pub risen-by : {ps : List ℕ} {v place : ℕ} {old new : List ℕ} (j k : ℕ) → j ≡ k → Risen ps v place j old new → Risen ps v place k old new
risen-by {ps} {v} {place} {old} {new} j k e r = subst (λ m. Risen ps v place m old new) e r

-- one word more, before those so far
pub risen-more : (ps : List ℕ) (v place k : ℕ) (old new : List ℕ) (x : ℕ) → k < place → place ≤ length old → up ps (k + 1) v ≡ some x → Risen ps v place k old new
    → Risen ps v place (k + 1) old (set new (place - (k + 1)) x)
risen-more ps v place k old new x h b e r =
    let at = place - (k + 1) in
    let n : at < length new = omega (arith, r.same) in
    let before : (j : ℕ) → j < k + 1 → (u : ℕ) → 1 ≤ j → up ps j v ≡ some u → get_or (set new at x) (place - j) 0 ≡ u
    = λ j l u a q. get_or-set_other new at (place - j) x 0 (λ z. omega arith) ∙ r.words j u a (omega arith) q in
    let here : (u : ℕ) → 1 ≤ k + 1 → up ps (k + 1) v ≡ some u → get_or (set new at x) (place - (k + 1)) 0 ≡ u
    = λ u a q. get_or-set_same new at x 0 n ∙ some-injective x u (sym e ∙ q) in
    record {
      same = length-set new at x ∙ r.same;
      before = λ j l. get_or-set_other new at j x 0 (λ z. omega arith) ∙ r.before j (omega arith);
      behind = λ j l. get_or-set_other new at j x 0 (λ z. omega arith) ∙ r.behind j l;
      words = λ j u a l. below_more (λ j. (u : ℕ) → 1 ≤ j → up ps j v ≡ some u → get_or (set new at x) (place - j) 0 ≡ u) (k + 1) before here j (omega arith) u a;
    }

-- a word is that of the ladders
abbrev pub RightWord : List ℕ → List ℕ → ℕ → Type 0
RightWord ps cells j = get_or cells j 0 ≡ get_or (flatten (ladders ps)) j 0

-- the words of the first i positions are right
pub record RungsBefore (ps : List ℕ) (i : ℕ) (cells : List ℕ) : Type 0 where
  pub size : length cells ≡ 2 * length ps
  pub own : (k : ℕ) → k < i → RightWord ps cells (lad_pos ps (entry_at ps k))
  pub over : (k : ℕ) → k < i → path_top ps (entry_at ps k) ≡ true → (m : ℕ) → 1 ≤ m → m ≤ rise ps (entry_at ps k) → RightWord ps cells (lad_pos ps (entry_at ps k) - m)

-- a right word keeps every other
right-set : (ps cells : List ℕ) (at x j : ℕ) → at < length cells → x ≡ get_or (flatten (ladders ps)) at 0 → RightWord ps cells j → RightWord ps (set cells at x) j
right-set ps cells at x j h e r = go (ℕ_discrete j at)
  where
    go : Dec (j ≡ at) → RightWord ps (set cells at x) j
    go (yes q) = rw q (get_or-set_same cells at x 0 h ∙ e)
    go (no q) = get_or-set_other cells at j x 0 q ∙ r

pub fill_none : (ps cells : List ℕ) → length cells ≡ 2 * length ps → RungsBefore ps 0 cells
fill_none ps cells e = record { size = e; own = λ k h. absurd (omega arith); over = λ k h. absurd (omega arith) }

module _ {ps : List ℕ} (t : OneTree ps) where
  -- with the words behind all ladders set to 0, the section is LADDERS
  pub fill_end : (words : ℕ) (cells : List ℕ) → words ≡ length (flatten (ladders ps)) → RungsBefore ps (length ps) cells → padded (length cells) (take words cells) ≡ ladder_cells ps
  fill_end words cells z s = filled ps (small t) t.tree new (padded-length (length cells) (take words cells) (omega (arith, long, fits)) ∙ s.size) own over
      (λ j h b. padded-past (length cells) (take words cells) j (omega (arith, long)))
    where
      new : List ℕ
      new = padded (length cells) (take words cells)

      fits : words ≤ length cells
      fits = omega (arith, s.size, ladders-fit ps (small t) t.tree)

      long : length (take words cells) ≡ words
      long = length-take-le words cells fits

      kept : (j : ℕ) → j < words → get_or new j 0 ≡ get_or cells j 0
      kept j h = padded-in (length cells) (take words cells) j (omega (arith, long)) ∙ get_or-take words cells j 0 h

      own : (v : ℕ) → v < length ps → get_or new (lad_pos ps v) 0 ≡ v
      own v h =
          kept (lad_pos ps v) (omega (arith, ladpos-in ps (small t) t.tree v h))
          ∙ (rw (at_position ps (small t) t.tree v h) at (s.own (position ps v) (position_in ps (small t) t.tree v h)))
          ∙ ladder-own ps (small t) t.tree v h

      over : (r k u : ℕ) → r < length ps → path_top ps r ≡ true → 1 ≤ k → k ≤ rise ps r → up ps k r ≡ some u → get_or new (lad_pos ps r - k) 0 ≡ u
      over r k u h b a l e =
          let q = at_position ps (small t) t.tree r h in
          let w = s.over (position ps r) (position_in ps (small t) t.tree r h) (ap (path_top ps) q ∙ b) k a (rw q l) in
          kept (lad_pos ps r - k) (omega (arith, ladpos-in ps (small t) t.tree r h)) ∙ (rw q at w) ∙ (lemma-5 ps (small t) t.tree r k u (omega arith) e).1

  module _ (i : ℕ) (h : i < length ps) where
    abbrev v : ℕ
    v = entry_at ps i

    hv : v < length ps
    hv = (located-at t i h).inside

    pub place-room : (cells : List ℕ) → RungsBefore ps i cells → lad_pos ps v < length cells
    place-room cells s = omega (arith, s.size, ladpos-in ps (small t) t.tree v hv, ladders-fit ps (small t) t.tree)

    -- one position further
    fill_more : (cells new : List ℕ) → RungsBefore ps i cells → length new ≡ length cells → ((j : ℕ) → RightWord ps cells j → RightWord ps new j) → RightWord ps new (lad_pos ps v)
        → (path_top ps v ≡ true → (m : ℕ) → 1 ≤ m → m ≤ rise ps v → RightWord ps new (lad_pos ps v - m)) → RungsBefore ps (i + 1) new
    fill_more cells new s n keeps own over = record {
      size = n ∙ s.size;
      own = below_more (λ k. RightWord ps new (lad_pos ps (entry_at ps k))) i (λ k l. keeps _ (s.own k l)) own;
      over = below_more (λ k. path_top ps (entry_at ps k) ≡ true → (m : ℕ) → 1 ≤ m → m ≤ rise ps (entry_at ps k) → RightWord ps new (lad_pos ps (entry_at ps k) - m)) i (λ k l t m a b. keeps _ (s.over k l t m a b)) over;
    }

    own-right : (cells : List ℕ) → RungsBefore ps i cells → (j : ℕ) → RightWord ps cells j → RightWord ps (set cells (lad_pos ps v) v) j
    own-right cells s j r = right-set ps cells (lad_pos ps v) v j (place-room cells s) (sym (ladder-own ps (small t) t.tree v hv)) r

    own-here : (cells : List ℕ) → RungsBefore ps i cells → RightWord ps (set cells (lad_pos ps v) v) (lad_pos ps v)
    own-here cells s = get_or-set_same cells (lad_pos ps v) v 0 (place-room cells s) ∙ sym (ladder-own ps (small t) t.tree v hv)

    pub fill-inner : (cells : List ℕ) → RungsBefore ps i cells → path_top ps v ≡ false → RungsBefore ps (i + 1) (set cells (lad_pos ps v) v)
    fill-inner cells s goes = fill_more cells _ s (length-set cells (lad_pos ps v) v) (own-right cells s) (own-here cells s) (λ e. clash (sym goes ∙ e))

    -- the ancestors before a path top's word
    module _ (old new : List ℕ) (r : Risen ps v (lad_pos ps v) (rise ps v) old new) where
      risen-here : (m : ℕ) → 1 ≤ m → m ≤ rise ps v → RightWord ps new (lad_pos ps v - m)
      risen-here m a b =
          let (u, e) = up-some ps (small t) t.tree m v hv (omega arith) in
          r.words m u a b e ∙ sym (lemma-5 ps (small t) t.tree v m u (omega arith) e).1

      risen-keeps : (j : ℕ) → RightWord ps old j → RightWord ps new j
      risen-keeps j q = go (dec_lt (j + rise ps v) (lad_pos ps v)) (dec_le (lad_pos ps v) j)
        where
          go : Dec (j + rise ps v < lad_pos ps v) → Dec (lad_pos ps v ≤ j) → RightWord ps new j
          go (yes a) b = r.before j a ∙ q
          go (no a) (yes b) = r.behind j b ∙ q
          go (no a) (no b) =
              let z : lad_pos ps v - (lad_pos ps v - j) ≡ j = omega arith in
              rw z at (risen-here (lad_pos ps v - j) (omega arith) (omega arith))

    pub fill-top : (cells mid : List ℕ) → RungsBefore ps i cells → Risen ps v (lad_pos ps v) (rise ps v) cells mid → RungsBefore ps (i + 1) (set mid (lad_pos ps v) v)
    fill-top cells mid s r =
        let room : lad_pos ps v < length mid = omega (arith, r.same, place-room cells s) in
        let own = sym (ladder-own ps (small t) t.tree v hv) in
        fill_more cells _ s (length-set mid (lad_pos ps v) v ∙ r.same) (λ j q. right-set ps mid (lad_pos ps v) v j room own (risen-keeps cells mid r j q))
        (get_or-set_same mid (lad_pos ps v) v 0 room ∙ own) (λ e m a b. right-set ps mid (lad_pos ps v) v (lad_pos ps v - m) room own (risen-here cells mid r m a b))
