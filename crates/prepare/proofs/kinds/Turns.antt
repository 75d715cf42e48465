-- KIND: the groups, the jump entries, and the words one position further. Assumes nothing.
use mathlib.Core.Path.{◌≡◌, refl, sym, ap, ◌∙◌}
use mathlib.Core.List.{List}
use mathlib.Core.Bool.{Bool, true, false}
use mathlib.Core.Logic.{◌⊎◌, inl, inr}
use mathlib.Core.Option.{some}
use Prim.Native.Nat.{ℕ, suc, ◌+◌, ◌*◌, ◌-◌, ◌≤◌, ◌<◌}
use native.Mathlib.Omega.{arith}
use native.Mathlib.Numerals.{add-one}
use native.Mathlib.Decide.{ℕ_discrete, dec_lt}
use borrow.Author.Count.{below_more}
use lib.ListN.{length, set, take}
use lib.Seq.{take_all}
use Rattle.base.specs.Limits.{most_entries, group_limit, micro_mark, top_mark}
use Rattle.base.specs.Lists.{below, keep, every}
use Rattle.base.proofs.Lists.{clash}
use Rattle.base.proofs.Counts.{one, times}
use Rattle.base.proofs.Filters.{every_true, every-false, keep-few, keep-count}
use Rattle.tree.specs.Parents.{parent, children}
use Rattle.tree.specs.Forest.{size, order, position}
use Rattle.tree.specs.Level.{Ancestor}
use Rattle.tree.proofs.Climbs.{parent_in, parent-some}
use Rattle.tree.proofs.Forests.{child-of, of-child}
use Rattle.tree.proofs.OneTree.{root_in}
use Rattle.tree.proofs.Intervals.{ancestor-self, ancestor-parent, ancestor-first, interval, inside, family-room, parent-before, root-first}
use Rattle.table.specs.Groups.{micro, group_root, group_roots, jump_node, jump_nodes, kind}
use Rattle.climbs.proofs.Jumps.{size-micro, size-macro, jump-parts, jump-is, jump-not, macro-up, micro-down, macro-kind}
use Rattle.climbs.proofs.Groups.{roots_within, Grouped, grouped-under, root-micro}
use Rattle.prepare.specs.Arrays.{OneTree, entry_at}
use Rattle.prepare.proofs.Preorder.{Located, small, order-many, entries-some, located-at, located-of}
use Rattle.prepare.proofs.Roots.{Ended, macro-none, root-next, root_none, in-family, ended_same, ended-root}
use Rattle.prepare.proofs.spread.Writes.{Written, written_none, written-more, written_all}

-- the jump entries among the first i of the preorder
abbrev pub jumps_within : ℕ → List ℕ → ℕ → List ℕ
jumps_within L ps i = keep (jump_node L ps) (take i (order ps))

module _ {ps : List ℕ} (t : OneTree ps) (L : ℕ) where
  root-above-all : (v : ℕ) → v < length ps → Ancestor ps (entry_at ps 0) v
  root-above-all v h =
      let (k, e) = t.tree.climbs v h in
      let q : entry_at ps 0 ≡ t.tree.root = ap (entry_at ps) (sym (root-first ps (small t) t.tree)) ∙ (located-of t t.tree.root (root_in ps (small t) t.tree).0).entry in
      rw q (record { climbs = k; reached = e })

  -- a macro entry with micro entries alone in the rest of its family is a jump entry
  jump-alone : (m i : ℕ) → m < length ps → m + size ps (entry_at ps m) ≤ i → micro L ps (entry_at ps m) ≡ false → ((k : ℕ) → m < k → k < i → micro L ps (entry_at ps k) ≡ true) → jump_node L ps (entry_at ps m) ≡ true
  jump-alone m i h room e quiet = go (every (micro L ps) (children ps (entry_at ps m))) refl
    where
      go : (b : Bool) → every (micro L ps) (children ps (entry_at ps m)) ≡ b → jump_node L ps (entry_at ps m) ≡ true
      go true q = jump-is L ps (entry_at ps m) e q
      go false q =
          let here = located-at t m h in
          let (c, k, n) = every-false (micro L ps) (children ps (entry_at ps m)) q in
          let (hc, w) = child-of ps (small t) (entry_at ps m) c k in
          let p : parent ps c ≡ some (entry_at ps m) = parent_in ps c hc (omega (arith, here.inside)) ∙ ap some w in
          let b = parent-before ps (small t) t.tree c (entry_at ps m) p in
          let s = quiet (position ps c) (omega arith) (omega (arith, (inside ps (small t) t.tree (entry_at ps m) c (ancestor-parent ps (small t) t.tree c (entry_at ps m) p)).1)) in
          clash (sym n ∙ rw (located-of t c hc).entry at s)

  -- one in whose family the next macro entry stands is none
  jump-left : (m i : ℕ) → m < i → i < length ps → i < m + size ps (entry_at ps m) → micro L ps (entry_at ps i) ≡ false → ((k : ℕ) → m < k → k < i → micro L ps (entry_at ps k) ≡ true) → jump_node L ps (entry_at ps m) ≡ false
  jump-left m i b h s e quiet = go (jump_node L ps (entry_at ps m)) refl
    where
      low : Located ps m (entry_at ps m)
      low = located-at t m (omega arith)

      here : Located ps i (entry_at ps i)
      here = located-at t i h

      child : (p : ℕ) → parent ps (entry_at ps i) ≡ some p → Ancestor ps (entry_at ps m) p → Dec (position ps p ≡ m) → jump_node L ps (entry_at ps m) ≡ true → ◌≡◌ {A = Bool} true false
      child p q a (yes d) j =
          let (x, y, w) = parent-some ps (entry_at ps i) p q in
          let z : p ≡ entry_at ps m = sym (located-of t p y).entry ∙ ap (entry_at ps) d in
          let among : 1 ≤ times (entry_at ps i) (children ps (entry_at ps m)) = omega (arith, rw (w ∙ z) at (of-child ps (small t) (entry_at ps i) here.inside)) in
          clash (sym e ∙ every_true (micro L ps) (children ps (entry_at ps m)) (jump-parts L ps (entry_at ps m) j).1 (entry_at ps i) among)
      child p q a (no d) j =
          let (x, y, w) = parent-some ps (entry_at ps i) p q in
          let n = macro-up ps (small t) t.tree L p (entry_at ps i) (ancestor-parent ps (small t) t.tree (entry_at ps i) p q) here.inside e in
          let s = quiet (position ps p) (omega (arith, (inside ps (small t) t.tree (entry_at ps m) p a).0, low.place)) (omega (arith, parent-before ps (small t) t.tree (entry_at ps i) p q, here.place)) in
          clash (sym n ∙ rw (located-of t p y).entry at s)

      first : (entry_at ps i ≡ entry_at ps m) ⊎ ((p : ℕ) × (parent ps (entry_at ps i) ≡ some p) × Ancestor ps (entry_at ps m) p) → jump_node L ps (entry_at ps m) ≡ true → ◌≡◌ {A = Bool} true false
      first (inl q) j = absurd (omega (arith, ap (position ps) q, low.place, here.place))
      first (inr (p, q, a)) j = child p q a (ℕ_discrete (position ps p) m) j

      go : (b : Bool) → jump_node L ps (entry_at ps m) ≡ b → b ≡ false
      go true j =
          let within = (interval ps (small t) t.tree (entry_at ps m) (entry_at ps i) low.inside here.inside).1 (omega (arith, low.place, here.place), omega (arith, low.place, here.place)) in
          first (ancestor-first ps (small t) t.tree (entry_at ps m) (entry_at ps i) within) j
      go false j = refl

-- what SIZE says of a position
module _ {ps : List ℕ} (t : OneTree ps) (i : ℕ) (h : i < length ps) (x : ℕ) (e : x ≡ size ps (entry_at ps i)) where
  pub size_small : x ≤ most_entries
  size_small = let few = t.few in omega (arith, few, e, family-room ps (small t) t.tree (entry_at ps i) (located-at t i h).inside)

  pub word-micro : x ≤ group_limit → micro group_limit ps (entry_at ps i) ≡ true
  word-micro b = size-micro group_limit ps (entry_at ps i) (omega arith)

  pub word-macro : group_limit < x → micro group_limit ps (entry_at ps i) ≡ false
  word-macro b = size-macro group_limit ps (entry_at ps i) (omega arith)

-- the last macro position before i
pub record LastMacro (ps : List ℕ) (L i last : ℕ) : Type 0 where
  pub before : last < i
  pub macro : micro L ps (entry_at ps last) ≡ false
  pub quiet : (k : ℕ) → last < k → k < i → micro L ps (entry_at ps k) ≡ true
  pub run : length (jumps_within L ps i) ≡ length (jumps_within L ps (last + 1))

-- a group starts at `root` and ends at `end`
pub record Group (ps : List ℕ) (L root end : ℕ) : Type 0 where
  pub starts : group_root L ps (entry_at ps root) ≡ true
  pub ends : end ≡ root + size ps (entry_at ps root)

-- position i is in that group, the last up to there
pub record OpenGroup (ps : List ℕ) (L i groups root end : ℕ) : Type 0 where
  pub group : Group ps L root end
  pub low : root ≤ i
  pub high : i < end
  pub groups-are : groups ≡ length (roots_within L ps (i + 1))
  pub ended : Ended L ps (i + 1) end

-- KIND of the entries at the first i positions, with the groups and with the jump entries before the last macro position
pub record KindsBefore (ps : List ℕ) (L i groups jumps root end last : ℕ) (cells : List ℕ) : Type 0 where
  pub groups-are : groups ≡ length (roots_within L ps i)
  pub jumps-are : jumps ≡ length (jumps_within L ps last)
  pub last-in : last ≤ i
  pub ended : Ended L ps i end
  pub reaching : i < end → (root < i) × Group ps L root end
  pub no-macro : micro L ps (entry_at ps 0) ≡ true → (last ≡ 0) × (length (jumps_within L ps i) ≡ 0)
  pub lasting : micro L ps (entry_at ps 0) ≡ false → 0 < i → LastMacro ps L i last
  pub kinds : Written ps (λ k. kind L ps (entry_at ps k)) i cells

pub kinds-none : (ps : List ℕ) (L : ℕ) (cells : List ℕ) → length cells ≡ length ps → KindsBefore ps L 0 0 0 0 0 0 cells
unfolding keep
kinds-none ps L cells room = record {
  groups-are = refl;
  jumps-are = refl;
  last-in = omega arith;
  ended = λ k b. absurd (omega arith);
  reaching = λ b. absurd (omega arith);
  no-macro = λ e. (refl, refl);
  lasting = λ e h. absurd (omega arith);
  kinds = written_none ps _ cells room;
}

module _ {ps : List ℕ} (t : OneTree ps) {L i groups jumps root end last : ℕ} {cells : List ℕ} (s : KindsBefore ps L i groups jumps root end last cells) where
  little : length ps ≤ top_mark
  little = small t

  module _ (h : i < length ps) where
    abbrev v : ℕ
    v = entry_at ps i

    here : Located ps i v
    here = located-at t i h

    ho : i < length (order ps)
    ho = omega (arith, order-many t)

    -- a micro entry changes no jump entries
    module _ (m : micro L ps v ≡ true) where
      same-jumps : length (jumps_within L ps (i + 1)) ≡ length (jumps_within L ps i)
      same-jumps = keep-count (jump_node L ps) (order ps) i ho ∙ rw (jump-not L ps v m) (omega arith)

      same-last : micro L ps (entry_at ps 0) ≡ false → Dec (0 < i) → LastMacro ps L (i + 1) last
      same-last e (no b) = let z : i ≡ 0 = omega arith in clash (sym e ∙ ap (λ j. micro L ps (entry_at ps j)) (sym z) ∙ m)
      same-last e (yes b) =
          let o = s.lasting e b in
          record {
            before = omega (arith, o.before);
            macro = o.macro;
            quiet = λ k a c. below_more (λ k. last < k → micro L ps (entry_at ps k) ≡ true) i (λ k c a. o.quiet k a c) (λ a. m) k c a;
            run = same-jumps ∙ o.run;
          }

    -- a micro entry past the last group starts the next, and one before its end is in it
    pub group-opens : micro L ps v ≡ true → end ≤ i → (x : ℕ) → x ≡ size ps v → OpenGroup ps L i (groups + 1) i (i + x)
    group-opens m b x q =
        let e = root-next t L i end h s.ended b m in
        record {
          group = record { starts = e; ends = omega arith };
          low = omega arith;
          high = omega (arith, ((interval ps little t.tree v v here.inside here.inside).0 (ancestor-self ps little t.tree v here.inside)).1);
          groups-are = rw (keep-count (group_root L ps) (order ps) i ho, e) (omega (arith, s.groups-are));
          ended = rw q (ended-root t L i end b s.ended);
        }

    pub group-goes-on : i < end → OpenGroup ps L i groups root end
    group-goes-on b =
        let (low, o) = s.reaching b in
        let e = root_none t L root i h (omega arith) (omega (arith, o.ends)) o.starts low in
        record {
          group = o;
          low = omega arith;
          high = b;
          groups-are = rw (keep-count (group_root L ps) (order ps) i ho, e) (omega (arith, s.groups-are));
          ended = ended_same t L i end e s.ended;
        }

    -- a micro entry, in a group
    module _ {groups₁ root₁ end₁ : ℕ} (o : OpenGroup ps L i groups₁ root₁ end₁) where
      abbrev r : ℕ
      r = entry_at ps root₁

      under : Ancestor ps r v
      under = in-family t L root₁ i h o.low (omega (arith, o.high, o.group.ends))

      member : Grouped L ps v r (length (roots_within L ps (position ps r))) (i - root₁)
      member = grouped-under ps little t.tree L r v (i - root₁) o.group.starts under (omega (arith, here.place, o.low, (located-at t root₁ (omega (arith, h, o.low))).place))

      numbered : suc (length (roots_within L ps (position ps r))) ≡ groups₁
      numbered = member.upto ∙ ap (λ j. length (roots_within L ps (suc j))) here.place ∙ rw (← add-one i) (sym o.groups-are)

      pub open-some : 1 ≤ groups₁
      open-some = omega (arith, numbered)

      pub open-few : groups₁ ≤ i + 1
      open-few = omega (arith, o.groups-are, keep-few (group_root L ps) (order ps) (i + 1))

      inner : micro L ps v ≡ true
      inner = micro-down ps little t.tree L r v under (root-micro L ps r o.group.starts)

      pub kinds-micro : (w x : ℕ) → w ≡ v → x ≡ micro_mark + 8 * (groups₁ - 1) + (i - root₁) → KindsBefore ps L (i + 1) groups₁ jumps root₁ end₁ last (set cells w x)
      unfolding kind
      kinds-micro w x e q = record {
        groups-are = o.groups-are;
        jumps-are = s.jumps-are;
        last-in = omega (arith, s.last-in);
        ended = o.ended;
        reaching = λ b. (omega (arith, o.low), o.group);
        no-macro = λ f. ((s.no-macro f).0, same-jumps inner ∙ (s.no-macro f).1);
        lasting = λ f b. same-last inner f (dec_lt 0 i);
        kinds = written-more t s.kinds h w e x (q ∙ sym (rw inner (omega (arith, member.kinded, numbered))));
      }

    -- a macro entry
    module _ (m : micro L ps v ≡ false) where
      top-macro : micro L ps (entry_at ps 0) ≡ false
      top-macro = macro-up ps little t.tree L (entry_at ps 0) v (root-above-all t L v here.inside) here.inside m

      pub kinds-macro : (w x : ℕ) → w ≡ v → x ≡ length (jumps_within L ps i) → KindsBefore ps L (i + 1) groups x root end i (set cells w x)
      unfolding kind
      kinds-macro w x e q = record {
        groups-are = rw (keep-count (group_root L ps) (order ps) i ho, macro-none L ps v m) (omega (arith, s.groups-are));
        jumps-are = q;
        last-in = omega arith;
        ended = ended_same t L i end (macro-none L ps v m) s.ended;
        reaching = λ b. let (low, o) = s.reaching (omega arith) in (omega arith, o);
        no-macro = λ f. clash (sym top-macro ∙ f);
        lasting = λ f b. record { before = omega arith; macro = m; quiet = λ k a c. absurd (omega arith); run = refl };
        kinds = written-more t s.kinds h w e x (q ∙ sym (rw m (macro-kind ps little t.tree L v here.inside m ∙ ap (λ j. length (jumps_within L ps j)) here.place)));
      }

      before_last : LastMacro ps L i last → length (jumps_within L ps i) ≡ jumps + one (jump_node L ps (entry_at ps last))
      before_last o = o.run ∙ keep-count (jump_node L ps) (order ps) last (omega (arith, o.before, ho)) ∙ omega (arith, s.jumps-are)

      -- past the family of the last one, or in it
      pub jumps-past : last + size ps (entry_at ps last) ≤ i → jumps + 1 ≡ length (jumps_within L ps i)
      jumps-past b = go (dec_lt 0 i)
        where
          go : Dec (0 < i) → jumps + 1 ≡ length (jumps_within L ps i)
          go (no n) = absurd (omega (arith, s.last-in))
          go (yes n) =
              let o = s.lasting top-macro n in
              sym (before_last o ∙ rw (jump-alone t L last i (omega (arith, h, o.before)) b o.macro o.quiet))

      pub jumps-within : i < last + size ps (entry_at ps last) → jumps ≡ length (jumps_within L ps i)
      jumps-within b = go (dec_lt 0 i)
        where
          go : Dec (0 < i) → jumps ≡ length (jumps_within L ps i)
          go (no n) = let z : last ≡ i = omega (arith, s.last-in) in s.jumps-are ∙ ap (λ j. length (jumps_within L ps j)) z
          go (yes n) =
              let o = s.lasting top-macro n in
              sym (before_last o ∙ rw (jump-left t L last i o.before h b m o.quiet) (omega arith))

  -- at the end
  module _ (is : i ≡ length ps) where
    whole : take i (order ps) ≡ order ps
    whole = take_all i (order ps) (omega (arith, order-many t))

    pub groups-all : groups ≡ length (group_roots L ps)
    groups-all = s.groups-are ∙ ap (λ l. length (keep (group_root L ps) l)) whole

    pub jumps-zero : micro L ps (entry_at ps 0) ≡ true → jumps ≡ length (jump_nodes L ps)
    unfolding keep
    jumps-zero e =
        let (z, q) = s.no-macro e in
        s.jumps-are ∙ ap (λ j. length (jumps_within L ps j)) z ∙ sym (sym (ap (λ l. length (keep (jump_node L ps) l)) whole) ∙ q)

    pub jumps-end : micro L ps (entry_at ps 0) ≡ false → jumps + 1 ≡ length (jump_nodes L ps)
    jumps-end e =
        let o = s.lasting e (omega (arith, entries-some t)) in
        let low = located-at t last (omega (arith, o.before)) in
        let b : last + size ps (entry_at ps last) ≤ i = omega (arith, low.place, family-room ps little t.tree (entry_at ps last) low.inside) in
        let q : length (jumps_within L ps i) ≡ jumps + 1 = o.run ∙ keep-count (jump_node L ps) (order ps) last (omega (arith, low.low, order-many t)) ∙ rw (jump-alone t L last i low.low b o.macro o.quiet) (omega (arith, s.jumps-are)) in
        sym q ∙ ap (λ l. length (keep (jump_node L ps) l)) whole

    pub kinds-end : cells ≡ below (length ps) (kind L ps)
    kinds-end = written_all t s.kinds (omega arith) (kind L ps) (λ v h. ap (kind L ps) (located-of t v h).entry)
