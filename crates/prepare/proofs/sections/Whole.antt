-- The sections of a table, put together. Assumes nothing.
use mathlib.Core.Path.{◌≡◌, refl, sym, ap, ◌∙◌}
use mathlib.Core.Logic.{◌⊎◌, inl, inr, ⊎_elim}
use mathlib.Core.List.{List, ◌++◌}
use Prim.Native.Nat.{ℕ, ◌+◌, ◌*◌, ◌≤◌}
use native.Mathlib.Omega.{arith}
use lib.ListN.{length, take, drop}
use lib.Seq.{take_at, drop_at, drop-drop}
use Rattle.base.specs.Lists.{below, view, put}
use Rattle.base.specs.Limits.{group_limit, jump_room, record_words, table_words}
use Rattle.base.proofs.Lists.{each-length}
use Rattle.base.proofs.Puts.{view-join, view-all, Apart, stays}
use Rattle.tree.specs.Parents.{depth}
use Rattle.tree.specs.Forest.{size, order, position}
use Rattle.table.specs.Ladders.{lad_pos}
use Rattle.table.specs.Groups.{kind}
use Rattle.table.specs.Table.{header, entry_sections, laid_sections, ladder_cells, group_cells, jump_cells, table_of}
use Rattle.climbs.proofs.SectionLengths.{ladder-cells-length, group-cells-length}
use Rattle.prepare.specs.Arrays.{OneTree, kinds_of}
use Rattle.prepare.specs.Stages.{Familied, Laddered, Sectioned}
use Rattle.prepare.proofs.Preorder.{small, order-many}

-- two parts side by side
piece : (a b c d e : ℕ) (l x y : List ℕ) → a + c ≡ b → c + d ≡ e → view a c l ≡ x → view b d l ≡ y → view a e l ≡ x ++ y
piece a b c d e l x y p q f g =
    ap (λ k. view a k l) (sym q) ∙ view-join a c d l ∙ ap (λ z. z ++ view (a + c) d l) f ∙ ap (λ z. x ++ z) (ap (λ k. view k d l) p ∙ g)

-- the words of a first part, and those of what stands behind it
first : (c : ℕ) (x y : List ℕ) → length x ≡ c → view 0 c (x ++ y) ≡ x
unfolding view
first c x y e = take_at x y c e

past : (b c a : ℕ) (x y : List ℕ) {g : ℕ} {z : List ℕ} → length x ≡ a → g ≡ a + b → view b c y ≡ z → view g c (x ++ y) ≡ z
unfolding view
past b c a x y e q f =
    rw q (ap (take c) (sym (drop-drop b a (x ++ y)) ∙ ap (drop b) (drop_at x y a e)) ∙ f)

module _ (ps : List ℕ) where
  abbrev n : ℕ
  n = length ps

  module _ (t : List ℕ) (a : ℕ) (x : List ℕ) (fits : a + length x ≤ length t) where
    pub familied-put : Apart a (length x) (4 + n) n → Apart a (length x) (4 + 5 * n) n → Apart a (length x) (4 + 8 * n) (3 * n) → Familied ps t → Familied ps (put t a x)
    familied-put p q r f = record {
      kinds = stays t a x fits (4 + n) n p ∙ f.kinds;
      sizes = stays t a x fits (4 + 5 * n) n q ∙ f.sizes;
      groups = stays t a x fits (4 + 8 * n) (3 * n) r ∙ f.groups;
    }

    pub laddered-put : Apart a (length x) (4 + 2 * n) n → Apart a (length x) (4 + 6 * n) (2 * n) → Laddered ps t → Laddered ps (put t a x)
    laddered-put p q f = record {
      places = stays t a x fits (4 + 2 * n) n p ∙ f.places;
      rungs = stays t a x fits (4 + 6 * n) (2 * n) q ∙ f.rungs;
    }

    -- JUMPS and the header leave the sections between them
    pub sectioned-put : (4 + 11 * n ≤ a) ⊎ (a + length x ≤ 4) → Sectioned ps t → Sectioned ps (put t a x)
    sectioned-put o s = record {
      families = familied-put (apart (4 + n) n (omega arith) (omega arith)) (apart (4 + 5 * n) n (omega arith) (omega arith)) (apart (4 + 8 * n) (3 * n) (omega arith) (omega arith)) s.families;
      paths = laddered-put (apart (4 + 2 * n) n (omega arith) (omega arith)) (apart (4 + 6 * n) (2 * n) (omega arith) (omega arith)) s.paths;
      depths = stays t a x fits 4 n (apart 4 n (omega arith) (omega arith)) ∙ s.depths;
      orders = stays t a x fits (4 + 3 * n) n (apart (4 + 3 * n) n (omega arith) (omega arith)) ∙ s.orders;
      pres = stays t a x fits (4 + 4 * n) n (apart (4 + 4 * n) n (omega arith) (omega arith)) ∙ s.pres;
    }
      where
        apart : (b c : ℕ) → 4 ≤ b → b + c ≤ 4 + 11 * n → Apart a (length x) b c
        apart b c h k = ⊎_elim (λ p. inl (omega arith)) (λ p. inr (omega arith)) o

  -- the sections side by side, behind four words
  pub sectioned : (h d k l o p z e g r : List ℕ) → OneTree ps → length h ≡ 4 → d ≡ below n (depth ps) → k ≡ kinds_of ps → l ≡ below n (lad_pos ps) → o ≡ order ps → p ≡ below n (position ps)
      → z ≡ below n (size ps) → e ≡ ladder_cells ps → g ≡ group_cells ps → Sectioned ps (h ++ (d ++ (k ++ (l ++ (o ++ (p ++ (z ++ (e ++ (g ++ r)))))))))
  sectioned h d k l o p z e g r one lh ed ek el eo ep ez ee eg =
      let ld : length d ≡ n = ap length ed ∙ each-length n 0 (depth ps) in
      let lk : length k ≡ n = ap length ek ∙ each-length n 0 (kind group_limit ps) in
      let ll : length l ≡ n = ap length el ∙ each-length n 0 (lad_pos ps) in
      let lo : length o ≡ n = ap length eo ∙ order-many one in
      let lp : length p ≡ n = ap length ep ∙ each-length n 0 (position ps) in
      let lz : length z ≡ n = ap length ez ∙ each-length n 0 (size ps) in
      let le : length e ≡ 2 * n = ap length ee ∙ ladder-cells-length ps (small one) one.tree in
      let lg : length g ≡ 3 * n = ap length eg ∙ group-cells-length ps (small one) one.tree in
      record {
        families = record {
          kinds = past n n 4 h _ lh (omega arith) (past 0 n n d _ ld (omega arith) (first n k _ lk)) ∙ ek;
          sizes = past (5 * n) n 4 h _ lh (omega arith) (past (4 * n) n n d _ ld (omega arith) (past (3 * n) n n k _ lk (omega arith) (past (2 * n) n n l _ ll (omega arith) (past n n n o _ lo (omega arith) (past 0 n n p _ lp (omega arith) (first n z _ lz)))))) ∙ ez;
          groups = past (8 * n) (3 * n) 4 h _ lh (omega arith) (past (7 * n) (3 * n) n d _ ld (omega arith) (past (6 * n) (3 * n) n k _ lk (omega arith) (past (5 * n) (3 * n) n l _ ll (omega arith) (past (4 * n) (3 * n) n o _ lo (omega arith) (past (3 * n) (3 * n) n p _ lp (omega arith) (past (2 * n) (3 * n) n z _ lz (omega arith) (past 0 (3 * n) (2 * n) e _ le (omega arith) (first (3 * n) g _ lg)))))))) ∙ eg;
        };
        paths = record {
          places = past (2 * n) n 4 h _ lh (omega arith) (past n n n d _ ld (omega arith) (past 0 n n k _ lk (omega arith) (first n l _ ll))) ∙ el;
          rungs = past (6 * n) (2 * n) 4 h _ lh (omega arith) (past (5 * n) (2 * n) n d _ ld (omega arith) (past (4 * n) (2 * n) n k _ lk (omega arith) (past (3 * n) (2 * n) n l _ ll (omega arith) (past (2 * n) (2 * n) n o _ lo (omega arith) (past n (2 * n) n p _ lp (omega arith) (past 0 (2 * n) n z _ lz (omega arith) (first (2 * n) e _ le))))))) ∙ ee;
        };
        depths = past 0 n 4 h _ lh (omega arith) (first n d _ ld) ∙ ed;
        orders = past (3 * n) n 4 h _ lh (omega arith) (past (2 * n) n n d _ ld (omega arith) (past n n n k _ lk (omega arith) (past 0 n n l _ ll (omega arith) (first n o _ lo)))) ∙ eo;
        pres = past (4 * n) n 4 h _ lh (omega arith) (past (3 * n) n n d _ ld (omega arith) (past (2 * n) n n k _ lk (omega arith) (past n n n l _ ll (omega arith) (past 0 n n o _ lo (omega arith) (first n p _ lp))))) ∙ ep;
      }

  module _ {t : List ℕ} (s : Sectioned ps t) (long : length t ≡ table_words n) where
    -- the whole, once JUMPS and the header stand
    pub whole-table : view (4 + 11 * n) (record_words * jump_room (n)) t ≡ jump_cells ps → view 0 4 t ≡ header ps → t ≡ table_of ps
    unfolding table_of entry_sections laid_sections
    whole-table j h =
        let m = record_words * jump_room (n) in
        let laid =
        piece (4 + 6 * n) (4 + 8 * n) (2 * n) (3 * n + m) (5 * n + m) t _ _ (omega arith) (omega arith) s.paths.rungs
        (piece (4 + 8 * n) (4 + 11 * n) (3 * n) m (3 * n + m) t _ _ (omega arith) refl s.families.groups j) in
        let entries =
        piece 4 (4 + n) (n) (5 * n) (6 * n) t _ _ (omega arith) (omega arith) s.depths
        (piece (4 + n) (4 + 2 * n) (n) (4 * n) (5 * n) t _ _ (omega arith) (omega arith) s.families.kinds
        (piece (4 + 2 * n) (4 + 3 * n) (n) (3 * n) (4 * n) t _ _ (omega arith) (omega arith) s.paths.places
        (piece (4 + 3 * n) (4 + 4 * n) (n) (2 * n) (3 * n) t _ _ (omega arith) (omega arith) s.orders
        (piece (4 + 4 * n) (4 + 5 * n) (n) (n) (2 * n) t _ _ (omega arith) (omega arith) s.pres s.families.sizes)))) in
        sym (view-all (table_words (n)) t long)
        ∙ piece 0 4 4 (11 * n + m) (table_words (n)) t _ _ refl (omega arith) h (piece 4 (4 + 6 * n) (6 * n) (5 * n + m) (11 * n + m) t _ _ (omega arith) (omega arith) entries laid)
