-- Of sheets that are one under a renumbering the check accepts one just where it accepts the other. Assumes nothing.
use mathlib.Core.Path.{◌≡◌, refl, sym, ap, ◌∙◌}
use mathlib.Core.List.{List, [], ◌∷◌, ◌++◌, append-nil, append_assoc}
use mathlib.Core.Bool.{Bool, true, false, not, cond, ◌&&◌}
use mathlib.Core.Option.{Option, none, some, map, Option-elim, bind, bind-eq-some_iff, map-eq-some_iff, none-ne-some, some-injective}
use Prim.Native.Nat.{ℕ, suc, ◌+◌, ◌≤◌}
use native.Mathlib.Omega.{arith}
use lib.ListN.{length, length-append}
use lib.Dec.{leb}
use borrow.Author.Tests.{le-leb, leb-true}
use Rattle.base.specs.Lists.{every}
use Rattle.base.specs.Amounts.{most_lines, most_sum, most_rate}
use Rattle.base.proofs.Lists.{same_truth}
use Rattle.base.proofs.Filters.{every-both}
use Rattle.base.proofs.Counting.{none-fails, fails-none, count-all}
use Rattle.bands.specs.Bands.{Band, is_class, is_band, covers}
use Rattle.lines.specs.Text.{line_feed}
use Rattle.lines.specs.Fields.{parted}
use Rattle.lines.specs.Bands.{band_line}
use Rattle.sheets.specs.Texts.{bad, whole, line_band, reading, sheet_of, bands_in}
use Rattle.sheets.specs.Verdicts.{depths_of, Good}
use Rattle.sheets.proofs.Theorems.{covered-iff}
use Rattle.sheets.proofs.Readings.{reading-line, bad-whole, whole-sound}
use Rattle.renumbering.specs.Numbering.{Renumbered}
use Rattle.renumbering.specs.Sheets.{stated_by, stated, renumbered, SameSheets}
use Rattle.renumbering.proofs.Numbers.{old-in, new-old, way_back}
use Rattle.renumbering.proofs.Climbs.{new_in, depth-new}
use Rattle.renumbering.proofs.Bands.{count-renumbered, covers_new, same_back}

-- a text whose lines state bands: it is a sheet of these, where each is one that a line may state and they are no more than a sheet may have
pub stated-line : (l m : List ℕ) (ls : List (List ℕ)) → stated_by (l ∷ m ∷ ls) ≡ bind (band_line l) (λ b. map (◌∷◌ b) (stated_by (m ∷ ls)))
unfolding stated_by
stated-line [] m ls = refl
stated-line (x ∷ l) m ls = refl

stated-cons : (l m : List ℕ) (ls : List (List ℕ)) (cs : List Band) → stated_by (l ∷ m ∷ ls) ≡ some cs → (b : Band) × (ds : List Band) × (band_line l ≡ some b) × (stated_by (m ∷ ls) ≡ some ds) × (b ∷ ds ≡ cs)
stated-cons l m ls cs q =
    let (b, p, s) = (bind-eq-some_iff (band_line l) (λ b. map (◌∷◌ b) (stated_by (m ∷ ls)))).0 (sym (stated-line l m ls) ∙ q) in
    let (ds, t, z) = (map-eq-some_iff (◌∷◌ b) (stated_by (m ∷ ls))).0 s in
    (b, ds, p, t, z)

module _ (depths : List ℕ) (d : ℕ) where
  line-stated : (k : ℕ) (l : List ℕ) (b : Band) → band_line l ≡ some b → line_band depths d k l ≡ cond (leb k most_lines) (cond (is_band depths d b) (some b) none) none
  unfolding line_band bind
  line-stated k l b e = rw e

  reading-stated : (bs : List Band) (l m : List ℕ) (ls : List (List ℕ)) (b : Band) → band_line l ≡ some b
      → reading depths d bs (l ∷ m ∷ ls) ≡ Option-elim (cond (leb (suc (length bs)) most_lines) (cond (is_band depths d b) (some b) none) none) (bad (suc (length bs))) (λ x. reading depths d (bs ++ (x ∷ [])) (m ∷ ls))
  reading-stated bs l m ls b e = reading-line depths d bs l m ls ∙ ap (λ o. Option-elim o (bad (suc (length bs))) (λ x. reading depths d (bs ++ (x ∷ [])) (m ∷ ls))) (line-stated (suc (length bs)) l b e)

  line-unstated : (k : ℕ) (l : List ℕ) → band_line l ≡ none → line_band depths d k l ≡ none
  unfolding line_band bind
  line-unstated k l e = rw e (go (leb k most_lines))
    where
      go : (t : Bool) → ◌≡◌ {A = Option Band} (cond t none none) none
      go true = refl
      go false = refl

  -- the bands of a sheet without a bad line are those that its lines state
  abbrev Stated : List (List ℕ) → List Band → List Band → Type 0
  Stated ls bs ws = (cs : List Band) × (stated_by ls ≡ some cs) × (ws ≡ bs ++ cs) × (length ws ≤ most_lines)

  ended : (ls : List (List ℕ)) (bs ws : List Band) → stated_by ls ≡ some [] → length bs ≤ most_lines → whole bs ≡ whole ws → Stated ls bs ws
  ended ls bs ws q few e = let z : bs ≡ ws = ap bands_in e in ([], q, sym z ∙ sym (append-nil bs), omega (arith, ap length z))

  whole-stated : (ls : List (List ℕ)) (bs ws : List Band) → length bs ≤ most_lines → reading depths d bs ls ≡ whole ws → Stated ls bs ws
  unfolding stated_by reading Option-elim bind
  whole-stated [] bs ws few e = ended [] bs ws refl few e
  whole-stated ([] ∷ []) bs ws few e = ended ([] ∷ []) bs ws refl few e
  whole-stated ((x ∷ l) ∷ []) bs ws few e = bad-whole (suc (length bs)) ws e
  whole-stated (l ∷ m ∷ ls) bs ws few e = line (band_line l) refl (λ b. whole-stated (m ∷ ls) (bs ++ (b ∷ [])) ws)
    where
      read : (b : Band) → band_line l ≡ some b → (room : Bool) → leb (suc (length bs)) most_lines ≡ room → (fair : Bool)
          → Option-elim (cond room (cond fair (some b) none) none) (bad (suc (length bs))) (λ x. reading depths d (bs ++ (x ∷ [])) (m ∷ ls)) ≡ whole ws
          → (length (bs ++ (b ∷ [])) ≤ most_lines → reading depths d (bs ++ (b ∷ [])) (m ∷ ls) ≡ whole ws → Stated (m ∷ ls) (bs ++ (b ∷ [])) ws) → Stated (l ∷ m ∷ ls) bs ws
      read b p true r true e ih =
          let (cs, q, z, most) = ih (omega (arith, length-append bs (b ∷ []), leb-true (suc (length bs)) most_lines r)) e in
          (b ∷ cs, stated-line l m ls ∙ rw (p, q), z ∙ append_assoc bs (b ∷ []) cs, most)
      read b p true r false e ih = bad-whole (suc (length bs)) ws e
      read b p false r fair e ih = bad-whole (suc (length bs)) ws e

      line : (o : Option Band) → band_line l ≡ o → ((b : Band) → length (bs ++ (b ∷ [])) ≤ most_lines → reading depths d (bs ++ (b ∷ [])) (m ∷ ls) ≡ whole ws → Stated (m ∷ ls) (bs ++ (b ∷ [])) ws) → Stated (l ∷ m ∷ ls) bs ws
      line none p ih = bad-whole (suc (length bs)) ws (sym (reading-line depths d bs l m ls ∙ rw (line-unstated (suc (length bs)) l p)) ∙ e)
      line (some b) p ih = read b p (leb (suc (length bs)) most_lines) refl (is_band depths d b) (sym (reading-stated bs l m ls b p) ∙ e) (ih b)

  stated-whole : (ls : List (List ℕ)) (bs cs : List Band) → stated_by ls ≡ some cs → every (is_band depths d) cs ≡ true → length bs + length cs ≤ most_lines → reading depths d bs ls ≡ whole (bs ++ cs)
  unfolding stated_by reading Option-elim
  stated-whole [] bs cs q sound few = ap whole (sym (append-nil bs) ∙ ap (◌++◌ bs) (some-injective [] cs q))
  stated-whole ([] ∷ []) bs cs q sound few = ap whole (sym (append-nil bs) ∙ ap (◌++◌ bs) (some-injective [] cs q))
  stated-whole ((x ∷ l) ∷ []) bs cs q sound few = absurd (none-ne-some cs q)
  stated-whole (l ∷ m ∷ ls) bs cs q sound few =
      let (b, ds, p, t, z) = stated-cons l m ls cs q in
      let (fair, rest) = every-both (is_band depths d) b ds (ap (every (is_band depths d)) z ∙ sound) in
      let room : length bs + suc (length ds) ≤ most_lines = omega (arith, ap length z) in
      let kept : cond (leb (suc (length bs)) most_lines) (cond (is_band depths d b) (some b) none) none ≡ some b = rw (le-leb (suc (length bs)) most_lines (omega arith), fair) in
      reading-stated bs l m ls b p
      ∙ ap (λ o. Option-elim o (bad (suc (length bs))) (λ x. reading depths d (bs ++ (x ∷ [])) (m ∷ ls))) kept
      ∙ stated-whole (m ∷ ls) (bs ++ (b ∷ [])) ds t rest (omega (arith, length-append bs (b ∷ [])))
      ∙ ap whole (append_assoc bs (b ∷ []) ds ∙ ap (◌++◌ bs) z)

  pub good-states : (text : List ℕ) (g : Good depths d text) → (stated text ≡ some g.bands) × (length g.bands ≤ most_lines)
  unfolding stated sheet_of
  good-states text g = let (cs, q, z, few) = whole-stated (parted line_feed text) [] g.bands (omega arith) g.lines in (q ∙ ap some (sym z), few)

  pub good-stated : (text : List ℕ) (cs : List Band) → stated text ≡ some cs → (g : Good depths d text) → (g.bands ≡ cs) × (every (is_band depths d) cs ≡ true) × (length cs ≤ most_lines)
  good-stated text cs q g =
      let (p, few) = good-states text g in
      let z : g.bands ≡ cs = some-injective g.bands cs (sym p ∙ q) in
      (z, ap (every (is_band depths d)) (sym z) ∙ whole-sound depths d text g.bands g.lines, omega (arith, ap length z))

  stated-sheet : (text : List ℕ) (cs : List Band) → stated text ≡ some cs → every (is_band depths d) cs ≡ true → length cs ≤ most_lines → sheet_of depths d text ≡ whole cs
  unfolding stated sheet_of
  stated-sheet text cs q sound few = stated-whole (parted line_feed text) [] cs q sound (omega arith)

module _ (r : ℕ → ℕ) (ps qs : List ℕ) (e : Renumbered r ps qs) (d : ℕ) where
  -- an entry is to be covered just where its new number is
  pub class-new : (c : ℕ) → is_class (depths_of qs) d (r c) ≡ is_class (depths_of ps) d c
  class-new c = same_truth _ _ (
    λ t.
        let (h, low) = (covered-iff qs d (r c)).0 t in
        (covered-iff ps d c).1 (old-in (length ps) r e.numbers c (omega (arith, e.size)), omega (arith, depth-new r ps qs e c)),
    λ t.
        let (h, low) = (covered-iff ps d c).0 t in
        (covered-iff qs d (r c)).1 (new_in r ps qs e c h, omega (arith, depth-new r ps qs e c)),
  )

  sound-new : (b : Band) → is_band (depths_of qs) d (renumbered r b) ≡ is_band (depths_of ps) d b
  unfolding is_band
  sound-new b = ap (λ t. t && (leb b.from b.to && (leb b.to most_sum && leb b.rate most_rate))) (class-new b.class)

  module _ (text other : List ℕ) (s : SameSheets r text other) (g : Good (depths_of ps) d text) where
    bands-stated : g.bands ≡ s.bands
    bands-stated = (good-stated (depths_of ps) d text s.bands s.states g).0

    others-sound : every (is_band (depths_of qs) d) s.other-bands ≡ true
    others-sound =
        fails-none (is_band (depths_of qs) d) s.other-bands
        (s.alike (λ b. not (is_band (depths_of qs) d b))
        ∙ count-renumbered r (λ b. not (is_band (depths_of qs) d b)) (λ b. not (is_band (depths_of ps) d b)) (λ b. ap not (sound-new b)) s.bands
        ∙ none-fails (is_band (depths_of ps) d) s.bands (good-stated (depths_of ps) d text s.bands s.states g).1)

    others-few : length s.other-bands ≤ most_lines
    others-few =
        let all = s.alike (λ b. true) ∙ count-renumbered r (λ b. true) (λ b. true) (λ b. refl) s.bands in
        omega (arith, all, count-all s.bands, count-all s.other-bands, (good-stated (depths_of ps) d text s.bands s.states g).2)

    others-once : (c : ℕ) → is_class (depths_of qs) d c ≡ true → (a : ℕ) → a ≤ most_sum → covers s.other-bands c a ≡ 1
    others-once c own a h =
        let v : ℕ = way_back r ps qs e c in
        let back = new-old (length ps) r e.numbers c in
        ap (λ x. covers s.other-bands x a) (sym back)
        ∙ covers_new (length ps) r e.numbers s.bands s.other-bands s.alike v a
        ∙ ap (λ l. covers l v a) (sym bands-stated)
        ∙ g.once.once v (sym (class-new v) ∙ ap (is_class (depths_of qs) d) back ∙ own) a h

    pub good_new : Good (depths_of qs) d other
    good_new = record {
      bands = s.other-bands;
      lines = stated-sheet (depths_of qs) d other s.other-bands s.other-states others-sound others-few;
      once = record { once = others-once };
    }

-- one sheet both ways
pub sheets-back : (r : ℕ → ℕ) (ps qs : List ℕ) (e : Renumbered r ps qs) (text other : List ℕ) → SameSheets r text other → SameSheets (way_back r ps qs e) other text
sheets-back r ps qs e text other s = record {
  bands = s.other-bands;
  other-bands = s.bands;
  states = s.other-states;
  other-states = s.states;
  alike = same_back (length ps) r e.numbers s.bands s.other-bands s.alike;
}
