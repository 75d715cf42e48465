-- Laws of `specs/Texts`: a line more, and the bands of a sheet without a bad line, which are such as a line may state. Assumes nothing.
use mathlib.Core.Path.{◌≡◌, refl, sym, ap, ◌∙◌}
use mathlib.Core.List.{List, [], ◌∷◌, ◌++◌}
use mathlib.Core.Bool.{Bool, true, false, cond}
use mathlib.Core.Option.{Option, none, some, Option-elim, bind, none-ne-some, some-injective}
use Prim.Native.Nat.{ℕ, suc}
use lib.ListN.{length}
use lib.Dec.{leb}
use Rattle.base.specs.Lists.{every}
use Rattle.base.specs.Amounts.{most_lines}
use Rattle.base.proofs.Lists.{clash}
use Rattle.bands.specs.Bands.{Band, is_band}
use Rattle.lines.specs.Text.{line_feed}
use Rattle.lines.specs.Fields.{parted}
use Rattle.lines.specs.Bands.{band_line}
use Rattle.lines.proofs.Digits.{every_more}
use Rattle.sheets.specs.Texts.{Sheet, bad, whole, line_band, reading, sheet_of, bands_in}

is_whole : Sheet → Bool
is_whole (bad k) = false
is_whole (whole bs) = true

pub bad-whole : {A : Type 0} (k : ℕ) (bs : List Band) → bad k ≡ whole bs → A
unfolding is_whole
bad-whole k bs e = clash (ap is_whole e)

module _ (depths : List ℕ) (d : ℕ) where
  pub reading-line : (bs : List Band) (l m : List ℕ) (ls : List (List ℕ))
      → reading depths d bs (l ∷ m ∷ ls) ≡ Option-elim (line_band depths d (suc (length bs)) l) (bad (suc (length bs))) (λ b. reading depths d (bs ++ (b ∷ [])) (m ∷ ls))
  unfolding reading
  reading-line bs [] m ls = refl
  reading-line bs (x ∷ l) m ls = refl

  line-sound : (k : ℕ) (line : List ℕ) (b : Band) → line_band depths d k line ≡ some b → is_band depths d b ≡ true
  unfolding line_band bind
  line-sound k line b e = few (leb k most_lines) e
    where
      fair : (x : Band) (t : Bool) → is_band depths d x ≡ t → cond t (some x) none ≡ some b → is_band depths d b ≡ true
      fair x true q e = ap (is_band depths d) (sym (some-injective x b e)) ∙ q
      fair x false q e = absurd (none-ne-some b e)

      form : (o : Option Band) → bind o (λ x. cond (is_band depths d x) (some x) none) ≡ some b → is_band depths d b ≡ true
      form none e = absurd (none-ne-some b e)
      form (some x) e = fair x (is_band depths d x) refl e

      few : (t : Bool) → cond t (bind (band_line line) (λ x. cond (is_band depths d x) (some x) none)) none ≡ some b → is_band depths d b ≡ true
      few true e = form (band_line line) e
      few false e = absurd (none-ne-some b e)

  reading-sound : (ls : List (List ℕ)) (bs cs : List Band) → every (is_band depths d) bs ≡ true → reading depths d bs ls ≡ whole cs → every (is_band depths d) cs ≡ true
  unfolding reading Option-elim
  reading-sound [] bs cs h e = ap (every (is_band depths d)) (sym (ap bands_in e)) ∙ h
  reading-sound ([] ∷ []) bs cs h e = ap (every (is_band depths d)) (sym (ap bands_in e)) ∙ h
  reading-sound ((x ∷ l) ∷ []) bs cs h e = bad-whole (suc (length bs)) cs e
  reading-sound (l ∷ m ∷ ls) bs cs h e = go (line_band depths d (suc (length bs)) l) refl (sym (reading-line bs l m ls) ∙ e) (λ b. reading-sound (m ∷ ls) (bs ++ (b ∷ [])) cs)
    where
      go : (o : Option Band) → line_band depths d (suc (length bs)) l ≡ o → Option-elim o (bad (suc (length bs))) (λ b. reading depths d (bs ++ (b ∷ [])) (m ∷ ls)) ≡ whole cs
          → ((b : Band) → every (is_band depths d) (bs ++ (b ∷ [])) ≡ true → reading depths d (bs ++ (b ∷ [])) (m ∷ ls) ≡ whole cs → every (is_band depths d) cs ≡ true) → every (is_band depths d) cs ≡ true
      go none q e ih = bad-whole (suc (length bs)) cs e
      go (some b) q e ih = ih b (every_more (is_band depths d) bs b h (line-sound (suc (length bs)) l b q)) e

  pub whole-sound : (text : List ℕ) (bs : List Band) → sheet_of depths d text ≡ whole bs → every (is_band depths d) bs ≡ true
  unfolding sheet_of every
  whole-sound text bs e = reading-sound (parted line_feed text) [] bs refl e
