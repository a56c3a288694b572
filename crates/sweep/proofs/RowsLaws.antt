-- The rows of a pair, one after the other: the first leaves what the second is made of. And what stands in the plane and in the samples once they
-- are stored.
-- Assumes nothing.
use mathlib.Core.Path.{◌≡◌, ap, ◌∙◌, sym}
use mathlib.Core.Bool.{Bool, true, false}
use mathlib.Core.List.{List, map}
use mathlib.Core.Logic.{◌≢◌}
use Prim.Native.Nat.{ℕ, ◌+◌, ◌*◌, ◌≤◌, ◌<◌}
use native.Mathlib.Decide.{dec_lt}
use native.Mathlib.Omega.{arith}
use lib.IntN.{ℤ, pos}
use lib.ListN.{length, get_or}
use borrow.Author.Tests.{lt-ltb, le-ltb}
use Rattle.base.specs.Fill.{fill}
use Rattle.base.proofs.FillLaws.{fill_none, fill-same, length-fill, get_d-fill-in, get_d-fill-out}
use Rattle.lines.specs.Buffers.{shifted}
use Rattle.lifting.specs.Layout.{FrameFits, half_index, half_line, frame_picture}
use Rattle.filters.specs.Lifting.{Line}
use Rattle.filters.specs.Passes.{Picture, rows, all_new_fit}
use Rattle.filters.specs.Planes.{picture_of}
use Rattle.filters.specs.Table.{filter_from}
use Rattle.lifting.specs.declared.frame.Frame.{Frame}
use Rattle.filters.specs.declared.filter.LiftingFilter.{LiftingFilter}
use Rattle.filters.proofs.PassesLaws.{rows-run-same, rows-fit-same, rows_run}
use Rattle.filters.proofs.LiftingLaws.{twice-length}
use Rattle.sweep.specs.declared.rows.Crop.{Crop}
use Rattle.base.proofs.Grids.{row_room, row-end, rows_apart}
use Rattle.filters.specs.Pictures.{target_row}
use Rattle.lifting.proofs.LayoutLaws.{other_row, filled_row, half-inside}
use Rattle.sweep.specs.Rows.{row_made, row_fits, pair_fits, with_pair, with_row, with_rows, halved_of, by_rows}
use Rattle.filters.proofs.PicturesLaws.{even-target, odd-target, other-even, other-odd}

-- Two planes that have the same row of a frame.
module _
    (f : Frame) (filter : LiftingFilter) (some : 1 ≤ f.band_columns) (plane plane' : List ℤ) (row : ℕ)
    (same : (x : ℕ) → x < 2 * f.band_columns → frame_picture f plane' row x ≡ frame_picture f plane row x)
  where
    halves-same : (x : ℕ) → x < 2 * f.band_columns → half_line f.band_columns (row * f.stride) plane' x ≡ half_line f.band_columns (row * f.stride) plane x
    unfolding picture_of
    halves-same x within = same (half_index f.band_columns x) (half-inside f.band_columns x within)

    -- its test is the same, and what is made of it
    pub row-fits-same : row_fits f filter plane' row ≡ row_fits f filter plane row
    row-fits-same =
        rows-fit-same 1 (2 * f.band_columns) (twice-length f.band_columns some) (filter_from filter).steps _ _ (λ r x one within. halves-same x within)

    pub row-made-same : (x : ℕ) → x < 2 * f.band_columns → row_made f filter plane' row x ≡ row_made f filter plane row x
    row-made-same x within =
        ap (shifted filter.shift)
        (rows-run-same 1 (2 * f.band_columns) (twice-length f.band_columns some) (filter_from filter).steps _ _ (λ r y one inside. halves-same y inside) 0 x (omega arith) within)

-- The second row of a pair, once the first is stored.
module _ (f : Frame) (filter : LiftingFilter) (plane : List ℤ) (placed : FrameFits f plane) (k : ℕ) (g : Line) where
  abbrev between : List ℤ
  between = fill plane (2 * k * f.stride) (2 * f.band_columns) g

  second-same : (x : ℕ) → x < 2 * f.band_columns → frame_picture f between (2 * k + 1) x ≡ frame_picture f plane (2 * k + 1) x
  second-same x within = other_row f.stride plane (2 * k) (2 * f.band_columns) g placed.apart (2 * k + 1) x (λ e. omega (arith, e)) within

  pub second_fits : row_fits f filter between (2 * k + 1) ≡ row_fits f filter plane (2 * k + 1)
  second_fits = row-fits-same f filter placed.columns_least plane between (2 * k + 1) second-same

  pub second-made : (x : ℕ) → x < 2 * f.band_columns → row_made f filter between (2 * k + 1) x ≡ row_made f filter plane (2 * k + 1) x
  second-made = row-made-same f filter placed.columns_least plane between (2 * k + 1) second-same

-- what is kept of a row in the samples
pub cropped :
    (c : Crop) (row count : ℕ) (line : Line) (samples : List ℤ) → (row < c.height → count ≡ c.width) → (c.height ≤ row → count ≡ 0)
    → fill samples (row * count) count line ≡ with_row c row line samples
unfolding with_row
cropped c row count line samples kept none =
    elim (dec_lt row c.height) [
      | yes inside ↦ rw (kept inside, lt-ltb row c.height inside)
      | no below ↦ rw (none (omega arith), le-ltb row c.height (omega arith)) (fill_none samples (row * 0) line)
    ]

pub with_row-same :
    (c : Crop) (row : ℕ) (line line' : Line) (samples : List ℤ) → ((x : ℕ) → x < c.width → line x ≡ line' x) → with_row c row line samples ≡ with_row c row line' samples
unfolding with_row
with_row-same c row line line' samples same = rw (fill-same samples (row * c.width) line line' c.width same)

-- Both rows of a pair: the test of the second, after that of the first, is the pair's, and what is stored is the pair's.
module _
    (f : Frame) (filter : LiftingFilter) (plane : List ℤ) (placed : FrameFits f plane) (k : ℕ) (P : Picture)
    (first : row_fits f filter plane (2 * k) ≡ true) (work₁ : List ℤ) (stored : work₁ ≡ fill plane (2 * k * f.stride) (2 * f.band_columns) (P (2 * k)))
  where
    pub pair-told : (told : Bool) → told ≡ row_fits f filter work₁ (2 * k + 1) → told ≡ pair_fits f filter plane k
    pair-told told e = e ∙ rw (stored, first) (second_fits f filter plane placed k (P (2 * k)))

    pub pair-stored :
        (work₂ : List ℤ) (g : Line) → ((x : ℕ) → x < 2 * f.band_columns → g x ≡ P (2 * k + 1) x)
        → work₂ ≡ fill work₁ ((2 * k + 1) * f.stride) (2 * f.band_columns) g → work₂ ≡ with_pair f plane k P
    pair-stored work₂ g same e = e ∙ rw stored (fill-same _ ((2 * k + 1) * f.stride) g (P (2 * k + 1)) (2 * f.band_columns) same)

    pub second-row : (x : ℕ) → x < 2 * f.band_columns → row_made f filter work₁ (2 * k + 1) x ≡ row_made f filter plane (2 * k + 1) x
    second-row x within = rw stored (second-made f filter plane placed k (P (2 * k)) x within)

-- a plane with both rows of a pair stored
module _ (f : Frame) (plane : List ℤ) (placed : FrameFits f plane) (k : ℕ) (inside : k < f.band_rows) (P : Picture) where
  abbrev first_stored : List ℤ
  first_stored = fill plane (2 * k * f.stride) (2 * f.band_columns) (P (2 * k))

  even-inside : 2 * k * f.stride + 2 * f.band_columns ≤ length plane
  even-inside = omega (arith, row-end (2 * k) (2 * f.band_rows) f.stride (2 * f.band_columns) (omega arith) placed.apart, placed.inside)

  odd-inside : (2 * k + 1) * f.stride + 2 * f.band_columns ≤ length first_stored
  odd-inside =
      rw (length-fill plane (2 * k * f.stride) (P (2 * k)) (2 * f.band_columns))
      (omega (arith, row-end (2 * k + 1) (2 * f.band_rows) f.stride (2 * f.band_columns) (omega arith) placed.apart, placed.inside))

  pub pair-new : (even : Bool) (x : ℕ) → x < 2 * f.band_columns → frame_picture f (with_pair f plane k P) (target_row even k) x ≡ P (target_row even k) x
  pair-new true x within =
      rw (even-target k)
      (other_row f.stride first_stored (2 * k + 1) (2 * f.band_columns) (P (2 * k + 1)) placed.apart (2 * k) x (λ e. omega (arith, e)) within
      ∙ filled_row f.stride plane (2 * k) (2 * f.band_columns) (P (2 * k)) placed.apart even-inside x within)
  pair-new false x within = rw (odd-target k) (filled_row f.stride first_stored (2 * k + 1) (2 * f.band_columns) (P (2 * k + 1)) placed.apart odd-inside x within)

  pub pair-others : (q : ℕ) (even : Bool) → q ≢ k → (x : ℕ) → x < 2 * f.band_columns → frame_picture f (with_pair f plane k P) (target_row even q) x ≡ frame_picture f plane (target_row even q) x
  pair-others q even other x within =
      other_row f.stride first_stored (2 * k + 1) (2 * f.band_columns) (P (2 * k + 1)) placed.apart (target_row even q) x (other-odd even q k other) within
      ∙ other_row f.stride plane (2 * k) (2 * f.band_columns) (P (2 * k)) placed.apart (target_row even q) x (other-even even q k other) within

-- samples with a row stored
module _ (c : Crop) (row : ℕ) (line : Line) (samples : List ℤ) (room : c.height * c.width ≤ length samples) where
  pub row-length : length (with_row c row line samples) ≡ length samples
  unfolding with_row
  row-length =
      elim (dec_lt row c.height) [
        | yes inside ↦ rw (lt-ltb row c.height inside) (length-fill samples (row * c.width) line c.width)
        | no past ↦ rw (le-ltb row c.height (omega arith))
      ]

  pub row-stored : row < c.height → (x : ℕ) → x < c.width → get_or (with_row c row line samples) (row * c.width + x) (pos 0) ≡ line x
  unfolding with_row
  row-stored inside x within =
      rw (lt-ltb row c.height inside)
      (get_d-fill-in samples (row * c.width) line c.width x (pos 0) within (omega (arith, row_room c.width row c.height inside)))

  pub row-others : (other x : ℕ) → other ≢ row → x < c.width → get_or (with_row c row line samples) (other * c.width + x) (pos 0) ≡ get_or samples (other * c.width + x) (pos 0)
  unfolding with_row
  row-others other x apart within =
      elim (dec_lt row c.height) [
        | yes inside ↦
            rw (lt-ltb row c.height inside)
            (get_d-fill-out samples (row * c.width) line c.width (other * c.width + x) (pos 0) (λ k below. rows_apart c.width other row x k apart within below))
        | no past ↦ rw (le-ltb row c.height (omega arith))
      ]

-- and with both rows of a pair
pub rows-stored :
    (c : Crop) (k : ℕ) (even : Bool) (x : ℕ) (P : Picture) (samples : List ℤ) → c.height * c.width ≤ length samples
    → target_row even k < c.height → x < c.width → get_or (with_rows c k P samples) (target_row even k * c.width + x) (pos 0) ≡ P (target_row even k) x
rows-stored c k true x P samples room inside within =
    rw (even-target k)
    (row-others c (2 * k + 1) (P (2 * k + 1)) _ (rw (row-length c (2 * k) (P (2 * k)) samples room) room) (2 * k) x (λ e. omega (arith, e)) within
    ∙ row-stored c (2 * k) (P (2 * k)) samples room (rw (even-target k) at inside) x within)
rows-stored c k false x P samples room inside within =
    rw (odd-target k) (row-stored c (2 * k + 1) (P (2 * k + 1)) _ (rw (row-length c (2 * k) (P (2 * k)) samples room) room) (rw (odd-target k) at inside) x within)

-- A row of a plane that is a picture's: what the rows' steps make of it is what they make of the picture.
module _ (f : Frame) (filter : LiftingFilter) (some : 1 ≤ f.band_columns) (plane : List ℤ) (T : Picture) (row : ℕ)
    (same : (x : ℕ) → x < 2 * f.band_columns → frame_picture f plane row x ≡ T row x)
  where
    halves-picture : (x : ℕ) → x < 2 * f.band_columns → half_line f.band_columns (row * f.stride) plane x ≡ halved_of f T row x
    unfolding picture_of
    halves-picture x within = same (half_index f.band_columns x) (half-inside f.band_columns x within)

    pub row-test : row_fits f filter plane row ≡ all_new_fit 1 (2 * f.band_columns) (map rows (filter_from filter).steps) (λ k. halved_of f T row)
    row-test = rows-fit-same 1 (2 * f.band_columns) (twice-length f.band_columns some) (filter_from filter).steps _ _ (λ r x one within. halves-picture x within)

    pub row_made-told : (x : ℕ) → x < 2 * f.band_columns → row_made f filter plane row x ≡ by_rows f filter T row x
    row_made-told x within =
        ap (shifted filter.shift)
        (rows-run-same 1 (2 * f.band_columns) (twice-length f.band_columns some) (filter_from filter).steps _ (λ k. halved_of f T row) (λ r y one inside. halves-picture y inside) 0 x (omega arith) within
        ∙ sym (rows_run (2 * f.band_columns) (2 * f.band_rows) (filter_from filter).steps (halved_of f T) row x))
