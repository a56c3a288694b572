-- Where the rows of a picture stand in a plane: each inside it, apart from the others, and what a picture shows of a plane whose row was filled.
-- And rows that stand as two halves, in a plane and in the line buffer.
-- Assumes nothing.
use mathlib.Core.Path.{◌≡◌, ◌∙◌}
use mathlib.Core.Logic.{◌≢◌}
use mathlib.Core.Bool.{Bool, true, false, not}
use mathlib.Core.List.{List, map}
use Prim.Native.Nat.{ℕ, ◌+◌, ◌*◌, ◌≤◌, ◌<◌, suc, ◌-◌, min}
use native.Mathlib.Omega.{arith}
use native.Mathlib.Nat.{add-zero}
use lib.IntN.{ℤ, pos}
use lib.ListN.{length, get_or}
use Rattle.base.specs.Fill.{fill}
use Rattle.base.proofs.FillLaws.{fill-same, get_d-fill-in, get_d-fill-out, length-fill}
use Rattle.base.proofs.Grids.{row_room, rows_apart}
use Rattle.filters.specs.Lifting.{Line, Step}
use Rattle.lifting.specs.Layout.{FrameFits, half_index, base_of}
use Rattle.filters.specs.Pictures.{target_row, source_row}
use Rattle.filters.specs.Planes.{picture_of}
use Rattle.lifting.specs.declared.frame.Frame.{Frame}
use Rattle.base.proofs.Parity.{even-test, odd-test, even-half, odd-half, by-parity}
use Rattle.lines.specs.Buffers.{Within, clamped_entry, interleaved, shifted}
use Rattle.lines.proofs.BuffersLaws.{interleaved-even, interleaved-odd}
use Rattle.filters.specs.Passes.{rows, Picture, run_all, all_new_fit}
use Rattle.filters.proofs.LiftingLaws.{twice-length}
use Rattle.filters.proofs.PassesLaws.{rows-run-same, rows-fit-same}

-- a frame's picture stands in any plane of that length
pub frame-fits-same : (f : Frame) (plane₁ plane₂ : List ℤ) → FrameFits f plane₁ → length plane₂ ≡ length plane₁ → FrameFits f plane₂
frame-fits-same f plane₁ plane₂ placed same =
    record {
      rows_least = placed.rows_least;
      rows_most = placed.rows_most;
      columns_least = placed.columns_least;
      columns_most = placed.columns_most;
      apart = placed.apart;
      inside = rw same placed.inside;
    }

-- and each of its rows does
pub row_inside :
    (f : Frame) (plane₁ plane₂ : List ℤ) → FrameFits f plane₁ → length plane₂ ≡ length plane₁
    → (row : ℕ) → row < 2 * f.band_rows → row * f.stride + 2 * f.band_columns ≤ length plane₂
row_inside f plane₁ plane₂ placed same row below =
    omega (arith, row_room f.stride row (2 * f.band_rows) below, placed.apart, placed.inside)

module _ (stride : ℕ) (plane : List ℤ) (target width : ℕ) (f : ℕ → ℤ) (narrow : width ≤ stride) where
  -- the row that was filled
  pub filled_row : target * stride + width ≤ length plane → (x : ℕ) → x < width → picture_of stride (fill plane (target * stride) width f) target x ≡ f x
  unfolding picture_of
  filled_row room x h = get_d-fill-in plane (target * stride) f width x (pos 0) h (omega arith)

  -- and the others
  pub other_row : (row x : ℕ) → row ≢ target → x < width → picture_of stride (fill plane (target * stride) width f) row x ≡ picture_of stride plane row x
  unfolding picture_of
  other_row row x other h =
      get_d-fill-out plane (target * stride) f width (row * stride + x) (pos 0)
      (λ k below. rows_apart stride row target x k other (omega arith) (omega arith))

-- the halves stand in the line buffer, apart from each other
pub base-most : (even : Bool) → base_of even ≤ 2056
base-most true = omega arith
base-most false = omega arith

pub bases-apart : (even : Bool) (b : ℕ) → b ≤ 2048 → (i j : ℕ) → i < b + 8 → j < b + 8 → base_of even + i ≢ base_of (not even) + j
bases-apart true b few i j hi hj = λ e. omega arith
bases-apart false b few i j hi hj = λ e. omega arith

-- an interleaved row at an element of one half, and at one that a step reads
module _ (halves : List ℤ) where
  pub interleaved-target : (even : Bool) (k : ℕ) → interleaved halves (target_row even k) ≡ get_or halves (base_of even + 4 + k) (pos 0)
  unfolding target_row
  interleaved-target true k = rw (add-zero (2 * k)) (interleaved-even halves k)
  interleaved-target false k = interleaved-odd halves k

  pub interleaved-source : (even : Bool) (b s : ℕ) → interleaved halves (source_row even b s) ≡ get_or halves (base_of (not even) + clamped_entry b s) (pos 0)
  unfolding source_row clamped_entry
  interleaved-source true b s =
      let order : 2056 + (4 + min (s - 4) (b - 1)) ≡ 2060 + min (s - 4) (b - 1) = omega arith in
      rw order (interleaved-odd halves (min (s - 4) (b - 1)))
  interleaved-source false b s =
      let order : 0 + (4 + min (s - 4) (b - 1)) ≡ 4 + min (s - 4) (b - 1) = omega arith in
      rw (order, add-zero (2 * min (s - 4) (b - 1))) (interleaved-even halves (min (s - 4) (b - 1)))

-- the index of an even column in a row that stands as two halves, and that of an odd one
half-even : (b k : ℕ) → half_index b (2 * k) ≡ k
unfolding half_index
half-even b k = rw (even-test k, even-half k)

half-odd : (b k : ℕ) → half_index b (2 * k + 1) ≡ b + k
unfolding half_index
half-odd b k = rw (odd-test k, odd-half k)

-- The halves of a row copied to the line buffer, one after the other.
module _
    (b start : ℕ) (work came low halves : List ℤ) (few : b ≤ 2048) (room : 2060 + b ≤ length came)
    (first : low ≡ fill came 4 b (λ k. get_or work (start + k) (pos 0)))
    (second : halves ≡ fill low 2060 b (λ k. get_or work (start + b + k) (pos 0)))
  where
    low-copied : (k : ℕ) → k < b → get_or halves (4 + k) (pos 0) ≡ get_or work (start + k) (pos 0)
    low-copied k inside =
        rw (second, get_d-fill-out low 2060 (λ k. get_or work (start + b + k) (pos 0)) b (4 + k) (pos 0) (λ j below. omega arith), first)
        (get_d-fill-in came 4 (λ k. get_or work (start + k) (pos 0)) b k (pos 0) inside (omega arith))

    high-copied : (k : ℕ) → k < b → get_or halves (2060 + k) (pos 0) ≡ get_or work (start + b + k) (pos 0)
    high-copied k inside =
        rw second
        (get_d-fill-in low 2060 (λ k. get_or work (start + b + k) (pos 0)) b k (pos 0) inside
        (rw (first, length-fill came 4 (λ k. get_or work (start + k) (pos 0)) b) (omega arith)))

    -- they are the row
    pub halves-copied : (x : ℕ) → x < 2 * b → interleaved halves x ≡ get_or work (start + half_index b x) (pos 0)
    halves-copied =
        by-parity (λ x. interleaved halves x ≡ get_or work (start + half_index b x) (pos 0)) b
        (λ k inside. interleaved-even halves k ∙ rw (half-even b k) (low-copied k inside))
        (λ k inside.
        let order : start + b + k ≡ start + (b + k) = omega arith in
        interleaved-odd halves k ∙ rw (half-odd b k, ← order) (high-copied k inside))

    -- and within the bounds that were measured
    pub halves-measured :
        (even odd : ℕ) → Within work start b (suc even) → Within work (start + b) b (suc odd)
        → Within halves 4 b (even + 1) × Within halves 2060 b (odd + 1)
    halves-measured even odd lows highs =
        (λ k inside. rw (low-copied k inside) (omega (arith, lows k inside)), λ k inside. rw (high-copied k inside) (omega (arith, highs k inside)))

-- the index of a column lies in its row
pub half-inside : (b x : ℕ) → x < 2 * b → half_index b x < 2 * b
half-inside b = by-parity (λ x. half_index b x < 2 * b) b (λ k h. rw (half-even b k) (omega arith)) (λ k h. rw (half-odd b k) (omega arith))

-- The row from an index of a plane on that stands there as two halves, as a picture.
abbrev pub half_row : ℕ → ℕ → List ℤ → Picture
half_row half start work k x = get_or work (start + half_index half x) (pos 0)

-- The steps done on the row from an index on, and the shift.
abbrev pub interleaved_row : List Step → Bool → ℕ → ℕ → List ℤ → Line
interleaved_row steps shift half start work x = shifted shift (run_all 1 (2 * half) (map rows steps) (half_row half start work) 0 x)

-- A row whose halves were copied to the line buffer.
module _
    (steps : List Step) (half start : ℕ) (some : 1 ≤ half) (work halves : List ℤ)
    (copied : (x : ℕ) → x < 2 * half → interleaved halves x ≡ get_or work (start + half_index half x) (pos 0))
  where
    -- its new numbers are those of the buffer
    pub row_told : all_new_fit 1 (2 * half) (map rows steps) (λ row. interleaved halves) ≡ all_new_fit 1 (2 * half) (map rows steps) (half_row half start work)
    row_told = rows-fit-same 1 (2 * half) (twice-length half some) steps (λ row. interleaved halves) (half_row half start work) (λ row x r inside. copied x inside)

    -- and so are its numbers in the end
    pub row-run :
        (x : ℕ) → x < 2 * half
        → run_all 1 (2 * half) (map rows steps) (λ row. interleaved halves) 0 x ≡ run_all 1 (2 * half) (map rows steps) (half_row half start work) 0 x
    row-run x inside =
        rows-run-same 1 (2 * half) (twice-length half some) steps (λ row. interleaved halves) (half_row half start work) (λ row x r inside. copied x inside) 0 x (omega arith) inside

-- Some of the numbers that the steps made in the line buffer, stored in a plane.
pub row-interleaved :
    (steps : List Step) (shift : Bool) (half start : ℕ) (work halves : List ℤ) (asked : Bool) → asked ≡ shift
    → ((x : ℕ) → x < 2 * half → interleaved halves x ≡ run_all 1 (2 * half) (map rows steps) (half_row half start work) 0 x)
    → (plane : List ℤ) (to count : ℕ) → count ≤ 2 * half
    → fill plane to count (λ x. shifted asked (interleaved halves x)) ≡ fill plane to count (interleaved_row steps shift half start work)
row-interleaved steps shift half start work halves asked same done plane to count part =
    fill-same plane to _ (interleaved_row steps shift half start work) count (λ x inside. rw (same, done x (omega arith)))
