-- `sweep::bands::interleave_pair` meets its contract: HL is stored into an even row, LH and HH into an odd one, and all are measured.
use mathlib.Core.Path.{◌∙◌}
use Prim.Native.Nat.{ℕ, ◌+◌, ◌*◌, ◌≤◌, ◌<◌}
use native.Mathlib.Omega.{arith}
use lib.ListN.{length}
use Rattle.base.proofs.Grids.{row-end}
use Rattle.sweep.proofs.BandsLaws.{pair-within}
use Rattle.sweep.proofs.bands.interleave_pair.Goals as goal
use Rattle.sweep.proofs.bands.interleave_pair.Goals.{Start}

-- the rows that are stored to, and those that are read, lie within their planes
module _ (s : Start) where
  abbrev r : ℕ
  r = s.args.r

  abbrev pw : ℕ
  pw = s.args.padded_width

  abbrev bands : ℕ
  bands = s.args.frame.band_rows

  abbrev columns : ℕ
  columns = s.args.frame.band_columns

  abbrev stride : ℕ
  stride = s.args.frame.stride

  odd-end : (2 * r + 1) * stride + 2 * columns ≤ length s.args.work.now
  odd-end = let placed = s.requires.frame_fits.0 in omega (arith, row-end (2 * r + 1) (2 * bands) stride (2 * columns) (omega arith) placed.apart, placed.inside)

  even-end : 2 * r * stride + 2 * columns ≤ length s.args.work.now
  even-end = let placed = s.requires.frame_fits.0 in omega (arith, row-end (2 * r) (2 * bands) stride (2 * columns) (omega arith) placed.apart, placed.inside)

  upper-end : r * pw + 2 * columns ≤ length s.args.coefficients.now
  upper-end = let sizes = s.requires.bands_inside in omega (arith, row-end r (2 * bands) pw (2 * columns) (omega arith) sizes.0, sizes.1)

  lower-end : (bands + r) * pw + 2 * columns ≤ length s.args.coefficients.now
  lower-end = let sizes = s.requires.bands_inside in omega (arith, row-end (bands + r) (2 * bands) pw (2 * columns) (omega arith) sizes.0, sizes.1)

  few-rows : 2 * r + 1 < 4096
  few-rows = omega (arith, s.requires.frame_fits.0.rows_most)

pub overflow_mul-even_row : goal.overflow_mul-even_row
overflow_mul-even_row c = omega (arith, few-rows (goal.at.overflow_mul-even_row c).Start)

pub overflow_mul-even_row-2 : goal.overflow_mul-even_row-2
overflow_mul-even_row-2 c = omega (arith, even-end (goal.at.overflow_mul-even_row-2 c).Start)

pub measure-low-requires : goal.measure-low-requires
measure-low-requires c = omega (arith, even-end (goal.at.measure-low-requires c).Start)

pub overflow_mul-upper_bands : goal.overflow_mul-upper_bands
overflow_mul-upper_bands c = omega (arith, upper-end (goal.at.overflow_mul-upper_bands c).Start)

pub overflow_add-upper_bands : goal.overflow_add-upper_bands
overflow_add-upper_bands c = omega (arith, upper-end (goal.at.overflow_add-upper_bands c).Start)

pub overflow_add-even_row : goal.overflow_add-even_row
overflow_add-even_row c = omega (arith, even-end (goal.at.overflow_add-even_row c).Start)

pub copy_measured-upper-requires : goal.copy_measured-upper-requires
copy_measured-upper-requires c = (omega (arith, even-end (goal.at.copy_measured-upper-requires c).Start), omega (arith, upper-end (goal.at.copy_measured-upper-requires c).Start))

pub overflow_mul-odd_row : goal.overflow_mul-odd_row
overflow_mul-odd_row c = omega (arith, few-rows (goal.at.overflow_mul-odd_row c).Start)

pub overflow_add-odd_row : goal.overflow_add-odd_row
overflow_add-odd_row c = omega (arith, few-rows (goal.at.overflow_add-odd_row c).Start)

pub overflow_mul-odd_row-2 : goal.overflow_mul-odd_row-2
overflow_mul-odd_row-2 c = omega (arith, odd-end (goal.at.overflow_mul-odd_row-2 c).Start)

pub overflow_add-lower_bands : goal.overflow_add-lower_bands
overflow_add-lower_bands c = omega (arith, few-rows (goal.at.overflow_add-lower_bands c).Start, c.requires.frame_fits.0.rows_most)

pub overflow_mul-lower_bands : goal.overflow_mul-lower_bands
overflow_mul-lower_bands c = omega (arith, lower-end (goal.at.overflow_mul-lower_bands c).Start)

pub overflow_mul-columns : goal.overflow_mul-columns
overflow_mul-columns c = omega (arith, c.requires.frame_fits.0.columns_most)

pub copy_measured-lower-requires : goal.copy_measured-lower-requires
copy_measured-lower-requires c = (omega (arith, odd-end (goal.at.copy_measured-lower-requires c).Start, c.copy_measured-upper.auto.plane), omega (arith, lower-end (goal.at.copy_measured-lower-requires c).Start))

pub shape_of-work : goal.shape_of-work
shape_of-work c = c.copy_measured-lower.auto.plane ∙ c.copy_measured-upper.auto.plane

pub returns : goal.returns
returns c =
    let stored = rw c.copy_measured-upper.ensures.copied at c.copy_measured-lower.ensures.copied in
    let joined = c.join.ensures in
    let all = c.join-2.ensures in record {
      stored = stored;
      measured = rw stored (pair-within c.args.coefficients.now (pw (goal.at.returns c).Start) (bands (goal.at.returns c).Start) (columns (goal.at.returns c).Start) (stride (goal.at.returns c).Start) c.requires.frame_fits.0.apart
          c.args.work.now (r (goal.at.returns c).Start) (odd-end (goal.at.returns c).Start) _
          (λ x h. omega (arith, c.measure-low.ensures x h))
          (λ x h. omega (arith, c.copy_measured-upper.ensures.measured x h))
          (λ x h. omega (arith, c.copy_measured-lower.ensures.measured x h)));
    }
