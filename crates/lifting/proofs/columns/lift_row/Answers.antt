-- `lifting::columns::lift_row` meets its contract: the sums are those of document 01 at each column, since each tap reads its own row, and no tap
-- reads the row that is changed.
use mathlib.Core.Logic.{◌≢◌}
use Prim.Native.Nat.{ℕ, ◌+◌, ◌*◌, ◌≤◌, ◌<◌}
use native.Mathlib.Omega.{arith}
use lib.ListN.{length, get_or}
use Rattle.base.proofs.Grids.{row_room, rows_apart}
use Rattle.filters.specs.Pictures.{source_row}
use Rattle.filters.proofs.PicturesLaws.{target_below, source-below, source-other}
use Rattle.lifting.proofs.LinesLaws.{lifted-row}
use Rattle.lifting.proofs.columns.lift_row.Goals as goal
use Rattle.lifting.proofs.columns.lift_row.Goals.{After-target_row}

-- the row that is changed ends inside the plane, and so does each that is read
room : (c : After-target_row) → c.target_row.result * c.args.frame.stride + 2 * c.args.frame.band_columns ≤ length c.args.work.now
room c =
    let frame = c.args.frame in
    let row : c.target_row.result < 2 * frame.band_rows = rw c.target_row.ensures (target_below _ _ _ c.requires.frame_fits.2) in
    omega (arith, row_room frame.stride c.target_row.result (2 * frame.band_rows) row)

source-room : (c : After-target_row) (t : ℕ) → t < 8 → get_or c.row_starts-starts.result t 0 + 2 * c.args.frame.band_columns ≤ length c.args.work.now
source-room c t h =
    let frame = c.args.frame in
    let placed = c.requires.frame_fits.0 in
    let row = source_row c.args.step.even frame.band_rows (c.args.k + c.args.step.lead + t) in
    rw (c.row_starts-starts.ensures t h) (omega (arith, row_room frame.stride row (2 * frame.band_rows) (source-below _ _ _ placed.rows_least)))

-- and they are other rows
other : (c : After-target_row) (t : ℕ) → t < 8 → (x k : ℕ) → x < 2 * c.args.frame.band_columns → k < 2 * c.args.frame.band_columns
    → get_or c.row_starts-starts.result t 0 + x ≢ c.target_row.result * c.args.frame.stride + k
other c t h x k hx hk =
    let frame = c.args.frame in
    rw (c.row_starts-starts.ensures t h, c.target_row.ensures)
    (rows_apart frame.stride _ _ x k (source-other c.args.step.even frame.band_rows _ c.args.k)
    (omega (arith, c.requires.frame_fits.0.apart)) (omega (arith, c.requires.frame_fits.0.apart)))

pub overflow_mul-target : goal.overflow_mul-target
overflow_mul-target c = omega (arith, room (goal.at.overflow_mul-target c).After-target_row)

-- the line can be lifted, and keeps to the bounds
few : (c : After-target_row) (t : ℕ) → t < c.args.step.count → t < 8
few c t h = omega (arith, c.requires.frame_fits.1.few_taps)

pub lift-requires : goal.lift-requires
lift-requires c =
    let at = (goal.at.lift-requires c).After-target_row in
    record {
      line_inside = (
        record {
          formed = c.requires.frame_fits.1;
          width_most = omega (arith, c.requires.frame_fits.0.columns_most);
          inside = room at;
          sources_inside = λ t h. source-room at t (few at t h);
          apart = λ t x k h. other at t (few at t h) x k;
        },
        record {
          sources = λ t h. rw (c.row_starts-starts.ensures t (few at t h)) (c.requires.step_rows_within.0 t h);
          target = rw c.target_row.ensures c.requires.step_rows_within.1;
        },
      );
      bounds_fit = c.requires.frame_fits.3;
    }

-- the row is that of document 01
pub returns : goal.returns
returns c =
    let at = (goal.at.returns c).After-target_row in
    let row =
    lifted-row c.args.step _ _ _ _ _ _ (λ t below. c.row_starts-starts.ensures t (few at t below)) _ _
    (rw c.target_row.ensures at c.lift.ensures.told) (rw c.target_row.ensures at c.lift.ensures.done)
    in
    record { told = row.0; done = row.1 }
