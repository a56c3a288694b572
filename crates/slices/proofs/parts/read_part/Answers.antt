use mathlib.Core.Path.{◌≡◌, refl, ◌∙◌}
use Prim.Native.Nat.{ℕ, ◌<◌}
use native.Mathlib.Omega.{arith}
use Rattle.std.specs.Prelude.{Result, Err}
use Rattle.std.proofs.lemmas.Result.{err_from_is_err_and}
use Rattle.base.specs.declared.status.Fault.{Fault}
use Rattle.component.specs.Subbands.{subband_count}
use Rattle.coefficients.specs.Quantiser.{dequantise}
use Rattle.coefficients.specs.Reading.{goes_on}
use Rattle.slices.specs.Areas.{slice_area, subband_index}
use Rattle.slices.specs.Parts.{grid_for, area_values, part_values}
use Rattle.slices.specs.Stores.{planes_behind}
use Rattle.slices.specs.Reads.{data_of, Left}
use Rattle.slices.proofs.PartsLaws.{grid-counted, grid-depth, part-fits, lengths-same}
use Rattle.slices.proofs.StoresLaws.{same_planes-then}
use Rattle.slices.proofs.ReadsLaws.{walked_none, walked_more, walked_stop, walked_all, area-stays, span-again, left-again}
use Rattle.slices.proofs.parts.read_part.Goals as goal
use Rattle.slices.proofs.parts.read_part.Goals.{After-area_at, After-read_area, In-loop-k}

pub new-slice-requires : goal.new-slice-requires
new-slice-requires c = (c.own_grid.ensures.1, rw c.own_grid.ensures.0 (grid-counted c.args.part.picture c.args.part.holder _ c.args.part.counted))

pub loop-k-init : goal.loop-k-init
loop-k-init c =
    (omega arith, ((refl, refl, refl), (refl, refl, refl)), refl, c.requires.planes.1, refl, refl, c.args.part.sound.before_end, walked_none _ (λ k. area-stays _ _ _ _) c.args.part.span.end _ _ _ refl)

-- a subband that is left
in-turn : (c : In-loop-k) → c.loop-k.k < subband_count c.args.part.picture.depth
in-turn c = omega (arith, c.loop-k-test, c.subband_count-count.ensures)

pub area_at-requires : goal.area_at-requires
area_at-requires c = rw (c.new-slice.ensures.0, c.own_grid.ensures.0) (grid-depth c.args.part.picture c.args.part.holder _ (in-turn (goal.at.area_at-requires c).In-loop-k))

-- its rectangle is the slice's
area-is : (c : After-area_at) → c.area_at.result ≡ slice_area (grid_for c.args.part.picture c.args.part.holder) c.args.part.slice c.loop-k.k
area-is c =
    let slice = c.new-slice.ensures in
    rw (slice.0, slice.1, c.own_grid.ensures.0) at c.area_at.ensures

pub read_area-requires : goal.read_area-requires
read_area-requires c =
    let inv = c.loop-k.invariant in
    let whole = rw c.own_grid.ensures.0 at c.own_grid.ensures.1 in
    let lengths = lengths-same c.args.part.picture (planes_behind c.args.planes.now) (planes_behind c.loop-k.planes) inv.1.1 c.requires.planes.0 in (
      rw (area-is (goal.at.read_area-requires c).After-area_at)
          (part-fits c.args.part.picture c.args.part.holder whole _ c.args.part.counted _ (in-turn (goal.at.read_area-requires c).In-loop-k) (planes_behind c.loop-k.planes) lengths),
      span-again _ _ inv.4 inv.5 inv.6 c.args.part.sound,
      inv.3,
    )

-- what the subband left
band-left : (c : After-read_area) (result : Result ℕ Fault) → c.read_area.result ≡ result →
    let part = c.args.part in
    let band = c.read_area in
    Left part.span.end result (planes_behind band.new.planes) band.new.run
    (area_values (data_of c.args.bytes.now part.span) (dequantise part.picture.intra (subband_index part.picture part.index c.loop-k.k)) part.holder
    (slice_area (grid_for part.picture part.holder) part.slice c.loop-k.k) (goes_on c.loop-k.span.bit (planes_behind c.loop-k.planes)))
band-left c result is =
    let inv = c.loop-k.invariant in
    let slice = c.new-slice.ensures in
    let area = rw (slice.0, slice.1, c.own_grid.ensures.0) at c.area_at.ensures in
    left-again _ _ _ inv.4 inv.5 _ _ _ _ _ _ _ (rw (is, area, c.decoder.ensures, c.requires.tables, c.subband_index.ensures) at c.read_area.ensures.read)

pub returns-in_err-span-clause-read : goal.returns-in_err-span-clause-read
unfolding part_values
returns-in_err-span-clause-read c =
    let refused = err_from_is_err_and c.from_residual.result c.from_residual.ensures.1 in
    let left = band-left (goal.at.returns-in_err-span-clause-read c).After-read_area (Err refused.0) (rw refused.2 c.in_err-span.was) in
    rw refused.1
    (walked_stop _ (λ k. area-stays _ _ _ _) _ _ c.loop-k.k _ _ _ _ _ _ (in-turn (goal.at.returns-in_err-span-clause-read c).In-loop-k) c.loop-k.invariant.7 left)

pub loop-k-preserved : goal.loop-k-preserved
loop-k-preserved c =
    let inv = c.loop-k.invariant in
    let band = c.read_area in
    let left = band-left (goal.at.loop-k-preserved c).After-read_area _ c.in_ok-span.was in (
      omega (arith, c.loop-k-test),
      same_planes-then c.args.planes.now c.loop-k.planes band.new.planes inv.1 band.ensures.same,
      band.auto.run ∙ inv.2,
      left.run_blank _ refl,
      inv.4,
      inv.5,
      left.before_end _ refl,
      walked_more _ (λ k. area-stays _ _ _ _) _ _ c.loop-k.k _ _ _ _ _ inv.7 left,
    )

pub returns-clause-read : goal.returns-clause-read
unfolding part_values
returns-clause-read c =
    let inv = c.loop-k.invariant in
    walked_all _ (λ k. area-stays _ _ _ _) _ _ c.loop-k.k _ _ _ _ (omega (arith, inv.0, c.loop-k-test, c.subband_count-count.ensures)) inv.7 inv.6 inv.3
