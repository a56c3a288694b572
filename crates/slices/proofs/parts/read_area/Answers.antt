use mathlib.Core.Path.{◌≡◌, refl, ◌∙◌}
use Prim.Native.Nat.{ℕ}
use native.Mathlib.Omega.{arith}
use Rattle.std.specs.Prelude.{Result, Err}
use Rattle.std.proofs.lemmas.Result.{err_from_is_err_and}
use Rattle.base.specs.declared.status.Fault.{Fault}
use Rattle.coefficients.specs.Reading.{goes_on}
use Rattle.coefficients.specs.Scaling.{scale_of}
use Rattle.slices.specs.Parts.{area_values}
use Rattle.slices.specs.Stores.{planes_behind}
use Rattle.slices.specs.Reads.{data_of, row_of, Left}
use Rattle.slices.proofs.StoresLaws.{same_planes-then}
use Rattle.slices.proofs.ReadsLaws.{walked_none, walked_more, walked_stop, walked_all, area-stays, area-rows, left-again}
use Rattle.slices.proofs.parts.read_area.Goals as goal
use Rattle.slices.proofs.parts.read_area.Goals.{After-read_rows-in-loop-y}

pub loop-y-init : goal.loop-y-init
loop-y-init c =
    (omega arith, ((refl, refl, refl), (refl, refl, refl)), refl, c.requires.2, refl, refl, refl, refl, c.requires.1.before_end, walked_none _ (λ k. area-stays _ _ _ _) c.args.piece.span.end _ _ _ refl)

-- what the row left
row-left : (c : After-read_rows-in-loop-y) (result : Result ℕ Fault) → c.read_rows-in-loop-y.result ≡ result →
    let piece = c.args.piece in
    let row = c.read_rows-in-loop-y in
    Left piece.span.end result (planes_behind row.new.planes) row.new.run
    (area_values (data_of c.args.bytes.now piece.span) (scale_of piece.decoder.q) piece.holder (row_of piece.area c.loop-y.y) (goes_on c.loop-y.row.span.bit (planes_behind c.loop-y.planes)))
row-left c result is =
    let inv = c.loop-y.invariant in
    left-again _ _ _ inv.6 inv.7 _ _ _ _ _ _ _ (rw (is, c.row_of-row.ensures, inv.4, inv.5) at c.read_rows-in-loop-y.ensures.read)

pub returns-in_err-row-clause-read : goal.returns-in_err-row-clause-read
returns-in_err-row-clause-read c =
    let refused = err_from_is_err_and c.from_residual.result c.from_residual.ensures.1 in
    let left = row-left (goal.at.returns-in_err-row-clause-read c).After-read_rows-in-loop-y (Err refused.0) (rw refused.2 c.in_err-row.was) in
    rw (refused.1, ← area-rows (data_of c.args.bytes.now c.args.piece.span) (scale_of c.args.piece.decoder.q) c.args.piece.holder c.args.piece.area _)
    (walked_stop _ (λ k. area-stays _ _ _ _) _ _ c.loop-y.y _ _ _ _ _ _ c.loop-y-test.true c.loop-y.invariant.9 left)

pub loop-y-preserved : goal.loop-y-preserved
loop-y-preserved c =
    let inv = c.loop-y.invariant in
    let row = c.read_rows-in-loop-y in
    let left = row-left (goal.at.loop-y-preserved c).After-read_rows-in-loop-y _ c.in_ok-row.was in (
      omega (arith, c.loop-y-test.true),
      same_planes-then c.args.planes.now c.loop-y.planes row.new.planes inv.1 row.ensures.same,
      row.auto.run ∙ inv.2,
      left.run_blank _ refl,
      inv.4,
      inv.5,
      inv.6,
      inv.7,
      left.before_end _ refl,
      walked_more _ (λ k. area-stays _ _ _ _) _ _ c.loop-y.y _ _ _ _ _ inv.9 left,
    )

pub returns-clause-read : goal.returns-clause-read
returns-clause-read c =
    let inv = c.loop-y.invariant in
    rw (← area-rows (data_of c.args.bytes.now c.args.piece.span) (scale_of c.args.piece.decoder.q) c.args.piece.holder c.args.piece.area _)
    (walked_all _ (λ k. area-stays _ _ _ _) _ _ c.loop-y.y _ _ _ _ (omega (arith, inv.0, c.loop-y-test.false)) inv.9 inv.8 inv.3)
