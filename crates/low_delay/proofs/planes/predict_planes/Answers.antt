-- `low_delay::planes::predict_planes` meets its contract: the planes are predicted in their order, and the first with a value that does not fit settles it.
use Rattle.std.proofs.Common.{rules}
use Rattle.std.proofs.lemmas.Result.{err_from_is_err_and}
use Rattle.low_delay.proofs.BoundsLaws.{luma-out, first_out, all_told, all_done}
use Rattle.low_delay.proofs.planes.predict_planes.Goals as goal

pub returns-in_err-predict_plane-clause-told : goal.returns-in_err-predict_plane-clause-told
returns-in_err-predict_plane-clause-told c =
    let p = err_from_is_err_and c.from_residual.result c.from_residual.ensures.1 in
    rw p.1 (luma-out _ _ _ _ _ (rw c.grid_of.ensures.0 at c.in_err-predict_plane.ensures))

pub returns-in_err-predict_plane-2-clause-told : goal.returns-in_err-predict_plane-2-clause-told
returns-in_err-predict_plane-2-clause-told c =
    let p = err_from_is_err_and c.from_residual-in_err-predict_plane-2.result c.from_residual-in_err-predict_plane-2.ensures.1 in
    rw p.1 (first_out _ _ _ _ _ (rw c.grid_of.ensures.0 at c.in_ok-predict_plane.ensures) _ (rw c.grid_of-chroma.ensures.0 at c.in_err-predict_plane-2.ensures))

pub returns-clause-told : goal.returns-clause-told
returns-clause-told c =
    all_told _ _ _ _ _ (rw c.grid_of.ensures.0 at c.in_ok-predict_plane.ensures) _ (rw c.grid_of-chroma.ensures.0 at c.in_ok-predict_plane-2.ensures)
    _ _ (rw c.grid_of-chroma.ensures.0 at c.predict_plane-3.ensures)

pub returns-clause-done : goal.returns-clause-done
returns-clause-done c =
    let all = all_done _ _ _ _ _ (rw c.grid_of.ensures.0 at c.in_ok-predict_plane.ensures) _ (rw c.grid_of-chroma.ensures.0 at c.in_ok-predict_plane-2.ensures)
    _ _ (rw c.grid_of-chroma.ensures.0 at c.predict_plane-3.ensures) in
    search (rules, all)
