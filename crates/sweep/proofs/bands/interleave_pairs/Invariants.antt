-- `sweep::bands::interleave_pairs` meets its contract: after some turns the bands of as many pairs are interleaved, and their numbers measured.
use Prim.Native.Nat.{ℕ, suc, ◌≤◌, ◌<◌}
use Rattle.sweep.specs.Bands.{PairWithin, band_rows}
use Rattle.sweep.specs.Pairs.{FramePut}
use Rattle.sweep.proofs.bands.interleave_pairs.Given as goal

abbrev pub invariant-loop-r : goal.invariant-loop-r
invariant-loop-r l =
    FramePut l.frame l.from l.r (band_rows l.frame l.padded_width l.initial.work l.coefficients) l.initial.work l.work
    × ((k : ℕ) → l.from ≤ k → k < l.r → PairWithin l.frame k (suc l.most) l.work)
