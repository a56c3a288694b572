-- `coefficients::values::read_lookups` meets its contract: each lookup reads the values after those of the lookups before it, and takes at most
-- eight of the 56 bits.
use Prim.Native.Nat.{◌*◌, ◌≤◌}
use Rattle.coefficients.proofs.BatchesLaws.{Taken}
use Rattle.coefficients.proofs.values.read_lookups.Given as goal

abbrev pub invariant-loop : goal.invariant-loop
invariant-loop g l =
    let layout = g.P.Placing.layout l.placing in
    (l.counter ≤ 7) × (l.bits ≤ 8 * l.counter) × (l.i ≤ layout.count) × Taken l.window l.decoder.small.now layout l.from l.initial.plane l.w l.i l.bits l.plane
