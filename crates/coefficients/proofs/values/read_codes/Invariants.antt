-- `coefficients::values::read_codes` meets its contract: each turn reads one value, and takes at most eight of the 56 bits.
use Prim.Native.Nat.{◌-◌, ◌*◌, ◌≤◌}
use Rattle.coefficients.proofs.BatchesLaws.{Taken}
use Rattle.coefficients.proofs.values.read_codes.Given as goal

abbrev pub invariant-loop-i : goal.invariant-loop-i
invariant-loop-i l = (l.bits ≤ 8 * (l.i - l.from)) × (l.i ≤ l.layout.count) × Taken l.window l.decoder.small.now l.layout l.from l.initial.plane l.w l.i l.bits l.plane
