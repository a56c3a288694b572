-- `coefficients::values::read_many` meets its contract: ones are zeros; and anything else as `read_lookups`, but each lookup goes at most nine
-- values further, and seven of them do not pass the layout's end.
use Prim.Native.Nat.{◌+◌, ◌*◌, ◌≤◌}
use Rattle.coefficients.proofs.BatchesLaws.{Taken}
use Rattle.coefficients.proofs.values.read_many.Given as goal

abbrev pub invariant-loop : goal.invariant-loop
invariant-loop l = (l.counter ≤ 7) × (l.bits ≤ 8 * l.counter) × (l.i ≤ l.from + 9 * l.counter) × Taken l.window l.decoder.small.now l.layout l.from l.initial.plane l.w l.i l.bits l.plane
