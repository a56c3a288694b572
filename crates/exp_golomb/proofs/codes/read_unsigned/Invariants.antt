-- `exp_golomb::codes::read_unsigned` meets its contract: at the loop's head the rest of the code, from the value and the bit so far, is the whole code.
use mathlib.Core.Path.{◌≡◌}
use Prim.Native.Nat.{◌+◌, ◌-◌, ◌^◌, ◌≤◌, ◌<◌}
use Rattle.exp_golomb.specs.Codes.{code_from, unsigned}
use Rattle.exp_golomb.proofs.codes.read_unsigned.Given as goal

abbrev pub invariant-loop : goal.invariant-loop
invariant-loop l = (1 ≤ l.v) × (l.v < 2 ^ (l.counter + 1)) × (code_from l.bytes l.end l.stated (31 - l.counter) l.v l.i ≡ unsigned l.bytes l.end l.stated l.fn.at)
