-- `runs::padded::few_bytes` meets its contract: at the loop's head the bytes from byte i on, as many as have been taken, are one number.
use mathlib.Core.Path.{◌≡◌}
use Prim.Native.Nat.{◌*◌}
use Rattle.exp_golomb.specs.Bits.{bits_from}
use Rattle.runs.proofs.padded.few_bytes.Given as goal

abbrev pub invariant-loop-byte : goal.invariant-loop-byte
invariant-loop-byte l = l.w ≡ bits_from l.bytes (8 * l.i) (8 * l.byte-index)
