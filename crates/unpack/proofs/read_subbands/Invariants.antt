-- `unpack::read_subbands` meets its contract: the subbands from subband k on give what all of them give, and their entries still
-- hold zeros. A subband is shorter than 2^36 bits, so the bits of all of them can be counted. Of the reader, .0 is its parameters and .1.0 its bytes.
use mathlib.Core.Path.{◌≡◌}
use Prim.Native.Nat.{◌-◌, ◌*◌, ◌^◌, ◌≤◌}
use lib.ListN.{length}
use Rattle.unpack.specs.Job.{subbands_from}
use Rattle.unpack.specs.Bounds.{ClearBandsFrom}
use Rattle.unpack.proofs.read_subbands.Given as goal

abbrev pub invariant-loop-k : goal.invariant-loop-k
invariant-loop-k l =
    (l.at ≤ l.k * 2 ^ 36) × (length l.plane ≡ length l.initial.plane) × ClearBandsFrom l.reader.0 l.k l.plane
    × (subbands_from l.reader.0 l.reader.1.0.now (l.count - l.k) l.k l.at l.plane ≡ subbands_from l.reader.0 l.reader.1.0.now l.count 0 0 l.initial.plane)
