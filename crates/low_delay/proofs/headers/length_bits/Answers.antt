-- `low_delay::headers::length_bits` meets its contract: the least power of 2 that is enough has the least exponent.
use native.Mathlib.Omega.{arith}
use Rattle.low_delay.proofs.SlicesLaws.{length-bits-found, length-bits-most, length-bits-fit}
use Rattle.low_delay.proofs.headers.length_bits.Goals as goal

pub returns : goal.returns
returns c =
    let size = c.args.size in
    let power = c.next_power_of_two.ensures in
    let log = c.ilog2.ensures in
    let found = length-bits-found size _ _ power.power power.lower_bound power.upper_bound log.power_le log.next_power_gt in
    (found, rw found (length-bits-most size (omega arith)), rw found (length-bits-fit size (omega arith)))
