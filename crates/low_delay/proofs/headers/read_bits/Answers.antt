use mathlib.Core.Path.{◌≡◌}
use Prim.Native.Nat.{◌+◌, ◌^◌, ◌<◌}
use native.Mathlib.Omega.{arith}
use lib.Pow.{pow_mono}
use Rattle.exp_golomb.specs.Bits.{bit_at}
use Rattle.lookups.proofs.WindowsLaws.{bits_small, bits-split, one_bit}
use Rattle.low_delay.proofs.SlicesLaws.{bits_none}
use Rattle.low_delay.proofs.headers.read_bits.Goals as goal
use Rattle.low_delay.proofs.headers.read_bits.Goals.{In-loop-i}

pub loop-i-init : goal.loop-i-init
loop-i-init c = (omega arith, bits_none _ _)

-- the bits so far are few
few : (c : In-loop-i) → c.loop-i.v < 2 ^ 32
few c =
    let i = c.loop-i.i in
    omega (arith, c.loop-i.invariant.1, bits_small c.args.bytes.now c.args.at i, pow_mono {i = i} {j = 32} (omega arith))

pub overflow_mul-v : goal.overflow_mul-v
overflow_mul-v c = omega (arith, few (goal.at.overflow_mul-v c).In-loop-i)

pub overflow_add-v : goal.overflow_add-v
overflow_add-v c = omega (arith, few (goal.at.overflow_add-v c).In-loop-i)

pub loop-i-preserved : goal.loop-i-preserved
unfolding bit_at
loop-i-preserved c =
    let i = c.loop-i.i in
    (omega arith, rw c.from.ensures (omega (arith, c.loop-i.invariant.1, bits-split c.args.bytes.now c.args.at i 1, one_bit c.args.bytes.now (c.args.at + i))))

pub returns : goal.returns
returns c =
    let all : c.loop-i.i ≡ c.args.n = omega arith in
    rw (← all) (c.loop-i.invariant.1, rw c.loop-i.invariant.1 (bits_small _ _ _))
