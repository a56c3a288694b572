-- `exp_golomb::bits::take_bit` meets its contract: the bit is read where it is there, and answered as past the end where not.
use mathlib.Core.Path.{◌≡◌, sym, ◌∙◌}
use mathlib.Core.Bool.{true}
use Prim.Native.Nat.{◌*◌, ◌<◌, min}
use native.Mathlib.Omega.{arith}
use lib.ListN.{length}
use Rattle.exp_golomb.specs.Bits.{present, bit_at}
use Rattle.exp_golomb.proofs.BitsLaws.{present-below, take-present, take-past-stated, take-absent}
use Rattle.exp_golomb.proofs.bits.take_bit.Goals as goal
use Rattle.exp_golomb.proofs.bits.take_bit.Goals.{Then-is_present}

-- the bit is there
there : (c : Then-is_present) → present c.args.bytes.now c.args.end c.args.at ≡ true
there c = sym c.is_present.ensures ∙ c.if-is_present.true

below : (c : Then-is_present) → c.args.at < min c.args.end (8 * length c.args.bytes.now)
below c = present-below _ _ _ (there c)

pub bounds-bytes-at : goal.bounds-bytes-at
bounds-bytes-at c = omega (arith, present-below _ _ _ (sym c.is_present.ensures ∙ c.if-is_present.true))

pub overflow_add-next : goal.overflow_add-next
overflow_add-next c = omega (arith, below (goal.at.overflow_add-next c).Then-is_present, c.ranges.end)

pub returns-then-is_present : goal.returns-then-is_present
unfolding bit_at
returns-then-is_present c = rw c.from-byte.ensures (sym (take-present _ _ _ _ (there (goal.at.returns-then-is_present c).Then-is_present)))

pub returns-then-stated : goal.returns-then-stated
returns-then-stated c = sym (take-past-stated _ _ _ _ (sym c.is_present.ensures ∙ c.if-is_present.false) c.if-stated.true)

pub returns-else-stated : goal.returns-else-stated
returns-else-stated c = sym (take-absent _ _ _ _ (sym c.is_present.ensures ∙ c.if-is_present.false) c.if-stated.false)
