-- `lines::measures::magnitude` meets its contract: the bits of a number below 0, inverted, are those of the number mirrored at −1/2.
use mathlib.Core.Path.{◌≡◌}
use mathlib.Core.Bool.{true, false}
use Prim.Native.Nat.{ℕ, ◌-◌, ◌<◌, ◌^◌}
use native.Mathlib.Omega.{arith}
use borrow.Author.Tests.{le-ltb}
use lib.Dec.{T}
use lib.IntN.{ℤ, pos, negsuc, nat_abs}
use lib.Signed.{mag, lt_z, non_neg}
use mir.Syntax.{w32}
use mir.Val.{Fits, to_z, of_z}
use Rattle.std.proofs.lemmas.Int.{to_z_pos}
use Rattle.base.proofs.RangeLaws.{back}
use Rattle.lines.proofs.measures.magnitude.Goals as goal
use Rattle.lines.proofs.measures.magnitude.Goals.{Else-v-lt0, Then-v-lt0}

-- the inverted bits of a number below 0
inverted : (z : ℤ) → lt_z z (pos 0) ≡ true → mag z < 2 ^ 31 → to_z w32 (4294967295 - of_z w32 z) ≡ pos (mag z)
inverted (pos n) e small = cc (le-ltb n 0 (omega arith))
inverted (negsuc n) e small =
    let bits : 4294967295 - of_z w32 (negsuc n) ≡ n = omega arith in
    rw bits (to_z_pos w32 n small)

-- a number that is not below 0 is a natural number
plain : (z : ℤ) → lt_z z (pos 0) ≡ false → mag z < 2 ^ 31 → T (non_neg z) × Fits w32 (nat_abs z) × (nat_abs z ≡ mag z)
plain (pos n) e small = (tt, record { fits = omega arith }, omega arith)
plain (negsuc n) e small = let no : ◌≡◌ {A = ℕ} 0 1 = cc in absurd (omega arith)

turned : (c : Then-v-lt0) → to_z w32 (4294967295 - of_z w32 c.args.v) ≡ pos (mag c.args.v)
turned c = inverted c.args.v (rw (back w32 c.args.v c.ranges.v.sfits) at c.if-v-lt0.true) c.ranges.v.sfits

kept : (c : Else-v-lt0) → T (non_neg c.args.v) × Fits w32 (nat_abs c.args.v) × (nat_abs c.args.v ≡ mag c.args.v)
kept c = plain c.args.v (rw (back w32 c.args.v c.ranges.v.sfits) at c.if-v-lt0.false) c.ranges.v.sfits

pub overflow_cast-result : goal.overflow_cast-result
overflow_cast-result c = rw (turned c) (tt, record { fits = omega (arith, c.ranges.v.sfits) })

pub overflow_cast-result-else-v-lt0 : goal.overflow_cast-result-else-v-lt0
overflow_cast-result-else-v-lt0 c = rw (back w32 c.args.v c.ranges.v.sfits) ((kept c).0, (kept c).1)

pub returns-then-v-lt0 : goal.returns-then-v-lt0
returns-then-v-lt0 c = rw (turned c) (omega arith)

pub returns-else-v-lt0 : goal.returns-else-v-lt0
returns-else-v-lt0 c = rw (back w32 c.args.v c.ranges.v.sfits) (kept c).2
