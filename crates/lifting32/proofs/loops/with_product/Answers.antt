-- `lifting32::loops::with_product` meets its contract: the product fits 32 bits, and so does the sum with it.
use mathlib.Core.Path.{◌≡◌, ◌∙◌}
use Prim.Native.Nat.{◌^◌, ◌<◌}
use native.Mathlib.Omega.{arith}
use lib.IntN.{◌+ℤ◌, ◌*ℤ◌}
use lib.Signed.{mag}
use mir.Syntax.{w16, w32}
use mir.Val.{to_z, of_z}
use Rattle.base.proofs.Integers.{mag-size, size-add}
use Rattle.base.proofs.RangeLaws.{back}
use Rattle.lifting32.proofs.loops.with_product.Goals as goal
use Rattle.lifting32.proofs.loops.with_product.Goals.{After-from, Start}

-- there is room for the product, alone and beside the sum
alone : (s : Start) → mag (s.args.tap *ℤ s.args.v) < 2 ^ 31
alone s = omega (arith, s.requires.room, mag-size (s.args.tap *ℤ s.args.v))

beside : (s : Start) → mag (s.args.sum +ℤ s.args.tap *ℤ s.args.v) < 2 ^ 31
beside s =
    let p = s.args.tap *ℤ s.args.v in
    omega (arith, s.requires.room, mag-size (s.args.sum +ℤ p), size-add s.args.sum p)

-- the product and the sum, as they are computed
product : (s : Start) → to_z w32 (of_z w32 (to_z w32 (of_z w32 s.args.tap) *ℤ s.args.v)) ≡ s.args.tap *ℤ s.args.v
product s = rw (back w32 s.args.tap s.ranges.tap.sfits) (back w32 (s.args.tap *ℤ s.args.v) (alone s))

sum : (s : Start) → to_z w32 (of_z w32 (to_z w32 (of_z w32 s.args.sum) +ℤ s.args.tap *ℤ s.args.v)) ≡ s.args.sum +ℤ s.args.tap *ℤ s.args.v
sum s = rw (back w32 s.args.sum s.ranges.sum.sfits) (back w32 (s.args.sum +ℤ s.args.tap *ℤ s.args.v) (beside s))

-- the number as 16 bits
shortened : (c : After-from) → to_z w32 (of_z w32 c.from.result) ≡ c.args.v
shortened c =
    let v = c.args.v in
    let small : mag v < 2 ^ 15 = omega (arith, c.requires.narrowed c.if-narrow.true, mag-size v) in
    back w32 _ c.from.type_inv ∙ c.from.ensures ∙ rw (back w32 v c.ranges.v.sfits) (back w16 v small)

pub overflow_add-result : goal.overflow_add-result
overflow_add-result c =
    let s = (goal.at.overflow_add-result c).Start in
    rw (shortened (goal.at.overflow_add-result c).After-from, product s, back w32 c.args.sum c.ranges.sum.sfits) (record { sfits = beside s })

pub returns-then-narrow : goal.returns-then-narrow
returns-then-narrow c =
    let s = (goal.at.returns-then-narrow c).Start in
    rw (shortened (goal.at.returns-then-narrow c).After-from, product s) (sum s)

pub overflow_add-result-2 : goal.overflow_add-result-2
overflow_add-result-2 c =
    let s = (goal.at.overflow_add-result-2 c).Start in
    rw (back w32 c.args.v c.ranges.v.sfits, product s, back w32 c.args.sum c.ranges.sum.sfits) (record { sfits = beside s })

pub returns : goal.returns
returns c =
    let s = (goal.at.returns c).Start in
    rw (back w32 c.args.v c.ranges.v.sfits, product s) (sum s)
