-- `lifting32::loops::with_pair` meets its contract: the two numbers' sum fits as the contract says, and so does its product.
use mathlib.Core.Path.{◌≡◌, refl, ◌∙◌}
use Prim.Native.Nat.{◌^◌, ◌<◌}
use native.Mathlib.Omega.{arith}
use lib.IntN.{pos, ◌+ℤ◌}
use lib.ListN.{get_or}
use lib.Signed.{mag}
use mir.Syntax.{w32}
use mir.Val.{to_z, of_z}
use Rattle.base.proofs.Integers.{mag-size}
use Rattle.base.proofs.RangeLaws.{back}
use Rattle.lifting32.specs.Pairs.{pair_of}
use Rattle.lifting32.proofs.loops.with_pair.Goals as goal
use Rattle.lifting32.proofs.loops.with_pair.Goals.{After-with_product-arg-2-1}

-- the two numbers added, as the sum is handed on
added : (c : After-with_product-arg-2-1) → let a = c.args in
    to_z w32 (of_z w32 (to_z w32 (of_z w32 (get_or a.plane.now a.a (pos 0))) +ℤ to_z w32 (of_z w32 (get_or a.plane.now a.b (pos 0))))) ≡ pair_of a.plane.now a.a a.b
added c =
    let pair = pair_of c.args.plane.now c.args.a c.args.b in
    let small : mag pair < 2 ^ 31 = omega (arith, c.requires.small, mag-size pair) in
    rw (
      back w32 (get_or c.args.plane.now c.args.a (pos 0)) c.with_product-arg-1.given,
      back w32 (get_or c.args.plane.now c.args.b (pos 0)) c.with_product-arg-2-1.given,
    )
    (back w32 pair small)

pub with_product-requires : goal.with_product-requires
with_product-requires c =
    rw (added c, back w32 c.args.sum c.ranges.sum.sfits, back w32 c.args.tap c.ranges.tap.sfits) c.requires.product

pub returns : goal.returns
returns c =
    back w32 _ c.with_product.type_inv
    ∙ c.with_product.ensures
    ∙ rw (added c.before, back w32 c.args.sum c.ranges.sum.sfits, back w32 c.args.tap c.ranges.tap.sfits) refl
