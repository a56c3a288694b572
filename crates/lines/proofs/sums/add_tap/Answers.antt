use mathlib.Core.Path.{◌≡◌, sym, ◌∙◌}
use Prim.Native.Nat.{◌+◌, ◌^◌, ◌≤◌, ◌<◌}
use native.Mathlib.Omega.{arith}
use borrow.Author.Count.{below_more}
use lib.IntN.{ℤ, pos, nat_abs, ◌+ℤ◌, ◌*ℤ◌}
use lib.ListN.{get_or}
use lib.Signed.{mag}
use mir.Syntax.{w32, w64}
use mir.Val.{to_z, of_z}
use Rattle.base.proofs.FillLaws.{fill_none, fill_more, get_d-fill-out}
use Rattle.base.proofs.RangeLaws.{back}
use Rattle.lines.proofs.SumsLaws.{product_small, product-fits, sum_fits, below-added}
use Rattle.lines.proofs.sums.add_tap.Goals as goal
use Rattle.lines.proofs.sums.add_tap.Goals.{After-from, After-sums-1}

pub loop-x-init : goal.loop-x-init
loop-x-init c = (sym (fill_none _ _ _), λ k h. absurd (omega arith))

-- the tap times the number that it meets, its size, and the sum that it is added to, which no turn has changed
abbrev product : After-from → ℤ
product c = to_z w64 (of_z w64 c.args.tap) *ℤ get_or c.args.source.now (c.args.start + c.loop-x.x) (pos 0)

read : (c : After-from) → to_z w64 (of_z w64 c.from.result) ≡ get_or c.args.source.now (c.args.start + c.loop-x.x) (pos 0)
read c = back w64 _ c.from.type_inv ∙ c.from.ensures ∙ back w32 _ c.from-arg-1.given

small : (c : After-from) → nat_abs (product c) ≤ 2 ^ 44
small c = rw (back w64 c.args.tap c.ranges.tap.sfits) (product_small c.args.tap _ c.requires.tap_bound.0 c.from-arg-1.given)

old : (c : After-sums-1) → to_z w64 (of_z w64 (get_or c.loop-x.sums c.loop-x.x (pos 0))) ≡ get_or c.args.sums.now c.loop-x.x (pos 0)
old c =
    let same : get_or c.loop-x.sums c.loop-x.x (pos 0) ≡ get_or c.args.sums.now c.loop-x.x (pos 0) =
    rw c.loop-x.invariant.0 (get_d-fill-out _ 0 _ c.loop-x.x c.loop-x.x (pos 0) (λ k below. omega arith)) in
    back w64 _ c.sums-1.given ∙ same

pub overflow_mul-sums : goal.overflow_mul-sums
overflow_mul-sums c = rw (read c) (record { sfits = product-fits (product c) (small c) })

added : (c : After-sums-1) → to_z w64 (of_z w64 (to_z w64 (of_z w64 c.args.tap) *ℤ to_z w64 (of_z w64 c.from.result))) ≡ product c.before
added c = rw (read c.before) (back w64 (product c.before) (product-fits (product c.before) (small c.before)))

fits : (c : After-sums-1) → mag (get_or c.args.sums.now c.loop-x.x (pos 0) +ℤ product c.before) < 2 ^ 63
fits c = sum_fits (get_or c.args.sums.now c.loop-x.x (pos 0)) (product c.before) (c.requires.tap_bound.1 c.loop-x.x (omega arith)) (small c.before)

pub overflow_add-sums : goal.overflow_add-sums
overflow_add-sums c = rw (old c, added c) (record { sfits = fits c })

pub loop-x-preserved : goal.loop-x-preserved
loop-x-preserved c = (
  rw (old c, added c, back w64 (get_or c.args.sums.now c.loop-x.x (pos 0) +ℤ product c.before) (fits c), c.loop-x.invariant.0)
      (fill_more _ 0 _ _ _ (omega arith)),
  below_more _ _ c.loop-x.invariant.1 (small c.before),
)

pub returns-clause-small : goal.returns-clause-small
returns-clause-small c m below x h =
    let all : c.loop-x.x ≡ c.args.width = omega arith in
    rw (c.loop-x.invariant.0, all) (below-added _ _ _ m (2 ^ 44) (rw all at c.loop-x.invariant.1) below x h)
