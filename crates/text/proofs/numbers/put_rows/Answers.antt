use mathlib.Core.Path.{◌≡◌, refl, ◌∙◌}
use Prim.Native.Nat.{suc, ◌+◌, ◌*◌, ◌≤◌}
use native.Mathlib.Nat.{mul-suc, mul_comm}
use native.Mathlib.Omega.{arith}
use lib.ListN.{length}
use Rattle.base.proofs.Grids.{row_room}
use Rattle.base.proofs.ListsLaws.{length_part}
use Rattle.text.specs.Text.{rows_text}
use Rattle.text.proofs.PutLaws.{put-none, put_both}
use Rattle.text.proofs.TextLaws.{rows_more}
use Rattle.text.proofs.numbers.put_rows.Goals as goal

pub loop-y-init : goal.loop-y-init
unfolding rows_text
loop-y-init c = (refl, omega arith, put-none _ _)

pub loop-y-preserved : goal.loop-y-preserved
loop-y-preserved c =
    let width = c.args.width in
    let y = c.loop-y.y in
    let put = c.put_row-end.ensures in
    let room : y * width + width ≤ length c.args.numbers.now =
    omega (arith, row_room width y c.args.height (omega arith), mul_comm width y, mul_comm width c.args.height)
    in
    let size = length_part c.args.numbers.now (y * width) width room in
    let next : y + 1 ≡ suc y = omega arith in
    let same = rows_more width y c.args.numbers.now (y * width) (mul_comm y width) in (
      c.put_row-end.auto.text ∙ c.loop-y.invariant.0,
      rw next (omega (arith, put.upper_bound, size, mul-suc width y)),
      put_both _ _ _ _ _ _ _ _ _ same c.loop-y.invariant.2 put.put,
    )
