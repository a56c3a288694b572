use mathlib.Core.Path.{◌≡◌, sym, ◌∙◌}
use Prim.Native.Nat.{◌+◌}
use native.Mathlib.Omega.{arith}
use lib.IntN.{pos}
use lib.ListN.{get_or}
use mir.Syntax.{w32}
use Rattle.base.proofs.RangeLaws.{back}
use Rattle.lines.proofs.BuffersLaws.{ends, ends-none, ends_more, ends-clamped, ends-kept}
use Rattle.lines.proofs.buffers.extend.Goals as goal

pub loop-i-init : goal.loop-i-init
loop-i-init c = sym (ends-none _ _ _ _ _)

pub loop-i-preserved : goal.loop-i-preserved
loop-i-preserved c = rw c.loop-i.invariant (ends_more _ _ _ _ _ _ (omega arith))

pub returns : goal.returns
returns c =
    let args = c.args in
    let halves = args.halves.now in
    let four : c.loop-i.i ≡ 4 = omega arith in
    let all : c.loop-i.all ≡ ends halves args.base args.half 4 (get_or halves (args.base + 4) (pos 0)) (get_or halves (args.base + args.half + 3) (pos 0)) =
    c.loop-i.invariant
    ∙ rw (
      four,
      back w32 (get_or halves (args.base + 4) (pos 0)) c.first-1.given,
      back w32 (get_or halves (args.base + args.half + 3) (pos 0)) c.last-1.given,
    )
    in record { repeated = λ s h. rw all (ends-clamped halves args.base args.half s c.requires.1 (omega arith) h); kept = λ p outside. rw all (ends-kept halves args.base args.half _ _ p outside) }
