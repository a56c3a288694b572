use mathlib.Core.Path.{◌≡◌, sym, ◌∙◌}
use Prim.Native.Nat.{ℕ, ◌+◌, ◌*◌, ◌<◌}
use native.Mathlib.Nat.{zero-add}
use native.Mathlib.Omega.{arith}
use lib.IntN.{pos}
use lib.ListN.{get_or}
use Rattle.base.proofs.FillLaws.{fill_none, fill-append, fill-same, get_d-fill-start}
use Rattle.lines.specs.Buffers.{row_number}
use Rattle.lines.proofs.buffers.interleave_eights.Goals as goal
use Rattle.lines.proofs.buffers.interleave_eights.Goals.{After-interleave_part}

pub loop-i-init : goal.loop-i-init
loop-i-init c = sym (fill_none _ _ _)

-- the eight numbers that a turn copies are the next of the row
copied : (c : After-interleave_part) (k : ℕ) → k < 8
    → get_or c.interleave_part.new.plane (0 + k) (pos 0)
    ≡ row_number c.args.halves.now c.args.shift (8 * c.loop-i.i + k)
copied c k h = rw (zero-add k, c.interleave_part.ensures) (get_d-fill-start _ _ 8 k (pos 0) h h)

pub loop-i-preserved : goal.loop-i-preserved
loop-i-preserved c =
    let more : 8 * (c.loop-i.i + 1) ≡ 8 * c.loop-i.i + 8 = omega arith in
    c.copy.ensures ∙ fill-same _ _ _ _ 8 (copied (goal.at.loop-i-preserved c).After-interleave_part) ∙ rw (c.loop-i.invariant, more) (fill-append _ _ _ (8 * c.loop-i.i) 8)
