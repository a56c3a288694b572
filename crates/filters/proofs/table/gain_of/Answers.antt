use mathlib.Core.Path.{◌≡◌, refl, sym, ◌∙◌}
use Prim.Native.Nat.{◌^◌}
use native.Mathlib.Numerals.{add-one}
use native.Mathlib.Omega.{arith}
use lib.IntN.{pos, nat_abs}
use lib.ListN.{get_or}
use mir.Syntax.{w64}
use Rattle.base.proofs.Integers.{mag-size}
use Rattle.base.proofs.RangeLaws.{back}
use Rattle.filters.specs.Table.{sizes_of}
use Rattle.filters.proofs.TableLaws.{sizes-more, sizes-most}
use Rattle.filters.proofs.table.gain_of.Goals as goal
use Rattle.filters.proofs.table.gain_of.Goals.{After-unsigned_abs-gain}

pub loop-t-init : goal.loop-t-init
unfolding sizes_of
loop-t-init c = refl

-- a tap's size
size : (c : After-unsigned_abs-gain) → c.unsigned_abs-gain.result ≡ nat_abs (get_or c.args.taps.now c.loop-t.t (pos 0))
size c =
    let tap = get_or c.args.taps.now c.loop-t.t (pos 0) in
    c.unsigned_abs-gain.ensures.value ∙ rw (back w64 tap (omega (arith, mag-size tap, c.requires.1 c.loop-t.t (omega arith)))) refl

pub overflow_add-gain : goal.overflow_add-gain
overflow_add-gain c =
    omega (
      arith,
      c.loop-t.invariant,
      sizes-most c.args.taps.now c.loop-t.t (2 ^ 13) (λ k h. c.requires.1 k (omega arith)),
      c.requires.1 c.loop-t.t (omega arith),
      size (goal.at.overflow_add-gain c).After-unsigned_abs-gain,
    )

pub loop-t-preserved : goal.loop-t-preserved
loop-t-preserved c =
    rw (size (goal.at.loop-t-preserved c).After-unsigned_abs-gain, c.loop-t.invariant, add-one c.loop-t.t) (sym (sizes-more c.args.taps.now c.loop-t.t))
