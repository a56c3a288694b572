-- `lines::buffers::interleave` meets its contract: the eights are stored, and then the numbers that are left.
use mathlib.Core.Path.{◌≡◌, refl}
use Prim.Native.Nat.{◌+◌, ◌-◌, ◌*◌, ◌/◌}
use native.Mathlib.Omega.{arith}
use Rattle.base.proofs.FillLaws.{fill-append}
use Rattle.lines.proofs.buffers.interleave.Goals as goal

pub returns : goal.returns
returns c =
    let count = c.args.count in
    let done = 8 * (count / 8) in
    let all : done + (count - done) ≡ count = omega arith in
    rw (c.interleave_part.ensures, c.interleave_eights.ensures, fill-append _ _ _ done (count - done), all) refl
