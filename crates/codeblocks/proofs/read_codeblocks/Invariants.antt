-- `codeblocks::read_codeblocks` meets its contract: at the loop's head what is left from the position reached is what was left at first.
use mathlib.Core.Path.{◌≡◌}
use Prim.Native.Nat.{◌-◌}
use Rattle.std.specs.Prelude.{Ok}
use Rattle.coefficients.specs.Scaling.{scale_of}
use Rattle.coefficients.proofs.PortionsLaws.{Follows}
use Rattle.codeblocks.specs.Blocks.{count_of, block_before}
use Rattle.codeblocks.proofs.PortionsLaws.{Sofar}
use Rattle.codeblocks.proofs.read_codeblocks.Given as goal

abbrev pub invariant-loop-bit : goal.invariant-loop-bit
invariant-loop-bit l =
    Sofar l.bytes l.initial.next (scale_of l.decoder.q) l.blocks l.initial.position l.initial.plane l.position (Ok l.next.bit) l.plane × Follows l.initial.next l.next
    × (l.block ≡ block_before l.blocks l.position.begun)

abbrev pub decreases-loop-bit : goal.decreases-loop-bit
decreases-loop-bit l = count_of l.blocks - l.position.begun
