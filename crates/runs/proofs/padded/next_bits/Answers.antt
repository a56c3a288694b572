-- `runs::padded::next_bits` meets its contract: each way has the bits from bit `at` on, as far as the bytes go.
use mathlib.Core.Path.{◌∙◌}
use Prim.Native.Nat.{◌-◌, ◌*◌}
use native.Mathlib.Omega.{arith}
use lib.ListN.{length}
use Rattle.runs.proofs.PaddedLaws.{shows-window, window-aligned, shows-last}
use Rattle.runs.proofs.padded.next_bits.Goals as goal

pub returns-then-at-len : goal.returns-then-at-len
returns-then-at-len c = rw c.window.ensures (shows-window _ _)

pub returns : goal.returns
returns c =
    let len = length c.args.bytes.now in
    shows-last _ (8 * (len - 8)) 64 c.args.at _ _ (omega arith) (omega arith) (omega arith) (c.window-2.ensures ∙ window-aligned _ (len - 8)) (omega arith)
