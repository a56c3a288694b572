-- `lookups::window` meets its contract: eight bytes are 64 bits, and the shift drops those before the first.
use native.Mathlib.Omega.{arith}
use Rattle.lookups.proofs.WindowsLaws.{window-whole}
use Rattle.lookups.proofs.window.Goals as goal

pub returns : goal.returns
returns c = rw c.from_be_bytes.ensures (window-whole c.args.bytes.now c.args.at (λ k. let small = c.type_inv.bytes k in omega arith))
