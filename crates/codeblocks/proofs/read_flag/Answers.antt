-- `codeblocks::read_flag` meets its contract: it reads no flag for the only codeblock, and a bit for one of several.
use mathlib.Core.Path.{sym}
use native.Mathlib.Omega.{arith}
use Rattle.codeblocks.proofs.FlagsLaws.{flag-absent, flag-taken}
use Rattle.codeblocks.proofs.read_flag.Goals as goal

pub returns-in_err-taken : goal.returns-in_err-taken
returns-in_err-taken c = rw c.from_residual.ensures (flag-absent _ _ _ (omega arith) (sym c.in_err-taken.ensures))

pub returns : goal.returns
returns c = flag-taken _ _ _ (omega arith) _ _ (sym c.in_ok-taken.ensures)
