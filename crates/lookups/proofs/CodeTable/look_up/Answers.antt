-- `lookups::CodeTable::look_up` meets its contract: the lookup is that of the table's entry.
use native.Mathlib.Omega.{arith}
use Rattle.lookups.specs.Lookups.{lookup_of}
use Rattle.lookups.proofs.CodeTable.look_up.Goals as goal

pub returns : goal.returns
unfolding lookup_of
returns c = rw c.from-entry.ensures (c.args.self.now.knows.each _ (omega arith))
