-- `contents::table::entry_at` meets its contract: the bytes of an entry of a right table are in the file.
use native.Mathlib.Omega.{arith}
use Rattle.contents.proofs.TableLaws.{entries_bounded, entry_inside}
use Rattle.contents.proofs.table.entry_at.Goals as goal

pub parameters_at-requires : goal.parameters_at-requires
parameters_at-requires c =
    (omega (arith, entries_bounded c.args.file.now), entry_inside c.args.file.now c.args.k c.requires)

pub four_bytes_at-requires : goal.four_bytes_at-requires
four_bytes_at-requires c =
    omega (arith, entry_inside c.args.file.now c.args.k c.requires)

pub four_bytes_at-requires-2 : goal.four_bytes_at-requires-2
four_bytes_at-requires-2 c =
    omega (arith, entry_inside c.args.file.now c.args.k c.requires)
