-- `lookups::CodeTable::new`: every entry passes the test, which is computed.
use mathlib.Core.Path.{refl}
use Rattle.base.specs.Every.{all_below}
use Rattle.exp_golomb.specs.Bits.{bit_at, present, take_bit}
use Rattle.exp_golomb.specs.Codes.{on_bit, code_from, unsigned, with_sign_bit, signed}
use Rattle.lookups.specs.Lookups.{lookup_of}
use Rattle.lookups.proofs.LookupsLaws.{is_read, is_missing, bounded, all_ones, valued, lookup_test, entry_describes, table-describes}
use Rattle.lookups.proofs.CodeTable.new.Goals as goal

pub invariant_of-result : goal.invariant_of-result
unfolding all_below bit_at present take_bit on_bit code_from unsigned with_sign_bit signed lookup_of is_read is_missing bounded all_ones valued lookup_test entry_describes
invariant_of-result c = record { knows = table-describes _ refl }
