-- `coefficients::values::read_value` meets its contract: a number that was read is stored; of any other the definition says what follows.
use mathlib.Core.Path.{refl}
use native.Mathlib.Omega.{arith}
use Rattle.exp_golomb.proofs.CodesLaws.{result-read, result-fault}
use Rattle.coefficients.specs.Values.{index_of}
use Rattle.coefficients.proofs.PortionsLaws.{number-before, not-read-some, portion-stored, portion-not-read}
use Rattle.coefficients.proofs.values.read_value.Goals as goal

pub store_value-requires : goal.store_value-requires
store_value-requires g c =
    let close_to_end = number-before c.args.bytes.now c.args.cursor c.requires.2.before_end in
    (rw c.index_at-index.ensures (c.requires.1.inside _ c.requires.0), omega (arith, rw (result-read _ _ c.in-Ok.ensures) at close_to_end, c.requires.2.small))

pub not_read-requires : goal.not_read-requires
not_read-requires g c =
    omega (arith, (result-fault _ _ c.in-Err.ensures).1, number-before c.args.bytes.now c.args.cursor c.requires.2.before_end, c.requires.2.small)

pub returns-in-Ok-clause-read : goal.returns-in-Ok-clause-read
returns-in-Ok-clause-read g c =
    portion-stored _ _ _ (index_of (g.P.Placing.layout c.args.placing)) _ _ _ refl c.requires.2.before_end _ _ _ _ _ (result-read _ _ c.in-Ok.ensures)
    (rw c.index_at-index.ensures at c.store_value.ensures)

pub returns-in-Err-clause-read : goal.returns-in-Err-clause-read
returns-in-Err-clause-read g c =
    rw (c.not_read.ensures _ c.in-Err.ensures)
    (portion-not-read _ c.args.cursor _ (index_of (g.P.Placing.layout c.args.placing)) c.args.i _ _ refl c.requires.2.before_end (result-fault _ _ c.in-Err.ensures).2)

pub returns-in-Err-clause-some : goal.returns-in-Err-clause-some
returns-in-Err-clause-some g c = rw (c.not_read.ensures _ c.in-Err.ensures) (not-read-some _ c.args.cursor)
