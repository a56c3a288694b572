-- `text::numbers::put_signed` meets its contract: a number of signed 32 bits has at most ten digits.
use mathlib.Core.Path.{ap, ◌∙◌}
use native.Mathlib.Omega.{arith}
use lib.IntN.{nat_abs}
use mir.Syntax.{w32}
use Rattle.base.proofs.RangeLaws.{back}
use Rattle.text.proofs.TextLaws.{size-short}
use Rattle.text.proofs.numbers.put_signed.Goals as goal
use Rattle.text.proofs.numbers.put_signed.Goals.{then-number-lt0, else-number-lt0}

pub returns-clause-upper_bound : goal.returns-clause-upper_bound
returns-clause-upper_bound c =
    let size = c.from.ensures ∙ c.unsigned_abs.ensures.value ∙ ap nat_abs (back w32 c.args.number c.ranges.number.sfits) in
    let short = size-short c.args.number _ c.ranges.number.sfits size in
    let put = c.put_decimal.ensures.put.0 in
    elim c.if-number-lt0.branch [
      | then-number-lt0 w ↦ omega (arith, short, put, w.digits-is, w.put_word-digits.ensures.0)
      | else-number-lt0 w ↦ omega (arith, short, put, w.digits-is)
    ]
