-- `coefficients::values::not_read` meets its contract: its answers are the definition's.
use mathlib.Core.Path.{sym, ◌∙◌}
use Rattle.coefficients.proofs.PortionsLaws.{not-read-short, not-read-long, not-read-read}
use Rattle.coefficients.proofs.values.not_read.Goals as goal

pub returns-in-CodeTooLong : goal.returns-in-CodeTooLong
returns-in-CodeTooLong c = λ n is. not-read-long n c.in-Err.fault c.args.cursor (sym c.in-Err.is ∙ is) c.in-CodeTooLong.is

pub returns-in_default-refusal : goal.returns-in_default-refusal
returns-in_default-refusal c = λ n is. not-read-short n c.in-Err.fault c.args.cursor (sym c.in-Err.is ∙ is) c.in_default-refusal.not-CodeTooLong

pub returns-in_default : goal.returns-in_default
returns-in_default c = λ n is. not-read-read n c.in_default.field-0 c.args.cursor (sym c.in_default.is ∙ is)
