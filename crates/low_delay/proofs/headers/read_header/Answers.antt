-- `low_delay::headers::read_header` meets its contract: it reads the numbers of the definition, whose tests it makes in their order.
use mathlib.Core.Path.{sym, ◌∙◌}
use native.Mathlib.Omega.{arith}
use Rattle.low_delay.proofs.BoundsLaws.{header-long, header-index, header_read, header-sound}
use Rattle.low_delay.proofs.headers.read_header.Goals as goal

pub returns-then-own-middle-clause-result_value : goal.returns-then-own-middle-clause-result_value
returns-then-own-middle-clause-result_value c = header-long _ _ _ _ _ _ c.read_bits-index.ensures.0 c.length_bits-n.ensures.0 c.read_bits.ensures.0 (omega (arith, c.if-own-middle.true))

pub returns-then-not-indices_fit-clause-result_value : goal.returns-then-not-indices_fit-clause-result_value
returns-then-not-indices_fit-clause-result_value c =
    header-index _ _ _ _ _ _ c.read_bits-index.ensures.0 c.length_bits-n.ensures.0 c.read_bits.ensures.0
    c.if-own-middle.false (sym c.indices_fit.ensures ∙ c.if-not-indices_fit.true)

pub returns-clause-result_value : goal.returns-clause-result_value
returns-clause-result_value c =
    header_read _ _ _ _ _ _ c.read_bits-index.ensures.0 c.length_bits-n.ensures.0 c.read_bits.ensures.0
    c.if-own-middle.false (sym c.indices_fit.ensures ∙ c.if-not-indices_fit.false)

pub returns-clause-sound_header : goal.returns-clause-sound_header
returns-clause-sound_header c =
    header-sound _ _ c.args.start _ _ _ c.read_bits-index.ensures.0 c.length_bits-n.ensures.0 c.read_bits.ensures.0
    c.if-own-middle.false (sym c.indices_fit.ensures ∙ c.if-not-indices_fit.false)
