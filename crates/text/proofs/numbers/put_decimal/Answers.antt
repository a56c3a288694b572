-- `text::numbers::put_decimal` meets its contract: the fewest digits that hold the number are those that its text has.
use mathlib.Core.Path.{◌∙◌}
use native.Mathlib.Omega.{arith}
use Rattle.text.proofs.TextLaws.{digits_decimal, fewest-most}
use Rattle.text.proofs.PutLaws.{put_same}
use Rattle.text.proofs.numbers.put_decimal.Goals as goal

pub put_word-requires : goal.put_word-requires
put_word-requires c =
    omega (arith, c.decimal-count.ensures.in_bounds, fewest-most c.args.n c.decimal-count.result c.decimal-count.ensures.len c.ranges.n.fits)

pub returns : goal.returns
returns c =
    let few = fewest-most c.args.n c.decimal-count.result c.decimal-count.ensures.len c.ranges.n.fits in
    let told = c.decimal-count.ensures.digits ∙ digits_decimal c.args.n c.decimal-count.result c.decimal-count.ensures.len few in
    let put = c.put_word.ensures in
    record { put = put_same _ _ _ _ _ _ told put; upper_bound = omega (arith, c.decimal-count.ensures.in_bounds, put.0) }
