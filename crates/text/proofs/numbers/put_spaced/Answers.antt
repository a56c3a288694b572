use borrow.Author.Rules.{rules}
use mathlib.Core.Path.{refl}
use native.Mathlib.Omega.{arith}
use lib.IntN.{pos}
use lib.ListN.{get_or}
use mir.Syntax.{w32}
use Rattle.base.proofs.RangeLaws.{back}
use Rattle.text.specs.Text.{spaced}
use Rattle.text.proofs.PutLaws.{put-none, put_both}
use Rattle.text.proofs.TextLaws.{spaced-more}
use Rattle.text.proofs.numbers.put_spaced.Goals as goal

pub loop-number-init : goal.loop-number-init
unfolding spaced
loop-number-init c = (refl, omega arith, put-none _ _)

pub loop-number-preserved : goal.loop-number-preserved
loop-number-preserved c =
    let numbers = c.args.numbers.now in
    let x = c.loop-number.number-index in
    let read = back w32 (get_or numbers x (pos 0)) (search rules) in
    let same = spaced-more numbers x _ (omega arith) read in
    let put = c.put_next-end.ensures in (
      search rules,
      omega (arith, put.upper_bound),
      put_both _ _ _ _ _ _ _ _ _ same c.loop-number.invariant.2 put.put,
    )
