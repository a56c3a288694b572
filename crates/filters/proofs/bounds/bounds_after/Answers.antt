-- `filters::bounds::bounds_after` meets its contract: the bound of the elements that the step changes is renewed.
use mathlib.Core.Path.{sym, ap, ◌∙◌}
use Prim.Native.Nat.{ℕ}
use Rattle.filters.proofs.BoundsLaws.{bounds_pair, after-even, after-odd}
use Rattle.filters.proofs.bounds.bounds_after.Goals as goal

pub returns-then-step : goal.returns-then-step
returns-then-step c =
    ap (λ (n : ℕ). bounds_pair n c.args.bounds.odd) c.target_after.ensures
    ∙ sym (after-even c.args.step c.args.bounds c.if-step.true)

pub returns : goal.returns
returns c =
    ap (λ (n : ℕ). bounds_pair c.args.bounds.even n) c.target_after-2.ensures
    ∙ sym (after-odd c.args.step c.args.bounds c.if-step.false)
