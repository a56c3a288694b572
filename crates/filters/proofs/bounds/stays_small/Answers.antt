-- `filters::bounds::stays_small` meets its contract: a step reads the elements that it does not change, and where it does not stay small the size
-- after it is the bound itself.
use mathlib.Core.Path.{sym, ap, ◌∙◌}
use mathlib.Core.Bool.{Bool, not}
use Rattle.filters.specs.Bounds.{stays_small, bound_of}
use Rattle.filters.proofs.BoundsLaws.{after-below}
use Rattle.filters.proofs.bounds.stays_small.Goals as goal

pub returns-then-step : goal.returns-then-step
unfolding bound_of
returns-then-step c =
    let args = c.args in
    rw c.target_after.ensures
    (after-below args.step args.bounds.odd args.bounds.even
    ∙ ap (λ (even : Bool). stays_small args.step (bound_of args.bounds (not even)) (bound_of args.bounds even)) (sym c.if-step.true))

pub returns : goal.returns
unfolding bound_of
returns c =
    let args = c.args in
    rw c.target_after-2.ensures
    (after-below args.step args.bounds.even args.bounds.odd
    ∙ ap (λ (even : Bool). stays_small args.step (bound_of args.bounds (not even)) (bound_of args.bounds even)) (sym c.if-step.false))
