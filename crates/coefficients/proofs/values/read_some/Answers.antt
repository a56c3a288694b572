-- `coefficients::values::read_some` meets its contract: values that were read at once are as many values, and where there are none the plane is
-- as it was.
use mathlib.Core.Path.{◌≡◌, sym, ◌∙◌}
use native.Mathlib.Omega.{arith}
use Rattle.lookups.specs.Windows.{Ahead}
use Rattle.lookups.proofs.WindowsLaws.{is-window, window-top, window-ahead}
use Rattle.coefficients.specs.Scaling.{scale_of}
use Rattle.coefficients.specs.Values.{index_of}
use Rattle.coefficients.proofs.PortionsLaws.{portion-ahead, none_ahead}
use Rattle.coefficients.proofs.values.read_some.Goals as goal
use Rattle.coefficients.proofs.values.read_some.Goals.{After-window-w, Joined-small_fit, then-small_fit+then-is_window+else-batch-ne0, else-small_fit}

pub window-w-requires : goal.window-w-requires
window-w-requires c = (is-window _ _ _ (sym c.is_window.ensures ∙ c.if-is_window.true)).eight_bytes

-- the window's bits are ahead
there : (c : After-window-w) →
    let args = c.args in
    Ahead args.bytes.now args.cursor.end c.window-w.result args.cursor.bit 56
there c = window-ahead _ _ _ _ (is-window _ _ _ (sym c.is_window.ensures ∙ c.if-is_window.true)) (rw c.window-w.ensures (window-top _ _))

pub returns-then-batch-ne0-clause-read : goal.returns-then-batch-ne0-clause-read
returns-then-batch-ne0-clause-read c =
    portion-ahead _ c.args.cursor _ (index_of c.args.layout) _ _ _ _ c.read_batch-batch.result _ (c.args.decoder.small_known (sym c.small_fit.ensures ∙ c.if-small_fit.true))
    (there (goal.at.returns-then-batch-ne0-clause-read c).After-window-w) c.read_batch-batch.ensures.1

-- where no value was read at once, the plane is as it was
same-plane : (c : Joined-small_fit) → c.if-small_fit.plane ≡ c.args.plane.now
same-plane c =
    elim c.if-small_fit.branch [
      | then-small_fit+then-is_window+else-batch-ne0 w ↦
          w.plane-is
          ∙ none_ahead _ c.args.cursor (scale_of c.args.decoder.q) (index_of c.args.layout) c.args.i _ _ _ w.read_batch-batch.result _
          (c.args.decoder.small_known (sym c.small_fit.ensures ∙ w.if-small_fit.true))
          (window-ahead _ _ _ _ (is-window _ _ _ (sym w.is_window.ensures ∙ w.if-is_window.true)) (rw w.window-w.ensures (window-top _ _))) w.read_batch-batch.ensures.1 w.if-batch-ne0.false
      | else-small_fit w ↦ w.plane-is
    ]

pub read_value-requires : goal.read_value-requires
read_value-requires c =
    (c.requires.0, rw (same-plane (goal.at.read_value-requires c).Joined-small_fit) c.requires.1, c.requires.2)

pub returns : goal.returns
returns c =
    record { read = rw (same-plane (goal.at.returns c).Joined-small_fit) at c.read_value.ensures.read; some = (omega (arith, c.read_value.ensures.some.0, c.requires.0), c.read_value.ensures.some.1) }
