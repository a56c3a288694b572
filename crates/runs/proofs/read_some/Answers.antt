-- `runs::read_some` meets its contract: values that were read at once are as many values, and where there are none the run is as it was.
use mathlib.Core.Path.{◌≡◌, sym, ◌∙◌}
use native.Mathlib.Omega.{arith}
use Rattle.coefficients.specs.Scaling.{scale_of}
use Rattle.coefficients.specs.Values.{index_of}
use Rattle.runs.specs.Runs.{side_by_side}
use Rattle.runs.proofs.RunsLaws.{inside-sound, value-some, portion-padded, none-padded}
use Rattle.runs.proofs.read_some.Goals as goal
use Rattle.runs.proofs.read_some.Goals.{Joined-small_fit, then-small_fit+else-batch-ne0, else-small_fit}

pub returns-then-batch-ne0-clause-read : goal.returns-then-batch-ne0-clause-read
returns-then-batch-ne0-clause-read c =
    portion-padded _ c.args.cursor _ (index_of (side_by_side c.args.placing.count)) _ _ _ _ c.read_few-batch.result _
    (c.args.decoder.small_known (sym c.small_fit.ensures ∙ c.if-small_fit.true)) c.requires.2 c.padded_window-w.ensures c.read_few-batch.ensures.1 _ (omega arith)

-- where no value was read at once, the run is as it was
same-run : (c : Joined-small_fit) → c.if-small_fit.run ≡ c.args.run.now
same-run c =
    elim c.if-small_fit.branch [
      | then-small_fit+else-batch-ne0 w ↦
          w.run-is
          ∙ none-padded _ c.args.cursor (scale_of c.args.decoder.q) (index_of (side_by_side c.args.placing.count)) c.args.i _ _ _ w.read_few-batch.result _
          (c.args.decoder.small_known (sym c.small_fit.ensures ∙ w.if-small_fit.true)) c.requires.2 w.padded_window-w.ensures w.read_few-batch.ensures.1 w.if-batch-ne0.false
      | else-small_fit w ↦ w.run-is
    ]

pub read_value-requires : goal.read_value-requires
read_value-requires c =
    (c.requires.0, rw (same-run (goal.at.read_value-requires c).Joined-small_fit) c.requires.1, inside-sound _ _ c.requires.2)

pub returns : goal.returns
returns c =
    let reads = rw (same-run (goal.at.returns c).Joined-small_fit) at c.read_value.ensures.read in
    record { read = reads; some = value-some _ _ _ (side_by_side c.args.placing.count) _ _ _ _ c.requires.2 c.requires.0 reads c.read_value.ensures.some }
