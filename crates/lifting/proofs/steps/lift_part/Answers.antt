-- `lifting::steps::lift_part` meets its contract: the sums are exact in 64 bits, and each new number is tested.
use mathlib.Core.Path.{◌≡◌, refl, ◌∙◌}
use Prim.Native.Nat.{ℕ, ◌+◌, ◌<◌}
use native.Mathlib.Omega.{arith}
use lib.IntN.{pos}
use lib.ListN.{get_or}
use mathlib.Core.Bool.{true, false≢true}
use Rattle.std.specs.Prelude.{Result, Ok, Err, is_ok, OnOk}
use Rattle.base.specs.declared.status.OutOfRange.{OutOfRange}
use mir.Syntax.{w64}
use mir.Val.{to_z, of_z}
use Rattle.base.proofs.EveryLaws.{all_same}
use Rattle.base.proofs.FillLaws.{fill-same}
use Rattle.lines.specs.Sums.{changed}
use Rattle.filters.specs.Lifting.{rounding}
use Rattle.filters.proofs.LiftingLaws.{rounding-most, rounding-back}
use Rattle.lifting.specs.Lines.{line_new}
use Rattle.lifting.proofs.steps.lift_part.Goals as goal
use Rattle.lifting.proofs.steps.lift_part.Goals.{After-rounding_of-round}

-- what it is rounded with is document 01's
rounded : (c : After-rounding_of-round) → to_z w64 (of_z w64 c.rounding_of-round.result) ≡ rounding c.args.step.scale
rounded c = rounding-back _ _ c.requires.0.formed.small_scale c.rounding_of-round.ensures

pub sum_taps-requires : goal.sum_taps-requires
sum_taps-requires c =
    let formed = c.requires.0.formed in record { width_bound = (c.requires.1, formed.few_taps, rw (rounded (goal.at.sum_taps-requires c).After-rounding_of-round) (omega (arith, rounding-most c.args.step.scale formed.small_scale))); taps_fit = λ t h. (formed.small_taps t (omega (arith, formed.few_taps)), c.requires.0.sources_inside t h) }

-- what holds where lifting a line answers Ok
if-ok : {P : Type 0} (r : Result (Unit {0}) OutOfRange) → is_ok r ≡ true → OnOk r P → P
if-ok (Ok x) fits holds = holds
if-ok (Err e) wrong holds = absurd (false≢true wrong)

pub returns : goal.returns
returns c =
    let a = c.args in
    let same : (x : ℕ) → x < a.width → changed a.step.adds a.step.scale (get_or a.plane.now (a.start + x) (pos 0)) (get_or c.sum_taps.new.sums x (pos 0)) ≡ line_new a.step a.starts.now a.plane.now a.start x =
    λ x h. rw (c.sum_taps.ensures.summed x h, rounded (goal.at.returns c).After-rounding_of-round) refl
    in
    record {
      told = c.lift_line.ensures.told ∙ all_same _ _ a.width (λ x h. rw (same x h) refl);
      done = λ yes. if-ok _ yes c.lift_line.ensures.done ∙ fill-same a.plane.now a.start _ _ a.width same;
    }
