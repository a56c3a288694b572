-- `lifting::steps::lift_in_32_bits` meets its contract: where the step stays small, its sums and new numbers fit 32 bits and nothing is to be
-- tested.
use mathlib.Core.Path.{◌≡◌, refl, sym, ◌∙◌}
use Prim.Native.Nat.{ℕ, ◌+◌, ◌^◌, ◌<◌}
use native.Mathlib.Nat.{lt_of_le_of_lt}
use native.Mathlib.Omega.{arith}
use borrow.Author.Tests.{ltb-true}
use lib.IntN.{nat_abs}
use lib.Signed.{mag}
use mir.Syntax.{w32, w64}
use mir.Val.{to_z, of_z}
use mathlib.Core.Bool.{true}
use Rattle.base.specs.Range.{fits32}
use Rattle.base.proofs.EveryLaws.{all_from}
use Rattle.base.proofs.Integers.{mag-size}
use Rattle.base.proofs.RangeLaws.{back}
use Rattle.lines.specs.Sums.{sizes_below, tap_at}
use Rattle.filters.specs.Lifting.{rounding}
use Rattle.filters.proofs.BoundsLaws.{products-fit, line_fits}
use Rattle.filters.proofs.LiftingLaws.{rounding-most, rounding-back}
use Rattle.lifting.specs.Lines.{line_new}
use Rattle.lifting.proofs.steps.lift_in_32_bits.Goals as goal
use Rattle.lifting.proofs.steps.lift_in_32_bits.Goals.{After-rounding_of, Start}

-- what it is rounded with is document 01's, which is small; and it is that in 32 bits too
small : (c : After-rounding_of) → mag (rounding c.args.step.scale) < 2 ^ 31
small c =
    let scale = c.args.step.scale in
    omega (arith, mag-size (rounding scale), rounding-most scale c.requires.line_inside.0.formed.small_scale)

rounded : (c : After-rounding_of) → to_z w64 (of_z w64 c.rounding_of.result) ≡ rounding c.args.step.scale
rounded c = rounding-back _ _ c.requires.line_inside.0.formed.small_scale c.rounding_of.ensures

pub overflow_cast-line : goal.overflow_cast-line
overflow_cast-line c =
    let at = (goal.at.overflow_cast-line c).After-rounding_of in
    rw (rounded at) (record { sfits = small at })

handed : (c : After-rounding_of) → to_z w32 (of_z w32 (to_z w64 (of_z w64 c.rounding_of.result))) ≡ rounding c.args.step.scale
handed c = rw (rounded c) (back w32 _ (small c))

-- the sums and the new numbers are small
sums-fit : (s : Start) → let a = s.args in
    (x : ℕ) → x < a.width → nat_abs (rounding a.step.scale) + sizes_below (tap_at a.step.taps a.starts.now a.plane.now x) a.step.count < 2 ^ 31
sums-fit s = products-fit s.args.step s.requires.line_inside.0.formed _ _ _ _ _ s.requires.line_inside.1.sources s.requires.bounds_value _ refl

new_fit : (s : Start) → let a = s.args in (x : ℕ) → x < a.width → fits32 (line_new a.step a.starts.now a.plane.now a.start x) ≡ true
new_fit s =
    line_fits s.args.step s.requires.line_inside.0.formed _ _ _ _ _ s.requires.line_inside.1.sources s.requires.bounds_value _ refl s.args.plane.now s.args.start s.requires.line_inside.1.target

pub lift_small-requires : goal.lift_small-requires
lift_small-requires c =
    let line = c.requires.line_inside.0 in
    let formed = line.formed in
    let start = (goal.at.lift_small-requires c).Start in
    rw (handed (goal.at.lift_small-requires c).After-rounding_of)
    (record {
      some_taps = formed.some_taps;
      few_taps = formed.few_taps;
      symmetric = formed.symmetric;
      real_taps = formed.real_taps;
      small_taps = λ t h. omega (arith, formed.small_taps t (omega (arith, formed.few_taps)));
      reads = λ t h. record { inside = line.sources_inside t h; apart = λ x k. line.apart t x k h };
      narrowed = λ narrow t x h inside.
          lt_of_le_of_lt (c.requires.line_inside.1.sources t h x inside) (ltb-true _ _ (sym c.reads_narrow-narrow.ensures ∙ narrow));
      room = sums-fit start;
      line_fits = record { inside = line.inside; scaled = omega (arith, formed.small_scale); new_fit = new_fit start };
    })

pub returns : goal.returns
returns c =
    record {
      told = sym (all_from _ _ (new_fit (goal.at.returns c).Start));
      done = λ yes. rw (handed (goal.at.returns c).After-rounding_of) at c.lift_small.ensures;
    }
