use mathlib.Core.Path.{◌≡◌, refl, sym, ◌∙◌}
use mathlib.Core.Bool.{false≢true}
use Prim.Native.Nat.{suc, ◌<◌}
use native.Mathlib.Numerals.{add-one}
use native.Mathlib.Omega.{arith}
use Rattle.std.proofs.lemmas.Result.{err_from_is_err_and}
use Rattle.lifting.specs.Layout.{FrameFits}
use Rattle.lifting.specs.Lines.{new_row_fits}
use Rattle.lifting.proofs.LayoutLaws.{frame-fits-same}
use Rattle.sweep.specs.Pairs.{FramePut}
use Rattle.sweep.specs.Turns.{stepped}
use Rattle.sweep.proofs.PairsLaws.{pairs-none, pairs-joined, each-more}
use Rattle.sweep.proofs.TurnsLaws.{fits_kept, within-kept, row_put}
use Rattle.sweep.proofs.turns.lift_rows.Goals as goal
use Rattle.sweep.proofs.turns.lift_rows.Goals.{In-loop-k}

pub loop-k-init : goal.loop-k-init
loop-k-init c = ((λ k start end. absurd (omega arith)), pairs-none _ _ _ _ _ _)

-- Pair k of the plane as it is at the head of a turn.
module _ (c : In-loop-k) where
  abbrev put : FramePut c.args.frame c.args.from c.loop-k.k (stepped c.args.frame c.args.step c.args.work.now) c.args.work.now c.loop-k.work
  put = c.loop-k.invariant.1

  placed : FrameFits c.args.frame c.loop-k.work
  placed = frame-fits-same _ _ _ c.requires.frame_fits.0 c.loop-k.auto.work

  inside : c.loop-k.k < c.args.frame.band_rows
  inside = omega (arith, c.loop-k-test.true, c.requires.from_le_to.1)

  kept : new_row_fits c.args.frame c.args.step c.loop-k.work c.loop-k.k ≡ new_row_fits c.args.frame c.args.step c.args.work.now c.loop-k.k
  kept = fits_kept c.args.frame c.args.step c.args.work.now c.args.from c.loop-k.k inside c.loop-k.work placed put

pub lift_row-requires : goal.lift_row-requires
lift_row-requires c =
    record {
      frame_fits = (placed (goal.at.lift_row-requires c).In-loop-k, c.requires.frame_fits.1, inside (goal.at.lift_row-requires c).In-loop-k, c.requires.frame_fits.2);
      step_rows_within = within-kept c.args.frame c.args.step c.args.work.now c.args.from c.loop-k.k (inside (goal.at.lift_row-requires c).In-loop-k) c.loop-k.work (placed (goal.at.lift_row-requires c).In-loop-k) (put (goal.at.lift_row-requires c).In-loop-k)
          c.args.bounds (c.requires.from_le_to.2 c.loop-k.k c.loop-k.auto.k c.loop-k-test.true);
    }

pub returns-in_err-lift_row-clause-told : goal.returns-in_err-lift_row-clause-told
returns-in_err-lift_row-clause-told c =
    let here = kept (goal.at.returns-in_err-lift_row-clause-told c).In-loop-k in
    let failed = err_from_is_err_and c.from_residual.result c.from_residual.ensures.1 in
    rw failed.1
    (λ wrong. absurd (false≢true wrong), λ same all. false≢true (c.in_err-lift_row.ensures.told ∙ here ∙ all c.loop-k.k c.loop-k.auto.k c.loop-k-test.true))

pub loop-k-preserved : goal.loop-k-preserved
loop-k-preserved c =
    let at = (goal.at.loop-k-preserved c).In-loop-k in
    let lifted = c.in_ok-lift_row.ensures in
    rw (add-one c.loop-k.k) (
      each-more _ _ _ c.loop-k.invariant.0 (sym (kept at) ∙ sym lifted.told),
      pairs-joined _ _ _ _ c.args.from c.loop-k.k (suc c.loop-k.k) _ c.loop-k.work _ c.loop-k.auto.k (omega arith) (put at)
          (row_put c.args.frame c.args.step c.args.work.now c.args.from c.loop-k.k (inside at) c.loop-k.work (placed at) (put at) _ (lifted.done refl)),
    )

pub returns : goal.returns
returns c =
    let all : c.loop-k.k ≡ c.args.to = omega (arith, c.loop-k.auto.k-end c.requires.from_le_to.0, c.loop-k-test.false) in
    record { told = (λ went. rw all at c.loop-k.invariant.0, λ wrong. absurd (false≢true (sym wrong))); done = λ went. rw all at c.loop-k.invariant.1 }
