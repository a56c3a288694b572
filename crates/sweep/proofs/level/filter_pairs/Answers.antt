use mathlib.Core.Path.{◌≡◌, refl, sym, ◌∙◌}
use mathlib.Core.Bool.{false≢true}
use Prim.Native.Nat.{suc, ◌<◌}
use native.Mathlib.Numerals.{add-one}
use native.Mathlib.Omega.{arith}
use Rattle.std.proofs.lemmas.Result.{err_from_is_err_and}
use Rattle.lifting.specs.Layout.{FrameFits}
use Rattle.lifting.proofs.LayoutLaws.{frame-fits-same}
use Rattle.sweep.specs.Pairs.{FramePut}
use Rattle.sweep.specs.Rows.{pair_fits}
use Rattle.sweep.specs.LastStage.{rows_left}
use Rattle.sweep.specs.Levels.{RoomFor}
use Rattle.sweep.proofs.LastStageLaws.{pair-fits-kept, rows-put, samples-put}
use Rattle.sweep.proofs.PairsLaws.{pairs-none, pairs-joined, each-more}
use Rattle.sweep.proofs.level.filter_pairs.Goals as goal
use Rattle.sweep.proofs.level.filter_pairs.Goals.{In-loop-k}

pub loop-k-init : goal.loop-k-init
loop-k-init c = ((λ k start end. absurd (omega arith)), pairs-none _ _ _ _ _ _, λ yes. pairs-none _ _ _ _ _ _)

-- Pair k of the plane as it is at the head of a turn.
module _ (c : In-loop-k) where
  abbrev put : FramePut c.args.level.frame c.args.from c.loop-k.k (rows_left c.args.level c.args.filter c.args.work.now) c.args.work.now c.loop-k.work
  put = c.loop-k.invariant.1

  placed : FrameFits c.args.level.frame c.loop-k.work
  placed = frame-fits-same _ _ _ c.requires.frame_fits.0 c.loop-k.auto.work

  inside : c.loop-k.k < c.args.level.frame.band_rows
  inside = omega (arith, c.loop-k-test.true, c.requires.from_le_to.1)

  room : RoomFor c.args.level c.loop-k.samples
  room finishes = let all = c.requires.frame_fits.2 finishes in (all.0, all.1, rw c.loop-k.auto.samples all.2)

  kept : pair_fits c.args.level.frame c.args.filter c.loop-k.work c.loop-k.k ≡ pair_fits c.args.level.frame c.args.filter c.args.work.now c.loop-k.k
  kept = pair-fits-kept c.args.level c.args.filter c.args.work.now c.args.from c.loop-k.k inside c.loop-k.work placed put

pub filter_pair-requires : goal.filter_pair-requires
filter_pair-requires c =
    let at = (goal.at.filter_pair-requires c).In-loop-k in
    (placed at, c.requires.frame_fits.1, λ finishes. ((room at finishes).0, (room at finishes).2), inside at)

pub returns-in_err-filter_pair-clause-told : goal.returns-in_err-filter_pair-clause-told
returns-in_err-filter_pair-clause-told c =
    let here = kept (goal.at.returns-in_err-filter_pair-clause-told c).In-loop-k in
    let failed = err_from_is_err_and c.from_residual.result c.from_residual.ensures.1 in
    rw failed.1
    (λ wrong. absurd (false≢true wrong), λ same all. false≢true (c.in_err-filter_pair.ensures.told ∙ here ∙ all c.loop-k.k c.loop-k.auto.k c.loop-k-test.true))

pub loop-k-preserved : goal.loop-k-preserved
loop-k-preserved c =
    let at = (goal.at.loop-k-preserved c).In-loop-k in
    let k = c.loop-k.k in
    let filtered = c.in_ok-filter_pair.ensures in
    rw (add-one k) (
      each-more _ _ _ c.loop-k.invariant.0 (sym (kept at) ∙ sym filtered.told),
      pairs-joined _ _ _ _ c.args.from k (suc k) _ c.loop-k.work _ c.loop-k.auto.k (omega arith) (put at)
          (rows-put c.args.level c.args.filter c.args.work.now c.args.from k (inside at) c.loop-k.work (placed at) (put at) _ (filtered.done refl)),
      λ finishes.
          pairs-joined _ _ _ _ c.args.from k (suc k) _ c.loop-k.samples _ c.loop-k.auto.k (omega arith) (c.loop-k.invariant.2 finishes)
          (samples-put c.args.level c.args.filter c.args.work.now c.args.from k (inside at) c.loop-k.work (placed at) (put at)
          finishes (room at finishes).0 c.loop-k.samples _ (room at finishes).2 (filtered.finished refl)),
    )

pub returns : goal.returns
returns c =
    let all : c.loop-k.k ≡ c.args.to = omega (arith, c.loop-k.auto.k-end c.requires.from_le_to.0, c.loop-k-test.false) in
    record {
      told = (λ went. rw all at c.loop-k.invariant.0, λ wrong. absurd (false≢true (sym wrong)));
      done = λ went. rw all at c.loop-k.invariant.1;
      finished = λ went finishes. rw all at (c.loop-k.invariant.2 finishes);
    }
