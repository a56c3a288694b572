use mathlib.Core.Path.{◌≡◌}
use mathlib.Core.List.{List}
use Prim.Native.Nat.{ℕ, suc, ◌≤◌, ◌<◌}
use native.Mathlib.Numerals.{add-one}
use native.Mathlib.Decide.{dec_lt}
use native.Mathlib.Omega.{arith}
use lib.IntN.{ℤ}
use Rattle.lifting.specs.declared.frame.Frame.{Frame}
use Rattle.lifting.specs.Layout.{FrameFits}
use Rattle.lifting.proofs.LayoutLaws.{frame-fits-same}
use Rattle.sweep.specs.Bands.{PairWithin}
use Rattle.sweep.proofs.BandsLaws.{bands-put, sizes-kept}
use Rattle.sweep.proofs.PairsLaws.{pairs-none, pairs-joined}
use Rattle.sweep.proofs.bands.interleave_pairs.Goals as goal

pub loop-r-init : goal.loop-r-init
loop-r-init c = (pairs-none _ _ _ _ _ _, λ k start end. absurd (omega arith))

pub interleave_pair-here-requires : goal.interleave_pair-here-requires
interleave_pair-here-requires c =
    record { frame_fits = (frame-fits-same _ _ _ c.requires.frame_fits.0 c.loop-r.auto.work, omega (arith, c.loop-r-test.true, c.requires.frame_fits.2)); bands_inside = c.requires.bands_inside }

pub loop-r-preserved : goal.loop-r-preserved
loop-r-preserved c =
    let r = c.loop-r.r in
    let inside : r < c.args.frame.band_rows = omega (arith, c.loop-r-test.true, c.requires.frame_fits.2) in
    let placed : FrameFits c.args.frame c.loop-r.work = frame-fits-same _ _ _ c.requires.frame_fits.0 c.loop-r.auto.work in
    let work' = c.interleave_pair-here.new.work in
    rw (add-one r) (
      pairs-joined _ _ _ _ c.args.from r (suc r) _ c.loop-r.work _ c.loop-r.auto.r (omega arith) c.loop-r.invariant.0
          (bands-put c.args.frame c.args.padded_width c.args.work.now c.args.coefficients.now c.args.from r inside c.loop-r.work placed c.loop-r.invariant.0 work'
          c.interleave_pair-here.ensures.stored),
      λ k from to.
          elim (dec_lt k r) [
            | yes before ↦
                larger c.args.frame k c.loop-r.most c.join-most.result c.join-most.ensures.0 work'
                (sizes-kept c.args.frame c.args.padded_width c.args.work.now c.args.coefficients.now c.args.from r inside c.loop-r.work placed c.loop-r.invariant.0 work'
                c.interleave_pair-here.ensures.stored k (suc c.loop-r.most) (λ e. omega arith) (c.loop-r.invariant.1 k from before))
            | no last ↦
                let same : k ≡ r = omega arith in
                larger c.args.frame k c.interleave_pair-here.result c.join-most.result c.join-most.ensures.1 work' (rw same c.interleave_pair-here.ensures.measured)
          ],
    )
  where
    -- numbers within a size are within a larger one
    larger : (f : Frame) (k m n : ℕ) → m ≤ n → (plane : List ℤ) → PairWithin f k (suc m) plane → PairWithin f k (suc n) plane
    larger f k m n grows plane all = (λ x within. omega (arith, all.0 x within), λ x within. omega (arith, all.1 x within))

pub returns : goal.returns
returns c =
    let all : c.loop-r.r ≡ c.args.to = omega (arith, c.loop-r.auto.r-end c.requires.frame_fits.1, c.loop-r-test.false) in
    record { stored = rw all at c.loop-r.invariant.0; measured = rw all at c.loop-r.invariant.1 }
