-- What reading leaves as it was: a subband changes no entry of the plane but its own, so the subbands that follow still hold zeros, and those
-- before it what was read.
-- Assumes nothing.
use mathlib.Core.Path.{◌≡◌, refl, sym, ap, ◌∙◌}
use mathlib.Core.Logic.{◌≢◌}
use mathlib.Core.Bool.{Bool, true, false, cond}
use mathlib.Core.List.{List}
use Prim.Native.Nat.{ℕ, zero, suc, ◌+◌, ◌*◌, ◌/◌, ◌≤◌, ◌<◌}
use native.Mathlib.Decide.{ℕ_discrete, dec_lt}
use native.Mathlib.Omega.{arith}
use lib.Dec.{ltb}
use lib.IntN.{ℤ, pos}
use lib.ListN.{length, get_or, take, drop, length-replicate, get_or-replicate, get_or-eq_default}
use Rattle.base.specs.Lists.{zeros_like}
use Rattle.base.proofs.Grids.{rows_apart}
use Rattle.component.specs.Sizes.{padded_size}
use Rattle.component.specs.Subbands.{subband_count, orientation_of, left_of, top_of, subband_at, InSubband}
use Rattle.component.specs.declared.parameters.Parameters.{Parameters}
use Rattle.component.proofs.SubbandsLaws.{subband-inside}
use Rattle.component.proofs.Tiling.{tiled}
use Rattle.coefficients.specs.Quantiser.{dequantise}
use Rattle.coefficients.specs.Reading.{Progress, At, Refused, Run, goes_on, going}
use Rattle.codeblocks.specs.Codeblocks.{codeblocks}
use Rattle.codeblocks.specs.declared.CodeblockGrid.{CodeblockGrid}
use Rattle.codeblocks.proofs.CodeblocksLaws.{codeblocks-keep}
use Rattle.prediction.specs.Prediction.{prediction}
use Rattle.prediction.proofs.PredictionLaws.{prediction-keeps}
use Rattle.unpack.specs.Header.{Header, Skipped, Coded, Refused as RefusedHeader, header_at}
use Rattle.unpack.specs.Subband.{goes_on_at, subband_data, checked_data, headed, predicted_band, is_predicted, subband_of, codeblocks_of, subband_from, subband}
use Rattle.unpack.specs.Job.{UnpackResult, ended_with, subbands_from}
use Rattle.unpack.specs.Bounds.{Checked, ClearBandsFrom}
use Rattle.unpack.proofs.SubbandLaws.{codeblocks-counted}
use Rattle.unpack.proofs.Within.{Lands, Ends, subband-lands}

-- what codeblocks and prediction keep of a plane, a subband keeps
module _ (Q : List ℤ → Type 0) where
  choice-holds : (test : Bool) (a b : Run) → Q a.plane → Q b.plane → Q (cond test a b).plane
  choice-holds true a b ha hb = ha
  choice-holds false a b ha hb = hb

  step-holds : (progress : Progress) (plane : List ℤ) (next : ℕ → Run) → Q plane → ((bit : ℕ) → Q (next bit).plane) → Q (going progress plane next).plane
  unfolding going
  step-holds (At bit) plane next here each = each bit
  step-holds (Refused status bit) plane next here each = here

  module _ (b : CodeblockGrid) (bytes : List ℕ)
      (kept : (part : List ℕ) (end origin : ℕ) (scale : ℕ → ℕ) (r : Run) → Q r.plane → Q (codeblocks part end origin scale b r).plane) where
    headed-holds : (intra : Bool) (h : Header) (plane : List ℤ) → Q plane → Q (headed b bytes intra h plane).plane
    unfolding headed checked_data subband_data goes_on_at
    headed-holds intra (Skipped bit) plane here = here
    headed-holds intra (Coded index bit size) plane here =
        let r = codeblocks (take size (drop (bit / 8) bytes)) (8 * size) bit (dequantise intra index) b (goes_on 0 plane) in
        let read = kept (take size (drop (bit / 8) bytes)) (8 * size) bit (dequantise intra index) (goes_on 0 plane) here in
        choice-holds (ltb 115 index) _ _ here
        (choice-holds (ltb (length bytes) (bit / 8 + size)) _ _ here (step-holds r.progress r.plane _ read (λ at. read)))
    headed-holds intra (RefusedHeader status bit) plane here = here

  predicted-holds : (b : CodeblockGrid) (bit : ℕ) (plane : List ℤ) → Q (prediction b.stride b.subband.width b.subband.height plane).plane → Q (predicted_band b bit plane).plane
  unfolding predicted_band
  predicted-holds b bit plane here = choice-holds (prediction b.stride b.subband.width b.subband.height plane).fits _ _ here here

  subband-holds : (p : Parameters) (bytes : List ℕ) (k at : ℕ) (plane : List ℤ) →
      ((part : List ℕ) (end origin : ℕ) (scale : ℕ → ℕ) (r : Run) → Q r.plane → Q (codeblocks part end origin scale (codeblocks_of p k) r).plane) →
      (is_predicted p k ≡ true → (l : List ℤ) → Q l → Q (prediction (codeblocks_of p k).stride (codeblocks_of p k).subband.width (codeblocks_of p k).subband.height l).plane) →
      Q plane → Q (subband p bytes k (goes_on at plane)).plane
  unfolding subband subband_from going
  subband-holds p bytes k at plane kept predicted here = by (is_predicted p k) refl
    where
      r : Run
      r = subband_from p bytes k at plane

      read : Q r.plane
      read = headed-holds (codeblocks_of p k) bytes kept _ (header_at bytes at) plane here

      by : (test : Bool) → is_predicted p k ≡ test → Q (cond test (going r.progress r.plane (λ bit. predicted_band (codeblocks_of p k) bit r.plane)) r).plane
      by true e = step-holds r.progress r.plane _ read (λ bit. predicted-holds (codeblocks_of p k) bit r.plane (predicted e r.plane read))
      by false e = read

-- How far apart rows of the coefficient plane are.
abbrev pub stride_of : Parameters → ℕ
stride_of p = padded_size p.depth p.width

-- An entry of the plane lies outside subband k.
abbrev pub Outside : Parameters → ℕ → ℕ → Type 0
Outside p k j = (row column : ℕ) → InSubband (subband_of p k) row column → row * stride_of p + column ≢ j

-- a subband that is predicted stands at the top left
top_left : (p : Parameters) (k : ℕ) → is_predicted p k ≡ true → (row column : ℕ) → row < (subband_of p k).height → column < (subband_of p k).width → InSubband (subband_of p k) row column
unfolding is_predicted subband_at orientation_of left_of top_of
top_left p zero e row column low inner = record { below_top = omega arith; above_bottom = omega arith; right_of_left = omega arith; left_of_right = omega arith }
top_left p (suc k) e row column low inner =
    let z : ◌≡◌ {A = ℕ} 0 1 = cc in
    absurd (omega arith)

-- a subband changes no entry outside it
module _ (p : Parameters) (bytes : List ℕ) (k : ℕ) where
  pub subband-keeps : Checked p → k < subband_count p.depth → (at : ℕ) (plane : List ℤ) (j : ℕ) → Outside p k j →
      get_or (subband p bytes k (goes_on at plane)).plane j (pos 0) ≡ get_or plane j (pos 0)
  unfolding codeblocks_of
  subband-keeps checked below at plane j outside =
      subband-holds (λ l. get_or l j (pos 0) ≡ get_or plane j (pos 0)) p bytes k at plane
      (λ part end origin scale r here. codeblocks-keep part end origin scale (codeblocks_of p k) (codeblocks-counted p checked k below) j outside r ∙ here)
      (λ e l here. prediction-keeps (stride_of p) (subband_of p k).width (subband_of p k).height l j (λ y x low inner. outside y x (top_left p k e y x low inner)) ∙ here)
      refl

-- an entry of one subband lies outside every other
pub other-outside : (p : Parameters) (k m : ℕ) → k < subband_count p.depth → m < subband_count p.depth → k ≢ m →
    (row column : ℕ) → InSubband (subband_of p m) row column → Outside p k (row * stride_of p + column)
other-outside p k m below-k below-m different row column lies row₂ column₂ lies₂ same =
    let inside = subband-inside p.depth p.width p.height m below-m in
    let inside₂ = subband-inside p.depth p.width p.height k below-k in
    let across : column < stride_of p = omega (arith, lies.left_of_right, inside.0) in
    let across₂ : column₂ < stride_of p = omega (arith, lies₂.left_of_right, inside₂.0) in
    elim (ℕ_discrete row₂ row) [
      | yes together ↦
          let rows : row₂ * stride_of p ≡ row * stride_of p = ap (λ (n : ℕ). n * stride_of p) together in
          let columns : column₂ ≡ column = omega arith in
          let here : InSubband (subband_of p k) row column = rw (together, columns) at lies₂ in
          let one = tiled p.depth p.width p.height row column (omega (arith, lies.above_bottom, inside.1)) across in
          different (one.alone k below-k here ∙ sym (one.alone m below-m lies))
      | no apart ↦ rows_apart (stride_of p) row₂ row column₂ column apart across₂ across same
    ]

-- zeros are clear for every subband
pub zeros-clear : (p : Parameters) (plane : List ℤ) → ClearBandsFrom p 0 (zeros_like plane)
unfolding zeros_like
zeros-clear p plane = record { each = λ k from-0 below. record { each = λ row column lies. none (row * (codeblocks_of p k).stride + column) } }
  where
    none : (i : ℕ) → get_or (zeros_like plane) i (pos 0) ≡ pos 0
    none i =
        elim (dec_lt i (length plane)) [
          | yes inside ↦ get_or-replicate (length plane) i (pos 0) (pos 0) inside
          | no outside ↦ get_or-eq_default (zeros_like plane) (pos 0) (rw (length-replicate (length plane) (pos 0)) (omega arith))
        ]

module _ (p : Parameters) (bytes : List ℕ) (checked : Checked p) where
  -- after a subband those that follow still are
  pub clear_next : (k at : ℕ) (plane : List ℤ) (r : Run) → k < subband_count p.depth → r ≡ subband p bytes k (goes_on at plane) →
      ClearBandsFrom p k plane → ClearBandsFrom p (k + 1) r.plane
  unfolding codeblocks_of
  clear_next k at plane r below e clear =
      record {
        each = λ m later counted.
            record {
              each = λ row column lies.
                  rw e
                  (subband-keeps p bytes k checked below at plane (row * stride_of p + column) (other-outside p k m below counted (omega arith) row column lies)
                  ∙ (clear.each m (omega arith) counted).each row column lies);
            };
      }

  -- what follows a subband keeps an entry, if the subband and each way on from it do
  ended-keeps : (k at j : ℕ) (plane : List ℤ) (progress : Progress) (after : List ℤ) (go : ℕ → List ℤ → UnpackResult) → Lands (Ends bytes at) progress →
      get_or after j (pos 0) ≡ get_or plane j (pos 0) →
      ((bit : ℕ) (l : List ℤ) → (go bit l).status ≡ 0 → get_or (go bit l).coefficients j (pos 0) ≡ get_or l j (pos 0)) →
      (ended_with k progress after go).status ≡ 0 → get_or (ended_with k progress after go).coefficients j (pos 0) ≡ get_or plane j (pos 0)
  unfolding ended_with
  ended-keeps k at j plane (At bit) after go lands here each fine = each bit after fine ∙ here
  ended-keeps k at j plane (Refused status bit) after go lands here each fine = absurd (lands fine)

  -- where the job is accepted, the subbands from k on change no entry of those before k
  pub subbands-keep : (n k at : ℕ) (plane : List ℤ) → k + n ≤ subband_count p.depth → (subbands_from p bytes n k at plane).status ≡ 0 →
      (m row column : ℕ) → m < k → InSubband (subband_of p m) row column →
      get_or (subbands_from p bytes n k at plane).coefficients (row * stride_of p + column) (pos 0) ≡ get_or plane (row * stride_of p + column) (pos 0)
  unfolding subbands_from
  subbands-keep zero k at plane most fine m row column earlier lies = refl
  subbands-keep (suc n) k at plane most fine m row column earlier lies =
      let r = subband p bytes k (goes_on at plane) in
      ended-keeps k at (row * stride_of p + column) plane r.progress r.plane (subbands_from p bytes n (suc k)) (subband-lands p bytes k at plane)
      (subband-keeps p bytes k checked (omega arith) at plane (row * stride_of p + column) (other-outside p k m (omega arith) (omega arith) (omega arith) row column lies))
      (λ bit l ok. subbands-keep n (suc k) bit l (omega arith) ok m row column (omega arith) lies) fine
