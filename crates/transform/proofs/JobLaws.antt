-- The laws of a component's planes: its analysis undone, its numbers in range, and the checks that it passes.
-- Assumes nothing.
use mathlib.Core.Path.{◌≡◌, refl, sym, ap, ◌∙◌}
use mathlib.Core.Logic.{◌≢◌}
use mathlib.Core.Bool.{true, not, ◌&&◌}
use mathlib.Core.List.{List}
use Prim.Native.Nat.{ℕ, ◌+◌, ◌*◌, ◌/◌, ◌%◌, ◌<◌}
use native.Mathlib.Nat.{mul_comm, mod-lt, div-lt_iff_lt-mul}
use native.Mathlib.Decide.{ℕ_discrete}
use native.Mathlib.Omega.{arith}
use lib.Dec.{eqb}
use lib.Arith.{digits_lt}
use lib.IntN.{ℤ, pos}
use lib.ListN.{length, get_or}
use borrow.Author.Tests.{eq-eqb, ne_eqb, eqb-true}
use Rattle.base.specs.Every.{all_below}
use Rattle.base.specs.Lists.{zeros_like}
use Rattle.base.specs.Range.{fits32}
use Rattle.base.proofs.ListsLaws.{get_d_tabulate, zeros-length}
use Rattle.base.proofs.EveryLaws.{all-at}
use Rattle.base.proofs.Booleans.{and_left, and_right, and-true}
use Rattle.component.specs.Sizes.{size_at, padded_width, padded_height, low_width, low_height}
use Rattle.component.specs.Checks.{sizes_in_range, depth_in_range, wavelet_in_range, area_of, planes_fit, refusal_of, lengths_of}
use Rattle.component.specs.declared.parameters.Parameters.{Parameters}
use Rattle.component.specs.declared.parameters.Lengths.{Lengths}
use Rattle.component.specs.declared.parameters.Job.TheVariants.{Synthesise}
use Rattle.component.proofs.SizesLaws.{padded-least, low-some, size_at-padded}
use Rattle.component.proofs.ChecksLaws.{width-least, height-least, refused_none}
use Rattle.filters.specs.Filters.{filter_of}
use Rattle.filters.specs.Passes.{Picture}
use Rattle.transform.specs.Analysis.{analysis}
use Rattle.filters.specs.Planes.{picture_of, raster}
use Rattle.transform.specs.Job.{SynthesisResult, picture_from, bad_level, analysed, analysis_stays_in32, unchanged, overflowed, accepted, transformed, synthesised}
use Rattle.filters.specs.Pictures.{Agree}
use Rattle.filters.proofs.PassesLaws.{AllFit}
use Rattle.transform.proofs.AnalysisLaws.{synthesis-back, synthesis-fits, analysis-in-range}
use Rattle.filters.proofs.PlanesLaws.{length-raster, picture-raster, raster-is, raster-same}

-- The picture of a padded plane, and what its analysis makes of it.
abbrev plane_picture : Parameters → List ℤ → Picture
plane_picture p plane = picture_of (padded_width p) plane

abbrev analysed_picture : Parameters → List ℤ → Picture
analysed_picture p plane = analysis (filter_of p.wavelet) (low_height p) (low_width p) p.depth (plane_picture p plane)

module _ (p : Parameters) (sizes : sizes_in_range p ≡ true) where
  module _ (plane : List ℤ) where
    -- the coefficients, read as a picture, agree with the analysis
    coefficients-agree :
        Agree (size_at (low_height p) p.depth) (size_at (low_width p) p.depth)
        (plane_picture p (analysed p plane)) (analysed_picture p plane)
    unfolding analysed
    coefficients-agree =
        rw (size_at-padded p.depth p.height, size_at-padded p.depth p.width)
        (picture-raster (padded_height p) (padded_width p) (analysed_picture p plane))

    -- synthesis of the coefficients gives the plane's picture back
    picture-back : Agree (padded_height p) (padded_width p) (picture_from p (analysed p plane)) (plane_picture p plane)
    unfolding picture_from
    picture-back =
        rw (size_at-padded p.depth p.height, size_at-padded p.depth p.width) at
        (synthesis-back (filter_of p.wavelet) (low_height p) (low_width p)
        (low-some p.depth p.height (height-least p sizes)) (low-some p.depth p.width (width-least p sizes))
        p.depth (plane_picture p plane) (plane_picture p (analysed p plane)) coefficients-agree)

    -- the samples are those of the plane's first rows and columns
    pub samples-back :
        raster p.height p.width (picture_from p (analysed p plane)) ≡ raster p.height p.width (picture_of (padded_width p) plane)
    samples-back =
        raster-same p.height p.width (picture_from p (analysed p plane)) (plane_picture p plane) (width-least p sizes)
        (λ row column r c.
        picture-back row column (omega (arith, padded-least p.depth p.height)) (omega (arith, padded-least p.depth p.width)))

    -- A plane of the right length.
    module _ (size : length plane ≡ padded_width p * padded_height p) where
      -- the whole picture that synthesis makes is the plane
      pub plane-back : raster (padded_height p) (padded_width p) (picture_from p (analysed p plane)) ≡ plane
      plane-back =
          raster-is (padded_height p) (padded_width p) (picture_from p (analysed p plane)) plane
          (omega (arith, (width-least p sizes), padded-least p.depth p.width)) (rw mul_comm size) picture-back

      -- where its numbers fit, its picture's fit
      plane-fits :
          all_below (length plane) (λ i. fits32 (get_or plane i (pos 0))) ≡ true → AllFit (padded_height p) (padded_width p) (plane_picture p plane)
      unfolding picture_of
      plane-fits fit row column r c =
          all-at (λ i. fits32 (get_or plane i (pos 0))) (length plane) (row * padded_width p + column) fit
          (rw (size, mul_comm (padded_width p) (padded_height p)) (digits_lt r c))

      -- where the numbers of its analysis fit too, its coefficients fit
      pub coefficients-in-range :
          analysis_stays_in32 p plane ≡ true → (i : ℕ) → i < length (analysed p plane) → fits32 (get_or (analysed p plane) i (pos 0)) ≡ true
      unfolding analysis_stays_in32 analysed picture_of raster
      coefficients-in-range stays i inside =
          let fit =
          analysis-in-range (filter_of p.wavelet) (low_height p) (low_width p)
          (low-some p.depth p.height (height-least p sizes)) (low-some p.depth p.width (width-least p sizes))
          p.depth (plane_picture p plane)
          (rw (size_at-padded p.depth p.height, size_at-padded p.depth p.width) (plane-fits (and_left _ _ stays)))
          (and_right (all_below (length plane) (λ i. fits32 (get_or plane i (pos 0)))) _ stays) in
          let below : i < padded_height p * padded_width p = omega (arith, length-raster (padded_height p) (padded_width p) (analysed_picture p plane)) in
          let some : 0 < padded_width p = omega (arith, width-least p sizes, padded-least p.depth p.width) in
          rw (get_d_tabulate (padded_height p * padded_width p) (λ k. analysed_picture p plane (k / padded_width p) (k % padded_width p)) i (pos 0) below)
          ((rw (size_at-padded p.depth p.height, size_at-padded p.depth p.width) at fit) (i / padded_width p) (i % padded_width p) ((div-lt_iff_lt-mul some).1 below) (mod-lt i some))

      -- where the numbers of its analysis fit too, no level of synthesis is bad
      pub no-bad-level : analysis_stays_in32 p plane ≡ true → bad_level p (analysed p plane) ≡ 0
      unfolding bad_level analysis_stays_in32
      no-bad-level stays =
          synthesis-fits (filter_of p.wavelet) (low_height p) (low_width p)
          (low-some p.depth p.height (height-least p sizes)) (low-some p.depth p.width (width-least p sizes))
          p.depth (plane_picture p plane) (plane_picture p (analysed p plane)) coefficients-agree
          (rw (size_at-padded p.depth p.height, size_at-padded p.depth p.width) (plane-fits (and_left _ _ stays)))
          (and_right (all_below (length plane) (λ i. fits32 (get_or plane i (pos 0)))) _ stays)

-- coefficients of an analysis, with work and samples of the right lengths, pass the checks
pub no-refusal :
    (p : Parameters) → sizes_in_range p ≡ true → depth_in_range p ≡ true → wavelet_in_range p ≡ true
    → (plane work samples : List ℤ) → length work ≡ padded_width p * padded_height p → length samples ≡ p.width * p.height
    → refusal_of Synthesise p (lengths_of (analysed p plane) work samples) ≡ 0
unfolding planes_fit area_of analysed
no-refusal p sizes depth wavelet plane work samples work_size samples_size =
    let coefficients_size = length-raster (padded_height p) (padded_width p) (analysed_picture p plane) ∙ mul_comm (padded_height p) (padded_width p) in
    let fit = and-true _ _ (eq-eqb _ _ coefficients_size) (and-true _ _ (eq-eqb _ _ work_size) (eq-eqb _ _ samples_size)) in
    sym (refused_none Synthesise p _ sizes depth (ap not wavelet) refl fit)

-- planes that fit have the lengths that they need
pub record Fitted (p : Parameters) (l : Lengths) : Type 0 where
  pub coefficients-fit : l.coefficients ≡ area_of p
  pub work-fits : l.work ≡ area_of p
  pub samples-fit : l.samples ≡ p.width * p.height

pub planes-fitted : (p : Parameters) (l : Lengths) → planes_fit Synthesise p l ≡ true → Fitted p l
unfolding planes_fit
planes-fitted p l e =
    let rest = and_right (eqb l.coefficients (area_of p)) (eqb l.work (area_of p) && eqb l.samples (p.width * p.height)) e in
    record {
      coefficients-fit = eqb-true _ _ (and_left _ _ e);
      work-fits = eqb-true _ _ (and_left _ _ rest);
      samples-fit = eqb-true _ _ (and_right (eqb l.work (area_of p)) _ rest);
    }

-- the three ways that the job ends
module _ (p : Parameters) (coefficients work samples : List ℤ) where
  abbrev status : ℕ
  status = refusal_of Synthesise p (lengths_of coefficients work samples)

  pub job-refused : status ≢ 0 → synthesised p coefficients work samples ≡ unchanged status work samples
  unfolding synthesised
  job-refused some = rw (ne_eqb status 0 some)

  pub job-overflowed : status ≡ 0 → bad_level p coefficients ≢ 0 → synthesised p coefficients work samples ≡ overflowed (bad_level p coefficients) work samples
  unfolding synthesised transformed
  job-overflowed none some = rw (eq-eqb status 0 none, ne_eqb (bad_level p coefficients) 0 some)

  pub job-accepted : status ≡ 0 → bad_level p coefficients ≡ 0 → synthesised p coefficients work samples ≡ accepted p coefficients work
  unfolding synthesised transformed
  job-accepted none fine = rw (eq-eqb status 0 none, eq-eqb (bad_level p coefficients) 0 fine)

  -- what stood in the planes does not matter, unless a check refuses and leaves them
  pub planes-free : (w s : List ℤ) → length w ≡ length work → length s ≡ length samples → status ≡ 0 →
      synthesised p coefficients w s ≡ synthesised p coefficients work samples
  unfolding synthesised transformed accepted overflowed
  planes-free w s same also none =
      rw (same, also, eq-eqb status 0 none, zeros-length w work same, zeros-length s samples also) refl

  -- a refusal that no check gave leaves zeros
  pub refused-zeros : status ≡ 0 → (synthesised p coefficients work samples).status ≢ 0 →
      ((synthesised p coefficients work samples).work ≡ zeros_like work) × ((synthesised p coefficients work samples).samples ≡ zeros_like samples)
  unfolding overflowed accepted
  refused-zeros none some =
      elim (ℕ_discrete (bad_level p coefficients) 0) [
        | yes fine ↦ absurd (some (ap (λ (s : SynthesisResult). s.status) (job-accepted none fine)))
        | no bad ↦ rw (job-overflowed none bad) (refl, refl)
      ]
