-- Demand 3: "For every wavelet index 0 to 6, depth 0 to 4 and allowed size: two different padded planes of whole numbers, however
-- large, never have the same coefficients under document 01's analysis. And whenever a padded plane and every number that analysis
-- assigns on the way fit signed 32 bits, synthesis (same index, depth, sizes, planes of the right lengths, whatever stood in work and
-- samples before) does not refuse its coefficients, and its samples are exactly the top-left width by height part of that plane."
-- Assumes nothing.
use mathlib.Core.Path.{◌≡◌, sym, ap, ◌∙◌}
use mathlib.Core.Bool.{true}
use mathlib.Core.List.{List}
use Prim.Native.Nat.{ℕ, ◌*◌, ◌<◌}
use lib.IntN.{ℤ, pos}
use lib.ListN.{length, get_or}
use Rattle.base.specs.Lists.{zeros_like}
use Rattle.base.specs.Range.{fits32}
use Rattle.component.specs.Checks.{sizes_in_range, depth_in_range, wavelet_in_range}
use Rattle.component.specs.declared.parameters.Parameters.{Parameters}
use Rattle.filters.specs.Planes.{picture_of, raster}
use Rattle.transform.specs.Job.{picture_from, accepted, transformed, synthesised, analysed, analysis_stays_in32}
use Rattle.component.specs.Sizes.{padded_width, padded_height}
use Rattle.transform.proofs.JobLaws.{plane-back, samples-back, coefficients-in-range, no-bad-level, no-refusal}

-- padded planes with the same coefficients are the same plane
pub injective :
    (p : Parameters) → sizes_in_range p ≡ true → depth_in_range p ≡ true → wavelet_in_range p ≡ true
    → (a b : List ℤ) → length a ≡ padded_width p * padded_height p → length b ≡ padded_width p * padded_height p
    → analysed p a ≡ analysed p b → a ≡ b
injective p sizes depth wavelet a b a_size b_size e =
    sym (plane-back p sizes a a_size)
    ∙ ap (λ (c : List ℤ). raster (padded_height p) (padded_width p) (picture_from p c)) e
    ∙ plane-back p sizes b b_size

-- the coefficients of a plane that stays in 32 bits fit 32 bits, so they can be passed to synthesise
pub coefficients-fit :
    (p : Parameters) → sizes_in_range p ≡ true → (plane : List ℤ) → length plane ≡ padded_width p * padded_height p → analysis_stays_in32 p plane ≡ true
    → (i : ℕ) → i < length (analysed p plane) → fits32 (get_or (analysed p plane) i (pos 0)) ≡ true
coefficients-fit p sizes plane size stays i inside = coefficients-in-range p sizes plane size stays i inside

-- synthesis does not refuse the coefficients of a plane that stays in 32 bits, and gives its first height rows and width columns
pub restored :
    (p : Parameters) → sizes_in_range p ≡ true → depth_in_range p ≡ true → wavelet_in_range p ≡ true
    → (plane work samples : List ℤ) → length plane ≡ padded_width p * padded_height p → length work ≡ padded_width p * padded_height p
    → length samples ≡ p.width * p.height → analysis_stays_in32 p plane ≡ true
    → synthesised p (analysed p plane) work samples
    ≡ record { status = 0; place = 0; work = zeros_like work; samples = raster p.height p.width (picture_of (padded_width p) plane) }
unfolding synthesised transformed accepted
restored p sizes depth wavelet plane work samples plane_size work_size samples_size stays =
    rw (no-refusal p sizes depth wavelet plane work samples work_size samples_size, no-bad-level p sizes plane plane_size stays, samples-back p sizes plane)
