-- Document 01, "Refusal numbers" and "Synthesis and analysis": what synthesise answers and what it leaves in its planes, for every input;
-- and the analysis of a padded plane.
use Rattle.std.specs.Prelude.{ℕ, Bool, cond, ◌&&◌, List, eqb, ℤ, pos, length, get_or}
use Rattle.base.specs.Every.{all_below}
use Rattle.base.specs.Lists.{zeros_like}
use Rattle.base.specs.Range.{fits32}
use Rattle.component.specs.Sizes.{padded_width, padded_height, low_width, low_height}
use Rattle.component.specs.Checks.{refusal_of, lengths_of}
use Rattle.component.specs.declared.parameters.Parameters.{Parameters}
use Rattle.component.specs.declared.parameters.Answer.{Answer}
use Rattle.component.specs.declared.parameters.Job.TheVariants.{Synthesise}
use Rattle.filters.specs.Passes.{Picture}
use Rattle.filters.specs.Filters.{filter_of}
use Rattle.transform.specs.Synthesis.{synthesis, first_bad_level}
use Rattle.transform.specs.Analysis.{analysis, analysis_fits}
use Rattle.filters.specs.Planes.{picture_of, raster}

-- What a call of synthesise gives: its answer, and what work and samples hold after it. The coefficients are only read.
pub record SynthesisResult : Type 0 where
  pub status : ℕ
  pub place : ℕ
  pub work : List ℤ
  pub samples : List ℤ

-- What a call gave: its answer, and what stood in work and samples when it returned.
unfoldable pub outcome : Answer → List ℤ → List ℤ → SynthesisResult
outcome answer work samples = record { status = answer.status; place = answer.place; work = work; samples = samples }

-- The picture that synthesis makes of a coefficient plane, and the first level that leaves signed 32 bits, or 0.
unfoldable pub picture_from : Parameters → List ℤ → Picture
picture_from p coefficients =
    synthesis (filter_of p.wavelet) (low_height p) (low_width p) (picture_of (padded_width p) coefficients) p.depth

unfoldable pub bad_level : Parameters → List ℤ → ℕ
bad_level p coefficients =
    first_bad_level (filter_of p.wavelet) (low_height p) (low_width p) (picture_of (padded_width p) coefficients) p.depth

-- 0: "Last, keep the first width columns and height rows"; "samples as synthesised, work all zero".
unfoldable pub accepted : Parameters → List ℤ → List ℤ → SynthesisResult
accepted p coefficients work =
    record { status = 0; place = 0; work = zeros_like work; samples = raster p.height p.width (picture_from p coefficients) }

-- 10: "a number assigned in synthesis is outside signed 32 bits", its place the "first such level", zeros in each plane.
unfoldable pub overflowed : ℕ → List ℤ → List ℤ → SynthesisResult
overflowed level work samples = record { status = 10; place = level; work = zeros_like work; samples = zeros_like samples }

-- 1, 2, 3 and 5: planes unchanged, place 0.
unfoldable pub unchanged : ℕ → List ℤ → List ℤ → SynthesisResult
unchanged status work samples = record { status = status; place = 0; work = work; samples = samples }

unfoldable pub transformed : Parameters → List ℤ → List ℤ → List ℤ → SynthesisResult
transformed p coefficients work samples =
    cond (eqb (bad_level p coefficients) 0) (accepted p coefficients work) (overflowed (bad_level p coefficients) work samples)

-- "Checks run in this order; the first that applies is given."
unfoldable pub synthesised : Parameters → List ℤ → List ℤ → List ℤ → SynthesisResult
synthesised p coefficients work samples =
    let status = refusal_of Synthesise p (lengths_of coefficients work samples) in
    cond (eqb status 0) (transformed p coefficients work samples) (unchanged status work samples)

-- Analysis "starts from a padded plane: padded height rows of padded width numbers. Its coefficients are .. laid out as in the coefficient plane".
unfoldable pub analysed : Parameters → List ℤ → List ℤ
analysed p plane =
    raster (padded_height p) (padded_width p)
    (analysis (filter_of p.wavelet) (low_height p) (low_width p) p.depth (picture_of (padded_width p) plane))

-- Demand 3 (docs/PROMISES.md): "a padded plane and every number that analysis assigns on the way fit signed 32 bits"
unfoldable pub analysis_stays_in32 : Parameters → List ℤ → Bool
analysis_stays_in32 p plane =
    all_below (length plane) (λ i. fits32 (get_or plane i (pos 0)))
    && analysis_fits (filter_of p.wavelet) (low_height p) (low_width p) p.depth (picture_of (padded_width p) plane)
