-- Document 01, "Refusal numbers": what decode answers and what it leaves in its planes, for every input. It is unpack, then synthesise.
use Rattle.std.specs.Prelude.{ℕ, not, cond, List, eqb, ℤ}
use Rattle.base.specs.Lists.{zeros_like}
use Rattle.component.specs.Checks.{refusal_of, lengths_of}
use Rattle.component.specs.declared.parameters.Parameters.{Parameters}
use Rattle.component.specs.declared.parameters.Answer.{Answer}
use Rattle.component.specs.declared.parameters.Job.TheVariants.{Decode}
use Rattle.unpack.specs.Job.{UnpackResult, unpacked}
use Rattle.transform.specs.Job.{SynthesisResult, synthesised}

-- What a call of decode gives: its answer, and what the three planes hold after it.
pub record DecodeResult : Type 0 where
  pub status : ℕ
  pub place : ℕ
  pub coefficients : List ℤ
  pub work : List ℤ
  pub samples : List ℤ

-- What a call gave: its answer, and what stood in the planes when it returned.
unfoldable pub outcome : Answer → List ℤ → List ℤ → List ℤ → DecodeResult
outcome answer coefficients work samples =
    record { status = answer.status; place = answer.place; coefficients = coefficients; work = work; samples = samples }

-- 1 to 5: place 0, planes unchanged.
unfoldable pub unchanged : ℕ → List ℤ → List ℤ → List ℤ → DecodeResult
unchanged status coefficients work samples =
    record { status = status; place = 0; coefficients = coefficients; work = work; samples = samples }

-- 6 to 10: "Zeros are written to each plane the call may write."
unfoldable pub zeroed : ℕ → ℕ → List ℤ → List ℤ → List ℤ → DecodeResult
zeroed status place coefficients work samples =
    record {
      status = status;
      place = place;
      coefficients = zeros_like coefficients;
      work = zeros_like work;
      samples = zeros_like samples;
    }

-- 0: "coefficients as unpacked (unpack, decode), samples as synthesised, work all zero"; the place is "bytes used".
unfoldable pub accepted : UnpackResult → SynthesisResult → DecodeResult
accepted u s = record { status = 0; place = u.place; coefficients = u.coefficients; work = s.work; samples = s.samples }

-- "decode (both)": "6 to 9 arise in reading order", and synthesis starts from coefficients that were accepted.
unfoldable pub unpacked_and_synthesised : UnpackResult → SynthesisResult → List ℤ → List ℤ → List ℤ → DecodeResult
unpacked_and_synthesised u s coefficients work samples =
    cond (not (eqb u.status 0)) (zeroed u.status u.place coefficients work samples)
    (cond (not (eqb s.status 0)) (zeroed s.status s.place coefficients work samples)
    (accepted u s))

-- "Checks run in this order; the first that applies is given."
unfoldable pub decoded : Parameters → List ℕ → List ℤ → List ℤ → List ℤ → DecodeResult
decoded p bytes coefficients work samples =
    let status = refusal_of Decode p (lengths_of coefficients work samples) in
    let u = unpacked p bytes coefficients in
    cond (not (eqb status 0)) (unchanged status coefficients work samples)
    (unpacked_and_synthesised u (synthesised p u.coefficients work samples) coefficients work samples)
