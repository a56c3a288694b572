-- Document 01, "Refusal numbers": what unpack answers and what it leaves in its plane, for every input.
use Rattle.std.specs.Prelude.{ℕ, zero, suc, ◌/◌, cond, List, eqb, ℤ, length}
use Rattle.base.specs.Lists.{zeros_like}
use Rattle.component.specs.Checks.{refusal_of}
use Rattle.component.specs.Subbands.{subband_count}
use Rattle.component.specs.declared.parameters.Parameters.{Parameters}
use Rattle.component.specs.declared.parameters.Answer.{Answer}
use Rattle.component.specs.declared.parameters.Job.TheVariants.{Unpack}
use Rattle.coefficients.specs.Reading.{Progress, At, Refused, goes_on}
use Rattle.unpack.specs.Subband.{subband}

-- What a call of unpack gives: its answer, and what the coefficient plane holds after it.
pub record UnpackResult : Type 0 where
  pub status : ℕ
  pub place : ℕ
  pub coefficients : List ℤ

-- What a call gave: its answer, and what stood in the plane when it returned.
unfoldable pub outcome : Answer → List ℤ → UnpackResult
outcome answer coefficients = record { status = answer.status; place = answer.place; coefficients = coefficients }

-- After subband k: accepted so far; or refused, with the subband as its place ("Subbands count from 0 in stream order") and zeros: "Zeros are
-- written to each plane the call may write."
unfoldable pub ended_with : ℕ → Progress → List ℤ → (ℕ → List ℤ → UnpackResult) → UnpackResult
ended_with k (At bit) plane go = go bit plane
ended_with k (Refused status bit) plane go = record { status = status; place = k; coefficients = zeros_like plane }

module _ (p : Parameters) (bytes : List ℕ) where
  -- "6 to 9 arise in reading order, the earliest ending the call": n subbands from subband k on, which starts at a bit. "bytes used" are
  -- those up to the end of the last, which is the end of a byte.
  unfoldable pub subbands_from : ℕ → ℕ → ℕ → List ℤ → UnpackResult
  subbands_from zero k at plane = record { status = 0; place = at / 8; coefficients = plane }
  subbands_from (suc n) k at plane =
      let r = subband p bytes k (goes_on at plane) in
      ended_with k r.progress r.plane (λ bit after. subbands_from n (suc k) bit after)

  -- "Checks run in this order"; then the subbands in stream order, over zeros, which stay where "all values are 0" and where a flag "leaves
  -- the block zero".
  unfoldable pub unpacked : List ℤ → UnpackResult
  unpacked coefficients =
      let status = refusal_of Unpack p (record { coefficients = length coefficients; work = 0; samples = 0 }) in
      cond (eqb status 0)
      (subbands_from (subband_count p.depth) 0 0 (zeros_like coefficients))
      (record { status = status; place = 0; coefficients = coefficients })
