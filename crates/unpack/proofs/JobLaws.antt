-- Laws of the job: what passed checks give, the subbands one by one, and the ways that it ends.
-- Assumes nothing.
use mathlib.Core.Path.{◌≡◌, refl, sym, ap}
use mathlib.Core.List.{List}
use mathlib.Core.Logic.{◌≢◌}
use Prim.Native.Nat.{ℕ, zero, suc, ◌+◌, ◌/◌}
use native.Mathlib.Omega.{arith}
use lib.IntN.{ℤ}
use lib.ListN.{length, length-replicate}
use borrow.Author.Tests.{eq-eqb, ne_eqb, eqb-true, not-false}
use Rattle.std.specs.Prelude.{Result}
use Rattle.base.specs.Lists.{zeros_like}
use Rattle.base.specs.declared.status.Fault.{Fault}
use Rattle.base.proofs.Booleans.{and_left}
use Rattle.base.proofs.ListsLaws.{zeros-length}
use Rattle.component.specs.Checks.{area_of, planes_fit, refusal_of}
use Rattle.component.specs.Subbands.{subband_count}
use Rattle.component.specs.declared.parameters.Parameters.{Parameters}
use Rattle.component.specs.declared.parameters.Job.TheVariants.{Unpack}
use Rattle.component.proofs.ChecksLaws.{passed}
use Rattle.coefficients.specs.Reading.{Progress, At, Refused, progress_of, Run, goes_on}
use Rattle.coefficients.specs.Values.{after}
use Rattle.unpack.specs.Subband.{subband}
use Rattle.unpack.specs.Job.{UnpackResult, ended_with, subbands_from, unpacked}
use Rattle.unpack.specs.Bounds.{Checked}

module _ (p : Parameters) (bytes : List ℕ) (k at : ℕ) (plane : List ℤ) where
  -- after the last
  pub subbands-end : subbands_from p bytes zero k at plane ≡ record { status = 0; place = at / 8; coefficients = plane }
  unfolding subbands_from
  subbands-end = refl

  -- subband k and those after it, from what was read of subband k
  pub subbands-read : (n : ℕ) (progress : Result ℕ Fault) (last : List ℤ) → after progress last ≡ subband p bytes k (goes_on at plane) →
      ended_with k (progress_of progress) last (subbands_from p bytes n (k + 1)) ≡ subbands_from p bytes (suc n) k at plane
  unfolding subbands_from
  subbands-read n progress last e =
      let more : k + 1 ≡ suc k = omega arith in
      rw more (ap (λ (r : Run). ended_with k r.progress r.plane (subbands_from p bytes n (suc k))) e)

-- An outcome that is no refusal, or leaves zeros.
abbrev pub ZeroedIfRefused : UnpackResult → Type 0
ZeroedIfRefused u = u.status ≢ 0 → u.coefficients ≡ zeros_like u.coefficients

ended-zeroed : (k : ℕ) (progress : Progress) (plane : List ℤ) (go : ℕ → List ℤ → UnpackResult) →
    ((bit : ℕ) (after : List ℤ) → ZeroedIfRefused (go bit after)) → ZeroedIfRefused (ended_with k progress plane go)
unfolding ended_with zeros_like
ended-zeroed k (At bit) plane go later some = later bit plane some
ended-zeroed k (Refused status bit) plane go later some = sym (zeros-length (zeros_like plane) plane (length-replicate _ _))

subbands-zeroed : (p : Parameters) (bytes : List ℕ) (n k at : ℕ) (plane : List ℤ) → ZeroedIfRefused (subbands_from p bytes n k at plane)
unfolding subbands_from
subbands-zeroed p bytes zero k at plane some = absurd (some refl)
subbands-zeroed p bytes (suc n) k at plane some = ended-zeroed k _ _ (subbands_from p bytes n (suc k)) (subbands-zeroed p bytes n (suc k)) some

-- What the checks say of a plane.
abbrev pub status : Parameters → List ℤ → ℕ
status p plane = refusal_of Unpack p (record { coefficients = length plane; work = 0; samples = 0 })

-- refused by a check, and not
module _ (p : Parameters) (bytes : List ℕ) (plane : List ℤ) where
  pub job-refused : status p plane ≢ 0 → unpacked p bytes plane ≡ record { status = status p plane; place = 0; coefficients = plane }
  unfolding unpacked
  job-refused some = rw (ne_eqb (status p plane) 0 some)

  pub job_read : status p plane ≡ 0 → unpacked p bytes plane ≡ subbands_from p bytes (subband_count p.depth) 0 0 (zeros_like plane)
  unfolding unpacked
  job_read none = rw (eq-eqb (status p plane) 0 none)

  -- what stood in the plane does not matter, unless a check refuses and leaves it
  pub plane-free : (other : List ℤ) → length other ≡ length plane → status p plane ≡ 0 → unpacked p bytes other ≡ unpacked p bytes plane
  unfolding unpacked
  plane-free other same none = rw (same, eq-eqb (status p plane) 0 none, zeros-length other plane same) refl

  -- a refusal that no check gave leaves zeros
  pub refused-zeros : status p plane ≡ 0 → ZeroedIfRefused (unpacked p bytes plane)
  refused-zeros none = rw (job_read none) (subbands-zeroed p bytes (subband_count p.depth) 0 0 (zeros_like plane))

-- where no check refused, the parameters and the plane are as the readers need them
module _ (p : Parameters) (plane : List ℤ) (none : status p plane ≡ 0) where
  pub job-checked : Checked p
  job-checked =
      let all = passed Unpack p _ none in
      record { sizes = all.sizes-pass; depth = all.depth-passes; codeblocks = not-false _ all.codeblocks-pass }

  pub job-fits : length plane ≡ area_of p
  unfolding planes_fit
  job-fits = eqb-true _ _ (and_left _ _ (passed Unpack p _ none).planes-pass)
