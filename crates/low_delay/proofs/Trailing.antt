-- Bytes after those used do not matter: the bytes up to where the last slice ends, followed by anything, are unpacked the same, to the same
-- answer and the same planes, whether accepted or refused.
-- Assumes nothing.
use mathlib.Core.Path.{◌≡◌, refl, sym, ap, ◌∙◌}
use mathlib.Core.Bool.{false}
use mathlib.Core.List.{List, ◌++◌}
use Prim.Native.Nat.{ℕ, zero, suc, ◌+◌, ◌≤◌}
use native.Mathlib.Decide.{ℕ_discrete}
use native.Mathlib.Omega.{arith}
use lib.Dec.{ltb}
use lib.ListN.{length, take, drop, length-append, length-drop}
use lib.Seq.{take-append-le, drop-append-le}
use borrow.Author.Tests.{le-ltb}
use Rattle.coefficients.specs.Reading.{Progress, At, Refused}
use Rattle.slices.specs.Planes.{Planes, zeros}
use Rattle.slices.specs.Areas.{slice_count}
use Rattle.low_delay.specs.Slices.{slice_start, slice_size, slice_parts, slice}
use Rattle.low_delay.specs.Job.{LowDelayResult, refusal_of, after_slice, slices_from, unpacked}
use Rattle.low_delay.specs.declared.parameters.LowDelay.{LowDelay}
use Rattle.low_delay.proofs.SlicesLaws.{start-grows, start-next}
use Rattle.low_delay.proofs.JobLaws.{passed, job-refused, job_read}

-- the theorem, which `trailing-free` proves: the bytes used, followed by some or by others
abbrev pub TrailingFree : Type 0
TrailingFree =
    (p : LowDelay) (used a b : List ℕ) (planes : Planes) → length used ≡ slice_start p (slice_count p.picture) →
    unpacked p (used ++ a) planes ≡ unpacked p (used ++ b) planes

-- bytes that are followed by some (a) or by others (b)
module _ (p : LowDelay) (some : 1 ≤ p.denominator) (used a b : List ℕ) where
  -- a slice whose bytes are all there is the same whatever follows
  slice-same : (k : ℕ) (planes : Planes) → slice_start p (suc k) ≤ length used → slice p (used ++ a) k planes ≡ slice p (used ++ b) k planes
  unfolding slice slice_parts
  slice-same k planes inside = rw (there a, there b, own a, own b) refl
    where
      there : (tail : List ℕ) → ltb (length (used ++ tail)) (slice_start p (suc k)) ≡ false
      there tail = le-ltb (length (used ++ tail)) (slice_start p (suc k)) (omega (arith, length-append used tail))

      own : (tail : List ℕ) → take (slice_size p k) (drop (slice_start p k) (used ++ tail)) ≡ take (slice_size p k) (drop (slice_start p k) used)
      own tail =
          let next = start-next p some k in
          ap (λ (l : List ℕ). take (slice_size p k) l) (drop-append-le (slice_start p k) used tail (omega arith))
          ∙ take-append-le (slice_size p k) (drop (slice_start p k) used) tail (omega (arith, length-drop (slice_start p k) used))

  -- so is what comes after it, if each way on from it is
  after_same : (k : ℕ) (progress : Progress) (after before : Planes) (go_a go_b : Planes → LowDelayResult) → ((planes : Planes) → go_a planes ≡ go_b planes) →
      after_slice k progress after go_a before ≡ after_slice k progress after go_b before
  unfolding after_slice
  after_same k (At bit) after before go_a go_b each = each after
  after_same k (Refused status bit) after before go_a go_b each = refl

  -- so are all slices up to one
  slices-same : (last n k : ℕ) → slice_start p last ≤ length used → n + k ≤ last → (planes : Planes) → slices_from p (used ++ a) n k planes ≡ slices_from p (used ++ b) n k planes
  unfolding slices_from
  slices-same last zero k inside counted planes = refl
  slices-same last (suc n) k inside counted planes =
      let here : slice_start p (suc k) ≤ length used = omega (arith, start-grows p some (suc k) last (omega arith)) in
      rw (slice-same k planes here)
      (after_same k (slice p (used ++ b) k planes).progress (slice p (used ++ b) k planes).plane planes _ _ (slices-same last n (suc k) inside (omega arith)))

pub trailing-free : TrailingFree
trailing-free p used a b planes all =
    elim (ℕ_discrete (refusal_of p planes) 0) [
      | yes none ↦
          sym (job_read p (used ++ a) planes none)
          ∙ slices-same p (passed p planes none).fraction.denominator_least used a b (slice_count p.picture) (slice_count p.picture) 0
          (omega arith) (omega arith) (zeros planes)
          ∙ job_read p (used ++ b) planes none
      | no some ↦ sym (job-refused p (used ++ a) planes (refusal_of p planes) refl some) ∙ job-refused p (used ++ b) planes (refusal_of p planes) refl some
    ]
