-- On acceptance only the bytes used matter: the same bytes followed by anything else are unpacked the same, to the same answer and the same
-- coefficients.
-- Assumes nothing.
use mathlib.Core.Path.{◌≡◌, refl, sym, ap, ◌∙◌}
use mathlib.Core.Bool.{Bool, true, false, cond}
use mathlib.Core.List.{List, ◌++◌}
use Prim.Native.Nat.{ℕ, zero, suc, ◌+◌, ◌*◌, ◌/◌, ◌%◌, ◌≤◌}
use native.Mathlib.Omega.{arith}
use lib.Dec.{ltb}
use lib.IntN.{ℤ}
use lib.ListN.{length, take, drop, length-append, length-take, length-drop, take-append-drop}
use lib.Seq.{take-append-le, drop-append-le}
use borrow.Author.Tests.{le-ltb}
use Rattle.base.specs.Lists.{zeros_like}
use Rattle.component.specs.Subbands.{subband_count}
use Rattle.component.specs.declared.parameters.Parameters.{Parameters}
use Rattle.coefficients.specs.Reading.{Progress, At, Refused, Run, goes_on, going}
use Rattle.codeblocks.specs.declared.CodeblockGrid.{CodeblockGrid}
use Rattle.prediction.specs.Prediction.{prediction}
use Rattle.unpack.specs.Header.{Header, Skipped, Coded, Refused as RefusedHeader, header_at}
use Rattle.unpack.specs.Subband.{goes_on_at, subband_data, checked_data, headed, predicted_band, is_predicted, codeblocks_of, subband_from, subband}
use Rattle.unpack.specs.Job.{UnpackResult, ended_with, subbands_from, unpacked}
use Rattle.unpack.proofs.HeaderLaws.{Announced, header-announced, EndsBy, header-followed}
use Rattle.unpack.proofs.JobLaws.{job_read}
use Rattle.unpack.proofs.Within.{Lands, Ends, Between, subband-lands, used-between, accepted-read, used-at-most}

-- A run goes on, no further than a bit.
abbrev Upto : ℕ → Progress → Type 0
Upto n (At bit) = bit ≤ n
Upto n (Refused status bit) = ⊥

-- a run that went on after a choice took one of its ways
choice-passed : (C : Type 0) (n : ℕ) (test : Bool) (a b : Run) → Upto n (cond test a b).progress →
    (test ≡ true → Upto n a.progress → C) → (test ≡ false → Upto n b.progress → C) → C
choice-passed C n true a b upto yes-a no-b = yes-a refl upto
choice-passed C n false a b upto yes-a no-b = no-b refl upto

-- one that went on after data is where they end
data-passed : (n next : ℕ) (r : Run) → Upto n (goes_on_at next r).progress → next ≤ n
unfolding goes_on_at going
data-passed n next r upto = by r.progress upto
  where
    by : (progress : Progress) → Upto n (going progress r.plane (λ at. goes_on next r.plane)).progress → next ≤ n
    by (At bit) h = h
    by (Refused status bit) h = absurd h

-- one that went on after prediction went on before it, at the same bit
prediction-passed : (n : ℕ) (b : CodeblockGrid) (progress : Progress) (plane : List ℤ) →
    Upto n (going progress plane (λ bit. predicted_band b bit plane)).progress → Upto n progress
unfolding going predicted_band
prediction-passed n b (At bit) plane upto =
    choice-passed (bit ≤ n) n (prediction b.stride b.subband.width b.subband.height plane).fits _ _ upto (λ t h. h) (λ t h. absurd h)
prediction-passed n b (Refused status bit) plane upto = upto

-- bytes that are used, followed by some (a) or by others (b)
module _ (p : Parameters) (used a b : List ℕ) where
  -- data that were read are the same whatever follows, if the run went on within the bytes used
  data-same : (c : CodeblockGrid) (intra : Bool) (index bit size : ℕ) (plane : List ℤ) → bit % 8 ≡ 0 → Upto (8 * length used) (checked_data c (used ++ a) intra index bit size plane).progress →
      (bit ≤ 8 * length used) × (checked_data c (used ++ b) intra index bit size plane ≡ checked_data c (used ++ a) intra index bit size plane)
  unfolding checked_data subband_data
  data-same c intra index bit size plane whole upto =
      let inside : bit + 8 * size ≤ 8 * length used =
      choice-passed (bit + 8 * size ≤ 8 * length used) (8 * length used) (ltb 115 index) _ _ upto (λ t h. absurd h)
      (λ t h. choice-passed (bit + 8 * size ≤ 8 * length used) (8 * length used) (ltb (length (used ++ a)) (bit / 8 + size)) _ _ h (λ u g. absurd g)
      (λ u g. data-passed (8 * length used) (bit + 8 * size) _ g)) in
      (omega arith, rw (fits b inside, fits a inside, part b inside, part a inside) refl)
    where
      fits : (tail : List ℕ) → bit + 8 * size ≤ 8 * length used → ltb (length (used ++ tail)) (bit / 8 + size) ≡ false
      fits tail inside = le-ltb (length (used ++ tail)) (bit / 8 + size) (omega (arith, length-append used tail))

      part : (tail : List ℕ) → bit + 8 * size ≤ 8 * length used → take size (drop (bit / 8) (used ++ tail)) ≡ take size (drop (bit / 8) used)
      part tail inside =
          ap (λ (l : List ℕ). take size l) (drop-append-le (bit / 8) used tail (omega arith))
          ∙ take-append-le size (drop (bit / 8) used) tail (omega (arith, length-drop (bit / 8) used))

  -- so is what a header announces, and the header ends within the bytes used
  headed-same : (c : CodeblockGrid) (intra : Bool) (at : ℕ) (h : Header) (plane : List ℤ) → Announced (used ++ a) at h → Upto (8 * length used) (headed c (used ++ a) intra h plane).progress →
      EndsBy (8 * length used) h × (headed c (used ++ b) intra h plane ≡ headed c (used ++ a) intra h plane)
  unfolding headed
  headed-same c intra at (Skipped bit) plane known upto = (upto, refl)
  headed-same c intra at (Coded index bit size) plane known upto = data-same c intra index bit size plane known.0.whole upto
  headed-same c intra at (RefusedHeader status bit) plane known upto = (upto, refl)

  -- so are a subband's header and data together
  from-same : (k at : ℕ) (plane : List ℤ) → Upto (8 * length used) (subband_from p (used ++ a) k at plane).progress →
      subband_from p (used ++ b) k at plane ≡ subband_from p (used ++ a) k at plane
  unfolding subband_from
  from-same k at plane upto =
      let same = headed-same (codeblocks_of p k) _ at (header_at (used ++ a) at) plane (header-announced (used ++ a) at) upto in
      rw (header-followed used a b at same.0) same.1

  -- so is a subband, predicted or not
  subband-same : (k at : ℕ) (plane : List ℤ) → Upto (8 * length used) (subband p (used ++ a) k (goes_on at plane)).progress →
      subband p (used ++ b) k (goes_on at plane) ≡ subband p (used ++ a) k (goes_on at plane)
  unfolding subband going
  subband-same k at plane upto = rw (from-same k at plane (by (is_predicted p k) upto))
    where
      r : Run
      r = subband_from p (used ++ a) k at plane

      by : (test : Bool) → Upto (8 * length used) (cond test (going r.progress r.plane (λ bit. predicted_band (codeblocks_of p k) bit r.plane)) r).progress → Upto (8 * length used) r.progress
      by true h = prediction-passed (8 * length used) (codeblocks_of p k) r.progress r.plane h
      by false h = h

  -- what follows a subband is the same, if each way on from it is
  ended_same : (k at : ℕ) (r s : Run) (go_a go_b : ℕ → List ℤ → UnpackResult) → at ≤ 8 * length (used ++ a) → Lands (Ends (used ++ a) at) r.progress →
      (Upto (8 * length used) r.progress → s ≡ r) →
      ((bit : ℕ) (after : List ℤ) → bit ≤ 8 * length (used ++ a) → bit % 8 ≡ 0 → (go_a bit after).status ≡ 0 → Between (used ++ a) bit (go_a bit after).place) →
      ((bit : ℕ) (after : List ℤ) → bit ≤ 8 * length (used ++ a) → bit % 8 ≡ 0 → (go_a bit after).status ≡ 0 → (go_a bit after).place ≤ length used → go_b bit after ≡ go_a bit after) →
      (ended_with k r.progress r.plane go_a).status ≡ 0 → (ended_with k r.progress r.plane go_a).place ≤ length used →
      ended_with k s.progress s.plane go_b ≡ ended_with k r.progress r.plane go_a
  unfolding ended_with
  ended_same k at r s go_a go_b start lands same onward each fine inside = by r.progress r.plane lands same fine inside
    where
      by : (progress : Progress) (plane : List ℤ) → Lands (Ends (used ++ a) at) progress →
          (Upto (8 * length used) progress → s ≡ record { progress = progress; plane = plane }) →
          (ended_with k progress plane go_a).status ≡ 0 → (ended_with k progress plane go_a).place ≤ length used →
          ended_with k s.progress s.plane go_b ≡ ended_with k progress plane go_a
      by (At bit) plane here alike ok least =
          let further = onward bit plane (here.within start) here.whole ok in
          rw (alike (omega (arith, further.0, least))) (each bit plane (here.within start) here.whole ok least)
      by (Refused status bit) plane here alike ok least = absurd (here ok)

  -- so are all subbands
  subbands-same : (n k at : ℕ) (plane : List ℤ) → at ≤ 8 * length (used ++ a) → at % 8 ≡ 0 → (subbands_from p (used ++ a) n k at plane).status ≡ 0 →
      (subbands_from p (used ++ a) n k at plane).place ≤ length used → subbands_from p (used ++ b) n k at plane ≡ subbands_from p (used ++ a) n k at plane
  unfolding subbands_from
  subbands-same zero k at plane here whole fine inside = refl
  subbands-same (suc n) k at plane here whole fine inside =
      ended_same k at (subband p (used ++ a) k (goes_on at plane)) (subband p (used ++ b) k (goes_on at plane))
      (subbands_from p (used ++ a) n (suc k)) (subbands_from p (used ++ b) n (suc k)) here (subband-lands p (used ++ a) k at plane)
      (subband-same k at plane) (used-between p (used ++ a) n (suc k)) (subbands-same n (suc k)) fine inside

  -- so is the job, if it uses no more than those bytes
  job-same : (plane : List ℤ) → (unpacked p (used ++ a) plane).status ≡ 0 → (unpacked p (used ++ a) plane).place ≤ length used →
      unpacked p (used ++ b) plane ≡ unpacked p (used ++ a) plane
  job-same plane fine inside =
      let passed = accepted-read p (used ++ a) plane fine in
      let read = job_read p (used ++ a) plane passed in
      job_read p (used ++ b) plane passed
      ∙ subbands-same (subband_count p.depth) 0 0 (zeros_like plane) (omega arith) (omega arith) (rw read at fine) (rw read at inside)
      ∙ sym read

-- On acceptance, the bytes used, followed by anything, are unpacked the same.
pub followed-by-anything : (p : Parameters) (bytes tail : List ℕ) (plane : List ℤ) → (unpacked p bytes plane).status ≡ 0 →
    unpacked p (take (unpacked p bytes plane).place bytes ++ tail) plane ≡ unpacked p bytes plane
followed-by-anything p bytes tail plane fine =
    let n = (unpacked p bytes plane).place in
    let split = take-append-drop n bytes in
    let most = used-at-most p bytes plane fine in
    job-same p (take n bytes) (drop n bytes) tail plane (rw split fine) (rw split (omega (arith, length-take n bytes))) ∙ ap (λ (l : List ℕ). unpacked p l plane) split

-- On acceptance, other bytes that begin with the bytes used are unpacked the same: bytes after those used do not matter.
pub trailing-free : (p : Parameters) (bytes other : List ℕ) (plane : List ℤ) → (unpacked p bytes plane).status ≡ 0 →
    take (unpacked p bytes plane).place other ≡ take (unpacked p bytes plane).place bytes → unpacked p other plane ≡ unpacked p bytes plane
trailing-free p bytes other plane fine same =
    let n = (unpacked p bytes plane).place in
    sym (ap (λ (l : List ℕ). unpacked p l plane) (take-append-drop n other))
    ∙ ap (λ (l : List ℕ). unpacked p (l ++ drop n other) plane) same
    ∙ followed-by-anything p bytes (drop n other) plane fine
