-- On acceptance the bytes used are at most the bytes that there are: a run never goes back, nor on past the end of the bytes, and a refusal's
-- number is never 0. Nor does a subband go on far, so that the bits of all of them can be counted.
-- Assumes nothing.
use mathlib.Core.Path.{◌≡◌, refl, sym, ap, ◌∙◌, subst}
use mathlib.Core.Logic.{◌≢◌}
use mathlib.Core.Bool.{Bool, true, false, cond}
use mathlib.Core.List.{List}
use Prim.Native.Nat.{ℕ, zero, suc, ◌+◌, ◌*◌, ◌/◌, ◌%◌, ◌^◌, ◌≤◌}
use native.Mathlib.Decide.{ℕ_discrete}
use native.Mathlib.Omega.{arith}
use lib.Dec.{eqb, ltb}
use lib.IntN.{ℤ}
use lib.ListN.{length}
use borrow.Author.Tests.{ltb-false}
use Rattle.base.specs.Lists.{zeros_like}
use Rattle.base.specs.Range.{fits32}
use Rattle.base.proofs.WalkLaws.{walk-holds}
use Rattle.component.specs.Subbands.{subband_count}
use Rattle.component.specs.declared.parameters.Parameters.{Parameters}
use Rattle.exp_golomb.specs.Bits.{Bit, Taken, Absent, take_bit}
use Rattle.exp_golomb.specs.Codes.{Number, Read, Missing, TooLong}
use Rattle.coefficients.specs.Reading.{Progress, At, Refused, Run, goes_on, stops, going, on_number, store, value, rectangle_values}
use Rattle.coefficients.specs.declared.reading.Rectangle.{Rectangle}
use Rattle.codeblocks.specs.Codeblocks.{on_flag, codeblock_area, codeblock_values, codeblock, codeblocks}
use Rattle.codeblocks.specs.declared.CodeblockGrid.{CodeblockGrid}
use Rattle.prediction.specs.Prediction.{prediction}
use Rattle.unpack.specs.Header.{Header, Skipped, Coded, Refused as RefusedHeader, header_at}
use Rattle.unpack.specs.Subband.{goes_on_at, subband_data, checked_data, headed, predicted_band, is_predicted, codeblocks_of, subband_from, subband}
use Rattle.unpack.specs.Job.{UnpackResult, ended_with, subbands_from, unpacked}
use Rattle.unpack.proofs.HeaderLaws.{Follows, Announced, header-announced}
use Rattle.unpack.proofs.JobLaws.{status, job-refused, job_read}

-- A run goes on at a bit that passes a test, or was refused with a number that is not 0.
abbrev pub Lands : (ℕ → Type 0) → Progress → Type 0
Lands P (At bit) = P bit
Lands P (Refused status bit) = status ≢ 0

-- what follows a number, a choice, a step, a store and a flag
module _ (P : ℕ → Type 0) where
  number-lands : (origin : ℕ) (number : Number) (plane : List ℤ) (go : ℕ → Bool → ℕ → Run) →
      ((size : ℕ) (minus : Bool) (next : ℕ) → Lands P (go size minus next).progress) → Lands P (on_number origin number plane go).progress
  unfolding on_number
  number-lands origin (Read size minus next) plane go each = each size minus next
  number-lands origin (Missing next) plane go each = λ e. omega arith
  number-lands origin (TooLong next) plane go each = λ e. omega arith

  choice-lands : (test : Bool) (a b : Run) → (test ≡ true → Lands P a.progress) → (test ≡ false → Lands P b.progress) → Lands P (cond test a b).progress
  choice-lands true a b yes-a no-b = yes-a refl
  choice-lands false a b yes-a no-b = no-b refl

  step-lands : (progress : Progress) (plane : List ℤ) (next : ℕ → Run) → Lands P progress →
      ((bit : ℕ) → P bit → Lands P (next bit).progress) → Lands P (going progress plane next).progress
  unfolding going
  step-lands (At bit) plane next here each = each bit here
  step-lands (Refused status bit) plane next here each = here

  store-lands : (origin : ℕ) (v : ℤ) (put : ℤ → List ℤ → List ℤ) (next : ℕ) (plane : List ℤ) → P next → Lands P (store origin v put next plane).progress
  unfolding store
  store-lands origin v put next plane here =
      choice-lands (fits32 v) (goes_on next (put v plane)) (stops 9 (origin + next) plane) (λ t. here) (λ t e. omega arith)

  flag-lands : (origin at : ℕ) (bit : Bit) (plane : List ℤ) (go : ℕ → Run) → ((next : ℕ) → P next) → ((next : ℕ) → Lands P (go next).progress) →
      Lands P (on_flag origin at bit plane go).progress
  unfolding on_flag
  flag-lands origin at (Taken bit next) plane go all each = choice-lands (eqb bit 1) (goes_on next plane) (go next) (λ t. all next) (λ t. each next)
  flag-lands origin at Absent plane go all each = λ e. omega arith

-- Any bit.
abbrev Anywhere : ℕ → Type 0
Anywhere n = Unit {0}

abbrev LandsAnywhere : Run → Type 0
LandsAnywhere r = Lands Anywhere r.progress

-- reading codeblocks is refused with a number that is not 0
module _ (bytes : List ℕ) (end origin : ℕ) (scale : ℕ → ℕ) where
  value-lands : (put : ℤ → List ℤ → List ℤ) (r : Run) → LandsAnywhere r → LandsAnywhere (value bytes end origin scale put r)
  unfolding value
  value-lands put r here =
      step-lands Anywhere r.progress r.plane _ here
      (λ at there. number-lands Anywhere origin _ r.plane _ (λ size minus next. store-lands Anywhere origin _ put next r.plane tt))

  rectangle-lands : (a : Rectangle) (r : Run) → LandsAnywhere r → LandsAnywhere (rectangle_values bytes end origin scale a r)
  unfolding rectangle_values
  rectangle-lands a r here =
      walk-holds LandsAnywhere _ 0 a.height (λ y low. walk-holds LandsAnywhere _ 0 a.width (λ x inner. value-lands _)) r here

  codeblocks-land : (b : CodeblockGrid) (r : Run) → LandsAnywhere r → LandsAnywhere (codeblocks bytes end origin scale b r)
  unfolding codeblocks codeblock codeblock_values
  codeblocks-land b r here =
      walk-holds LandsAnywhere _ 0 b.down
      (λ y low. walk-holds LandsAnywhere (codeblock bytes end origin scale b y) 0 b.across
      (λ x inner u this.
      choice-lands Anywhere (eqb (b.across * b.down) 1) _ _ (λ one. rectangle-lands (codeblock_area b y x) u this)
      (λ more. step-lands Anywhere u.progress u.plane _ this
      (λ at any.
      flag-lands Anywhere origin at (take_bit bytes end true at) u.plane _ (λ next. tt)
      (λ next. rectangle-lands (codeblock_area b y x) (goes_on next u.plane) tt)))))
      r here

-- after data, a run goes on where they end
goes-on-lands : (P : ℕ → Type 0) (next : ℕ) (r : Run) → P next → Lands Anywhere r.progress → Lands P (goes_on_at next r).progress
unfolding goes_on_at going
goes-on-lands P next r passes here = by r.progress here
  where
    by : (progress : Progress) → Lands Anywhere progress → Lands P (going progress r.plane (λ at. goes_on next r.plane)).progress
    by (At bit) h = passes
    by (Refused status bit) h = h

-- A bit to go on at after a subband.
abbrev pub Ends : List ℕ → ℕ → ℕ → Type 0
Ends bytes at = Follows bytes at (2 ^ 36)

-- a subband ends where it announces, within the bytes
headed-lands : (b : CodeblockGrid) (bytes : List ℕ) (intra : Bool) (at : ℕ) (h : Header) (plane : List ℤ) → Announced bytes at h → Lands (Ends bytes at) (headed b bytes intra h plane).progress
unfolding headed checked_data subband_data
headed-lands b bytes intra at (Skipped bit) plane known =
    record { onward = known.onward; bits_most = omega (arith, known.bits_most); whole = known.whole; within = known.within }
headed-lands b bytes intra at (Coded index bit size) plane known =
    choice-lands (Ends bytes at) (ltb 115 index) _ _ (λ t e. omega arith)
    (λ t. choice-lands (Ends bytes at) (ltb (length bytes) (bit / 8 + size)) _ _ (λ u e. omega arith)
    (λ u.
    let there = ltb-false (length bytes) (bit / 8 + size) u in
    goes-on-lands (Ends bytes at) (bit + 8 * size) _
    (record {
      onward = omega (arith, known.0.onward);
      bits_most = omega (arith, known.0.bits_most, known.1);
      whole = omega (arith, known.0.whole);
      within = λ inside. omega (arith, known.0.whole, there);
    })
    (codeblocks-land _ _ _ _ b (goes_on 0 plane) tt)))
headed-lands b bytes intra at (RefusedHeader status bit) plane known = known

-- and prediction goes on where it was
predicted-lands : (P : ℕ → Type 0) (b : CodeblockGrid) (bit : ℕ) (plane : List ℤ) → P bit → Lands P (predicted_band b bit plane).progress
unfolding predicted_band
predicted-lands P b bit plane here = choice-lands P (prediction b.stride b.subband.width b.subband.height plane).fits _ _ (λ t. here) (λ t e. omega arith)

-- So many bytes reach a bit, and are no more than there are.
abbrev pub Between : List ℕ → ℕ → ℕ → Type 0
Between bytes at n = (at ≤ 8 * n) × (n ≤ length bytes)

module _ (p : Parameters) (bytes : List ℕ) where
  -- so a subband ends not far on, no earlier than it starts, and within the bytes if it starts there
  pub subband-lands : (k at : ℕ) (plane : List ℤ) → Lands (Ends bytes at) (subband p bytes k (goes_on at plane)).progress
  unfolding subband subband_from going
  subband-lands k at plane =
      let here = headed-lands (codeblocks_of p k) bytes _ at (header_at bytes at) plane (header-announced bytes at) in
      choice-lands (Ends bytes at) (is_predicted p k) _ _
      (λ t. step-lands (Ends bytes at) (subband_from p bytes k at plane).progress (subband_from p bytes k at plane).plane _ here (λ bit. predicted-lands (Ends bytes at) (codeblocks_of p k) bit _))
      (λ t. here)

  -- and so the next one starts there
  pub subband-bits-most : (k at bit : ℕ) (plane last : List ℤ) → goes_on bit last ≡ subband p bytes k (goes_on at plane) → Ends bytes at bit
  subband-bits-most k at bit plane last e = subst (λ (r : Run). Lands (Ends bytes at) r.progress) (sym e) (subband-lands k at plane)

  -- what follows a subband ends where each way on from it does
  ended : (k at : ℕ) (progress : Progress) (plane : List ℤ) (go : ℕ → List ℤ → UnpackResult) → at ≤ 8 * length bytes → Lands (Ends bytes at) progress →
      ((bit : ℕ) (after : List ℤ) → bit ≤ 8 * length bytes → bit % 8 ≡ 0 → (go bit after).status ≡ 0 → Between bytes bit (go bit after).place) →
      (ended_with k progress plane go).status ≡ 0 → Between bytes at (ended_with k progress plane go).place
  unfolding ended_with
  ended k at (At bit) plane go inside here each fine =
      let further = each bit plane (here.within inside) here.whole fine in
      (omega (arith, here.onward, further.0), further.1)
  ended k at (Refused status bit) plane go inside here each fine = absurd (here fine)

  -- so all subbands end no earlier than they start, and within the bytes
  pub used-between : (n k at : ℕ) (plane : List ℤ) → at ≤ 8 * length bytes → at % 8 ≡ 0 → (subbands_from p bytes n k at plane).status ≡ 0 →
      Between bytes at (subbands_from p bytes n k at plane).place
  unfolding subbands_from
  used-between zero k at plane inside whole fine = (omega arith, omega arith)
  used-between (suc n) k at plane inside whole fine =
      let r = subband p bytes k (goes_on at plane) in
      ended k at r.progress r.plane (subbands_from p bytes n (suc k)) inside (subband-lands k at plane)
      (λ bit after here first. used-between n (suc k) bit after here first) fine

  -- a job that was accepted passed the checks
  pub accepted-read : (plane : List ℤ) → (unpacked p bytes plane).status ≡ 0 → status p plane ≡ 0
  accepted-read plane fine =
      elim (ℕ_discrete (status p plane) 0) [
        | yes none ↦ none
        | no some ↦ sym (ap (λ (u : UnpackResult). u.status) (job-refused p bytes plane some)) ∙ fine
      ]

  -- On acceptance, the bytes used are at most the bytes that there are.
  pub used-at-most : (plane : List ℤ) → (unpacked p bytes plane).status ≡ 0 → (unpacked p bytes plane).place ≤ length bytes
  used-at-most plane fine =
      let read = job_read p bytes plane (accepted-read plane fine) in
      rw read (used-between (subband_count p.depth) 0 0 (zeros_like plane) (omega arith) (omega arith) (rw read at fine)).1
