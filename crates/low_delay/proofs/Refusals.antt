-- Request Four: the ways in which a call ends, with what each leaves. "Place is the slice number; for a refusal in prediction it is the number of
-- slices." "13 has place 0 and changes no plane, 14 leaves zeros."
-- Assumes nothing.
use mathlib.Core.Path.{◌≡◌, refl, ◌∙◌}
use mathlib.Core.Logic.{◌≢◌}
use mathlib.Core.Bool.{Bool, true, false, not, cond, ◌&&◌}
use mathlib.Core.List.{List}
use Prim.Native.Nat.{ℕ, zero, suc, ◌+◌, ◌*◌, ◌≤◌, ◌<◌}
use native.Mathlib.Omega.{arith}
use lib.Dec.{eqb, ltb}
use lib.IntN.{ℤ}
use lib.ListN.{length, take, drop, length-replicate}
use borrow.Author.Tests.{ltb-false, eqb-false}
use Rattle.base.specs.Lists.{zeros_like}
use Rattle.base.specs.Range.{fits32}
use Rattle.base.specs.Sign.{with_sign}
use Rattle.component.specs.Checks.{in_range}
use Rattle.exp_golomb.specs.Bits.{bits_from}
use Rattle.exp_golomb.specs.Codes.{Number, Read, Missing, TooLong, signed}
use Rattle.coefficients.specs.Reading.{Progress, At, Refused, RunOf, goes_on, stops, going, on_number, store, value}
use Rattle.slices.specs.Planes.{Planes, planes_of, zeros, in_luma, in_first, in_second}
use Rattle.slices.specs.Areas.{luma_grid, chroma_grid, slice_count, indices_fit}
use Rattle.slices.specs.Parts.{PartData, Parts, refused, entry_values, parts_values}
use Rattle.slices.specs.declared.parameters.Picture.{Picture}
use Rattle.slices.specs.declared.parameters.Holder.{Holder}
use Rattle.slices.specs.declared.parameters.Holder.TheVariants.{Luma, Both}
use Rattle.slices.proofs.SliceFrame.{end_of, parts-hold}
use Rattle.low_delay.specs.Slices.{slice_start, slice_size, length_bits, low_delay_parts, slice_parts, slice}
use Rattle.low_delay.specs.Job.{LowDelayResult, result, sizes_in_range, slices_in_range, planes_fit, refusal_of, predicted_plane, accepted, predicted, finished, after_slice, slices_from, unpacked}
use Rattle.low_delay.specs.declared.parameters.LowDelay.{LowDelay}
use Rattle.low_delay.proofs.SlicesLaws.{start_none, slice-keeps}
use Rattle.low_delay.proofs.JobLaws.{zeros-same}

-- The numbers that a check gives.
pub data CheckStatus : ℕ → Type 0 where
  size-out : CheckStatus 1
  depth-out : CheckStatus 2
  slices-out : CheckStatus 13
  plane-length : CheckStatus 5

-- The numbers that a slice gives.
pub data SliceStatus : ℕ → Type 0 where
  bytes-short : SliceStatus 6
  code-long : SliceStatus 7
  index-large : SliceStatus 8
  value-large : SliceStatus 9
  luma_long : SliceStatus 14

-- How a call on planes ends. It is accepted, with the bytes of all slices used, and they were there. Or a check refuses it, at place 0, and no plane
-- is changed. Or a slice does, whose number is the place, or prediction, with the number of slices as the place; either leaves zeros.
pub data Ending (p : LowDelay) (bytes : List ℕ) (planes : Planes) (u : LowDelayResult) : Type 0 where
  is-accepted : u.status ≡ 0 → u.place ≡ slice_start p (slice_count p.picture) → u.place ≤ length bytes → Ending p bytes planes u
  at-check : CheckStatus u.status → u.place ≡ 0 → u.planes ≡ planes → Ending p bytes planes u
  in-slice : SliceStatus u.status → u.place < slice_count p.picture → u.planes ≡ zeros planes → Ending p bytes planes u
  in-prediction : p.picture.intra ≡ true → u.status ≡ 9 → u.place ≡ slice_count p.picture → u.planes ≡ zeros planes → Ending p bytes planes u

-- the theorem, which `call_ends` proves: there is no other way, so 0, 1, 2, 5 to 9, 13 and 14 are the only numbers
abbrev pub Refusals : Type 0
Refusals = (p : LowDelay) (bytes : List ℕ) (planes : Planes) → Ending p bytes planes (unpacked p bytes planes)

-- A run goes on, which says something, or was refused with a number that a slice gives.
abbrev Lands : Type 0 → Progress → Type 0
Lands P (At bit) = P
Lands P (Refused status bit) = SliceStatus status

module _ (P : Type 0) where
  -- after a value
  value-lands : (bytes : List ℕ) (end origin : ℕ) (scale : ℕ → ℕ) (put : ℤ → Planes → Planes) (r : RunOf Planes) → Lands P r.progress →
      Lands P (value bytes end origin scale put r).progress
  unfolding value going on_number store
  value-lands bytes end origin scale put r here = by r.progress here
    where
      stored : (v : ℤ) (next : ℕ) (fits : Bool) → P → Lands P (cond fits (goes_on next (put v r.plane)) (stops 9 (origin + next) r.plane)).progress
      stored v next true on = on
      stored v next false on = value-large

      read : (number : Number) → P →
          Lands P (on_number origin number r.plane (λ size minus next. store origin (with_sign (scale size) minus) put next r.plane)).progress
      read (Read size minus next) on = stored (with_sign (scale size) minus) next (fits32 (with_sign (scale size) minus)) on
      read (Missing next) on = bytes-short
      read (TooLong next) on = code-long

      by : (progress : Progress) → Lands P progress →
          Lands P (going progress r.plane
          (λ at. on_number origin (signed bytes end true at) r.plane (λ size minus next. store origin (with_sign (scale size) minus) put next r.plane))).progress
      by (At at) on = read (signed bytes end true at) on
      by (Refused status bit) on = on

  entry-lands : (d : PartData) (scale : ℕ → ℕ) (holder : Holder) (i : ℕ) (r : RunOf Planes) → Lands P r.progress →
      Lands P (entry_values d scale holder i r).progress
  unfolding entry_values
  entry-lands d scale Luma i r here = value-lands d.bytes d.to d.origin scale (in_luma i) r here
  entry-lands d scale Both i r here =
      value-lands d.bytes d.to d.origin scale (in_second i) _ (value-lands d.bytes d.to d.origin scale (in_first i) r here)

  -- at the end of these parts or those
  choice-lands : (test : Bool) (a b : Parts) → Lands P (end_of a) → Lands P (end_of b) → Lands P (end_of (cond test a b))
  choice-lands true a b ha hb = ha
  choice-lands false a b ha hb = hb

  -- at the end of a slice that has its bytes
  parts-land : (p : Picture) (size : ℕ) (bytes : List ℕ) (start : ℕ) → P → Lands P (end_of (low_delay_parts p size bytes start))
  unfolding low_delay_parts end_of
  parts-land p size bytes start on =
      choice-lands (ltb (8 * size) (7 + length_bits size + bits_from bytes 7 (length_bits size))) _ _ luma_long
      (choice-lands (not (indices_fit p (bits_from bytes 0 7))) _ _ index-large on)

-- The bytes of slice k are there.
abbrev There : LowDelay → List ℕ → ℕ → Type 0
There p bytes k = slice_start p (suc k) ≤ length bytes

module _ (p : LowDelay) (bytes : List ℕ) where
  -- after a slice that goes on its bytes were there
  slice-lands : (k : ℕ) (planes : Planes) → Lands (There p bytes k) (slice p bytes k planes).progress
  unfolding slice slice_parts parts_values going
  slice-lands k planes = by (ltb (length bytes) (slice_start p (suc k))) refl
    where
      own : Parts
      own = low_delay_parts p.picture (slice_size p k) (take (slice_size p k) (drop (slice_start p k) bytes)) (8 * slice_start p k)

      by : (test : Bool) → ltb (length bytes) (slice_start p (suc k)) ≡ test →
          Lands (There p bytes k)
          (parts_values p.picture k (cond test (refused 6 (8 * slice_start p k)) own) (goes_on (8 * slice_start p k) planes)).progress
      by true short = bytes-short
      by false enough =
          parts-hold p.picture k (λ r. Lands (There p bytes k) r.progress) (λ d scale holder i inside. entry-lands (There p bytes k) d scale holder i)
          (λ at from now on. on) own (λ at now on. parts-land (There p bytes k) p.picture _ _ _ on)
          (goes_on (8 * slice_start p k) planes) (ltb-false _ _ enough)

-- a refusal by a check
check-status : (sizes depth slices lengths : Bool) →
    let status : ℕ = cond (not sizes) 1 (cond (not depth) 2 (cond (not slices) 13 (cond (not lengths) 5 0))) in
    status ≢ 0 → CheckStatus status
check-status false depth slices lengths some = size-out
check-status true false slices lengths some = depth-out
check-status true true false lengths some = slices-out
check-status true true true false some = plane-length
check-status true true true true some = absurd (some refl)

module _ (p : LowDelay) (bytes : List ℕ) (planes : Planes) where
  -- after all slices
  finished-ends : (now : Planes) → zeros now ≡ zeros planes → slice_start p (slice_count p.picture) ≤ length bytes →
      Ending p bytes planes (finished p now)
  unfolding finished predicted accepted
  finished-ends now same within = by p.picture.intra refl
    where
      tested : (fits : Bool) (after : Planes) → p.picture.intra ≡ true →
          Ending p bytes planes (cond fits (accepted p after) (result 9 (slice_count p.picture) (zeros now)))
      tested true after intra = is-accepted refl refl within
      tested false after intra = in-prediction intra refl refl same

      by : (intra : Bool) → p.picture.intra ≡ intra → Ending p bytes planes (cond intra (predicted p now) (accepted p now))
      by true e =
          let luma = predicted_plane (luma_grid p.picture) now.luma in
          let first = predicted_plane (chroma_grid p.picture) now.first in
          let second = predicted_plane (chroma_grid p.picture) now.second in
          tested (luma.fits && first.fits && second.fits) (planes_of luma.plane first.plane second.plane) e
      by false e = is-accepted refl refl within

  -- after a slice
  slice-ends : (k : ℕ) (progress : Progress) (after before : Planes) (go : Planes → LowDelayResult) → k < slice_count p.picture → zeros before ≡ zeros planes →
      Lands (There p bytes k) progress → (There p bytes k → Ending p bytes planes (go after)) →
      Ending p bytes planes (after_slice k progress after go before)
  unfolding after_slice
  slice-ends k (At bit) after before go below same there on = on there
  slice-ends k (Refused status bit) after before go below same status-is on = in-slice status-is below same

  slices-end : (n k : ℕ) (now : Planes) → k + n ≡ slice_count p.picture → zeros now ≡ zeros planes → slice_start p k ≤ length bytes →
      Ending p bytes planes (slices_from p bytes n k now)
  unfolding slices_from
  slices-end zero k now all same within =
      let last : k ≡ slice_count p.picture = omega arith in
      finished-ends now same (rw last at within)
  slices-end (suc n) k now all same within =
      let r = slice p bytes k now in
      let kept = slice-keeps p bytes k now in
      slice-ends k r.progress r.plane now (slices_from p bytes n (suc k)) (omega arith) same (slice-lands p bytes k now)
      (λ there. slices-end n (suc k) r.plane (omega arith) (zeros-same _ _ kept.luma.lengths kept.first.lengths kept.second.lengths ∙ same) there)

pub call_ends : Refusals
unfolding unpacked refusal_of zeros zeros_like
call_ends p bytes planes = by (eqb (refusal_of p planes) 0) refl
  where
    by : (test : Bool) → eqb (refusal_of p planes) 0 ≡ test →
        Ending p bytes planes (cond test (slices_from p bytes (slice_count p.picture) 0 (zeros planes)) (result (refusal_of p planes) 0 planes))
    by true e =
        slices-end p bytes planes (slice_count p.picture) 0 (zeros planes) (omega arith)
        (zeros-same (zeros planes) planes (length-replicate _ _) (length-replicate _ _) (length-replicate _ _)) (omega (arith, start_none p))
    by false e =
        at-check
        (check-status (sizes_in_range p.picture) (in_range 0 4 p.picture.depth) (slices_in_range p) (planes_fit p.picture planes) (eqb-false _ _ e))
        refl refl
