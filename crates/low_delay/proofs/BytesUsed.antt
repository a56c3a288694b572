-- Request Four: "Bytes used end with the last slice." And no more bytes are used than there are.
-- Assumes nothing.
use mathlib.Core.Path.{◌≡◌}
use mathlib.Core.Logic.{◌≢◌}
use mathlib.Core.List.{List}
use Prim.Native.Nat.{ℕ, ◌≤◌}
use native.Mathlib.Omega.{arith}
use lib.ListN.{length}
use Rattle.slices.specs.Planes.{Planes}
use Rattle.slices.specs.Areas.{slice_count}
use Rattle.low_delay.specs.Slices.{slice_start}
use Rattle.low_delay.specs.Job.{LowDelayResult, unpacked}
use Rattle.low_delay.specs.declared.parameters.LowDelay.{LowDelay}
use Rattle.low_delay.proofs.Refusals.{CheckStatus, size-out, depth-out, slices-out, plane-length, SliceStatus, bytes-short, code-long, index-large, value-large, luma_long, Ending, is-accepted, at-check, in-slice, in-prediction, call_ends}

-- So many bytes end with the last slice, and are there.
pub record SlicesUsed (p : LowDelay) (bytes : List ℕ) (used : ℕ) : Type 0 where
  pub all : used ≡ slice_start p (slice_count p.picture)
  pub within : used ≤ length bytes

-- the theorem, which `bytes-used` proves: on acceptance the place is such a number
abbrev pub BytesUsed : Type 0
BytesUsed = (p : LowDelay) (bytes : List ℕ) (planes : Planes) → (unpacked p bytes planes).status ≡ 0 → SlicesUsed p bytes (unpacked p bytes planes).place

-- no refusal has the number 0
check-numbered : {n : ℕ} → CheckStatus n → n ≢ 0
check-numbered size-out none = omega arith
check-numbered depth-out none = omega arith
check-numbered slices-out none = omega arith
check-numbered plane-length none = omega arith

slice-numbered : {n : ℕ} → SliceStatus n → n ≢ 0
slice-numbered bytes-short none = omega arith
slice-numbered code-long none = omega arith
slice-numbered index-large none = omega arith
slice-numbered value-large none = omega arith
slice-numbered luma_long none = omega arith

ending-used : (p : LowDelay) (bytes : List ℕ) (planes : Planes) (u : LowDelayResult) → Ending p bytes planes u → u.status ≡ 0 → SlicesUsed p bytes u.place
ending-used p bytes planes u (is-accepted status all within) none = record { all = all; within = within }
ending-used p bytes planes u (at-check status place same) none = absurd (check-numbered status none)
ending-used p bytes planes u (in-slice status place same) none = absurd (slice-numbered status none)
ending-used p bytes planes u (in-prediction intra status place same) none = absurd (omega arith)

pub bytes-used : BytesUsed
bytes-used p bytes planes = ending-used p bytes planes (unpacked p bytes planes) (call_ends p bytes planes)
