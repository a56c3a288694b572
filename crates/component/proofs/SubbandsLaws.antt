-- Laws of subbands: where each orientation_of starts.
-- Assumes nothing.
use mathlib.Core.Path.{◌≡◌}
use mathlib.Core.Logic.{◌≢◌}
use Prim.Native.Nat.{ℕ, suc, ◌+◌, ◌-◌, ◌*◌, ◌/◌, ◌%◌, ◌≤◌, ◌<◌}
use native.Mathlib.Decide.{ℕ_discrete}
use native.Mathlib.Omega.{arith}
use borrow.Author.Tests.{ne_eqb}
use Rattle.component.specs.Subbands.{Orientation, LL, HL, LH, HH, subband_count, subband_level, detail_of, orientation_of, left_of, top_of, subband_at}
use Rattle.component.specs.Sizes.{padded_size, band_size}
use Rattle.component.proofs.SizesLaws.{size_at-mono, size_at-padded, band-size_at, size_at-double, low-most}

-- past LL the remainder by 3 tells the orientation_of
pub detail : (k : ℕ) → k ≢ 0 → orientation_of k ≡ detail_of (k % 3)
unfolding orientation_of
detail k h = rw (ne_eqb k 0 h)

-- a subband starts no further than its own size from the left and from the top, and LL at both
pub left-most : (o : Orientation) (w : ℕ) → left_of o w ≤ w
unfolding left_of
left-most LL w = omega arith
left-most HL w = omega arith
left-most LH w = omega arith
left-most HH w = omega arith

pub top-most : (o : Orientation) (h : ℕ) → top_of o h ≤ h
unfolding top_of
top-most LL h = omega arith
top-most HL h = omega arith
top-most LH h = omega arith
top-most HH h = omega arith

-- twice the band size of a level from 1 on is at most the padded size
band-twice : (depth size k : ℕ) → k ≢ 0 → k < subband_count depth → 2 * band_size depth (padded_size depth size) (subband_level k) ≤ padded_size depth size
unfolding subband_level
band-twice depth size k some below =
    let n = (k - 1) / 3 in
    let level : (k + 2) / 3 ≡ suc n = omega arith in
    let deep : n < depth = omega arith in
    let band = band-size_at depth size n (omega arith) in
    let grows = size_at-mono (band_size depth (padded_size depth size) 0) (suc n) depth deep in
    let last = size_at-padded depth size in
    rw (level, band) (omega (arith, grows, last, size_at-double (band_size depth (padded_size depth size) 0) n))

-- so a subband lies within the padded sizes
pub subband-inside : (depth width height k : ℕ) → k < subband_count depth →
    let s = subband_at depth (padded_size depth width) (padded_size depth height) k in
    (s.left + s.width ≤ padded_size depth width) × (s.top + s.height ≤ padded_size depth height)
unfolding subband_at subband_level orientation_of left_of top_of
subband-inside depth width height k below =
    elim (ℕ_discrete k 0) [
      | yes first ↦ rw first (omega (arith, low-most depth width), omega (arith, low-most depth height))
      | no later ↦ (
        omega (arith, left-most (orientation_of k) (band_size depth (padded_size depth width) (subband_level k)), band-twice depth width k later below),
        omega (arith, top-most (orientation_of k) (band_size depth (padded_size depth height) (subband_level k)), band-twice depth height k later below),
      )
    ]
