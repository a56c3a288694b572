-- Laws of the job: what the checks' answer says of the parameters and the planes, and how a call ends after all slices.
-- Assumes nothing.
use mathlib.Core.Path.{◌≡◌, refl, sym, ◌∙◌}
use mathlib.Core.Bool.{Bool, true, false, not, cond, ◌&&◌}
use mathlib.Core.Logic.{◌≢◌}
use mathlib.Core.List.{List}
use Prim.Native.Nat.{ℕ, suc, ◌+◌, ◌*◌, ◌≤◌}
use native.Mathlib.Nat.{mul-le-mul_right}
use native.Mathlib.Omega.{arith}
use lib.Dec.{leb, eqb}
use lib.IntN.{ℤ}
use lib.ListN.{length}
use borrow.Author.Tests.{leb-true, eqb-true, ne_eqb}
use Rattle.base.proofs.Booleans.{and_left, and_right}
use Rattle.base.proofs.ListsLaws.{zeros-length}
use Rattle.component.specs.Checks.{in_range}
use Rattle.component.specs.Subbands.{subband_at}
use Rattle.component.specs.declared.subbands.Subband.{Subband}
use Rattle.component.proofs.ChecksLaws.{range-least, range-most}
use Rattle.coefficients.specs.Reading.{Refused, goes_on}
use Rattle.slices.specs.Planes.{Planes, zeros}
use Rattle.slices.specs.Areas.{luma_grid, chroma_grid, band_slices, slice_count}
use Rattle.slices.specs.Bounds.{Checked, Lengths, Whole}
use Rattle.slices.specs.declared.parameters.Picture.{Picture}
use Rattle.slices.specs.declared.parameters.Grid.{Grid}
use Rattle.slices.proofs.AreasLaws.{band-placed}
use Rattle.low_delay.specs.Slices.{slice_start, slice}
use Rattle.low_delay.specs.Job.{LowDelayResult, result, sizes_in_range, counts_in_range, fraction_in_range, matrix_in_range, slices_in_range, entries_of, planes_fit, refusal_of, accepted, predicted, finished, after_slice, slices_from, unpacked}
use Rattle.low_delay.specs.Bounds.{SoundFraction, prediction_fits, predicted_planes}
use Rattle.low_delay.specs.declared.parameters.LowDelay.{LowDelay}

-- a picture that passes its checks
pub checked : (p : Picture) → sizes_in_range p ≡ true → in_range 0 4 p.depth ≡ true → counts_in_range p ≡ true → Checked p
unfolding sizes_in_range counts_in_range
checked p sizes depth counts =
    let lw = in_range 1 4096 p.luma_width in
    let lh = in_range 1 4096 p.luma_height in
    let cw = in_range 1 4096 p.chroma_width in
    let ch = in_range 1 4096 p.chroma_height in
    let across = in_range 1 255 p.slices_across in
    let down = in_range 1 255 p.slices_down in
    let three = and_left (lw && lh && cw) ch sizes in
    let luma = and_left (lw && lh) cw three in
    record {
      shallow = range-most 0 4 _ depth;
      luma_width_most = range-most 1 4096 _ (and_left lw lh luma);
      luma_height_most = range-most 1 4096 _ (and_right lw lh luma);
      chroma_width_most = range-most 1 4096 _ (and_right (lw && lh) cw three);
      chroma_height_most = range-most 1 4096 _ (and_right (lw && lh && cw) ch sizes);
      across_least = range-least 1 255 _ (and_left across down counts);
      across_most = range-most 1 255 _ (and_left across down counts);
      down_least = range-least 1 255 _ (and_right across down counts);
      down_most = range-most 1 255 _ (and_right across down counts);
    }

module _ (p : LowDelay) (passes : slices_in_range p ≡ true) where
  pub counts-pass : counts_in_range p.picture ≡ true
  unfolding slices_in_range
  counts-pass =
      let counts = counts_in_range p.picture in
      and_left counts (fraction_in_range p) (and_left (counts && fraction_in_range p) (matrix_in_range p.picture) passes)

  fraction-passes : fraction_in_range p ≡ true
  unfolding slices_in_range
  fraction-passes =
      let counts = counts_in_range p.picture in
      and_right counts (fraction_in_range p) (and_left (counts && fraction_in_range p) (matrix_in_range p.picture) passes)

  pub fraction_sound : SoundFraction p
  unfolding fraction_in_range
  fraction_sound =
      let top = in_range 1 65535 p.numerator in
      let bottom = in_range 1 65535 p.denominator in
      let order = leb p.denominator p.numerator in
      let both = and_left (top && bottom) order fraction-passes in
      record {
        denominator_least = range-least 1 65535 _ (and_right top bottom both);
        denominator_most = leb-true _ _ (and_right (top && bottom) order fraction-passes);
        numerator_most = range-most 1 65535 _ (and_left top bottom both);
      }

pub planes-long : (p : Picture) (planes : Planes) → planes_fit p planes ≡ true → Lengths p planes.luma planes.first planes.second
unfolding planes_fit
planes-long p planes fit =
    let luma = eqb (length planes.luma) (entries_of (luma_grid p)) in
    let first = eqb (length planes.first) (entries_of (chroma_grid p)) in
    let second = eqb (length planes.second) (entries_of (chroma_grid p)) in
    let two = and_left (luma && first) second fit in
    record {
      luma_long = eqb-true _ _ (and_left luma first two);
      first_long = eqb-true _ _ (and_right luma first two);
      second_long = eqb-true _ _ (and_right (luma && first) second fit);
    }

-- What no refusal says of a call.
pub record ChecksPassed (p : LowDelay) (planes : Planes) : Type 0 where
  pub picture : Checked p.picture
  pub fraction : SoundFraction p
  pub lengths : Lengths p.picture planes.luma planes.first planes.second

module _ (p : LowDelay) (planes : Planes) where
  -- 13, from the checks before it and its own
  pub refused-13 : sizes_in_range p.picture ≡ true → in_range 0 4 p.picture.depth ≡ true → slices_in_range p ≡ false → 13 ≡ refusal_of p planes
  unfolding refusal_of
  refused-13 sizes depth slices = rw (sizes, depth, slices)

  -- no refusal: every check passed
  pub passed : refusal_of p planes ≡ 0 → ChecksPassed p planes
  unfolding refusal_of
  passed none = by (sizes_in_range p.picture) (in_range 0 4 p.picture.depth) (slices_in_range p) (planes_fit p.picture planes) refl refl refl refl none
    where
      by : (sizes depth slices fit : Bool) → sizes_in_range p.picture ≡ sizes → in_range 0 4 p.picture.depth ≡ depth → slices_in_range p ≡ slices →
          planes_fit p.picture planes ≡ fit →
          ◌≡◌ {A = ℕ} (cond (not sizes) 1 (cond (not depth) 2 (cond (not slices) 13 (cond (not fit) 5 0)))) 0 → ChecksPassed p planes
      by false depth slices fit s d k f e = absurd (omega arith)
      by true false slices fit s d k f e = absurd (omega arith)
      by true true false fit s d k f e = absurd (omega arith)
      by true true true false s d k f e = absurd (omega arith)
      by true true true true s d k f e =
          record { picture = checked p.picture s d (counts-pass p k); fraction = fraction_sound p k; lengths = planes-long p.picture planes f }

-- zeros depend on the lengths alone
pub zeros-same : (a b : Planes) → length a.luma ≡ length b.luma → length a.first ≡ length b.first → length a.second ≡ length b.second →
    zeros a ≡ zeros b
unfolding zeros
zeros-same a b luma first second = rw (zeros-length a.luma b.luma luma, zeros-length a.first b.first first, zeros-length a.second b.second second)

-- what a test chooses
first-chosen : (test : Bool) (a b : LowDelayResult) → test ≡ true → a ≡ cond test a b
first-chosen test a b e = rw e

second-chosen : (test : Bool) (a b : LowDelayResult) → test ≡ false → b ≡ cond test a b
second-chosen test a b e = rw e

-- after all slices: accepted, predicted and accepted, or a predicted value that does not fit
module _ (p : LowDelay) (planes : Planes) where
  pub finished-inter : p.picture.intra ≡ false → result 0 (slice_start p (slice_count p.picture)) planes ≡ finished p planes
  unfolding finished accepted
  finished-inter inter = second-chosen p.picture.intra (predicted p planes) (accepted p planes) inter

  module _ (intra : p.picture.intra ≡ true) where
    finished-predicted : predicted p planes ≡ finished p planes
    unfolding finished
    finished-predicted = first-chosen p.picture.intra (predicted p planes) (accepted p planes) intra

    pub finished-intra : true ≡ prediction_fits p.picture planes → result 0 (slice_start p (slice_count p.picture)) (predicted_planes p.picture planes) ≡ finished p planes
    unfolding predicted accepted prediction_fits predicted_planes
    finished-intra all =
        first-chosen (prediction_fits p.picture planes) (accepted p (predicted_planes p.picture planes)) _ (sym all) ∙ finished-predicted

    pub finished-out : false ≡ prediction_fits p.picture planes → result 9 (slice_count p.picture) (zeros planes) ≡ finished p planes
    unfolding predicted prediction_fits predicted_planes
    finished-out some =
        second-chosen (prediction_fits p.picture planes) (accepted p (predicted_planes p.picture planes)) _ (sym some) ∙ finished-predicted

-- level 0 of a component lies in its plane
pub low-inside : (g : Grid) → Whole g → (plane : List ℤ) → length plane ≡ g.width * g.height → (low : Subband) → low ≡ subband_at g.depth g.width g.height 0 →
    (low.width ≤ g.width) × (g.width ≤ 4096) × (low.height ≤ 4096) × (low.height * g.width ≤ length plane)
unfolding band_slices
low-inside g whole plane long low is =
    let s = subband_at g.depth g.width g.height 0 in
    let placed = band-placed g whole 0 (omega arith) plane long in
    let lower : s.height ≤ s.top + s.height = omega arith in
    rw is
    (omega (arith, placed.counted.wide), whole.width_most, omega (arith, placed.counted.tall), omega (arith, mul-le-mul_right g.width lower, placed.inside))

-- slices one after the other: one that was read, one that was refused, and none left
module _ (p : LowDelay) (bytes : List ℕ) (k : ℕ) (planes : Planes) where
  pub slices-read : (n left bit : ℕ) (last : Planes) → left ≡ suc n → slice p bytes k planes ≡ goes_on bit last → slices_from p bytes left k planes ≡ slices_from p bytes n (suc k) last
  unfolding slices_from after_slice
  slices-read n left bit last is read = rw (is, read) refl

  pub slices-refused : (n left status bit : ℕ) → left ≡ suc n → (slice p bytes k planes).progress ≡ Refused status bit → slices_from p bytes left k planes ≡ result status k (zeros planes)
  unfolding slices_from after_slice
  slices-refused n left status bit is told = rw (is, told) refl

  pub slices-over : (left : ℕ) → left ≡ 0 → slices_from p bytes left k planes ≡ finished p planes
  unfolding slices_from
  slices-over left none = rw none refl

-- the job: a check refuses it, or its slices are read over zeros
module _ (p : LowDelay) (bytes : List ℕ) (planes : Planes) where
  pub job-refused : (status : ℕ) → status ≡ refusal_of p planes → status ≢ 0 → result status 0 planes ≡ unpacked p bytes planes
  unfolding unpacked
  job-refused status is some = rw (← is, ne_eqb status 0 some) refl

  pub job_read : refusal_of p planes ≡ 0 → slices_from p bytes (slice_count p.picture) 0 (zeros planes) ≡ unpacked p bytes planes
  unfolding unpacked
  job_read none = rw none refl
