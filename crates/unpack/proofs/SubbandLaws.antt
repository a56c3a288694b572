-- Laws of a subband: its codeblocks lie in the plane, and it goes on after its header, its data and its prediction.
-- Assumes nothing.
use mathlib.Core.Path.{◌≡◌, refl, subst}
use mathlib.Core.Logic.{◌≢◌}
use mathlib.Core.Bool.{Bool, true, false, cond}
use mathlib.Core.List.{List}
use Prim.Native.Nat.{ℕ, zero, suc, ◌<◌}
use native.Mathlib.Nat.{mul-le-mul_right, mul_comm}
use native.Mathlib.Omega.{arith}
use lib.IntN.{ℤ}
use lib.ListN.{length}
use Rattle.std.specs.Prelude.{Ok, Err}
use Rattle.base.specs.declared.status.Fault.{Fault}
use Rattle.component.specs.Sizes.{padded_size}
use Rattle.component.specs.Checks.{area_of}
use Rattle.component.specs.Subbands.{subband_count, subband_level, subband_at}
use Rattle.component.specs.declared.parameters.Parameters.{Parameters}
use Rattle.component.proofs.SizesLaws.{padded-most}
use Rattle.component.proofs.SubbandsLaws.{subband-inside}
use Rattle.component.proofs.ChecksLaws.{width_most, height_most, depth_most, counts-at}
use Rattle.coefficients.specs.Reading.{Run, goes_on, stops, going}
use Rattle.coefficients.specs.Values.{after}
use Rattle.codeblocks.specs.Blocks.{Counted, Placed}
use Rattle.codeblocks.specs.declared.CodeblockGrid.{CodeblockGrid}
use Rattle.prediction.specs.Prediction.{ended, prediction}
use Rattle.unpack.specs.Subband.{goes_on_at, predicted_band, is_predicted, codeblocks_of, subband_from, subband}
use Rattle.unpack.specs.Bounds.{Checked}

-- a subband that there is has codeblocks, and lies in the first 4096 rows and columns
pub codeblocks-counted : (p : Parameters) → Checked p → (k : ℕ) → k < subband_count p.depth → Counted (codeblocks_of p k)
unfolding codeblocks_of subband_at subband_level
codeblocks-counted p checked k below =
    let deep = depth_most p checked.depth in
    let inside = subband-inside p.depth p.width p.height k below in
    let counts = counts-at p checked.codeblocks (subband_level k) (omega arith) in
    record {
      across_least = counts.across_least;
      across_most = counts.across_most;
      down_least = counts.down_least;
      down_most = counts.down_most;
      wide = inside.0;
      narrow = padded-most p.depth deep p.width (width_most p checked.sizes);
      tall = omega (arith, inside.1, padded-most p.depth deep p.height (height_most p checked.sizes));
    }

-- and lies in a plane of the right length
pub codeblocks-placed : (p : Parameters) → Checked p → (k : ℕ) → k < subband_count p.depth → (plane : List ℤ) → length plane ≡ area_of p → Placed (codeblocks_of p k) plane
unfolding codeblocks_of area_of
codeblocks-placed p checked k below plane long =
    let inside = subband-inside p.depth p.width p.height k below in
    record {
      counted = codeblocks-counted p checked k below;
      inside =
          omega (arith, mul-le-mul_right (padded_size p.depth p.width) inside.1, mul_comm (padded_size p.depth p.height) (padded_size p.depth p.width), long);
    }

-- the data of a subband, read to their end or refused: reading goes on where the length ends
module _ (next : ℕ) (plane : List ℤ) (r : Run) where
  pub data-ends : (bit : ℕ) → after (Ok bit) plane ≡ r → after (Ok next) plane ≡ goes_on_at next r
  unfolding goes_on_at going
  data-ends bit e = subst (λ (s : Run). goes_on next plane ≡ going s.progress s.plane (λ at. goes_on next s.plane)) e refl

  pub data-stop : (fault : Fault) → after (Err fault) plane ≡ r → after (Err fault) plane ≡ goes_on_at next r
  unfolding goes_on_at going
  data-stop fault e = subst (λ (s : Run). after (Err fault) plane ≡ going s.progress s.plane (λ at. goes_on next s.plane)) e refl

-- a band that was predicted, and one with a value that does not fit
module _ (b : CodeblockGrid) (bit : ℕ) (plane last : List ℤ) where
  pub band-fits : ended true last ≡ prediction b.stride b.subband.width b.subband.height plane → goes_on bit last ≡ predicted_band b bit plane
  unfolding predicted_band
  band-fits e = rw (← e)

  pub band-out : ended false last ≡ prediction b.stride b.subband.width b.subband.height plane → stops 9 bit last ≡ predicted_band b bit plane
  unfolding predicted_band
  band-out e = rw (← e)

-- a subband after its data: refused, not predicted, or predicted
module _ (p : Parameters) (bytes : List ℕ) (k at : ℕ) (plane : List ℤ) where
  abbrev predict : Run → Run
  predict s = going s.progress s.plane (λ bit. predicted_band (codeblocks_of p k) bit s.plane)

  by-prediction : (test : Bool) (r : Run) → is_predicted p k ≡ test → r ≡ subband_from p bytes k at plane → cond test (predict r) r ≡ subband p bytes k (goes_on at plane)
  unfolding subband going
  by-prediction test r e read = rw (← e, read)

  pub subband-stops : (status bit : ℕ) (last : List ℤ) → stops status bit last ≡ subband_from p bytes k at plane → stops status bit last ≡ subband p bytes k (goes_on at plane)
  unfolding going
  subband-stops status bit last read = by (is_predicted p k) refl
    where
      by : (test : Bool) → is_predicted p k ≡ test → stops status bit last ≡ subband p bytes k (goes_on at plane)
      by true e = by-prediction true (stops status bit last) e read
      by false e = by-prediction false (stops status bit last) e read

  pub not_first : (r : Run) → k ≢ 0 → r ≡ subband_from p bytes k at plane → r ≡ subband p bytes k (goes_on at plane)
  unfolding is_predicted
  not_first r later read = by-prediction false r (none p k later) read
    where
      none : (q : Parameters) (n : ℕ) → n ≢ 0 → is_predicted q n ≡ false
      none q zero h = absurd (h refl)
      none q (suc n) h = refl

  pub not-intra : (r : Run) → p.intra ≡ false → r ≡ subband_from p bytes k at plane → r ≡ subband p bytes k (goes_on at plane)
  unfolding is_predicted
  not-intra r inter read = by-prediction false r (none p k inter) read
    where
      none : (q : Parameters) (n : ℕ) → q.intra ≡ false → is_predicted q n ≡ false
      none q zero h = h
      none q (suc n) h = refl

  pub first-intra : (bit : ℕ) (last : List ℤ) → k ≡ 0 → p.intra ≡ true → goes_on bit last ≡ subband_from p bytes k at plane →
      predicted_band (codeblocks_of p k) bit last ≡ subband p bytes k (goes_on at plane)
  unfolding going is_predicted
  first-intra bit last first intra read = by-prediction true (goes_on bit last) (all p k first intra) read
    where
      all : (q : Parameters) (n : ℕ) → n ≡ 0 → q.intra ≡ true → is_predicted q n ≡ true
      all q zero e h = h
      all q (suc n) e h = absurd (omega arith)
