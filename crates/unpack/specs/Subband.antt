-- Document 01, "One subband", and document 02, request Three: its data and its prediction, after its header. A run goes on at a bit, counted
-- from the start of the bytes. The plane that a subband starts with holds zeros where the subband stands: what is not read stays zero.
use Rattle.std.specs.Prelude.{ℕ, zero, suc, ◌+◌, ◌*◌, ◌/◌, Bool, false, cond, List, ltb, ℤ, length, get_or, take, drop}
use Rattle.component.specs.Sizes.{padded_size}
use Rattle.component.specs.Subbands.{subband_at}
use Rattle.component.specs.declared.parameters.Parameters.{Parameters}
use Rattle.component.specs.declared.subbands.Subband.{Subband}
use Rattle.coefficients.specs.Quantiser.{dequantise}
use Rattle.coefficients.specs.Reading.{Run, goes_on, stops, going}
use Rattle.codeblocks.specs.Codeblocks.{codeblocks}
use Rattle.codeblocks.specs.declared.CodeblockGrid.{CodeblockGrid}
use Rattle.prediction.specs.Prediction.{prediction}
use Rattle.unpack.specs.Header.{Header, Skipped, Coded, Refused, header_at}

-- "The next subband starts where the length ends, however few bits were used."
unfoldable pub goes_on_at : ℕ → Run → Run
goes_on_at bit r = going r.progress r.plane (λ at. goes_on bit r.plane)

-- The codeblocks of a subband, in a plane and from bytes.
module _ (b : CodeblockGrid) (bytes : List ℕ) where
  -- "Blocks follow": the data, of a stated length, from a bit on, dequantised by a function of sizes
  unfoldable pub subband_data : (ℕ → ℕ) → ℕ → ℕ → List ℤ → Run
  subband_data scale bit size plane =
      goes_on_at (bit + 8 * size)
      (codeblocks (take size (drop (bit / 8) bytes)) (8 * size) bit scale b (goes_on 0 plane))

  -- "check 8, then check that length bytes remain (6)"
  unfoldable pub checked_data : Bool → ℕ → ℕ → ℕ → List ℤ → Run
  checked_data intra index bit size plane =
      cond (ltb 115 index) (stops 8 bit plane)
      (cond (ltb (length bytes) (bit / 8 + size)) (stops 6 (8 * length bytes) plane) (subband_data (dequantise intra index) bit size plane))

  -- what a header announces, in a picture that is intra or not; where "all values are 0" the plane stays as it is
  unfoldable pub headed : Bool → Header → List ℤ → Run
  headed intra (Skipped bit) plane = goes_on bit plane
  headed intra (Coded index bit size) plane = checked_data intra index bit size plane
  headed intra (Refused status bit) plane = stops status bit plane

-- "If intra, level 0 is then predicted in raster order, skipped or not"; 9 where a predicted value does not fit
unfoldable pub predicted_band : CodeblockGrid → ℕ → List ℤ → Run
predicted_band b bit plane =
    let p = prediction b.stride b.subband.width b.subband.height plane in
    cond p.fits (goes_on bit p.plane) (stops 9 bit p.plane)

unfoldable pub is_predicted : Parameters → ℕ → Bool
is_predicted p zero = p.intra
is_predicted p (suc k) = false

-- Subband k of the component, and its codeblocks.
abbrev pub subband_of : Parameters → ℕ → Subband
subband_of p k = subband_at p.depth (padded_size p.depth p.width) (padded_size p.depth p.height) k

unfoldable pub codeblocks_of : Parameters → ℕ → CodeblockGrid
codeblocks_of p k =
    record {
      stride = padded_size p.depth p.width;
      subband = subband_of p k;
      across = get_or p.codeblocks_across (subband_of p k).level 0;
      down = get_or p.codeblocks_down (subband_of p k).level 0;
    }

module _ (p : Parameters) (bytes : List ℕ) where
  -- "For a picture that isn't intra": the flag is the picture's, in every subband
  unfoldable pub subband_from : ℕ → ℕ → List ℤ → Run
  subband_from k at plane = headed (codeblocks_of p k) bytes p.intra (header_at bytes at) plane

  unfoldable pub subband : ℕ → Run → Run
  subband k r =
      going r.progress r.plane
      (λ at.
      let s = subband_from k at r.plane in
      cond (is_predicted p k) (going s.progress s.plane (λ bit. predicted_band (codeblocks_of p k) bit s.plane)) s)
