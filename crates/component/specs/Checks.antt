-- Document 01, "What the decoder covers" and "Refusal numbers": the checks behind refusals 1 to 5.
use Rattle.std.specs.Prelude.{ℕ, suc, ◌*◌, Bool, true, false, not, cond, ◌&&◌, ◌||◌, List, leb, eqb, ℤ, length, get_or}
use Rattle.base.specs.Every.{all_below}
use Rattle.component.specs.Sizes.{padded_width, padded_height}
use Rattle.component.specs.declared.parameters.Parameters.{Parameters}
use Rattle.component.specs.declared.parameters.Lengths.{Lengths}
use Rattle.component.specs.declared.parameters.Job.{Job}
use Rattle.component.specs.declared.parameters.Job.TheVariants.{Unpack, Synthesise, Decode}

abbrev pub in_range : ℕ → ℕ → ℕ → Bool
in_range low high n = leb low n && leb n high

-- "width and height 1..4096; depth 0..4; wavelet index 0..6"
unfoldable pub sizes_in_range : Parameters → Bool
sizes_in_range p = in_range 1 4096 p.width && in_range 1 4096 p.height

unfoldable pub depth_in_range : Parameters → Bool
depth_in_range p = in_range 0 4 p.depth

unfoldable pub wavelet_in_range : Parameters → Bool
wavelet_in_range p = in_range 0 6 p.wavelet

-- "block counts across and down for each level 0..depth, each 1..255. Counts above the depth are not looked at."
unfoldable pub counts_in_range : Parameters → ℕ → Bool
counts_in_range p level = in_range 1 255 (get_or p.codeblocks_across level 0) && in_range 1 255 (get_or p.codeblocks_down level 0)

unfoldable pub codeblocks_in_range : Parameters → Bool
codeblocks_in_range p = all_below (suc p.depth) (counts_in_range p)

-- "unpack (bytes to coefficients), synthesise (coefficients to samples), decode (both)"
abbrev pub unpacks : Job → Bool
unpacks Unpack = true
unpacks Synthesise = false
unpacks Decode = true

abbrev pub transforms : Job → Bool
transforms Unpack = false
transforms Synthesise = true
transforms Decode = true

-- "Coefficient and work planes need padded width times padded height entries, samples width times height."
unfoldable pub area_of : Parameters → ℕ
area_of p = padded_width p * padded_height p

unfoldable pub planes_fit : Job → Parameters → Lengths → Bool
planes_fit job p l =
    eqb l.coefficients (area_of p)
    && (not (transforms job) || (eqb l.work (area_of p) && eqb l.samples (p.width * p.height)))

-- The lengths of three planes.
abbrev pub lengths_of : List ℤ → List ℤ → List ℤ → Lengths
lengths_of coefficients work samples =
    record { coefficients = length coefficients; work = length work; samples = length samples }

-- Whether parameters have a padded area, of at most so many entries.
unfoldable pub area_within : Parameters → ℕ → Bool
area_within p most = sizes_in_range p && depth_in_range p && leb (area_of p) most

-- "Checks run in this order; the first that applies is given." 0 where none does.
-- "Unpack gives 1, 2, 4, 5 and 6 to 9; synthesise 1, 2, 3, 5 and 10; decode 1 to 10."
unfoldable pub refusal_of : Job → Parameters → Lengths → ℕ
refusal_of job p l =
    cond (not (sizes_in_range p)) 1
    (cond (not (depth_in_range p)) 2
    (cond (transforms job && not (wavelet_in_range p)) 3
    (cond (unpacks job && not (codeblocks_in_range p)) 4
    (cond (not (planes_fit job p l)) 5
    0))))
