-- Request Four: "Demand 3 holds for each component" of a picture in slices: luma, and C1 and C2, which share a size.
-- Assumes nothing.
use mathlib.Core.Path.{◌≡◌}
use mathlib.Core.Bool.{true}
use mathlib.Core.List.{List}
use Prim.Native.Nat.{ℕ, ◌*◌, ◌<◌}
use lib.IntN.{ℤ, pos}
use lib.ListN.{length, get_or}
use Rattle.base.specs.Lists.{zeros_like}
use Rattle.base.specs.Range.{fits32}
use Rattle.component.specs.Sizes.{padded_width, padded_height}
use Rattle.component.specs.Checks.{sizes_in_range, depth_in_range, wavelet_in_range}
use Rattle.component.specs.declared.parameters.Parameters.{Parameters}
use Rattle.filters.specs.Planes.{picture_of, raster}
use Rattle.transform.specs.Job.{synthesised, analysed, analysis_stays_in32}
use Rattle.transform.proofs.Demand3.{injective, coefficients-fit, restored}
use Rattle.slices.specs.declared.parameters.Picture.{Picture}

-- Demand 3 of one component: "two different padded planes of whole numbers, however large, never have the same coefficients under document 01's
-- analysis"; and "whenever a padded plane and every number that analysis assigns on the way fit signed 32 bits", its coefficients can be passed on,
-- synthesis "does not refuse its coefficients, and its samples are exactly the top-left width by height part of that plane".
pub record Reversible (c : Parameters) : Type 0 where
  pub told-apart : (a b : List ℤ) → length a ≡ padded_width c * padded_height c → length b ≡ padded_width c * padded_height c →
      analysed c a ≡ analysed c b → a ≡ b
  pub passed_on : (plane : List ℤ) → length plane ≡ padded_width c * padded_height c → analysis_stays_in32 c plane ≡ true →
      (i : ℕ) → i < length (analysed c plane) → fits32 (get_or (analysed c plane) i (pos 0)) ≡ true
  pub given_back : (plane work samples : List ℤ) → length plane ≡ padded_width c * padded_height c → length work ≡ padded_width c * padded_height c →
      length samples ≡ c.width * c.height → analysis_stays_in32 c plane ≡ true →
      synthesised c (analysed c plane) work samples
      ≡ record { status = 0; place = 0; work = zeros_like work; samples = raster c.height c.width (picture_of (padded_width c) plane) }

-- The parameters with which a component is analysed and synthesised. Neither looks at its counts of codeblocks, so these may be any.
abbrev pub component_of : Picture → ℕ → ℕ → ℕ → List ℕ → List ℕ → Parameters
component_of p width height wavelet across down =
    record {
      width = width;
      height = height;
      depth = p.depth;
      wavelet = wavelet;
      intra = p.intra;
      codeblocks_across = across;
      codeblocks_down = down;
    }

-- Demand 3 of the three components.
pub record EachReversible (p : Picture) (wavelet : ℕ) (across down : List ℕ) : Type 0 where
  pub luma : Reversible (component_of p p.luma_width p.luma_height wavelet across down)
  pub first : Reversible (component_of p p.chroma_width p.chroma_height wavelet across down)
  pub second : Reversible (component_of p p.chroma_width p.chroma_height wavelet across down)

-- the theorem, which `each-component` proves: so it is "for every wavelet index 0 to 6, depth 0 to 4 and allowed size" of either kind
abbrev pub EachComponent : Type 0
EachComponent =
    (p : Picture) (wavelet : ℕ) (across down : List ℕ) →
    let luma = component_of p p.luma_width p.luma_height wavelet across down in
    let chroma = component_of p p.chroma_width p.chroma_height wavelet across down in
    sizes_in_range luma ≡ true → sizes_in_range chroma ≡ true → depth_in_range luma ≡ true → wavelet_in_range luma ≡ true → EachReversible p wavelet across down

component-reversible : (c : Parameters) → sizes_in_range c ≡ true → depth_in_range c ≡ true → wavelet_in_range c ≡ true → Reversible c
component-reversible c sizes depth wavelet =
    record {
      told-apart = injective c sizes depth wavelet;
      passed_on = coefficients-fit c sizes;
      given_back = restored c sizes depth wavelet;
    }

pub each-component : EachComponent
unfolding depth_in_range wavelet_in_range
each-component p wavelet across down luma-sizes chroma-sizes depth wavelets =
    let chroma = component-reversible _ chroma-sizes depth wavelets in
    record { luma = component-reversible _ luma-sizes depth wavelets; first = chroma; second = chroma }
