-- Laws of the checks: the bounds that a passed check gives.
-- Assumes nothing.
use mathlib.Core.Path.{◌≡◌, refl}
use mathlib.Core.Bool.{Bool, true, false, not, cond, ◌&&◌}
use Prim.Native.Nat.{ℕ, suc, ◌*◌, ◌≤◌}
use native.Mathlib.Nat.{mul-le-mul}
use native.Mathlib.Omega.{arith}
use lib.Dec.{leb}
use lib.ListN.{get_or}
use borrow.Author.Tests.{leb-true}
use Rattle.base.proofs.EveryLaws.{all-at}
use Rattle.base.proofs.Booleans.{and_left, and_right}
use Rattle.component.specs.Checks.{in_range, unpacks, transforms, sizes_in_range, depth_in_range, wavelet_in_range, counts_in_range, codeblocks_in_range, planes_fit, area_of, area_within, refusal_of}
use Rattle.component.specs.declared.parameters.Parameters.{Parameters}
use Rattle.component.specs.declared.parameters.Lengths.{Lengths}
use Rattle.component.specs.declared.parameters.Job.{Job}
use Rattle.component.proofs.SizesLaws.{padded-least, padded-most}

-- a number in range lies between the ends
pub range-least : (low high n : ℕ) → in_range low high n ≡ true → low ≤ n
range-least low high n e = leb-true low n (and_left (leb low n) (leb n high) e)

pub range-most : (low high n : ℕ) → in_range low high n ≡ true → n ≤ high
range-most low high n e = leb-true n high (and_right (leb low n) (leb n high) e)

module _ (p : Parameters) where
  pub width-in-range : sizes_in_range p ≡ true → in_range 1 4096 p.width ≡ true
  unfolding sizes_in_range
  width-in-range e = and_left (in_range 1 4096 p.width) (in_range 1 4096 p.height) e

  pub height-in-range : sizes_in_range p ≡ true → in_range 1 4096 p.height ≡ true
  unfolding sizes_in_range
  height-in-range e = and_right (in_range 1 4096 p.width) (in_range 1 4096 p.height) e

  pub width-least : sizes_in_range p ≡ true → 1 ≤ p.width
  width-least e = range-least 1 4096 p.width (width-in-range e)

  pub width_most : sizes_in_range p ≡ true → p.width ≤ 4096
  width_most e = range-most 1 4096 p.width (width-in-range e)

  pub height-least : sizes_in_range p ≡ true → 1 ≤ p.height
  height-least e = range-least 1 4096 p.height (height-in-range e)

  pub height_most : sizes_in_range p ≡ true → p.height ≤ 4096
  height_most e = range-most 1 4096 p.height (height-in-range e)

  pub depth_most : depth_in_range p ≡ true → p.depth ≤ 4
  unfolding depth_in_range
  depth_most e = range-most 0 4 p.depth e

  pub wavelet-most : wavelet_in_range p ≡ true → p.wavelet ≤ 6
  unfolding wavelet_in_range
  wavelet-most e = range-most 0 6 p.wavelet e

  -- both areas are at most 2^24
  pub area-most : sizes_in_range p ≡ true → depth_in_range p ≡ true → area_of p ≤ 16777216
  unfolding area_of
  area-most sizes depth =
      mul-le-mul
      (padded-most p.depth (depth_most depth) p.width (width_most sizes))
      (padded-most p.depth (depth_most depth) p.height (height_most sizes))

  -- samples are no more than coefficients
  pub samples-fewer : p.width * p.height ≤ area_of p
  unfolding area_of
  samples-fewer = mul-le-mul (padded-least p.depth p.width) (padded-least p.depth p.height)

  -- an area within a bound
  module _ (most : ℕ) where
    -- what parameters with such an area have passed
    module _ (within : area_within p most ≡ true) where
      both : sizes_in_range p && depth_in_range p ≡ true
      unfolding area_within
      both = and_left (sizes_in_range p && depth_in_range p) (leb (area_of p) most) within

      pub within-sizes : sizes_in_range p ≡ true
      within-sizes = and_left (sizes_in_range p) (depth_in_range p) both

      pub within-depth : depth_in_range p ≡ true
      within-depth = and_right (sizes_in_range p) (depth_in_range p) both

      pub within-area : area_of p ≤ most
      unfolding area_within
      within-area = leb-true _ _ (and_right (sizes_in_range p && depth_in_range p) (leb (area_of p) most) within)

-- the codeblock counts of a level up to the depth
pub record Counts (across down : ℕ) : Type 0 where
  pub across_least : 1 ≤ across
  pub across_most : across ≤ 255
  pub down_least : 1 ≤ down
  pub down_most : down ≤ 255

pub counts-at : (p : Parameters) → codeblocks_in_range p ≡ true → (level : ℕ) → level ≤ p.depth →
    Counts (get_or p.codeblocks_across level 0) (get_or p.codeblocks_down level 0)
unfolding codeblocks_in_range counts_in_range
counts-at p all level low =
    let a = get_or p.codeblocks_across level 0 in
    let d = get_or p.codeblocks_down level 0 in
    let both = all-at (counts_in_range p) (suc p.depth) level all (omega arith) in
    let first = and_left (in_range 1 255 a) (in_range 1 255 d) both in
    let second = and_right (in_range 1 255 a) (in_range 1 255 d) both in
    record {
      across_least = range-least 1 255 a first;
      across_most = range-most 1 255 a first;
      down_least = range-least 1 255 d second;
      down_most = range-most 1 255 d second;
    }

-- five checks, the first that applies giving its number: what each answer says of them
chain : Bool → Bool → Bool → Bool → Bool → ℕ
chain sizes depth wavelet codeblocks planes =
    cond (not sizes) 1 (cond (not depth) 2 (cond wavelet 3 (cond codeblocks 4 (cond (not planes) 5 0))))

pub record ChecksPassed (sizes depth wavelet codeblocks planes : Bool) : Type 0 where
  pub sizes-pass : sizes ≡ true
  pub depth-passes : depth ≡ true
  pub wavelet-passes : wavelet ≡ false
  pub codeblocks-pass : codeblocks ≡ false
  pub planes-pass : planes ≡ true

chain-passed : (s d w b f : Bool) → chain s d w b f ≡ 0 → ChecksPassed s d w b f
unfolding chain
chain-passed false d w b f e = absurd (omega arith)
chain-passed true false w b f e = absurd (omega arith)
chain-passed true true true b f e = absurd (omega arith)
chain-passed true true false true f e = absurd (omega arith)
chain-passed true true false false false e = absurd (omega arith)
chain-passed true true false false true e =
    record { sizes-pass = refl; depth-passes = refl; wavelet-passes = refl; codeblocks-pass = refl; planes-pass = refl }

module _ (job : Job) (p : Parameters) (l : Lengths) where
  -- each refusal, from the checks before it and its own
  pub refused-1 : sizes_in_range p ≡ false → 1 ≡ refusal_of job p l
  unfolding refusal_of
  refused-1 s = rw s

  pub refused-2 : sizes_in_range p ≡ true → depth_in_range p ≡ false → 2 ≡ refusal_of job p l
  unfolding refusal_of
  refused-2 s d = rw (s, d)

  pub refused-3 : sizes_in_range p ≡ true → depth_in_range p ≡ true → transforms job && not (wavelet_in_range p) ≡ true → 3 ≡ refusal_of job p l
  unfolding refusal_of
  refused-3 s d w = rw (s, d, w)

  pub refused-4 : sizes_in_range p ≡ true → depth_in_range p ≡ true → transforms job && not (wavelet_in_range p) ≡ false → unpacks job && not (codeblocks_in_range p) ≡ true → 4 ≡ refusal_of job p l
  unfolding refusal_of
  refused-4 s d w b = rw (s, d, w, b)

  -- no refusal where every check passes, and the other way round
  pub refused_none : sizes_in_range p ≡ true → depth_in_range p ≡ true → transforms job && not (wavelet_in_range p) ≡ false → unpacks job && not (codeblocks_in_range p) ≡ false → planes_fit job p l ≡ true → 0 ≡ refusal_of job p l
  unfolding refusal_of
  refused_none s d w b f = rw (s, d, w, b, f)

  pub passed : refusal_of job p l ≡ 0 → ChecksPassed (sizes_in_range p) (depth_in_range p) (transforms job && not (wavelet_in_range p)) (unpacks job && not (codeblocks_in_range p)) (planes_fit job p l)
  unfolding refusal_of chain
  passed e = chain-passed _ _ _ _ _ e
