-- The laws of planes and pictures: a picture read row by row and back.
-- Assumes nothing.
use mathlib.Core.Path.{◌≡◌, sym, ap₂, ◌∙◌}
use mathlib.Core.List.{List}
use Prim.Native.Nat.{ℕ, ◌+◌, ◌*◌, ◌/◌, ◌%◌, ◌≤◌, ◌<◌}
use native.Mathlib.Nat.{mod-lt, div-add-mod', div-lt_iff_lt-mul}
use native.Mathlib.Omega.{arith}
use lib.Arith.{digits_lt, digits_div, digits_mod}
use lib.IntN.{ℤ, pos}
use lib.ListN.{length, length-replicate, get_or-replicate}
use lib.Seq.{ext_get_or}
use Rattle.base.specs.Lists.{zeros_like}
use Rattle.base.proofs.ListsLaws.{length-tabulate, get_d_tabulate}
use Rattle.filters.specs.Passes.{Picture}
use Rattle.filters.specs.Planes.{picture_of, raster}
use Rattle.filters.specs.Pictures.{Agree}

module _ (h w : ℕ) where
  -- a plane of h rows of w numbers
  pub length-raster : (P : Picture) → length (raster h w P) ≡ h * w
  unfolding raster
  length-raster P = length-tabulate (h * w) (λ i. P (i / w) (i % w))

  -- the picture of a picture's plane
  pub picture-raster : (P : Picture) → Agree h w (picture_of w (raster h w P)) P
  unfolding picture_of raster
  picture-raster P row column r c =
      get_d_tabulate (h * w) (λ i. P (i / w) (i % w)) (row * w + column) (pos 0) (digits_lt r c)
      ∙ ap₂ P (digits_div row c) (digits_mod row c)

  -- a plane with the numbers of a picture is the picture's plane
  pub raster-is : (P : Picture) (plane : List ℤ) → 1 ≤ w → length plane ≡ h * w → Agree h w P (picture_of w plane) → raster h w P ≡ plane
  unfolding raster picture_of
  raster-is P plane some size agree =
      ext_get_or (pos 0) (raster h w P) plane (length-raster P ∙ sym size)
      (λ i inside.
      let below : i < h * w = omega (arith, length-raster P) in
      let here = agree (i / w) (i % w) ((div-lt_iff_lt-mul some).1 below) (mod-lt i some) in
      get_d_tabulate (h * w) (λ k. P (k / w) (k % w)) i (pos 0) below ∙ (rw div-add-mod' at here))

  -- pictures that agree have one plane
  pub raster-same : (P Q : Picture) → 1 ≤ w → Agree h w P Q → raster h w P ≡ raster h w Q
  raster-same P Q some agree =
      raster-is P (raster h w Q) some (length-raster Q) (λ row column r c. agree row column r c ∙ sym (picture-raster Q row column r c))

  -- a plane of zeros
  pub all-zeros : (plane plane₀ : List ℤ) → 1 ≤ w → length plane ≡ h * w → length plane₀ ≡ h * w → Agree h w (picture_of w plane) (λ row x. pos 0) → plane ≡ zeros_like plane₀
  unfolding zeros_like picture_of
  all-zeros plane plane₀ some size size₀ zeros =
      sym (raster-is (λ row x. pos 0) plane some size (λ row x r c. sym (zeros row x r c)))
      ∙ raster-is (λ row x. pos 0) (zeros_like plane₀) some (length-replicate (length plane₀) (pos 0) ∙ size₀)
      (λ row x r c. sym (get_or-replicate (length plane₀) (row * w + x) (pos 0) (pos 0) (rw size₀ (digits_lt r c))))
