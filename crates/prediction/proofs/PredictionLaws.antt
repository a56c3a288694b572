-- Laws of prediction: the sizes of its sums, the predictor by tests as the code makes them, one predicted value, a state that does not
-- fit, and what prediction leaves as it is.
-- Assumes nothing.
use mathlib.Core.Path.{◌≡◌, refl, sym, ◌∙◌}
use mathlib.Core.Logic.{◌≢◌}
use mathlib.Core.Bool.{Bool, true, false, cond}
use mathlib.Core.List.{List}
use Prim.Native.Nat.{ℕ, zero, suc, ◌+◌, ◌-◌, ◌*◌, ◌^◌, ◌≤◌, ◌<◌}
use native.Mathlib.Omega.{arith}
use lib.IntN.{ℤ, pos, nat_abs, ◌+ℤ◌}
use lib.ListN.{get_or, set}
use lib.Seq.{get_or-set_other}
use lib.Signed.{mag}
use mir.Syntax.{w64}
use mir.Val.{to_z, of_z}
use Rattle.std.proofs.Common.{FitsSigned}
use Rattle.std.proofs.lemmas.Int.{ints}
use Rattle.base.specs.Range.{fits32}
use Rattle.base.specs.Walk.{walk}
use Rattle.base.proofs.Integers.{mag-size, size-mag, size-add}
use Rattle.base.proofs.RangeLaws.{back}
use Rattle.base.proofs.FloorLaws.{size-floor}
use Rattle.base.proofs.WalkLaws.{walk-next, walk-stays, walk-stopped, walk-holds}
use Rattle.prediction.specs.Prediction.{Predicted, ended, mean_of, predictor, store_predicted, predicted_value, predicted_row, prediction}

-- the sum of three values of a plane and 1 fits 64 bits, and their mean is small
pub sum-fits : (p q r : ℤ) → mag p < 2 ^ 31 → mag q < 2 ^ 31 → mag r < 2 ^ 31 → FitsSigned w64 (to_z w64 (of_z w64 (to_z w64 (of_z w64 (p +ℤ q)) +ℤ r)) +ℤ pos 1)
sum-fits p q r hp hq hr =
    let two = size-add p q in
    let three = size-add (p +ℤ q) r in
    let four = size-add (p +ℤ q +ℤ r) (pos 1) in
    let sizes : nat_abs p + nat_abs q + nat_abs r ≤ 2 ^ 33 = omega (arith, size-mag p, size-mag q, size-mag r) in
    rw (
      back w64 (p +ℤ q) (omega (arith, mag-size (p +ℤ q))),
      back w64 (p +ℤ q +ℤ r) (omega (arith, mag-size (p +ℤ q +ℤ r))),
    )
    (record { sfits = omega (arith, mag-size (p +ℤ q +ℤ r +ℤ pos 1)) })

pub mean-small : (left corner upper : ℤ) → mag left < 2 ^ 31 → mag corner < 2 ^ 31 → mag upper < 2 ^ 31 → nat_abs (mean_of left corner upper) ≤ 2 ^ 34
unfolding mean_of
mean-small left corner upper hl hc hu = omega (arith, ints, size-floor (left +ℤ corner +ℤ upper +ℤ pos 1) 3)

-- the predictor by the tests of the code: at the corner, in the top row, in the left column and elsewhere
module _ (stride : ℕ) (plane : List ℤ) where
  pub predictor-corner : (y x : ℕ) → y ≡ 0 → x ≡ 0 → pos 0 ≡ predictor stride plane y x
  unfolding predictor
  predictor-corner y x top left = rw (top, left)

  pub predictor-top : (y x : ℕ) → y ≡ 0 → x ≢ 0 → get_or plane (x - 1) (pos 0) ≡ predictor stride plane y x
  unfolding predictor
  predictor-top y zero top other = absurd (other refl)
  predictor-top y (suc x) top other =
      let same : suc x - 1 ≡ x = omega arith in
      rw (top, same)

  pub predictor-left : (y x : ℕ) → y ≢ 0 → x ≡ 0 → get_or plane ((y - 1) * stride) (pos 0) ≡ predictor stride plane y x
  unfolding predictor
  predictor-left zero x other left = absurd (other refl)
  predictor-left (suc y) x other left =
      let same : suc y - 1 ≡ y = omega arith in
      rw (left, same)

  pub predictor-inner :
      (y x : ℕ) → y ≢ 0 → x ≢ 0
      → mean_of (get_or plane (y * stride + x - 1) (pos 0)) (get_or plane ((y - 1) * stride + x - 1) (pos 0)) (get_or plane ((y - 1) * stride + x) (pos 0))
      ≡ predictor stride plane y x
  unfolding predictor
  predictor-inner zero x other inner = absurd (other refl)
  predictor-inner (suc y) zero other inner = absurd (inner refl)
  predictor-inner (suc y) (suc x) other inner =
      let same : suc y - 1 ≡ y = omega arith in
      let before : suc y * stride + suc x - 1 ≡ suc y * stride + x = omega arith in
      let corner : y * stride + suc x - 1 ≡ y * stride + x = omega arith in
      rw (same, before, corner)

-- one value: stored where it fits, and left where it does not
module _ (stride y x : ℕ) (plane : List ℤ) (v : ℤ) (is : v ≡ get_or plane (y * stride + x) (pos 0) +ℤ predictor stride plane y x) where
  pub value-stored : fits32 v ≡ true → ended true (set plane (y * stride + x) v) ≡ predicted_value stride y x (ended true plane)
  unfolding predicted_value store_predicted
  value-stored small = rw (← is, small)

  pub value-not-stored : fits32 v ≡ false → ended false plane ≡ predicted_value stride y x (ended true plane)
  unfolding predicted_value store_predicted
  value-not-stored wide = rw (← is, wide)

-- A step that leaves a state that does not fit as it is.
abbrev pub Stays : (Predicted → Predicted) → Type 0
Stays f = (plane : List ℤ) → f (ended false plane) ≡ ended false plane

pub value_stays : (stride y x : ℕ) → Stays (predicted_value stride y x)
unfolding predicted_value
value_stays stride y x plane = refl

pub row_stays : (stride width y : ℕ) → Stays (predicted_row stride width y)
unfolding predicted_row
row_stays stride width y plane = walk-stays (predicted_value stride y) 0 width (ended false plane) (λ x. value_stays stride y x plane)

-- a loop over such steps: after a turn that fits, and after one that does not
module _ (f : ℕ → Predicted → Predicted) (s : Predicted) (k : ℕ) (t : Predicted) (sofar : walk f 0 k s ≡ t) where
  pub turn-fits : (u : Predicted) → u ≡ f k t → walk f 0 (k + 1) s ≡ u
  turn-fits u step = walk-next f k s t u sofar (sym step)

  pub turn-ends : ((j : ℕ) → Stays (f j)) → (n : ℕ) (plane : List ℤ) → k < n → ended false plane ≡ f k t → ended false plane ≡ walk f 0 n s
  turn-ends stay n plane more step = sym (walk-stopped f (k + 1) n s (ended false plane) (omega arith) (turn-fits (ended false plane) step) (λ j. stay j plane))

-- what every store into the band keeps of a plane, prediction keeps
module _ (P : List ℤ → Type 0) (stride : ℕ) where
  choice-holds : (test : Bool) (s t : Predicted) → P s.plane → P t.plane → P (cond test s t).plane
  choice-holds true s t hs ht = hs
  choice-holds false s t hs ht = ht

  value-holds : (y x : ℕ) → ((plane : List ℤ) (v : ℤ) → P plane → P (set plane (y * stride + x) v)) → (s : Predicted) → P s.plane → P (predicted_value stride y x s).plane
  unfolding predicted_value store_predicted
  value-holds y x kept s holds =
      let plane = s.plane in
      let index = y * stride + x in
      let v = get_or plane index (pos 0) +ℤ predictor stride plane y x in
      choice-holds s.fits (store_predicted v index plane) s
      (choice-holds (fits32 v) (ended true (set plane index v)) (ended false plane) (kept plane v holds) holds)
      holds

  pub prediction-holds :
      (width height : ℕ) → ((y x : ℕ) → y < height → x < width → (plane : List ℤ) (v : ℤ) → P plane → P (set plane (y * stride + x) v))
      → (plane : List ℤ) → P plane → P (prediction stride width height plane).plane
  unfolding prediction predicted_row
  prediction-holds width height kept plane holds =
      walk-holds (λ s. P s.plane) (predicted_row stride width) 0 height
      (λ y low. walk-holds (λ s. P s.plane) (predicted_value stride y) 0 width (λ x inner. value-holds y x (kept y x (omega arith) (omega arith))))
      (ended true plane) holds

-- an index outside the band
module _ (stride width height : ℕ) (plane : List ℤ) where
  pub prediction-keeps :
      (j : ℕ) → ((y x : ℕ) → y < height → x < width → y * stride + x ≢ j) → get_or (prediction stride width height plane).plane j (pos 0) ≡ get_or plane j (pos 0)
  prediction-keeps j outside =
      prediction-holds (λ l. get_or l j (pos 0) ≡ get_or plane j (pos 0)) stride width height
      (λ y x low inner l v same. get_or-set_other l (y * stride + x) j v (pos 0) (λ e. outside y x low inner (sym e)) ∙ same)
      plane refl
