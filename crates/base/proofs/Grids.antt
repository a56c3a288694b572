-- Laws of rows in a plane: a row starts at its number times the stride, and rows do not meet where they are no wider than the stride.
-- Assumes nothing.
use mathlib.Core.Path.{◌≡◌, ◌∙◌, subst}
use mathlib.Core.Logic.{◌≢◌}
use mathlib.Core.List.{List}
use Prim.Native.Nat.{ℕ, ◌+◌, ◌*◌, ◌≤◌, ◌<◌}
use native.Mathlib.Nat.{suc-mul, mul-le-mul_right}
use native.Mathlib.Decide.{dec_lt}
use native.Mathlib.Omega.{arith}
use lib.ListN.{length, get_or}
use Rattle.base.specs.Fill.{fill}
use Rattle.base.proofs.FillLaws.{get_d-fill-in, get_d-fill-out}

-- a row ends before the next one starts
pub row_room : (stride row rows : ℕ) → row < rows → row * stride + stride ≤ rows * stride
row_room stride row rows below = rw suc-mul at (mul-le-mul_right stride below)

pub row-end : (row rows stride width : ℕ) → row < rows → width ≤ stride → row * stride + width ≤ rows * stride
row-end row rows stride width below narrow = omega (arith, row_room stride row rows below)

-- entries in different rows differ
pub rows_apart : (s a b x y : ℕ) → a ≢ b → x < s → y < s → a * s + x ≢ b * s + y
rows_apart s a b x y other hx hy same =
    elim (dec_lt a b) [
      | yes below ↦ omega (arith, row-end a b s s below (omega arith))
      | no not_below ↦
          let above : b < a = omega arith in
          omega (arith, row-end b a s s above (omega arith))
    ]

-- a part of row a, from column o on, that starts at index p and is filled
module _ {ℓ} {A : Type ℓ} (l : List A) (s a o n p : ℕ) (at : p ≡ a * s + o) (f : ℕ → A) (e : A) where
  -- what stands in it
  pub row-filled : (k : ℕ) → k < n → p + n ≤ length l → get_or (fill l p n f) (a * s + (o + k)) e ≡ f k
  row-filled k h room =
      let here : a * s + (o + k) ≡ p + k = omega arith in
      rw here (get_d-fill-in l p f n k e h (omega arith))

  -- other rows stay
  pub other-row-kept : (b y : ℕ) → b ≢ a → o + n ≤ s → y < s → get_or (fill l p n f) (b * s + y) e ≡ get_or l (b * s + y) e
  other-row-kept b y other narrow inside =
      get_d-fill-out l p f n (b * s + y) e
      (λ k h same. rows_apart s b a y (o + k) other inside (omega arith) (omega arith))

  -- and so do the columns before
  pub columns-before-kept : (y : ℕ) → y < o → get_or (fill l p n f) (a * s + y) e ≡ get_or l (a * s + y) e
  columns-before-kept y before = get_d-fill-out l p f n (a * s + y) e (λ k h same. omega arith)

-- one more row stored: all rows so far are what they should be
pub rows-stored :
    {A : Type 0} (l : List A) (s row n : ℕ) (f : ℕ → ℕ → A) (e : A) → n ≤ s → row * s + n ≤ length l
    → ((r x : ℕ) → r < row → x < n → get_or l (r * s + x) e ≡ f r x)
    → (r x : ℕ) → r < row + 1 → x < n → get_or (fill l (row * s) n (f row)) (r * s + x) e ≡ f r x
rows-stored l s row n f e narrow room sofar r x below inside =
    elim (dec_lt r row) [
      | yes earlier ↦
          get_d-fill-out l (row * s) (f row) n (r * s + x) e
          (λ k h same. rows_apart s r row x k (omega arith) (omega arith) (omega arith) same)
          ∙ sofar r x earlier inside
      | no last ↦
          let here : row ≡ r = omega arith in
          subst (λ (q : ℕ). get_or (fill l (row * s) n (f row)) (q * s + x) e ≡ f q x) here
          (get_d-fill-in l (row * s) (f row) n x e inside (omega arith))
    ]
