-- Document 01, "Lifting": one lifting step on a line of any even length, with any taps and scale.
-- A line is a function from positions to whole numbers of any size.
use Rattle.std.specs.Prelude.{ℕ, zero, suc, ◌-◌, ◌/◌, ◌%◌, ◌^◌, min, max, Bool, true, false, cond, List, [], ◌∷◌, eqb, ℤ, pos, negsuc, ◌+ℤ◌, ◌-ℤ◌, ◌*ℤ◌}
use Rattle.base.specs.Floor.{floor_div}

abbrev pub Line : Type 0
Line = ℕ → ℤ

-- The four types of step: 1 and 2 change the even elements, 3 and 4 the odd ones; 1 and 3 add, 2 and 4 subtract.
pub data StepType : Type 0 where
  type1 type2 type3 type4 : StepType

unfoldable pub changes_even : StepType → Bool
changes_even type1 = true
changes_even type2 = true
changes_even type3 = false
changes_even type4 = false

unfoldable pub adds : StepType → Bool
adds type1 = true
adds type2 = false
adds type3 = true
adds type4 = false

-- "A step has type, first offset D, taps t and scale S"
pub record Step : Type 0 where
  pub type : StepType
  pub first : ℤ
  pub taps : List ℤ
  pub scale : ℕ

-- a position "held to" a range
unfoldable pub clamp : ℕ → ℕ → ℤ → ℕ
clamp low high (pos n) = max low (min n high)
clamp low high (negsuc n) = low

-- "Types 1 and 2 change each A[2n]; they read positions 2(n+i) − 1 held to 1..N − 1."
-- "Types 3 and 4 change each A[2n+1]; they read 2(n+i) held to 0..N − 2."
unfoldable pub read_position : Bool → ℕ → ℕ → ℤ → ℕ
read_position true N n i = clamp 1 (N - 1) (pos 2 *ℤ (pos n +ℤ i) -ℤ pos 1)
read_position false N n i = clamp 0 (N - 2) (pos 2 *ℤ (pos n +ℤ i))

-- "Here i runs from D, one value per tap."
unfoldable pub tap_sum : Bool → ℕ → Line → ℕ → ℤ → List ℤ → ℤ
tap_sum even N A n i [] = pos 0
tap_sum even N A n i (t ∷ ts) = t *ℤ A (read_position even N n i) +ℤ tap_sum even N A n (i +ℤ pos 1) ts

-- "plus 2^(S−1) if S > 0"
unfoldable pub rounding : ℕ → ℤ
rounding zero = pos 0
rounding (suc s) = pos (2 ^ s)

-- "The sum, plus 2^(S−1) if S > 0, is divided by 2^S rounding down."
unfoldable pub update : Step → ℕ → Line → ℕ → ℤ
update s N A n =
    floor_div (tap_sum (changes_even s.type) N A n s.first s.taps +ℤ rounding s.scale) (2 ^ s.scale)

-- Whether the step changes the element.
unfoldable pub changes : StepType → ℕ → Bool
changes type x = eqb (x % 2) (cond (changes_even type) 0 1)

-- "Types 1 and 3 add it, 2 and 4 subtract it."
unfoldable pub lift : Step → ℕ → Line → Line
lift s N A x =
    cond (changes s.type x)
    (cond (adds s.type) (A x +ℤ update s N A (x / 2)) (A x -ℤ update s N A (x / 2)))
    (A x)

-- "types 1 and 2, 3 and 4 exchanged"
unfoldable pub exchange_type : StepType → StepType
exchange_type type1 = type2
exchange_type type2 = type1
exchange_type type3 = type4
exchange_type type4 = type3

unfoldable pub exchange : Step → Step
exchange s = record { type = exchange_type s.type; first = s.first; taps = s.taps; scale = s.scale }
