-- The code's own forms: the sums of a line, round + taps[0] · source[starts[0] + x] + taps[1] · source[starts[1] + x] + .. for each entry x,
-- and what lifting by them makes of the line. No definition of the format rests on them.
use Rattle.std.specs.Prelude.{ℕ, zero, suc, ◌+◌, ◌^◌, ◌≤◌, ◌<◌, Bool, cond, List, ℤ, pos, nat_abs, ◌+ℤ◌, ◌-ℤ◌, ◌*ℤ◌, length, get_or}
use Rattle.base.specs.Every.{all_below}
use Rattle.base.specs.Fill.{fill}
use Rattle.base.specs.Floor.{floor_div}
use Rattle.base.specs.Range.{fits32}

-- f 0 + f 1 + .. + f (n − 1)
unfoldable pub sum_below : (ℕ → ℤ) → ℕ → ℤ
sum_below f zero = pos 0
sum_below f (suc n) = sum_below f n +ℤ f n

-- The same of their sizes.
unfoldable pub sizes_below : (ℕ → ℤ) → ℕ → ℕ
sizes_below f zero = 0
sizes_below f (suc n) = sizes_below f n + nat_abs (f n)

-- What tap t adds at entry x: its factor times the number x further on than its start.
unfoldable pub tap_at : List ℤ → List ℕ → List ℤ → ℕ → ℕ → ℤ
tap_at taps starts source x t = get_or taps t (pos 0) *ℤ get_or source (get_or starts t 0 + x) (pos 0)

-- The number at an index of a plane.
abbrev pub number_at : List ℤ → ℕ → ℤ
number_at plane i = get_or plane i (pos 0)

-- The sum at entry x.
abbrev pub sum_at : ℤ → List ℤ → List ℕ → ℕ → List ℤ → ℕ → ℤ
sum_at round taps starts count source x = round +ℤ sum_below (tap_at taps starts source x) count

-- A number with a sum divided by 2^scale, rounded down, added or subtracted.
unfoldable pub changed : Bool → ℕ → ℤ → ℤ → ℤ
changed adds scale v sum = cond adds (v +ℤ floor_div sum (2 ^ scale)) (v -ℤ floor_div sum (2 ^ scale))

-- The new number at entry x of the line that starts at an index of a plane, from its sums; the plane with the line lifted; and whether all its new
-- numbers fit 32 bits.
abbrev pub new_at : Bool → ℕ → List ℤ → ℕ → (ℕ → ℤ) → ℕ → ℤ
new_at adds scale plane start sums x = changed adds scale (get_or plane (start + x) (pos 0)) (sums x)

abbrev pub line_lifted : Bool → ℕ → List ℤ → ℕ → ℕ → (ℕ → ℤ) → List ℤ
line_lifted adds scale plane start width sums = fill plane start width (new_at adds scale plane start sums)

abbrev pub line_fits : Bool → ℕ → List ℤ → ℕ → ℕ → (ℕ → ℤ) → Bool
line_fits adds scale plane start width sums = all_below width (λ x. fits32 (new_at adds scale plane start sums x))

-- Taps that keep sums within 64 bits, and that read inside the source.
abbrev pub TapsFit : List ℤ → List ℕ → ℕ → List ℤ → ℕ → Type 0
TapsFit taps starts count source width =
    (t : ℕ) → t < count → (nat_abs (get_or taps t (pos 0)) ≤ 2 ^ 13) × (get_or starts t 0 + width ≤ length source)
