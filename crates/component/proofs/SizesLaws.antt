-- Laws of padded sizes and band sizes.
-- Assumes nothing.
use mathlib.Core.Path.{◌≡◌, refl, sym, ap, ◌∙◌}
use Prim.Native.Nat.{ℕ, zero, suc, ◌+◌, ◌-◌, ◌*◌, ◌/◌, ◌%◌, ◌^◌, ◌≤◌}
use native.Mathlib.Nat.{mul_assoc, mul-le-mul_left, mul-div_cancel, pow-suc, le-div_iff_mul-le, lt-div-mul-add}
use native.Mathlib.Omega.{arith}
use lib.Pow.{pow_pos, pow_mono, pow-add}
use Rattle.std.specs.Int.{next_multiple_of}
use Rattle.component.specs.Sizes.{padded_size, band_size, size_at}

-- what holds at each depth that is allowed
pub at-depths : (P : ℕ → Type 0) → P 0 → P 1 → P 2 → P 3 → P 4 → (depth : ℕ) → depth ≤ 4 → P depth
at-depths P p0 p1 p2 p3 p4 zero h = p0
at-depths P p0 p1 p2 p3 p4 (suc zero) h = p1
at-depths P p0 p1 p2 p3 p4 (suc (suc zero)) h = p2
at-depths P p0 p1 p2 p3 p4 (suc (suc (suc zero))) h = p3
at-depths P p0 p1 p2 p3 p4 (suc (suc (suc (suc zero)))) h = p4
at-depths P p0 p1 p2 p3 p4 (suc (suc (suc (suc (suc n))))) h = absurd (omega arith)

-- 2^depth as the code computes it
pub power : (depth : ℕ) → depth ≤ 4 → (1 * 2 ^ depth) % 2 ^ 64 ≡ 2 ^ depth
power = at-depths (λ d. (1 * 2 ^ d) % 2 ^ 64 ≡ 2 ^ d) refl refl refl refl refl

-- a padded size is the next multiple of 2^depth
pub padded-next : (depth : ℕ) → depth ≤ 4 → (size : ℕ) → next_multiple_of size (2 ^ depth) ≡ padded_size depth size
unfolding padded_size
padded-next =
    at-depths (λ d. (size : ℕ) → next_multiple_of size (2 ^ d) ≡ padded_size d size)
    (λ size. omega arith) (λ size. omega arith) (λ size. omega arith) (λ size. omega arith) (λ size. omega arith)

-- a padded size is at least the size, and at most 4096 where the size is
pub padded-least : (depth size : ℕ) → size ≤ padded_size depth size
unfolding padded_size
padded-least depth size = omega (arith, pow_pos depth, lt-div-mul-add {a = size + (2 ^ depth - 1)} (pow_pos depth))

pub padded-most : (depth : ℕ) → depth ≤ 4 → (size : ℕ) → size ≤ 4096 → padded_size depth size ≤ 4096
unfolding padded_size
padded-most =
    at-depths (λ d. (size : ℕ) → size ≤ 4096 → padded_size d size ≤ 4096)
    (λ size h. omega arith) (λ size h. omega arith) (λ size h. omega arith) (λ size h. omega arith) (λ size h. omega arith)

-- doubling n times multiplies by 2^n
pub size_at-power : (size n : ℕ) → size_at size n ≡ size * 2 ^ n
unfolding size_at
size_at-power size zero = omega arith
size_at-power size (suc n) =
    let step : 2 ^ suc n ≡ 2 ^ n * 2 = pow-suc 2 n in
    let regrouped : size * (2 ^ n * 2) ≡ size * 2 ^ n * 2 = sym (mul_assoc size (2 ^ n) 2) in
    rw (step, regrouped, size_at-power size n) (omega arith)

-- LL of a padded size is the ceiling that the size was rounded up by
low-size : (depth size : ℕ) → band_size depth (padded_size depth size) 0 ≡ (size + (2 ^ depth - 1)) / 2 ^ depth
unfolding band_size padded_size
low-size depth size = mul-div_cancel _ (pow_pos depth)

-- it is not 0 where the size is not
pub low-some : (depth size : ℕ) → 1 ≤ size → 1 ≤ band_size depth (padded_size depth size) 0
low-some depth size some = rw (low-size depth size) ((le-div_iff_mul-le (pow_pos depth)).1 (omega (arith, pow_pos depth)))

-- the padded size is the size of the last picture
pub size_at-padded : (depth size : ℕ) → size_at (band_size depth (padded_size depth size) 0) depth ≡ padded_size depth size
unfolding padded_size
size_at-padded depth size = size_at-power _ depth ∙ ap (λ (q : ℕ). q * 2 ^ depth) (low-size depth size)

-- the bands of level n + 1 have the size of the picture of depth n
pub band-size_at : (depth size n : ℕ) → n ≤ depth → band_size depth (padded_size depth size) (suc n) ≡ size_at (band_size depth (padded_size depth size) 0) n
unfolding band_size padded_size
band-size_at depth size n h =
    let q = (size + (2 ^ depth - 1)) / 2 ^ depth in
    let whole : depth ≡ n + (depth - n) = omega arith in
    let split : q * 2 ^ depth ≡ q * 2 ^ n * 2 ^ (depth - n) =
    ap (λ (d : ℕ). q * 2 ^ d) whole ∙ ap (λ (x : ℕ). q * x) (pow-add 2 n (depth - n)) ∙ sym (mul_assoc q (2 ^ n) (2 ^ (depth - n))) in
    ap (λ (x : ℕ). x / 2 ^ (depth - n)) split ∙ mul-div_cancel (q * 2 ^ n) (pow_pos (depth - n))
    ∙ sym (size_at-power _ n ∙ ap (λ (x : ℕ). x * 2 ^ n) (low-size depth size))

-- the sizes of pictures grow with the depth, and the last one is what is left of the doublings
pub size_at-mono : (size m n : ℕ) → m ≤ n → size_at size m ≤ size_at size n
size_at-mono size m n h = rw (size_at-power size m, size_at-power size n) (mul-le-mul_left size (pow_mono {i = m} {j = n} h))

pub size_at-least : (size n : ℕ) → 1 ≤ size → 1 ≤ size_at size n
unfolding size_at
size_at-least size n some = omega (arith, size_at-mono size 0 n (omega arith))

pub size_at-rest : (size m n : ℕ) → m ≤ n → size_at size m * 2 ^ (n - m) ≡ size_at size n
size_at-rest size m n h =
    let whole : m + (n - m) ≡ n = omega arith in
    rw (size_at-power size m, size_at-power size n, mul_assoc size (2 ^ m) (2 ^ (n - m)), ← pow-add 2 m (n - m), whole)

-- one doubling more
pub size_at-double : (size n : ℕ) → size_at size (suc n) ≡ 2 * size_at size n
unfolding size_at
size_at-double size n = refl

-- the low band is no larger than the padded size
pub low-most : (depth size : ℕ) → band_size depth (padded_size depth size) 0 ≤ padded_size depth size
unfolding size_at
low-most depth size = omega (arith, size_at-mono (band_size depth (padded_size depth size) 0) 0 depth (omega arith), size_at-padded depth size)
