-- `runs::padded::with_ones` meets its contract: the two shifts drop the bits after the first n, and the ones fit there.
use mathlib.Core.Path.{◌≡◌, refl, ap, ◌∙◌}
use Prim.Native.Nat.{ℕ, suc, ◌+◌, ◌-◌, ◌*◌, ◌/◌, ◌%◌, ◌^◌, ◌≤◌, ◌<◌}
use native.Mathlib.Nat.{one-mul, suc-mul, mod-eq_of_lt, mul-le-mul_right}
use native.Mathlib.Omega.{arith}
use lib.Pow.{pow-add, pow_mono, pow_pos, shr_lt}
use Rattle.runs.proofs.padded.with_ones.Goals as goal

-- after the first n bits of 64 there is room for ones
room : (w n : ℕ) → n < 64 → w < 2 ^ 64 → w / 2 ^ (64 - n) * 2 ^ (64 - n) + 2 ^ (64 - n) ≤ 2 ^ 64
room w n few fits =
    let parts : n + (64 - n) ≡ 64 = omega arith in
    let whole : 2 ^ n * 2 ^ (64 - n) ≡ 2 ^ 64 = rw (← pow-add 2 n (64 - n), parts) in
    let top : w / 2 ^ (64 - n) < 2 ^ n = shr_lt n (64 - n) (rw parts fits) in
    let most : suc (w / 2 ^ (64 - n)) * 2 ^ (64 - n) ≤ 2 ^ n * 2 ^ (64 - n) = mul-le-mul_right (2 ^ (64 - n)) (omega arith) in
    omega (arith, suc-mul (w / 2 ^ (64 - n)) (2 ^ (64 - n)))

-- a one that is shifted up
one : (n : ℕ) → 1 ≤ n → 1 * 2 ^ (64 - n) % 2 ^ 64 ≡ 2 ^ (64 - n)
one n some =
    let small : 2 ^ (64 - n) ≤ 2 ^ 63 = pow_mono {i = 64 - n} {j = 63} (omega arith) in
    ap (λ (k : ℕ). k % 2 ^ 64) (one-mul (2 ^ (64 - n))) ∙ mod-eq_of_lt (omega arith)

-- the first n bits, the others dropped
first : (w n : ℕ) → n < 64 → w < 2 ^ 64 → w / 2 ^ (64 - n) * 2 ^ (64 - n) % 2 ^ 64 ≡ w / 2 ^ (64 - n) * 2 ^ (64 - n)
first w n few fits = mod-eq_of_lt (omega (arith, room w n few fits, pow_pos (64 - n)))

pub overflow_sub-result : goal.overflow_sub-result
overflow_sub-result c = rw (one c.args.n c.requires.0) (pow_pos (64 - c.args.n))

pub overflow_add-result : goal.overflow_add-result
overflow_add-result c =
    let small : c.args.w < 2 ^ 64 = omega arith in
    rw (first c.args.w c.args.n c.requires.1 small, one c.args.n c.requires.0) (omega (arith, room c.args.w c.args.n c.requires.1 small, pow_pos (64 - c.args.n)))

pub returns : goal.returns
returns c =
    let small : c.args.w < 2 ^ 64 = omega arith in
    rw (first c.args.w c.args.n c.requires.1 small, one c.args.n c.requires.0) refl
