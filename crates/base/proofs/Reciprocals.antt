-- Division by a product: p over w, rounded down, and one more is a little more than p over w, so a product with it, divided by p, is divided
-- by w.
-- Assumes nothing.
use mathlib.Core.Path.{◌≡◌, sym, ap, ◌∙◌}
use Prim.Native.Nat.{ℕ, ◌+◌, ◌-◌, ◌*◌, ◌/◌, ◌%◌, ◌≤◌, ◌<◌}
use native.Mathlib.Nat.{add-mul, mul-add, mul_assoc, mul_right_comm, mul-le-mul_left, mul-le-mul_right, le_of_mul-le-mul_right, lt_of_mul-lt-mul_right, div-eq_of_lt-le, div-add-mod', mod-lt}
use native.Mathlib.Omega.{arith}

-- m times w is p and e more, and i times e is less than p
quotient-by-product : (p w m e i k x : ℕ) → m * w ≡ p + e → i * e < p → i ≡ k * w + x → x < w → i * m / p ≡ k
quotient-by-product p w m e i k x more little split less =
    let product : i * m * w ≡ i * p + i * e = mul_assoc i m w ∙ ap (λ (n : ℕ). i * n) more ∙ mul-add i p e in
    let parts : i * p ≡ k * w * p + x * p = ap (λ (n : ℕ). n * p) split ∙ add-mul (k * w) x p in
    let under : k * p * w ≡ k * w * p = mul_right_comm k p w in
    let over : (k + 1) * p * w ≡ k * w * p + w * p = mul_right_comm (k + 1) p w ∙ ap (λ (n : ℕ). n * p) (add-mul k 1 w ∙ ap (λ (n : ℕ). k * w + n) (omega arith)) ∙ add-mul (k * w) w p in
    let column : (x + 1) * p ≤ w * p = mul-le-mul_right p (omega arith) in
    let next : (x + 1) * p ≡ x * p + 1 * p = add-mul x 1 p in
    let some : 0 < w = omega arith in
    let low : k * p * w ≤ i * m * w = omega arith in
    let high : i * m * w < (k + 1) * p * w = omega arith in
    div-eq_of_lt-le p (le_of_mul-le-mul_right low some) (lt_of_mul-lt-mul_right w high)

pub reciprocal-divides : (p w i : ℕ) → 1 ≤ w → i * w < p → i * (p / w + 1) / p ≡ i / w
reciprocal-divides p w i some small =
    let whole : p / w * w + p % w ≡ p = div-add-mod' p w in
    let more : (p / w + 1) * w ≡ p / w * w + 1 * w = add-mul (p / w) 1 w in
    let rest : p % w < w = mod-lt p some in
    let over : (p / w + 1) * w ≡ p + (w - p % w) = omega arith in
    let little : i * (w - p % w) ≤ i * w = mul-le-mul_left i (omega arith) in
    quotient-by-product p w (p / w + 1) (w - p % w) i (i / w) (i % w) over (omega arith) (sym (div-add-mod' i w)) (mod-lt i some)
