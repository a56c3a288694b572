-- Laws of sums of taps: one tap more, and sizes that stay within 64 bits.
-- Assumes nothing.
use mathlib.Core.Path.{◌≡◌, refl, sym, ap, ◌∙◌}
use mathlib.Core.List.{List, [], ◌∷◌}
use Prim.Native.Nat.{ℕ, zero, suc, ◌+◌, ◌-◌, ◌*◌, ◌^◌, ◌≤◌, ◌<◌}
use native.Mathlib.Numerals.{add-one}
use native.Mathlib.Decide.{dec_lt}
use native.Mathlib.Nat.{le_refl, add-mul, mul-le-mul_right}
use native.Mathlib.Omega.{arith}
use lib.IntN.{ℤ, pos, nat_abs, ◌+ℤ◌, ◌*ℤ◌, negsuc, +ℤ_idl, +ℤ_idr, +ℤ_assoc, +ℤ_comm, zero-*ℤ, suc_ℤ-*ℤ, *ℤ_comm, *ℤ-negsuc, neg_ℤ, neg_ℤ-+ℤ}
use lib.ListN.{length, get_or, get_or-eq_default, take}
use lib.Signed.{mag}
use Rattle.base.specs.Fill.{fill}
use Rattle.base.proofs.FillLaws.{length-fill, get_d-fill-start}
use Rattle.base.proofs.Integers.{mag-size, size-mag, size-add, size-mul, size-mul-most}
use Rattle.lines.specs.Buffers.{Below}
use Rattle.lines.specs.Sums.{sum_below, sizes_below}

-- a tap times a plane's entry is at most 2^44 in size, and fits 64 bits, also added to a sum
pub product_small : (tap v : ℤ) → nat_abs tap ≤ 2 ^ 13 → mag v < 2 ^ 31 → nat_abs (tap *ℤ v) ≤ 2 ^ 44
product_small tap v ht hv = size-mul-most tap v (2 ^ 13) (2 ^ 31) ht (omega (arith, size-mag v))

pub product-fits : (p : ℤ) → nat_abs p ≤ 2 ^ 44 → mag p < 2 ^ 63
product-fits p h = omega (arith, mag-size p)

pub sum_fits : (s p : ℤ) → nat_abs s ≤ 2 ^ 60 → nat_abs p ≤ 2 ^ 44 → mag (s +ℤ p) < 2 ^ 63
sum_fits s p hs hp = omega (arith, mag-size (s +ℤ p), size-add s p)

-- sums with numbers of a bounded size added grow by that bound at most
pub below-added : (l : List ℤ) (p : ℕ → ℤ) (w m b : ℕ) → ((k : ℕ) → k < w → nat_abs (p k) ≤ b) → Below l w m → Below (fill l 0 w (λ k. get_or l k (pos 0) +ℤ p k)) w (m + b)
below-added l p w m b small below x h =
    let new : ℕ → ℤ = λ k. get_or l k (pos 0) +ℤ p k in
    elim (dec_lt x (length l)) [
      | yes inside ↦
          rw (get_d-fill-start l new w x (pos 0) h inside) (omega (arith, size-add (get_or l x (pos 0)) (p x), small x h, below x h))
      | no past ↦
          rw (get_or-eq_default (fill l 0 w new) (pos 0) {n = x} (rw (length-fill l 0 new w) (omega arith))) (omega arith)
    ]

-- a sum of none, and of one more
pub sum-none : (r : ℤ) (f : ℕ → ℤ) → r ≡ r +ℤ sum_below f 0
unfolding sum_below
sum-none r f = sym (+ℤ_idr r)

pub sum_one : (r : ℤ) (f : ℕ → ℤ) → r +ℤ f 0 ≡ r +ℤ sum_below f 1
unfolding sum_below
sum_one r f = ap (λ (t : ℤ). r +ℤ t) (sym (+ℤ_idl (f 0)))

pub sum_more : (r : ℤ) (f : ℕ → ℤ) (n : ℕ) → (r +ℤ sum_below f n) +ℤ f n ≡ r +ℤ sum_below f (n + 1)
unfolding sum_below
sum_more r f n = rw (add-one n) (+ℤ_assoc r (sum_below f n) (f n))

-- a product with a sum is the sum of the products: with a natural number, and with any
four-terms : (a b c d : ℤ) → (a +ℤ b) +ℤ (c +ℤ d) ≡ (a +ℤ c) +ℤ (b +ℤ d)
four-terms a b c d =
    +ℤ_assoc a b (c +ℤ d)
    ∙ ap (λ (t : ℤ). a +ℤ t) (sym (+ℤ_assoc b c d) ∙ ap (λ (t : ℤ). t +ℤ d) (+ℤ_comm b c) ∙ +ℤ_assoc c b d)
    ∙ sym (+ℤ_assoc a c (b +ℤ d))

pos-distributes : (n : ℕ) (a b : ℤ) → pos n *ℤ (a +ℤ b) ≡ pos n *ℤ a +ℤ pos n *ℤ b
pos-distributes zero a b = rw (zero-*ℤ (a +ℤ b), zero-*ℤ a, zero-*ℤ b)
pos-distributes (suc n) a b =
    suc_ℤ-*ℤ (pos n) (a +ℤ b)
    ∙ ap (λ (t : ℤ). t +ℤ (a +ℤ b)) (pos-distributes n a b)
    ∙ four-terms (pos n *ℤ a) (pos n *ℤ b) a b
    ∙ sym (rw (suc_ℤ-*ℤ (pos n) a, suc_ℤ-*ℤ (pos n) b) refl)

minus-times : (n : ℕ) (z : ℤ) → negsuc n *ℤ z ≡ neg_ℤ (pos (suc n) *ℤ z)
minus-times n z = *ℤ_comm (negsuc n) z ∙ *ℤ-negsuc z n ∙ ap neg_ℤ (*ℤ_comm z (pos (suc n)))

pub distributes : (k a b : ℤ) → k *ℤ (a +ℤ b) ≡ k *ℤ a +ℤ k *ℤ b
distributes (pos n) a b = pos-distributes n a b
distributes (negsuc n) a b =
    minus-times n (a +ℤ b)
    ∙ ap neg_ℤ (pos-distributes (suc n) a b)
    ∙ neg_ℤ-+ℤ (pos (suc n) *ℤ a) (pos (suc n) *ℤ b)
    ∙ sym (rw (minus-times n a, minus-times n b) refl)

-- a number is no larger than a tap times it, and a tap times a sum no larger than the two products
pub tap-size : (tap a : ℤ) → 1 ≤ nat_abs tap → nat_abs a ≤ nat_abs (tap *ℤ a)
tap-size tap a some =
    let once : 1 * nat_abs a ≤ nat_abs tap * nat_abs a = mul-le-mul_right (nat_abs a) some in
    rw (size-mul tap a) (omega arith)

pub pair_size : (tap a b : ℤ) → nat_abs (tap *ℤ (a +ℤ b)) ≤ nat_abs (tap *ℤ a) + nat_abs (tap *ℤ b)
pair_size tap a b = rw (distributes tap a b) (size-add (tap *ℤ a) (tap *ℤ b))

-- sums of the same numbers
pub sum_same : (f g : ℕ → ℤ) (n : ℕ) → ((i : ℕ) → i < n → f i ≡ g i) → sum_below f n ≡ sum_below g n
unfolding sum_below
sum_same f g zero same = refl
sum_same f g (suc n) same = rw (sum_same f g n (λ i h. same i (omega arith)), same n (omega arith))

-- a sum from its front
pub sum-front : (f : ℕ → ℤ) (n : ℕ) → sum_below f (suc n) ≡ f 0 +ℤ sum_below (λ i. f (suc i)) n
unfolding sum_below
sum-front f zero = +ℤ_comm (pos 0) (f 0)
sum-front f (suc n) = ap (λ (t : ℤ). t +ℤ f (suc n)) (sum-front f n) ∙ +ℤ_assoc (f 0) (sum_below (λ i. f (suc i)) n) (f (suc n))

-- The sum of f over the 2j numbers around m, and what one pair more on either side makes it.
abbrev pub around : (ℕ → ℤ) → ℕ → ℕ → ℤ
around f m j = sum_below (λ i. f (m - j + i)) (2 * j)

pub around-more : (f : ℕ → ℤ) (m j : ℕ) → j < m → around f m j +ℤ (f (m - 1 - j) +ℤ f (m + j)) ≡ around f m (j + 1)
unfolding sum_below
around-more f m j inside =
    let g : ℕ → ℤ = λ i. f (m - (j + 1) + i) in
    let two : 2 * (j + 1) ≡ suc (suc (2 * j)) = omega arith in
    let low : m - (j + 1) + 0 ≡ m - 1 - j = omega arith in
    let high : m - (j + 1) + suc (2 * j) ≡ m + j = omega arith in
    let inner : sum_below (λ i. g (suc i)) (2 * j) ≡ around f m j = sum_same (λ i. g (suc i)) (λ i. f (m - j + i)) (2 * j) (λ i h. ap f (omega arith)) in
    sym (+ℤ_assoc (around f m j) (f (m - 1 - j)) (f (m + j)))
    ∙ ap (λ (t : ℤ). t +ℤ f (m + j)) (+ℤ_comm (around f m j) (f (m - 1 - j)))
    ∙ sym (rw two (ap (λ (t : ℤ). t +ℤ g (suc (2 * j))) (sum-front g (2 * j)) ∙ rw (inner, low, high) refl))

pub around-none : (f : ℕ → ℤ) (m : ℕ) (r : ℤ) → r ≡ r +ℤ around f m 0
unfolding sum_below
around-none f m r = sym (+ℤ_idr r)

pub around-all : (f : ℕ → ℤ) (m : ℕ) → around f m m ≡ sum_below f (2 * m)
around-all f m = sum_same (λ i. f (m - m + i)) f (2 * m) (λ i h. ap f (omega arith))

-- What one pair more around the middle of 2 * half numbers makes of the sum.
module _ (f : ℕ → ℤ) (half j : ℕ) (inside : j < half) where
  pub pair-added : (r s tap a b : ℤ) → s ≡ r +ℤ around f half j → f (half - 1 - j) ≡ tap *ℤ a → f (half + j) ≡ tap *ℤ b
      → s +ℤ tap *ℤ (a +ℤ b) ≡ r +ℤ around f half (j + 1)
  pair-added r s tap a b so low high =
      rw (so, distributes tap a b) (
      rw (low, high) at (+ℤ_assoc r (around f half j) (f (half - 1 - j) +ℤ f (half + j)))
      ∙ ap (λ (t : ℤ). r +ℤ t) (rw (low, high) at (around-more f half j inside))
      )

-- The same of sizes: from the front, over the 2j numbers around m, one pair more, and all of them.
pub sizes-front : (f : ℕ → ℤ) (n : ℕ) → sizes_below f (suc n) ≡ nat_abs (f 0) + sizes_below (λ i. f (suc i)) n
unfolding sizes_below
sizes-front f zero = omega arith
sizes-front f (suc n) = omega (arith, sizes-front f n)

sizes-same : (f g : ℕ → ℤ) (n : ℕ) → ((i : ℕ) → i < n → f i ≡ g i) → sizes_below f n ≡ sizes_below g n
unfolding sizes_below
sizes-same f g zero same = refl
sizes-same f g (suc n) same = rw (sizes-same f g n (λ i h. same i (omega arith)), same n (omega arith))

abbrev pub sizes_around : (ℕ → ℤ) → ℕ → ℕ → ℕ
sizes_around f m j = sizes_below (λ i. f (m - j + i)) (2 * j)

pub sizes-around-more : (f : ℕ → ℤ) (m j : ℕ) → j < m → sizes_around f m j + (nat_abs (f (m - 1 - j)) + nat_abs (f (m + j))) ≡ sizes_around f m (j + 1)
unfolding sizes_below
sizes-around-more f m j inside =
    let g : ℕ → ℤ = λ i. f (m - (j + 1) + i) in
    let two : 2 * (j + 1) ≡ suc (suc (2 * j)) = omega arith in
    let low : m - (j + 1) + 0 ≡ m - 1 - j = omega arith in
    let high : m - (j + 1) + suc (2 * j) ≡ m + j = omega arith in
    let inner : sizes_below (λ i. g (suc i)) (2 * j) ≡ sizes_around f m j = sizes-same (λ i. g (suc i)) (λ i. f (m - j + i)) (2 * j) (λ i h. ap f (omega arith)) in
    let front : sizes_below g (suc (2 * j)) ≡ nat_abs (f (m - 1 - j)) + sizes_around f m j = sizes-front g (2 * j) ∙ rw (inner, low) refl in
    let back : nat_abs (g (suc (2 * j))) ≡ nat_abs (f (m + j)) = ap (λ (i : ℕ). nat_abs (f i)) high in
    rw two (omega (arith, front, back))

pub sizes-around-all : (f : ℕ → ℤ) (m : ℕ) → sizes_around f m m ≡ sizes_below f (2 * m)
sizes-around-all f m = sizes-same (λ i. f (m - m + i)) f (2 * m) (λ i h. ap f (omega arith))

-- one number, and two, are no larger than all
sizes-one : (f : ℕ → ℤ) (n i : ℕ) → i < n → nat_abs (f i) ≤ sizes_below f n
unfolding sizes_below
sizes-one f zero i h = absurd (omega arith)
sizes-one f (suc n) i h =
    elim (dec_lt i n) [
      | yes before ↦ omega (arith, sizes-one f n i before)
      | no last ↦
          let at : i ≡ n = omega arith in
          rw at (omega arith)
    ]

pub sizes-two : (f : ℕ → ℤ) (n i k : ℕ) → i < k → k < n → nat_abs (f i) + nat_abs (f k) ≤ sizes_below f n
unfolding sizes_below
sizes-two f zero i k apart h = absurd (omega arith)
sizes-two f (suc n) i k apart h =
    elim (dec_lt k n) [
      | yes before ↦ omega (arith, sizes-two f n i k apart before)
      | no last ↦
          let at : k ≡ n = omega arith in
          rw at (omega (arith, sizes-one f n i (omega arith)))
    ]

-- a sum is no larger than its sizes, and sizes of products with numbers of at most m are at most m times those of the factors
pub sum-sizes : (f : ℕ → ℤ) (n : ℕ) → nat_abs (sum_below f n) ≤ sizes_below f n
unfolding sum_below sizes_below
sum-sizes f zero = omega arith
sum-sizes f (suc n) = omega (arith, sum-sizes f n, size-add (sum_below f n) (f n))

pub sizes-product : (f v : ℕ → ℤ) (m n : ℕ) → ((i : ℕ) → i < n → nat_abs (v i) ≤ m) → sizes_below (λ i. f i *ℤ v i) n ≤ sizes_below f n * m
unfolding sizes_below
sizes-product f v m zero small = omega arith
sizes-product f v m (suc n) small =
    let one : nat_abs (f n *ℤ v n) ≤ nat_abs (f n) * m = size-mul-most (f n) (v n) (nat_abs (f n)) m (le_refl (nat_abs (f n))) (small n (omega arith)) in
    rw (add-mul (sizes_below f n) (nat_abs (f n)) m) (omega (arith, one, sizes-product f v m n (λ i h. small i (omega arith))))

-- a tap of 0 adds nothing
pub zero-added : (s z : ℤ) → s ≡ s +ℤ pos 0 *ℤ z
zero-added s z = rw (zero-*ℤ z) (sym (+ℤ_idr s))

-- a sum of zeros
sum_zeros : (f : ℕ → ℤ) (n : ℕ) → ((t : ℕ) → f t ≡ pos 0) → sum_below f n ≡ pos 0
unfolding sum_below
sum_zeros f zero none = refl
sum_zeros f (suc n) none = rw (sum_zeros f n none, none n)

-- the taps past the end of a list add nothing
pub sum-taken :
    (count : ℕ) (taps : List ℤ) (g : ℕ → ℤ)
    → sum_below (λ t. get_or (take count taps) t (pos 0) *ℤ g t) (length (take count taps)) ≡ sum_below (λ t. get_or taps t (pos 0) *ℤ g t) count
unfolding sum_below
sum-taken zero taps g = refl
sum-taken (suc n) [] g = sym (sum_zeros (λ t. pos 0 *ℤ g t) (suc n) (λ t. zero-*ℤ (g t)))
sum-taken (suc n) (x ∷ xs) g =
    sum-front (λ t. get_or (x ∷ take n xs) t (pos 0) *ℤ g t) (length (take n xs))
    ∙ rw (sum-taken n xs (λ t. g (suc t))) (sym (sum-front (λ t. get_or (x ∷ xs) t (pos 0) *ℤ g t) n))
