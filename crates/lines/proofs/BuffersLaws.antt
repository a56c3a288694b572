-- Laws of the line buffer: the ends of a half repeated, the entries of an interleaved row, and a number halved with the half rounded up.
-- Assumes nothing.
use mathlib.Core.Path.{◌≡◌, refl, ap, ◌∙◌}
use mathlib.Core.Bool.{Bool, true, false}
use mathlib.Core.Logic.{◌≢◌}
use mathlib.Core.List.{List}
use Prim.Native.Nat.{ℕ, zero, suc, ◌+◌, ◌-◌, ◌*◌, ◌/◌, ◌%◌, ◌≤◌, ◌<◌, min}
use native.Mathlib.Decide.{dec_lt}
use native.Mathlib.Nat.{lt_of_le_of_lt}
use native.Mathlib.Omega.{arith}
use lib.IntN.{ℤ, pos, negsuc, ◌+ℤ◌, ◌-ℤ◌}
use lib.ListN.{length, get_or, set}
use lib.Signed.{mag}
use borrow.Author.Tests.{lt-ltb, le-ltb, eq-eqb, ne_eqb}
use Rattle.base.specs.Fill.{fill}
use Rattle.base.specs.Floor.{floor_div}
use Rattle.base.specs.Range.{fits32}
use Rattle.base.proofs.FillLaws.{fill_none, fill_more, length-fill, get_d-fill-in, get_d-fill-out, set-fill-out}
use Rattle.base.proofs.RangeLaws.{fits32-below, below-fits32}
use Rattle.lines.specs.Buffers.{clamped_entry, interleaved, shifted}

-- a difference of natural numbers that is not below 0
pos-less : (a b : ℕ) → b ≤ a → pos a -ℤ pos b ≡ pos (a - b)
pos-less a zero h = ap pos (omega arith)
pos-less a (suc b) h = rw (le-ltb a (suc b) h)

-- a number less its half rounded down is its half rounded up
pub half_up : (v : ℤ) → v -ℤ floor_div v 2 ≡ floor_div (v +ℤ pos 1) 2
half_up (pos n) = pos-less n (n / 2) (omega arith) ∙ ap pos (omega arith)
half_up (negsuc zero) = refl
half_up (negsuc (suc n)) =
    rw (lt-ltb (suc (suc n / 2)) (suc (suc n)) (omega arith), lt-ltb 1 (suc (suc n)) (omega arith)) (ap negsuc (omega arith))

-- a half is no larger than the number
pub half-small : (v : ℤ) → mag (floor_div (v +ℤ pos 1) 2) ≤ mag v
half-small (pos n) = omega arith
half-small (negsuc zero) = omega arith
half-small (negsuc (suc n)) = rw (lt-ltb 1 (suc (suc n)) (omega arith)) (omega arith)

-- and so a number that fits still fits when it is shifted
pub shifted_fits : (shift : Bool) (v : ℤ) → fits32 v ≡ true → fits32 (shifted shift v) ≡ true
unfolding shifted
shifted_fits true v fits = below-fits32 (floor_div (v +ℤ pos 1) 2) (lt_of_le_of_lt (half-small v) (fits32-below v fits))
shifted_fits false v fits = fits

-- a line with n entries repeated on either side of the half of b entries behind a base
abbrev pub ends : List ℤ → ℕ → ℕ → ℕ → ℤ → ℤ → List ℤ
ends l base b n first last = fill (fill l base n (λ k. first)) (base + b + 4) n (λ k. last)

module _ (l : List ℤ) (base b : ℕ) where
  -- none repeated, and one more on either side
  pub ends-none : (first last : ℤ) → ends l base b 0 first last ≡ l
  ends-none first last = fill_none _ (base + b + 4) _ ∙ fill_none l base _

  pub ends_more :
      (n : ℕ) (first last : ℤ) → n < 4
      → set (set (ends l base b n first last) (base + n) first) (base + b + 4 + n) last ≡ ends l base b (n + 1) first last
  ends_more n first last h =
      rw (
        set-fill-out (fill l base n (λ k. first)) (base + b + 4) (λ k. last) n (base + n) first (λ k below. omega arith),
        fill_more l base (λ k. first) n (base + n) refl,
      )
      (fill_more (fill l base (n + 1) (λ k. first)) (base + b + 4) (λ k. last) n (base + b + 4 + n) refl)

  -- four repeated are the entries clamped to the half
  pub ends-clamped :
      (s : ℕ) → 1 ≤ b → base + b + 8 ≤ length l → s < b + 8
      → get_or (ends l base b 4 (get_or l (base + 4) (pos 0)) (get_or l (base + b + 3) (pos 0))) (base + s) (pos 0) ≡ get_or l (base + clamped_entry b s) (pos 0)
  unfolding clamped_entry
  ends-clamped s some room h =
      let first = get_or l (base + 4) (pos 0) in
      let last = get_or l (base + b + 3) (pos 0) in
      let inner = fill l base 4 (λ k. first) in
      elim (dec_lt s (b + 4)) [
        | yes before ↦
            get_d-fill-out inner (base + b + 4) (λ k. last) 4 (base + s) (pos 0) (λ k below. omega arith)
            ∙ elim (dec_lt s 4) [
              | yes left ↦
                  let at : 4 ≡ 4 + min (s - 4) (b - 1) = omega arith in
                  get_d-fill-in l base (λ k. first) 4 s (pos 0) left (omega arith) ∙ ap (λ (k : ℕ). get_or l (base + k) (pos 0)) at
              | no not_left ↦
                  let at : s ≡ 4 + min (s - 4) (b - 1) = omega arith in
                  get_d-fill-out l base (λ k. first) 4 (base + s) (pos 0) (λ k below. omega arith) ∙ ap (λ (k : ℕ). get_or l (base + k) (pos 0)) at
            ]
        | no after ↦
            let index : base + b + 4 + (s - (b + 4)) ≡ base + s = omega arith in
            let at : base + b + 3 ≡ base + (4 + min (s - 4) (b - 1)) = omega arith in
            rw index at (get_d-fill-in inner (base + b + 4) (λ k. last) 4 (s - (b + 4)) (pos 0) (omega arith) (rw (length-fill l base (λ k. first) 4) (omega arith)))
            ∙ ap (λ (k : ℕ). get_or l k (pos 0)) at
      ]

  -- the entries outside it and its ends stay
  pub ends-kept :
      (first last : ℤ) (p : ℕ) → ((s : ℕ) → s < b + 8 → p ≢ base + s) → get_or (ends l base b 4 first last) p (pos 0) ≡ get_or l p (pos 0)
  ends-kept first last p outside =
      get_d-fill-out (fill l base 4 (λ k. first)) (base + b + 4) (λ k. last) 4 p (pos 0) (λ k below e. outside (b + 4 + k) (omega arith) (omega arith))
      ∙ get_d-fill-out l base (λ k. first) 4 p (pos 0) (λ k below. outside k (omega arith))

-- an even and an odd entry of an interleaved row
pub interleaved-even : (halves : List ℤ) (x : ℕ) → interleaved halves (2 * x) ≡ get_or halves (4 + x) (pos 0)
unfolding interleaved
interleaved-even halves x =
    let half : 2 * x / 2 ≡ x = omega arith in
    rw (eq-eqb (2 * x % 2) 0 (omega arith), half)

pub interleaved-odd : (halves : List ℤ) (x : ℕ) → interleaved halves (2 * x + 1) ≡ get_or halves (2060 + x) (pos 0)
unfolding interleaved
interleaved-odd halves x =
    let half : (2 * x + 1) / 2 ≡ x = omega arith in
    rw (ne_eqb ((2 * x + 1) % 2) 0 (omega arith), half)
