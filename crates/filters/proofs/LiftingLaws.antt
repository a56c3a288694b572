-- The laws of `lift`, over any taps, scale and even length: a step reads only elements that it does not change, so the exchanged step undoes it;
-- of `tapSum`, tap by tap; and of `rounding`, as the code makes it, and how small it is.
-- Assumes nothing.
use mathlib.Core.Path.{◌≡◌, refl, sym, ap, ◌∙◌, subst}
use mathlib.Core.Bool.{Bool, true, false, not, cond}
use mathlib.Core.List.{List, [], ◌∷◌}
use Prim.Native.Nat.{ℕ, suc, ◌-◌, ◌*◌, ◌/◌, ◌%◌, ◌≤◌, ◌<◌, zero, ◌^◌}
use native.Mathlib.Nat.{mul-suc, one-mul, mod-eq_of_lt}
use native.Mathlib.Numerals.{add-two, one-add}
use native.Mathlib.Omega.{arith}
use lib.Dec.{eqb, lit≤}
use lib.IntN.{ℤ, pos, negsuc, ◌+ℤ◌, ◌-ℤ◌, ◌*ℤ◌, suc_ℤ, suc-pred, -ℤ_one, +ℤ-neg_ℤ_cancel, -ℤ-+ℤ_cancel, nat_abs, +ℤ_idr, +ℤ_assoc}
use lib.Pow.{pow-lt, pow_mono}
use lib.ListN.{length, get_or}
use borrow.Author.Tests.{ne_eqb}
use mir.Syntax.{w64}
use mir.Val.{to_z, of_z}
use Rattle.filters.specs.Lifting.{Line, Step, StepType, type1, type2, type3, type4, changes_even, adds, clamp, read_position, tap_sum, update, changes, lift, exchange_type, exchange, rounding}
use Rattle.base.proofs.Integers.{mag-size}
use Rattle.base.proofs.RangeLaws.{back}
use Rattle.lines.specs.Sums.{sum_below}
use Rattle.lines.proofs.SumsLaws.{sum-front}

-- The length of a line that is lifted: even, and not 0.
pub record EvenLength (N : ℕ) : Type 0 where
  pub even : N % 2 ≡ 0
  pub some : 1 ≤ N

-- twice a number that is not 0 is an even length
pub twice-length : (b : ℕ) → 1 ≤ b → EvenLength (2 * b)
twice-length b some = record { even = omega arith; some = omega arith }

-- twice a whole number is even, where it is not below 0
twice-even : (z : ℤ) (n : ℕ) → pos 2 *ℤ z ≡ pos n → n % 2 ≡ 0
twice-even (pos a) n e =
    let same : 2 * a ≡ n = cc in
    omega arith
twice-even (negsuc a) n e =
    let below : negsuc (suc (2 * a)) ≡ pos n = rw (mul-suc, add-two) at e in
    cc

-- and one less is odd
less-odd : (z : ℤ) (n : ℕ) → pos 2 *ℤ z -ℤ pos 1 ≡ pos n → n % 2 ≡ 1
less-odd z n e =
    let twice : pos 2 *ℤ z ≡ pos (suc n) = sym (suc-pred (pos 2 *ℤ z)) ∙ ap suc_ℤ (sym (-ℤ_one (pos 2 *ℤ z)) ∙ e) in
    omega (arith, twice-even z (suc n) twice)

-- a position clamped to a range stays in it, and keeps the parity that it shares with the range's ends
clamped :
    (low high : ℕ) (z : ℤ) → low ≤ high → high % 2 ≡ low % 2 → ((n : ℕ) → z ≡ pos n → n % 2 ≡ low % 2)
    → (clamp low high z ≤ high) × (clamp low high z % 2 ≡ low % 2)
unfolding clamp
clamped low high (pos n) order ends parity = omega (arith, parity n refl)
clamped low high (negsuc n) order ends parity = (order, refl)

-- a step that changes one parity does not change the other
other-parity : (even : Bool) (x : ℕ) → x % 2 ≡ cond even 1 0 → eqb (x % 2) (cond even 0 1) ≡ false
other-parity true x e = ne_eqb (x % 2) 0 (λ q. omega arith)
other-parity false x e = ne_eqb (x % 2) 1 (λ q. omega arith)

-- What a step makes of an element v: changed or not, u added or subtracted.
abbrev stepped : Bool → Bool → ℤ → ℤ → ℤ
stepped changed added v u = cond changed (cond added (v +ℤ u) (v -ℤ u)) v

-- adding and subtracting the same number undo each other
stepped-back : (changed added : Bool) (v u : ℤ) → stepped changed (not added) (stepped changed added v u) u ≡ v
stepped-back true true v u = +ℤ-neg_ℤ_cancel v u
stepped-back true false v u = -ℤ-+ℤ_cancel v u
stepped-back false added v u = refl

-- an element that a step does not change
pub lift-keeps : (s : Step) (N : ℕ) (A : Line) (x : ℕ) → changes s.type x ≡ false → lift s N A x ≡ A x
unfolding lift
lift-keeps s N A x kept = rw kept

-- the exchanged type changes the same elements and adds where the type subtracts; exchanged again, it is the type
exchanged :
    (type : StepType)
    → (changes_even (exchange_type type) ≡ changes_even type) × (adds (exchange_type type) ≡ not (adds type)) × (exchange_type (exchange_type type) ≡ type)
unfolding exchange_type changes_even adds
exchanged type1 = (refl, refl, refl)
exchanged type2 = (refl, refl, refl)
exchanged type3 = (refl, refl, refl)
exchanged type4 = (refl, refl, refl)

-- exchanged twice, a step is the step
exchange-twice : (s : Step) → exchange (exchange s) ≡ s
unfolding exchange
exchange-twice s =
    ap (λ (type : StepType). record { type = type; first = s.first; taps = s.taps; scale = s.scale }) (exchanged s.type).2

-- the exchanged step subtracts what the step adds, and the other way round
lift-exchange :
    (s : Step) (N : ℕ) (A : Line) (x : ℕ)
    → lift (exchange s) N A x ≡ stepped (changes s.type x) (not (adds s.type)) (A x) (update s N A (x / 2))
unfolding lift exchange changes update
lift-exchange s N A x = rw ((exchanged s.type).0, (exchanged s.type).1)

module _ (N : ℕ) (size : EvenLength N) where
  -- a position that is read lies in the line, and has the other parity than the elements changed
  read-position : (even : Bool) (n : ℕ) (i : ℤ) → (read_position even N n i < N) × (read_position even N n i % 2 ≡ cond even 1 0)
  unfolding read_position
  read-position true n i =
      let position = clamped 1 (N - 1) (pos 2 *ℤ (pos n +ℤ i) -ℤ pos 1) (omega arith) (omega arith) (less-odd (pos n +ℤ i)) in
      omega arith
  read-position false n i =
      let position = clamped 0 (N - 2) (pos 2 *ℤ (pos n +ℤ i)) (omega arith) (omega arith) (twice-even (pos n +ℤ i)) in
      omega arith

  -- so the step does not change it
  read-unchanged : (type : StepType) (n : ℕ) (i : ℤ) → changes type (read_position (changes_even type) N n i) ≡ false
  unfolding changes
  read-unchanged type n i =
      other-parity (changes_even type) (read_position (changes_even type) N n i) (read-position (changes_even type) n i).1

  -- Two lines that agree at the elements that a step does not change.
  module _ (s : Step) (A B : Line) (agree : (x : ℕ) → x < N → changes s.type x ≡ false → A x ≡ B x) where
    -- the step's sums are the same
    sum_same :
        (n : ℕ) (i : ℤ) (taps : List ℤ)
        → tap_sum (changes_even s.type) N A n i taps ≡ tap_sum (changes_even s.type) N B n i taps
    unfolding tap_sum
    sum_same n i [] = refl
    sum_same n i (t ∷ ts) =
        let position = read_position (changes_even s.type) N n i in
        let read : A position ≡ B position = agree position (read-position (changes_even s.type) n i).0 (read-unchanged s.type n i) in
        rw (read, sum_same n (i +ℤ pos 1) ts)

    -- and so is what it adds or subtracts
    update_same : (n : ℕ) → update s N A n ≡ update s N B n
    unfolding update
    update_same n = rw (sum_same n s.first s.taps)

  -- lines that agree at an element, and at the elements that a step does not change, agree there after it
  pub lift-at :
      (s : Step) (A B : Line)
      → ((x : ℕ) → x < N → changes s.type x ≡ false → A x ≡ B x)
      → (x : ℕ) → A x ≡ B x → lift s N A x ≡ lift s N B x
  unfolding lift
  lift-at s A B agree x here = rw (here, update_same s A B agree (x / 2))

  -- lines that agree in their length agree after a step
  pub lift-same : (s : Step) (A B : Line) → ((x : ℕ) → x < N → A x ≡ B x) → (x : ℕ) → x < N → lift s N A x ≡ lift s N B x
  lift-same s A B agree x inside = lift-at s A B (λ y below kept. agree y below) x (agree x inside)

  -- the exchanged step undoes a step, at every element
  pub exchange-undoes : (s : Step) (A : Line) (x : ℕ) → lift (exchange s) N (lift s N A) x ≡ A x
  unfolding lift
  exchange-undoes s A x =
      let updates = update_same s (lift s N A) A (λ y below kept. lift-keeps s N A y kept) (x / 2) in
      lift-exchange s N (lift s N A) x
      ∙ rw updates (stepped-back (changes s.type x) (adds s.type) (A x) (update s N A (x / 2)))

  -- and a step undoes the exchanged one
  pub undoes-exchange : (s : Step) (A : Line) (x : ℕ) → lift s N (lift (exchange s) N A) x ≡ A x
  undoes-exchange s A x =
      subst (λ (t : Step). lift t N (lift (exchange s) N A) x ≡ A x) (exchange-twice s) (exchange-undoes (exchange s) A x)

-- one offset on, and then t more
next-offset : (i : ℤ) (t : ℕ) → i +ℤ pos 1 +ℤ pos t ≡ i +ℤ pos (suc t)
next-offset i t = +ℤ_assoc i (pos 1) (pos t) ∙ rw one-add

-- document 01's sum, tap by tap
pub tap-sum :
    (even : Bool) (N : ℕ) (A : Line) (n : ℕ) (i : ℤ) (taps : List ℤ)
    → tap_sum even N A n i taps ≡ sum_below (λ t. get_or taps t (pos 0) *ℤ A (read_position even N n (i +ℤ pos t))) (length taps)
unfolding tap_sum sum_below
tap-sum even N A n i [] = refl
tap-sum even N A n i (x ∷ xs) =
    rw (tap-sum even N A n (i +ℤ pos 1) xs)
    (sym
    (sum-front (λ t. get_or (x ∷ xs) t (pos 0) *ℤ A (read_position even N n (i +ℤ pos t))) (length xs)
    ∙ simp (+ℤ_idr, next-offset)))

-- a small power of two, as the code makes it, and as document 01 says it
pub power_small : (x : ℕ) → x < 12 → 2 ^ x < 2 ^ 12
power_small x h = pow-lt h

pub shifted_one : (x : ℕ) → x < 12 → 1 * 2 ^ x % 2 ^ 64 ≡ 2 ^ x
shifted_one x h = rw one-mul (mod-eq_of_lt (omega (arith, power_small x h)))

pub rounding-power : (s : ℕ) → 1 ≤ s → rounding s ≡ pos (2 ^ (s - 1))
unfolding rounding
rounding-power zero h = absurd (omega arith)
rounding-power (suc s) h = ap (λ n. pos (2 ^ n)) (omega arith)

-- the rounding of a scale is small, and so it is what its bits say
pub rounding-most : (s : ℕ) → s ≤ 12 → nat_abs (rounding s) ≤ 2 ^ 11
unfolding rounding
rounding-most zero h = lit≤ tt
rounding-most (suc s) h = pow_mono {i = s} {j = 11} (omega arith)

pub rounding-back : (s : ℕ) (z : ℤ) → s ≤ 12 → z ≡ rounding s → to_z w64 (of_z w64 z) ≡ rounding s
rounding-back s z h e = rw e (back w64 (rounding s) (omega (arith, mag-size (rounding s), rounding-most s h)))
