-- Laws of a size divided into parts: where they start and end, and that each position lies in exactly one of them.
-- Assumes nothing.
use mathlib.Core.Path.{◌≡◌, ap}
use Prim.Native.Nat.{ℕ, zero, suc, ◌*◌, ◌≤◌, ◌<◌}
use native.Mathlib.Decide.{dec_lt}
use native.Mathlib.Nat.{mul-le-mul_left, mul-zero, zero-div, mul-div_cancel, div-mul-le_self, le-div_iff_mul-le, le_trans}
use native.Mathlib.Omega.{arith}
use Rattle.component.specs.Partition.{part_start}

-- a size divided into so many parts
module _ (size count : ℕ) where
  -- the first one starts at the start
  pub part-start-none : part_start size count 0 ≡ 0
  unfolding part_start
  part-start-none = rw (mul-zero size) (zero-div count)

  module _ (some : 1 ≤ count) where
    -- a later one starts no earlier
    pub part-start-grows : (x y : ℕ) → x ≤ y → part_start size count x ≤ part_start size count y
    unfolding part_start
    part-start-grows x y h =
        (le-div_iff_mul-le some).1 (le_trans (div-mul-le_self (size * x) count) (mul-le-mul_left size h))

    -- and the one after the last at the end
    pub part-start-all : part_start size count count ≡ size
    unfolding part_start
    part-start-all = mul-div_cancel size some

    -- each ends no later than all
    pub part-end-most : (x : ℕ) → x < count → part_start size count (suc x) ≤ size
    part-end-most x h = rw part-start-all at (part-start-grows (suc x) count h)

-- exactly one step below n of a sequence has the position
pub record ExactlyOneStep (f : ℕ → ℕ) (n position : ℕ) : Type 0 where
  pub index : ℕ
  pub counted : index < n
  pub from : f index ≤ position
  pub before : position < f (suc index)
  pub alone : (j : ℕ) → j < n → f j ≤ position → position < f (suc j) → j ≡ index

-- as it is where the sequence starts at 0, does not fall, and comes past the position
pub one-step : (f : ℕ → ℕ) → f 0 ≡ 0 → ((i j : ℕ) → i ≤ j → f i ≤ f j) → (n position : ℕ) → position < f n → ExactlyOneStep f n position
one-step f starts grows zero position below = absurd (omega arith)
one-step f starts grows (suc n) position below =
    elim (dec_lt position (f n)) [
      | yes earlier ↦
          let one = one-step f starts grows n position earlier in
          record {
            index = one.index;
            counted = omega (arith, one.counted);
            from = one.from;
            before = one.before;
            alone = λ j h from before.
                elim (dec_lt j n) [
                  | yes old ↦ one.alone j old from before
                  | no last ↦
                      let here : j ≡ n = omega arith in
                      absurd (omega (arith, ap f here))
                ];
          }
      | no later ↦
          record {
            index = n;
            counted = omega arith;
            from = omega arith;
            before = below;
            alone = λ j h from before.
                elim (dec_lt j n) [
                  | yes old ↦ absurd (omega (arith, grows (suc j) n old))
                  | no last ↦ omega arith
                ];
          }
    ]

-- a position of a row or a column lies in exactly one part of it
pub parts-tile : (size count position : ℕ) → 1 ≤ count → position < size → ExactlyOneStep (part_start size count) count position
parts-tile size count position some inside =
    one-step (part_start size count) (part-start-none size count) (part-start-grows size count some) count position
    (rw (part-start-all size count some) inside)
