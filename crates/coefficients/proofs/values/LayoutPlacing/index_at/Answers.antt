-- `coefficients::values::LayoutPlacing::index_at` meets its contract: it computes the definition, and every part of the sum is at most the index.
use mathlib.Core.Path.{◌≡◌, refl}
use Prim.Native.Nat.{ℕ, ◌+◌, ◌*◌, ◌/◌, ◌<◌, ◌^◌}
use native.Mathlib.Nat.{mul-zero, zero-mul}
use native.Mathlib.Omega.{arith}
use Rattle.coefficients.specs.Values.{index_of}
use Rattle.coefficients.proofs.values.LayoutPlacing.index_at.Goals as goal
use Rattle.coefficients.proofs.values.LayoutPlacing.index_at.Goals.{Start}

-- the whole index has room
room : (c : Start) → c.args.self.start + c.args.i + c.args.i * c.args.self.reciprocal / 16777216 * c.args.self.gap < 2 ^ 64
unfolding index_of
room c = c.requires.2

pub overflow_add-result : goal.overflow_add-result
overflow_add-result c = omega (arith, room (goal.at.overflow_add-result c).Start)

-- in a single row values stand side by side
alone : (start i reciprocal gap : ℕ) → reciprocal ≡ 0 → start + i ≡ start + i + i * reciprocal / 16777216 * gap
alone start i reciprocal gap none =
    let row-0 : i * reciprocal ≡ 0 = rw none (mul-zero i) in
    rw row-0 (omega (arith, zero-mul gap))

pub returns-then-self-eq0 : goal.returns-then-self-eq0
unfolding index_of
returns-then-self-eq0 c = alone _ _ _ _ (omega (arith, c.if-self-eq0.true))

pub overflow_add-result-2 : goal.overflow_add-result-2
overflow_add-result-2 c = omega (arith, room (goal.at.overflow_add-result-2 c).Start)

pub overflow_mul-result-2 : goal.overflow_mul-result-2
overflow_mul-result-2 c = omega (arith, room (goal.at.overflow_mul-result-2 c).Start)

pub overflow_add-result-3 : goal.overflow_add-result-3
overflow_add-result-3 c = omega (arith, room (goal.at.overflow_add-result-3 c).Start)

pub returns : goal.returns
unfolding index_of
returns c = refl
