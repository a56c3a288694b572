-- A number that ends within bytes is the same whatever follows them.
-- Assumes nothing.
use mathlib.Core.Path.{◌≡◌, sym, ap, ◌∙◌}
use mathlib.Core.Bool.{Bool, true, false}
use mathlib.Core.List.{List, ◌++◌}
use Prim.Native.Nat.{ℕ, ◌+◌, ◌-◌, ◌*◌, ◌/◌, ◌%◌, ◌^◌, ◌≤◌, ◌<◌, min}
use native.Mathlib.Omega.{arith}
use lib.ListN.{length, length-append, get_or-append}
use borrow.Author.Tests.{lt-ltb}
use Rattle.exp_golomb.specs.Bits.{Taken, bit_at, present, take_bit}
use Rattle.exp_golomb.specs.Codes.{Read, unsigned}
use Rattle.exp_golomb.proofs.BitsLaws.{take-present, unstated-taken}
use Rattle.exp_golomb.proofs.Moved.{unsigned-moved-upto}

-- a bit of bytes that are followed by others
bit-before : (used tail : List ℕ) (k : ℕ) → k < 8 * length used → take_bit (used ++ tail) (8 * length (used ++ tail)) false k ≡ Taken (bit_at used k) (k + 1)
unfolding present bit_at
bit-before used tail k before =
    let long = length-append used tail in
    let there : present (used ++ tail) (8 * length (used ++ tail)) k ≡ true = lt-ltb k (min (8 * length (used ++ tail)) (8 * length (used ++ tail))) (omega arith) in
    take-present (used ++ tail) (8 * length (used ++ tail)) k false there
    ∙ ap (λ (byte : ℕ). Taken (byte / 2 ^ (7 - k % 8) % 2) (k + 1)) (get_or-append used tail 0 (k / 8) (omega arith))

-- so a number that ends within bytes is the same whatever follows them
pub number-followed : (used a b : List ℕ) (i size : ℕ) (minus : Bool) (next : ℕ) → next ≤ 8 * length used →
    unsigned (used ++ a) (8 * length (used ++ a)) false i ≡ Read size minus next → unsigned (used ++ b) (8 * length (used ++ b)) false i ≡ Read size minus next
number-followed used a b i size minus next inside read =
    unsigned-moved-upto (λ k. k) next
    (record { bytes = used ++ a; end = 8 * length (used ++ a); stated = false })
    (record { bytes = used ++ b; end = 8 * length (used ++ b); stated = false })
    (λ k bit after within e.
    let further = (unstated-taken (used ++ a) (8 * length (used ++ a)) k bit after e).2 in
    bit-before used b k (omega arith) ∙ sym (bit-before used a k (omega arith)) ∙ e)
    i (Read size minus next) read tt (omega arith)
