use mathlib.Core.Path.{◌≡◌, refl, sym}
use mathlib.Core.List.{List}
use Prim.Native.Nat.{ℕ, ◌+◌, ◌*◌, ◌/◌, ◌^◌, ◌≤◌, ◌<◌}
use native.Mathlib.Omega.{arith}
use lib.ListN.{length, get_or}
use lib.Pow.{pow_mono}
use Rattle.std.proofs.lemmas.List.{length-drop, get_or-drop, take_rest}
use Rattle.exp_golomb.specs.Bits.{bits_from}
use Rattle.lookups.proofs.WindowsLaws.{bits_small}
use Rattle.runs.proofs.PaddedLaws.{bits-more, shows-last}
use Rattle.runs.proofs.padded.few_bytes.Goals as goal
use Rattle.runs.proofs.padded.few_bytes.Goals.{In-loop-byte}

-- no bits, and those of at most six bytes
bits_none : (bytes : List ℕ) (i : ℕ) → bits_from bytes i 0 ≡ 0
unfolding bits_from
bits_none bytes i = refl

pub loop-byte-init : goal.loop-byte-init
loop-byte-init c = sym (bits_none _ _)

few : (c : In-loop-byte) → c.loop-byte.w < 2 ^ 48
few c =
    let bits = 8 * c.loop-byte.byte-index in
    let small : bits ≤ 48 = omega (arith, rw (take_rest, length-drop) at c.loop-byte-test.true) in
    rw c.loop-byte.invariant
    (omega (arith, bits_small c.args.bytes.now (8 * (c.args.at / 8)) bits, pow_mono {i = bits} {j = 48} small))

pub overflow_mul-w : goal.overflow_mul-w
overflow_mul-w c = omega (arith, few (goal.at.overflow_mul-w c).In-loop-byte)

pub overflow_add-w : goal.overflow_add-w
overflow_add-w c = omega (arith, few (goal.at.overflow_add-w c).In-loop-byte)

pub loop-byte-preserved : goal.loop-byte-preserved
loop-byte-preserved c =
    let i = c.args.at / 8 in
    let k = c.loop-byte.byte-index in
    let byte : c.from.result ≡ get_or c.args.bytes.now (i + k) 0 = rw (take_rest, get_or-drop) at c.from.ensures in
    let more : 8 * k + 8 ≡ 8 * (k + 1) = omega arith in
    rw (c.loop-byte.invariant, ← more)
    (bits-more _ (8 * i) (8 * k) (i + k) _ (omega arith) byte (omega arith))

pub returns : goal.returns
returns c =
    let k = c.loop-byte.byte-index in
    let most = rw (take_rest, length-drop) at c.loop-byte.auto.byte-index-end in
    let least = rw (take_rest, length-drop) at c.loop-byte-test.false in
    let all : c.args.at / 8 + k ≡ length c.args.bytes.now = omega (arith, most, least) in
    shows-last _ (8 * (c.args.at / 8)) (8 * k) c.args.at _ _ (omega arith) (omega arith) (omega arith) c.loop-byte.invariant (omega arith)
