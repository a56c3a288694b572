-- `unpack::header::read_header` meets its contract: its numbers are those of the definition, since their end is out of reach, and each way on
-- is a law of the header.
use mathlib.Core.Path.{◌≡◌, sym, ◌∙◌}
use mathlib.Core.Bool.{false}
use mathlib.Core.List.{List}
use Prim.Native.Nat.{ℕ, ◌*◌, ◌^◌, ◌<◌, min}
use native.Mathlib.Omega.{arith}
use lib.ListN.{length}
use Rattle.std.specs.Prelude.{Ok}
use Rattle.std.proofs.lemmas.Result.{err_from_is_err_and}
use Rattle.exp_golomb.specs.Codes.{Number, Read, result_of, unsigned}
use Rattle.exp_golomb.specs.declared.codes.ReadNumber.{ReadNumber}
use Rattle.exp_golomb.proofs.CodesLaws.{result-read, result-fault}
use Rattle.exp_golomb.proofs.Extent.{CodeEnd, unsigned-end}
use Rattle.unpack.proofs.HeaderLaws.{number-open, fault-refused, no_length, no-data, no_index, header_read}
use Rattle.unpack.proofs.header.read_header.Goals as goal

-- the number at a bit, with an end out of its reach; and as the definition has it
abbrev open_at : List ℕ → ℕ → Number
open_at bytes = unsigned bytes 18446744073709551615 false

abbrev number_at : List ℕ → ℕ → Number
number_at bytes = unsigned bytes (8 * length bytes) false

same : (bytes : List ℕ) (at : ℕ) → at < 2 ^ 63 → open_at bytes at ≡ number_at bytes at
same bytes at small = number-open bytes 18446744073709551615 at (omega arith)

-- a number that was read
known : (bytes : List ℕ) (at : ℕ) (n : ReadNumber) → at < 2 ^ 63 → Ok n ≡ result_of (open_at bytes at) → number_at bytes at ≡ Read n.size n.minus n.next
known bytes at n small e = sym (same bytes at small) ∙ result-read _ _ e

-- and how far it reaches
reach : (bytes : List ℕ) (at : ℕ) (n : ReadNumber) → at < 2 ^ 63 → Ok n ≡ result_of (open_at bytes at) →
    CodeEnd at 31 (min (8 * length bytes) (8 * length bytes)) n.next
reach bytes at n small e = unsigned-end _ _ _ _ _ _ _ (known bytes at n small e)

pub returns-in_err-length : goal.returns-in_err-length
returns-in_err-length c =
    let p = err_from_is_err_and c.from_residual.result c.from_residual.ensures.1 in
    let e = c.in_err-length.ensures in
    rw (p.1, p.2)
    (fault-refused _ _ e
    ∙ sym (no_length _ _ _ (same c.args.bytes.now c.args.at (omega arith)) (result-fault _ _ e).2))

pub boundary-requires : goal.boundary-requires
boundary-requires c = omega (arith, (reach c.args.bytes.now c.args.at _ (omega arith) c.in_ok-length.ensures).bits_most)

pub returns-then-length-eq0 : goal.returns-then-length-eq0
returns-then-length-eq0 c =
    rw c.boundary.ensures (sym (no-data _ _ _ _ _ (known c.args.bytes.now c.args.at _ (omega arith) c.in_ok-length.ensures) c.if-length-eq0.true))

pub returns-in_err-index : goal.returns-in_err-index
returns-in_err-index c =
    let p = err_from_is_err_and c.from_residual-in_err-index.result c.from_residual-in_err-index.ensures.1 in
    let e = c.in_err-index.ensures in
    let r = reach c.args.bytes.now c.args.at _ (omega arith) c.in_ok-length.ensures in
    rw (p.1, p.2)
    (fault-refused _ _ e
    ∙ sym (no_index _ _ _ _ _ (known c.args.bytes.now c.args.at _ (omega arith) c.in_ok-length.ensures) c.if-length-eq0.false _
    (same c.args.bytes.now _ (omega (arith, r.bits_most))) (result-fault _ _ e).2))

pub boundary-requires-2 : goal.boundary-requires-2
boundary-requires-2 c =
    let r = reach c.args.bytes.now c.args.at _ (omega arith) c.in_ok-length.ensures in
    omega (arith, r.bits_most, (reach c.args.bytes.now _ _ (omega (arith, r.bits_most)) c.in_ok-index.ensures).bits_most)

pub returns : goal.returns
returns c =
    let r = reach c.args.bytes.now c.args.at _ (omega arith) c.in_ok-length.ensures in
    rw c.boundary-2.ensures
    (sym (header_read _ _ _ _ _ (known c.args.bytes.now c.args.at _ (omega arith) c.in_ok-length.ensures) c.if-length-eq0.false _ _ _
    (known c.args.bytes.now _ _ (omega (arith, r.bits_most)) c.in_ok-index.ensures)))
