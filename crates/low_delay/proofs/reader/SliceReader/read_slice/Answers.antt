-- `low_delay::reader::SliceReader::read_slice` meets its contract: a slice short of bytes is refused, and so is one that its header refuses.
use mathlib.Core.Path.{◌≡◌, ◌∙◌}
use Prim.Native.Nat.{suc, ◌-◌, ◌≤◌, ◌<◌}
use native.Mathlib.Numerals.{add-one}
use native.Mathlib.Omega.{arith}
use lib.ListN.{length, take, drop}
use Rattle.std.proofs.lemmas.Result.{err_from_is_err_and}
use Rattle.slices.specs.Stores.{planes_behind}
use Rattle.slices.proofs.ReadsLaws.{left-refused}
use Rattle.low_delay.specs.Slices.{slice_start, slice_size}
use Rattle.low_delay.proofs.SlicesLaws.{count_most, size_is, size-most, size-least, start-grows, own-length, slice-short, slice-refused, slice-read}
use Rattle.low_delay.proofs.reader.SliceReader.read_slice.Goals as goal
use Rattle.low_delay.proofs.reader.SliceReader.read_slice.Goals.{After-slice_start-next, Else-self-next, Start}

-- there are no more than 65025 slices
slices-few : (c : Start) → c.args.number < 65025
slices-few c = omega (arith, c.requires.counted, count_most _ c.args.self.checked)

-- where it starts and ends, and that its bytes are there
starts : (c : After-slice_start-next) → c.slice_start-start.result ≡ slice_start c.args.self.p c.args.number
starts c = c.slice_start-start.ensures.0

ends : (c : After-slice_start-next) → c.slice_start-next.result ≡ slice_start c.args.self.p (suc c.args.number)
ends c = rw (add-one c.args.number) at c.slice_start-next.ensures.0

forward : (c : Else-self-next) → c.slice_start-start.result ≤ c.slice_start-next.result
forward c =
    let starts = c.slice_start-start.ensures.0 in
    let ends = rw (add-one c.args.number) at c.slice_start-next.ensures.0 in
    rw (starts, ends) (start-grows c.args.self.p c.args.self.fraction.denominator_least c.args.number (suc c.args.number) (omega arith))

-- its own bytes are as many as the definition says
own_is : (c : Else-self-next) →
    length (take (c.slice_start-next.result - c.slice_start-start.result) (drop c.slice_start-start.result c.args.self.bytes.now))
    ≡ slice_size c.args.self.p c.args.number
own_is c =
    let starts = c.slice_start-start.ensures.0 in
    let ends = rw (add-one c.args.number) at c.slice_start-next.ensures.0 in
    own-length _ c.args.self.bytes.now _ _ _ starts ends (planes_behind c.args.planes.now) (omega (arith, c.if-self-next.false))
    ∙ size_is _ _ _ _ starts ends

pub slice_start-start-requires : goal.slice_start-start-requires
slice_start-start-requires c = (c.args.self.fraction, omega (arith, slices-few (goal.at.slice_start-start-requires c).Start))

pub overflow_add-number : goal.overflow_add-number
overflow_add-number c = omega (arith, slices-few (goal.at.overflow_add-number c).Start)

pub slice_start-next-requires : goal.slice_start-next-requires
slice_start-next-requires c = (c.args.self.fraction, omega (arith, slices-few (goal.at.slice_start-next-requires c).Start))

pub returns-then-self-next-clause-read : goal.returns-then-self-next-clause-read
returns-then-self-next-clause-read c = left-refused _ _ _ _ _ _ (slice-short _ _ _ _ _ (starts (goal.at.returns-then-self-next-clause-read c).After-slice_start-next) (ends (goal.at.returns-then-self-next-clause-read c).After-slice_start-next) _ c.if-self-next.true)

pub slice_bounds-own-count : goal.slice_bounds-own-count
slice_bounds-own-count c = forward (goal.at.slice_bounds-own-count c).Else-self-next

pub slice_bounds-own-start : goal.slice_bounds-own-start
slice_bounds-own-start c = forward (goal.at.slice_bounds-own-start c).Else-self-next

pub read_header-requires : goal.read_header-requires
read_header-requires c =
    let own = own_is (goal.at.read_header-requires c).Else-self-next in
    let sound = c.args.self.fraction in
    let p = c.args.self.p in
    let k = c.args.number in
    (c.args.self.checked, omega (arith, own, size-least p sound.denominator_least sound.denominator_most k), omega (arith, own, size-most p sound.denominator_least k, sound.numerator_most), omega (arith, c.slice_start-start.ensures.1))

pub returns-in_err-header-clause-read : goal.returns-in_err-header-clause-read
returns-in_err-header-clause-read c =
    let refused = err_from_is_err_and c.from_residual.result c.from_residual.ensures.1 in
    rw (refused.1, refused.2)
    (slice-refused _ _ _ _ _ (starts (goal.at.returns-in_err-header-clause-read c).After-slice_start-next) (ends (goal.at.returns-in_err-header-clause-read c).After-slice_start-next) _ (omega (arith, c.if-self-next.false)) _ _ _ _ c.in_err-header.ensures.result_value)

pub returns-clause-read : goal.returns-clause-read
returns-clause-read c =
    slice-read _ _ _ _ _ (starts (goal.at.returns-clause-read c).After-slice_start-next) (ends (goal.at.returns-clause-read c).After-slice_start-next) _ (omega (arith, c.if-self-next.false)) (forward (goal.at.returns-clause-read c).Else-self-next) _ c.in_ok-header.ensures.result_value _ _ _ c.read_parts.ensures.read
