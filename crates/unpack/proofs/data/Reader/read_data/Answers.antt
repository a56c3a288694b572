-- `unpack::data::Reader::read_data` meets its contract: all codeblocks are read from the part of the bytes that the length states, since past
-- data of a stated length no bit is missing.
use mathlib.Core.Path.{◌≡◌, refl, ap, ◌∙◌}
use Prim.Native.Nat.{ℕ, ◌+◌, ◌-◌, ◌*◌, ◌/◌}
use native.Mathlib.Omega.{arith}
use lib.ListN.{take, drop}
use Rattle.std.proofs.lemmas.Result.{err_from_is_err_and}
use Rattle.coefficients.specs.Scaling.{scale_of}
use Rattle.coefficients.specs.Reading.{Run, goes_on}
use Rattle.coefficients.specs.Values.{after}
use Rattle.codeblocks.specs.Codeblocks.{codeblocks}
use Rattle.codeblocks.proofs.CodeblocksLaws.{clear-blocks}
use Rattle.codeblocks.proofs.RestLaws.{blocks-whole}
use Rattle.unpack.specs.Subband.{subband_data}
use Rattle.unpack.proofs.SubbandLaws.{data-ends, data-stop}
use Rattle.unpack.proofs.data.Reader.read_data.Goals as goal
use Rattle.unpack.proofs.data.Reader.read_data.Goals.{After-read_codeblocks-reached}

pub read_codeblocks-reached-requires : goal.read_codeblocks-reached-requires
read_codeblocks-reached-requires c = (
  c.requires.0,
  omega arith,
  clear-blocks c.args.blocks c.args.plane.now c.requires.0 c.requires.1.each,
  record { before_end = omega arith; small = omega (arith, c.requires.2, c.requires.3) },
)

-- the run that the callee left, as the definition has it
left : (c : After-read_codeblocks-reached) →
    after c.read_codeblocks-reached.result.progress c.read_codeblocks-reached.new.plane ≡
    codeblocks (take c.args.size (drop (c.args.bit / 8) c.args.self.bytes.now)) (8 * c.args.size) c.args.bit (scale_of c.args.q) c.args.blocks (goes_on 0 c.args.plane.now)
left c =
    let size = c.args.size in
    let at = c.args.bit / 8 in
    let read : ℕ → Run = λ n. codeblocks (take n (drop at c.args.self.bytes.now)) (8 * size) c.args.bit (scale_of c.args.q) c.args.blocks (goes_on 0 c.args.plane.now) in
    let whole : at + size - at ≡ size = omega arith in
    blocks-whole _ _ _ _ _ _ _ refl c.read_codeblocks-reached.ensures ∙ ap read whole

pub returns-in_err-reached : goal.returns-in_err-reached
unfolding subband_data
returns-in_err-reached c =
    let p = err_from_is_err_and c.from_residual.result c.from_residual.ensures.1 in
    rw (p.1, p.2) (data-stop _ _ _ _ (rw c.in_err-reached.was at (left (goal.at.returns-in_err-reached c).After-read_codeblocks-reached)))

pub returns : goal.returns
unfolding subband_data
returns c = data-ends _ _ _ _ (rw c.in_ok-reached.was at (left (goal.at.returns c).After-read_codeblocks-reached))
