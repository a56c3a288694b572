-- `unpack::data::Reader::read_subband` meets its contract: each way on after the header and the data is a law of `subband`.
use mathlib.Core.Path.{◌≡◌, refl, sym, ◌∙◌, subst}
use Rattle.std.proofs.lemmas.Result.{err_from_is_err_and}
use Rattle.coefficients.specs.Values.{after}
use Rattle.codeblocks.specs.Blocks.{Placed}
use Rattle.codeblocks.specs.declared.CodeblockGrid.{CodeblockGrid}
use Rattle.unpack.specs.Subband.{headed, subband_from}
use Rattle.unpack.specs.Bounds.{ClearBand}
use Rattle.unpack.proofs.HeaderLaws.{header-sound}
use Rattle.unpack.proofs.SubbandLaws.{codeblocks-placed, subband-stops, not_first, not-intra, first-intra}
use Rattle.unpack.proofs.data.Reader.read_subband.Goals as goal
use Rattle.unpack.proofs.data.Reader.read_subband.Goals.{After-read_headed, then-k-ne0-via-then-k-ne0, then-k-ne0-via-else-k-ne0+then-not-self}

pub read_headed-requires : goal.read_headed-requires
read_headed-requires c =
    let plane = c.args.plane.now in
    let is = sym c.codeblocks_of-blocks.ensures in (
      subst (λ (b : CodeblockGrid). Placed b plane) is (codeblocks-placed c.args.self.p c.args.self.checked c.args.k c.requires.0 plane c.requires.1),
      subst (λ (b : CodeblockGrid). ClearBand b plane) is c.requires.2,
      rw c.in_ok-header.ensures (header-sound _ _ c.requires.3),
    )

-- the run that a header leaves which was not read
pub returns-in_err-header : goal.returns-in_err-header
unfolding subband_from headed
returns-in_err-header c =
    let p = err_from_is_err_and c.from_residual.result c.from_residual.ensures.1 in
    rw (p.1, p.2) (subband-stops _ _ _ _ _ _ _ _ (rw (← c.in_err-header.ensures) refl))

-- the run that header and data left
read : (c : After-read_headed) →
    after c.read_headed.result c.read_headed.new.plane ≡ subband_from c.args.self.p c.args.self.bytes.now c.args.k c.args.at c.args.plane.now
unfolding subband_from
read c = c.read_headed.ensures ∙ rw (c.codeblocks_of-blocks.ensures, c.in_ok-header.ensures) refl

pub returns-in_err-bit : goal.returns-in_err-bit
returns-in_err-bit c =
    let p = err_from_is_err_and c.from_residual-in_err-bit.result c.from_residual-in_err-bit.ensures.1 in
    rw (p.1, p.2) (subband-stops _ _ _ _ _ _ _ _ (rw c.in_err-bit.was at (read (goal.at.returns-in_err-bit c).After-read_headed)))

pub returns-then-k-ne0 : goal.returns-then-k-ne0
returns-then-k-ne0 c =
    let run = rw c.in_ok-bit.was at (read (goal.at.returns-then-k-ne0 c).After-read_headed) in
    elim c.then-k-ne0.branch [
      | then-k-ne0-via-then-k-ne0 w ↦ not_first _ _ _ _ _ _ w.if-k-ne0.true run
      | then-k-ne0-via-else-k-ne0+then-not-self w ↦ not-intra _ _ _ _ _ _ w.if-not-self.true run
    ]

pub predict_band-requires : goal.predict_band-requires
predict_band-requires c =
    subst (λ (b : CodeblockGrid). Placed b c.read_headed.new.plane) (sym c.codeblocks_of-blocks.ensures)
    (codeblocks-placed c.args.self.p c.args.self.checked c.args.k c.requires.0 c.read_headed.new.plane (c.read_headed.auto.plane ∙ c.requires.1))

pub returns : goal.returns
returns c =
    c.predict_band.ensures
    ∙ rw c.codeblocks_of-blocks.ensures
    (first-intra _ _ _ _ _ _ _ c.if-k-ne0.false c.if-not-self.false (rw c.in_ok-bit.was at (read (goal.at.returns c).After-read_headed)))
