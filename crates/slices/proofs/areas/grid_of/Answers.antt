-- `slices::areas::grid_of` meets its contract: the sizes are padded.
use Rattle.slices.proofs.AreasLaws.{grid-is, grid-whole}
use Rattle.slices.proofs.areas.grid_of.Goals as goal

pub returns : goal.returns
returns c =
    let w = c.padded_size.ensures in
    let h = c.padded_size-2.ensures in
    (grid-is c.args.p _ _ _ _ w h, grid-whole c.args.p _ _ _ _ w h c.requires.0 c.requires.1 c.requires.2)
