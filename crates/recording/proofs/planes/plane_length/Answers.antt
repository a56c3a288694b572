-- `recording::planes::plane_length` meets its contract: an entry that is decoded has a padded area.
use mathlib.Core.Path.{sym, ◌∙◌}
use Rattle.recording.proofs.OutputLaws.{fits-sizes, fits-depth}
use Rattle.recording.proofs.planes.plane_length.Goals as goal

pub padded_area-requires : goal.padded_area-requires
padded_area-requires c =
    let fits = sym c.fits_program.ensures ∙ c.if-fits_program.true in
    (fits-sizes _ fits, fits-depth _ fits)
