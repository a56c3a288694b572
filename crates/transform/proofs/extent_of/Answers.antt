-- `transform::extent_of` meets its contract: each field is what a callee says of it.
use native.Mathlib.Omega.{arith}
use Rattle.component.proofs.ChecksLaws.{width_most, height_most, depth_most}
use Rattle.transform.specs.Geometry.{extent_of}
use Rattle.transform.proofs.extent_of.Goals as goal

pub padded_size-padded_width-requires : goal.padded_size-padded_width-requires
padded_size-padded_width-requires c =
    (depth_most c.args.p c.requires.1, width_most c.args.p c.requires.0)

pub padded_size-padded_height-requires : goal.padded_size-padded_height-requires
padded_size-padded_height-requires c =
    (depth_most c.args.p c.requires.1, height_most c.args.p c.requires.0)

pub band_size-requires : goal.band_size-requires
band_size-requires c =
    (depth_most c.args.p c.requires.1, omega arith)

pub band_size-requires-2 : goal.band_size-requires-2
band_size-requires-2 c =
    (depth_most c.args.p c.requires.1, omega arith)

pub returns : goal.returns
unfolding extent_of
returns c =
    rw (c.band_size-2.ensures, c.band_size.ensures, c.padded_size-padded_height.ensures, c.padded_size-padded_width.ensures)
