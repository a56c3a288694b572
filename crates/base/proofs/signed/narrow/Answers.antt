-- `base::signed::narrow` meets its contract: the caller has shown that the number fits.
use mir.Syntax.{w32, w64}
use Rattle.base.proofs.RangeLaws.{back, fits32-below}
use Rattle.base.proofs.signed.narrow.Goals as goal

pub overflow_cast-result : goal.overflow_cast-result
overflow_cast-result c = rw (back w64 c.args.x c.ranges.x.sfits) (record { sfits = fits32-below c.args.x c.requires })

pub returns : goal.returns
returns c = rw (back w64 c.args.x c.ranges.x.sfits) (back w32 c.args.x (fits32-below c.args.x c.requires))
