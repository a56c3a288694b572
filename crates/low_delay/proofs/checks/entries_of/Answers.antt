-- `low_delay::checks::entries_of` meets its contract: the padded sizes are at most 4096.
use Rattle.low_delay.proofs.checks.entries_of.Goals as goal

pub returns : goal.returns
returns c = rw c.grid_of-g.ensures.0
