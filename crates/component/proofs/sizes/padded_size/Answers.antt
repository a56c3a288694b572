-- `component::sizes::padded_size` meets its contract: it is the next multiple of 2^depth, which is at most 16.
use mathlib.Core.Path.{◌∙◌}
use Rattle.component.proofs.SizesLaws.{power, padded-next}
use Rattle.component.proofs.sizes.padded_size.Goals as goal

pub returns : goal.returns
returns c =
    rw (power c.args.depth c.requires.0) at c.next_multiple_of.ensures.value
    ∙ padded-next c.args.depth c.requires.0 c.args.size
