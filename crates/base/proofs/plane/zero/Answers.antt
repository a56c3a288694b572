-- `base::plane::zero` meets its contract: a filled plane holds the number again and again.
use Rattle.base.specs.Lists.{zeros_like}
use Rattle.base.proofs.plane.zero.Goals as goal

pub returns : goal.returns
unfolding zeros_like
returns c = c.fill.ensures.after (λ y same. same)
