-- `base::plane::zero_part` meets its contract: the part is overwritten whole, with zeros.
use mathlib.Core.Path.{◌∙◌}
use Prim.Native.Nat.{◌+◌}
use native.Mathlib.Omega.{arith}
use lib.IntN.{pos}
use lib.ListN.{get_or-replicate}
use Rattle.std.proofs.lemmas.List.Edits.{length-between}
use Rattle.base.proofs.FillLaws.{fill-part}
use Rattle.base.proofs.plane.zero_part.Goals as goal

pub returns : goal.returns
returns c =
    let n = c.args.n in
    let whole = length-between c.args.plane.now c.args.index (c.args.index + n) c.requires in
    fill-part _ _ _ (pos 0) n _ (c.fill.ensures.len ∙ whole) c.requires
    (λ k h. rw (c.fill.ensures.after (λ y same. same)) (get_or-replicate _ k (pos 0) (pos 0) (omega (arith, whole))))
