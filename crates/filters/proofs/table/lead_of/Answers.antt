-- `filters::table::lead_of` meets its contract: the sum is small, and its size is what the definition says.
use mathlib.Core.Path.{◌≡◌, refl, ◌∙◌}
use Prim.Native.Nat.{ℕ, ◌≤◌}
use native.Mathlib.Omega.{arith}
use lib.IntN.{ℤ, pos, ◌+ℤ◌}
use lib.Signed.{mag}
use mir.Syntax.{w64}
use mir.Val.{to_z, of_z}
use Rattle.base.proofs.Integers.{mag-size, size-mag, size-add}
use Rattle.base.proofs.RangeLaws.{back}
use Rattle.filters.specs.Table.{lead_of}
use Rattle.filters.proofs.table.lead_of.Goals as goal
use Rattle.filters.proofs.table.lead_of.Goals.{then-even, else-even}

-- a small number with an offset added, as it is computed
added : (first : ℤ) (n : ℕ) → mag first ≤ 2 → n ≤ 4 → to_z w64 (of_z w64 (to_z w64 (of_z w64 first) +ℤ pos n)) ≡ first +ℤ pos n
added first n small few =
    rw (back w64 first (omega (arith, small)))
    (back w64 (first +ℤ pos n) (omega (arith, mag-size (first +ℤ pos n), size-add first (pos n), size-mag first)))

pub returns : goal.returns
unfolding lead_of
returns c =
    let first = c.args.first in
    c.unsigned_abs.ensures.value
    ∙ elim c.if-even.branch [
      | then-even w ↦ rw (w.offset-is, added first 3 c.requires (omega arith), w.if-even.true) refl
      | else-even w ↦ rw (w.offset-is, added first 4 c.requires (omega arith), w.if-even.false) refl
    ]
