-- `lookups::is_window` meets its contract: the tests are the two bounds.
use mathlib.Core.Path.{sym, ◌∙◌}
use native.Mathlib.Omega.{arith}
use borrow.Author.Tests.{leb-true, leb-false}
use Rattle.lookups.proofs.WindowsLaws.{window-first, window-past}
use Rattle.lookups.proofs.is_window.Goals as goal
use Rattle.lookups.proofs.is_window.Goals.{then-end-ge56, else-end-ge56}

pub returns-then-at-end : goal.returns-then-at-end
returns-then-at-end c =
    elim c.if-end-ge56.branch [
      | then-end-ge56 w ↦ window-first _ _ _ (omega (arith, leb-true _ _ (sym w.value-is ∙ c.if-at-end.true)))
      | else-end-ge56 w ↦ absurd (omega (arith, leb-true _ _ (sym w.value-is ∙ c.if-at-end.true)))
    ]

pub returns-else-at-end : goal.returns-else-at-end
returns-else-at-end c =
    elim c.if-end-ge56.branch [
      | then-end-ge56 w ↦ c.if-at-end.false ∙ sym (window-past _ _ _ (omega (arith, leb-false _ _ (sym w.value-is ∙ c.if-at-end.false))))
      | else-end-ge56 w ↦ c.if-at-end.false ∙ sym (window-past _ _ _ (omega arith))
    ]
