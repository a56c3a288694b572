use mathlib.Core.Path.{◌≡◌, sym, ◌∙◌}
use Prim.Native.Nat.{suc, ◌+◌}
use native.Mathlib.Omega.{arith}
use Rattle.base.proofs.EveryLaws.{all_none, all_more, all-not}
use Rattle.base.proofs.Booleans.{and-true}
use Rattle.component.specs.Checks.{counts_in_range, codeblocks_in_range}
use Rattle.component.proofs.ChecksLaws.{depth_most}
use Rattle.component.proofs.checks.codeblocks_in_range.Goals as goal

pub loop-level-init : goal.loop-level-init
loop-level-init c = (depth_most c.args.p c.requires, all_none _)

pub returns-then-not-counts_in_range : goal.returns-then-not-counts_in_range
unfolding codeblocks_in_range counts_in_range
returns-then-not-counts_in_range c =
    sym (all-not _ (suc _) c.loop-level.level (omega arith) (sym c.counts_in_range.ensures ∙ c.if-not-counts_in_range.true))

pub loop-level-preserved : goal.loop-level-preserved
unfolding counts_in_range
loop-level-preserved c = (
  c.loop-level.invariant.0,
  all_more _ c.loop-level.level ∙ and-true _ _ c.loop-level.invariant.1 (sym c.counts_in_range.ensures ∙ c.if-not-counts_in_range.false),
)

pub returns-else-not-counts_in_range : goal.returns-else-not-counts_in_range
unfolding codeblocks_in_range counts_in_range
returns-else-not-counts_in_range c =
    let last : suc c.args.p.depth ≡ c.loop-level.level + 1 = omega arith in
    sym (rw last (all_more _ c.loop-level.level ∙ and-true _ _ c.loop-level.invariant.1 (sym c.counts_in_range.ensures ∙ c.if-not-counts_in_range.false)))
