use mathlib.Core.Path.{◌≡◌, refl}
use Prim.Native.Nat.{ℕ, ◌+◌}
use native.Mathlib.Nat.{add-zero}
use native.Mathlib.Omega.{arith}
use borrow.Author.Count.{below_more}
use lib.ListN.{get_or, set, length-set}
use lib.Seq.{get_or-set_same, get_or-set_other}
use Rattle.filters.specs.Table.{StepAt}
use Rattle.filters.specs.declared.filter.LiftingStep.{LiftingStep}
use Rattle.filters.proofs.TableLaws.{row-record}
use Rattle.filters.proofs.table.steps_from.Goals as goal

pub record_of-first-requires : goal.record_of-first-requires
record_of-first-requires c =
    let row = c.table_steps-table.ensures.each c.args.start _ (omega arith) in
    (row.small_first, row.well_formed)

pub loop-k-init : goal.loop-k-init
loop-k-init c = (
  refl,
  λ k other h.
      let first : k ≡ 0 = omega arith in
      rw (first, add-zero) (row-record _ _ (c.table_steps-table.ensures.each c.args.start _ (omega arith)) _ c.record_of-first.ensures),
)

pub record_of-step-requires : goal.record_of-step-requires
record_of-step-requires c =
    let row = c.table_steps-table.ensures.each (c.args.start + c.loop-k.k) _ (omega arith) in
    (row.small_first, row.well_formed)

pub loop-k-preserved : goal.loop-k-preserved
loop-k-preserved c =
    let start = c.args.start in
    let steps = c.loop-k.steps in
    let k = c.loop-k.k in
    let step = c.record_of-step.result in (
      simp length-set c.loop-k.invariant.0,
      λ i other h.
          below_more (λ (i : ℕ). (other : LiftingStep) → StepAt (start + i) (get_or (set steps k step) i other)) k
          (λ i h other. rw (get_or-set_other steps k i step other (omega arith)) (c.loop-k.invariant.1 i other h))
          (λ other.
          rw (get_or-set_same steps k step other (omega arith))
          (row-record (start + k) _ (c.table_steps-table.ensures.each (start + k) _ (omega arith)) step c.record_of-step.ensures))
          i h other,
    )

pub returns : goal.returns
returns c = (λ k other h. c.loop-k.invariant.1 k other (omega arith), c.loop-k.invariant.0)
