use mathlib.Core.Path.{◌≡◌, sym, ◌∙◌}
use native.Mathlib.Omega.{arith}
use Rattle.base.proofs.EveryLaws.{all_none, all_more, all-not}
use Rattle.base.proofs.Booleans.{and-true}
use Rattle.contents.specs.Table.{length_at, entry_is_right}
use Rattle.contents.proofs.TableLaws.{first_body, next-body}
use Rattle.contents.proofs.table.bodies_are_right.Goals as goal
use Rattle.contents.proofs.table.bodies_are_right.Goals.{After-four_bytes_at-end}

pub loop-k-init : goal.loop-k-init
loop-k-init c =
    let file = c.args.file.now in
    (omega (arith, first_body file), omega arith, all_none (entry_is_right file))

pub returns-then-not-entry_is_right : goal.returns-then-not-entry_is_right
returns-then-not-entry_is_right c =
    rw (all-not (entry_is_right c.args.file.now) c.args.count c.loop-k.k (omega arith)
    (sym c.entry_is_right.ensures ∙ c.if-not-entry_is_right.true))

-- the number that was added is the body's length
length-read : (c : After-four_bytes_at-end) →
    c.four_bytes_at-end.result ≡ length_at c.args.file.now c.loop-k.k
unfolding length_at
length-read c = rw c.entry_offset.ensures at c.four_bytes_at-end.ensures.0

pub loop-k-preserved : goal.loop-k-preserved
loop-k-preserved c =
    let file = c.args.file.now in
    let passed = sym c.entry_is_right.ensures ∙ c.if-not-entry_is_right.false in (
      omega (arith, length-read (goal.at.loop-k-preserved c).After-four_bytes_at-end, next-body file c.loop-k.k),
      omega arith,
      all_more (entry_is_right file) c.loop-k.k
          ∙ and-true _ _ c.loop-k.invariant.2 passed,
    )
