use mathlib.Core.Path.{◌≡◌, refl, sym, ◌∙◌}
use mathlib.Core.Bool.{false≢true}
use Prim.Native.Nat.{ℕ, ◌+◌}
use native.Mathlib.Omega.{arith}
use lib.IntN.{ℤ, pos, ◌+ℤ◌, ◌*ℤ◌}
use lib.ListN.{get_or}
use mir.Syntax.{w32}
use mir.Val.{to_z, of_z}
use Rattle.base.proofs.FillLaws.{fill_none}
use Rattle.base.proofs.RangeLaws.{back}
use Rattle.lines.specs.Sums.{new_at}
use Rattle.lifting32.specs.Liftable.{one_sum, lifted_by_one}
use Rattle.lifting32.proofs.LiftableLaws.{outside, next, stored}
use Rattle.lifting32.proofs.loops.lift_one.Goals as goal
use Rattle.lifting32.proofs.loops.lift_one.Goals.{After-lifted, After-lifted-arg-1, After-struct_told-1, After-with_product-arg-1, After-with_product-sum, In-loop-x, Start}

pub loop-x-init : goal.loop-x-init
loop-x-init c = sym (fill_none _ _ _)

-- the call's start, the turn's entry, and the arguments as they are handed on
abbrev begin : In-loop-x → Start
begin t = t.before.before.before

abbrev at : In-loop-x → ℕ
at t = t.loop-x.x

round : (t : After-struct_told-1) → to_z w32 (of_z w32 t.args.line.round) ≡ t.args.line.round
round t = back w32 _ t.struct_told-1.given.1.1.0.1

tap : (s : Start) → to_z w32 (of_z w32 s.args.tap) ≡ s.args.tap
tap s = back w32 s.args.tap s.ranges.tap.sfits

-- the number that a turn reads
abbrev read : In-loop-x → ℤ
read t = get_or (begin t).args.plane.now ((begin t).args.source + at t) (pos 0)

as-came : (c : After-with_product-arg-1) → to_z w32 (of_z w32 (get_or c.loop-x.plane ((begin c.before).args.source + at c.before) (pos 0))) ≡ read c.before
as-came c =
    back w32 _ c.with_product-arg-1.given
    ∙ outside _ _ _ _ _ c.loop-x.invariant _ (λ k below. (begin c.before).requires.reads.apart (at c.before) k c.loop-x-test.true (omega arith))

pub with_product-sum-requires : goal.with_product-sum-requires
with_product-sum-requires c =
    rw (as-came (goal.at.with_product-sum-requires c).After-with_product-arg-1, round (goal.at.with_product-sum-requires c).After-struct_told-1, tap (begin (goal.at.with_product-sum-requires c).In-loop-x))
    (record { narrowed = λ e. absurd (false≢true e); room = (begin (goal.at.with_product-sum-requires c).In-loop-x).requires.room (at (goal.at.with_product-sum-requires c).In-loop-x) c.loop-x-test.true })

sum : (c : After-with_product-sum) → let a = (begin c.before.before).args in
    to_z w32 (of_z w32 c.with_product-sum.result) ≡ a.line.round +ℤ a.tap *ℤ read c.before.before
sum c =
    back w32 _ c.with_product-sum.type_inv ∙ c.with_product-sum.ensures ∙ rw (as-came c.before, round c.before.before.before.before, tap (begin c.before.before)) refl

-- the number that is changed is as it came
old : (c : After-lifted-arg-1) → to_z w32 (of_z w32 (get_or c.loop-x.plane ((begin c.before.before.before).args.line.start + at c.before.before.before) (pos 0))) ≡ get_or (begin c.before.before.before).args.plane.now ((begin c.before.before.before).args.line.start + at c.before.before.before) (pos 0)
old c = back w32 _ c.lifted-arg-1.given ∙ next _ _ _ _ _ c.loop-x.invariant

pub lifted-requires : goal.lifted-requires
unfolding one_sum
lifted-requires c =
    let fits = (begin (goal.at.lifted-requires c).In-loop-x).requires.line_fits in
    (fits.scaled, rw (old (goal.at.lifted-requires c).After-lifted-arg-1, sum (goal.at.lifted-requires c).After-with_product-sum) (fits.new_fit (at (goal.at.lifted-requires c).In-loop-x) c.loop-x-test.true))

made : (c : After-lifted) → let a = (begin c.before.before.before.before).args in
    to_z w32 (of_z w32 c.lifted.result) ≡ new_at a.adds a.line.scale a.plane.now a.line.start (λ k. a.line.round +ℤ a.tap *ℤ get_or a.plane.now (a.source + k) (pos 0)) (at c.before.before.before.before)
made c = back w32 _ c.lifted.type_inv ∙ c.lifted.ensures ∙ rw (old c.before, sum c.before.before) refl

pub loop-x-preserved : goal.loop-x-preserved
loop-x-preserved c =
    stored _ _ _ _ _ c.loop-x.invariant _ (made (goal.at.loop-x-preserved c).After-lifted ∙ rw (round (goal.at.loop-x-preserved c).After-struct_told-1, tap (begin (goal.at.loop-x-preserved c).In-loop-x)) refl)

pub returns : goal.returns
unfolding one_sum lifted_by_one
returns c =
    let all : c.loop-x.x ≡ c.args.line.width = omega arith in
    c.loop-x.invariant ∙ rw (all, round (goal.at.returns c).After-struct_told-1, tap (goal.at.returns c).Start) refl
