use mathlib.Core.Path.{◌≡◌, refl, sym, ap, ◌∙◌}
use mathlib.Core.Bool.{false}
use Prim.Native.Nat.{ℕ, ◌≤◌, ◌<◌}
use native.Mathlib.Omega.{arith}
use Rattle.std.specs.Prelude.{Ok}
use Rattle.std.proofs.lemmas.Bool.{true≢false}
use Rattle.coefficients.specs.Scaling.{scale_of}
use Rattle.rectangles.specs.Areas.{size_of}
use Rattle.coefficients.proofs.PortionsLaws.{Follows, sound-again}
use Rattle.codeblocks.specs.Blocks.{count_of, area_before}
use Rattle.codeblocks.specs.declared.PlacedCodeblock.{PlacedCodeblock}
use Rattle.codeblocks.proofs.BlocksLaws.{few-blocks, placed_same, area-before-inside, block-before-next, block-small}
use Rattle.codeblocks.proofs.RestLaws.{at_value}
use Rattle.codeblocks.proofs.PortionsLaws.{Sofar, sofar-first, sofar-values, sofar-flag, ends-refused, ends-short, ends-over}
use Rattle.codeblocks.proofs.read_codeblocks.Goals as goal
use Rattle.codeblocks.proofs.read_codeblocks.Goals.{After-read_values-part, At-loop-bit, then-part-via-then-part, then-part-via-else-part+then-count-position}

pub loop-bit-init : goal.loop-bit-init
loop-bit-init c =
    (sofar-first _ _ _ _ _ _ c.requires.1 c.requires.2 c.requires.3.before_end, record { end_same = refl; stated-same = refl; origin-same = refl }, c.block_before-block.ensures)

pub read_values-part-requires : goal.read_values-part-requires
read_values-part-requires c =
    let placed = placed_same c.args.blocks c.args.plane.now c.loop-bit.plane c.loop-bit.auto.plane c.requires.0 in
    rw c.loop-bit.invariant.2 (
      area-before-inside _ _ placed _ c.loop-bit.invariant.0.most,
      c.loop-bit.invariant.0.clear.begun_last,
      sound-again _ _ c.loop-bit.invariant.1 (c.loop-bit.invariant.0.before_end _ refl) c.requires.3,
    )

-- what the values that were read leave
read : (c : After-read_values-part) →
    Sofar c.args.bytes.now c.args.cursor (scale_of c.args.decoder.q) c.args.blocks c.args.from c.args.plane.now
    (at_value c.loop-bit.position.begun c.read_values-part.result.count) c.read_values-part.result.progress c.read_values-part.new.plane
read c =
    sofar-values _ _ _ _ _ _ c.requires.0.counted _ c.loop-bit.position.values c.loop-bit.next c.loop-bit.plane _ c.loop-bit.block.area _ c.loop-bit.invariant.0 c.loop-bit.invariant.1 (ap (λ (k : PlacedCodeblock). k.area) c.loop-bit.invariant.2) c.read_values-part.ensures

-- the codeblock begun last is all read
begun-read : (c : After-read_values-part) (next : ℕ) → c.read_values-part.result.progress ≡ Ok next → c.read_values-part.result.short ≡ false →
    size_of (area_before c.args.blocks c.loop-bit.position.begun) ≤ c.read_values-part.result.count
begun-read c next on full = rw c.loop-bit.invariant.2 at (c.read_values-part.ensures.over next on full)

-- another bit of the data
same-data : (c : At-loop-bit) (bit : ℕ) →
    Follows c.args.cursor (record { bit = bit; end = c.loop-bit.next.end; stated = c.loop-bit.next.stated; origin = c.loop-bit.next.origin })
same-data c bit =
    let same = c.loop-bit.invariant.1 in
    record { end_same = same.end_same; stated-same = same.stated-same; origin-same = same.origin-same }

pub returns-in_default : goal.returns-in_default
returns-in_default c =
    ends-refused _ _ _ _ _ _ _ _ _ (read (goal.at.returns-in_default c).After-read_values-part) _ c.in_default.is

pub returns-then-part : goal.returns-then-part
returns-then-part c =
    let on = c.in-Ok.is in
    let part = c.read_values-part in
    elim c.then-part.branch [
      | then-part-via-then-part short ↦
          rw short.if-part.true
          (ends-short _ _ _ _ _ _ _ _ _ (read (goal.at.returns-then-part c).After-read_values-part) _ on c.loop-bit.next c.loop-bit.invariant.1
          (λ stated. true≢false (sym short.if-part.true ∙ part.ensures.full stated)) (rw on at (part.ensures.close_to_end short.if-part.true)))
      | then-part-via-else-part+then-count-position full ↦
          rw full.if-part.false
          (ends-over _ _ _ _ _ _ _ _ _ (read (goal.at.returns-then-part c).After-read_values-part) full.if-count-position.true
          (begun-read (goal.at.returns-then-part c).After-read_values-part _ on full.if-part.false))
    ]

pub returns-in_default-read_flag : goal.returns-in_default-read_flag
returns-in_default-read_flag c =
    let flagged = c.in_default-read_flag.ensures in
    ends-short _ _ _ _ _ _ _ _ _ (read (goal.at.returns-in_default-read_flag c).After-read_values-part) _ c.in-Ok.is _
    (same-data (goal.at.returns-in_default-read_flag c).At-loop-bit c.in-Ok.bit) (λ stated. flagged.full stated refl) (flagged.close_to_end refl)

pub next_block-block-requires : goal.next_block-block-requires
next_block-block-requires c = (c.requires.0.counted, c.if-count-position.false, c.loop-bit.invariant.2, c.reciprocal_of-reciprocal.ensures)

pub at_block-position-requires : goal.at_block-position-requires
at_block-position-requires c =
    let counted = c.requires.0.counted in
    let left = c.if-count-position.false in
    let small = block-small _ counted _ _ left c.next_block-block.ensures in
    (omega (arith, few-blocks _ counted, left), small.0, small.1)

pub loop-bit-smaller : goal.loop-bit-smaller
loop-bit-smaller c =
    let left : c.loop-bit.position.begun < count_of c.args.blocks = c.if-count-position.false in
    omega (arith, c.at_block-position.ensures.0)

pub loop-bit-preserved : goal.loop-bit-preserved
loop-bit-preserved c =
    let on = c.in-Ok.is in
    let same = same-data (goal.at.loop-bit-preserved c).At-loop-bit in (
      sofar-flag _ _ _ _ _ _ _ _ _ _ _ _ c.next_block-block.result c.at_block-position.result.begun c.at_block-position.result.values (read (goal.at.loop-bit-preserved c).After-read_values-part) (same _) on c.if-count-position.false (begun-read (goal.at.loop-bit-preserved c).After-read_values-part _ on c.if-part.false)
          c.in-Some.ensures c.next_block-block.ensures c.at_block-position.ensures.0 c.at_block-position.ensures.1,
      same _,
      c.next_block-block.ensures ∙ block-before-next _ _ _ c.at_block-position.ensures.0,
    )
