-- `transform::levels::put_low_band` meets its contract: the rows of the low band are apart in the planes.
use mathlib.Core.Path.{◌≡◌}
use Prim.Native.Nat.{ℕ, ◌-◌, ◌*◌, ◌%◌, ◌^◌}
use native.Mathlib.Nat.{mul-le-mul_right}
use native.Mathlib.Omega.{arith}
use Rattle.component.specs.Sizes.{size_at}
use Rattle.transform.specs.declared.levels.Extent.{Extent}
use Rattle.transform.specs.Geometry.{Geometry}
use Rattle.transform.proofs.GeometryLaws.{size-shifted, low-apart, low-inside, low_narrow, low-whole}
use Rattle.transform.proofs.levels.put_low_band.Goals as goal

-- where there are no levels, the samples are in the low band
pub copy_rows-requires : goal.copy_rows-requires
unfolding size_at
copy_rows-requires c =
    let g = c.requires.0 in
    let flat : c.args.extent.depth ≡ 0 = omega (arith, c.if-extent-eq0.true) in
    let whole = rw flat at g.whole in
    let shorter = rw flat at g.shorter in
    let rows = mul-le-mul_right c.args.extent.padded_width shorter in
    record { columns_le_to_stride = (omega arith, c.requires.2); columns_le_from_stride = (rw g.width g.narrower, omega (arith, whole, rows, c.requires.1)) }

pub returns-then-extent-eq0 : goal.returns-then-extent-eq0
returns-then-extent-eq0 c =
    let flat = c.if-extent-eq0.true in
    record {
      in_work = λ less. absurd (omega (arith, flat));
      in_samples = λ e. c.copy_rows.ensures;
      cleared = λ e. c.zero.ensures;
    }

-- the stride is what its shift says
stride-is : (e : Extent) (area : ℕ) → Geometry e area → (e.padded_width * 2 ^ e.depth) % 2 ^ 64 ≡ e.padded_width * 2 ^ e.depth
stride-is e area g = size-shifted _ _ g.width_most g.depth_most

pub copy_rows-requires-2 : goal.copy_rows-requires-2
copy_rows-requires-2 c =
    let g = c.requires.0 in
    record { columns_le_to_stride = (rw (stride-is _ _ g) (low-apart _ _ g), rw (stride-is _ _ g) (low-inside _ _ g)); columns_le_from_stride = (low_narrow _ _ g, omega (arith, low-whole _ _ g, c.requires.1)) }

pub returns : goal.returns
unfolding size_at
returns c =
    let whole : c.args.extent.depth - 0 ≡ c.args.extent.depth = omega arith in
    record {
      in_work = λ less. rw whole (rw (stride-is _ _ c.requires.0) at c.copy_rows-2.ensures);
      in_samples = λ e. absurd (omega (arith, c.if-extent-eq0.false));
      cleared = λ e. absurd (omega (arith, c.if-extent-eq0.false));
    }
