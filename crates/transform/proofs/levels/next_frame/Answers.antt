-- `transform::levels::next_frame` meets its contract: a shift multiplies by a power of two, which is small here.
use mathlib.Core.Path.{◌≡◌, sym, ap, ◌∙◌}
use Prim.Native.Nat.{ℕ, suc, ◌-◌, ◌*◌, ◌^◌}
use native.Mathlib.Omega.{arith}
use Rattle.component.proofs.SizesLaws.{size_at-power}
use Rattle.transform.proofs.GeometryLaws.{size-shifted}
use Rattle.transform.proofs.levels.next_frame.Goals as goal

pub returns : goal.returns
returns c =
    let e = c.args.extent in
    let above : e.depth - 1 - c.args.below ≡ e.depth - suc c.args.below = omega arith in (
      size-shifted _ _ c.requires.2 (omega arith) ∙ ap (λ (k : ℕ). e.padded_width * 2 ^ k) above,
      size-shifted _ _ c.requires.3 (omega arith) ∙ sym (size_at-power _ _),
      size-shifted _ _ c.requires.4 (omega arith) ∙ sym (size_at-power _ _),
    )
