-- Request Four: "slice k has floor((k+1)num/den) − floor(k·num/den) bytes". The slices' bytes follow each other without a gap and without overlap.
-- Assumes nothing.
use mathlib.Core.Path.{◌≡◌}
use Prim.Native.Nat.{ℕ, suc, ◌+◌, ◌≤◌, ◌<◌}
use Rattle.component.proofs.PartitionLaws.{ExactlyOneStep, one-step}
use Rattle.low_delay.specs.Slices.{slice_start, slice_size}
use Rattle.low_delay.specs.declared.parameters.LowDelay.{LowDelay}
use Rattle.low_delay.proofs.SlicesLaws.{start_none, start-grows, start-next, size-least}

-- The bytes of slices: the first starts at the first byte, each ends where the next one starts and has a byte at least, and of the bytes up
-- to the start of slice n each lies in exactly one of the first n slices.
pub record SlicesFollow (p : LowDelay) : Type 0 where
  pub first : slice_start p 0 ≡ 0
  pub next : (k : ℕ) → slice_start p k + slice_size p k ≡ slice_start p (suc k)
  pub some_byte : (k : ℕ) → 1 ≤ slice_size p k
  pub alone : (n byte : ℕ) → byte < slice_start p n → ExactlyOneStep (slice_start p) n byte

-- the theorem, which `slice-bytes` proves: so it is of every fraction whose numerator is not below its denominator
abbrev pub SliceBytesFollow : Type 0
SliceBytesFollow = (p : LowDelay) → 1 ≤ p.denominator → p.denominator ≤ p.numerator → SlicesFollow p

pub slice-bytes : SliceBytesFollow
slice-bytes p some more =
    record {
      first = start_none p;
      next = start-next p some;
      some_byte = size-least p some more;
      alone = one-step (slice_start p) (start_none p) (start-grows p some);
    }
