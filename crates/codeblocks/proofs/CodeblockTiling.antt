-- The codeblocks tile their subband. Document 01: "Every position of the subband lies in exactly one block; a block may be empty."
-- Assumes nothing.
use mathlib.Core.Path.{◌≡◌}
use Prim.Native.Nat.{ℕ, suc, ◌≤◌, ◌<◌}
use Rattle.component.specs.Partition.{part_start}
use Rattle.component.proofs.PartitionLaws.{parts-tile}

-- a row and a column of a subband lie in its codeblock x across, y down
pub record LiesIn (width height across down y x row column : ℕ) : Type 0 where
  pub below_top : part_start height down y ≤ row
  pub above_bottom : row < part_start height down (suc y)
  pub right_of_left : part_start width across x ≤ column
  pub left_of_right : column < part_start width across (suc x)

-- exactly one of its codeblocks has them
pub record ExactlyOneCodeblock (width height across down row column : ℕ) : Type 0 where
  pub y : ℕ
  pub x : ℕ
  pub y-counted : y < down
  pub x-counted : x < across
  pub lies : LiesIn width height across down y x row column
  pub alone : (j i : ℕ) → j < down → i < across → LiesIn width height across down j i row column → (j ≡ y) × (i ≡ x)

-- the theorem, which `codeblocks-tile` proves: every position of a subband lies in exactly one codeblock
abbrev pub CodeblocksTile : Type 0
CodeblocksTile =
    (width height across down row column : ℕ) → 1 ≤ across → 1 ≤ down → row < height → column < width →
    ExactlyOneCodeblock width height across down row column

pub codeblocks-tile : CodeblocksTile
codeblocks-tile width height across down row column some-across some-down inside-rows inside-columns =
    let vertical = parts-tile height down row some-down inside-rows in
    let horizontal = parts-tile width across column some-across inside-columns in
    record {
      y = vertical.index;
      x = horizontal.index;
      y-counted = vertical.counted;
      x-counted = horizontal.counted;
      lies =
          record {
            below_top = vertical.from;
            above_bottom = vertical.before;
            right_of_left = horizontal.from;
            left_of_right = horizontal.before;
          };
      alone = λ j i hj hi lies.
          (vertical.alone j hj lies.below_top lies.above_bottom, horizontal.alone i hi lies.right_of_left lies.left_of_right);
    }
