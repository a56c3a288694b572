-- Document 01, "One subband": codeblocks, with their flags.
use Rattle.std.specs.Prelude.{ℕ, suc, ◌+◌, ◌-◌, ◌*◌, true, cond, List, eqb, ℤ}
use Rattle.base.specs.Walk.{walk}
use Rattle.component.specs.Partition.{part_start}
use Rattle.exp_golomb.specs.Bits.{Bit, Taken, Absent, take_bit}
use Rattle.exp_golomb.specs.Codes.{Missing, status_of}
use Rattle.coefficients.specs.Reading.{Run, goes_on, stops, going, rectangle_values}
use Rattle.coefficients.specs.declared.reading.Rectangle.{Rectangle}
use Rattle.codeblocks.specs.declared.CodeblockGrid.{CodeblockGrid}

-- "block x of c across covers columns floor(bw·x/c) up to but not including floor(bw·(x+1)/c); rows likewise"
unfoldable pub codeblock_area : CodeblockGrid → ℕ → ℕ → Rectangle
codeblock_area b y x =
    let s = b.subband in
    let left = part_start s.width b.across x in
    let top = part_start s.height b.down y in
    record {
      start = (s.top + top) * b.stride + (s.left + left);
      stride = b.stride;
      width = part_start s.width b.across (suc x) - left;
      height = part_start s.height b.down (suc y) - top;
    }

-- "each begins with a flag bit, also an empty one: 1 leaves the block zero". The flag is the bit `at` of data whose first bit is bit `origin`
-- of all the bytes.
unfoldable pub on_flag : ℕ → ℕ → Bit → List ℤ → (ℕ → Run) → Run
on_flag origin at (Taken bit next) plane go = cond (eqb bit 1) (goes_on next plane) (go next)
on_flag origin at Absent plane go = stops (status_of (Missing at)) (origin + at) plane

module _ (bytes : List ℕ) (end origin : ℕ) (scale : ℕ → ℕ) (b : CodeblockGrid) where
  -- the values of codeblock x across, y down
  unfoldable pub codeblock_values : ℕ → ℕ → Run → Run
  codeblock_values y x r = rectangle_values bytes end origin scale (codeblock_area b y x) r

  -- "If the level has more than one block, each begins with a flag bit"
  unfoldable pub codeblock : ℕ → ℕ → Run → Run
  codeblock y x r =
      cond (eqb (b.across * b.down) 1) (codeblock_values y x r)
      (going r.progress r.plane
      (λ at. on_flag origin at (take_bit bytes end true at) r.plane (λ next. codeblock_values y x (goes_on next r.plane))))

  -- "Blocks follow in raster order"
  unfoldable pub codeblocks : Run → Run
  codeblocks r = walk (λ y. walk (codeblock y) 0 b.across) 0 b.down r
