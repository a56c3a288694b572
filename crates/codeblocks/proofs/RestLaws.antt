-- Laws of what is left of a subband's codeblocks: all of them at the start, some values read, the next codeblock begun, a refusal, nothing.
-- Assumes nothing.
use mathlib.Core.Path.{◌≡◌, refl, sym, ap, ◌∙◌}
use mathlib.Core.Logic.{◌≢◌}
use mathlib.Core.Bool.{Bool, true, false, cond}
use mathlib.Core.List.{List}
use Prim.Native.Nat.{ℕ, suc, ◌-◌, ◌/◌, ◌%◌, ◌≤◌, ◌<◌}
use native.Mathlib.Omega.{arith}
use lib.Dec.{eqb}
use lib.IntN.{ℤ}
use Rattle.std.specs.Prelude.{Result, Ok, Err}
use Rattle.base.specs.Refusals.{number_of}
use Rattle.base.specs.Walk.{walk}
use Rattle.base.specs.declared.status.Fault.{Fault}
use Rattle.base.proofs.WalkLaws.{walk_first, walk-past}
use Rattle.exp_golomb.specs.Bits.{Taken, take_bit}
use Rattle.exp_golomb.proofs.BeginsLaws.{begins-itself}
use Rattle.coefficients.specs.Reading.{Run, goes_on}
use Rattle.coefficients.specs.Values.{after}
use Rattle.coefficients.specs.declared.reading.Cursor.{Cursor}
use Rattle.coefficients.proofs.ReadingLaws.{Stays, walk-keeps}
use Rattle.rectangles.specs.Areas.{size_of, area_values}
use Rattle.rectangles.proofs.AreasLaws.{area-whole, area-over, area-stays}
use Rattle.codeblocks.specs.Codeblocks.{codeblock_values, codeblock, codeblocks}
use Rattle.codeblocks.specs.Blocks.{count_of, block_area, block_at, block_before, area_before}
use Rattle.codeblocks.specs.Rest.{rest_of_blocks}
use Rattle.codeblocks.specs.Portions.{BlocksRead}
use Rattle.codeblocks.specs.declared.CodeblockGrid.{CodeblockGrid}
use Rattle.codeblocks.specs.declared.Position.{Position}
use Rattle.codeblocks.specs.declared.Reached.{Reached}
use Rattle.codeblocks.proofs.CodeblocksLaws.{block-single, block-flagged, block-stays, codeblocks-flat}

-- Before the first codeblock; and among them.
abbrev pub at_start : Position
at_start = record { begun = 0; values = 0 }

abbrev pub at_value : ℕ → ℕ → Position
at_value m i = record { begun = m; values = i }

module _ (bytes : List ℕ) (end origin : ℕ) (scale : ℕ → ℕ) (b : CodeblockGrid) where
  abbrev rest : Position → Run → Run
  rest = rest_of_blocks bytes end origin scale b

  abbrev values : ℕ → ℕ → Run → Run
  values m = area_values bytes end origin scale (block_area b m)

  abbrev block : ℕ → Run → Run
  block m = codeblock bytes end origin scale b (m / b.across) (m % b.across)

  -- at the start all of them are left
  pub rest-whole : (r : Run) → rest at_start r ≡ codeblocks bytes end origin scale b r
  unfolding rest_of_blocks block_before
  rest-whole r =
      let all : count_of b - 0 ≡ count_of b = omega arith in
      ap (walk block 0 (count_of b - 0)) (area-over bytes end origin scale (area_before b 0) 0 r (omega arith))
      ∙ ap (λ (n : ℕ). walk block 0 n r) all
      ∙ sym (codeblocks-flat bytes end origin scale b r)

  -- nothing is left
  pub rest-none : (at : Position) (r : Run) → count_of b ≤ at.begun → size_of (area_before b at.begun) ≤ at.values → rest at r ≡ r
  unfolding rest_of_blocks
  rest-none at r past over =
      walk-past block at.begun (count_of b) _ past ∙ area-over bytes end origin scale (area_before b at.begun) at.values r over

  -- a refused run stays as it is
  pub rest-stays : (at : Position) → Stays (rest at)
  unfolding rest_of_blocks
  rest-stays at status bit plane =
      ap (walk block at.begun (count_of b - at.begun)) (area-stays bytes end origin scale (area_before b at.begun) at.values status bit plane)
      ∙ walk-keeps block (λ m. block-stays bytes end origin scale b (m / b.across) (m % b.across)) at.begun (count_of b - at.begun) status bit plane

  -- after values of the codeblock begun last
  pub rest-values : (m i k : ℕ) (r t : Run) →
      area_values bytes end origin scale (area_before b m) i r ≡ area_values bytes end origin scale (area_before b m) k t → rest (at_value m i) r ≡ rest (at_value m k) t
  unfolding rest_of_blocks
  rest-values m i k r t e = ap (walk block m (count_of b - m)) e

  -- codeblock m, which is the only one; and one whose flag is there
  only : (m : ℕ) (r : Run) → count_of b ≡ 1 → block m r ≡ values m 0 r
  unfolding codeblock_values
  only m r single = block-single bytes end origin scale b (m / b.across) (m % b.across) r single ∙ area-whole bytes end origin scale (block_area b m) r

  one-of-several : (m at bit next : ℕ) (plane : List ℤ) → count_of b ≢ 1 → take_bit bytes end true at ≡ Taken bit next →
      block m (goes_on at plane) ≡ values m (cond (eqb bit 1) (size_of (block_area b m)) 0) (goes_on next plane)
  unfolding codeblock_values
  one-of-several m at bit next plane several taken =
      block-flagged bytes end origin scale b several (m / b.across) (m % b.across) at bit next plane taken ∙ by (eqb bit 1)
    where
      by : (skipped : Bool) →
          cond skipped (goes_on next plane) (codeblock_values bytes end origin scale b (m / b.across) (m % b.across) (goes_on next plane))
          ≡ values m (cond skipped (size_of (block_area b m)) 0) (goes_on next plane)
      by true = sym (area-over bytes end origin scale (block_area b m) (size_of (block_area b m)) (goes_on next plane) (omega arith))
      by false = area-whole bytes end origin scale (block_area b m) (goes_on next plane)

  -- the next codeblock is begun: the only one, and one whose flag is there
  module _ (m i at : ℕ) (plane : List ℤ) (more : m < count_of b) (over : size_of (area_before b m) ≤ i) where
    -- its values from one on
    rest-begun : (k next : ℕ) → block m (goes_on at plane) ≡ values m k (goes_on next plane) → rest (at_value m i) (goes_on at plane) ≡ rest (at_value (suc m) k) (goes_on next plane)
    unfolding rest_of_blocks block_before block_at
    rest-begun k next e =
        ap (walk block m (count_of b - m)) (area-over bytes end origin scale (area_before b m) i (goes_on at plane) over)
        ∙ walk_first block m (count_of b) (goes_on at plane) more
        ∙ ap (walk block (suc m) (count_of b - suc m)) e

    pub rest-single : count_of b ≡ 1 → rest (at_value m i) (goes_on at plane) ≡ rest (at_value (suc m) 0) (goes_on at plane)
    rest-single single = rest-begun 0 at (only m (goes_on at plane) single)

    pub rest-flagged : (bit next : ℕ) → count_of b ≢ 1 → take_bit bytes end true at ≡ Taken bit next →
        rest (at_value m i) (goes_on at plane) ≡ rest (at_value (suc m) (cond (eqb bit 1) (size_of (block_area b m)) 0)) (goes_on next plane)
    rest-flagged bit next several taken = rest-begun (cond (eqb bit 1) (size_of (block_area b m)) 0) next (one-of-several m at bit next plane several taken)

-- reading data of a stated length leaves nothing
pub read-to-end : (bytes : List ℕ) (c : Cursor) (scale : ℕ → ℕ) (b : CodeblockGrid) (from : Position) (plane : List ℤ) (r : Reached) (last : List ℤ) →
    c.stated ≡ true → BlocksRead bytes c scale b from plane r last →
    rest_of_blocks bytes c.end c.origin scale b from (goes_on c.bit plane) ≡ after r.progress last
read-to-end bytes c scale b from plane r last stated read =
    read.values bytes c.end (begins-itself c.stated bytes c.end) ∙ by r.progress refl
  where
    by : (progress : Result ℕ Fault) → r.progress ≡ progress → rest_of_blocks bytes c.end c.origin scale b r.position (after r.progress last) ≡ after r.progress last
    by (Ok next) told =
        let over = read.over next told (read.full stated) in
        rest-none bytes c.end c.origin scale b r.position (after r.progress last) over.0 over.1
    by (Err fault) told = rw told (rest-stays bytes c.end c.origin scale b r.position (number_of fault.refusal) fault.bit last)

-- so from the start it is what `codeblocks` says
pub blocks-whole : (bytes : List ℕ) (c : Cursor) (scale : ℕ → ℕ) (b : CodeblockGrid) (plane : List ℤ) (r : Reached) (last : List ℤ) →
    c.stated ≡ true → BlocksRead bytes c scale b at_start plane r last →
    after r.progress last ≡ codeblocks bytes c.end c.origin scale b (goes_on c.bit plane)
blocks-whole bytes c scale b plane r last stated read =
    sym (read-to-end bytes c scale b at_start plane r last stated read) ∙ rest-whole bytes c.end c.origin scale b (goes_on c.bit plane)
