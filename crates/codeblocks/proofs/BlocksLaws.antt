-- Laws of where codeblocks stand, counted in raster order: each lies in its subband, no two have an entry of the plane in common, and in a
-- row of codeblocks each starts where the one before it ends.
-- Assumes nothing.
use mathlib.Core.Path.{◌≡◌, refl, sym, ap, ◌∙◌}
use mathlib.Core.Logic.{◌≢◌}
use mathlib.Core.List.{List}
use Prim.Native.Nat.{ℕ, zero, suc, ◌+◌, ◌-◌, ◌*◌, ◌/◌, ◌%◌, ◌≤◌, ◌<◌}
use native.Mathlib.Nat.{mod-lt, div-add-mod', div-eq_of_lt, mod-eq_of_lt, mul-add-div_right, mul-add-mod_self_right, add-zero, add-mul, mul_comm, mul-le-mul, mul-le-mul_right}
use native.Mathlib.Decide.{ℕ_discrete}
use native.Mathlib.Numerals.{add-one}
use native.Mathlib.Omega.{arith}
use lib.IntN.{ℤ}
use lib.ListN.{length}
use Rattle.base.proofs.Grids.{row_room, rows_apart}
use Rattle.component.specs.Partition.{part_start}
use Rattle.component.specs.Subbands.{InSubband}
use Rattle.component.specs.declared.subbands.Subband.{Subband}
use Rattle.component.proofs.PartitionLaws.{part-start-grows, part-end-most}
use Rattle.rectangles.specs.Areas.{size_of, value_index, Inside}
use Rattle.rectangles.proofs.AreasLaws.{in_area}
use Rattle.codeblocks.specs.Codeblocks.{codeblock_area}
use Rattle.codeblocks.specs.Blocks.{count_of, block_area, block_at, block_before, area_before, Counted, Placed}
use Rattle.codeblocks.specs.declared.PlacedCodeblock.{PlacedCodeblock}
use Rattle.codeblocks.specs.declared.CodeblockGrid.{CodeblockGrid}
use Rattle.codeblocks.proofs.CodeblockTiling.{LiesIn, codeblocks-tile}

-- The columns of the subband that codeblock x across starts at and goes up to, and the rows of codeblock y down.
abbrev pub left_edge : CodeblockGrid → ℕ → ℕ
left_edge b x = part_start b.subband.width b.across x

abbrev pub top_edge : CodeblockGrid → ℕ → ℕ
top_edge b y = part_start b.subband.height b.down y

-- The row and the column of codeblocks that codeblock m lies in, and its edges in the subband.
pub record BlockEdges (b : CodeblockGrid) (m : ℕ) : Type 0 where
  pub row_below : m / b.across < b.down
  pub column-below : m % b.across < b.across
  pub forward : left_edge b (m % b.across) ≤ left_edge b (suc (m % b.across))
  pub right-most : left_edge b (suc (m % b.across)) ≤ b.subband.width
  pub downward : top_edge b (m / b.across) ≤ top_edge b (suc (m / b.across))
  pub bottom-most : top_edge b (suc (m / b.across)) ≤ b.subband.height

module _ (b : CodeblockGrid) (counted : Counted b) where
  -- codeblocks are few
  pub few-blocks : count_of b ≤ 65025
  few-blocks = mul-le-mul counted.across_most counted.down_most

  -- each has its edges in the subband
  pub edges : (m : ℕ) → m < count_of b → BlockEdges b m
  edges m below =
      let here = in_area b.across b.down m (omega (arith, mul_comm b.across b.down)) in
      record {
        row_below = here.row_below;
        column-below = here.column-below;
        forward = part-start-grows b.subband.width b.across counted.across_least (m % b.across) (suc (m % b.across)) (omega arith);
        right-most = part-end-most b.subband.width b.across counted.across_least (m % b.across) here.column-below;
        downward = part-start-grows b.subband.height b.down counted.down_least (m / b.across) (suc (m / b.across)) (omega arith);
        bottom-most = part-end-most b.subband.height b.down counted.down_least (m / b.across) here.row_below;
      }

-- it lies in the plane
pub areas-inside : (b : CodeblockGrid) (plane : List ℤ) → Placed b plane → (m : ℕ) → m < count_of b → Inside (block_area b m) plane
unfolding codeblock_area
areas-inside b plane placed m below =
    let counted = placed.counted in
    let e = edges b counted m below in
    let s = b.subband in
    let left = left_edge b (m % b.across) in
    let right = left_edge b (suc (m % b.across)) in
    let top = top_edge b (m / b.across) in
    let bottom = top_edge b (suc (m / b.across)) in
    let forward : left ≤ right = e.forward in
    let wide : s.left + right ≤ b.stride = omega (arith, e.right-most, counted.wide) in
    let rows : (s.top + top) * b.stride + (bottom - top) * b.stride ≤ length plane =
    let whole : s.top + top + (bottom - top) ≤ s.top + s.height = omega (arith, e.downward, e.bottom-most) in
    omega (arith, add-mul (s.top + top) (bottom - top) b.stride, mul-le-mul_right b.stride whole, placed.inside) in
    record {
      wide = omega arith;
      narrow = counted.narrow;
      tall = omega (arith, e.bottom-most, counted.tall);
      rows = λ y inside. omega (arith, row_room b.stride y (bottom - top) inside);
    }

-- the subband has room in every plane as long
pub placed_same : (b : CodeblockGrid) (plane₀ plane : List ℤ) → length plane ≡ length plane₀ → Placed b plane₀ → Placed b plane
placed_same b plane₀ plane same placed = record { counted = placed.counted; inside = rw same placed.inside }

-- the codeblock begun last lies in the plane too
pub area-before-inside : (b : CodeblockGrid) (plane : List ℤ) → Placed b plane → (m : ℕ) → m ≤ count_of b → Inside (area_before b m) plane
unfolding block_before block_at
area-before-inside b plane placed zero most =
    record { wide = omega arith; narrow = placed.counted.narrow; tall = omega arith; rows = λ y inside. absurd (omega arith) }
area-before-inside b plane placed (suc m) most = areas-inside b plane placed m most

-- The row and the column of the subband that value i of codeblock m stands in.
pub record LocatedValue (b : CodeblockGrid) (m i : ℕ) : Type 0 where
  pub row : ℕ
  pub column : ℕ
  pub row_inside : row < b.subband.height
  pub column-inside : column < b.subband.width
  pub lies_in : LiesIn b.subband.width b.subband.height b.across b.down (m / b.across) (m % b.across) row column
  pub index_is : value_index (block_area b m) i ≡ (b.subband.top + row) * b.stride + (b.subband.left + column)

-- a row and a column further on in a plane
further : (stride row column rows columns : ℕ) → row * stride + column + rows * stride + columns ≡ (row + rows) * stride + (column + columns)
further stride row column rows columns = omega (arith, add-mul row rows stride)

module _ (b : CodeblockGrid) (counted : Counted b) where
  -- each value stands in its codeblock
  pub located : (m i : ℕ) → m < count_of b → i < size_of (block_area b m) → LocatedValue b m i
  unfolding codeblock_area value_index
  located m i below inside =
      let e = edges b counted m below in
      let s = b.subband in
      let left = left_edge b (m % b.across) in
      let top = top_edge b (m / b.across) in
      let width = left_edge b (suc (m % b.across)) - left in
      let height = top_edge b (suc (m / b.across)) - top in
      let here = in_area width height i inside in
      let row_below : i / width < height = here.row_below in
      let column-below : i % width < width = here.column-below in
      record {
        row = top + i / width;
        column = left + i % width;
        row_inside = omega (arith, e.bottom-most);
        column-inside = omega (arith, e.right-most);
        lies_in =
            record {
              below_top = omega arith;
              above_bottom = omega arith;
              right_of_left = omega arith;
              left_of_right = omega arith;
            };
        index_is =
            let rows : s.top + top + i / width ≡ s.top + (top + i / width) = omega arith in
            let columns : s.left + left + i % width ≡ s.left + (left + i % width) = omega arith in
            further b.stride (s.top + top) (s.left + left) (i / width) (i % width) ∙ rw (rows, columns) refl;
      }

  -- so a value of a codeblock goes to an entry of its subband
  pub value-lies : (m i : ℕ) → m < count_of b → i < size_of (block_area b m) →
      (row : ℕ) × (column : ℕ) × InSubband b.subband row column × (value_index (block_area b m) i ≡ row * b.stride + column)
  value-lies m i below inside =
      let at = located m i below inside in (
        b.subband.top + at.row,
        b.subband.left + at.column,
        record {
          below_top = omega arith;
          above_bottom = omega (arith, at.row_inside);
          right_of_left = omega arith;
          left_of_right = omega (arith, at.column-inside);
        },
        at.index_is,
      )

  -- and to none that stands elsewhere
  pub value-elsewhere : (j : ℕ) → ((row column : ℕ) → InSubband b.subband row column → row * b.stride + column ≢ j) →
      (m i : ℕ) → m < count_of b → i < size_of (block_area b m) → value_index (block_area b m) i ≢ j
  value-elsewhere j outside m i below inside same =
      let lies = value-lies m i below inside in
      outside lies.0 lies.1 lies.2 (sym lies.3 ∙ same)

  -- two codeblocks have no entry in common
  pub areas-apart : (m n : ℕ) → m < count_of b → n < count_of b → m ≢ n →
      (i j : ℕ) → i < size_of (block_area b m) → j < size_of (block_area b n) → value_index (block_area b m) i ≢ value_index (block_area b n) j
  areas-apart m n below-m below-n other i j inside-i inside-j same =
      elim (ℕ_discrete (s.top + p.row) (s.top + q.row)) [
        | yes together ↦
            let row : q.row ≡ p.row = omega arith in
            let rows : (s.top + p.row) * b.stride ≡ (s.top + q.row) * b.stride = ap (λ (k : ℕ). k * b.stride) together in
            let column : q.column ≡ p.column = omega (arith, equal) in
            let lies : LiesIn s.width s.height b.across b.down (n / b.across) (n % b.across) p.row p.column = rw (row, column) at q.lies_in in
            let one = codeblocks-tile s.width s.height b.across b.down p.row p.column counted.across_least counted.down_least p.row_inside p.column-inside in
            let first = one.alone (m / b.across) (m % b.across) (edges b counted m below-m).row_below (edges b counted m below-m).column-below p.lies_in in
            let second = one.alone (n / b.across) (n % b.across) (edges b counted n below-n).row_below (edges b counted n below-n).column-below lies in
            let quotient : m / b.across ≡ n / b.across = first.0 ∙ sym second.0 in
            let remainder : m % b.across ≡ n % b.across = first.1 ∙ sym second.1 in
            other (sym (div-add-mod' m b.across) ∙ rw (quotient, remainder) (div-add-mod' n b.across))
        | no different ↦
            rows_apart b.stride (s.top + p.row) (s.top + q.row) (s.left + p.column) (s.left + q.column) different
            (omega (arith, p.column-inside, counted.wide)) (omega (arith, q.column-inside, counted.wide)) equal
      ]
    where
      s : Subband
      s = b.subband

      p : LocatedValue b m i
      p = located m i below-m inside-i

      q : LocatedValue b n j
      q = located n j below-n inside-j

      equal : (b.subband.top + p.row) * b.stride + (b.subband.left + p.column) ≡ (b.subband.top + q.row) * b.stride + (b.subband.left + q.column)
      equal = sym p.index_is ∙ same ∙ q.index_is

-- What the columns and rows of a codeblock, from left to right and from top to bottom, say of numbers that the code computes.
pub record BlockRoom (b : CodeblockGrid) (left right top bottom : ℕ) : Type 0 where
  pub forward : left ≤ right
  pub downward : top ≤ bottom
  pub wide : b.subband.left + right ≤ 4096
  pub tall : b.subband.top + bottom ≤ 4096
  pub small : (b.subband.top + top) * b.stride ≤ 4096 * 4096

-- codeblock m, between the edges that the code computes
module _ (b : CodeblockGrid) (m left right top bottom : ℕ)
    (left_is : left ≡ left_edge b (m % b.across))
    (right_is : right ≡ left_edge b (m % b.across + 1))
    (top-is : top ≡ top_edge b (m / b.across))
    (bottom-is : bottom ≡ top_edge b (m / b.across + 1)) where
  -- its numbers are small
  pub room : Counted b → m < count_of b → BlockRoom b left right top bottom
  room counted below =
      let e = edges b counted m below in
      let right-next = rw (add-one (m % b.across)) at right_is in
      let bottom-next = rw (add-one (m / b.across)) at bottom-is in
      let tall : b.subband.top + bottom ≤ 4096 = omega (arith, e.bottom-most, counted.tall) in
      let downward : top ≤ bottom = omega (arith, e.downward) in
      let low : b.subband.top + top ≤ 4096 = omega arith in
      record {
        forward = omega (arith, e.forward);
        downward = downward;
        wide = omega (arith, e.right-most, counted.wide, counted.narrow);
        tall = tall;
        small = mul-le-mul low counted.narrow;
      }

  -- and the code has it as it is
  pub block-at-is :
      record {
        x = m % b.across;
        right = right;
        area =
            record {
              start = (b.subband.top + top) * b.stride + (b.subband.left + left);
              stride = b.stride;
              width = right - left;
              height = bottom - top;
            };
      }
      ≡ block_at b m
  unfolding block_at codeblock_area
  block-at-is = rw (left_is, right_is, top-is, bottom-is, add-one (m % b.across), add-one (m / b.across)) refl

-- the codeblock begun last, where one has been begun
pub block-before-some : (b : CodeblockGrid) (m : ℕ) → m ≢ 0 → block_at b (m - 1) ≡ block_before b m
unfolding block_before
block-before-some b zero some = absurd (some refl)
block-before-some b (suc m) some =
    let less : suc m - 1 ≡ m = omega arith in
    ap (block_at b) less

-- it has a column below the count
pub column-before : (b : CodeblockGrid) (m : ℕ) (before : PlacedCodeblock) → 1 ≤ b.across → before ≡ block_before b m → before.x < b.across
unfolding block_before block_at
column-before b zero before some is = rw is (omega arith)
column-before b (suc m) before some is = rw is (mod-lt m some)

-- and codeblock m is the one begun last, where one more has been begun
pub block-before-next : (b : CodeblockGrid) (m n : ℕ) → n ≡ m + 1 → block_at b m ≡ block_before b n
unfolding block_before
block-before-next b m n next = rw (next, add-one m) refl

-- a codeblock is small
pub block-small : (b : CodeblockGrid) → Counted b → (m : ℕ) (block : PlacedCodeblock) → m < count_of b → block ≡ block_at b m → (block.area.width ≤ 4096) × (block.area.height ≤ 4096)
unfolding block_at codeblock_area
block-small b counted m block below is =
    let e = edges b counted m below in
    rw is (omega (arith, e.right-most, counted.wide, counted.narrow), omega (arith, e.bottom-most, counted.tall))

-- Codeblock m, after the one before it in its row: where it starts, and what it goes up to.
pub record BesideBefore (b : CodeblockGrid) (m : ℕ) (before : PlacedCodeblock) (right : ℕ) : Type 0 where
  pub small : before.area.start + before.area.width ≤ 4096 * 4097
  pub forward : before.right ≤ right
  pub block-is :
      record {
        x = before.x + 1;
        right = right;
        area =
            record {
              start = before.area.start + before.area.width;
              stride = b.stride;
              width = right - before.right;
              height = before.area.height;
            };
      }
      ≡ block_at b m

-- in a row of codeblocks it stands beside the one before it
pub beside : (b : CodeblockGrid) → Counted b → (m : ℕ) (before : PlacedCodeblock) (right : ℕ) → m < count_of b → before ≡ block_before b m →
    before.x + 1 < b.across → right ≡ left_edge b (before.x + 1 + 1) → BesideBefore b m before right
unfolding block_before block_at codeblock_area
beside b counted zero before right below is inside right_is = absurd (omega (arith, ap (λ (k : PlacedCodeblock). k.x) is, counted.across_least))
beside b counted (suc n) before right below is inside right_is = rw is (here (rw is at inside) (rw is at right_is))
  where
    here : n % b.across + 1 < b.across → right ≡ left_edge b (n % b.across + 1 + 1) → BesideBefore b (suc n) (block_at b n) right
    here inside right_is =
        let a = b.across in
        let some : 0 < a = counted.across_least in
        let e = edges b counted n (omega arith) in
        let next : suc n ≡ n / a * a + suc (n % a) = omega (arith, div-add-mod' n a) in
        let row : suc n / a ≡ n / a =
        ap (λ (k : ℕ). k / a) next ∙ mul-add-div_right some (n / a) (suc (n % a)) ∙ ap (λ (k : ℕ). n / a + k) (div-eq_of_lt (omega arith)) ∙ add-zero (n / a) in
        let column : suc n % a ≡ suc (n % a) =
        ap (λ (k : ℕ). k % a) next ∙ mul-add-mod_self_right (n / a) a (suc (n % a)) ∙ mod-eq_of_lt (omega arith) in
        let twice : n % a + 1 + 1 ≡ suc (suc (n % a)) = omega arith in
        let start : (b.subband.top + top_edge b (n / a)) * b.stride + (b.subband.left + left_edge b (n % a)) + (left_edge b (suc (n % a)) - left_edge b (n % a)) ≡ (b.subband.top + top_edge b (n / a)) * b.stride + (b.subband.left + left_edge b (suc (n % a))) = omega (arith, e.forward) in
        let low : b.subband.top + top_edge b (n / a) ≤ 4096 = omega (arith, e.downward, e.bottom-most, counted.tall) in
        let small : (b.subband.top + top_edge b (n / a)) * b.stride ≤ 4096 * 4096 = mul-le-mul low counted.narrow in
        record {
          small = omega (arith, e.right-most, e.forward, counted.wide, counted.narrow);
          forward = omega (arith, part-start-grows b.subband.width a counted.across_least (suc (n % a)) (n % a + 1 + 1) (omega arith));
          block-is = rw (row, column, start, right_is, twice, add-one (n % a)) refl;
        }
