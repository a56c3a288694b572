-- Document 01, "A recording": the contents of the whole case.
-- Assumes nothing.
use mathlib.Core.Path.{◌≡◌, refl}
use mathlib.Core.Bool.{true}
use mathlib.Core.List.{List, [], ◌∷◌}
use Prim.Native.Nat.{ℕ}
use Rattle.base.specs.Every.{all_below}
use Rattle.contents.specs.Bytes.{big_endian}
use Rattle.contents.specs.Table.{codeblock_count, codeblock_counts, parameters_at, offset_at, length_at, body_start, entry_is_right, table_is_right, entry_count, entry_at, body}

-- "01 00 02 00 02 01 03 01 00, ten bytes 00, 00 00 00 1B 00 00 00 08, then 30 16 30 18 30 70 30 20"
unfoldable pub whole_case : List ℕ
whole_case =
    1 ∷ 0 ∷ 2 ∷ 0 ∷ 2 ∷ 1 ∷ 3 ∷ 1 ∷ 0
    ∷ 0 ∷ 0 ∷ 0 ∷ 0 ∷ 0 ∷ 0 ∷ 0 ∷ 0 ∷ 0 ∷ 0
    ∷ 0 ∷ 0 ∷ 0 ∷ 27 ∷ 0 ∷ 0 ∷ 0 ∷ 8
    ∷ 48 ∷ 22 ∷ 48 ∷ 24 ∷ 48 ∷ 112 ∷ 48 ∷ 32 ∷ []

abbrev ones : List ℕ
ones = 1 ∷ 1 ∷ 1 ∷ 1 ∷ 1 ∷ []

-- it has one entry, of 2 by 2 samples at depth 1, wavelet 3, intra, and every codeblock count 1, whose body is the last eight bytes
pub whole-case-contents :
    (entry_count whole_case ≡ 1)
    × (entry_at whole_case 0 ≡
    record {
      parameters = record {
        width = 2;
        height = 2;
        depth = 1;
        wavelet = 3;
        intra = true;
        codeblocks_across = ones;
        codeblocks_down = ones;
      };
      start = 27;
      size = 8;
    })
    × (body whole_case 0 ≡ 48 ∷ 22 ∷ 48 ∷ 24 ∷ 48 ∷ 112 ∷ 48 ∷ 32 ∷ [])
unfolding whole_case big_endian codeblock_count codeblock_counts parameters_at all_below offset_at length_at body_start entry_is_right table_is_right entry_count entry_at body
whole-case-contents = (refl, refl, refl)
