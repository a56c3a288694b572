-- Document 01, "A recording": the contents at the start of a file, what each entry says, and where the bodies stand.
use Rattle.std.specs.Prelude.{ℕ, zero, suc, ◌+◌, ◌*◌, Bool, cond, ◌&&◌, List, [], ◌∷◌, leb, eqb, length, take, drop, get_or}
use Rattle.base.specs.Every.{all_below}
use Rattle.component.specs.Checks.{in_range}
use Rattle.component.specs.declared.parameters.Parameters.{Parameters}
use Rattle.contents.specs.Bytes.{big_endian}
use Rattle.contents.specs.declared.table.Entry.{Entry}

-- "First the contents: one byte, the number of entries, 1..16." 0 where there is no byte.
abbrev pub stated_count : List ℕ → ℕ
stated_count file = get_or file 0 0

-- "Each entry has 26 bytes": where entry k starts, and after the last, where the table ends.
abbrev pub entry_offset : ℕ → ℕ
entry_offset k = 1 + 26 * k

-- "0 means the default, 1"
unfoldable pub codeblock_count : ℕ → ℕ
codeblock_count zero = 1
codeblock_count (suc n) = suc n

-- "five pairs of block counts (across, down; ..)": every other byte, from an offset on.
unfoldable pub codeblock_counts : List ℕ → ℕ → List ℕ
codeblock_counts file at =
    codeblock_count (get_or file at 0)
    ∷ codeblock_count (get_or file (at + 2) 0)
    ∷ codeblock_count (get_or file (at + 4) 0)
    ∷ codeblock_count (get_or file (at + 6) 0)
    ∷ codeblock_count (get_or file (at + 8) 0)
    ∷ []

-- "width (2), height (2), depth, wavelet, intra (0 or 1), a zero byte, five pairs of block counts (across, down; 0 means the default, 1),
-- offset (4), length (4)"
unfoldable pub parameters_at : List ℕ → ℕ → Parameters
parameters_at file k =
    record {
      width = big_endian file (entry_offset k) 2;
      height = big_endian file (entry_offset k + 2) 2;
      depth = get_or file (entry_offset k + 4) 0;
      wavelet = get_or file (entry_offset k + 5) 0;
      intra = eqb (get_or file (entry_offset k + 6) 0) 1;
      codeblocks_across = codeblock_counts file (entry_offset k + 8);
      codeblocks_down = codeblock_counts file (entry_offset k + 9);
    }

unfoldable pub offset_at : List ℕ → ℕ → ℕ
offset_at file k = big_endian file (entry_offset k + 18) 4

unfoldable pub length_at : List ℕ → ℕ → ℕ
length_at file k = big_endian file (entry_offset k + 22) 4

-- "Then the bodies, in order, without gaps; the first starts at the table's end": where body k has to start.
unfoldable pub body_start : List ℕ → ℕ → ℕ
body_start file zero = entry_offset (stated_count file)
body_start file (suc k) = body_start file k + length_at file k

-- What the paragraph asks of entry k: "intra (0 or 1), a zero byte", and its body's offset.
unfoldable pub entry_is_right : List ℕ → ℕ → Bool
entry_is_right file k =
    leb (get_or file (entry_offset k + 6) 0) 1
    && eqb (get_or file (entry_offset k + 7) 0) 0
    && eqb (offset_at file k) (body_start file k)

-- "the last ends the file. A file over 65,536 bytes, or any breach of this paragraph, is 11"
unfoldable pub table_is_right : List ℕ → Bool
table_is_right file =
    leb (length file) 65536
    && in_range 1 16 (stated_count file)
    && leb (entry_offset (stated_count file)) (length file)
    && all_below (stated_count file) (entry_is_right file)
    && eqb (body_start file (stated_count file)) (length file)

-- How many entries a recording has: 0 where its table is wrong.
unfoldable pub entry_count : List ℕ → ℕ
entry_count file = cond (table_is_right file) (stated_count file) 0

-- Entry k: its parameters, where its body starts, and how long that is.
unfoldable pub entry_at : List ℕ → ℕ → Entry
entry_at file k = record { parameters = parameters_at file k; start = body_start file k; size = length_at file k }

-- The bytes of body k.
unfoldable pub body : List ℕ → ℕ → List ℕ
body file k = take (length_at file k) (drop (body_start file k) file)
