-- The code's own form: the output, part by part. No definition of the format rests on it.
use Rattle.std.specs.Prelude.{ℕ, cond, List, eqb}
use Rattle.contents.specs.Table.{entry_count}
use Rattle.text.specs.Text.{ascii}
use Rattle.recording.specs.Output.{entry_text}

-- How many parts the output of a file with so many entries has: one for each entry, or the one line of a wrong table.
unfoldable pub part_count : ℕ → ℕ
part_count entries = cond (eqb entries 0) 1 entries

-- Part k of them, for k below that count.
unfoldable pub part : List ℕ → ℕ → List ℕ
part file k = cond (eqb (entry_count file) 0) (ascii "refused 11\n") (entry_text file k)
