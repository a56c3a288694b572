-- The code's own form: a text in a caller's bytes. No definition of the format rests on it.
use Rattle.std.specs.Prelude.{ℕ, ◌≡◌, ◌≤◌, List, length}
use Rattle.text.specs.declared.slice.TextSlice.{TextSlice}
use Rattle.text.specs.Put.{Put}

-- The text goes on by a piece, in the same bytes: they are as many as before, and it ends within them.
abbrev pub Extended : TextSlice → List ℕ → TextSlice → Type 0
Extended earlier piece later =
    (later.bytes.ghost_name ≡ earlier.bytes.ghost_name)
    × (length later.bytes.now ≡ length earlier.bytes.now)
    × (later.end ≤ length later.bytes.now)
    × Put earlier.end earlier.bytes.now piece later.end later.bytes.now
