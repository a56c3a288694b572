-- Document 01, "One subband": a subband's columns, or rows, divided among blocks.
use Rattle.std.specs.Prelude.{ℕ, ◌*◌, ◌/◌}

-- "block x of c across covers columns floor(bw·x/c) up to but not including floor(bw·(x+1)/c); rows likewise"
unfoldable pub part_start : ℕ → ℕ → ℕ → ℕ
part_start size count x = size * x / count
