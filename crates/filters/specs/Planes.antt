-- Document 01, "Sizes and the coefficient plane": a plane of rows as a picture, and a picture as a plane.
use Rattle.std.specs.Prelude.{ℕ, ◌+◌, ◌*◌, ◌/◌, ◌%◌, List, ℤ, pos, get_or}
use Rattle.base.specs.Lists.{tabulate}
use Rattle.filters.specs.Passes.{Picture}

-- "The plane has rows of padded width."
unfoldable pub picture_of : ℕ → List ℤ → Picture
picture_of width plane row column = get_or plane (row * width + column) (pos 0)

-- The first height rows and width columns of a picture, row by row.
unfoldable pub raster : ℕ → ℕ → Picture → List ℤ
raster height width P = tabulate (height * width) (λ i. P (i / width) (i % width))
