-- Document 01, "Sizes and the coefficient plane": padded sizes and band sizes.
use Rattle.std.specs.Prelude.{ℕ, zero, suc, ◌+◌, ◌-◌, ◌*◌, ◌/◌, ◌^◌}
use Rattle.component.specs.declared.parameters.Parameters.{Parameters}

-- "With s = 2^depth, padded width is s times the ceiling of width/s; height likewise."
unfoldable pub padded_size : ℕ → ℕ → ℕ
padded_size depth size = (size + (2 ^ depth - 1)) / 2 ^ depth * 2 ^ depth

abbrev pub padded_width : Parameters → ℕ
padded_width p = padded_size p.depth p.width

abbrev pub padded_height : Parameters → ℕ
padded_height p = padded_size p.depth p.height

-- "Level 0 (LL) has padded/2^depth; level n from 1 has padded/2^(depth − n + 1)."
unfoldable pub band_size : ℕ → ℕ → ℕ → ℕ
band_size depth padded zero = padded / 2 ^ depth
band_size depth padded (suc n) = padded / 2 ^ (depth - n)

abbrev pub low_width : Parameters → ℕ
low_width p = band_size p.depth (padded_width p) 0

abbrev pub low_height : Parameters → ℕ
low_height p = band_size p.depth (padded_height p) 0

-- "Depth 0 is LL itself; a picture of depth n is built on the picture of depth n − 1": interleaving bands doubles the height and the width.
unfoldable pub size_at : ℕ → ℕ → ℕ
size_at size zero = size
size_at size (suc n) = 2 * size_at size n
