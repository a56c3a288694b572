-- Document 02, request Four: "Unpack all three components into three coefficient planes".
use Rattle.std.specs.Prelude.{ℕ, List, ℤ, set}
use Rattle.base.specs.Lists.{zeros_like}

-- The planes of luma, C1 and C2.
pub record Planes : Type 0 where
  pub luma : List ℤ
  pub first : List ℤ
  pub second : List ℤ

abbrev pub planes_of : List ℤ → List ℤ → List ℤ → Planes
planes_of luma first second = record { luma = luma; first = first; second = second }

-- As many zeros as the planes have entries.
unfoldable pub zeros : Planes → Planes
zeros p = planes_of (zeros_like p.luma) (zeros_like p.first) (zeros_like p.second)

-- The planes with a number put to an entry of one of them.
unfoldable pub in_luma : ℕ → ℤ → Planes → Planes
in_luma i v p = planes_of (set p.luma i v) p.first p.second

unfoldable pub in_first : ℕ → ℤ → Planes → Planes
in_first i v p = planes_of p.luma (set p.first i v) p.second

unfoldable pub in_second : ℕ → ℤ → Planes → Planes
in_second i v p = planes_of p.luma p.first (set p.second i v)
