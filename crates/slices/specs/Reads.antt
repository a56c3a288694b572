-- The code's own forms: the run that values go through, and what reading left. No definition of the format rests on them.
use Rattle.std.specs.Prelude.{ℕ, ◌+◌, ◌*◌, ◌≤◌, ◌≡◌, Result, Ok, List, ℤ, pos, length, get_or}
use Rattle.base.specs.declared.status.Fault.{Fault}
use Rattle.coefficients.specs.Reading.{RunOf, progress_of}
use Rattle.coefficients.specs.declared.reading.Rectangle.{Rectangle}
use Rattle.runs.specs.declared.Span.{Span}
use Rattle.slices.specs.Planes.{Planes}
use Rattle.slices.specs.Parts.{PartData}

-- The data of a part that stands somewhere in bytes.
abbrev pub data_of : List ℕ → Span → PartData
data_of bytes s = record { bytes = bytes; origin = s.origin; from = s.bit; to = s.end }

-- Row y of a rectangle, as a rectangle.
abbrev pub row_of : Rectangle → ℕ → Rectangle
row_of a y = record { start = a.start + y * a.stride; stride = a.stride; width = a.width; height = 1 }

-- A run of zeros.
pub record Blank (run : List ℤ) : Type 0 where
  pub room : 8192 ≤ length run
  pub zeros : (k : ℕ) → get_or run k (pos 0) ≡ pos 0

-- What reading left is what a definition says: how far it came; and where it goes on, which is no later than the end of the data, the planes.
-- The run then holds zeros.
pub record Left (end : ℕ) (result : Result ℕ Fault) (planes : Planes) (run : List ℤ) (r : RunOf Planes) : Type 0 where
  pub progress_is : progress_of result ≡ r.progress
  pub planes_are : (bit : ℕ) → result ≡ Ok bit → planes ≡ r.plane
  pub before_end : (bit : ℕ) → result ≡ Ok bit → bit ≤ end
  pub run_blank : (bit : ℕ) → result ≡ Ok bit → Blank run
