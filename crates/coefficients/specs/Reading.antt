-- Document 01, "Number codes" and "One subband": reading values. A run is how far reading has come, with what is filled: a plane, or several.
-- Each thing that is read is one step from run to run, and a run that was refused stays as it is.
use Rattle.std.specs.Prelude.{ℕ, ◌+◌, ◌*◌, Bool, true, cond, Result, Ok, Err, List, ℤ, set}
use Rattle.base.specs.Range.{fits32}
use Rattle.base.specs.Sign.{with_sign}
use Rattle.base.specs.Walk.{walk}
use Rattle.base.specs.Refusals.{number_of}
use Rattle.base.specs.declared.status.Fault.{Fault}
use Rattle.exp_golomb.specs.Codes.{Number, Read, Missing, TooLong, status_of, signed}
use Rattle.coefficients.specs.declared.reading.Rectangle.{Rectangle}

-- On, at a bit of the data; or refused, with the refusal's number and the bit at which it arose, counted from the start of all the bytes.
pub data Progress : Type 0 where
  At : (bit : ℕ) → Progress
  Refused : (status bit : ℕ) → Progress

-- What the code answers, as progress: the bit, or its fault.
abbrev pub progress_of : Result ℕ Fault → Progress
progress_of (Ok bit) = At bit
progress_of (Err fault) = Refused (number_of fault.refusal) fault.bit

pub record RunOf (P : Type 0) : Type 0 where
  pub progress : Progress
  pub plane : P

-- A run that fills one plane.
abbrev pub Run : Type 0
Run = RunOf (List ℤ)

-- A run that goes on at a bit, and one that was refused, with the bit at which that arose.
abbrev pub goes_on : {P : Type 0} → ℕ → P → RunOf P
goes_on bit plane = record { progress = At bit; plane = plane }

abbrev pub stops : {P : Type 0} → ℕ → ℕ → P → RunOf P
stops status bit plane = record { progress = Refused status bit; plane = plane }

-- The next step of a run, which a refused run does not take.
unfoldable pub going : {P : Type 0} → Progress → P → (ℕ → RunOf P) → RunOf P
going (At bit) plane next = next bit
going (Refused status bit) plane next = stops status bit plane

-- "Only a number that was read goes on; anything else ends the subband." The data's first bit is bit `origin` of all the bytes.
unfoldable pub on_number : {P : Type 0} → ℕ → Number → P → (ℕ → Bool → ℕ → RunOf P) → RunOf P
on_number origin (Read size minus next) plane go = go size minus next
on_number origin (Missing next) plane go = stops (status_of (Missing next)) (origin + next) plane
on_number origin (TooLong next) plane go = stops (status_of (TooLong next)) (origin + next) plane

-- A value put where it belongs; 9 where "an unpacked or predicted value is outside signed 32 bits".
unfoldable pub store : {P : Type 0} → ℕ → ℤ → (ℤ → P → P) → ℕ → P → RunOf P
store origin v put next plane = cond (fits32 v) (goes_on next (put v plane)) (stops 9 (origin + next) plane)

-- Data that end at bit `end`, whose first bit is bit `origin` of all the bytes; a size that was read becomes `scale` of it.
module _ (bytes : List ℕ) (end origin : ℕ) (scale : ℕ → ℕ) where
  -- "its values follow in raster order, each a signed number, dequantised", and "the sign is kept"; from data of a stated length
  unfoldable pub value : {P : Type 0} → (ℤ → P → P) → RunOf P → RunOf P
  value put r =
      going r.progress r.plane
      (λ at. on_number origin (signed bytes end true at) r.plane (λ size minus next. store origin (with_sign (scale size) minus) put next r.plane))

  -- the values of a rectangle of a plane
  unfoldable pub rectangle_values : Rectangle → Run → Run
  rectangle_values a r =
      walk (λ y. walk (λ x. value (λ v plane. set plane (a.start + y * a.stride + x) v)) 0 a.width) 0 a.height r
