-- The code's own forms: a part's values counted one after the other, and put where they belong. No definition of the format rests on them.
use Rattle.std.specs.Prelude.{ℕ, zero, suc, ◌+◌, ◌*◌, ◌/◌, ◌%◌, ◌≤◌, ◌<◌, ◌≡◌, List, ℤ, pos, length, get_or}
use Rattle.base.specs.Walk.{walk}
use Rattle.coefficients.specs.declared.reading.Rectangle.{Rectangle}
use Rattle.slices.specs.Planes.{Planes, planes_of, in_luma, in_first, in_second}
use Rattle.slices.specs.declared.stores.ThreePlanes.{ThreePlanes}
use Rattle.slices.specs.declared.parameters.Holder.{Holder}
use Rattle.slices.specs.declared.parameters.Holder.TheVariants.{Luma, Both}

-- How many values there are for an entry.
abbrev pub turns : Holder → ℕ
turns Luma = 1
turns Both = 2

-- The planes with the value of a turn put to an entry.
abbrev pub put_turn : Holder → ℕ → ℕ → ℤ → Planes → Planes
put_turn Luma turn i v p = in_luma i v p
put_turn Both zero i v p = in_first i v p
put_turn Both (suc turn) i v p = in_second i v p

-- Value j of a row that starts at an index, and the values of such a row, taken from a run, from its entry `from` on.
abbrev pub put_in_row : Holder → ℕ → ℕ → ℤ → Planes → Planes
put_in_row holder index j v p = put_turn holder (j % turns holder) (index + j / turns holder) v p

unfoldable pub stored_row : Holder → ℕ → ℕ → List ℤ → ℕ → Planes → Planes
stored_row holder index width run from p = walk (λ j. put_in_row holder index j (get_or run (from + j) (pos 0))) 0 (width * turns holder) p

-- The first n rows of a rectangle.
unfoldable pub stored_rows : Holder → Rectangle → List ℤ → ℕ → Planes → Planes
stored_rows holder a run n p = walk (λ y. stored_row holder (a.start + y * a.stride) a.width run (y * (a.width * turns holder))) 0 n p

-- The planes behind three references.
abbrev pub planes_behind : ThreePlanes → Planes
planes_behind p = planes_of p.luma.now p.first.now p.second.now

-- Planes as long as they were, behind the same references.
abbrev pub SameLengths : Planes → Planes → Type 0
SameLengths before after =
    (length after.luma ≡ length before.luma) × (length after.first ≡ length before.first) × (length after.second ≡ length before.second)

abbrev pub SameReferences : ThreePlanes → ThreePlanes → Type 0
SameReferences before after =
    (after.luma.ghost_name ≡ before.luma.ghost_name) × (after.first.ghost_name ≡ before.first.ghost_name) × (after.second.ghost_name ≡ before.second.ghost_name)

abbrev pub SamePlanes : ThreePlanes → ThreePlanes → Type 0
SamePlanes before after = SameReferences before after × SameLengths (planes_behind before) (planes_behind after)

-- The entries of a row lie in its planes.
abbrev pub RowFits : Holder → ℕ → Planes → Type 0
RowFits Luma end p = end ≤ length p.luma
RowFits Both end p = (end ≤ length p.first) × (end ≤ length p.second)

pub record RoomOfRow (holder : Holder) (index width from : ℕ) (p : Planes) (run : List ℤ) : Type 0 where
  pub fits : RowFits holder (index + width) p
  pub there : from + width * turns holder ≤ length run

-- So do those of every row of a rectangle; and the run has values for all of them.
pub record Fits (holder : Holder) (a : Rectangle) (p : Planes) : Type 0 where
  pub narrow : a.width ≤ 4096
  pub tall : a.height ≤ 4096
  pub close : a.stride ≤ 4096
  pub rows : (y : ℕ) → y < a.height → RowFits holder (a.start + y * a.stride + a.width) p

pub record Room (holder : Holder) (a : Rectangle) (p : Planes) (run : List ℤ) : Type 0 where
  pub fits : Fits holder a p
  pub there : a.height * (a.width * turns holder) ≤ length run
