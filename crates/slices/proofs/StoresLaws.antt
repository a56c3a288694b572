-- Laws of a part's values that are put where they belong: a row of one plane, a row of each of two, and row after row.
-- Assumes nothing.
use mathlib.Core.Path.{◌≡◌, refl, sym, ap, ◌∙◌}
use mathlib.Core.List.{List}
use Prim.Native.Nat.{ℕ, zero, suc, ◌+◌, ◌*◌, ◌/◌, ◌%◌, ◌≤◌, ◌<◌}
use native.Mathlib.Nat.{zero-add, mul-one, div-one, mul-le-mul_right, suc-mul}
use native.Mathlib.Omega.{arith}
use lib.IntN.{ℤ, pos}
use lib.ListN.{get_or}
use Rattle.base.specs.Fill.{fill}
use Rattle.base.specs.Walk.{walk}
use Rattle.base.proofs.WalkLaws.{walk_none, walk_more, walk_split, walk-next}
use Rattle.coefficients.specs.declared.reading.Rectangle.{Rectangle}
use Rattle.slices.specs.Planes.{Planes, planes_of, in_luma, in_first, in_second}
use Rattle.slices.specs.Stores.{turns, put_in_row, stored_row, stored_rows, SameLengths, SamePlanes, RowFits, RoomOfRow, Room}
use Rattle.slices.specs.declared.stores.ThreePlanes.{ThreePlanes}
use Rattle.slices.specs.declared.parameters.Holder.{Holder}
use Rattle.slices.specs.declared.parameters.Holder.TheVariants.{Luma, Both}

module _ (luma first second : List ℤ) (index : ℕ) (run : List ℤ) (from : ℕ) where
  -- what a row's entry gets
  abbrev at : ℕ → ℤ
  at j = get_or run (from + j) (pos 0)

  abbrev unstored : Planes
  unstored = planes_of luma first second

  -- a row of luma
  luma-walked : (n : ℕ) → walk (λ j. put_in_row Luma index j (at j)) 0 n unstored ≡ planes_of (fill luma index n at) first second
  unfolding fill in_luma
  luma-walked zero = walk_none (λ j. put_in_row Luma index j (at j)) 0 unstored
  luma-walked (suc n) =
      walk_more (λ j. put_in_row Luma index j (at j)) 0 n unstored
      ∙ rw (zero-add n, div-one n, luma-walked n) refl

  pub luma-row : (width : ℕ) → planes_of (fill luma index width at) first second ≡ stored_row Luma index width run from unstored
  unfolding stored_row
  luma-row width = rw (mul-one width) (sym (luma-walked width))

  -- a row of C1 and one of C2
  abbrev even_at : ℕ → ℤ
  even_at x = get_or run (from + 2 * x) (pos 0)

  abbrev odd_at : ℕ → ℤ
  odd_at x = get_or run (from + 2 * x + 1) (pos 0)

  both-walked : (n : ℕ) → walk (λ j. put_in_row Both index j (at j)) 0 (n * 2) unstored ≡ planes_of luma (fill first index n even_at) (fill second index n odd_at)
  unfolding fill in_first in_second walk
  both-walked zero = refl
  both-walked (suc n) =
      let more : suc n * 2 ≡ n * 2 + 2 = omega arith in
      let even-turn : (n * 2) % 2 ≡ 0 = omega arith in
      let even-entry : n * 2 / 2 ≡ n = omega arith in
      let odd-turn : suc (n * 2) % 2 ≡ 1 = omega arith in
      let odd-entry : suc (n * 2) / 2 ≡ n = omega arith in
      let even_is : from + n * 2 ≡ from + 2 * n = omega arith in
      let odd_is : from + suc (n * 2) ≡ from + 2 * n + 1 = omega arith in
      ap (λ (k : ℕ). walk (λ j. put_in_row Both index j (at j)) 0 k unstored) more
      ∙ walk_split (λ j. put_in_row Both index j (at j)) 0 (n * 2) 2 unstored
      ∙ rw (zero-add (n * 2), both-walked n, even-turn, even-entry, odd-turn, odd-entry, even_is, odd_is) refl

  pub both-row : (width : ℕ) → planes_of luma (fill first index width even_at) (fill second index width odd_at) ≡ stored_row Both index width run from unstored
  unfolding stored_row
  both-row width = sym (both-walked width)

-- row after row
module _ (holder : Holder) (a : Rectangle) (run : List ℤ) (p : Planes) where
  pub rows_none : p ≡ stored_rows holder a run 0 p
  unfolding stored_rows walk
  rows_none = refl

  pub rows_more : (y : ℕ) (sofar next : Planes) → sofar ≡ stored_rows holder a run y p →
      next ≡ stored_row holder (a.start + y * a.stride) a.width run (y * (a.width * turns holder)) sofar → next ≡ stored_rows holder a run (y + 1) p
  unfolding stored_rows
  rows_more y sofar next so step =
      sym (walk-next (λ y. stored_row holder (a.start + y * a.stride) a.width run (y * (a.width * turns holder))) y p sofar next (sym so) (sym step))

-- a row of a rectangle has room
pub row_room : (holder : Holder) (a : Rectangle) (p : Planes) (run : List ℤ) → Room holder a p run → (y : ℕ) → y < a.height →
    RoomOfRow holder (a.start + y * a.stride) a.width (y * (a.width * turns holder)) p run
row_room holder a p run room y below =
    let values = a.width * turns holder in
    let rows : suc y * values ≤ a.height * values = mul-le-mul_right values below in
    record { fits = room.fits.rows y below; there = omega (arith, room.there, suc-mul y values) }

-- planes that are the same as others that are the same as a third
pub same_planes-then : (a b c : ThreePlanes) → SamePlanes a b → SamePlanes b c → SamePlanes a c
same_planes-then a b c one next =
    ((next.0.0 ∙ one.0.0, next.0.1 ∙ one.0.1, next.0.2 ∙ one.0.2), (next.1.0 ∙ one.1.0, next.1.1 ∙ one.1.1, next.1.2 ∙ one.1.2))

-- planes of the same lengths have the same room
module _ (p q : Planes) (same : SameLengths p q) where
  row-fits-same : (holder : Holder) (end : ℕ) → RowFits holder end p → RowFits holder end q
  row-fits-same Luma end fits = omega (arith, fits, same.0)
  row-fits-same Both end fits = (omega (arith, fits.0, same.1), omega (arith, fits.1, same.2))

  pub room-same : (holder : Holder) (index width from : ℕ) (run : List ℤ) → RoomOfRow holder index width from p run → RoomOfRow holder index width from q run
  room-same holder index width from run room = record { fits = row-fits-same holder (index + width) room.fits; there = room.there }
