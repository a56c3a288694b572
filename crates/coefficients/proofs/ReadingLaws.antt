-- Laws of reading: a refused run stays as it is, a number goes on or ends the run, and a value changes its own entry alone.
-- Assumes nothing.
use mathlib.Core.Path.{◌≡◌, refl, sym, ◌∙◌}
use mathlib.Core.Logic.{◌≢◌}
use mathlib.Core.Bool.{Bool, true, false}
use mathlib.Core.List.{List}
use Prim.Native.Nat.{ℕ, ◌+◌, ◌*◌}
use lib.IntN.{ℤ, pos}
use lib.ListN.{get_or, set}
use lib.Seq.{get_or-set_other}
use Rattle.base.specs.Range.{fits32}
use Rattle.base.specs.Sign.{with_sign}
use Rattle.base.specs.Walk.{walk}
use Rattle.base.proofs.WalkLaws.{walk-stays}
use Rattle.exp_golomb.specs.Codes.{Number, Read, Missing, TooLong, status_of, next_of, signed}
use Rattle.coefficients.specs.Reading.{Progress, At, Refused, RunOf, Run, goes_on, stops, going, on_number, store, value, rectangle_values}
use Rattle.coefficients.specs.declared.reading.Rectangle.{Rectangle}

-- A step that a refused run does not take.
abbrev pub Stays : {P : Type 0} → (RunOf P → RunOf P) → Type 0
Stays {P} f = (status bit : ℕ) (plane : P) → f (stops status bit plane) ≡ stops status bit plane

-- a walk of such steps
pub walk-keeps : {P : Type 0} (f : ℕ → RunOf P → RunOf P) → ((k : ℕ) → Stays (f k)) → (i n : ℕ) → Stays (walk f i n)
walk-keeps f each i n status bit plane = walk-stays f i n (stops status bit plane) (λ k. each k status bit plane)

-- what is no number ends the run with its status, at the bit after those taken
pub number-refused : {P : Type 0} (origin : ℕ) (number : Number) (plane : P) (go : ℕ → Bool → ℕ → RunOf P) →
    ((size : ℕ) (minus : Bool) (next : ℕ) → number ≡ Read size minus next → ⊥) →
    on_number origin number plane go ≡ stops (status_of number) (origin + next_of number) plane
unfolding on_number
number-refused origin (Read size minus next) plane go none = absurd (none size minus next refl)
number-refused origin (Missing next) plane go none = refl
number-refused origin (TooLong next) plane go none = refl

-- a value is put where it fits
module _ {P : Type 0} (origin : ℕ) (v : ℤ) (put : ℤ → P → P) (next : ℕ) (plane : P) where
  pub store-fits : fits32 v ≡ true → store origin v put next plane ≡ goes_on next (put v plane)
  unfolding store
  store-fits e = rw e

  pub store_out : fits32 v ≡ false → store origin v put next plane ≡ stops 9 (origin + next) plane
  unfolding store
  store_out e = rw e

module _ (bytes : List ℕ) (end origin : ℕ) (scale : ℕ → ℕ) where
  pub value_stays : {P : Type 0} (put : ℤ → P → P) → Stays (value bytes end origin scale put)
  unfolding value going
  value_stays put status bit plane = refl

  -- a number that was not read ends the run, and one that was is stored
  module _ {P : Type 0} (put : ℤ → P → P) (at : ℕ) (plane : P) where
    pub value-refused : (number : Number) → number ≡ signed bytes end true at →
        ((size : ℕ) (minus : Bool) (next : ℕ) → number ≡ Read size minus next → ⊥) →
        value bytes end origin scale put (goes_on at plane) ≡ stops (status_of number) (origin + next_of number) plane
    unfolding value going
    value-refused number e none = rw (← e) (number-refused origin number plane _ none)

    pub value_read : (number : Number) (size : ℕ) (minus : Bool) (next : ℕ) → number ≡ signed bytes end true at → number ≡ Read size minus next →
        value bytes end origin scale put (goes_on at plane) ≡ store origin (with_sign (scale size) minus) put next plane
    unfolding value going on_number
    value_read number size minus next e read = rw (← e, read)

  -- whatever a put keeps, a value keeps
  pub value-holds : {P : Type 0} (put : ℤ → P → P) (Q : P → Type 0) → ((v : ℤ) (plane : P) → Q plane → Q (put v plane)) →
      (r : RunOf P) → Q r.plane → Q (value bytes end origin scale put r).plane
  unfolding value going on_number
  value-holds {P} put Q keeps r here = by r.progress
    where
      stored : (v : ℤ) (next : ℕ) (fits : Bool) → fits32 v ≡ fits → Q (store origin v put next r.plane).plane
      stored v next true e = rw (store-fits origin v put next r.plane e) (keeps v r.plane here)
      stored v next false e = rw (store_out origin v put next r.plane e) here

      read : (number : Number) → Q (on_number origin number r.plane (λ size minus next. store origin (with_sign (scale size) minus) put next r.plane)).plane
      read (Read size minus next) = stored (with_sign (scale size) minus) next (fits32 (with_sign (scale size) minus)) refl
      read (Missing next) = here
      read (TooLong next) = here

      by : (progress : Progress) →
          Q (going progress r.plane
          (λ at. on_number origin (signed bytes end true at) r.plane (λ size minus next. store origin (with_sign (scale size) minus) put next r.plane))).plane
      by (At at) = read (signed bytes end true at)
      by (Refused status bit) = here

  -- so it changes no entry but its own
  pub value_keeps : (index j : ℕ) → index ≢ j → (r : Run) → get_or (value bytes end origin scale (λ v plane. set plane index v) r).plane j (pos 0) ≡ get_or r.plane j (pos 0)
  value_keeps index j apart r =
      value-holds (λ v plane. set plane index v) (λ plane. get_or plane j (pos 0) ≡ get_or r.plane j (pos 0))
      (λ v plane same. get_or-set_other plane index j v (pos 0) (λ e. apart (sym e)) ∙ same) r refl

  pub rectangle-stays : (a : Rectangle) → Stays (rectangle_values bytes end origin scale a)
  unfolding rectangle_values
  rectangle-stays a =
      walk-keeps (λ y. walk (λ x. value bytes end origin scale (λ v plane. set plane (a.start + y * a.stride + x) v)) 0 a.width)
      (λ y. walk-keeps (λ x. value bytes end origin scale (λ v plane. set plane (a.start + y * a.stride + x) v)) (λ x. value_stays (λ v plane. set plane (a.start + y * a.stride + x) v)) 0 a.width)
      0 a.height
