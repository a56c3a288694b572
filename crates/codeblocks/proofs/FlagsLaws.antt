-- Laws of a codeblock's flag where there are several: a bit that is there, and one that is not.
-- Assumes nothing.
use mathlib.Core.Path.{◌≡◌, refl, sym, ap, ◌∙◌}
use mathlib.Core.Logic.{◌≢◌}
use mathlib.Core.Bool.{Bool, true, false}
use mathlib.Core.List.{List}
use Prim.Native.Nat.{ℕ, ◌≤◌}
use native.Mathlib.Omega.{arith}
use lib.Dec.{eqb}
use Rattle.std.specs.Prelude.{None, Some}
use Rattle.std.proofs.lemmas.Option.{none-some}
use Rattle.exp_golomb.specs.Bits.{Taken, Absent, present, take_bit}
use Rattle.exp_golomb.proofs.BitsLaws.{present-below, take-past-stated, take-absent, bit-taken, absent-past, stated-bit}
use Rattle.exp_golomb.proofs.BeginsLaws.{bit-begins}
use Rattle.coefficients.specs.declared.reading.Cursor.{Cursor}
use Rattle.codeblocks.specs.Flags.{Flagged}

-- a bit taken no later than the end leaves the next one no later
taken-before : (bytes : List ℕ) (end : ℕ) (stated : Bool) (i bit next : ℕ) → take_bit bytes end stated i ≡ Taken bit next → i ≤ end → next ≤ end
taken-before bytes end stated i bit next e before = by (present bytes end i) refl
  where
    past : present bytes end i ≡ false → (s : Bool) → stated ≡ s → next ≤ end
    past p true s =
        let same : Taken 1 i ≡ Taken bit next = sym (take-past-stated bytes end i stated p s) ∙ e in
        let here : i ≡ next = cc in
        omega arith
    past p false s =
        let same : Absent ≡ Taken bit next = sym (take-absent bytes end i stated p s) ∙ e in
        let z : ◌≡◌ {A = ℕ} 0 1 = cc in
        absurd (omega arith)

    by : (there : Bool) → present bytes end i ≡ there → next ≤ end
    by true p = omega (arith, present-below bytes end i p, (bit-taken bytes end stated i bit next e).one_at_most)
    by false p = past p stated refl

module _ (count : ℕ) (bytes : List ℕ) (c : Cursor) where
  -- one of several has a bit, which may not be there
  module _ (several : count ≢ 1) where
    pub flag-absent : take_bit bytes c.end c.stated c.bit ≡ Absent → Flagged count bytes c None
    flag-absent absent =
        record {
          single = λ one. absurd (several one);
          taken = λ many flag e. absurd (none-some _ e);
          before_end = λ before flag e. absurd (none-some _ e);
          close_to_end = λ e. omega (arith, absent-past bytes c.end c.stated c.bit absent);
          full = λ stated.
              absurd
              (stated-bit bytes c.end _ c.bit
              (λ bit next t.
              let never : Taken bit next ≡ Absent = sym t ∙ (rw stated at absent) in
              let z : ◌≡◌ {A = ℕ} 0 1 = cc in
              omega arith));
        }

    -- or is
    pub flag-taken : (bit next : ℕ) → take_bit bytes c.end c.stated c.bit ≡ Taken bit next →
        Flagged count bytes c (Some (record { skipped = eqb bit 1; bit = next }))
    flag-taken bit next there =
        record {
          single = λ one. absurd (several one);
          taken = λ many flag e whole end begins.
              let next-is : next ≡ flag.bit = cc in
              let skips : flag.skipped ≡ eqb bit 1 = cc in
              (bit, bit-begins c.stated bytes c.end whole end begins c.bit bit next there ∙ ap (Taken bit) next-is, skips);
          before_end = λ before flag e.
              let next-is : next ≡ flag.bit = cc in
              omega (arith, taken-before bytes c.end c.stated c.bit bit next there before);
          close_to_end = λ e. absurd (none-some _ (sym e));
          full = λ stated e. absurd (none-some _ (sym e));
        }
