-- Laws of a rectangle's values that are read as far as the data at hand go, in runs: a run is a step, and leaves all other entries.
-- Assumes nothing.
use mathlib.Core.Path.{◌≡◌, refl, sym, ap, ◌∙◌}
use mathlib.Core.Logic.{◌≢◌}
use mathlib.Core.Bool.{true, false}
use mathlib.Core.List.{List}
use Prim.Native.Nat.{ℕ, ◌+◌, ◌-◌, ◌≤◌, ◌<◌}
use native.Mathlib.Decide.{dec_lt}
use native.Mathlib.Omega.{arith}
use lib.IntN.{ℤ, pos}
use lib.ListN.{length, get_or, set}
use Rattle.std.specs.Prelude.{Result, Ok}
use Rattle.std.proofs.lemmas.Bool.{true≢false}
use Rattle.base.specs.declared.status.Fault.{Fault}
use Rattle.base.proofs.WalkLaws.{walk_same}
use Rattle.exp_golomb.specs.Begins.{Begins}
use Rattle.exp_golomb.proofs.BeginsLaws.{begins-itself}
use Rattle.coefficients.specs.Reading.{Run, goes_on, value}
use Rattle.coefficients.specs.Values.{after, index_of, entry, entries, Ready}
use Rattle.coefficients.specs.Portions.{Sound, CloseToEnd, Reads}
use Rattle.coefficients.specs.declared.reading.Cursor.{Cursor}
use Rattle.coefficients.specs.declared.reading.Portion.{Portion}
use Rattle.coefficients.specs.declared.reading.Rectangle.{Rectangle}
use Rattle.coefficients.specs.declared.values.Layout.{Layout}
use Rattle.coefficients.proofs.ValuesLaws.{entries-keep, index-grows}
use Rattle.rectangles.specs.Areas.{size_of, value_index, area_values, Inside, ClearFrom}
use Rattle.rectangles.specs.Layouts.{Covers}
use Rattle.rectangles.specs.Portions.{ReadsOn}
use Rattle.rectangles.proofs.AreasLaws.{area-first, inside-small, value-index-grows, value-index-inside}

-- The same data, at another bit.
abbrev pub moved : Cursor → ℕ → Cursor
moved c bit = record { bit = bit; end = c.end; stated = c.stated; origin = c.origin }

-- it is sound, no later than the end
pub moved-sound : (c : Cursor) (bit : ℕ) → bit ≤ c.end → Sound c → Sound (moved c bit)
moved-sound c bit early sound = record { before_end = early; small = sound.small }

-- Values from value `from` on have been read into a plane, up to value i.
pub record SoFar (bytes : List ℕ) (c : Cursor) (scale : ℕ → ℕ) (a : Rectangle) (from : ℕ) (plane : List ℤ) (progress : Result ℕ Fault) (i : ℕ) (last : List ℤ) : Type 0 where
  pub values : (whole : List ℕ) (end : ℕ) → Begins c.stated bytes c.end whole end →
      area_values whole end c.origin scale a from (goes_on c.bit plane) ≡ area_values whole end c.origin scale a i (after progress last)
  pub onward : from ≤ i
  pub same_length : length last ≡ length plane
  pub kept : (j : ℕ) → ((k : ℕ) → k < size_of a → value_index a k ≢ j) → get_or last j (pos 0) ≡ get_or plane j (pos 0)
  pub clear : ClearFrom a i last
  pub before_end : (next : ℕ) → progress ≡ Ok next → next ≤ c.end

-- none yet
pub so-far-none : (bytes : List ℕ) (c : Cursor) (scale : ℕ → ℕ) (a : Rectangle) (from : ℕ) (plane : List ℤ) → ClearFrom a from plane → Sound c →
    SoFar bytes c scale a from plane (Ok c.bit) from plane
so-far-none bytes c scale a from plane clear sound =
    record {
      values = λ whole end begins. refl;
      onward = omega arith;
      same_length = refl;
      kept = λ j apart. refl;
      clear = clear;
      before_end = λ next e.
          let same : c.bit ≡ next = cc in
          omega (arith, sound.before_end);
    }

-- A run of a layout, from value i on.
module _ (a : Rectangle) (i : ℕ) (l : Layout) (covers : Covers a i l) where
  -- its values are the rectangle's
  run-values : (bytes : List ℕ) (end origin : ℕ) (scale : ℕ → ℕ) (n : ℕ) (r : Run) → i + n ≤ l.count →
      entries bytes end origin scale (value_index a) i n r ≡ entries bytes end origin scale (index_of l) i n r
  unfolding entries entry
  run-values bytes end origin scale n r inside =
      walk_same (λ k. value bytes end origin scale (λ v plane. set plane (value_index a k) v)) (λ k. value bytes end origin scale (λ v plane. set plane (index_of l k) v)) i i n r
      (λ k below t. ap (λ (x : ℕ). value bytes end origin scale (λ v plane. set plane x v) t) (sym (covers.each (i + k) (omega arith) (omega arith))))

  -- it can be read
  pub run-ready : (plane : List ℤ) → Inside a plane → ClearFrom a i plane → Ready l i plane
  run-ready plane inside clear =
      let least = covers.some in
      let last : l.count - 1 < size_of a = omega (arith, covers.few) in
      let end : index_of l (l.count - 1) < length plane = rw (covers.each (l.count - 1) (omega arith) (omega arith)) (value-index-inside a plane (l.count - 1) inside last) in
      record {
        few = omega (arith, covers.few, inside-small inside);
        low = covers.low;
        counted = omega arith;
        inside = λ k below.
            elim (dec_lt k (l.count - 1)) [
              | yes earlier ↦ omega (arith, index-grows l k (l.count - 1) earlier)
              | no not_earlier ↦
                  let same : k ≡ l.count - 1 = omega arith in
                  rw same end
            ];
        clear = record {
          each = λ k late below. rw (covers.each k late below) (clear.each k late (omega (arith, covers.few)));
        };
      }

  module _ (bytes : List ℕ) (c : Cursor) (scale : ℕ → ℕ) (bit : ℕ) (plane : List ℤ) (r : Portion) (last : List ℤ) (reads : Reads bytes (moved c bit) scale (index_of l) i plane r last) (short : i + r.count ≤ l.count) where
    -- the portion as values of the rectangle
    run-read : (whole : List ℕ) (end : ℕ) → Begins c.stated bytes c.end whole end →
        entries whole end c.origin scale (value_index a) i r.count (goes_on bit plane) ≡ after r.progress last
    run-read whole end begins = run-values whole end c.origin scale r.count (goes_on bit plane) short ∙ reads.values whole end begins

    -- it leaves every entry but those of its values
    run-keeps : (j : ℕ) → ((k : ℕ) → i ≤ k → k < i + r.count → value_index a k ≢ j) → get_or last j (pos 0) ≡ get_or plane j (pos 0)
    run-keeps j apart =
        sym (ap (λ (t : Run). get_or t.plane j (pos 0)) (run-read bytes c.end (begins-itself c.stated bytes c.end)))
        ∙ entries-keep bytes c.end c.origin scale (value_index a) i r.count j apart (goes_on bit plane)

    -- it is a step
    run_step : (whole : List ℕ) (end : ℕ) → Begins c.stated bytes c.end whole end →
        area_values whole end c.origin scale a i (goes_on bit plane) ≡ area_values whole end c.origin scale a (i + r.count) (after r.progress last)
    run_step whole end begins =
        area-first whole end c.origin scale a i r.count (goes_on bit plane) (omega (arith, covers.few))
        ∙ ap (area_values whole end c.origin scale a (i + r.count)) (run-read whole end begins)

    -- so the values are read up to the last of the run
    pub so-far-on : (from : ℕ) (first : List ℤ) → a.width ≤ a.stride → SoFar bytes c scale a from first (Ok bit) i plane → length last ≡ length plane →
        SoFar bytes c scale a from first r.progress (i + r.count) last
    so-far-on from first wide sofar same =
        let room : i + r.count ≤ size_of a = omega (arith, covers.few) in
        record {
          values = λ whole end begins. sofar.values whole end begins ∙ run_step whole end begins;
          onward = omega (arith, sofar.onward);
          same_length = same ∙ sofar.same_length;
          kept = λ j apart. run-keeps j (λ k late below. apart k (omega arith)) ∙ sofar.kept j apart;
          clear = record {
            each = λ k late below.
                run-keeps (value_index a k) (λ m after-i before-k e.
                let grows : value_index a m < value_index a k = value-index-grows a m k wide (omega arith) below in
                omega arith)
                ∙ sofar.clear.each k (omega arith) below;
          };
          before_end = reads.before_end;
        }

-- Where reading ends, that is the contract: it was refused or has all values, or the next value is not all there.
module _ (bytes : List ℕ) (c : Cursor) (scale : ℕ → ℕ) (a : Rectangle) (from : ℕ) (plane : List ℤ) (progress : Result ℕ Fault) (count : ℕ) (last : List ℤ) (sofar : SoFar bytes c scale a from plane progress count last) where
  pub reads_over : ((next : ℕ) → progress ≡ Ok next → size_of a ≤ count) → ReadsOn bytes c scale a from plane (record { count = count; progress = progress; short = false }) last
  reads_over over =
      record {
        values = sofar.values;
        onward = sofar.onward;
        kept = sofar.kept;
        clear = sofar.clear;
        before_end = sofar.before_end;
        close_to_end = λ e. absurd (true≢false (sym e));
        full = λ e. refl;
        over = λ next e f. over next e;
      }

  pub reads_short : CloseToEnd bytes c.end progress → (c.stated ≡ true → true ≡ false) → ReadsOn bytes c scale a from plane (record { count = count; progress = progress; short = true }) last
  reads_short close_to_end full =
      record {
        values = sofar.values;
        onward = sofar.onward;
        kept = sofar.kept;
        clear = sofar.clear;
        before_end = sofar.before_end;
        close_to_end = λ e. close_to_end;
        full = full;
        over = λ next e f. absurd (true≢false f);
      }
