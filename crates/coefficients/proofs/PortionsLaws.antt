-- Laws of values that are read as far as the data at hand go: one value, values at once, and portions one after the other.
-- Assumes nothing.
use mathlib.Core.Path.{◌≡◌, refl, sym, ap, ◌∙◌}
use mathlib.Core.Bool.{Bool, true, false}
use mathlib.Core.Logic.{◌≢◌}
use mathlib.Core.List.{List}
use Prim.Native.Nat.{ℕ, ◌+◌, ◌-◌, ◌≤◌, ◌<◌}
use native.Mathlib.Omega.{arith}
use lib.IntN.{ℤ, pos}
use lib.ListN.{length, get_or, set}
use Rattle.std.specs.Prelude.{Result, Ok, Err}
use Rattle.std.proofs.lemmas.Bool.{true≢false}
use Rattle.base.specs.Range.{fits32}
use Rattle.base.specs.Sign.{with_sign}
use Rattle.base.specs.declared.status.Fault.{Fault}
use Rattle.base.specs.declared.status.Refusal.TheVariants.{BytesEndEarly, CodeTooLong}
use Rattle.exp_golomb.specs.Begins.{Begins}
use Rattle.exp_golomb.specs.Codes.{Number, Read, Missing, TooLong, result_of, next_of, signed}
use Rattle.exp_golomb.specs.declared.codes.ReadNumber.{ReadNumber}
use Rattle.exp_golomb.proofs.Extent.{signed-before, signed-short}
use Rattle.exp_golomb.proofs.Moved.{signed-whole}
use Rattle.exp_golomb.proofs.BeginsLaws.{signed-begins, begins-itself}
use Rattle.lookups.specs.Windows.{Ahead}
use Rattle.lookups.proofs.WindowsLaws.{ahead-begins}
use Rattle.coefficients.specs.Reading.{At, Refused, Run, goes_on, store}
use Rattle.coefficients.specs.Scaling.{Small}
use Rattle.coefficients.specs.Values.{after, entry, entries, index_of, Clear, Ready}
use Rattle.coefficients.specs.Portions.{Sound, not_read, Reads}
use Rattle.coefficients.specs.Batches.{ReadsAhead}
use Rattle.coefficients.specs.declared.reading.Cursor.{Cursor}
use Rattle.coefficients.specs.declared.reading.Portion.{Portion}
use Rattle.coefficients.specs.declared.values.Batch.{Batch}
use Rattle.coefficients.specs.declared.values.Layout.{Layout}
use Rattle.coefficients.proofs.ReadingLaws.{store-fits, store_out, value-refused, value_read}
use Rattle.coefficients.proofs.ValuesLaws.{entries_none, entries-one, entries-adds, entries-keep, index-grows}

-- what was refused does not go on
pub refused-never : {A B P : Type 0} (answer : Result A B) (refused : B) (here : A) → answer ≡ Err refused → answer ≡ Ok here → P
refused-never answer refused here e f =
    let z : ◌≡◌ {A = ℕ} 0 1 = cc in
    absurd (omega arith)

-- where reading goes on after a value, it goes on after its number
store-next : (origin : ℕ) (v : ℤ) (put : ℤ → List ℤ → List ℤ) (next : ℕ) (plane : List ℤ) (progress : Result ℕ Fault) (last : List ℤ) (bit : ℕ) →
    after progress last ≡ store origin v put next plane → progress ≡ Ok bit → bit ≡ next
store-next origin v put next plane progress last bit stored on = by (fits32 v) refl
  where
    told : (run : Run) → store origin v put next plane ≡ run → At bit ≡ run.progress
    told run e = rw on at (ap (λ (r : Run). r.progress) (stored ∙ e))

    by : (fits : Bool) → fits32 v ≡ fits → bit ≡ next
    by true e =
        let same : At bit ≡ At next = told _ (store-fits origin v put next plane e) in
        cc
    by false e =
        let other : At bit ≡ Refused 9 (origin + next) = told _ (store_out origin v put next plane e) in
        let z : ◌≡◌ {A = ℕ} 0 1 = cc in
        absurd (omega arith)

-- a number ends no later than the data
pub number-before : (bytes : List ℕ) (c : Cursor) → c.bit ≤ c.end → next_of (signed bytes c.end c.stated c.bit) ≤ c.end
number-before bytes c inside = signed-before bytes c.end c.stated c.bit inside

-- where no number was read: a bit is missing, or the code is too long
pub not-read-short : (number : Number) (fault : Fault) (c : Cursor) → Err fault ≡ result_of number → fault.refusal ≢ CodeTooLong →
    record { count = 0; progress = Ok c.bit; short = true } ≡ not_read number c
unfolding not_read
not-read-short (Read size minus next) fault c is other = refl
not-read-short (Missing next) fault c is other = refl
not-read-short (TooLong next) fault c is other = absurd (other cc)

pub not-read-long : (number : Number) (fault : Fault) (c : Cursor) → Err fault ≡ result_of number → fault.refusal ≡ CodeTooLong →
    record { count = 1; progress = Err (record { refusal = fault.refusal; bit = c.origin + fault.bit }); short = false } ≡ not_read number c
unfolding not_read
not-read-long (Read size minus next) fault c is long = cc
not-read-long (Missing next) fault c is long =
    let never : BytesEndEarly ≡ CodeTooLong = cc in
    cc
not-read-long (TooLong next) fault c is long =
    let same : fault ≡ record { refusal = CodeTooLong; bit = next } = cc in
    rw same refl

-- and where one was
pub not-read-read : (number : Number) (read : ReadNumber) (c : Cursor) → Ok read ≡ result_of number →
    record { count = 0; progress = Ok c.bit; short = true } ≡ not_read number c
unfolding not_read
not-read-read (Read size minus next) read c is = refl
not-read-read (Missing next) read c is = cc
not-read-read (TooLong next) read c is = cc

pub not-read-some : (number : Number) (c : Cursor) → ((not_read number c).count ≤ 1) × ((not_read number c).short ≡ false → 1 ≤ (not_read number c).count)
unfolding not_read
not-read-some (Read size minus next) c = (omega arith, λ e. absurd (true≢false e))
not-read-some (Missing next) c = (omega arith, λ e. absurd (true≢false e))
not-read-some (TooLong next) c = (omega arith, λ e. omega arith)

-- one value, from the number that was read for it
module _ (bytes : List ℕ) (c : Cursor) (scale index : ℕ → ℕ) (i : ℕ) (plane : List ℤ) (number : Number) (is : number ≡ signed bytes c.end c.stated c.bit) (inside : c.bit ≤ c.end) where
  pub portion-stored : (size : ℕ) (minus : Bool) (next : ℕ) (progress : Result ℕ Fault) (last : List ℤ) → number ≡ Read size minus next →
      after progress last ≡ store c.origin (with_sign (scale size) minus) (λ v l. set l (index i) v) next plane →
      Reads bytes c scale index i plane (record { count = 1; progress = progress; short = false }) last
  unfolding entry
  portion-stored size minus next progress last read stored =
      record {
        values = λ whole end begins.
            entries-one whole end c.origin scale index i (goes_on c.bit plane)
            ∙ value_read whole end c.origin scale (λ v l. set l (index i) v) c.bit plane (signed whole end true c.bit) size minus next refl
            (signed-begins c.stated bytes c.end whole end begins c.bit (Read size minus next) (sym is ∙ read) tt)
            ∙ sym stored;
        before_end = λ bit on.
            let there : bit ≡ next = store-next c.origin (with_sign (scale size) minus) (λ v l. set l (index i) v) next plane progress last bit stored on in
            let close_to_end : next_of (Read size minus next) ≤ c.end = rw (sym is ∙ read) at (number-before bytes c inside) in
            omega arith;
        close_to_end = λ e. absurd (true≢false (sym e));
        full = λ e. refl;
      }

  portion-long : (next : ℕ) → number ≡ TooLong next → Reads bytes c scale index i plane (record { count = 1; progress = Err (record { refusal = CodeTooLong; bit = c.origin + next }); short = false }) plane
  unfolding entry
  portion-long next read =
      record {
        values = λ whole end begins.
            entries-one whole end c.origin scale index i (goes_on c.bit plane)
            ∙ value-refused whole end c.origin scale (λ v l. set l (index i) v) c.bit plane (TooLong next)
            (sym (signed-begins c.stated bytes c.end whole end begins c.bit (TooLong next) (sym is ∙ read) tt))
            (λ size minus n e. let z : ◌≡◌ {A = ℕ} 0 1 = cc in omega arith);
        before_end = λ bit on. refused-never _ _ bit refl on;
        close_to_end = λ e. absurd (true≢false (sym e));
        full = λ e. refl;
      }

  -- data of a stated length miss nothing
  missing-never : (next : ℕ) → number ≡ Missing next → c.stated ≡ true → ⊥
  missing-never next read e =
      let told : signed bytes c.end true c.bit ≡ Missing next = rw e at (sym is ∙ read) in
      rw told at (signed-whole bytes c.end c.bit)

  portion-short : (next : ℕ) → number ≡ Missing next → Reads bytes c scale index i plane (record { count = 0; progress = Ok c.bit; short = true }) plane
  portion-short next read =
      record {
        values = λ whole end begins. entries_none whole end c.origin scale index i (goes_on c.bit plane);
        before_end = λ bit on. let here : c.bit ≡ bit = cc in omega arith;
        close_to_end = λ e. signed-short bytes c.end c.stated c.bit next (sym is ∙ read);
        full = λ e. absurd (missing-never next read e);
      }

  -- no number: too long, or not all there
  pub portion-not-read : ((size : ℕ) (minus : Bool) (next : ℕ) → number ≡ Read size minus next → ⊥) → Reads bytes c scale index i plane (not_read number c) plane
  unfolding not_read
  portion-not-read none = by number refl
    where
      by : (n : Number) → number ≡ n → Reads bytes c scale index i plane (not_read n c) plane
      by (Read size minus next) e = absurd (none size minus next e)
      by (Missing next) e = portion-short next e
      by (TooLong next) e = portion-long next e

-- values that were read at once by the bits ahead
module _ (bytes : List ℕ) (c : Cursor) (scale index : ℕ → ℕ) (i w : ℕ) (small plane : List ℤ) (r : Batch) (last : List ℤ) (known : Small scale small) (ahead : Ahead bytes c.end w c.bit 56)
    (reads : ReadsAhead w small index i plane r last) where
  pub portion-ahead : Reads bytes c scale index i plane (record { count = r.count; progress = Ok (c.bit + r.bits); short = false }) last
  portion-ahead =
      record {
        values = λ whole end begins.
            reads.values whole end c.origin scale c.bit known (ahead-begins c.stated bytes c.end whole end w c.bit 56 begins (omega arith) ahead);
        before_end = λ next on.
            let there : c.bit + r.bits ≡ next = cc in
            omega (arith, ahead.inside, reads.few);
        close_to_end = λ e. absurd (true≢false (sym e));
        full = λ e. refl;
      }

  -- none of them: the plane is as it was
  pub none_ahead : r.count ≡ 0 → last ≡ plane
  none_ahead none =
      ap (λ (t : Run). t.plane)
      (sym (rw none at (reads.values bytes c.end c.origin scale c.bit known ahead)) ∙ entries_none bytes c.end c.origin scale index i (goes_on c.bit plane))

-- A cursor that has moved on in the same data.
pub record Follows (c₀ c : Cursor) : Type 0 where
  pub end_same : c.end ≡ c₀.end
  pub stated-same : c.stated ≡ c₀.stated
  pub origin-same : c.origin ≡ c₀.origin

module _ (bytes : List ℕ) (c₀ : Cursor) (scale index : ℕ → ℕ) (i₀ : ℕ) (plane₀ : List ℤ) where
  -- Values from value i₀ on were read, up to value i.
  abbrev pub Sofar : ℕ → ℕ → List ℤ → Type 0
  Sofar n bit plane = (whole : List ℕ) (end : ℕ) → Begins c₀.stated bytes c₀.end whole end →
      entries whole end c₀.origin scale index i₀ n (goes_on c₀.bit plane₀) ≡ goes_on bit plane

  pub sofar-none : (n : ℕ) → n ≡ 0 → Sofar n c₀.bit plane₀
  sofar-none n none whole end begins = rw none (entries_none whole end c₀.origin scale index i₀ (goes_on c₀.bit plane₀))

  -- a portion after them
  module _ (c : Cursor) (follows : Follows c₀ c) (i m n : ℕ) (plane : List ℤ) (started : i₀ ≤ i) (here : m + i₀ ≡ i) (sofar : Sofar m c.bit plane) (r : Portion) (last : List ℤ)
      (reads : Reads bytes c scale index i plane r last) (all : n ≡ m + r.count) where
    pub sofar-adds : (whole : List ℕ) (end : ℕ) → Begins c₀.stated bytes c₀.end whole end →
        entries whole end c₀.origin scale index i₀ n (goes_on c₀.bit plane₀) ≡ after r.progress last
    sofar-adds whole end begins =
        let at : i₀ + m ≡ i = omega arith in
        let more : Begins c.stated bytes c.end whole end = rw (follows.stated-same, follows.end_same) begins in
        rw all
        (entries-adds whole end c₀.origin scale index i₀ m r.count (goes_on c₀.bit plane₀)
        ∙ ap (entries whole end c₀.origin scale index (i₀ + m) r.count) (sofar whole end begins)
        ∙ ap (λ (k : ℕ). entries whole end c₀.origin scale index k r.count (goes_on c.bit plane)) at
        ∙ rw follows.origin-same at (reads.values whole end more))

    pub portion-ends : (short : Bool) → (short ≡ true → r.short ≡ true) → (c₀.stated ≡ true → short ≡ false) →
        Reads bytes c₀ scale index i₀ plane₀ (record { count = n; progress = r.progress; short = short }) last
    portion-ends short told full =
        record {
          values = sofar-adds;
          before_end = λ bit on. rw follows.end_same at (reads.before_end bit on);
          close_to_end = λ e. rw follows.end_same at (reads.close_to_end (told e));
          full = full;
        }

  -- the entries of later values are as they were
  pub sofar-clear : (grows : (i j : ℕ) → i < j → index i < index j) (room n bit : ℕ) (plane : List ℤ) → Clear index i₀ room plane₀ → Sofar n bit plane →
      (i : ℕ) → i ≡ i₀ + n → Clear index i room plane
  sofar-clear grows room n bit plane clear sofar i here =
      record {
        each = λ k from below.
            ap (λ (r : Run). get_or r.plane (index k) (pos 0)) (sym (sofar bytes c₀.end (begins-itself c₀.stated bytes c₀.end)))
            ∙ entries-keep bytes c₀.end c₀.origin scale index i₀ n (index k) (λ j later before e. omega (arith, grows j k (omega arith), e)) (goes_on c₀.bit plane₀)
            ∙ clear.each k (omega arith) below;
      }

-- a cursor that has moved on is sound
pub sound-again : (c₀ c : Cursor) → Follows c₀ c → c.bit ≤ c₀.end → Sound c₀ → Sound c
sound-again c₀ c follows inside sound =
    record { before_end = rw follows.end_same inside; small = rw (follows.origin-same, follows.end_same) sound.small }

-- a layout some of whose values have been read is ready for the others
pub ready-again : (bytes : List ℕ) (c₀ : Cursor) (scale : ℕ → ℕ) (l : Layout) (i₀ : ℕ) (plane₀ : List ℤ) → Ready l i₀ plane₀ → (i bit : ℕ) (plane : List ℤ) → i₀ ≤ i → i ≤ l.count →
    length plane ≡ length plane₀ → Sofar bytes c₀ scale (index_of l) i₀ plane₀ (i - i₀) bit plane → Ready l i plane
ready-again bytes c₀ scale l i₀ plane₀ ready i bit plane started most same sofar =
    record {
      few = ready.few;
      low = ready.low;
      counted = most;
      inside = λ k below. rw same (ready.inside k below);
      clear = sofar-clear bytes c₀ scale (index_of l) i₀ plane₀ (index-grows l) l.count (i - i₀) bit plane ready.clear sofar i (omega arith);
    }
