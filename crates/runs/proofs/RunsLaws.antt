-- Laws of runs: values after values, those of a part that is used up, and values that are read by bits with ones past the end.
-- Assumes nothing.
use mathlib.Core.Path.{◌≡◌, refl, sym, ap, ◌∙◌, fun_ext}
use mathlib.Core.Bool.{Bool, true, false}
use mathlib.Core.List.{List}
use Prim.Native.Nat.{ℕ, zero, suc, ◌+◌, ◌-◌, ◌*◌, ◌/◌, ◌≤◌, ◌<◌, min}
use native.Mathlib.Nat.{zero-add}
use native.Mathlib.Numerals.{add-one}
use native.Mathlib.Omega.{arith}
use lib.IntN.{ℤ, pos}
use lib.ListN.{length, get_or, set}
use lib.Seq.{set-get_or}
use borrow.Author.Tests.{le-ltb}
use Rattle.std.specs.Prelude.{Ok}
use Rattle.std.proofs.lemmas.Bool.{true≢false}
use Rattle.base.specs.Range.{fits32}
use Rattle.base.specs.Sign.{with_sign}
use Rattle.base.specs.Walk.{walk}
use Rattle.exp_golomb.specs.Begins.{Begins}
use Rattle.exp_golomb.specs.Bits.{present}
use Rattle.exp_golomb.specs.Codes.{Number, Read, Missing, TooLong, code_from, unsigned, signed}
use Rattle.exp_golomb.proofs.BeginsLaws.{bit-begins}
use Rattle.exp_golomb.proofs.BitsLaws.{take-past-stated}
use Rattle.exp_golomb.proofs.CodesLaws.{code-ends, sign-none}
use Rattle.exp_golomb.proofs.Moved.{Has, signed-moved}
use Rattle.coefficients.specs.Reading.{Progress, At, Refused, Run, goes_on, stops, value}
use Rattle.coefficients.specs.Scaling.{Small}
use Rattle.coefficients.specs.Values.{after, index_of, entry, entries, Ready}
use Rattle.coefficients.specs.Portions.{Sound, Reads}
use Rattle.coefficients.specs.Batches.{ReadsAhead}
use Rattle.coefficients.specs.declared.reading.Cursor.{Cursor}
use Rattle.coefficients.specs.declared.reading.Portion.{Portion}
use Rattle.coefficients.specs.declared.values.Batch.{Batch}
use Rattle.coefficients.specs.declared.values.Layout.{Layout}
use Rattle.coefficients.proofs.ReadingLaws.{store-fits, store_out, value_read, value-refused}
use Rattle.coefficients.proofs.ScalingLaws.{sign_fits}
use Rattle.coefficients.proofs.ValuesLaws.{entries-stay, entries_none, entries-more, entries-adds, entries-keep}
use Rattle.runs.specs.Padded.{bits_padded}
use Rattle.runs.specs.Runs.{side_by_side, Fresh, Inside}
use Rattle.runs.proofs.PaddedLaws.{padded, padded-ahead, padded-has}

-- a run that was refused does not go on
stops-never : {P : Type 0} (status bit next : ℕ) (plane last : List ℤ) → stops status bit plane ≡ goes_on next last → P
stops-never status bit next plane last e =
    let other : Refused status bit ≡ At next = ap (λ (r : Run). r.progress) e in
    let z : ◌≡◌ {A = ℕ} 0 1 = cc in
    absurd (omega arith)

-- where data a have all bits of data b, values that b has are a's too
module _ (f : ℕ → ℕ) (a : List ℕ) (end_a : ℕ) (b : List ℕ) (end_b : ℕ)
    (has : Has f (record { bytes = b; end = end_b; stated = true }) (record { bytes = a; end = end_a; stated = true })) (origin : ℕ) (scale index : ℕ → ℕ) where
  entry-moved : (i at next : ℕ) (plane last : List ℤ) → entry b end_b origin scale index i (goes_on at plane) ≡ goes_on next last →
      entry a end_a origin scale index i (goes_on (f at) plane) ≡ goes_on (f next) last
  unfolding entry
  entry-moved i at next plane last e = by (signed b end_b true at) refl
    where
      put : ℤ → List ℤ → List ℤ
      put v l = set l (index i) v

      stored : (size : ℕ) (minus : Bool) (n : ℕ) → signed b end_b true at ≡ Read size minus n → (fits : Bool) → fits32 (with_sign (scale size) minus) ≡ fits →
          value a end_a origin scale put (goes_on (f at) plane) ≡ goes_on (f next) last
      stored size minus n read true fits =
          let v = with_sign (scale size) minus in
          let told : goes_on n (put v plane) ≡ goes_on next last =
          sym (value_read b end_b origin scale put at plane (signed b end_b true at) size minus n refl read ∙ store-fits origin v put n plane fits) ∙ e in
          let there : At n ≡ At next = ap (λ (r : Run). r.progress) told in
          let bit : n ≡ next = cc in
          value_read a end_a origin scale put (f at) plane (signed a end_a true (f at)) size minus (f n) refl (signed-moved f _ _ has at (Read size minus n) read tt)
          ∙ store-fits origin v put (f n) plane fits
          ∙ ap (λ (k : ℕ). goes_on (f k) (put v plane)) bit
          ∙ ap (goes_on (f next)) (ap (λ (r : Run). r.plane) told)
      stored size minus n read false fits =
          let v = with_sign (scale size) minus in
          stops-never 9 (origin + n) next plane last
          (sym (value_read b end_b origin scale put at plane (signed b end_b true at) size minus n refl read ∙ store_out origin v put n plane fits) ∙ e)

      by : (number : Number) → signed b end_b true at ≡ number → value a end_a origin scale put (goes_on (f at) plane) ≡ goes_on (f next) last
      by (Read size minus n) read = stored size minus n read (fits32 (with_sign (scale size) minus)) refl
      by (Missing n) read =
          stops-never 6 (origin + n) next plane last
          (sym (value-refused b end_b origin scale put at plane (Missing n) (sym read) (λ size minus m g. let z : ◌≡◌ {A = ℕ} 0 1 = cc in omega arith)) ∙ e)
      by (TooLong n) read =
          stops-never 7 (origin + n) next plane last
          (sym (value-refused b end_b origin scale put at plane (TooLong n) (sym read) (λ size minus m g. let z : ◌≡◌ {A = ℕ} 0 1 = cc in omega arith)) ∙ e)

  values_moved : (i n at next : ℕ) (plane last : List ℤ) → entries b end_b origin scale index i n (goes_on at plane) ≡ goes_on next last →
      entries a end_a origin scale index i n (goes_on (f at) plane) ≡ goes_on (f next) last
  unfolding entries walk
  values_moved i zero at next plane last e =
      let there : At at ≡ At next = ap (λ (r : Run). r.progress) e in
      let bit : at ≡ next = cc in
      ap (λ (k : ℕ). goes_on (f k) plane) bit ∙ ap (goes_on (f next)) (ap (λ (r : Run). r.plane) e)
  values_moved i (suc n) at next plane last e =
      by (entry b end_b origin scale index i (goes_on at plane)).progress (entry b end_b origin scale index i (goes_on at plane)).plane refl
      (λ bit first. values_moved (suc i) n bit next first last)
    where
      by : (progress : Progress) (first : List ℤ) → entry b end_b origin scale index i (goes_on at plane) ≡ record { progress = progress; plane = first } →
          ((bit : ℕ) (l : List ℤ) → entries b end_b origin scale index (suc i) n (goes_on bit l) ≡ goes_on next last →
          entries a end_a origin scale index (suc i) n (goes_on (f bit) l) ≡ goes_on (f next) last) →
          entries a end_a origin scale index (suc i) n (entry a end_a origin scale index i (goes_on (f at) plane)) ≡ goes_on (f next) last
      by (At bit) first step rest =
          ap (entries a end_a origin scale index (suc i) n) (entry-moved i at bit plane first step)
          ∙ rest bit first (sym (ap (entries b end_b origin scale index (suc i) n) step) ∙ e)
      by (Refused status bit) first step rest =
          stops-never status bit next first last
          (sym (ap (entries b end_b origin scale index (suc i) n) step ∙ entries-stay b end_b origin scale index (suc i) n status bit first) ∙ e)

-- a cursor inside its data is sound, and there a value was read or refused
pub inside-sound : (bytes : List ℕ) (c : Cursor) → Inside bytes c → Sound c
inside-sound bytes c inside = record { before_end = omega (arith, inside.before_end); small = inside.small }

pub value-some : (bytes : List ℕ) (c : Cursor) (scale : ℕ → ℕ) (l : Layout) (i : ℕ) (plane : List ℤ) (r : Portion) (last : List ℤ) → Inside bytes c → i < l.count →
    Reads bytes c scale (index_of l) i plane r last → (r.count ≤ 1) × (r.short ≡ false → 1 ≤ r.count) → (1 ≤ r.count) × (i + r.count ≤ l.count)
value-some bytes c scale l i plane r last inside below reads few = (few.1 (reads.full inside.is_stated), omega (arith, few.0))

-- values that were read at once by bits with ones past the end
module _ (bytes : List ℕ) (c : Cursor) (scale index : ℕ → ℕ) (i w : ℕ) (small plane : List ℤ) (r : Batch) (last : List ℤ) (known : Small scale small) (inside : Inside bytes c)
    (top : w / 256 ≡ bits_padded bytes c.end c.bit 56) (reads : ReadsAhead w small index i plane r last) where
  -- from data of just these bits
  abbrev long : ℕ
  long = c.bit + 56 + c.end

  from-padded : entries (padded bytes c.end long) (8 * long) c.origin scale index i r.count (goes_on c.bit plane) ≡ goes_on (c.bit + r.bits) last
  from-padded = reads.values _ (8 * long) c.origin scale c.bit known (padded-ahead bytes c.end long w c.bit top (omega arith))

  abbrev cut : ℕ → ℕ
  cut k = min k (min c.end (8 * length bytes))

  pub portion-padded : (bit : ℕ) → bit ≡ min (c.bit + r.bits) c.end → Reads bytes c scale index i plane (record { count = r.count; progress = Ok bit; short = false }) last
  portion-padded bit is =
      record {
        values = λ whole end begins.
            let same : Begins true bytes c.end whole end = rw inside.is_stated at begins in
            let here : cut c.bit ≡ c.bit = omega (arith, inside.before_end, inside.there) in
            let there : cut (c.bit + r.bits) ≡ bit = omega (arith, inside.there) in
            rw (here, there) at
            (values_moved cut whole end (padded bytes c.end long) (8 * long)
            (λ k b next e. bit-begins true bytes c.end whole end same (cut k) b (cut next) (padded-has bytes c.end long (omega arith) k b next e)) c.origin scale index
            i r.count c.bit (c.bit + r.bits) plane last from-padded);
        before_end = λ next on.
            let there : bit ≡ next = cc in
            omega arith;
        close_to_end = λ e. absurd (true≢false (sym e));
        full = λ e. refl;
      }

  -- none of them: the run is as it was
  pub none-padded : r.count ≡ 0 → last ≡ plane
  none-padded none =
      ap (λ (t : Run). t.plane) (sym (rw none at from-padded) ∙ entries_none (padded bytes c.end long) (8 * long) c.origin scale index i (goes_on c.bit plane))

-- a part that is used up: each value is 0, and the bit stays
module _ (bytes : List ℕ) (end origin : ℕ) (scale index : ℕ → ℕ) (none : scale 0 ≡ 0) (bit : ℕ) (past : min end (8 * length bytes) ≤ bit) where
  signed-past : signed bytes end true bit ≡ Read 0 false bit
  unfolding signed unsigned present
  signed-past =
      sign-none bytes end true (code_from bytes end true 31 1 bit) 0 false bit
      (code-ends bytes end true 31 1 bit 1 bit (take-past-stated bytes end bit true (le-ltb bit (min end (8 * length bytes)) past) refl) refl) refl

  value-zero : with_sign (scale 0) false ≡ pos 0
  unfolding with_sign
  value-zero = rw none

  entry_past : (i : ℕ) (plane : List ℤ) → get_or plane (index i) (pos 0) ≡ pos 0 → entry bytes end origin scale index i (goes_on bit plane) ≡ goes_on bit plane
  unfolding entry
  entry_past i plane clear =
      let fits : fits32 (with_sign (scale 0) false) ≡ true = sign_fits (scale 0) false (rw none (omega arith)) in
      value_read bytes end origin scale (λ v l. set l (index i) v) bit plane (signed bytes end true bit) 0 false bit refl signed-past
      ∙ store-fits origin (with_sign (scale 0) false) (λ v l. set l (index i) v) bit plane fits
      ∙ ap (goes_on bit) (ap (set plane (index i)) (value-zero ∙ sym clear) ∙ set-get_or plane (index i) (pos 0))

  entries-past : (i n : ℕ) (plane : List ℤ) → ((k : ℕ) → i ≤ k → k < i + n → get_or plane (index k) (pos 0) ≡ pos 0) →
      entries bytes end origin scale index i n (goes_on bit plane) ≡ goes_on bit plane
  entries-past i zero plane clear = entries_none bytes end origin scale index i (goes_on bit plane)
  entries-past i (suc n) plane clear =
      rw (← add-one n)
      (entries-more bytes end origin scale index i n (goes_on bit plane) (goes_on bit plane) (goes_on bit plane) (entries-past i n plane (λ k from below. clear k from (omega arith)))
      (entry_past (i + n) plane (clear (i + n) (omega arith) (omega arith))))

-- value k side by side is entry k
pub side-index : (n : ℕ) → index_of (side_by_side n) ≡ (λ k. k)
unfolding index_of
side-index n = fun_ext (λ k. let row : k * 0 / 16777216 * 0 ≡ 0 = omega arith in omega arith)

pub side-ready : (n i : ℕ) (run₀ run : List ℤ) → Fresh n run₀ → length run ≡ length run₀ → i ≤ n → ((k : ℕ) → i ≤ k → k < n → get_or run k (pos 0) ≡ pos 0) →
    Ready (side_by_side n) i run
side-ready n i run₀ run fresh same most clear =
    record {
      few = fresh.few;
      low = omega arith;
      counted = most;
      inside = λ k below. rw (side-index n) (omega (arith, fresh.room));
      clear = record { each = λ k later below. rw (side-index n) (clear k later below) };
    }

-- data that end where the bytes do are the same data
pub cut-begins : (bytes : List ℕ) (end last : ℕ) → last ≡ min end (8 * length bytes) → Begins true bytes last bytes end
cut-begins bytes end last is = record { there = λ k h. omega arith; same = λ k h. refl; whole = λ e. omega arith }

-- the values of a run, side by side, from bit `start` on
module _ (bytes : List ℕ) (end origin : ℕ) (scale : ℕ → ℕ) (start : ℕ) (run₀ : List ℤ) where
  abbrev pub up_to : ℕ → Run
  up_to i = entries bytes end origin scale (λ k. k) 0 i (goes_on start run₀)

  pub up-to-none : up_to 0 ≡ goes_on start run₀
  up-to-none = entries_none bytes end origin scale (λ k. k) 0 (goes_on start run₀)

  module _ (i bit : ℕ) (run : List ℤ) (sofar : up_to i ≡ goes_on bit run) where
    pub up-to-more : (n : ℕ) (t : Run) → entries bytes end origin scale (λ k. k) i n (goes_on bit run) ≡ t → up_to (i + n) ≡ t
    up-to-more n t step =
        entries-adds bytes end origin scale (λ k. k) 0 i n (goes_on start run₀)
        ∙ ap (entries bytes end origin scale (λ k. k) (0 + i) n) sofar
        ∙ ap (λ (j : ℕ). entries bytes end origin scale (λ k. k) j n (goes_on bit run)) (zero-add i)
        ∙ step

    -- values from data that end where the bytes do
    pub up-to-read : (n last : ℕ) (r : Portion) (t : List ℤ) → last ≡ min end (8 * length bytes) →
        Reads bytes (record { bit = bit; end = last; stated = true; origin = origin }) scale (index_of (side_by_side n)) i run r t → up_to (i + r.count) ≡ after r.progress t
    up-to-read n last r t is reads = up-to-more r.count (after r.progress t) (rw (side-index n) at (reads.values bytes end (cut-begins bytes end last is)))

    -- the entries of later values are as they were
    pub up-to-clear : (n : ℕ) → Fresh n run₀ → (k : ℕ) → i ≤ k → k < n → get_or run k (pos 0) ≡ pos 0
    up-to-clear n fresh k later below =
        ap (λ (r : Run). get_or r.plane k (pos 0)) (sym sofar)
        ∙ entries-keep bytes end origin scale (λ j. j) 0 i k (λ j from before e. omega (arith, e)) (goes_on start run₀)
        ∙ fresh.zeros k below

    -- where the part is used up, the others are zeros
    pub up-to-past : (n : ℕ) → Fresh n run₀ → i ≤ n → scale 0 ≡ 0 → min end (8 * length bytes) ≤ bit → up_to n ≡ goes_on bit run
    up-to-past n fresh most none past =
        let whole : i + (n - i) ≡ n = omega arith in
        rw whole at (up-to-more (n - i) (goes_on bit run) (entries-past bytes end origin scale (λ k. k) none bit past i (n - i) run (λ k later below. up-to-clear n fresh k later (omega arith))))

  -- a refused value is the last
  pub up-to-refused : (i n status bit : ℕ) (run : List ℤ) → up_to i ≡ stops status bit run → i ≤ n → up_to n ≡ stops status bit run
  up-to-refused i n status bit run sofar most =
      let whole : i + (n - i) ≡ n = omega arith in
      ap up_to (sym whole)
      ∙ entries-adds bytes end origin scale (λ k. k) 0 i (n - i) (goes_on start run₀)
      ∙ ap (entries bytes end origin scale (λ k. k) (0 + i) (n - i)) sofar
      ∙ entries-stay bytes end origin scale (λ k. k) (0 + i) (n - i) status bit run
