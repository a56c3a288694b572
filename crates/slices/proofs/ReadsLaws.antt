-- Values that are read into a run and then put where they belong are values that are read where they belong; and what reading left, step by
-- step.
-- Assumes nothing.
use mathlib.Core.Path.{◌≡◌, refl, sym, ap, ◌∙◌, subst}
use mathlib.Core.Bool.{Bool, true, false}
use mathlib.Core.List.{List}
use Prim.Native.Nat.{ℕ, zero, suc, ◌+◌, ◌*◌, ◌/◌, ◌%◌, ◌≤◌, ◌<◌}
use native.Mathlib.Nat.{zero-add, add-zero, zero-mul, mul_assoc, div-add-mod'}
use native.Mathlib.Decide.{dec_lt}
use native.Mathlib.Numerals.{add-one}
use native.Mathlib.Omega.{arith}
use lib.IntN.{ℤ, pos}
use lib.ListN.{length, get_or, set, replicate, length-set, length-replicate}
use lib.Seq.{get_or-set_same, get_or-set_other}
use Rattle.std.specs.Prelude.{Result, Ok, Err}
use Rattle.base.specs.Fill.{fill}
use Rattle.base.specs.Range.{fits32}
use Rattle.base.specs.Refusals.{number_of}
use Rattle.base.specs.Sign.{with_sign}
use Rattle.base.specs.Walk.{walk}
use Rattle.base.specs.declared.status.Fault.{Fault}
use Rattle.base.proofs.WalkLaws.{walk_none, walk_more, walk_same, walk-flat, walk-next, walk-stopped}
use Rattle.base.proofs.FillLaws.{length-fill, get_d-fill-start, get_d-fill-out}
use Rattle.exp_golomb.specs.Codes.{Number, Read, Missing, TooLong, status_of, next_of, signed}
use Rattle.coefficients.specs.Reading.{At, Refused, RunOf, Run, goes_on, stops, value}
use Rattle.coefficients.specs.Values.{after, entry, entries}
use Rattle.coefficients.specs.declared.reading.Rectangle.{Rectangle}
use Rattle.coefficients.proofs.ReadingLaws.{Stays, walk-keeps, store-fits, store_out, value_stays, value-refused, value_read}
use Rattle.coefficients.proofs.PortionsLaws.{refused-never}
use Rattle.coefficients.proofs.ValuesLaws.{entries_none, entries-more, entries-keep}
use Rattle.runs.specs.Runs.{SoundSpan}
use Rattle.runs.specs.declared.Span.{Span}
use Rattle.slices.specs.Planes.{Planes, in_luma, in_first, in_second}
use Rattle.slices.specs.Parts.{PartData, entry_values, area_values}
use Rattle.slices.specs.Stores.{turns, put_turn, put_in_row, stored_row, stored_rows}
use Rattle.slices.specs.Reads.{data_of, row_of, Blank, Left}
use Rattle.slices.specs.declared.parameters.Holder.{Holder}
use Rattle.slices.specs.declared.parameters.Holder.TheVariants.{Luma, Both}

-- Two runs after a value, whatever each puts it into: both have it put, or both are refused alike.
data Alike {P Q : Type 0} (put : ℤ → P → P) (put' : ℤ → Q → Q) (a : P) (b : Q) (r : RunOf P) (r' : RunOf Q) : Type 0 where
  both-put : (v : ℤ) (next : ℕ) → r ≡ goes_on next (put v a) → r' ≡ goes_on next (put' v b) → Alike put put' a b r r'
  both-stop : (status bit : ℕ) → r ≡ stops status bit a → r' ≡ stops status bit b → Alike put put' a b r r'

module _ (bytes : List ℕ) (end origin : ℕ) (scale : ℕ → ℕ) where
  module _ {P Q : Type 0} (put : ℤ → P → P) (put' : ℤ → Q → Q) (at : ℕ) (a : P) (b : Q) where
    value-alike : Alike put put' a b (value bytes end origin scale put (goes_on at a)) (value bytes end origin scale put' (goes_on at b))
    value-alike = by (signed bytes end true at) refl
      where
        none_read : (number : Number) → ((size : ℕ) (minus : Bool) (next : ℕ) → number ≡ Read size minus next → ⊥) → number ≡ signed bytes end true at →
            Alike put put' a b (value bytes end origin scale put (goes_on at a)) (value bytes end origin scale put' (goes_on at b))
        none_read number none is =
            both-stop (status_of number) (origin + next_of number)
            (value-refused bytes end origin scale put at a number is none) (value-refused bytes end origin scale put' at b number is none)

        stored : (size : ℕ) (minus : Bool) (next : ℕ) → Read size minus next ≡ signed bytes end true at → (fits : Bool) → fits32 (with_sign (scale size) minus) ≡ fits →
            Alike put put' a b (value bytes end origin scale put (goes_on at a)) (value bytes end origin scale put' (goes_on at b))
        stored size minus next is true e =
            both-put (with_sign (scale size) minus) next
            (value_read bytes end origin scale put at a (Read size minus next) size minus next is refl ∙ store-fits origin (with_sign (scale size) minus) put next a e)
            (value_read bytes end origin scale put' at b (Read size minus next) size minus next is refl ∙ store-fits origin (with_sign (scale size) minus) put' next b e)
        stored size minus next is false e =
            both-stop 9 (origin + next)
            (value_read bytes end origin scale put at a (Read size minus next) size minus next is refl ∙ store_out origin (with_sign (scale size) minus) put next a e)
            (value_read bytes end origin scale put' at b (Read size minus next) size minus next is refl ∙ store_out origin (with_sign (scale size) minus) put' next b e)

        by : (number : Number) → number ≡ signed bytes end true at →
            Alike put put' a b (value bytes end origin scale put (goes_on at a)) (value bytes end origin scale put' (goes_on at b))
        by (Read size minus next) is = stored size minus next is (fits32 (with_sign (scale size) minus)) refl
        by (Missing next) is = none_read (Missing next) (λ size minus n e. let z : ◌≡◌ {A = ℕ} 0 1 = cc in omega arith) is
        by (TooLong next) is = none_read (TooLong next) (λ size minus n e. let z : ◌≡◌ {A = ℕ} 0 1 = cc in omega arith) is

  -- n values read into a run, and as many read into something else by puts of their own
  module _ {P : Type 0} (put : ℕ → ℤ → P → P) (bit : ℕ) (run : List ℤ) (p : P) where
    abbrev into_run : ℕ → Run
    into_run n = entries bytes end origin scale (λ k. k) 0 n (goes_on bit run)

    abbrev into : ℕ → RunOf P
    into n = walk (λ i. value bytes end origin scale (put i)) 0 n (goes_on bit p)

    abbrev put_all : List ℤ → ℕ → P
    put_all values n = walk (λ i. put i (get_or values i (pos 0))) 0 n p

    data Same (n : ℕ) : Type 0 where
      same-put : (next : ℕ) (values : List ℤ) → length values ≡ length run → into_run n ≡ goes_on next values → into n ≡ goes_on next (put_all values n) → Same n
      same_stop : (status at : ℕ) (values : List ℤ) (q : P) → into_run n ≡ stops status at values → into n ≡ stops status at q → Same n

    one_more : (n : ℕ) → n < length run → Same n → Same (suc n)
    unfolding entry
    one_more n room (same_stop status at values q e e') =
        same_stop status at values q
        (rw (add-one n) at (entries-more bytes end origin scale (λ k. k) 0 n (goes_on bit run) (stops status at values) (stops status at values) e (value_stays bytes end origin scale (λ v l. set l (0 + n) v) status at values)))
        (walk_more (λ i. value bytes end origin scale (put i)) 0 n (goes_on bit p) ∙ rw (zero-add n, e') (value_stays bytes end origin scale (put n) status at q))
    one_more n room (same-put next values long e e') = by (value-alike (λ v l. set l (0 + n) v) (put n) next values (put_all values n))
      where
        step : (t : Run) → value bytes end origin scale (λ v l. set l (0 + n) v) (goes_on next values) ≡ t → into_run (suc n) ≡ t
        step t is = rw (add-one n) at (entries-more bytes end origin scale (λ k. k) 0 n (goes_on bit run) (goes_on next values) t e is)

        step' : (t : RunOf P) → value bytes end origin scale (put n) (goes_on next (put_all values n)) ≡ t → into (suc n) ≡ t
        step' t is = walk_more (λ i. value bytes end origin scale (put i)) 0 n (goes_on bit p) ∙ rw (zero-add n, e') is

        kept : (v : ℤ) → put n v (put_all values n) ≡ put_all (set values (0 + n) v) (suc n)
        kept v =
            let here : n < length values = omega arith in
            sym (walk_more (λ i. put i (get_or (set values (0 + n) v) i (pos 0))) 0 n p
            ∙ rw (zero-add n, get_or-set_same values n v (pos 0) here)
            (ap (put n v) (walk_same (λ i. put i (get_or (set values n v) i (pos 0))) (λ i. put i (get_or values i (pos 0))) 0 0 n p
            (λ k below t. ap (λ (x : ℤ). put (0 + k) x t) (get_or-set_other values n (0 + k) v (pos 0) (omega arith))))))

        by : Alike (λ v l. set l (0 + n) v) (put n) values (put_all values n) (value bytes end origin scale (λ v l. set l (0 + n) v) (goes_on next values)) (value bytes end origin scale (put n) (goes_on next (put_all values n))) → Same (suc n)
        by (both-put v after r r') = same-put after (set values (0 + n) v) (length-set values (0 + n) v ∙ long) (step (goes_on after (set values (0 + n) v)) r) (step' (goes_on after (put_all (set values (0 + n) v) (suc n))) (r' ∙ ap (goes_on after) (kept v)))
        by (both-stop status at r r') = same_stop status at values (put_all values n) (step (stops status at values) r) (step' (stops status at (put_all values n)) r')

    all_same : (n : ℕ) → n ≤ length run → Same n
    all_same zero room = same-put bit run refl (entries_none bytes end origin scale (λ k. k) 0 (goes_on bit run)) (walk_none (λ i. value bytes end origin scale (put i)) 0 (goes_on bit p) ∙ ap (goes_on bit) (sym (walk_none (λ i. put i (get_or run i (pos 0))) 0 p)))
    all_same (suc n) room = one_more n room (all_same n (omega arith))

-- the values of a rectangle, one after the other: value i goes to row i / w, and there to its turn among w
module _ (d : PartData) (scale : ℕ → ℕ) (holder : Holder) (a : Rectangle) where
  abbrev one : (ℤ → Planes → Planes) → RunOf Planes → RunOf Planes
  one put = value d.bytes d.to d.origin scale put

  abbrev width : ℕ
  width = a.width * turns holder

  abbrev flat_put : ℕ → ℤ → Planes → Planes
  flat_put i = put_in_row holder (a.start + i / width * a.stride) (i % width)

  entry-turns : (i : ℕ) (r : RunOf Planes) → entry_values d scale holder i r ≡ walk (λ turn. one (put_turn holder turn i)) 0 (turns holder) r
  unfolding entry_values walk
  entry-turns i r = by holder
    where
      by : (h : Holder) → entry_values d scale h i r ≡ walk (λ turn. one (put_turn h turn i)) 0 (turns h) r
      by Luma = refl
      by Both = refl

  row-flat : (index : ℕ) (r : RunOf Planes) → walk (λ x. entry_values d scale holder (index + x)) 0 a.width r ≡ walk (λ j. one (put_in_row holder index j)) 0 width r
  row-flat index r =
      walk_same (λ x. entry_values d scale holder (index + x)) (λ x. walk (λ turn. one (put_turn holder turn (index + x))) 0 (turns holder)) 0 0 a.width r
      (λ k below t. entry-turns (index + (0 + k)) t)
      ∙ walk-flat (λ x turn. one (put_turn holder turn (index + x))) (turns holder) a.width r

  area-flat : (r : RunOf Planes) → area_values d scale holder a r ≡ walk (λ i. one (flat_put i)) 0 (a.height * width) r
  unfolding area_values
  area-flat r =
      walk_same (λ y. walk (λ x. entry_values d scale holder (a.start + y * a.stride + x)) 0 a.width) (λ y. walk (λ j. one (put_in_row holder (a.start + y * a.stride) j)) 0 width) 0 0 a.height r
      (λ k below t. row-flat (a.start + (0 + k) * a.stride) t)
      ∙ walk-flat (λ y j. one (put_in_row holder (a.start + y * a.stride) j)) width a.height r

  -- so are stored values
  stored-flat : (values : List ℤ) (p : Planes) → walk (λ i. flat_put i (get_or values i (pos 0))) 0 (a.height * width) p ≡ stored_rows holder a values a.height p
  unfolding stored_rows stored_row
  stored-flat values p =
      walk_same (λ i. flat_put i (get_or values i (pos 0))) (λ i. flat_put i (get_or values (i / width * width + i % width) (pos 0))) 0 0 (a.height * width) p
      (λ k below t. ap (λ (n : ℕ). flat_put (0 + k) (get_or values n (pos 0)) t) (sym (div-add-mod' (0 + k) width)))
      ∙ sym (walk-flat (λ y j. put_in_row holder (a.start + y * a.stride) j (get_or values (y * width + j) (pos 0))) width a.height p)

  -- values of a rectangle, read into a run and then stored
  module _ (bit : ℕ) (run : List ℤ) (p : Planes) (room : a.height * width ≤ length run) where
    abbrev read : Run
    read = entries d.bytes d.to d.origin scale (λ k. k) 0 (a.height * width) (goes_on bit run)

    pub area-stopped : (status at : ℕ) (values : List ℤ) → read ≡ stops status at values → Refused status at ≡ (area_values d scale holder a (goes_on bit p)).progress
    area-stopped status at values e = by (all_same d.bytes d.to d.origin scale flat_put bit run p (a.height * width) room)
      where
        by : Same d.bytes d.to d.origin scale flat_put bit run p (a.height * width) → Refused status at ≡ (area_values d scale holder a (goes_on bit p)).progress
        by (same-put next vs long r r') = absurd (let z : At next ≡ Refused status at = ap (λ (t : Run). t.progress) (sym r ∙ e) in let w : ◌≡◌ {A = ℕ} 0 1 = cc in omega arith)
        by (same_stop st b vs q r r') =
            let told : Refused st b ≡ Refused status at = ap (λ (t : Run). t.progress) (sym r ∙ e) in
            sym told ∙ ap (λ (t : RunOf Planes). t.progress) (sym (area-flat (goes_on bit p) ∙ r'))

    pub area-read : (next : ℕ) (values : List ℤ) → read ≡ goes_on next values → area_values d scale holder a (goes_on bit p) ≡ goes_on next (stored_rows holder a values a.height p)
    area-read next values e = by (all_same d.bytes d.to d.origin scale flat_put bit run p (a.height * width) room)
      where
        by : Same d.bytes d.to d.origin scale flat_put bit run p (a.height * width) → area_values d scale holder a (goes_on bit p) ≡ goes_on next (stored_rows holder a values a.height p)
        by (same-put n vs long r r') =
            let at-is : At n ≡ At next = ap (λ (t : Run). t.progress) (sym r ∙ e) in
            let values-are : vs ≡ values = ap (λ (t : Run). t.plane) (sym r ∙ e) in
            area-flat (goes_on bit p) ∙ r' ∙ rw values-are (rw at-is (ap (λ (q : Planes). record { progress = At next; plane = q }) (stored-flat values p)))
        by (same_stop st b vs q r r') = absurd (let z : At next ≡ Refused st b = ap (λ (t : Run). t.progress) (sym e ∙ r) in let w : ◌≡◌ {A = ℕ} 0 1 = cc in omega arith)

-- a run of 8192 zeros is blank
zero-at : (n k : ℕ) → get_or (replicate n (pos 0)) k (pos 0) ≡ pos 0
zero-at zero k = refl
zero-at (suc n) zero = refl
zero-at (suc n) (suc k) = zero-at n k

pub blank-zeros : Blank (replicate 8192 (pos 0))
blank-zeros = record { room = rw (length-replicate {A = ℤ} 8192 (pos 0)) (omega arith); zeros = zero-at 8192 }

-- a run is blank again once the values that were read into it are cleared
pub blank-again : (bytes : List ℕ) (end origin : ℕ) (scale : ℕ → ℕ) (n bit : ℕ) (run values : List ℤ) (next : ℕ) → n ≤ 8192 → Blank run → length values ≡ length run →
    goes_on next values ≡ entries bytes end origin scale (λ k. k) 0 n (goes_on bit run) → Blank (fill values 0 n (λ k. pos 0))
blank-again bytes end origin scale n bit run values next few blank long e =
    record {
      room = rw (length-fill values 0 (λ k. pos 0) n, long) blank.room;
      zeros = λ k.
          elim (dec_lt k n) [
            | yes below ↦ get_d-fill-start values (λ x. pos 0) n k (pos 0) below (omega (arith, blank.room))
            | no later ↦
                get_d-fill-out values 0 (λ x. pos 0) n k (pos 0) (λ j h same. omega arith)
                ∙ ap (λ (t : Run). get_or t.plane k (pos 0)) e
                ∙ entries-keep bytes end origin scale (λ j. j) 0 n k (λ j from before same. omega arith) (goes_on bit run)
                ∙ blank.zeros k
          ];
    }

-- a run that a definition stops is left so, whatever the planes are
pub left-refused : (end : ℕ) (fault : Fault) (planes last : Planes) (run : List ℤ) (r : RunOf Planes) → stops (number_of fault.refusal) fault.bit planes ≡ r → Left end (Err fault) last run r
left-refused end fault planes last run r is =
    record {
      progress_is = ap (λ (t : RunOf Planes). t.progress) is;
      planes_are = λ b on. refused-never (Err fault) fault b refl on;
      before_end = λ b on. refused-never (Err fault) fault b refl on;
      run_blank = λ b on. refused-never (Err fault) fault b refl on;
    }

-- and what was left of a refused run is one that a definition stops
pub left-stops : (end : ℕ) (fault : Fault) (last : Planes) (run : List ℤ) (r : RunOf Planes) → Left end (Err fault) last run r → r ≡ stops (number_of fault.refusal) fault.bit r.plane
left-stops end fault last run r left = rw left.progress_is refl

-- a run that goes on is left so
pub left-goes : (end bit : ℕ) (planes : Planes) (run : List ℤ) (r : RunOf Planes) → r ≡ goes_on bit planes → bit ≤ end → Blank run → Left end (Ok bit) planes run r
left-goes end bit planes run r is before blank =
    record {
      progress_is = ap (λ (t : RunOf Planes). t.progress) (sym is);
      planes_are = λ b on. ap (λ (t : RunOf Planes). t.plane) (sym is);
      before_end = λ b on. let here : b ≡ bit = cc in omega arith;
      run_blank = λ b on. blank;
    }

-- and what was left of a run that goes on is that run
pub left-on : (end bit : ℕ) (planes : Planes) (run : List ℤ) (r : RunOf Planes) → Left end (Ok bit) planes run r → r ≡ goes_on bit planes
left-on end bit planes run r left =
    let planes_are : planes ≡ r.plane = left.planes_are bit refl in
    rw (planes_are, left.progress_is) refl

-- what reading a rectangle through a run left
module _ (bytes : List ℕ) (s : Span) (scale : ℕ → ℕ) (holder : Holder) (a : Rectangle) (n : ℕ) (run : List ℤ) (p : Planes) (many : n ≡ a.height * a.width * turns holder) (few : n ≤ 8192)
    (blank : Blank run) where
  abbrev values : Run
  values = entries bytes s.end s.origin scale (λ k. k) 0 n (goes_on s.bit run)

  all : n ≡ a.height * (a.width * turns holder)
  all = many ∙ mul_assoc a.height a.width (turns holder)

  enough : a.height * (a.width * turns holder) ≤ length run
  enough = omega (arith, all, blank.room)

  pub left-stopped : (fault : Fault) (last : List ℤ) (planes : Planes) → after (Err fault) last ≡ values → Left s.end (Err fault) planes last (area_values (data_of bytes s) scale holder a (goes_on s.bit p))
  left-stopped fault last planes e =
      let is : Refused (number_of fault.refusal) fault.bit ≡ (area_values (data_of bytes s) scale holder a (goes_on s.bit p)).progress =
      area-stopped (data_of bytes s) scale holder a s.bit run p enough (number_of fault.refusal) fault.bit last (rw all at (sym e)) in
      left-refused s.end fault (area_values (data_of bytes s) scale holder a (goes_on s.bit p)).plane planes last _ (rw is refl)

  pub left-stored : (next : ℕ) (last : List ℤ) (planes : Planes) (cleared : List ℤ) → after (Ok next) last ≡ values → length last ≡ length run → next ≤ s.end →
      planes ≡ stored_rows holder a last a.height p → cleared ≡ fill last 0 n (λ k. pos 0) →
      Left s.end (Ok next) planes cleared (area_values (data_of bytes s) scale holder a (goes_on s.bit p))
  left-stored next last planes cleared e long before stored clear =
      left-goes s.end next planes cleared _ (rw stored (area-read (data_of bytes s) scale holder a s.bit run p enough next last (rw all at (sym e)))) before
      (rw clear (blank-again bytes s.end s.origin scale n s.bit run last next few blank long e))

-- steps one after the other, each of which leaves what its definition says: so far, refused, and all of them
module _ (f : ℕ → RunOf Planes → RunOf Planes) (stays : (k : ℕ) → Stays (f k)) (end : ℕ) (s : RunOf Planes) where
  pub walked_none : (bit : ℕ) (planes : Planes) → s ≡ goes_on bit planes → walk f 0 0 s ≡ goes_on bit planes
  walked_none bit planes is = walk_none f 0 s ∙ is

  pub walked_more : (n bit : ℕ) (planes last : Planes) (run : List ℤ) (next : ℕ) → walk f 0 n s ≡ goes_on bit planes → Left end (Ok next) last run (f n (goes_on bit planes)) →
      walk f 0 (n + 1) s ≡ goes_on next last
  walked_more n bit planes last run next sofar left = walk-next f n s (goes_on bit planes) (goes_on next last) sofar (left-on end next last run _ left)

  pub walked_stop : (n m bit : ℕ) (planes last : Planes) (run : List ℤ) (fault : Fault) → n < m → walk f 0 n s ≡ goes_on bit planes → Left end (Err fault) last run (f n (goes_on bit planes)) →
      Left end (Err fault) last run (walk f 0 m s)
  walked_stop n m bit planes last run fault below sofar left =
      let status = number_of fault.refusal in
      let q = (f n (goes_on bit planes)).plane in
      let stopped = walk-next f n s (goes_on bit planes) (stops status fault.bit q) sofar (left-stops end fault last run _ left) in
      left-refused end fault q last run _ (sym (walk-stopped f (n + 1) m s (stops status fault.bit q) (omega arith) stopped (λ k. stays k status fault.bit q)))

  pub walked_all : (n m bit : ℕ) (planes : Planes) (run : List ℤ) → n ≡ m → walk f 0 n s ≡ goes_on bit planes → bit ≤ end → Blank run → Left end (Ok bit) planes run (walk f 0 m s)
  walked_all n m bit planes run last sofar before blank = left-goes end bit planes run _ (rw last at sofar) before blank

-- a rectangle is its rows, one after the other; a refused run stays as it is; and only the end and the origin of its data matter
module _ (d : PartData) (scale : ℕ → ℕ) (holder : Holder) where
  entry-stays : (i : ℕ) → Stays (entry_values d scale holder i)
  unfolding entry_values
  entry-stays i = by holder
    where
      by : (h : Holder) → Stays (entry_values d scale h i)
      by Luma status bit plane = value_stays d.bytes d.to d.origin scale (in_luma i) status bit plane
      by Both status bit plane =
          ap (value d.bytes d.to d.origin scale (in_second i)) (value_stays d.bytes d.to d.origin scale (in_first i) status bit plane)
          ∙ value_stays d.bytes d.to d.origin scale (in_second i) status bit plane

  pub area-stays : (a : Rectangle) → Stays (area_values d scale holder a)
  unfolding area_values
  area-stays a =
      walk-keeps (λ y. walk (λ x. entry_values d scale holder (a.start + y * a.stride + x)) 0 a.width)
      (λ y. walk-keeps (λ x. entry_values d scale holder (a.start + y * a.stride + x)) (λ x. entry-stays (a.start + y * a.stride + x)) 0 a.width) 0 a.height

  pub area-rows : (a : Rectangle) (r : RunOf Planes) → walk (λ y. area_values d scale holder (row_of a y)) 0 a.height r ≡ area_values d scale holder a r
  unfolding area_values walk
  area-rows a r =
      walk_same (λ y. area_values d scale holder (row_of a y)) (λ y. walk (λ x. entry_values d scale holder (a.start + y * a.stride + x)) 0 a.width) 0 0 a.height r
      (λ k below t. rw (zero-mul a.stride, add-zero (a.start + (0 + k) * a.stride)) refl)

-- A span that has moved on in the same data.
module _ (s t : Span) (end-same : t.end ≡ s.end) (origin-same : t.origin ≡ s.origin) where
  pub span-again : t.bit ≤ s.end → SoundSpan s → SoundSpan t
  span-again inside sound = record { before_end = rw end-same inside; small = rw (end-same, origin-same) sound.small }

module _ (bytes : List ℕ) (s t : Span) (end-same : t.end ≡ s.end) (origin-same : t.origin ≡ s.origin) (scale : ℕ → ℕ) (holder : Holder) where
  entry-moved : (i : ℕ) (v : RunOf Planes) → entry_values (data_of bytes t) scale holder i v ≡ entry_values (data_of bytes s) scale holder i v
  unfolding entry_values
  entry-moved i v = by holder
    where
      by : (h : Holder) → entry_values (data_of bytes t) scale h i v ≡ entry_values (data_of bytes s) scale h i v
      by Luma = rw (end-same, origin-same) refl
      by Both = rw (end-same, origin-same) refl

  area-moved : (a : Rectangle) (r : RunOf Planes) → area_values (data_of bytes t) scale holder a r ≡ area_values (data_of bytes s) scale holder a r
  unfolding area_values
  area-moved a r =
      walk_same (λ y. walk (λ x. entry_values (data_of bytes t) scale holder (a.start + y * a.stride + x)) 0 a.width)
      (λ y. walk (λ x. entry_values (data_of bytes s) scale holder (a.start + y * a.stride + x)) 0 a.width) 0 0 a.height r
      (λ y below u.
      walk_same (λ x. entry_values (data_of bytes t) scale holder (a.start + (0 + y) * a.stride + x)) (λ x. entry_values (data_of bytes s) scale holder (a.start + (0 + y) * a.stride + x)) 0 0 a.width u
      (λ x within v. entry-moved (a.start + (0 + y) * a.stride + (0 + x)) v))

  -- what reading from it left
  pub left-again : (progress : Result ℕ Fault) (planes : Planes) (run : List ℤ) (a : Rectangle) (r : RunOf Planes) →
      Left t.end progress planes run (area_values (data_of bytes t) scale holder a r) → Left s.end progress planes run (area_values (data_of bytes s) scale holder a r)
  left-again progress planes run a r left =
      subst (λ (n : ℕ). Left n progress planes run (area_values (data_of bytes s) scale holder a r)) end-same (rw (area-moved a r) at left)
