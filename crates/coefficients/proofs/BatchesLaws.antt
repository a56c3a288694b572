-- Values that are read at once by the bits of a window: zeros, a small value after them, and lookups one after the other.
-- Assumes nothing.
use mathlib.Core.Path.{◌≡◌, refl, sym, ap, ◌∙◌}
use mathlib.Core.Bool.{Bool, true, false}
use mathlib.Core.Logic.{◌≢◌}
use mathlib.Core.List.{List}
use Prim.Native.Nat.{ℕ, zero, suc, ◌+◌, ◌-◌, ◌*◌, ◌/◌, ◌%◌, ◌^◌, ◌≤◌, ◌<◌}
use native.Mathlib.Nat.{add-zero, add_assoc}
use native.Mathlib.Numerals.{add-one}
use native.Mathlib.Decide.{ℕ_discrete}
use native.Mathlib.Omega.{arith}
use borrow.Author.Tests.{eqb-true}
use lib.Dec.{eqb}
use lib.IntN.{ℤ, pos}
use lib.ListN.{length, get_or, set, length-set}
use lib.Seq.{set-get_or}
use Rattle.base.specs.Sign.{with_sign}
use Rattle.exp_golomb.specs.Bits.{bit_at, present}
use Rattle.exp_golomb.specs.Codes.{Read, signed}
use Rattle.lookups.specs.Windows.{Ahead}
use Rattle.lookups.specs.Lookups.{Describes}
use Rattle.lookups.specs.declared.Lookup.{Lookup}
use Rattle.lookups.proofs.WindowsLaws.{ahead-present, ahead-ones, ahead-shift}
use Rattle.lookups.proofs.LookupsLaws.{zero-signed, lookup-present, lookup-ones, lookup-number}
use Rattle.coefficients.specs.Reading.{Run, goes_on}
use Rattle.coefficients.specs.Scaling.{small_value, Small}
use Rattle.coefficients.specs.Values.{index_of, entry, entries, Clear, Ready}
use Rattle.coefficients.specs.Batches.{ReadsAhead, ReadsWithin}
use Rattle.coefficients.specs.declared.values.Layout.{Layout}
use Rattle.coefficients.proofs.ReadingLaws.{store-fits, value_read}
use Rattle.coefficients.proofs.ValuesLaws.{entries_none, entries-more, entries-adds, entries-keep, index-grows}

-- a zero stored into a zero
zero-set : (plane : List ℤ) (k : ℕ) → get_or plane k (pos 0) ≡ pos 0 → set plane k (pos 0) ≡ plane
zero-set plane k e = ap (set plane k) (sym e) ∙ set-get_or plane k (pos 0)

small-zero : (scale : ℕ → ℕ) (small : List ℤ) → Small scale small → small_value scale 0 ≡ pos 0
unfolding small_value with_sign
small-zero scale small known = rw known.none

-- what is told of a lookup's first code: x where it is a zero, else y
abbrev pub OfFirst : Lookup → ℕ → ℕ → ℕ → Type 0
OfFirst l told x y = (l.zeros ≢ 0 → told ≡ x) × (l.zeros ≡ 0 → told ≡ y)

pub first-most : (l : Lookup) (told x y most : ℕ) → OfFirst l told x y → x ≤ most → y ≤ most → told ≤ most
first-most l told x y most is low high =
    elim (ℕ_discrete l.zeros 0) [
      | yes none ↦ rw (is.1 none) high
      | no some ↦ rw (is.0 some) low
    ]

module _ (bytes : List ℕ) (end origin : ℕ) (scale : ℕ → ℕ) (small : List ℤ) (known : Small scale small) (index : ℕ → ℕ) where
  abbrev from : ℕ → ℕ → Run → Run
  from = entries bytes end origin scale index

  -- a small value that was read is stored
  small-read : (i at next k : ℕ) (plane : List ℤ) → k < 30 → signed bytes end true at ≡ Read (k / 2) (eqb (k % 2) 1) next →
      entry bytes end origin scale index i (goes_on at plane) ≡ goes_on next (set plane (index i) (small_value scale k))
  unfolding entry small_value
  small-read i at next k plane few number =
      value_read bytes end origin scale (λ v l. set l (index i) v) at plane (signed bytes end true at) (k / 2) (eqb (k % 2) 1) next refl number
      ∙ store-fits origin (small_value scale k) (λ v l. set l (index i) v) next plane (known.fits k few)

  -- as many zeros as there are ones, into zeros
  pub entries-zeros : (i at : ℕ) (plane : List ℤ) (n : ℕ) → ((j : ℕ) → j < n → present bytes end (at + j) ≡ true) → ((j : ℕ) → j < n → bit_at bytes (at + j) ≡ 1) →
      Clear index i (i + n) plane → from i n (goes_on at plane) ≡ goes_on (at + n) plane
  entries-zeros i at plane zero there one clear =
      entries_none bytes end origin scale index i (goes_on at plane) ∙ ap (λ (k : ℕ). goes_on k plane) (sym (add-zero at))
  entries-zeros i at plane (suc n) there one clear =
      let sofar = entries-zeros i at plane n (λ j h. there j (omega arith)) (λ j h. one j (omega arith)) (record { each = λ k h g. clear.each k h (omega arith) }) in
      let number : signed bytes end true (at + n) ≡ Read 0 false (at + n + 1) = zero-signed bytes end (at + n) (there n (omega arith)) (one n (omega arith)) in
      let step : entry bytes end origin scale index (i + n) (goes_on (at + n) plane) ≡ goes_on (at + n + 1) plane =
      small-read (i + n) (at + n) (at + n + 1) 0 plane (omega arith) number
      ∙ ap (goes_on (at + n + 1)) (ap (set plane (index (i + n))) (small-zero scale small known) ∙ zero-set plane (index (i + n)) (clear.each (i + n) (omega arith) (omega arith))) in
      let next : at + n + 1 ≡ at + (n + 1) = omega arith in
      rw (← add-one n)
      (entries-more bytes end origin scale index i n (goes_on at plane) (goes_on (at + n) plane) (goes_on (at + n + 1) plane) sofar step ∙ ap (λ (k : ℕ). goes_on k plane) next)

  -- a lookup: its zeros, as far as there is room, and a small value after them or none
  module _ (at w n c : ℕ) (ahead : Ahead bytes end w at n) (many : 8 ≤ n) (eight : c ≡ w / 2 ^ 56) (l : Lookup) (right : Describes c l) (i : ℕ) (plane : List ℤ) where
    pub lookup-cut : (m : ℕ) → m ≤ l.zeros → Clear index i (i + m) plane → from i m (goes_on at plane) ≡ goes_on (at + m) plane
    lookup-cut m short clear =
        entries-zeros i at plane m (λ j h. lookup-present bytes end w at n c ahead many eight l right j (omega (arith, right.zeros_most)))
        (λ j h. lookup-ones bytes end w at n c ahead many eight l right j (omega arith)) clear

    pub lookup-step : (room : ℕ) → i + l.zeros < room → Clear index i room plane →
        from i l.count (goes_on at plane) ≡ goes_on (at + l.bits) (set plane (index (i + l.zeros)) (get_or small l.value (pos 0)))
    lookup-step room fits clear =
        let started = lookup-cut l.zeros (omega arith) (record { each = λ k h g. clear.each k h (omega arith) }) in
        let value-is : get_or small l.value (pos 0) ≡ small_value scale l.value = known.each l.value right.value_most in
        elim (ℕ_discrete l.count l.zeros) [
          | yes same ↦
              let none = right.none same in
              let zero_is : get_or small l.value (pos 0) ≡ pos 0 = value-is ∙ ap (small_value scale) none.0 ∙ small-zero scale small known in
              rw (same, none.1, zero_is)
              (started ∙ ap (goes_on (at + l.zeros)) (sym (zero-set plane (index (i + l.zeros)) (clear.each (i + l.zeros) (omega arith) fits))))
          | no other ↦
              rw ((right.some other).0, value-is)
              (entries-more bytes end origin scale index i l.zeros (goes_on at plane) (goes_on (at + l.zeros) plane)
              (goes_on (at + l.bits) (set plane (index (i + l.zeros)) (small_value scale l.value))) started
              (small-read (i + l.zeros) (at + l.zeros) (at + l.bits) l.value plane right.value_most
              (lookup-number bytes end w at n c ahead many eight l right other)))
        ]

    -- its first code alone: a zero, or the small value
    pub code_step : (value bits room : ℕ) → OfFirst l value 0 l.value → OfFirst l bits 1 l.bits → bits ≢ 0 → i < room → Clear index i room plane →
        from i 1 (goes_on at plane) ≡ goes_on (at + bits) (set plane (index i) (get_or small value (pos 0)))
    code_step value bits room value-is bits_is some fits clear =
        elim (ℕ_discrete l.zeros 0) [
          | yes none ↦
              let one : l.count ≡ 1 = code-count none (λ e. some (bits_is.1 none ∙ e)) in
              let here : i + l.zeros ≡ i = omega arith in
              rw (value-is.1 none, bits_is.1 none) (rw (one, here) at (lookup-step room (omega arith) clear))
          | no zeros ↦
              let zero_is : get_or small 0 (pos 0) ≡ pos 0 = known.each 0 (omega arith) ∙ small-zero scale small known in
              rw (value-is.0 zeros, bits_is.0 zeros, zero_is)
              (lookup-cut 1 (omega (arith, zeros)) (record { each = λ k h g. clear.each k h (omega arith) })
              ∙ ap (goes_on (at + 1)) (sym (zero-set plane (index i) (clear.each i (omega arith) fits))))
        ]
      where
        code-count : l.zeros ≡ 0 → l.bits ≢ 0 → l.count ≡ 1
        code-count none some =
            elim (ℕ_discrete l.count l.zeros) [
              | yes same ↦ absurd (some ((right.none same).1 ∙ none))
              | no other ↦ (right.some other).0 ∙ ap (λ (k : ℕ). k + 1) none
            ]

-- what is left of a window after some bits
abbrev pub Left : ℕ → ℕ → ℕ → Type 0
Left w bits rest = (bytes : List ℕ) (end at : ℕ) → Ahead bytes end w at 56 → Ahead bytes end rest (at + bits) (56 - bits)

pub left-all : (w : ℕ) → Left w 0 w
left-all w bytes end at ahead = rw (add-zero at) ahead

pub left-more : (w bits rest b : ℕ) → bits ≤ 48 → b ≤ 8 → Left w bits rest → Left w (bits + b) (rest * 2 ^ b % 2 ^ 64)
left-more w bits rest b few short left bytes end at ahead =
    let next : at + (bits + b) ≡ at + bits + b = omega arith in
    let less : 56 - (bits + b) ≡ 56 - bits - b = omega arith in
    rw (next, less) (ahead-shift bytes end rest (at + bits) (56 - bits) (left bytes end at ahead) b (omega arith))

-- values by no lookup, by some ones at once, and, after others, by one lookup more, by its zeros alone, as many as there is room for, and by its
-- first code alone
module _ (w : ℕ) (small : List ℤ) (index : ℕ → ℕ) (grows : (i j : ℕ) → i < j → index i < index j) (i room : ℕ) (start : List ℤ) (clear : Clear index i room start) where
  pub ahead_none : (count : ℕ) → count ≡ 0 → ReadsAhead w small index i start (record { count = count; bits = 0 }) start
  ahead_none count none =
      record {
        few = omega arith;
        values = λ bytes end origin scale at known ahead.
            rw none (entries_none bytes end origin scale index i (goes_on at start) ∙ ap (λ (k : ℕ). goes_on k start) (sym (add-zero at)));
      }

  pub ahead-zeros : (m : ℕ) → m ≤ 56 → w / 2 ^ (64 - m) + 1 ≡ 2 ^ m → i + m ≤ room → ReadsAhead w small index i start (record { count = m; bits = m }) start
  ahead-zeros m few ones fits =
      record {
        few = few;
        values = λ bytes end origin scale at known ahead.
            entries-zeros bytes end origin scale small known index i at start m (λ j h. ahead-present bytes end w at 56 ahead j (omega arith))
            (ahead-ones bytes end w at 56 ahead m few ones) (record { each = λ k h g. clear.each k h (omega arith) });
      }

  module _ (x bits rest count : ℕ) (plane : List ℤ) (l : Lookup) (few : bits ≤ 48) (sofar : ReadsAhead w small index i start (record { count = x; bits = bits }) plane)
      (left : Left w bits rest) (right : Describes (rest / 2 ^ 56) l) where
    -- later entries are as they were
    still-clear : (bytes : List ℕ) (end origin : ℕ) (scale : ℕ → ℕ) (at : ℕ) → Small scale small → Ahead bytes end w at 56 → Clear index (i + x) room plane
    still-clear bytes end origin scale at known ahead =
        record {
          each = λ k h g.
              ap (λ (r : Run). get_or r.plane (index k) (pos 0)) (sym (sofar.values bytes end origin scale at known ahead))
              ∙ entries-keep bytes end origin scale index i x (index k) (λ j from below e. omega (arith, grows j k (omega arith), e)) (goes_on at start)
              ∙ clear.each k (omega arith) g;
        }

    -- m values more by b bits
    ahead-adds : (m b : ℕ) (last : List ℤ) → count ≡ x + m → b ≤ 8 →
        ((bytes : List ℕ) (end origin : ℕ) (scale : ℕ → ℕ) (at : ℕ) → Small scale small → Ahead bytes end w at 56 → Ahead bytes end rest (at + bits) (56 - bits) →
        entries bytes end origin scale index (i + x) m (goes_on (at + bits) plane) ≡ goes_on (at + bits + b) last) →
        ReadsAhead w small index i start (record { count = count; bits = bits + b }) last
    ahead-adds m b last is short step =
        record {
          few = omega arith;
          values = λ bytes end origin scale at known ahead.
              rw (is, ← add_assoc at bits b)
              (entries-adds bytes end origin scale index i x m (goes_on at start)
              ∙ ap (entries bytes end origin scale index (i + x) m) (sofar.values bytes end origin scale at known ahead)
              ∙ step bytes end origin scale at known ahead (left bytes end at ahead));
        }

    pub ahead_more : count ≡ x + l.count → i + x + l.zeros < room →
        ReadsAhead w small index i start (record { count = count; bits = bits + l.bits }) (set plane (index (i + x + l.zeros)) (get_or small l.value (pos 0)))
    ahead_more is fits =
        ahead-adds l.count l.bits _ is right.bits_most
        (λ bytes end origin scale at known ahead rests.
        lookup-step bytes end origin scale small known index (at + bits) rest (56 - bits) (rest / 2 ^ 56) rests (omega arith) refl l right (i + x) plane
        room fits (still-clear bytes end origin scale at known ahead))

    pub ahead-cut : (m : ℕ) → count ≡ x + m → m ≤ l.zeros → i + x + m ≤ room → ReadsAhead w small index i start (record { count = count; bits = bits + m }) plane
    ahead-cut m is short fits =
        ahead-adds m m plane is (omega (arith, right.zeros_most))
        (λ bytes end origin scale at known ahead rests.
        let still = still-clear bytes end origin scale at known ahead in
        lookup-cut bytes end origin scale small known index (at + bits) rest (56 - bits) (rest / 2 ^ 56) rests (omega arith) refl l right (i + x) plane
        m short (record { each = λ k h g. still.each k h (omega arith) }))

    pub ahead-code : (value b : ℕ) → OfFirst l value 0 l.value → OfFirst l b 1 l.bits → b ≢ 0 → count ≡ x + 1 → i + x < room →
        ReadsAhead w small index i start (record { count = count; bits = bits + b }) (set plane (index (i + x)) (get_or small value (pos 0)))
    ahead-code value b value-is bits_is some is fits =
        ahead-adds 1 b _ is (first-most l b 1 l.bits 8 bits_is (omega arith) right.bits_most)
        (λ bytes end origin scale at known ahead rests.
        code_step bytes end origin scale small known index (at + bits) rest (56 - bits) (rest / 2 ^ 56) rests (omega arith) refl l right (i + x) plane
        value b room value-is bits_is some fits (still-clear bytes end origin scale at known ahead))

-- What was taken of a window: the values of a layout from one on, up to value i, by so many bits; what is left of it; and the plane.
pub record Taken (w : ℕ) (small : List ℤ) (l : Layout) (from : ℕ) (start : List ℤ) (rest i bits : ℕ) (plane : List ℤ) : Type 0 where
  pub started : from ≤ i
  pub same : length plane ≡ length start
  pub left : Left w bits rest
  pub reads : ReadsAhead w small (index_of l) from start (record { count = i - from; bits = bits }) plane

module _ (w : ℕ) (small : List ℤ) (l : Layout) (from : ℕ) (start : List ℤ) (ready : Ready l from start) where
  pub taken_none : Taken w small l from start w from 0 start
  taken_none =
      record {
        started = omega arith;
        same = refl;
        left = left-all w;
        reads = ahead_none w small (index_of l) (index-grows l) from l.count start ready.clear (from - from) (omega arith);
      }

  -- n zeros at once, where a test tells that n ones start the window
  pub zeros-at-once : (n : ℕ) (ones : Bool) → n ≤ 32 → from + n ≤ l.count → ones ≡ eqb (w / 2 ^ (64 - n) + 1) (2 ^ n) → ones ≡ true →
      ReadsWithin w small l from start (record { count = n; bits = n }) start
  zeros-at-once n ones few fits is so =
      (fits, ahead-zeros w small (index_of l) (index-grows l) from l.count start ready.clear n (omega arith) (eqb-true _ _ (sym is ∙ so)) fits)

  module _ (rest i bits : ℕ) (plane : List ℤ) (s : Lookup) (few : bits ≤ 48) (sofar : Taken w small l from start rest i bits plane) (right : Describes (rest / 2 ^ 56) s) where
    here : from + (i - from) ≡ i
    here = omega (arith, sofar.started)

    -- a lookup more, its zeros alone, and its first code alone
    pub taken-lookup : i + s.zeros < l.count →
        Taken w small l from start (rest * 2 ^ s.bits % 2 ^ 64) (i + s.count) (bits + s.bits) (set plane (index_of l (i + s.zeros)) (get_or small s.value (pos 0)))
    taken-lookup fits =
        record {
          started = omega (arith, sofar.started);
          same = simp length-set sofar.same;
          left = left-more w bits rest s.bits few right.bits_most sofar.left;
          reads =
              rw here at
              (ahead_more w small (index_of l) (index-grows l) from l.count start ready.clear (i - from) bits rest (i + s.count - from) plane s few sofar.reads sofar.left right
              (omega (arith, sofar.started)) (rw here fits));
        }

    pub taken-zeros : (m count : ℕ) → m ≤ s.zeros → i + m ≤ l.count → count ≡ i + m - from →
        ReadsAhead w small (index_of l) from start (record { count = count; bits = bits + m }) plane
    taken-zeros m count short fits is =
        ahead-cut w small (index_of l) (index-grows l) from l.count start ready.clear (i - from) bits rest count plane s few sofar.reads sofar.left right m
        (omega (arith, sofar.started)) short (rw here fits)

    pub taken-code : (value b : ℕ) → OfFirst s value 0 s.value → OfFirst s b 1 s.bits → b ≢ 0 → i < l.count →
        Taken w small l from start (rest * 2 ^ b % 2 ^ 64) (i + 1) (bits + b) (set plane (index_of l i) (get_or small value (pos 0)))
    taken-code value b value-is bits_is some fits =
        record {
          started = omega (arith, sofar.started);
          same = simp length-set sofar.same;
          left = left-more w bits rest b few (first-most s b 1 s.bits 8 bits_is (omega arith) right.bits_most) sofar.left;
          reads =
              rw here at
              (ahead-code w small (index_of l) (index-grows l) from l.count start ready.clear (i - from) bits rest (i + 1 - from) plane s few sofar.reads sofar.left right
              value b value-is bits_is some (omega (arith, sofar.started)) (rw here fits));
        }
