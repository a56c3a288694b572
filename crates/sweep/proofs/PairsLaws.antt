-- Pairs of rows changed one after the other: those from one on to another, and those from there on, are all those from the first on.
-- Assumes nothing.
use mathlib.Core.Path.{◌≡◌, refl, ◌∙◌}
use mathlib.Core.Bool.{Bool, true}
use mathlib.Core.List.{List}
use Prim.Native.Nat.{ℕ, suc, ◌≤◌}
use native.Mathlib.Decide.{dec_lt}
use native.Mathlib.Omega.{arith}
use lib.IntN.{ℤ}
use Rattle.filters.specs.Passes.{Picture}
use Rattle.sweep.specs.Pairs.{EachPair, PairsPut}

module _ (stride height width : ℕ) (P : Picture) where
  pub pairs-none : (k : ℕ) (plane : List ℤ) → PairsPut stride height width k k P plane plane
  pairs-none k plane = record { new = λ q even x from to inside within. absurd (omega arith); kept = λ q even x out within. refl }

  pub pairs-joined :
      (a b c : ℕ) (plane plane' plane'' : List ℤ) → a ≤ b → b ≤ c
      → PairsPut stride height width a b P plane plane' → PairsPut stride height width b c P plane' plane'' → PairsPut stride height width a c P plane plane''
  pairs-joined a b c plane plane' plane'' ab bc first second =
      record {
        new = λ q even x from to inside within.
            elim (dec_lt q b) [
              | yes before ↦ second.kept q even x (λ later end. omega arith) within ∙ first.new q even x from before inside within
              | no later ↦ second.new q even x (omega arith) to inside within
            ];
        kept = λ q even x out within.
            second.kept q even x (λ from to. out (omega arith) to) within ∙ first.kept q even x (λ from to. out from (omega arith)) within;
      }

-- a test that passes at pairs and at the next one
pub each-more : (from k : ℕ) (test : ℕ → Bool) → EachPair from k test → test k ≡ true → EachPair from (suc k) test
each-more from k test before here q first end =
    elim (dec_lt q k) [
      | yes earlier ↦ before q first earlier
      | no last ↦ let same : q ≡ k = omega arith in rw same here
    ]
