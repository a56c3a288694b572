-- Laws of values that go one after the other to entries of a plane: values after values, a refusal that ends them, and what they leave.
-- Assumes nothing.
use mathlib.Core.Path.{◌≡◌, refl, ap, ◌∙◌}
use mathlib.Core.Logic.{◌≢◌}
use mathlib.Core.List.{List}
use Prim.Native.Nat.{ℕ, zero, suc, ◌+◌, ◌*◌, ◌/◌, ◌≤◌, ◌<◌}
use native.Mathlib.Nat.{mul-le-mul_right}
use native.Mathlib.Omega.{arith}
use lib.IntN.{pos}
use lib.ListN.{get_or, set}
use Rattle.base.specs.Walk.{walk}
use Rattle.base.proofs.WalkLaws.{walk_none, walk_more, walk_split}
use Rattle.coefficients.specs.Reading.{Run}
use Rattle.coefficients.specs.Values.{index_of, entry, entries}
use Rattle.coefficients.specs.declared.values.Layout.{Layout}
use Rattle.coefficients.proofs.ReadingLaws.{Stays, walk-keeps, value_stays, value_keeps}

module _ (bytes : List ℕ) (end origin : ℕ) (scale index : ℕ → ℕ) where
  abbrev from : ℕ → ℕ → Run → Run
  from = entries bytes end origin scale index

  abbrev one : ℕ → Run → Run
  one = entry bytes end origin scale index

  pub entry-stays : (i : ℕ) → Stays (one i)
  unfolding entry
  entry-stays i = value_stays bytes end origin scale (λ v plane. set plane (index i) v)

  pub entries-stay : (i n : ℕ) → Stays (from i n)
  unfolding entries
  entries-stay i n = walk-keeps one entry-stays i n

  -- no value, one, and one more
  pub entries_none : (i : ℕ) (r : Run) → from i 0 r ≡ r
  unfolding entries
  entries_none i r = walk_none one i r

  pub entries-one : (i : ℕ) (r : Run) → from i 1 r ≡ one i r
  unfolding entries walk
  entries-one i r = refl

  pub entries-more : (i n : ℕ) (r t u : Run) → from i n r ≡ t → one (i + n) t ≡ u → from i (n + 1) r ≡ u
  unfolding entries
  entries-more i n r t u sofar step =
      let more : n + 1 ≡ suc n = omega arith in
      ap (λ (k : ℕ). walk one i k r) more ∙ walk_more one i n r ∙ ap (one (i + n)) sofar ∙ step

  -- values after values
  pub entries-adds : (i m n : ℕ) (r : Run) → from i (m + n) r ≡ from (i + m) n (from i m r)
  unfolding entries
  entries-adds i m n r = walk_split one i m n r

  -- they change no entry but their own
  pub entries-keep : (i n j : ℕ) → ((k : ℕ) → i ≤ k → k < i + n → index k ≢ j) → (r : Run) → get_or (from i n r).plane j (pos 0) ≡ get_or r.plane j (pos 0)
  unfolding entries entry
  entries-keep i zero j apart r = ap (λ (t : Run). get_or t.plane j (pos 0)) (walk_none one i r)
  entries-keep i (suc n) j apart r =
      ap (λ (t : Run). get_or t.plane j (pos 0)) (walk_more one i n r)
      ∙ kept (i + n) (apart (i + n) (omega arith) (omega arith)) (walk one i n r)
      ∙ entries-keep i n j (λ k from-i below. apart k from-i (omega arith)) r
    where
      kept : (k : ℕ) → index k ≢ j → (t : Run) → get_or (one k t).plane j (pos 0) ≡ get_or t.plane j (pos 0)
      kept k apart-k t = value_keeps bytes end origin scale (index k) j apart-k t

-- later values of a layout go to later entries
pub index-grows : (l : Layout) (i j : ℕ) → i < j → index_of l i < index_of l j
unfolding index_of
index-grows l i j less =
    let product : i * l.reciprocal ≤ j * l.reciprocal = mul-le-mul_right l.reciprocal (omega arith) in
    let quotient : i * l.reciprocal / 16777216 ≤ j * l.reciprocal / 16777216 = omega arith in
    let gaps : i * l.reciprocal / 16777216 * l.gap ≤ j * l.reciprocal / 16777216 * l.gap = mul-le-mul_right l.gap quotient in
    omega arith
