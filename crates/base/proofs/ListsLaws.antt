-- Laws of lists: one that is made entry by entry, zeros, one more entry of a table, and parts of a list.
-- Assumes nothing.
use mathlib.Core.Path.{◌≡◌, refl, ap, ◌∙◌}
use mathlib.Core.List.{List}
use Prim.Native.Nat.{ℕ, zero, suc, ◌+◌, ◌-◌, ◌≤◌, ◌<◌}
use native.Mathlib.Omega.{arith}
use borrow.Author.Count.{below_more}
use lib.IntN.{ℤ, pos}
use lib.ListN.{length, take, drop, get_or, set, replicate, length-take, length-drop}
use lib.Seq.{get_or-set_same, get_or-set_other}
use Rattle.base.specs.Lists.{tabulate, zeros_like}

-- a list made entry by entry
module _ {ℓ} {A : Type ℓ} where
  pub length-tabulate : (n : ℕ) (f : ℕ → A) → length (tabulate n f) ≡ n
  unfolding tabulate
  length-tabulate zero f = refl
  length-tabulate (suc n) f = ap suc (length-tabulate n (λ i. f (suc i)))

  pub get_d_tabulate : (n : ℕ) (f : ℕ → A) (i : ℕ) (e : A) → i < n → get_or (tabulate n f) i e ≡ f i
  unfolding tabulate
  get_d_tabulate zero f i e h = absurd (omega arith)
  get_d_tabulate (suc n) f zero e h = refl
  get_d_tabulate (suc n) f (suc i) e h = get_d_tabulate n (λ k. f (suc k)) i e (omega arith)

-- zeros depend on the length alone
pub zeros-length : (a b : List ℤ) → length a ≡ length b → zeros_like a ≡ zeros_like b
unfolding zeros_like
zeros-length a b same = ap (λ (n : ℕ). replicate n (pos 0)) same

-- one more entry of a table
pub table_more : {A : Type 0} (l : List A) (f : ℕ → A) (e : A) (k : ℕ) (v : A) → k < length l → v ≡ f k → ((j : ℕ) → j < k → get_or l j e ≡ f j) →
    (j : ℕ) → j < k + 1 → get_or (set l k v) j e ≡ f j
table_more l f e k v inside is sofar =
    below_more (λ j. get_or (set l k v) j e ≡ f j) k
    (λ j before. get_or-set_other l k j v e (omega arith) ∙ sofar j before)
    (get_or-set_same l k v e inside ∙ is)

-- a part of so many entries
module _ {ℓ} {A : Type ℓ} (l : List A) where
  pub length_part : (from width : ℕ) → from + width ≤ length l → length (take (from + width - from) (drop from l)) ≡ width
  length_part from width h = simp (length-take, length-drop) (omega arith)
