-- The laws of `fill`: one more store, more of them, lengths, what stands where, and a part that is overwritten whole.
-- Assumes nothing.
use mathlib.Core.Path.{◌≡◌, refl, sym, ap, ◌∙◌}
use mathlib.Core.Logic.{◌≢◌}
use mathlib.Core.List.{List}
use Prim.Native.Nat.{ℕ, zero, suc, ◌+◌, ◌-◌, ◌≤◌, ◌<◌}
use native.Mathlib.Nat.{zero-add, add-zero, add-suc, add_assoc}
use native.Mathlib.Numerals.{add-one}
use native.Mathlib.Decide.{dec_lt}
use native.Mathlib.Omega.{arith}
use lib.ListN.{length, get_or, set, length-set}
use lib.Seq.{paste, get_or-set_same, get_or-set_other, set_comm}
use borrow.Rule.Slice.PartMut.{put_mid}
use Rattle.std.proofs.lemmas.List.Edits.{paste_none, paste_more}
use Rattle.std.proofs.lemmas.Slice.{put_mid-paste}
use Rattle.base.specs.Fill.{fill}

module _ {ℓ} {A : Type ℓ} (l : List A) (d : ℕ) (f : ℕ → A) where
  -- nothing stored
  pub fill_none : fill l d 0 f ≡ l
  unfolding fill
  fill_none = refl

  -- one more store, at index j
  pub fill_more : (n j : ℕ) → j ≡ d + n → set (fill l d n f) j (f n) ≡ fill l d (n + 1) f
  unfolding fill
  fill_more n j at = rw (add-one n, at)

  -- stores that go on where others ended
  pub fill-append : (n m : ℕ) → fill (fill l d n f) (d + n) m (λ k. f (n + k)) ≡ fill l d (n + m) f
  unfolding fill
  fill-append n zero = rw (add-zero n)
  fill-append n (suc m) = rw (add-suc n m, add_assoc d n m, fill-append n m)

  pub length-fill : (n : ℕ) → length (fill l d n f) ≡ length l
  unfolding fill
  length-fill zero = refl
  length-fill (suc n) = length-set (fill l d n f) (d + n) (f n) ∙ length-fill n

  -- an entry that was stored
  pub get_d-fill-in : (n i : ℕ) (e : A) → i < n → d + i < length l → get_or (fill l d n f) (d + i) e ≡ f i
  unfolding fill
  get_d-fill-in zero i e h inside = absurd (omega arith)
  get_d-fill-in (suc n) i e h inside =
      elim (dec_lt i n) [
        | yes below ↦ get_or-set_other (fill l d n f) (d + n) (d + i) (f n) e (omega arith) ∙ get_d-fill-in n i e below inside
        | no not_below ↦
            let last : n ≡ i = omega arith in
            let room : d + n < length (fill l d n f) = rw (length-fill n, last) inside in
            rw (← last) (get_or-set_same (fill l d n f) (d + n) (f n) e room)
      ]

  -- an entry before or after
  pub get_d-fill-out : (n i : ℕ) (e : A) → ((k : ℕ) → k < n → i ≢ d + k) → get_or (fill l d n f) i e ≡ get_or l i e
  unfolding fill
  get_d-fill-out zero i e apart = refl
  get_d-fill-out (suc n) i e apart = get_or-set_other (fill l d n f) (d + n) i (f n) e (apart n (omega arith)) ∙ get_d-fill-out n i e (λ k h. apart k (omega arith))

  -- a store elsewhere may be made before
  pub set-fill-out : (n i : ℕ) (v : A) → ((k : ℕ) → k < n → i ≢ d + k) → set (fill l d n f) i v ≡ fill (set l i v) d n f
  unfolding fill
  set-fill-out zero i v apart = refl
  set-fill-out (suc n) i v apart =
      set_comm (fill l d n f) (d + n) i (f n) v (λ e. apart n (omega arith) (sym e))
      ∙ ap (λ (m : List A). set m (d + n) (f n)) (set-fill-out n i v (λ k h. apart k (omega arith)))

-- an entry of a list that is filled from its start on
pub get_d-fill-start {ℓ} : {A : Type ℓ} (l : List A) (f : ℕ → A) (n i : ℕ) (e : A) → i < n → i < length l → get_or (fill l 0 n f) i e ≡ f i
get_d-fill-start l f n i e h inside = rw (zero-add i) at (get_d-fill-in l 0 f n i e h (omega arith))

-- stores of the same numbers
pub fill-same {ℓ} : {A : Type ℓ} (l : List A) (d : ℕ) (f g : ℕ → A) (n : ℕ) → ((k : ℕ) → k < n → f k ≡ g k) → fill l d n f ≡ fill l d n g
unfolding fill
fill-same l d f g zero same = refl
fill-same l d f g (suc n) same = rw (fill-same l d f g n (λ k h. same k (omega arith)), same n (omega arith))

-- a part of a list, overwritten whole by another list
module _ {A : Type 0} (l : List A) (d : ℕ) (s : List A) (e : A) where
  fill-paste : (n : ℕ) → n ≤ length s → d + n ≤ length l → paste l d s n ≡ fill l d n (λ k. get_or s k e)
  unfolding fill
  fill-paste zero some room = sym (paste_none l d s)
  fill-paste (suc n) some room =
      let more : set (paste l d s n) (d + n) (get_or s n e) ≡ paste l d s (n + 1) = paste_more l d s n e (omega arith) (omega arith) in
      rw add-one at (sym more)
      ∙ ap (λ (m : List A). set m (d + n) (get_or s n e)) (fill-paste n (omega arith) (omega arith))

  pub fill-part : (n : ℕ) (f : ℕ → A) → length s ≡ d + n - d → d + n ≤ length l → ((k : ℕ) → k < n → get_or s k e ≡ f k) → put_mid d (d + n - d) l s ≡ fill l d n f
  fill-part n f whole room same =
      put_mid-paste d (d + n - d) l s s n refl (omega arith) (omega arith)
      ∙ fill-paste n (omega arith) room
      ∙ fill-same l d (λ k. get_or s k e) f n same
