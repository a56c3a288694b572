-- The laws of `walk`, over any state type: one more step, a state that stays, no step left, what each step keeps.
-- Assumes nothing.
use mathlib.Core.Path.{◌≡◌, refl, sym, ap, ◌∙◌}
use Prim.Native.Nat.{ℕ, zero, suc, ◌+◌, ◌-◌, ◌*◌, ◌/◌, ◌%◌, ◌≤◌, ◌<◌}
use native.Mathlib.Nat.{add-suc, suc-add, add-zero, zero-add, zero-mul, suc-mul, mul-add-div_right, mul-add-mod_self_right, div-eq_of_lt, mod-eq_of_lt}
use native.Mathlib.Numerals.{add-one}
use native.Mathlib.Omega.{arith}
use Rattle.base.specs.Walk.{walk}

module _ {ℓ} {S : Type ℓ} (f : ℕ → S → S) where
  -- no step left
  pub walk_none : (i : ℕ) (s : S) → walk f i 0 s ≡ s
  unfolding walk
  walk_none i s = refl

  -- one more step, after n
  pub walk_more : (i n : ℕ) (s : S) → walk f i (suc n) s ≡ f (i + n) (walk f i n s)
  unfolding walk
  walk_more i zero s = ap (λ (k : ℕ). f k s) (sym (add-zero i))
  walk_more i (suc n) s =
      walk_more (suc i) n (f i s) ∙ ap (λ (k : ℕ). f k (walk f (suc i) n (f i s))) (suc-add i n ∙ sym (add-suc i n))

  -- a state that every step leaves stays
  pub walk-stays : (i n : ℕ) (s : S) → ((k : ℕ) → f k s ≡ s) → walk f i n s ≡ s
  unfolding walk
  walk-stays i zero s same = refl
  walk-stays i (suc n) s same = ap (walk f (suc i) n) (same i) ∙ walk-stays (suc i) n s same

  -- steps after steps
  pub walk_split : (i m n : ℕ) (s : S) → walk f i (m + n) s ≡ walk f (i + m) n (walk f i m s)
  unfolding walk
  walk_split i zero n s = rw (zero-add n, add-zero i)
  walk_split i (suc m) n s =
      rw (suc-add m n) (walk_split (suc i) m n (f i s) ∙ ap (λ (k : ℕ). walk f k n (walk f (suc i) m (f i s))) (suc-add i m ∙ sym (add-suc i m)))

  -- the state after one turn more, from the state so far
  pub walk-next : (n : ℕ) (s t u : S) → walk f 0 n s ≡ t → f n t ≡ u → walk f 0 (n + 1) s ≡ u
  walk-next n s t u sofar step =
      ap (λ (k : ℕ). walk f 0 k s) (add-one n) ∙ walk_more 0 n s ∙ ap (λ (k : ℕ). f k (walk f 0 n s)) (zero-add n) ∙ ap (f n) sofar ∙ step

  -- a state that no step leaves is the last one
  pub walk-stopped : (m n : ℕ) (s t : S) → m ≤ n → walk f 0 m s ≡ t → ((k : ℕ) → f k t ≡ t) → walk f 0 n s ≡ t
  walk-stopped m n s t short sofar same =
      let whole : m + (n - m) ≡ n = omega arith in
      ap (λ (k : ℕ). walk f 0 k s) (sym whole) ∙ walk_split 0 m (n - m) s ∙ ap (walk f (0 + m) (n - m)) sofar ∙ walk-stays (0 + m) (n - m) t same

module _ {ℓ} {S : Type ℓ} where
  -- the steps from i up to n: some of them first
  pub walk-up-to : (f : ℕ → S → S) (i c n : ℕ) (s : S) → i + c ≤ n → walk f i (n - i) s ≡ walk f (i + c) (n - (i + c)) (walk f i c s)
  walk-up-to f i c n s inside =
      let whole : n - i ≡ c + (n - (i + c)) = omega arith in
      ap (λ (k : ℕ). walk f i k s) whole ∙ walk_split f i c (n - (i + c)) s

  -- the first of them
  pub walk_first : (f : ℕ → S → S) (i n : ℕ) (s : S) → i < n → walk f i (n - i) s ≡ walk f (suc i) (n - suc i) (f i s)
  unfolding walk
  walk_first f i n s inside =
      let whole : n - i ≡ suc (n - suc i) = omega arith in
      rw whole refl

  -- none is left
  pub walk-past : (f : ℕ → S → S) (i n : ℕ) (s : S) → n ≤ i → walk f i (n - i) s ≡ s
  unfolding walk
  walk-past f i n s past =
      let none : n - i ≡ 0 = omega arith in
      rw none refl

  -- the same steps, counted from elsewhere
  pub walk_same : (f g : ℕ → S → S) (i j n : ℕ) (s : S) → ((k : ℕ) → k < n → (t : S) → f (i + k) t ≡ g (j + k) t) → walk f i n s ≡ walk g j n s
  unfolding walk
  walk_same f g i j zero s same = refl
  walk_same f g i j (suc n) s same =
      let first : f i s ≡ g j s = ap (λ (k : ℕ). f k s) (sym (add-zero i)) ∙ same 0 (omega arith) s ∙ ap (λ (k : ℕ). g k s) (add-zero j) in
      ap (walk f (suc i) n) first
      ∙ walk_same f g (suc i) (suc j) n (g j s) (λ k below t. ap (λ (x : ℕ). f x t) (suc-add i k ∙ sym (add-suc i k)) ∙ same (suc k) (omega arith) t ∙ ap (λ (x : ℕ). g x t) (add-suc j k ∙ sym (suc-add j k)))

  -- a walk of walks of w steps each is one walk
  pub walk-flat : (f : ℕ → ℕ → S → S) (w h : ℕ) (s : S) → walk (λ y. walk (f y) 0 w) 0 h s ≡ walk (λ i. f (i / w) (i % w)) 0 (h * w) s
  unfolding walk
  walk-flat f w zero s = rw (zero-mul w) refl
  walk-flat f w (suc h) s =
      let more : suc h * w ≡ h * w + w = suc-mul h w in
      walk_more (λ y. walk (f y) 0 w) 0 h s
      ∙ ap (λ (k : ℕ). walk (f k) 0 w (walk (λ y. walk (f y) 0 w) 0 h s)) (zero-add h)
      ∙ ap (walk (f h) 0 w) (walk-flat f w h s)
      ∙ walk_same (f h) (λ i. f (i / w) (i % w)) 0 (h * w) w (walk (λ i. f (i / w) (i % w)) 0 (h * w) s)
      (λ k below t.
      let some : 0 < w = omega arith in
      let here : 0 + k ≡ k = omega arith in
      let row : (h * w + k) / w ≡ h = mul-add-div_right some h k ∙ ap (λ (x : ℕ). h + x) (div-eq_of_lt below) ∙ add-zero h in
      let column : (h * w + k) % w ≡ k = mul-add-mod_self_right h w k ∙ mod-eq_of_lt below in
      rw (here, row, column) refl)
      ∙ sym (ap (λ (k : ℕ). walk (λ i. f (i / w) (i % w)) 0 k s) more ∙ walk_split (λ i. f (i / w) (i % w)) 0 (h * w) w s ∙ ap (λ (k : ℕ). walk (λ i. f (i / w) (i % w)) k w (walk (λ i. f (i / w) (i % w)) 0 (h * w) s)) (zero-add (h * w)))

-- what each step keeps, a walk keeps
pub walk-holds :
    {S : Type 0} (P : S → Type 0) (f : ℕ → S → S) (i n : ℕ) → ((k : ℕ) → k < i + n → (s : S) → P s → P (f k s)) → (s : S) → P s → P (walk f i n s)
unfolding walk
walk-holds P f i zero each s holds = holds
walk-holds P f i (suc n) each s holds = walk-holds P f (suc i) n (λ k h. each k (omega arith)) (f i s) (each i (omega arith) s holds)
