-- The subbands tile the coefficient plane: every entry lies in exactly one.
-- Assumes nothing.
use mathlib.Core.Path.{◌≡◌, refl, sym, subst}
use mathlib.Core.Logic.{◌≢◌}
use Prim.Native.Nat.{ℕ, zero, suc, ◌+◌, ◌*◌, ◌/◌, ◌%◌, ◌≤◌, ◌<◌}
use native.Mathlib.Decide.{dec_lt}
use native.Mathlib.Omega.{arith}
use Rattle.component.specs.Sizes.{padded_size, band_size, size_at}
use Rattle.component.specs.Subbands.{subband_count, subband_level, orientation_of, detail_of, left_of, top_of, subband_at, InSubband}
use Rattle.component.specs.declared.subbands.Subband.{Subband}
use Rattle.component.proofs.SizesLaws.{size_at-padded, band-size_at}
use Rattle.component.proofs.SubbandsLaws.{detail}

-- exactly one of the subbands below a count has the entry
pub record ExactlyOne (subband : ℕ → Subband) (count row column : ℕ) : Type 0 where
  pub index : ℕ
  pub counted : index < count
  pub lies : InSubband (subband index) row column
  pub alone : (j : ℕ) → j < count → InSubband (subband j) row column → j ≡ index

-- one of the three subbands of level n + 1
three : (P : ℕ → Type 0) (n j : ℕ) → (j < 1 + 3 * n → ⊥) → j < 1 + 3 * suc n → P (3 * n + 1) → P (3 * n + 2) → P (3 * n + 3) → P j
three P n j old new p1 p2 p3 =
    elim (dec_lt j (3 * n + 2)) [
      | yes first ↦
          let e : 3 * n + 1 ≡ j = omega arith in
          subst P e p1
      | no later ↦
          elim (dec_lt j (3 * n + 3)) [
            | yes second ↦
                let e : 3 * n + 2 ≡ j = omega arith in
                subst P e p2
            | no third ↦
                let e : 3 * n + 3 ≡ j = omega arith in
                subst P e p3
          ]
    ]

module _ (depth width height : ℕ) where
  -- the size of the bands of level n + 1, which is that of the picture of depth n
  W : ℕ → ℕ
  W n = size_at (band_size depth (padded_size depth width) 0) n

  H : ℕ → ℕ
  H n = size_at (band_size depth (padded_size depth height) 0) n

  S : ℕ → Subband
  S = subband_at depth (padded_size depth width) (padded_size depth height)

  grows : (n : ℕ) → (W (suc n) ≡ 2 * W n) × (H (suc n) ≡ 2 * H n)
  unfolding W H size_at
  grows n = (refl, refl)

  -- the four kinds of subband, each with its rectangle
  at-LL : S 0 ≡ record { level = 0; left = 0; top = 0; width = W 0; height = H 0 }
  unfolding S W H size_at subband_at subband_level orientation_of left_of top_of
  at-LL = refl

  module _ (m : ℕ) (deep : m ≤ depth) where
    -- a subband of level m + 1, from its remainder by 3
    at_level : (k r : ℕ) → (k + 2) / 3 ≡ suc m → k ≢ 0 → k % 3 ≡ r →
        S k ≡ record { level = suc m; left = left_of (detail_of r) (W m); top = top_of (detail_of r) (H m); width = W m; height = H m }
    unfolding S W H subband_at subband_level
    at_level k r level positive rest =
        rw (level, detail k positive, rest, band-size_at depth width m deep, band-size_at depth height m deep)

    at-HL : S (3 * m + 1) ≡ record { level = suc m; left = W m; top = 0; width = W m; height = H m }
    unfolding left_of top_of detail_of
    at-HL = at_level (3 * m + 1) 1 (omega arith) (omega arith) (omega arith)

    at-LH : S (3 * m + 2) ≡ record { level = suc m; left = 0; top = H m; width = W m; height = H m }
    unfolding left_of top_of detail_of
    at-LH = at_level (3 * m + 2) 2 (omega arith) (omega arith) (omega arith)

    at-HH : S (3 * m + 3) ≡ record { level = suc m; left = W m; top = H m; width = W m; height = H m }
    unfolding left_of top_of detail_of
    at-HH = at_level (3 * m + 3) 0 (omega arith) (omega arith) (omega arith)

  module _ (row column : ℕ) where
    abbrev In : ℕ → Type 0
    In j = InSubband (S j) row column

    -- an entry of the first subbands lies in the picture that they make up
    inner : (n j : ℕ) → n ≤ depth → j < 1 + 3 * n → In j → (row < H n) × (column < W n)
    inner zero j deep old lies =
        let e : j ≡ 0 = omega arith in
        let here = rw at-LL at (subst In e lies) in
        omega (arith, here)
    inner (suc n) j deep old lies =
        elim (dec_lt j (1 + 3 * n)) [
          | yes below ↦ omega (arith, inner n j (omega arith) below lies, grows n)
          | no above ↦
              three (λ k. In k → (row < H (suc n)) × (column < W (suc n))) n j above old
              (λ l. let here = rw (at-HL n (omega arith)) at l in omega (arith, here, grows n))
              (λ l. let here = rw (at-LH n (omega arith)) at l in omega (arith, here, grows n))
              (λ l. let here = rw (at-HH n (omega arith)) at l in omega (arith, here, grows n))
              lies
        ]

    -- an entry of the picture of depth n is in no subband of level n + 1
    old-one : (n : ℕ) → suc n ≤ depth → row < H n → column < W n → ExactlyOne S (1 + 3 * n) row column → ExactlyOne S (1 + 3 * suc n) row column
    old-one n deep rows columns one =
        record {
          index = one.index;
          counted = omega (arith, one.counted);
          lies = one.lies;
          alone = λ j h l.
              elim (dec_lt j (1 + 3 * n)) [
                | yes below ↦ one.alone j below l
                | no above ↦
                    three (λ k. In k → k ≡ one.index) n j above h
                    (λ q. let here = rw (at-HL n (omega arith)) at q in absurd (omega (arith, here)))
                    (λ q. let here = rw (at-LH n (omega arith)) at q in absurd (omega (arith, here)))
                    (λ q. let here = rw (at-HH n (omega arith)) at q in absurd (omega (arith, here)))
                    l
              ];
        }

    -- an entry outside it is in none of the earlier subbands
    new-one : (n i : ℕ) → suc n ≤ depth → (row < H n → column < W n → ⊥) → i < 1 + 3 * suc n → In i →
        (In (3 * n + 1) → 3 * n + 1 ≡ i) → (In (3 * n + 2) → 3 * n + 2 ≡ i) → (In (3 * n + 3) → 3 * n + 3 ≡ i) →
        ExactlyOne S (1 + 3 * suc n) row column
    new-one n i deep outside counted lies first second third =
        record {
          index = i;
          counted = counted;
          lies = lies;
          alone = λ j h l.
              elim (dec_lt j (1 + 3 * n)) [
                | yes below ↦
                    let old = inner n j (omega arith) below l in
                    absurd (outside old.0 old.1)
                | no above ↦ three (λ k. In k → k ≡ i) n j above h first second third l
              ];
        }

    one_of : (n : ℕ) → n ≤ depth → row < H n → column < W n → ExactlyOne S (1 + 3 * n) row column
    one_of zero deep rows columns =
        record {
          index = 0;
          counted = omega arith;
          lies = rw at-LL (record { below_top = omega arith; above_bottom = omega arith; right_of_left = omega arith; left_of_right = omega arith });
          alone = λ j h l. omega arith;
        }
    one_of (suc n) deep rows columns =
        let shallow : n ≤ depth = omega arith in
        elim (dec_lt row (H n)) [
          | yes upper ↦
              elim (dec_lt column (W n)) [
                | yes left ↦ old-one n deep upper left (one_of n shallow upper left)
                | no right ↦
                    new-one n (3 * n + 1) deep (λ r c. right c) (omega arith)
                    (rw (at-HL n shallow) (record { below_top = omega arith; above_bottom = omega arith; right_of_left = omega arith; left_of_right = omega (arith, grows n) }))
                    (λ q. refl)
                    (λ q. let here = rw (at-LH n shallow) at q in omega (arith, here))
                    (λ q. let here = rw (at-HH n shallow) at q in omega (arith, here))
              ]
          | no lower ↦
              elim (dec_lt column (W n)) [
                | yes left ↦
                    new-one n (3 * n + 2) deep (λ r c. lower r) (omega arith)
                    (rw (at-LH n shallow) (record { below_top = omega arith; above_bottom = omega (arith, grows n); right_of_left = omega arith; left_of_right = omega arith }))
                    (λ q. let here = rw (at-HL n shallow) at q in omega (arith, here))
                    (λ q. refl)
                    (λ q. let here = rw (at-HH n shallow) at q in omega (arith, here))
                | no right ↦
                    new-one n (3 * n + 3) deep (λ r c. right c) (omega arith)
                    (rw (at-HH n shallow) (record { below_top = omega arith; above_bottom = omega (arith, grows n); right_of_left = omega arith; left_of_right = omega (arith, grows n) }))
                    (λ q. let here = rw (at-HL n shallow) at q in omega (arith, here))
                    (λ q. let here = rw (at-LH n shallow) at q in omega (arith, here))
                    (λ q. refl)
              ]
        ]

-- every entry of the coefficient plane lies in exactly one subband
pub tiled : (depth width height row column : ℕ) → row < padded_size depth height → column < padded_size depth width →
    ExactlyOne (subband_at depth (padded_size depth width) (padded_size depth height)) (subband_count depth) row column
unfolding S W H
tiled depth width height row column inside-rows inside-columns =
    one_of depth width height row column depth (omega arith)
    (subst (λ (n : ℕ). row < n) (sym (size_at-padded depth height)) inside-rows)
    (subst (λ (n : ℕ). column < n) (sym (size_at-padded depth width)) inside-columns)
