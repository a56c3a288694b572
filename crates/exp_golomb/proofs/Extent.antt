-- How far a number code reaches: its bits stay within the data and within 63 bits, so what lies further on does not matter, and a number that
-- is missing begins less than 64 bits before the end.
-- Assumes nothing.
use mathlib.Core.Path.{◌≡◌, refl, sym, ◌∙◌, subst, ap}
use mathlib.Core.Bool.{Bool, true, false}
use mathlib.Core.List.{List}
use Prim.Native.Nat.{ℕ, zero, suc, ◌+◌, ◌-◌, ◌*◌, ◌≤◌, min}
use native.Mathlib.Decide.{ℕ_discrete, dec_le}
use native.Mathlib.Omega.{arith}
use lib.Dec.{eqb}
use lib.ListN.{length}
use borrow.Author.Tests.{le-ltb}
use Rattle.exp_golomb.specs.Bits.{Bit, present, take_bit}
use Rattle.exp_golomb.specs.Codes.{Number, Read, Missing, TooLong, next_of, code_from, unsigned, with_sign_bit, signed}
use Rattle.exp_golomb.proofs.BitsLaws.{takes, absent-past, take-absent, take-past-stated, bit-taken}
use Rattle.exp_golomb.proofs.CodesLaws.{code-missing, code-ends, code-too-long, code-cut, code-goes-on, sign-none, sign-missing, sign_read}

-- A position that a code of so many data bits, which starts at bit i, can come to, in data that end at `last`.
pub record CodeEnd (i left last next : ℕ) : Type 0 where
  pub onward : i ≤ next
  pub bits_most : next ≤ i + 2 * left + 1
  pub within : i ≤ last → next ≤ last

module _ (bytes : List ℕ) (end : ℕ) (stated : Bool) where
  abbrev last : ℕ
  last = min end (8 * length bytes)

  abbrev take : ℕ → Bit
  take = take_bit bytes end stated

  abbrev code : ℕ → ℕ → ℕ → Number
  code = code_from bytes end stated

  -- every position that a code comes to
  pub code-end : (left v i : ℕ) → CodeEnd i left last (next_of (code left v i))
  code-end zero v i =
      takes (CodeEnd i zero last (next_of (code zero v i))) (take i)
      (λ bit next e.
      let t = bit-taken bytes end stated i bit next e in
      let here : CodeEnd i zero last next = record { onward = t.goes_on; bits_most = omega (arith, t.one_at_most); within = t.within } in
      elim (ℕ_discrete bit 1) [
        | yes one ↦ rw (code-ends bytes end stated zero v i bit next e one) here
        | no other ↦ rw (code-too-long bytes end stated zero v i bit next e other refl) here
      ])
      (λ e. rw (code-missing bytes end stated zero v i e) (record { onward = omega arith; bits_most = omega arith; within = λ h. h }))
  code-end (suc left) v i =
      takes (CodeEnd i (suc left) last (next_of (code (suc left) v i))) (take i)
      (λ bit next e.
      let t = bit-taken bytes end stated i bit next e in
      let here : CodeEnd i (suc left) last next = record { onward = t.goes_on; bits_most = omega (arith, t.one_at_most); within = t.within } in
      elim (ℕ_discrete bit 1) [
        | yes one ↦ rw (code-ends bytes end stated (suc left) v i bit next e one) here
        | no other ↦
            takes (CodeEnd i (suc left) last (next_of (code (suc left) v i))) (take next)
            (λ d after e2.
            let u = bit-taken bytes end stated next d after e2 in
            let less : suc left - 1 ≡ left = omega arith in
            let rest = code-end left (2 * v + d) after in
            rw (code-goes-on bytes end stated (suc left) v i bit next d after e other (omega arith) e2, less)
            (record {
              onward = omega (arith, t.goes_on, u.goes_on, rest.onward);
              bits_most = omega (arith, t.one_at_most, u.one_at_most, rest.bits_most);
              within = λ h. rest.within (u.within (t.within h));
            }))
            (λ e2. rw (code-cut bytes end stated (suc left) v i bit next e other (omega arith) e2) here)
      ])
      (λ e. rw (code-missing bytes end stated (suc left) v i e) (record { onward = omega arith; bits_most = omega arith; within = λ h. h }))

  -- a number that was read, from its start on
  pub unsigned-end : (i size : ℕ) (minus : Bool) (next : ℕ) → unsigned bytes end stated i ≡ Read size minus next → CodeEnd i 31 last next
  unfolding unsigned
  unsigned-end i size minus next e = subst (λ (n : Number). CodeEnd i 31 last (next_of n)) e (code-end 31 1 i)

  -- every position that a signed number comes to: one bit more
  signed-end : (i : ℕ) → CodeEnd i 32 last (next_of (signed bytes end stated i))
  unfolding signed unsigned with_sign_bit
  signed-end i = by (unsigned bytes end stated i) refl (code-end 31 1 i)
    where
      more : {next : ℕ} → CodeEnd i 31 last next → CodeEnd i 32 last next
      more reach = record { onward = reach.onward; bits_most = omega (arith, reach.bits_most); within = reach.within }

      by : (number : Number) → unsigned bytes end stated i ≡ number → CodeEnd i 31 last (next_of number) → CodeEnd i 32 last (next_of (signed bytes end stated i))
      by (Read size minus next) u reach =
          elim (ℕ_discrete size 0) [
            | yes none ↦ rw (sign-none bytes end stated (unsigned bytes end stated i) size minus next u none) (more reach)
            | no some ↦
                takes (CodeEnd i 32 last (next_of (signed bytes end stated i))) (take next)
                (λ bit after e.
                let t = bit-taken bytes end stated next bit after e in
                rw (sign_read bytes end stated (unsigned bytes end stated i) size minus next bit after u some e)
                (record {
                  onward = omega (arith, reach.onward, t.goes_on);
                  bits_most = omega (arith, reach.bits_most, t.one_at_most);
                  within = λ h. t.within (reach.within h);
                }))
                (λ e. rw (sign-missing bytes end stated (unsigned bytes end stated i) size minus next u some e) (more reach))
          ]
      by (Missing next) u reach = rw u (more reach)
      by (TooLong next) u reach = rw u (more reach)

  -- one that starts within the data ends within them
  pub signed-within : (i : ℕ) → i ≤ last → next_of (signed bytes end stated i) ≤ last
  signed-within i = (signed-end i).within

  -- one that starts past the data takes no bit
  pub signed-past : (i : ℕ) → last ≤ i → next_of (signed bytes end stated i) ≡ i
  unfolding present signed unsigned with_sign_bit
  signed-past i past = by stated refl
    where
      none : present bytes end i ≡ false
      none = le-ltb i last past

      by : (s : Bool) → stated ≡ s → next_of (signed bytes end stated i) ≡ i
      by true e =
          let zero-read = code-ends bytes end stated 31 1 i 1 i (take-past-stated bytes end i stated none e) refl in
          rw (sign-none bytes end stated (unsigned bytes end stated i) 0 false i zero-read refl) refl
      by false e = rw (code-missing bytes end stated 31 1 i (take-absent bytes end i stated none e)) refl

  -- one that starts before the end of the data, or at it, goes no further
  pub signed-before : (i : ℕ) → i ≤ end → next_of (signed bytes end stated i) ≤ end
  signed-before i before =
      elim (dec_le i last) [
        | yes inside ↦ omega (arith, signed-within i inside)
        | no beyond ↦ omega (arith, signed-past i (omega arith))
      ]

  -- where a number is missing, the bit that it came to is past the end
  abbrev Short : Number → Type 0
  Short (Read size minus next) = Unit {0}
  Short (Missing next) = last ≤ next
  Short (TooLong next) = Unit {0}

  code-short : (left v i : ℕ) → Short (code_from bytes end stated left v i)
  code-short zero v i =
      takes (Short (code_from bytes end stated zero v i)) (take_bit bytes end stated i)
      (λ bit next t.
      elim (ℕ_discrete bit 1) [
        | yes one ↦ rw (code-ends bytes end stated zero v i bit next t one) tt
        | no other ↦ rw (code-too-long bytes end stated zero v i bit next t other refl) tt
      ])
      (λ t. rw (code-missing bytes end stated zero v i t) (absent-past bytes end stated i t))
  code-short (suc left) v i =
      takes (Short (code_from bytes end stated (suc left) v i)) (take_bit bytes end stated i)
      (λ bit next t.
      elim (ℕ_discrete bit 1) [
        | yes one ↦ rw (code-ends bytes end stated (suc left) v i bit next t one) tt
        | no other ↦
            takes (Short (code_from bytes end stated (suc left) v i)) (take_bit bytes end stated next)
            (λ bit₂ after u.
            let less : suc left - 1 ≡ left = omega arith in
            rw (code-goes-on bytes end stated (suc left) v i bit next bit₂ after t other (omega arith) u, less) (code-short left (2 * v + bit₂) after))
            (λ u. rw (code-cut bytes end stated (suc left) v i bit next t other (omega arith) u) (absent-past bytes end stated next u))
      ])
      (λ t. rw (code-missing bytes end stated (suc left) v i t) (absent-past bytes end stated i t))

  -- so a number that is missing begins less than 64 bits before the end
  pub unsigned-short : (i next : ℕ) → unsigned bytes end stated i ≡ Missing next → last ≤ i + 63
  unfolding unsigned
  unsigned-short i next e =
      let short : last ≤ next = subst Short e (code-short 31 1 i) in
      let most : next ≤ i + 2 * 31 + 1 = subst (λ (n : Number). next_of n ≤ i + 2 * 31 + 1) e (code-end 31 1 i).bits_most in
      omega arith

  pub signed-short : (i next : ℕ) → signed bytes end stated i ≡ Missing next → last ≤ i + 63
  unfolding signed with_sign_bit unsigned
  signed-short i next e = by (unsigned bytes end stated i) refl
    where
      by : (number : Number) → unsigned bytes end stated i ≡ number → last ≤ i + 63
      by (Read s m n) u =
          let most : n ≤ i + 2 * 31 + 1 = subst (λ (x : Number). next_of x ≤ i + 2 * 31 + 1) u (code-end 31 1 i).bits_most in
          elim (ℕ_discrete s 0) [
            | yes none ↦
                let never : Read 0 false n ≡ Missing next = sym (sign-none bytes end stated (unsigned bytes end stated i) s m n u none) ∙ e in
                let z : ◌≡◌ {A = ℕ} 0 1 = cc in
                absurd (omega arith)
            | no some ↦
                takes (last ≤ i + 63) (take_bit bytes end stated n)
                (λ bit after t.
                let never : Read s (eqb bit 1) after ≡ Missing next = sym (sign_read bytes end stated (unsigned bytes end stated i) s m n bit after u some t) ∙ e in
                let z : ◌≡◌ {A = ℕ} 0 1 = cc in
                absurd (omega arith))
                (λ t. omega (arith, absent-past bytes end stated n t))
          ]
      by (Missing n) u = unsigned-short i n u
      by (TooLong n) u =
          let never : TooLong n ≡ Missing next = sym (ap (with_sign_bit bytes end stated) u) ∙ e in
          let z : ◌≡◌ {A = ℕ} 0 1 = cc in
          absurd (omega arith)

-- another end, where the bits within reach are the same
module _ (bytes : List ℕ) (end₁ end₂ : ℕ) (stated : Bool) where
  take_same : (i : ℕ) → present bytes end₁ i ≡ present bytes end₂ i → take_bit bytes end₁ stated i ≡ take_bit bytes end₂ stated i
  unfolding take_bit
  take_same i same = rw same

  code_same : (left v i : ℕ) → ((k : ℕ) → k ≤ i + 2 * left → present bytes end₁ k ≡ present bytes end₂ k) →
      code_from bytes end₁ stated left v i ≡ code_from bytes end₂ stated left v i
  code_same zero v i same =
      let first = take_same i (same i (omega arith)) in
      takes (code_from bytes end₁ stated zero v i ≡ code_from bytes end₂ stated zero v i) (take_bit bytes end₂ stated i)
      (λ bit next e.
      elim (ℕ_discrete bit 1) [
        | yes one ↦ code-ends bytes end₁ stated zero v i bit next (first ∙ e) one ∙ sym (code-ends bytes end₂ stated zero v i bit next e one)
        | no other ↦
            code-too-long bytes end₁ stated zero v i bit next (first ∙ e) other refl
            ∙ sym (code-too-long bytes end₂ stated zero v i bit next e other refl)
      ])
      (λ e. code-missing bytes end₁ stated zero v i (first ∙ e) ∙ sym (code-missing bytes end₂ stated zero v i e))
  code_same (suc left) v i same =
      let first = take_same i (same i (omega arith)) in
      takes (code_from bytes end₁ stated (suc left) v i ≡ code_from bytes end₂ stated (suc left) v i) (take_bit bytes end₂ stated i)
      (λ bit next e.
      let t = bit-taken bytes end₂ stated i bit next e in
      let second = take_same next (same next (omega (arith, t.one_at_most))) in
      elim (ℕ_discrete bit 1) [
        | yes one ↦
            code-ends bytes end₁ stated (suc left) v i bit next (first ∙ e) one ∙ sym (code-ends bytes end₂ stated (suc left) v i bit next e one)
        | no other ↦
            takes (code_from bytes end₁ stated (suc left) v i ≡ code_from bytes end₂ stated (suc left) v i) (take_bit bytes end₂ stated next)
            (λ d after e2.
            let u = bit-taken bytes end₂ stated next d after e2 in
            let less : suc left - 1 ≡ left = omega arith in
            let rest = code_same left (2 * v + d) after (λ k h. same k (omega (arith, t.one_at_most, u.one_at_most))) in
            rw (
              code-goes-on bytes end₁ stated (suc left) v i bit next d after (first ∙ e) other (omega arith) (second ∙ e2),
              code-goes-on bytes end₂ stated (suc left) v i bit next d after e other (omega arith) e2,
              less,
            )
            rest)
            (λ e2.
            code-cut bytes end₁ stated (suc left) v i bit next (first ∙ e) other (omega arith) (second ∙ e2)
            ∙ sym (code-cut bytes end₂ stated (suc left) v i bit next e other (omega arith) e2))
      ])
      (λ e. code-missing bytes end₁ stated (suc left) v i (first ∙ e) ∙ sym (code-missing bytes end₂ stated (suc left) v i e))

  -- so two ends that both lie out of reach, or past the bytes, give the same number
  pub unsigned-same : (i : ℕ) → ((k : ℕ) → k ≤ i + 62 → present bytes end₁ k ≡ present bytes end₂ k) →
      unsigned bytes end₁ stated i ≡ unsigned bytes end₂ stated i
  unfolding unsigned
  unsigned-same i same = code_same 31 1 i same
