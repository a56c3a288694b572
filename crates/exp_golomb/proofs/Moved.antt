-- A number depends on no bits but those that it takes: where every bit k that can be taken from data a can be taken from data b at bit f k, a
-- number that a has is b's too, at bit f of its own.
-- Assumes nothing.
use mathlib.Core.Path.{◌≡◌, refl, sym, ap, ◌∙◌, subst}
use mathlib.Core.Bool.{Bool, true, false}
use mathlib.Core.List.{List}
use Prim.Native.Nat.{ℕ, zero, suc, ◌+◌, ◌-◌, ◌*◌, ◌≤◌}
use native.Mathlib.Decide.{ℕ_discrete}
use native.Mathlib.Omega.{arith}
use Rattle.exp_golomb.specs.Bits.{Bit, Taken, take_bit}
use Rattle.exp_golomb.specs.Codes.{Number, Read, Missing, TooLong, next_of, code_from, unsigned, with_sign_bit, signed}
use Rattle.exp_golomb.proofs.BitsLaws.{bit-taken, takes, stated-bit}
use Rattle.exp_golomb.proofs.CodesLaws.{code-missing, code-ends, code-too-long, code-cut, code-goes-on, sign-none, sign-missing, sign_read, sign-refused}
use Rattle.exp_golomb.proofs.Extent.{code-end}

-- A number that ends at bit f of its own end.
abbrev pub moved : (ℕ → ℕ) → Number → Number
moved f (Read size minus next) = Read size minus (f next)
moved f (Missing next) = Missing (f next)
moved f (TooLong next) = TooLong (f next)

-- No bit of it was missing.
abbrev pub NotMissing : Number → Type 0
NotMissing (Read size minus next) = Unit {0}
NotMissing (Missing next) = ⊥
NotMissing (TooLong next) = Unit {0}

-- Data: bytes, an end, and whether a bit past it reads as 1.
pub record Source : Type 0 where
  pub bytes : List ℕ
  pub end : ℕ
  pub stated : Bool

abbrev pub bit_of : Source → ℕ → Bit
bit_of a = take_bit a.bytes a.end a.stated

abbrev pub signed_of : Source → ℕ → Number
signed_of a = signed a.bytes a.end a.stated

abbrev pub unsigned_of : Source → ℕ → Number
unsigned_of a = unsigned a.bytes a.end a.stated

abbrev code_of : Source → ℕ → ℕ → ℕ → Number
code_of a = code_from a.bytes a.end a.stated

-- Every bit k that can be taken from a can be taken from b at bit f k.
abbrev pub Has : (ℕ → ℕ) → Source → Source → Type 0
Has f a b = (k bit next : ℕ) → bit_of a k ≡ Taken bit next → bit_of b (f k) ≡ Taken bit (f next)

-- a number of which no bit was missing is not one that is missing
whole-cut : (n : Number) (next : ℕ) → NotMissing n → Missing next ≡ n → ⊥
whole-cut n next whole e = subst NotMissing (sym e) whole

-- a number that a has within the bits up to one, where b has these bits
module _ (f : ℕ → ℕ) (upto : ℕ) (a b : Source) (has : (k bit next : ℕ) → next ≤ upto → bit_of a k ≡ Taken bit next → bit_of b (f k) ≡ Taken bit (f next)) where
  -- what the number is, is within the bits too
  inside_of : (m n : Number) → m ≡ n → next_of n ≤ upto → next_of m ≤ upto
  inside_of m n e inside = rw e inside

  code-moved : (left v i : ℕ) (n : Number) → code_of a left v i ≡ n → NotMissing n → next_of n ≤ upto → code_of b left v (f i) ≡ moved f n
  code-moved zero v i n e whole inside =
      takes (code_of b zero v (f i) ≡ moved f n) (bit_of a i)
      (λ bit next t.
      elim (ℕ_discrete bit 1) [
        | yes one ↦
            let ends : Read (v - 1) false next ≡ n = sym (code-ends a.bytes a.end a.stated zero v i bit next t one) ∙ e in
            code-ends b.bytes b.end b.stated zero v (f i) bit (f next) (has i bit next (inside_of _ n ends inside) t) one ∙ ap (moved f) ends
        | no other ↦
            let long : TooLong next ≡ n = sym (code-too-long a.bytes a.end a.stated zero v i bit next t other refl) ∙ e in
            code-too-long b.bytes b.end b.stated zero v (f i) bit (f next) (has i bit next (inside_of _ n long inside) t) other refl ∙ ap (moved f) long
      ])
      (λ t. absurd (whole-cut n i whole (sym (code-missing a.bytes a.end a.stated zero v i t) ∙ e)))
  code-moved (suc left) v i n e whole inside =
      takes (code_of b (suc left) v (f i) ≡ moved f n) (bit_of a i)
      (λ bit next t.
      elim (ℕ_discrete bit 1) [
        | yes one ↦
            let ends : Read (v - 1) false next ≡ n = sym (code-ends a.bytes a.end a.stated (suc left) v i bit next t one) ∙ e in
            code-ends b.bytes b.end b.stated (suc left) v (f i) bit (f next) (has i bit next (inside_of _ n ends inside) t) one ∙ ap (moved f) ends
        | no other ↦
            takes (code_of b (suc left) v (f i) ≡ moved f n) (bit_of a next)
            (λ bit₂ after u.
            let less : suc left - 1 ≡ left = omega arith in
            let rest : code_of a left (2 * v + bit₂) after ≡ n =
            rw less at (sym (code-goes-on a.bytes a.end a.stated (suc left) v i bit next bit₂ after t other (omega arith) u) ∙ e) in
            let reached = inside_of _ n rest inside in
            let after-inside : after ≤ upto = omega (arith, (code-end a.bytes a.end a.stated left (2 * v + bit₂) after).onward) in
            let next-inside : next ≤ upto = omega (arith, (bit-taken a.bytes a.end a.stated next bit₂ after u).goes_on) in
            code-goes-on b.bytes b.end b.stated (suc left) v (f i) bit (f next) bit₂ (f after) (has i bit next next-inside t) other (omega arith) (has next bit₂ after after-inside u)
            ∙ rw less (code-moved left (2 * v + bit₂) after n rest whole inside))
            (λ u. absurd (whole-cut n next whole (sym (code-cut a.bytes a.end a.stated (suc left) v i bit next t other (omega arith) u) ∙ e)))
      ])
      (λ t. absurd (whole-cut n i whole (sym (code-missing a.bytes a.end a.stated (suc left) v i t) ∙ e)))

  pub unsigned-moved-upto : (i : ℕ) (n : Number) → unsigned_of a i ≡ n → NotMissing n → next_of n ≤ upto → unsigned_of b (f i) ≡ moved f n
  unfolding unsigned
  unsigned-moved-upto = code-moved 31 1

-- a number that a has, where b has all bits of a
module _ (f : ℕ → ℕ) (a b : Source) (has : Has f a b) where
  pub unsigned-moved : (i : ℕ) (n : Number) → unsigned_of a i ≡ n → NotMissing n → unsigned_of b (f i) ≡ moved f n
  unsigned-moved i n e whole = unsigned-moved-upto f (next_of n) a b (λ k bit next h. has k bit next) i n e whole (omega arith)

  pub signed-moved : (i : ℕ) (n : Number) → signed_of a i ≡ n → NotMissing n → signed_of b (f i) ≡ moved f n
  unfolding signed with_sign_bit
  signed-moved i n e whole = by (unsigned_of a i) refl
    where
      by : (number : Number) → unsigned_of a i ≡ number → signed_of b (f i) ≡ moved f n
      by (Read s m next) u =
          elim (ℕ_discrete s 0) [
            | yes none ↦
                sign-none b.bytes b.end b.stated (unsigned_of b (f i)) s m (f next) (unsigned-moved i (Read s m next) u tt) none
                ∙ ap (moved f) (sym (sign-none a.bytes a.end a.stated (unsigned_of a i) s m next u none) ∙ e)
            | no some ↦
                takes (signed_of b (f i) ≡ moved f n) (bit_of a next)
                (λ bit after t.
                sign_read b.bytes b.end b.stated (unsigned_of b (f i)) s m (f next) bit (f after) (unsigned-moved i (Read s m next) u tt) some (has next bit after t)
                ∙ ap (moved f) (sym (sign_read a.bytes a.end a.stated (unsigned_of a i) s m next bit after u some t) ∙ e))
                (λ t. absurd (whole-cut n next whole (sym (sign-missing a.bytes a.end a.stated (unsigned_of a i) s m next u some t) ∙ e)))
          ]
      by (Missing next) u = absurd (whole-cut n next whole (sym (ap (with_sign_bit a.bytes a.end a.stated) u) ∙ e))
      by (TooLong next) u =
          ap (with_sign_bit b.bytes b.end b.stated) (unsigned-moved i (TooLong next) u tt)
          ∙ ap (moved f) (sym (ap (with_sign_bit a.bytes a.end a.stated) u) ∙ e)

-- Data of a stated length miss no bit.
module _ (bytes : List ℕ) (end : ℕ) where
  code-whole : (left v i : ℕ) → NotMissing (code_from bytes end true left v i)
  code-whole zero v i =
      stated-bit bytes end (NotMissing (code_from bytes end true zero v i)) i
      (λ bit next t.
      elim (ℕ_discrete bit 1) [
        | yes one ↦ rw (code-ends bytes end true zero v i bit next t one) tt
        | no other ↦ rw (code-too-long bytes end true zero v i bit next t other refl) tt
      ])
  code-whole (suc left) v i =
      stated-bit bytes end (NotMissing (code_from bytes end true (suc left) v i)) i
      (λ bit next t.
      elim (ℕ_discrete bit 1) [
        | yes one ↦ rw (code-ends bytes end true (suc left) v i bit next t one) tt
        | no other ↦
            stated-bit bytes end (NotMissing (code_from bytes end true (suc left) v i)) next
            (λ bit₂ after u.
            let less : suc left - 1 ≡ left = omega arith in
            rw (code-goes-on bytes end true (suc left) v i bit next bit₂ after t other (omega arith) u, less) (code-whole left (2 * v + bit₂) after))
      ])

  pub signed-whole : (i : ℕ) → NotMissing (signed bytes end true i)
  unfolding signed unsigned
  signed-whole i = by (unsigned bytes end true i) refl
    where
      by : (number : Number) → unsigned bytes end true i ≡ number → NotMissing (signed bytes end true i)
      by (Read s m next) u =
          elim (ℕ_discrete s 0) [
            | yes none ↦ rw (sign-none bytes end true (unsigned bytes end true i) s m next u none) tt
            | no some ↦
                stated-bit bytes end (NotMissing (signed bytes end true i)) next
                (λ bit after t. rw (sign_read bytes end true (unsigned bytes end true i) s m next bit after u some t) tt)
          ]
      by (Missing next) u = absurd (rw u at (code-whole 31 1 i))
      by (TooLong next) u = rw (sign-refused bytes end true (unsigned bytes end true i) (λ size minus n e. let never : TooLong next ≡ Read size minus n = sym u ∙ e in let z : ◌≡◌ {A = ℕ} 0 1 = cc in omega arith), u) tt
