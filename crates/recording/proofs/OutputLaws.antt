-- Laws of the output: the planes of an entry, its status, what decode gives for it, and texts one after the other.
-- Assumes nothing.
use mathlib.Core.Path.{◌≡◌, refl, sym, ap, ◌∙◌}
use mathlib.Core.Logic.{◌≢◌}
use mathlib.Core.Bool.{true, not}
use mathlib.Core.List.{List}
use Prim.Native.Nat.{ℕ, zero, suc, ◌*◌, ◌≤◌, ◌<◌}
use native.Mathlib.Decide.{ℕ_discrete}
use native.Mathlib.Omega.{arith}
use lib.Dec.{eqb}
use lib.IntN.{ℤ}
use lib.ListN.{length, length-replicate}
use borrow.Author.Tests.{eq-eqb, ne_eqb}
use Rattle.base.proofs.Booleans.{and-false, cond-most}
use Rattle.component.specs.Checks.{area_of, planes_fit, refusal_of, lengths_of, sizes_in_range, depth_in_range}
use Rattle.component.specs.declared.parameters.Parameters.{Parameters}
use Rattle.component.specs.declared.parameters.Answer.{Answer}
use Rattle.component.specs.declared.parameters.Job.TheVariants.{Decode}
use Rattle.component.proofs.ChecksLaws.{passed, height_most, samples-fewer, within-sizes, within-depth, within-area}
use Rattle.decode.specs.Job.{DecodeResult, outcome, unchanged, decoded}
use Rattle.decode.proofs.JobLaws.{refused-by-check, accepted-checked, planes-free}
use Rattle.contents.specs.Table.{entry_at, body}
use Rattle.contents.specs.declared.table.Entry.{Entry}
use Rattle.recording.specs.Output.{fits_program, plane_length, sample_length, entry_decoded, entry_status, entry_lines, result_lines, body_lines, entry_text, joined}
use Rattle.transform.proofs.JobLaws.{Fitted, planes-fitted}

module _ (p : Parameters) where
  -- an entry that fits the program has a padded area of at most 16,384
  module _ (fits : fits_program p ≡ true) where
    pub fits-sizes : sizes_in_range p ≡ true
    unfolding fits_program
    fits-sizes = within-sizes p 16384 fits

    pub fits-depth : depth_in_range p ≡ true
    unfolding fits_program
    fits-depth = within-depth p 16384 fits

    fits-area : area_of p ≤ 16384
    unfolding fits_program
    fits-area = within-area p 16384 fits

  -- so no plane is longer than 16,384
  pub plane_most : plane_length p ≤ 16384
  plane_most = cond-most (fits_program p) (area_of p) 16384 fits-area

  pub sample_most : sample_length p ≤ 16384
  sample_most = cond-most (fits_program p) (p.width * p.height) 16384 (λ fits. omega (arith, samples-fewer p, fits-area fits))

-- the status of an entry, case by case
module _ (status place size : ℕ) where
  pub refusal-kept : status ≢ 0 → entry_status status place size ≡ status
  unfolding entry_status
  refusal-kept some = rw (ne_eqb status 0 some)

  pub all-used : place ≡ size → entry_status status place size ≡ status
  unfolding entry_status
  all-used used = rw (and-false (eqb status 0) (not (eqb place size)) (ap not (eq-eqb place size used)))

  -- so what is accepted was accepted by decode
  pub entry-accepted : entry_status status place size ≡ 0 → status ≡ 0
  entry-accepted fine =
      elim (ℕ_discrete status 0) [
        | yes none ↦ none
        | no some ↦ sym (refusal-kept some) ∙ fine
      ]

module _ (p : Parameters) (bytes : List ℕ) (coefficients work samples : List ℤ) where
  -- an accepted entry's planes have the lengths that it needs
  fits : (decoded p bytes coefficients work samples).status ≡ 0 → Fitted p (lengths_of coefficients work samples)
  unfolding planes_fit
  fits fine = planes-fitted p _ (passed Decode p _ (accepted-checked p bytes coefficients work samples fine)).planes-pass

  -- and its samples have room in the text
  pub samples-fit :
      length coefficients ≡ plane_length p → (decoded p bytes coefficients work samples).status ≡ 0 →
      (length samples ≡ p.width * p.height) × (p.width * p.height ≤ 16384) × (p.height ≤ 4096)
  samples-fit long fine = (
    (fits fine).samples-fit,
    omega (arith, samples-fewer p, (fits fine).coefficients-fit, long, plane_most p),
    height_most p (passed Decode p _ (accepted-checked p bytes coefficients work samples fine)).sizes-pass,
  )

  -- what stood in the planes does not matter to an entry's lines
  lines-free : (k : ℕ) (c w s : List ℤ) → length c ≡ length coefficients → length w ≡ length work → length s ≡ length samples →
      result_lines k p (length bytes) (decoded p bytes c w s) ≡ result_lines k p (length bytes) (decoded p bytes coefficients work samples)
  unfolding entry_lines unchanged
  lines-free k c w s same-c same_w same_s =
      let status = refusal_of Decode p (lengths_of coefficients work samples) in
      elim (ℕ_discrete status 0) [
        | yes none ↦
            ap (λ (d : DecodeResult). result_lines k p (length bytes) d)
            (planes-free p bytes coefficients work samples none c w s same-c same_w same_s)
        | no some ↦
            let some-too : refusal_of Decode p (lengths_of c w s) ≢ 0 = rw (same-c, same_w, same_s) some in
            rw (← refused-by-check p bytes c w s some-too, ← refused-by-check p bytes coefficients work samples some, same-c, same_w, same_s, refusal-kept status 0 (length bytes) some, ne_eqb status 0 some) refl
      ]

  -- so they are the same whatever stood in the planes that a call was passed
  module _ (lc : length coefficients ≡ plane_length p) (lw : length work ≡ plane_length p) (ls : length samples ≡ sample_length p) where
    pub lines_of : (k : ℕ) (answer : Answer) (c w s : List ℤ) → outcome answer c w s ≡ decoded p bytes coefficients work samples →
        (entry : Answer) → entry.status ≡ entry_status answer.status answer.place (length bytes) → entry.place ≡ answer.place →
        entry_lines k p entry.status entry.place s ≡ body_lines k p bytes
    unfolding outcome entry_decoded
    lines_of k answer c w s told entry status place =
        rw (status, place) refl
        ∙ ap (λ (d : DecodeResult). result_lines k p (length bytes) d) told
        ∙ sym (lines-free k _ _ _ (length-replicate _ _ ∙ sym lc) (length-replicate _ _ ∙ sym lw) (length-replicate _ _ ∙ sym ls))

-- the lines of the entry that the table has
pub text_of :
    (file : List ℕ) (k : ℕ) (e : Entry) → e ≡ entry_at file k → (bytes : List ℕ) → bytes ≡ body file k
    → body_lines k e.parameters bytes ≡ entry_text file k
unfolding entry_text entry_at
text_of file k e is bytes same =
    rw (ap (λ (x : Entry). x.parameters) is, same) refl

-- texts that agree one by one
pub joined_same : (n : ℕ) (f g : ℕ → List ℕ) → ((k : ℕ) → k < n → f k ≡ g k) → joined n f ≡ joined n g
unfolding joined
joined_same zero f g same = refl
joined_same (suc n) f g same = rw (joined_same n f g (λ k h. same k (omega arith)), same n (omega arith))
