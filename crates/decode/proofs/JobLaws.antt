-- The ways that decode ends: refused by a check, by the bytes or by synthesis, and accepted.
-- Assumes nothing.
use mathlib.Core.Path.{◌≡◌, refl, sym, subst, ap, ◌∙◌}
use mathlib.Core.Logic.{◌≢◌}
use mathlib.Core.Bool.{true}
use mathlib.Core.List.{List}
use Prim.Native.Nat.{ℕ}
use native.Mathlib.Decide.{ℕ_discrete}
use lib.IntN.{ℤ}
use lib.ListN.{length}
use lib.Dec.{eqb}
use borrow.Author.Tests.{eq-eqb, ne_eqb}
use Rattle.base.specs.Lists.{zeros_like}
use Rattle.base.proofs.Booleans.{and_left, and-true}
use Rattle.base.proofs.ListsLaws.{zeros-length}
use Rattle.component.specs.Checks.{area_of, planes_fit, refusal_of, lengths_of}
use Rattle.component.specs.declared.parameters.Parameters.{Parameters}
use Rattle.component.specs.declared.parameters.Answer.{Answer}
use Rattle.component.specs.declared.parameters.Job.TheVariants.{Unpack, Synthesise, Decode}
use Rattle.component.proofs.ChecksLaws.{passed, refused_none}
use Rattle.unpack.specs.Job.{UnpackResult, unpacked, outcome as unpack_outcome}
use Rattle.unpack.proofs.JobLaws.{plane-free, refused-zeros}
use Rattle.transform.specs.Job.{SynthesisResult, synthesised, outcome as synthesis_outcome, unchanged as synthesis_unchanged}
use Rattle.decode.specs.Job.{DecodeResult, outcome, unchanged, zeroed, accepted, unpacked_and_synthesised, decoded}
use Rattle.transform.proofs.JobLaws.{refused-zeros as synthesis-zeros, planes-free as synthesis-planes-free, job-refused as synthesis-refused}

module _ (p : Parameters) (bytes : List ℕ) (coefficients work samples : List ℤ) where
  abbrev status : ℕ
  status = refusal_of Decode p (lengths_of coefficients work samples)

  pub refused-by-check : status ≢ 0 → unchanged status coefficients work samples ≡ decoded p bytes coefficients work samples
  unfolding decoded
  refused-by-check some = rw (ne_eqb status 0 some)

  -- what is accepted has passed the checks
  pub accepted-checked : (decoded p bytes coefficients work samples).status ≡ 0 → status ≡ 0
  unfolding unchanged
  accepted-checked fine =
      elim (ℕ_discrete status 0) [
        | yes none ↦ none
        | no some ↦ ap (λ (d : DecodeResult). d.status) (refused-by-check some) ∙ fine
      ]

  -- no check refuses
  module _ (none : status ≡ 0) where
    -- then neither job's checks do
    unpack-passes : refusal_of Unpack p (record { coefficients = length coefficients; work = 0; samples = 0 }) ≡ 0
    unfolding planes_fit
    unpack-passes =
        let all = passed Decode p _ none in
        sym (refused_none Unpack p _ all.sizes-pass all.depth-passes refl all.codeblocks-pass (and-true _ true (and_left (eqb (length coefficients) (area_of p)) _ all.planes-pass) refl))

    synthesise-passes : (after : List ℤ) → length after ≡ length coefficients → refusal_of Synthesise p (lengths_of after work samples) ≡ 0
    unfolding planes_fit
    synthesise-passes after same =
        let all = passed Decode p _ none in
        sym (refused_none Synthesise p _ all.sizes-pass all.depth-passes all.wavelet-passes refl (rw same all.planes-pass))

    -- so what stood in the planes does not matter
    pub planes-free : (c w s : List ℤ) → length c ≡ length coefficients → length w ≡ length work → length s ≡ length samples →
        decoded p bytes c w s ≡ decoded p bytes coefficients work samples
    unfolding decoded unpacked_and_synthesised zeroed synthesis_unchanged
    planes-free c w s same-c same_w same_s =
        let u = unpacked p bytes coefficients in
        let checks = refusal_of Synthesise p (lengths_of u.coefficients work samples) in
        rw (same-c, same_w, same_s, eq-eqb status 0 none, plane-free p bytes coefficients c same-c unpack-passes, zeros-length c coefficients same-c, zeros-length w work same_w, zeros-length s samples same_s)
        (elim (ℕ_discrete checks 0) [
          | yes passes ↦ rw (synthesis-planes-free p u.coefficients work samples w s same_w same_s passes) refl
          | no fails ↦
              let fails-too : refusal_of Synthesise p (lengths_of u.coefficients w s) ≢ 0 = rw (same_w, same_s) fails in
              rw (synthesis-refused p u.coefficients w s fails-too, synthesis-refused p u.coefficients work samples fails, same_w, same_s, ne_eqb checks 0 fails) refl
        ])

    -- what unpack answered and left in the coefficients
    module _ (u : Answer) (after : List ℤ) (told : unpack_outcome u after ≡ unpacked p bytes coefficients) (same : length after ≡ length coefficients) where
      decoded-from : decoded p bytes coefficients work samples ≡ unpacked_and_synthesised (unpack_outcome u after) (synthesised p after work samples) coefficients work samples
      unfolding decoded unpack_outcome
      decoded-from = rw (eq-eqb status 0 none, ← told) refl

      pub refused-by-bytes : u.status ≢ 0 → outcome u after (zeros_like work) (zeros_like samples) ≡ decoded p bytes coefficients work samples
      unfolding unpacked_and_synthesised outcome unpack_outcome zeroed
      refused-by-bytes some =
          let zeros : after ≡ zeros_like after = subst (λ (t : UnpackResult). t.status ≢ 0 → t.coefficients ≡ zeros_like t.coefficients) (sym told) (refused-zeros p bytes coefficients unpack-passes) some in
          rw (decoded-from, ne_eqb u.status 0 some) (ap (λ (l : List ℤ). outcome u l (zeros_like work) (zeros_like samples)) (zeros ∙ zeros-length after coefficients same))

      -- what synthesise answered and left in work and samples
      module _ (fine : u.status ≡ 0) (s : Answer) (w v : List ℤ) (made : synthesis_outcome s w v ≡ synthesised p after work samples) where
        pub refused-by-synthesis : s.status ≢ 0 → outcome s (zeros_like after) w v ≡ decoded p bytes coefficients work samples
        unfolding unpacked_and_synthesised outcome unpack_outcome synthesis_outcome zeroed
        refused-by-synthesis some =
            let zeros : (w ≡ zeros_like work) × (v ≡ zeros_like samples) =
            subst (λ (t : SynthesisResult). t.status ≢ 0 → (t.work ≡ zeros_like work) × (t.samples ≡ zeros_like samples)) (sym made) (synthesis-zeros p after work samples (synthesise-passes after same)) some in
            rw (decoded-from, fine, ← made, ne_eqb s.status 0 some, zeros.0, zeros.1, zeros-length after coefficients same) refl

        pub job-accepted : s.status ≡ 0 → outcome u after w v ≡ decoded p bytes coefficients work samples
        unfolding unpacked_and_synthesised outcome unpack_outcome synthesis_outcome accepted
        job-accepted good = rw (decoded-from, fine, ← made, good) refl
