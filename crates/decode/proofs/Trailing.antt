-- On acceptance only the bytes used matter: no more are used than there are, and the same bytes followed by anything else are decoded the
-- same, to the same answer and the same planes.
-- Assumes nothing.
use mathlib.Core.Path.{◌≡◌, refl}
use mathlib.Core.List.{List}
use Prim.Native.Nat.{ℕ, ◌≤◌}
use native.Mathlib.Decide.{ℕ_discrete}
use lib.IntN.{ℤ}
use lib.ListN.{length, take}
use borrow.Author.Tests.{eq-eqb, ne_eqb}
use Rattle.component.specs.Checks.{refusal_of, lengths_of}
use Rattle.component.specs.declared.parameters.Parameters.{Parameters}
use Rattle.component.specs.declared.parameters.Job.TheVariants.{Decode}
use Rattle.unpack.specs.Job.{UnpackResult, unpacked}
use Rattle.unpack.proofs.Within.{used-at-most as unpack-used-at-most}
use Rattle.unpack.proofs.Trailing.{trailing-free as unpack-trailing-free}
use Rattle.transform.specs.Job.{SynthesisResult, synthesised}
use Rattle.decode.specs.Job.{zeroed, accepted, unpacked_and_synthesised, decoded}
use Rattle.decode.proofs.JobLaws.{accepted-checked}

-- both jobs accept what is accepted, and the place is unpack's
both-accept : (u : UnpackResult) (s : SynthesisResult) (c w v : List ℤ) → (unpacked_and_synthesised u s c w v).status ≡ 0 →
    (u.status ≡ 0) × ((unpacked_and_synthesised u s c w v).place ≡ u.place)
unfolding unpacked_and_synthesised zeroed accepted
both-accept u s c w v fine =
    elim (ℕ_discrete u.status 0) [
      | yes read ↦
          elim (ℕ_discrete s.status 0) [
            | yes made ↦ (read, rw (eq-eqb u.status 0 read, eq-eqb s.status 0 made) refl)
            | no bad ↦ absurd (bad (rw (eq-eqb u.status 0 read, ne_eqb s.status 0 bad) at fine))
          ]
      | no bad ↦ absurd (bad (rw (ne_eqb u.status 0 bad) at fine))
    ]

module _ (p : Parameters) (bytes : List ℕ) (coefficients work samples : List ℤ) (fine : (decoded p bytes coefficients work samples).status ≡ 0) where
  abbrev u : UnpackResult
  u = unpacked p bytes coefficients

  unpack-accepts : (u.status ≡ 0) × ((decoded p bytes coefficients work samples).place ≡ u.place)
  unfolding decoded
  unpack-accepts =
      let none = accepted-checked p bytes coefficients work samples fine in
      rw (eq-eqb (refusal_of Decode p (lengths_of coefficients work samples)) 0 none)
      (both-accept u (synthesised p u.coefficients work samples) coefficients work samples
      (rw (eq-eqb (refusal_of Decode p (lengths_of coefficients work samples)) 0 none) at fine))

  pub used-at-most : (decoded p bytes coefficients work samples).place ≤ length bytes
  used-at-most = rw unpack-accepts.1 (unpack-used-at-most p bytes coefficients unpack-accepts.0)

  pub trailing-free : (other : List ℕ) →
      take (decoded p bytes coefficients work samples).place other ≡ take (decoded p bytes coefficients work samples).place bytes →
      decoded p other coefficients work samples ≡ decoded p bytes coefficients work samples
  unfolding decoded
  trailing-free other same =
      rw (unpack-trailing-free p bytes other coefficients unpack-accepts.0 (rw unpack-accepts.1 at same)) refl
