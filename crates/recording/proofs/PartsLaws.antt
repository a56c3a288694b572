-- The output is its parts, one after the other. And each part, case by case.
-- Assumes nothing.
use mathlib.Core.Path.{◌≡◌, refl, sym}
use mathlib.Core.Logic.{◌≢◌}
use mathlib.Core.List.{List}
use Prim.Native.Nat.{ℕ, zero, suc}
use native.Mathlib.Decide.{ℕ_discrete}
use native.Mathlib.Omega.{arith}
use borrow.Author.Tests.{eq-eqb, ne_eqb}
use Rattle.std.specs.Prelude.{Option}
use Rattle.std.specs.Option.{unwrap_or}
use Rattle.contents.specs.Counts.{nonzero}
use Rattle.contents.specs.Table.{entry_count}
use Rattle.text.specs.Text.{ascii}
use Rattle.recording.specs.Output.{entry_text, joined, output}
use Rattle.recording.specs.Parts.{part_count, part}
use Rattle.recording.proofs.OutputLaws.{joined_same}

-- a wrong table has one part, and a right one as many as entries
pub one-part : (entries : ℕ) → entries ≡ 0 → 1 ≡ part_count entries
unfolding part_count
one-part entries none = rw (eq-eqb entries 0 none)

pub entry-parts : (entries : ℕ) → entries ≢ 0 → entries ≡ part_count entries
unfolding part_count
entry-parts entries some = rw (ne_eqb entries 0 some)

-- so the parts are as many as the entries, or one where there are none
pub parts_of : (entries : Option ℕ) (n : ℕ) → entries ≡ nonzero n → unwrap_or entries 1 ≡ part_count n
unfolding nonzero
parts_of entries zero is = rw is (one-part 0 refl)
parts_of entries (suc n) is = rw is (entry-parts (suc n) (λ none. absurd (omega arith)))

module _ (file : List ℕ) (k : ℕ) where
  pub part-wrong : entry_count file ≡ 0 → ascii "refused 11\n" ≡ part file k
  unfolding part
  part-wrong none = rw (eq-eqb (entry_count file) 0 none)

  pub part-entry : entry_count file ≢ 0 → entry_text file k ≡ part file k
  unfolding part
  part-entry some = rw (ne_eqb (entry_count file) 0 some)

pub output-is-its-parts : (file : List ℕ) → joined (part_count (entry_count file)) (part file) ≡ output file
unfolding output joined
output-is-its-parts file =
    elim (ℕ_discrete (entry_count file) 0) [
      | yes none ↦ rw (← one-part (entry_count file) none, eq-eqb (entry_count file) 0 none) (sym (part-wrong file 0 none))
      | no some ↦
          rw (← entry-parts (entry_count file) some, ne_eqb (entry_count file) 0 some)
          (joined_same (entry_count file) (part file) (entry_text file) (λ k h. sym (part-entry file k some)))
    ]
