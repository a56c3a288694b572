-- A body that decode accepts, cut where the place says, is an accepted entry with the same samples: so the place of a 12 is where to cut.
-- Assumes nothing.
use mathlib.Core.Path.{◌≡◌, refl}
use mathlib.Core.List.{List, ◌++◌}
use Prim.Native.Nat.{ℕ}
use native.Mathlib.Omega.{arith}
use lib.ListN.{length, take}
use lib.Seq.{length-take-le, take-take}
use Rattle.component.specs.declared.parameters.Parameters.{Parameters}
use Rattle.decode.proofs.Trailing.{used-at-most, trailing-free}
use Rattle.recording.specs.Output.{entry_decoded, heading, picture_text, entry_lines, body_lines}
use Rattle.recording.proofs.OutputLaws.{all-used}

pub cut-accepted : (k : ℕ) (p : Parameters) (bytes : List ℕ) → (entry_decoded p bytes).status ≡ 0 →
    body_lines k p (take (entry_decoded p bytes).place bytes) ≡ heading k ++ picture_text p (entry_decoded p bytes).samples
unfolding entry_decoded entry_lines
cut-accepted k p bytes fine =
    let d = entry_decoded p bytes in
    let cut = take d.place bytes in
    let whole : length cut ≡ d.place = length-take-le d.place bytes (used-at-most p bytes _ _ _ fine) in
    let same : entry_decoded p cut ≡ d = trailing-free p bytes _ _ _ fine cut (take-take d.place d.place bytes (omega arith)) in
    rw (same, whole, all-used d.status d.place d.place refl, fine) refl
