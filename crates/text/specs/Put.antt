-- The code's own form: text that goes on by a piece. No definition of the format rests on it.
use Rattle.std.specs.Prelude.{ℕ, ◌+◌, ◌≡◌, List, ◌++◌, length, take}

-- The text goes on from `at` to r by a piece: what stood before `at` still stands, and what stands from r on is free.
abbrev pub Put : ℕ → List ℕ → List ℕ → ℕ → List ℕ → Type 0
Put at earlier piece r later = (r ≡ at + length piece) × (take r later ≡ take at earlier ++ piece)
