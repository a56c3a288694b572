-- The code's own form: the lines that the programs that run stored vectors write. No definition of the format rests on it.
use Rattle.std.specs.Prelude.{ℕ, List, ◌++◌}
use Rattle.component.specs.declared.parameters.Answer.{Answer}
use Rattle.component.specs.declared.parameters.Parameters.{Parameters}
use Rattle.text.specs.Text.{ascii, decimal}

-- A name and its number.
abbrev pub named : List ℕ → ℕ → List ℕ
named name number = name ++ decimal number

-- What a job is: "WIDTHxHEIGHT depth DEPTH wavelet WAVELET".
unfoldable pub job_text : Parameters → List ℕ
job_text p =
    decimal p.width ++ named (ascii "x") p.height ++ named (ascii " depth ") p.depth ++ named (ascii " wavelet ") p.wavelet

-- What it answers: ": status STATUS place PLACE".
unfoldable pub answer_text : Answer → List ℕ
answer_text answer = named (ascii ": status ") answer.status ++ named (ascii " place ") answer.place
