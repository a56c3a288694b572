-- Document 01, "A recording", with document 02, "Left-over bytes are a fault": what the program writes for a file, byte by byte.
use Rattle.std.specs.Prelude.{ℕ, zero, suc, ◌*◌, Bool, not, cond, ◌&&◌, List, [], ◌++◌, eqb, ℤ, pos, length, replicate}
use Rattle.component.specs.Checks.{area_of, area_within}
use Rattle.component.specs.declared.parameters.Parameters.{Parameters}
use Rattle.decode.specs.Job.{DecodeResult, decoded}
use Rattle.text.specs.Text.{ascii, decimal, rows_text}
use Rattle.contents.specs.Table.{parameters_at, entry_count, body}

-- "A padded area above 16,384 is 5 here." Such an entry has no planes, so that of refusals 1 to 5 the first that applies is given; nor has
-- one whose sizes or depth have no padded area.
unfoldable pub fits_program : Parameters → Bool
fits_program p = area_within p 16384

-- How many entries the coefficients of an entry have, and as many work; and how many its samples.
abbrev pub plane_length : Parameters → ℕ
plane_length p = cond (fits_program p) (area_of p) 0

abbrev pub sample_length : Parameters → ℕ
sample_length p = cond (fits_program p) (p.width * p.height) 0

-- What decode gives for an entry's parameters and body. What the planes hold does not matter to its lines; here it is zeros.
unfoldable pub entry_decoded : Parameters → List ℕ → DecodeResult
entry_decoded p bytes =
    decoded p bytes (replicate (plane_length p) (pos 0)) (replicate (plane_length p) (pos 0)) (replicate (sample_length p) (pos 0))

-- Document 02: "refuse an entry whose component is accepted but doesn't use the whole body"; "12, place = bytes used, after 10". From the status
-- and place that decode gave, and how many bytes the body has: what decode refuses keeps its number. "The library jobs keep answering bytes
-- used", and that is the place of an acceptance and of a 12.
unfoldable pub entry_status : ℕ → ℕ → ℕ → ℕ
entry_status status place size = cond (eqb status 0 && not (eqb place size)) 12 status

-- "entry K: "
unfoldable pub heading : ℕ → List ℕ
heading k = ascii "entry " ++ decimal k ++ ascii ": "

-- "The entry line gives width, then height."
unfoldable pub size_text : Parameters → List ℕ
size_text p = decimal p.width ++ ascii " x " ++ decimal p.height ++ ascii "\n"

-- An accepted entry's sizes and samples.
unfoldable pub picture_text : Parameters → List ℤ → List ℕ
picture_text p samples = size_text p ++ rows_text p.width p.height samples

-- "An entry refused 1 to 10 prints `entry K: refused N place P`"; of 12 too "the entry prints its refusal line, no samples".
unfoldable pub refusal_text : ℕ → ℕ → List ℕ
refusal_text status place = ascii "refused " ++ decimal status ++ ascii " place " ++ decimal place ++ ascii "\n"

-- The lines of an entry, from its number, its parameters, its status and place, and the samples that decode gave.
unfoldable pub entry_lines : ℕ → Parameters → ℕ → ℕ → List ℤ → List ℕ
entry_lines k p status place samples = heading k ++ cond (eqb status 0) (picture_text p samples) (refusal_text status place)

-- The same from what decode gave for a body of so many bytes.
abbrev pub result_lines : ℕ → Parameters → ℕ → DecodeResult → List ℕ
result_lines k p size d = entry_lines k p (entry_status d.status d.place size) d.place d.samples

-- The same from its body.
abbrev pub body_lines : ℕ → Parameters → List ℕ → List ℕ
body_lines k p bytes = result_lines k p (length bytes) (entry_decoded p bytes)

-- The lines of entry k of a file.
unfoldable pub entry_text : List ℕ → ℕ → List ℕ
entry_text file k = body_lines k (parameters_at file k) (body file k)

-- The texts of entries 0 to n − 1, one after the other.
unfoldable pub joined : ℕ → (ℕ → List ℕ) → List ℕ
joined zero text = []
joined (suc n) text = joined n text ++ text n

-- "is 11, and the only line is `refused 11`"; else the entries in order.
unfoldable pub output : List ℕ → List ℕ
output file = cond (eqb (entry_count file) 0) (ascii "refused 11\n") (joined (entry_count file) (entry_text file))
