-- Document 01, "A recording": samples as text, in bytes.
use Rattle.std.specs.Prelude.{ℕ, zero, suc, ◌/◌, cond, List, [], ◌∷◌, ◌++◌, ltb, ℤ, pos, negsuc, take, drop}
use Prim.Native.Char.{code}
use Prim.Native.String.{String, [] as empty, ◌∷◌ as ◌then◌}
use Rattle.io.specs.Digits.{last_digits}

-- The bytes of a word of ASCII letters.
unfoldable pub ascii : String → List ℕ
ascii empty = []
ascii (c then s) = code c ∷ ascii s

-- How many decimal digits n has, where it has at most `more` after the first.
unfoldable pub digits_within : ℕ → ℕ → ℕ
digits_within zero n = 1
digits_within (suc more) n = cond (ltb n 10) 1 (suc (digits_within more (n / 10)))

-- "Samples are decimal": the digits of n, with no zeros in front. A number of 64 bits has at most 20 digits.
unfoldable pub decimal : ℕ → List ℕ
decimal n = last_digits 10 (digits_within 20 n) n

-- "a minus sign where negative"
unfoldable pub signed_text : ℤ → List ℕ
signed_text (pos n) = decimal n
signed_text (negsuc n) = ascii "-" ++ decimal (suc n)

-- "one space between": before each number of a row but the first.
unfoldable pub spaced : List ℤ → List ℕ
spaced [] = []
spaced (z ∷ l) = ascii " " ++ signed_text z ++ spaced l

-- "each line ended by a newline": the numbers of a row as a line.
unfoldable pub row_text : List ℤ → List ℕ
row_text [] = ascii "\n"
row_text (z ∷ l) = signed_text z ++ spaced l ++ ascii "\n"

-- The lines of as many rows of this width.
unfoldable pub rows_text : ℕ → ℕ → List ℤ → List ℕ
rows_text width zero l = []
rows_text width (suc height) l = row_text (take width l) ++ rows_text width height (drop width l)
