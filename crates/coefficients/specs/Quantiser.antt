-- Document 01, "Dequantising", and document 02, request Three.
use Rattle.std.specs.Prelude.{ℕ, zero, suc, ◌+◌, ◌*◌, ◌/◌, ◌%◌, ◌^◌, Bool, cond, eqb}

-- "for q mod 4 = 0, 4b; 1, floor((503829b + 52958)/105917); 2, floor((665857b + 58854)/117708); 3, floor((440253b + 32722)/65444)"
unfoldable pub factor_of : ℕ → ℕ → ℕ
factor_of zero b = 4 * b
factor_of (suc zero) b = (503829 * b + 52958) / 105917
factor_of (suc (suc zero)) b = (665857 * b + 58854) / 117708
factor_of (suc (suc (suc r))) b = (440253 * b + 32722) / 65444

-- "Factor of index q, with b = 2^floor(q/4)"
unfoldable pub quant_factor : ℕ → ℕ
quant_factor q = factor_of (q % 4) (2 ^ (q / 4))

-- "Offset: 1 for q = 0, 2 for q = 1, else floor((factor + 1)/2)."
unfoldable pub intra_offset : ℕ → ℕ
intra_offset zero = 1
intra_offset (suc zero) = 2
intra_offset (suc (suc q)) = (quant_factor (suc (suc q)) + 1) / 2

-- "For a picture that isn't intra, the offset is 1 at index 0, else floor((3·factor + 4)/8)."
unfoldable pub difference_offset : ℕ → ℕ
difference_offset zero = 1
difference_offset (suc q) = (3 * quant_factor (suc q) + 4) / 8

-- "Dequantising now depends on the intra flag"
unfoldable pub quant_offset : Bool → ℕ → ℕ
quant_offset intra q = cond intra (intra_offset q) (difference_offset q)

-- "Magnitude m > 0 becomes floor((m·factor + offset + 2)/4); 0 stays 0": by a factor and an offset, and by the flag and an index
unfoldable pub scaled : ℕ → ℕ → ℕ → ℕ
scaled factor offset m = cond (eqb m 0) 0 ((m * factor + offset + 2) / 4)

unfoldable pub dequantise : Bool → ℕ → ℕ → ℕ
dequantise intra q = scaled (quant_factor q) (quant_offset intra q)
