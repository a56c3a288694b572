-- Laws of codeblocks that are read as far as the data at hand go: how far the loop over them has come, and the ways that a turn ends.
-- Assumes nothing.
use mathlib.Core.Path.{◌≡◌, refl, sym, ap, ◌∙◌}
use mathlib.Core.Logic.{◌≢◌}
use mathlib.Core.Bool.{Bool, true, false, cond}
use mathlib.Core.List.{List}
use Prim.Native.Nat.{ℕ, zero, suc, ◌+◌, ◌≤◌, ◌<◌}
use native.Mathlib.Decide.{ℕ_discrete}
use native.Mathlib.Numerals.{add-one}
use native.Mathlib.Omega.{arith}
use lib.IntN.{ℤ}
use Rattle.std.specs.Prelude.{Some, Result, Ok, Err}
use Rattle.std.proofs.lemmas.Bool.{true≢false}
use Rattle.base.specs.declared.status.Fault.{Fault}
use Rattle.exp_golomb.specs.Begins.{Begins}
use Rattle.coefficients.specs.Reading.{goes_on}
use Rattle.coefficients.specs.Values.{after}
use Rattle.coefficients.specs.Portions.{CloseToEnd}
use Rattle.coefficients.specs.declared.reading.Cursor.{Cursor}
use Rattle.coefficients.specs.declared.reading.Portion.{Portion}
use Rattle.coefficients.specs.declared.reading.Rectangle.{Rectangle}
use Rattle.rectangles.specs.Areas.{size_of, value_index, ClearFrom}
use Rattle.rectangles.specs.Portions.{ReadsOn}
use Rattle.coefficients.proofs.PortionsLaws.{Follows, refused-never}
use Rattle.codeblocks.specs.Blocks.{count_of, block_area, block_at, block_before, area_before, Counted}
use Rattle.codeblocks.specs.Flags.{Flagged}
use Rattle.codeblocks.specs.Rest.{ClearBlocks, rest_of_blocks}
use Rattle.codeblocks.specs.Portions.{BlocksRead}
use Rattle.codeblocks.specs.declared.PlacedCodeblock.{PlacedCodeblock}
use Rattle.codeblocks.specs.declared.CodeblockGrid.{CodeblockGrid}
use Rattle.codeblocks.specs.declared.Flag.{Flag}
use Rattle.codeblocks.specs.declared.Position.{Position}
use Rattle.codeblocks.proofs.BlocksLaws.{areas-apart}
use Rattle.codeblocks.proofs.RestLaws.{at_value, rest-values, rest-single, rest-flagged}

-- the codeblock begun last has no entry in common with a later one
before-apart : (b : CodeblockGrid) → Counted b → (n m : ℕ) → n ≤ m → m < count_of b →
    (i k : ℕ) → i < size_of (area_before b n) → k < size_of (block_area b m) → value_index (area_before b n) i ≢ value_index (block_area b m) k
unfolding block_before block_at
before-apart b counted zero m later below i k inside-i inside-k = absurd (omega arith)
before-apart b counted (suc n) m later below i k inside-i inside-k =
    areas-apart b counted n m (omega arith) below (λ same. omega arith) i k inside-i inside-k

module _ (bytes : List ℕ) (c : Cursor) (scale : ℕ → ℕ) (b : CodeblockGrid) (from : Position) (plane₀ : List ℤ) where
  -- What is left from where reading has come is what was left at first.
  pub record Sofar (at : Position) (progress : Result ℕ Fault) (plane : List ℤ) : Type 0 where
    pub values : (whole : List ℕ) (end : ℕ) → Begins c.stated bytes c.end whole end →
        rest_of_blocks whole end c.origin scale b from (goes_on c.bit plane₀) ≡ rest_of_blocks whole end c.origin scale b at (after progress plane)
    pub most : at.begun ≤ count_of b
    pub clear : ClearBlocks b at plane
    pub before_end : (next : ℕ) → progress ≡ Ok next → next ≤ c.end

  -- at first
  pub sofar-first : from.begun ≤ count_of b → ClearBlocks b from plane₀ → c.bit ≤ c.end → Sofar from (Ok c.bit) plane₀
  sofar-first most clear before =
      record {
        values = λ whole end begins. refl;
        most = most;
        clear = clear;
        before_end = λ next e.
            let here : c.bit ≡ next = cc in
            omega arith;
      }

  -- after values of the codeblock begun last
  pub sofar-values : Counted b → (m i : ℕ) (next : Cursor) (plane last : List ℤ) (a : Rectangle) (part : Portion) → Sofar (at_value m i) (Ok next.bit) plane → Follows c next →
      a ≡ area_before b m → ReadsOn bytes next scale a i plane part last → Sofar (at_value m part.count) part.progress last
  sofar-values counted m i next plane last a part sofar same is reads =
      let read : ReadsOn bytes next scale (area_before b m) i plane part last = rw is at reads in
      record {
        values = λ whole end begins.
            sofar.values whole end begins
            ∙ rest-values whole end c.origin scale b m i part.count (goes_on next.bit plane) (after part.progress last)
            (rw same.origin-same at (read.values whole end (rw (same.stated-same, same.end_same) begins)));
        most = sofar.most;
        clear =
            record {
              begun_last = read.clear;
              later = λ k later below.
                  record {
                    each = λ j from-0 inside.
                        read.kept (value_index (block_area b k) j) (λ x inside-x. before-apart b counted m k later below x j inside-x inside)
                        ∙ (sofar.clear.later k later below).each j from-0 inside;
                  };
            };
        before_end = λ n e. rw same.end_same at (read.before_end n e);
      }

  -- after the flag of the next codeblock
  pub sofar-flag : (m i : ℕ) (next : Cursor) (progress : Result ℕ Fault) (plane : List ℤ) (flag : Flag) (block : PlacedCodeblock) (n k : ℕ) → Sofar (at_value m i) progress plane → Follows c next → progress ≡ Ok next.bit →
      m < count_of b → size_of (area_before b m) ≤ i → Flagged (count_of b) bytes next (Some flag) →
      block ≡ block_at b m → n ≡ m + 1 → k ≡ cond flag.skipped (size_of block.area) 0 → Sofar (at_value n k) (Ok flag.bit) plane
  unfolding block_before block_at
  sofar-flag m i next progress plane flag block n k sofar same on more over flagged is begun values =
      rw (begun, add-one m, values, is)
      (record {
        values = λ whole end begins.
            sofar.values whole end begins
            ∙ ap (λ (p : Result ℕ Fault). rest_of_blocks whole end c.origin scale b (at_value m i) (after p plane)) on
            ∙ left whole end (rw (same.stated-same, same.end_same) begins);
        most = more;
        clear =
            record {
              begun_last = unread flag.skipped;
              later = λ j later below. sofar.clear.later j (omega arith) below;
            };
        before_end = λ j e.
            let here : flag.bit ≡ j = cc in
            omega (arith, flagged.before_end (rw same.end_same (sofar.before_end next.bit on)) flag refl, same.end_same);
      })
    where
      unread : (skipped : Bool) → ClearFrom (block_area b m) (cond skipped (size_of (block_area b m)) 0) plane
      unread true = record { each = λ j read inside. absurd (omega arith) }
      unread false = sofar.clear.later m (omega arith) more

      left : (whole : List ℕ) (end : ℕ) → Begins next.stated bytes next.end whole end →
          rest_of_blocks whole end c.origin scale b (at_value m i) (goes_on next.bit plane)
          ≡ rest_of_blocks whole end c.origin scale b (at_value (suc m) (cond flag.skipped (size_of (block_area b m)) 0)) (goes_on flag.bit plane)
      left whole end begins =
          elim (ℕ_discrete (count_of b) 1) [
            | yes one ↦
                let single : flag ≡ record { skipped = false; bit = next.bit } = cc (flagged.single one) in
                rw single (rest-single whole end c.origin scale b m i next.bit plane more over one)
            | no several ↦
                let taken = flagged.taken several flag refl whole end begins in
                rw taken.2 (rest-flagged whole end c.origin scale b m i next.bit plane more over taken.0 flag.bit several taken.1)
          ]

  -- the ways that a turn ends: a refusal, data that are short, and all codeblocks read
  module _ (at : Position) (progress : Result ℕ Fault) (plane : List ℤ) (sofar : Sofar at progress plane) where
    -- with what the answer says besides
    ends : (short : Bool) → (short ≡ true → CloseToEnd bytes c.end progress) → (c.stated ≡ true → short ≡ false) →
        ((next : ℕ) → progress ≡ Ok next → short ≡ false → (count_of b ≤ at.begun) × (size_of (area_before b at.begun) ≤ at.values)) →
        BlocksRead bytes c scale b from plane₀ (record { position = at; progress = progress; short = short }) plane
    ends short close_to_end full over =
        record {
          values = sofar.values;
          most = sofar.most;
          clear = sofar.clear;
          before_end = sofar.before_end;
          close_to_end = close_to_end;
          full = full;
          over = over;
        }

    pub ends-refused : (fault : Fault) → progress ≡ Err fault →
        BlocksRead bytes c scale b from plane₀ (record { position = at; progress = progress; short = false }) plane
    ends-refused fault refused =
        ends false (λ e. absurd (true≢false (sym e))) (λ e. refl) (λ next e f. refused-never _ _ _ refused e)

    pub ends-short : (bit : ℕ) → progress ≡ Ok bit → (next : Cursor) → Follows c next → next.stated ≢ true → CloseToEnd bytes next.end (Ok bit) →
        BlocksRead bytes c scale b from plane₀ (record { position = at; progress = progress; short = true }) plane
    ends-short bit on next same unstated close_to_end =
        ends true (λ e. rw (on, ← same.end_same) close_to_end) (λ stated. absurd (unstated (same.stated-same ∙ stated))) (λ k e f. absurd (true≢false f))

    pub ends-over : count_of b ≤ at.begun → size_of (area_before b at.begun) ≤ at.values →
        BlocksRead bytes c scale b from plane₀ (record { position = at; progress = progress; short = false }) plane
    ends-over past over = ends false (λ e. absurd (true≢false (sym e))) (λ e. refl) (λ k e f. (past, over))
