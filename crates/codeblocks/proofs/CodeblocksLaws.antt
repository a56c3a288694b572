-- Laws of reading codeblocks: what a flag says, a refused run stays as it is, and no entry changes but those of the subband.
-- Assumes nothing.
use mathlib.Core.Path.{◌≡◌, refl, ap, ◌∙◌}
use mathlib.Core.Logic.{◌≢◌}
use mathlib.Core.Bool.{Bool, true, false, cond}
use mathlib.Core.List.{List}
use Prim.Native.Nat.{ℕ, ◌+◌, ◌*◌, ◌/◌, ◌%◌, ◌<◌}
use native.Mathlib.Nat.{mul_comm}
use native.Mathlib.Decide.{ℕ_discrete}
use native.Mathlib.Omega.{arith}
use lib.Dec.{eqb}
use lib.IntN.{ℤ, pos}
use lib.ListN.{get_or}
use borrow.Author.Tests.{eq-eqb, ne_eqb}
use Rattle.base.specs.Walk.{walk}
use Rattle.base.proofs.WalkLaws.{walk-flat, walk-holds}
use Rattle.component.specs.Subbands.{InSubband}
use Rattle.exp_golomb.specs.Bits.{Taken, take_bit}
use Rattle.exp_golomb.proofs.BitsLaws.{stated-bit}
use Rattle.coefficients.specs.Reading.{Progress, At, Refused, Run, goes_on, stops, going}
use Rattle.coefficients.proofs.ReadingLaws.{Stays, rectangle-stays}
use Rattle.rectangles.proofs.AreasLaws.{rectangle-keeps}
use Rattle.codeblocks.specs.Codeblocks.{codeblock_area, on_flag, codeblock_values, codeblock, codeblocks}
use Rattle.codeblocks.specs.Blocks.{count_of, block_area, block_before, Counted, Placed}
use Rattle.codeblocks.specs.Rest.{ClearBlocks}
use Rattle.codeblocks.specs.declared.CodeblockGrid.{CodeblockGrid}
use Rattle.codeblocks.proofs.BlocksLaws.{value-lies, value-elsewhere}

module _ (bytes : List ℕ) (end origin : ℕ) (scale : ℕ → ℕ) (b : CodeblockGrid) where
  abbrev block : ℕ → ℕ → Run → Run
  block = codeblock bytes end origin scale b

  abbrev values : ℕ → ℕ → Run → Run
  values = codeblock_values bytes end origin scale b

  -- the only codeblock has no flag
  pub block-single : (y x : ℕ) (r : Run) → count_of b ≡ 1 → block y x r ≡ values y x r
  unfolding codeblock
  block-single y x r single = rw (eq-eqb (count_of b) 1 single) refl

  -- one of several has: 1 leaves it zero, and else its values follow
  module _ (several : count_of b ≢ 1) (y x : ℕ) where
    pub block-flagged : (at bit next : ℕ) (plane : List ℤ) → take_bit bytes end true at ≡ Taken bit next →
        block y x (goes_on at plane) ≡ cond (eqb bit 1) (goes_on next plane) (values y x (goes_on next plane))
    unfolding codeblock going on_flag
    block-flagged at bit next plane taken = rw (ne_eqb (count_of b) 1 several, taken) refl

    -- and leaves a refused run as it is
    block_refused : Stays (block y x)
    unfolding codeblock going
    block_refused status bit plane = rw (ne_eqb (count_of b) 1 several) refl

  -- a refused run stays as it is
  pub block-stays : (y x : ℕ) → Stays (block y x)
  unfolding codeblock_values
  block-stays y x status bit plane =
      elim (ℕ_discrete (count_of b) 1) [
        | yes single ↦ block-single y x (stops status bit plane) single ∙ rectangle-stays bytes end origin scale (codeblock_area b y x) status bit plane
        | no several ↦ block_refused several y x status bit plane
      ]

  -- counted in raster order, they are one walk
  pub codeblocks-flat : (r : Run) → codeblocks bytes end origin scale b r ≡ walk (λ m. block (m / b.across) (m % b.across)) 0 (count_of b) r
  unfolding codeblocks
  codeblocks-flat r = walk-flat block b.across b.down r ∙ ap (λ (n : ℕ). walk (λ m. block (m / b.across) (m % b.across)) 0 n r) (mul_comm b.down b.across)

  -- whatever the values of each codeblock keep, all of them keep
  module _ (Q : List ℤ → Type 0) where
    -- a step keeps it
    abbrev Keeps : (Run → Run) → Type 0
    Keeps f = (r : Run) → Q r.plane → Q (f r).plane

    -- a codeblock keeps it
    block-holds : (y x : ℕ) → Keeps (values y x) → Keeps (block y x)
    block-holds y x each r here =
        elim (ℕ_discrete (count_of b) 1) [
          | yes single ↦ rw (block-single y x r single) (each r here)
          | no several ↦ flagged several r.progress
        ]
      where
        followed : (skipped : Bool) (next : ℕ) → Q (cond skipped (goes_on next r.plane) (values y x (goes_on next r.plane))).plane
        followed true next = here
        followed false next = each (goes_on next r.plane) here

        flagged : count_of b ≢ 1 → (progress : Progress) → Q (block y x (record { progress = progress; plane = r.plane })).plane
        flagged several (At at) =
            stated-bit bytes end _ at (λ bit next taken. rw (block-flagged several y x at bit next r.plane taken) (followed (eqb bit 1) next))
        flagged several (Refused status bit) = rw (block-stays y x status bit r.plane) here

    -- and so do all
    codeblocks-hold : ((m : ℕ) → m < count_of b → Keeps (values (m / b.across) (m % b.across))) → Keeps (codeblocks bytes end origin scale b)
    codeblocks-hold each r here =
        rw (codeblocks-flat r)
        (walk-holds (λ t. Q t.plane) (λ m. block (m / b.across) (m % b.across)) 0 (count_of b) (λ m below. block-holds (m / b.across) (m % b.across) (each m (omega arith))) r here)

  -- no entry outside the subband changes
  pub codeblocks-keep : Counted b → (j : ℕ) → ((row column : ℕ) → InSubband b.subband row column → row * b.stride + column ≢ j) →
      (r : Run) → get_or (codeblocks bytes end origin scale b r).plane j (pos 0) ≡ get_or r.plane j (pos 0)
  unfolding codeblock_values
  codeblocks-keep counted j outside r =
      codeblocks-hold (λ plane. get_or plane j (pos 0) ≡ get_or r.plane j (pos 0))
      (λ m below t here. rectangle-keeps bytes end origin scale (block_area b m) j (λ i inside. value-elsewhere b counted j outside m i below inside) t ∙ here)
      r refl

-- before any codeblock is begun, all entries that are to be read hold zeros where those of the subband do
pub clear-blocks : (b : CodeblockGrid) (plane : List ℤ) → Placed b plane →
    ((row column : ℕ) → InSubband b.subband row column → get_or plane (row * b.stride + column) (pos 0) ≡ pos 0) →
    ClearBlocks b (record { begun = 0; values = 0 }) plane
unfolding block_before
clear-blocks b plane placed zeros =
    record {
      begun_last = record { each = λ k from-0 below. absurd (omega arith) };
      later = λ m from-0 below.
          record {
            each = λ k from-0 inside.
                let lies = value-lies b placed.counted m k below inside in
                rw lies.3 (zeros lies.0 lies.1 lies.2);
          };
    }
