-- `transform::levels::synthesise_level` meets its contract: a level that is swept is document 01's level; the rows of the component's own level are
-- the whole work plane.
use mathlib.Core.Path.{◌≡◌, refl, sym, ◌∙◌}
use mathlib.Core.Bool.{Bool, true, false, false≢true}
use mathlib.Core.List.{List}
use Prim.Native.Nat.{ℕ, suc, ◌+◌, ◌-◌, ◌*◌, ◌^◌, ◌≤◌, ◌<◌}
use native.Mathlib.Omega.{arith}
use borrow.Author.Tests.{eqb-true, eq-eqb, ne_eqb}
use lib.Dec.{eqb}
use lib.IntN.{ℤ}
use lib.ListN.{length}
use Rattle.std.specs.Prelude.{is_ok, is_some}
use Rattle.std.specs.Bool.{then_some}
use Rattle.std.specs.Option.{unwrap_or}
use Rattle.sweep.specs.declared.rows.Crop.{Crop}
use Rattle.component.specs.Sizes.{size_at}
use Rattle.filters.specs.Table.{filter_from}
use Rattle.filters.specs.Filters.{Filter}
use Rattle.lifting.specs.Layout.{FrameFits}
use Rattle.filters.specs.Passes.{Picture, all_new_fit, run_all}
use Rattle.filters.specs.Planes.{picture_of}
use Rattle.filters.specs.Pictures.{Agree}
use Rattle.transform.specs.Geometry.{coefficient_picture}
use Rattle.transform.specs.Synthesis.{synthesis_passes, interleave}
use Rattle.transform.proofs.GeometryLaws.{placed, next-columns, rows_whole, by-sizes, cleared-all, low-rows-most, low-columns-most}
use Rattle.transform.proofs.SynthesisLaws.{swept-told, swept-made}
use Rattle.transform.proofs.levels.synthesise_level.Goals as goal
use Rattle.transform.proofs.levels.synthesise_level.Goals.{After-next_frame-frame}

pub next_frame-frame-requires : goal.next_frame-frame-requires
next_frame-frame-requires c =
    let g = c.requires.planes.0 in
    (g.depth_most, c.requires.well_formed.1, g.width_most, low-rows-most _ _ g, low-columns-most _ _ g)

pub gap_of-gap-requires : goal.gap_of-gap-requires
gap_of-gap-requires c = c.requires.well_formed.0

pub overflow_add-below : goal.overflow_add-below
overflow_add-below c = omega (arith, c.requires.well_formed.1, c.requires.planes.0.depth_most)

-- what the level's bands and the picture below make up, by the frame and by the contract
module _ (c : After-next_frame-frame) where
  abbrev bands : ℕ
  bands = c.next_frame-frame.result.band_rows

  abbrev half : ℕ
  half = c.next_frame-frame.result.band_columns

  abbrev filter : Filter
  filter = filter_from c.args.filter

  abbrev start-work : List ℤ
  start-work = c.args.work.now

  -- the frame is placed in the work plane
  placed-here : FrameFits c.next_frame-frame.result start-work
  placed-here =
      let told = c.next_frame-frame.ensures in
      placed _ _ c.requires.planes.0 c.args.below c.requires.well_formed.1 c.next_frame-frame.result told.0 told.1 told.2 start-work refl

  -- the picture that the level starts from, for bands of these sizes and rows this far apart; whether its numbers fit, and the picture that it makes
  abbrev input : ℕ → ℕ → ℕ → Picture
  input bh bw s2 = interleave bh bw (picture_of s2 start-work) (coefficient_picture c.args.extent c.args.coefficients.now)

  abbrev fits : ℕ → ℕ → ℕ → Bool
  fits bh bw s2 = all_new_fit (2 * bh) (2 * bw) (synthesis_passes filter) (input bh bw s2)

  abbrev made : ℕ → ℕ → ℕ → Picture
  made bh bw s2 = run_all (2 * bh) (2 * bw) (synthesis_passes filter) (input bh bw s2)

  -- the same, with the sizes that the contract names
  by-extent : (P : ℕ → ℕ → ℕ → ℕ → Type 0) → P bands half c.next_frame-frame.result.stride (2 * c.next_frame-frame.result.stride) →
      P (size_at c.args.extent.low_rows c.args.below) (size_at c.args.extent.low_columns c.args.below)
      (c.args.extent.padded_width * 2 ^ (c.args.extent.depth - suc c.args.below))
      (c.args.extent.padded_width * 2 ^ (c.args.extent.depth - c.args.below))
  by-extent P holds =
      let told = c.next_frame-frame.ensures in
      by-sizes _ _ c.requires.planes.0 c.args.below c.requires.well_formed.1 c.next_frame-frame.result told.0 told.1 told.2 P holds

  -- where the level is the component's, the samples lie inside its picture
  fewer : suc c.args.below ≡ c.args.extent.depth → (c.args.extent.width ≤ 2 * half) × (c.args.extent.height ≤ 2 * bands)
  unfolding size_at
  fewer last =
      let told = c.next_frame-frame.ensures in
      let g = c.requires.planes.0 in
      (rw told.2 (rw (sym last) at g.narrower), rw told.1 (rw (sym last) at g.shorter))

-- what holds of the sizes of the samples, where they are finished
where-some : (finishes : Bool) (sizes : Crop) (P : Crop → Type 0) → (finishes ≡ true → P sizes) → is_some (then_some finishes sizes) ≡ true → P (unwrap_or (then_some finishes sizes) (record { width = 0; height = 0 }))
where-some true sizes P holds some = holds refl
where-some false sizes P holds wrong = absurd (false≢true wrong)

pub sweep_level-requires : goal.sweep_level-requires
sweep_level-requires c =
    let at = (goal.at.sweep_level-requires c).After-next_frame-frame in
    let told = c.next_frame-frame.ensures in
    let gap = c.gap_of-gap.ensures in record {
      frame_fits = (
        placed-here at,
        c.requires.well_formed.0,
        gap.0,
        gap.1,
        rw c.then_some-crop.ensures
            (where-some (eqb (c.args.below + 1) c.args.extent.depth) _
            (λ (sizes : Crop). (sizes.width ≤ 2 * half at) × (sizes.height ≤ 2 * bands at) × (sizes.height * sizes.width ≤ length c.args.samples.now))
            (λ finishes.
            let last : suc c.args.below ≡ c.args.extent.depth = omega (arith, eqb-true (c.args.below + 1) c.args.extent.depth finishes) in
            ((fewer at last).0, (fewer at last).1, c.requires.planes.2))),
      );
      bands_inside = (
        rw told.2 (next-columns _ _ c.requires.planes.0 c.args.below c.requires.well_formed.1),
        rw (told.1, c.requires.planes.1) (rows_whole _ _ c.requires.planes.0 c.args.below c.requires.well_formed.1),
      );
    }

pub shape_of-work : goal.shape_of-work
shape_of-work c = c.sweep_level.auto.work

pub shape_of-samples : goal.shape_of-samples
shape_of-samples c = c.sweep_level.auto.samples

-- whether the level is the component's, as the code asks it
is_last : (below depth : ℕ) → suc below ≡ depth → eqb (below + 1) depth ≡ true
is_last below depth last = eq-eqb (below + 1) depth (omega arith)

not_last : (below depth : ℕ) → suc below < depth → eqb (below + 1) depth ≡ false
not_last below depth less = ne_eqb (below + 1) depth (λ e. omega arith)

pub returns : goal.returns
unfolding size_at picture_of
returns c =
    let at = (goal.at.returns c).After-next_frame-frame in
    let frame = c.next_frame-frame.result in
    let told = c.next_frame-frame.ensures in
    let placed = placed-here at in
    let test = swept-told frame c.args.filter c.requires.well_formed.0 placed.rows_least placed.columns_least c.args.extent.padded_width (start-work at) c.args.coefficients.now in
    let picture = swept-made frame c.args.filter c.requires.well_formed.0 placed.rows_least placed.columns_least c.args.extent.padded_width (start-work at) c.args.coefficients.now in
    let swept = c.sweep_level.ensures in record {
      told = by-extent at (λ bh bw s s2. is_ok c.sweep_level.result ≡ fits at bh bw s2) (swept.told ∙ test);
      done = λ went. record {
        in_work = λ less.
            let none = rw (not_last _ _ less) at c.then_some-crop.ensures in
            by-extent at (λ bh bw s s2. Agree (2 * bh) (2 * bw) (picture_of s c.sweep_level.new.work) (made at bh bw s2))
            (λ row x r i. (rw none at (swept.done went)) row x r i ∙ picture (sym swept.told ∙ went) row x r i);
        in_samples = λ last.
            let inside = fewer at last in
            let some = rw (is_last _ _ last) at c.then_some-crop.ensures in
            by-extent at
            (λ bh bw s s2. Agree c.args.extent.height c.args.extent.width (picture_of c.args.extent.width c.sweep_level.new.samples) (made at bh bw s2))
            (λ row x r i.
            (rw some at (swept.finished went)) refl row x r i ∙ picture (sym swept.told ∙ went) row x (omega (arith, inside.1)) (omega (arith, inside.0)));
        cleared = λ last.
            let some = rw (is_last _ _ last) at c.then_some-crop.ensures in
            cleared-all _ _ c.requires.planes.0 c.args.below c.requires.well_formed.1 frame told.0 told.1 told.2 last c.sweep_level.new.work (start-work at)
            c.sweep_level.auto.work refl (λ row x r i. (rw some at (swept.done went)) row x r i);
      };
    }
