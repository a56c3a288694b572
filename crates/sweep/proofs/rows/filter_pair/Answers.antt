-- `sweep::rows::filter_pair` meets its contract: the first row leaves the second as it was.
use mathlib.Core.Path.{◌≡◌, refl, sym, ◌∙◌}
use mathlib.Core.Bool.{Bool, true, false}
use mathlib.Core.List.{List}
use lib.IntN.{ℤ}
use Prim.Native.Nat.{ℕ, ◌+◌, ◌*◌, ◌<◌}
use native.Mathlib.Omega.{arith}
use Rattle.filters.specs.Passes.{Picture}
use Rattle.sweep.specs.Rows.{row_made, row_fits}
use Rattle.sweep.specs.LastStage.{finishes, crop_of, rows_left, row_kept, samples_left}
use Rattle.sweep.proofs.RowsLaws.{pair-told, pair-stored, second-row, with_row-same}
use Rattle.sweep.proofs.rows.filter_pair.Goals as goal
use Rattle.sweep.proofs.rows.filter_pair.Goals.{In_ok-filter_row_of}

-- Once the first row is filtered.
module _ (c : In_ok-filter_row_of) where
  abbrev left : Picture
  left = rows_left c.args.level c.args.filter c.args.work.now

  fits : row_fits c.args.level.frame c.args.filter c.args.work.now (2 * c.args.k) ≡ true
  fits = sym c.in_ok-filter_row_of.ensures.told

  -- what is made of the second
  second-made :
      (x : ℕ) → x < 2 * c.args.level.frame.band_columns
      → row_made c.args.level.frame c.args.filter c.filter_row_of.new.work (2 * c.args.k + 1) x ≡ row_made c.args.level.frame c.args.filter c.args.work.now (2 * c.args.k + 1) x
  second-made = second-row c.args.level.frame c.args.filter c.args.work.now c.requires.0 c.args.k left fits _ (c.in_ok-filter_row_of.ensures.done refl)

  second-left :
      (finished : Bool) → finishes c.args.level ≡ finished → (x : ℕ) → x < 2 * c.args.level.frame.band_columns
      → rows_left c.args.level c.args.filter c.filter_row_of.new.work (2 * c.args.k + 1) x ≡ left (2 * c.args.k + 1) x
  second-left true e x within = rw e
  second-left false e x within = rw e (second-made x within)

  -- what is kept of both
  both-kept :
      (finished : Bool) → finishes c.args.level ≡ finished
      → (samples : List ℤ) → samples ≡ row_kept c.args.level c.args.filter (2 * c.args.k + 1) c.filter_row_of.new.work c.filter_row_of.new.samples
      → samples ≡ samples_left c.args.level c.args.filter c.args.k c.args.work.now c.args.samples.now
  both-kept true e samples second =
      let first = rw e at (c.in_ok-filter_row_of.ensures.finished refl) in
      let narrow = (c.requires.2 e).0 in
      rw e
      ((rw e at second)
      ∙ with_row-same (crop_of c.args.level) (2 * c.args.k + 1) _ _ _ (λ x within. second-made x (omega (arith, narrow, within)))
      ∙ rw first refl)
  both-kept false e samples second = rw e ((rw e at second) ∙ (rw e at (c.in_ok-filter_row_of.ensures.finished refl)))

pub returns : goal.returns
returns c =
    let at = (goal.at.returns c).In_ok-filter_row_of in
    let level = c.args.level in
    let stored = c.in_ok-filter_row_of.ensures.done refl in
    record {
      told = pair-told level.frame c.args.filter c.args.work.now c.requires.0 c.args.k (left at) (fits at) _ stored _ c.filter_row_of-2.ensures.told;
      done = λ went.
          pair-stored level.frame c.args.filter c.args.work.now c.requires.0 c.args.k (left at) (fits at) _ stored _ _ (second-left at (finishes level) refl) (c.filter_row_of-2.ensures.done went);
      finished = λ went. both-kept at (finishes level) refl _ (c.filter_row_of-2.ensures.finished went);
    }
