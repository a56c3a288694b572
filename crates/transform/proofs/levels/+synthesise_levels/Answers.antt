-- `transform::levels::synthesise_levels` meets its contract, by recursion on the depth, which is the measure: the low band is the picture of
-- depth 0, and each level is built on the picture that the call of itself left in the work plane.
use Rattle.std.proofs.Common.{◌≡◌, true, false, suc, ◌-◌, ◌≤◌, ◌<◌, ℕ, List, length}
use mathlib.Core.Path.{refl, sym, ◌∙◌, subst}
use native.Mathlib.Omega.{arith}
use lib.IntN.{ℤ}
use Rattle.std.proofs.lemmas.Result.{err_from_is_err_and}
use Rattle.base.proofs.ListsLaws.{zeros-length}
use Rattle.component.specs.Sizes.{size_at}
use Rattle.filters.specs.Filters.{Filter}
use Rattle.filters.specs.Passes.{Picture}
use Rattle.filters.specs.Table.{filter_from}
use Rattle.filters.specs.declared.filter.LiftingFilter.{LiftingFilter}
use Rattle.transform.specs.declared.levels.Extent.{Extent}
use Rattle.transform.specs.Geometry.{Geometry, Stands, coefficient_picture, work_picture, picture_at, first_bad_at, level_input, level_picture, level_numbers_fit}
use Rattle.transform.specs.Synthesis.{synthesis, level_fits, first_bad_level}
use Rattle.transform.proofs.SynthesisLaws.{bad-below, bad-none, bad-here, level-fits, level-picture}
use Rattle.transform.proofs.levels.+synthesise_levels.Goals as goal

-- A level n above 0 of a component, and the level below it.
module _ (e : Extent) (lf : LiftingFilter) (given work : List ℤ) (g : Geometry e (length work)) (n : ℕ) (deep : n ≤ e.depth) (some : suc (n - 1) ≡ n) where
  abbrev filter : Filter
  filter = filter_from lf

  abbrev coefficients : Picture
  coefficients = coefficient_picture e given

  abbrev first-bad : ℕ → ℕ
  first-bad k = first_bad_at lf e given k

  abbrev picture : ℕ → Picture
  picture k = picture_at lf e given k

  abbrev below : ℕ
  below = n - 1

  below-deep : below < e.depth
  below-deep = omega (arith, deep, some)

  -- the levels below do not fit
  fails-below : (bad : ℕ) → first-bad below ≡ bad → (bad ≡ 0 → ⊥) → first-bad n ≡ bad
  fails-below bad told wrong =
      subst (λ (k : ℕ). first-bad k ≡ first-bad below) some
      (sym (bad-below filter e.low_rows e.low_columns g.rows_least g.columns_least coefficients below (λ none. wrong (sym told ∙ none))))
      ∙ told

  -- The picture below stands in the work plane.
  module _ (rest samples : List ℤ) (stood : Stands e below (picture below) work rest samples) where
    -- on it the test of the level's numbers is the definition's
    level-test :
        level_numbers_fit lf e below (level_input e rest given below)
        ≡ level_fits filter e.low_rows e.low_columns coefficients below
    level-test =
        level-fits filter e.low_rows e.low_columns g.rows_least g.columns_least coefficients below (work_picture e below rest)
        (stood.in_work below-deep)

    -- a level's picture on the picture below is the picture of the next depth
    next-stands :
        (work' last : List ℤ) → length rest ≡ length work
        → Stands e (suc below) (level_picture lf e below (level_input e rest given below)) rest work' last
        → Stands e n (picture n) work work' last
    next-stands work' last long stands =
        let same = level-picture filter e.low_rows e.low_columns g.rows_least g.columns_least coefficients below (work_picture e below rest) (stood.in_work below-deep) in
        let built = same _ (λ row x r i. refl) in
        subst (λ (k : ℕ). Stands e k (picture k) work work' last) some
        (record {
          in_work = λ less. same _ (stands.in_work less);
          in_samples = λ here row x r i.
              stands.in_samples here row x r i
              ∙ built row x (omega (arith, subst (λ (k : ℕ). e.height ≤ size_at e.low_rows k) (sym here) g.shorter))
              (omega (arith, subst (λ (k : ℕ). e.width ≤ size_at e.low_columns k) (sym here) g.narrower));
          cleared = λ here. stands.cleared here ∙ zeros-length rest work long;
        })

  -- the levels below fit, and this one does or does not
  fits-here : first-bad below ≡ 0 → level_fits filter e.low_rows e.low_columns coefficients below ≡ true → first-bad n ≡ 0
  fits-here good fits =
      subst (λ (k : ℕ). first-bad k ≡ 0) some
      (sym (bad-none filter e.low_rows e.low_columns g.rows_least g.columns_least coefficients below good fits))

  fails-here : first-bad below ≡ 0 → level_fits filter e.low_rows e.low_columns coefficients below ≡ false → first-bad n ≡ n
  fails-here good fails =
      subst (λ (k : ℕ). first-bad k ≡ k) some
      (sym (bad-here filter e.low_rows e.low_columns g.rows_least g.columns_least coefficients below good fails))

pub returns-then-n-eq0 : goal.returns-then-n-eq0
unfolding first_bad_level synthesis
returns-then-n-eq0 t c =
    record { told = rw c.if-n-eq0.true refl; done = rw c.if-n-eq0.true c.put_low_band.ensures }

pub returns-in_err-synthesise_levels-clause-told : goal.returns-in_err-synthesise_levels-clause-told
returns-in_err-synthesise_levels-clause-told t c =
    let failed = err_from_is_err_and c.from_residual.result c.from_residual.ensures.1 in
    let bad = c.in_err-synthesise_levels.ensures.told in
    rw (failed.1, failed.2) (
      fails-below c.args.extent c.args.filter c.args.coefficients.now c.args.work.now c.requires.planes.0 c.args.n c.requires.well_formed.1 (omega (arith, c.if-n-eq0.false))
          _ bad.0 bad.1,
      bad.1,
    )

pub returns-in-Ok : goal.returns-in-Ok
returns-in-Ok t c =
    let e = c.args.extent in
    let f = c.args.filter in
    let given = c.args.coefficients.now in
    let work = c.args.work.now in
    let g = c.requires.planes.0 in
    let n = c.args.n in
    let deep = c.requires.well_formed.1 in
    let some : suc (c.args.n - 1) ≡ c.args.n = omega (arith, c.if-n-eq0.false) in
    let good = c.in_ok-synthesise_levels.ensures.told in
    let stood = c.in_ok-synthesise_levels.ensures.done in
    let level = c.in-Ok.ensures in
    record {
      told = fits-here e f given work g n deep some good (sym (level.told ∙ level-test e f given work g n deep some _ _ stood));
      done = next-stands e f given work g n deep some _ _ stood _ _ c.synthesise_levels.auto.work (level.done refl);
    }

pub returns-in-Err-clause-told : goal.returns-in-Err-clause-told
returns-in-Err-clause-told t c =
    let e = c.args.extent in
    let f = c.args.filter in
    let given = c.args.coefficients.now in
    let work = c.args.work.now in
    let g = c.requires.planes.0 in
    let n = c.args.n in
    let deep = c.requires.well_formed.1 in
    let some : suc (c.args.n - 1) ≡ c.args.n = omega (arith, c.if-n-eq0.false) in
    let good = c.in_ok-synthesise_levels.ensures.told in
    let stood = c.in_ok-synthesise_levels.ensures.done in
    let level = c.in-Err.ensures in
    (fails-here e f given work g n deep some good (sym (level.told ∙ level-test e f given work g n deep some _ _ stood)), c.if-n-eq0.false)
