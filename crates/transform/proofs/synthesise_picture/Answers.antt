-- `transform::synthesise_picture` meets its contract: the levels are built for the sizes and the filter that the parameters give.
use mathlib.Core.Path.{refl, sym, ◌∙◌, subst}
use Prim.Native.Nat.{◌*◌, ◌≤◌}
use native.Mathlib.Nat.{mul_comm}
use native.Mathlib.Omega.{arith}
use lib.ListN.{length}
use Rattle.component.proofs.ChecksLaws.{wavelet-most, width-least}
use Rattle.std.proofs.lemmas.Result.{on_ok_weaker}
use Rattle.filters.specs.Filters.{filter_of}
use Rattle.filters.specs.Pictures.{Agree}
use Rattle.filters.specs.Planes.{picture_of}
use Rattle.transform.specs.Synthesis.{synthesis, first_bad_level}
use Rattle.transform.specs.Job.{bad_level, picture_from}
use Rattle.transform.specs.Geometry.{Geometry, TellsBad, extent_of}
use Rattle.transform.specs.declared.levels.Extent.{Extent}
use Rattle.transform.proofs.GeometryLaws.{geometry-of}
use Rattle.filters.proofs.PlanesLaws.{raster-is}
use Rattle.transform.proofs.synthesise_picture.Goals as goal

pub filter_of-filter-requires : goal.filter_of-filter-requires
filter_of-filter-requires c = wavelet-most c.args.p c.requires.p_value.2

pub synthesise_levels-requires : goal.synthesise_levels-requires
unfolding extent_of
synthesise_levels-requires c =
    let p = c.args.p in
    let back = sym c.extent_of-extent.ensures in record {
      planes = (
        subst (λ (e : Extent). Geometry e (length c.args.work.now)) back (geometry-of p c.requires.p_value.0 c.requires.p_value.1 _ c.requires.coefficients_len.1),
        c.requires.coefficients_len.0 ∙ sym c.requires.coefficients_len.1,
        subst (λ (e : Extent). e.height * e.width ≤ length c.args.samples.now) back (omega (arith, c.requires.coefficients_len.2, mul_comm p.height p.width)),
      );
      well_formed = (c.filter_of-filter.ensures.1, omega arith);
    }

pub returns : goal.returns
unfolding bad_level picture_from extent_of
returns c =
    let p = c.args.p in
    let coefficients = c.args.coefficients.now in
    let is = c.extent_of-extent.ensures in
    let same = c.filter_of-filter.ensures.0 in
    let levels = c.synthesise_levels.ensures in
    record {
      told = subst
          (λ (e : Extent). TellsBad c.synthesise_levels.result (first_bad_level (filter_of p.wavelet) e.low_rows e.low_columns (picture_of e.padded_width coefficients) e.depth))
          is (rw same at levels.told);
      done = on_ok_weaker c.synthesise_levels.result (λ stands. (
        sym (raster-is p.height p.width (picture_from p coefficients) c.synthesise_levels.new.samples (width-least p c.requires.p_value.0) (c.synthesise_levels.auto.samples ∙ c.requires.coefficients_len.2 ∙ mul_comm p.width p.height)
            (λ row x r i. sym
            (subst
            (λ (e : Extent). Agree e.height e.width (picture_of e.width c.synthesise_levels.new.samples) (synthesis (filter_of p.wavelet) e.low_rows e.low_columns (picture_of e.padded_width coefficients) e.depth))
            is (rw same at (stands.in_samples refl)) row x r i))),
        stands.cleared refl,
      )) levels.done;
    }
