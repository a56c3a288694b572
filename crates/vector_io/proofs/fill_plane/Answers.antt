-- `vector_io::fill_plane` meets its contract: a filled plane holds the number at every entry.
use mathlib.Core.Path.{◌≡◌, sym, ◌∙◌}
use mathlib.Core.List.{List}
use lib.IntN.{ℤ, pos}
use lib.ListN.{length, replicate, length-replicate, get_or-replicate}
use lib.Seq.{ext_get_or}
use mir.Syntax.{w32}
use Rattle.base.specs.Fill.{fill}
use Rattle.base.proofs.FillLaws.{length-fill, get_d-fill-start}
use Rattle.base.proofs.RangeLaws.{back}
use Rattle.vector_io.proofs.fill_plane.Goals as goal

-- the number again and again, and the number stored at every entry
everywhere : (l : List ℤ) (z : ℤ) → replicate (length l) z ≡ fill l 0 (length l) (λ k. z)
everywhere l z =
    ext_get_or (pos 0) (replicate (length l) z) (fill l 0 (length l) (λ k. z))
    (length-replicate (length l) z ∙ sym (length-fill l 0 (λ k. z) (length l)))
    (λ i h.
    let inside = rw (length-replicate (length l) z) at h in
    get_or-replicate (length l) i z (pos 0) inside ∙ sym (get_d-fill-start l (λ k. z) (length l) i (pos 0) inside inside))

pub returns : goal.returns
returns c = c.fill.ensures.after (λ y same. same) ∙ rw (back w32 c.args.number c.ranges.number.sfits) (everywhere c.args.plane.now c.args.number)
