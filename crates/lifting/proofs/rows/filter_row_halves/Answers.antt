-- `lifting::rows::filter_row_halves` meets its contract: the buffer holds the row's halves, measured, when the steps are run on them.
use mathlib.Core.Path.{◌≡◌, ◌∙◌}
use Prim.Native.Nat.{ℕ, ◌+◌, ◌*◌, ◌<◌}
use native.Mathlib.Omega.{arith}
use lib.IntN.{pos}
use lib.ListN.{get_or}
use Rattle.lines.specs.Buffers.{interleaved}
use Rattle.filters.specs.Table.{filter_from}
use Rattle.lifting.specs.Layout.{half_index}
use Rattle.lifting.proofs.LayoutLaws.{halves-copied, halves-measured, row_told, row-run}
use Rattle.lifting.proofs.rows.filter_row_halves.Goals as goal
use Rattle.lifting.proofs.rows.filter_row_halves.Goals.{After-copy_measured-2}

pub filter_halves-requires : goal.filter_halves-requires
filter_halves-requires c =
    let within =
    halves-measured c.args.half c.args.start c.args.work.now c.args.halves.now c.copy_measured.new.plane c.copy_measured-2.new.plane c.requires.1.1 (omega arith)
    c.copy_measured.ensures.copied c.copy_measured-2.ensures.copied c.copy_measured.result c.copy_measured-2.result c.copy_measured.ensures.measured c.copy_measured-2.ensures.measured
    in record { le_half = (c.requires.1.0, c.requires.1.1, c.requires.0); halves_within = (omega (arith, c.from-low_most.ensures, c.copy_measured.type_inv), omega (arith, c.from-high_most.ensures, c.copy_measured-2.type_inv), rw (← c.from-low_most.ensures) at within.0, rw (← c.from-high_most.ensures) at within.1) }

-- the buffer holds the row's halves
copied :
    (c : After-copy_measured-2) (x : ℕ)
    → x < 2 * c.args.half
    → interleaved c.copy_measured-2.new.plane x ≡ get_or c.args.work.now (c.args.start + half_index c.args.half x) (pos 0)
copied c =
    halves-copied c.args.half c.args.start c.args.work.now c.args.halves.now c.copy_measured.new.plane c.copy_measured-2.new.plane
    c.requires.1.1 (omega arith) c.copy_measured.ensures.copied c.copy_measured-2.ensures.copied

pub returns : goal.returns
returns c =
    let steps = (filter_from c.args.filter).steps in
    let halves = c.copy_measured-2.new.plane in record {
      told = c.filter_halves.ensures.told
          ∙ row_told steps c.args.half c.args.start c.requires.1.0 c.args.work.now halves (copied (goal.at.returns c).After-copy_measured-2);
      done = λ fits x inside.
          c.filter_halves.ensures.done fits x inside
          ∙ row-run steps c.args.half c.args.start c.requires.1.0 c.args.work.now halves (copied (goal.at.returns c).After-copy_measured-2) x inside;
    }
