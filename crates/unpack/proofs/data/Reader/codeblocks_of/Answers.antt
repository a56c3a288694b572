-- `unpack::data::Reader::codeblocks_of` meets its contract: each field is what a callee or the parameters say of it.
use mathlib.Core.Path.{◌≡◌, ap}
use Prim.Native.Nat.{◌+◌, ◌/◌, ◌<◌}
use native.Mathlib.Omega.{arith}
use Rattle.component.specs.Subbands.{subband_at, subband_level}
use Rattle.component.specs.declared.subbands.Subband.{Subband}
use Rattle.component.proofs.ChecksLaws.{width_most, height_most, depth_most}
use Rattle.unpack.proofs.data.Reader.codeblocks_of.Goals as goal
use Rattle.unpack.proofs.data.Reader.codeblocks_of.Goals.{After-subband_at-subband}

pub padded_size-stride-requires : goal.padded_size-stride-requires
padded_size-stride-requires c = (depth_most c.args.self.p c.args.self.checked.depth, width_most c.args.self.p c.args.self.checked.sizes)

pub padded_size-requires : goal.padded_size-requires
padded_size-requires c = (depth_most c.args.self.p c.args.self.checked.depth, height_most c.args.self.p c.args.self.checked.sizes)

pub subband_at-subband-requires : goal.subband_at-subband-requires
subband_at-subband-requires c = (depth_most c.args.self.p c.args.self.checked.depth, c.requires)

-- a level is at most 4
level-small : (c : After-subband_at-subband) → c.subband_at-subband.result.level < 5
unfolding subband_at subband_level
level-small c =
    let is : c.subband_at-subband.result.level ≡ (c.args.k + 2) / 3 = ap (λ (s : Subband). s.level) c.subband_at-subband.ensures in
    omega (arith, is, c.requires, depth_most c.args.self.p c.args.self.checked.depth)

pub offset_bounds-p-level : goal.offset_bounds-p-level
offset_bounds-p-level c = omega (arith, level-small (goal.at.offset_bounds-p-level c).After-subband_at-subband)

pub offset_bounds-p-level-2 : goal.offset_bounds-p-level-2
offset_bounds-p-level-2 c = omega (arith, level-small (goal.at.offset_bounds-p-level-2 c).After-subband_at-subband)

pub bounds-p-level : goal.bounds-p-level
bounds-p-level c = level-small (goal.at.bounds-p-level c).After-subband_at-subband

pub bounds-p-level-2 : goal.bounds-p-level-2
bounds-p-level-2 c = level-small (goal.at.bounds-p-level-2 c).After-subband_at-subband
