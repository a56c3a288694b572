-- `slices::stores::ThreePlanes::store_rows` meets its contract: at the loop's head the rows before row y are stored.
use mathlib.Core.Path.{◌≡◌}
use Prim.Native.Nat.{◌≤◌}
use Rattle.slices.specs.Stores.{planes_behind, SamePlanes, stored_rows}
use Rattle.slices.proofs.stores.ThreePlanes.store_rows.Given as goal

abbrev pub invariant-loop-y : goal.invariant-loop-y
invariant-loop-y l =
    (l.y ≤ l.area.height) × SamePlanes l.initial.self l.self
    × (planes_behind l.self ≡ stored_rows l.holder l.area l.run l.y (planes_behind l.initial.self))
