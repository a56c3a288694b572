-- `slices::stores::ThreePlanes::store_row` meets its contract: luma's row is copied, and a row of C1 and C2 is shared out.
use Rattle.slices.proofs.StoresLaws.{luma-row, both-row}
use Rattle.slices.proofs.stores.ThreePlanes.store_row.Goals as goal

pub returns-in-Luma-clause-stored : goal.returns-in-Luma-clause-stored
returns-in-Luma-clause-stored c = rw (c.in-Luma.is, c.copy.ensures) (luma-row _ _ _ _ _ _ _)

pub returns-in-Both-clause-stored : goal.returns-in-Both-clause-stored
returns-in-Both-clause-stored c =
    rw (c.in-Both.is, c.share.ensures.first_after, c.share.ensures.second_after) (both-row _ _ _ _ _ _ _)
