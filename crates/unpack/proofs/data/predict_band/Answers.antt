-- `unpack::data::predict_band` meets its contract: whether all values fit decides how the run goes on.
use Rattle.unpack.proofs.SubbandLaws.{band-fits, band-out}
use Rattle.unpack.proofs.data.predict_band.Goals as goal

pub returns-in-Ok : goal.returns-in-Ok
returns-in-Ok c = band-fits c.args.blocks _ _ _ c.in-Ok.ensures

pub returns-in-Err : goal.returns-in-Err
returns-in-Err c = band-out c.args.blocks _ _ _ c.in-Err.ensures
