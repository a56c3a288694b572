-- `filters::table::table_filters` meets its contract: the filters are document 01's, by one test of them all, which is computed.
use mathlib.Core.Path.{refl}
use Rattle.filters.specs.Filters.{deslauriers_dubuc97, le_gall53, deslauriers_dubuc137, haar_steps, haar, haar_with_shift, fidelity, daubechies97}
use Rattle.filters.specs.Table.{table_steps, listed_filter}
use Rattle.filters.proofs.TableLaws.{every_entry, filters-listed}
use Rattle.filters.proofs.table.table_filters.Goals as goal

pub returns : goal.returns
unfolding deslauriers_dubuc97 le_gall53 deslauriers_dubuc137 haar_steps haar haar_with_shift fidelity daubechies97 table_steps listed_filter every_entry
returns c = filters-listed _ refl refl
