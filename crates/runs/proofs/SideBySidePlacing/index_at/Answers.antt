-- `runs::SideBySidePlacing::index_at` meets its contract: value i side by side goes to entry i.
use mathlib.Core.Path.{sym, ap}
use Prim.Native.Nat.{ℕ}
use Rattle.runs.proofs.RunsLaws.{side-index}
use Rattle.runs.proofs.SideBySidePlacing.index_at.Goals as goal

pub returns : goal.returns
returns c = sym (ap (λ (f : ℕ → ℕ). f c.args.i) (side-index c.args.self.count))
