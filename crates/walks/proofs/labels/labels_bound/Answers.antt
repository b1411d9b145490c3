use Rattle.walks.proofs.Ways.{labels_bound}
use Rattle.walks.proofs.labels.labels_bound.Goals as goal

pub returns : goal.returns
returns g c = labels_bound (g.K.CostKind.meaning c.args.kind.now) (g.met.K.CostKind.lawful c.args.kind.now)
