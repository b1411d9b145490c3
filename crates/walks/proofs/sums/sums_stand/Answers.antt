use Rattle.walks.proofs.Totals.{time_is_sum, strain_is_largest, handovers_are_sum}
use Rattle.walks.proofs.sums.sums_stand.Goals as goal

pub returns : goal.returns
returns c = record { time = time_is_sum; strain = strain_is_largest; handovers = handovers_are_sum }
