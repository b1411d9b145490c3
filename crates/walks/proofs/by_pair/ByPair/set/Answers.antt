use Rattle.std.proofs.Common.{ℕ, ap, ◌∙◌, rules}
use Rattle.walks.specs.Settings.{flat_rule}
use Rattle.walks.proofs.Rows.{row_set, cond_of}
use Rattle.walks.proofs.by_pair.ByPair.set.Goals as goal

pub returns-clause-table : goal.returns-clause-table
returns-clause-table c =
    λ p a l. rw c.from.ensures (rw c.from-2.ensures (ap (λ (n : ℕ). flat_rule n p a l) (row_set c.args.self.now.settings c.args.arriving c.args.leaving c.args.setting (search rules) (search rules) a l) ∙ cond_of (λ (n : ℕ). flat_rule n p a l) _ _ _))
