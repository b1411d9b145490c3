use Rattle.std.proofs.Common.{ℕ, ap, ◌∙◌, rules}
use Rattle.walks.specs.Settings.{flat_rule}
use Rattle.walks.proofs.Rows.{place_set, cond_of}
use Rattle.walks.proofs.by_point.ByPoint.set.Goals as goal

pub returns-clause-table : goal.returns-clause-table
returns-clause-table c = λ p a l. rw c.from-point.ensures (ap (λ (n : ℕ). flat_rule n p a l) (place_set c.args.self.now.settings c.args.point c.args.setting 0 (search rules) p) ∙ cond_of (λ (n : ℕ). flat_rule n p a l) _ _ _)
