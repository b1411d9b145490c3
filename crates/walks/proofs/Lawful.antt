-- The sums and the largest strain keep the laws of a kind.
use Rattle.std.proofs.Common.{ℕ, Bool, arith}
use Rattle.std.proofs.lemmas.Bool.Decides.{nat_tests}
use Rattle.walks.specs.Kinds.{Lawful}
use Rattle.walks.specs.Costs.{sum_kind, strain_kind}

pub sum_lawful : (top : ℕ) (joint : ℕ → Bool → ℕ) → Lawful (sum_kind top joint)
sum_lawful top joint = record {
  total = λ a b. grind (arith, nat_tests);
  trans = λ a b c h k. grind (arith, nat_tests);
  antisym = λ a b h k. grind (arith, nat_tests);
  start_fits = grind (arith, nat_tests);
  along_fits = λ c time strain h. grind (arith, nat_tests);
  over_fits = λ c penalty differ h. grind (arith, nat_tests);
  along_up = λ c time strain h. grind (arith, nat_tests);
  over_up = λ c penalty differ h. grind (arith, nat_tests);
  along_keeps = λ a b time strain h. grind (arith, nat_tests);
  over_keeps = λ a b penalty differ h. grind (arith, nat_tests);
}

pub strain_lawful : Lawful strain_kind
strain_lawful = record {
  total = λ a b. grind (arith, nat_tests);
  trans = λ a b c h k. grind (arith, nat_tests);
  antisym = λ a b h k. grind (arith, nat_tests);
  start_fits = grind (arith, nat_tests);
  along_fits = λ c time strain h. grind (arith, nat_tests);
  over_fits = λ c penalty differ h. grind (arith, nat_tests);
  along_up = λ c time strain h. grind (arith, nat_tests);
  over_up = λ c penalty differ h. grind (arith, nat_tests);
  along_keeps = λ a b time strain h. grind (arith, nat_tests);
  over_keeps = λ a b penalty differ h. h;
}
