-- The three kinds of cost: time, strain and hand-overs.
use Rattle.std.specs.Prelude.{ℕ, ◌+◌, min, max, Bool, true, cond, nat_le}
use Rattle.walks.specs.Kinds.{Kind}

-- A kind that adds up the times of the runs and a number for each joint, and stops at the top.
abbrev pub sum_kind : (top : ℕ) → (joint : (penalty : ℕ) → (differ : Bool) → ℕ) → Kind ℕ
sum_kind top joint = record {
  start = 0;
  at_most = nat_le;
  along = λ c time strain. min (c + time) top;
  over = λ c penalty differ. min (c + joint penalty differ) top;
  fits = λ c. nat_le c top;
}

-- the largest number of 32 bits, and of 64
abbrev pub time_top : ℕ
time_top = 4294967295

abbrev pub handover_top : ℕ
handover_top = 18446744073709551615

-- what a joint of two different winches counts besides its penalty: more than any time
abbrev pub change : ℕ
change = 4294967296

abbrev pub time_joint : (penalty : ℕ) → (differ : Bool) → ℕ
time_joint penalty differ = penalty

abbrev pub handover_joint : (penalty : ℕ) → (differ : Bool) → ℕ
handover_joint penalty differ = penalty + cond differ change 0

abbrev pub time_kind : Kind ℕ
time_kind = sum_kind time_top time_joint

abbrev pub handover_kind : Kind ℕ
handover_kind = sum_kind handover_top handover_joint

-- the largest strain so far; joints count nothing
abbrev pub strain_kind : Kind ℕ
strain_kind = record {
  start = 0;
  at_most = nat_le;
  along = λ c time strain. max c strain;
  over = λ c penalty differ. c;
  fits = λ c. true;
}
