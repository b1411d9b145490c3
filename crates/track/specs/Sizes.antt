-- The numbers of the subject. They stand here and in src/run.rt, which is proved against them.
use Rattle.std.specs.Prelude.{ℕ}

-- points are numbered 0 to 127
abbrev pub points : ℕ
points = 128

-- winches are numbered 0 to 15
abbrev pub winches : ℕ
winches = 16

-- the highest strain, in percent of rated load
abbrev pub most_strain : ℕ
most_strain = 100

-- the highest time of a run, in tenths of a second
abbrev pub most_time : ℕ
most_time = 65535

-- how many runs may be laid, struck ones counted
abbrev pub most_runs : ℕ
most_runs = 256

-- how many bytes a name has
abbrev pub name_length : ℕ
name_length = 8
