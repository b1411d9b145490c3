-- What a run and a name may be.
use Rattle.std.specs.Prelude.{ℕ, Bool, false, not, ◌&&◌, List, length, replicate, ◌==◌, nat_le, nat_lt}
use Rattle.std.specs.List.{list_all}
use Rattle.track.specs.declared.run.Run.{Run}
use Rattle.track.specs.Sizes.{points, winches, most_strain, most_time, name_length}

-- the run's numbers are in range, and it goes to another point
abbrev pub run_ok : Run → Bool
run_ok r =
    nat_lt r.tail points
    && (nat_lt r.head points
    && (not (r.tail == r.head)
    && (nat_lt r.winch winches
    && (nat_le r.strain most_strain
    && nat_le r.time most_time))))

-- what stands where no run was laid
abbrev pub idle : Run
idle = record { tail = 0; head = 0; winch = 0; time = 0; strain = 0; struck = false }

-- a byte that a name may have: a printed character of ASCII, or a space
abbrev pub plain : ℕ → Bool
plain b = nat_le 32 b && nat_le b 126

abbrev pub all_plain : List ℕ → Bool
all_plain = list_all plain

-- a name: eight such bytes
abbrev pub name_ok : List ℕ → Bool
name_ok t = length t == name_length && all_plain t

-- the name of a point that was not named: eight spaces
abbrev pub no_name : List ℕ
no_name = replicate name_length 32
