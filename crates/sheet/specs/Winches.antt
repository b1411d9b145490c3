-- How many winches the runs in use need.
use Rattle.std.specs.Prelude.{ℕ, Bool, not, ◌&&◌, List, count_by, ◌==◌}
use Rattle.std.specs.List.{list_any, range_with_len}
use Rattle.track.specs.declared.run.Run.{Run}
use Rattle.track.specs.Sizes.{winches}

-- some run that is not struck is hauled by this winch
abbrev pub in_use : List Run → ℕ → Bool
in_use runs winch = list_any (λ r. not r.struck && r.winch == winch) runs

-- how many winches are in use
abbrev pub winches_used : List Run → ℕ
winches_used runs = count_by (in_use runs) (range_with_len 0 winches)
