-- Where runs lead. For inner functions; no public contract speaks of it.
use Rattle.std.specs.Prelude.{ℕ, ◌<◌, List, length, slice_index_or}
use Rattle.track.specs.declared.run.Run.{Run}
use Rattle.track.specs.Runs.{idle}

-- every run leads to one of the points below n
abbrev pub HeadsBelow : List Run → (n : ℕ) → Type 0
HeadsBelow m n = (r : ℕ) → r < length m → (slice_index_or m r idle).head < n
