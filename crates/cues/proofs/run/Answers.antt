use Rattle.std.proofs.Common.{sym}
use Rattle.std.proofs.lemmas.List.{length-take-le}
use Rattle.player.proofs.Turns.{within_listing}
use Rattle.cues.proofs.run.Goals as goal

pub slice_bounds-write_all-end : goal.slice_bounds-write_all-end
slice_bounds-write_all-end c = sym (length-take-le c.play-played.result.len c.play-played.new.listing (within_listing _ _ _ _ _ _ c.play-played.ensures))
