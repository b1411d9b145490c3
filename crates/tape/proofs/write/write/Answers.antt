use Rattle.std.proofs.Common.{length, ap, ◌∙◌, arith, length-append}
use Rattle.track.specs.Calls.{map_of}
use Rattle.tape.specs.Tape.{numbered}
use Rattle.tape.specs.Buffers.{run_bytes, name_bytes, put_front}
use Rattle.tape.proofs.Puts.{put_next}
use Rattle.tape.proofs.Tapes.{tape_parts, too_short, with_room, on_history}
use Rattle.tape.proofs.write.write.Goals as goal

pub returns-then-total_size-out : goal.returns-then-total_size-out
returns-then-total_size-out c =
    let m = map_of c.args.rig.now in
    let parts = tape_parts m _ _ c.runs-runs.ensures.value c.names-names.ensures.value in
    let len = simp length-append at (ap length parts) in
    let done = too_short m c.args.out.now (omega arith) in
    record { done = done; law = on_history m _ _ _ done }

pub returns : goal.returns
returns c =
    let m = map_of c.args.rig.now in
    let out = c.args.out.now in
    let rs = numbered run_bytes 0 c.runs-runs.result.now in
    let ns = numbered name_bytes 0 c.names-names.result.now in
    let parts = tape_parts m _ _ c.runs-runs.ensures.value c.names-names.ensures.value in
    let len = simp length-append at (ap length parts) in
    let left = put_next out c.put_all-len.new.out rs ns c.put_all.new.out c.put_all-len.result c.put_all-len.ensures.left c.put_all-len.ensures.len c.put_all.ensures.left in
    let done = with_room m out _ _ (omega arith) (omega arith) (left ∙ ap (put_front out) parts) in
    record { done = done; law = on_history m _ _ _ done }
