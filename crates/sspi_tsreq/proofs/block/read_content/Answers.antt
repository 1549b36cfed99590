use Rattle.std.proofs.Common.{◌≡◌, ◌∙◌, ◌++◌, length, take, drop, ap, arith}
use Rattle.std.proofs.lemmas.List.{length-append, length-take-le, length-drop}
use Rattle.std.proofs.lemmas.Result.{err_from_is_err_and}
use Rattle.sspi_tsreq.proofs.Contents.{copied_step, copied_rest, copied_stopped, copied_whole, copied_wants}
use Rattle.sspi_tsreq.proofs.block.read_content.Goals as goal

pub returns-in_err-read_block-clause-read : goal.returns-in_err-read_block-clause-read
returns-in_err-read_block-clause-read g c =
    let size = length-take-le c.piece_length.result c.loop-room.room
    (omega (arith, c.loop-room.invariant.room, c.piece_length.ensures.room)) in
    let p = err_from_is_err_and c.from_residual.result c.from_residual.ensures.1 in
    rw (p.1, p.2)
    (copied_stopped _ _ _ c.loop-room.content.items _ c.args.len _ c.loop-room.invariant.copied
    (omega (arith, size, c.piece_length.ensures.within)) c.in_err-read_block.ensures.read)

pub returns-in_err-read_block-clause-rest : goal.returns-in_err-read_block-clause-rest
returns-in_err-read_block-clause-rest g c = copied_rest _ _ _ c.loop-room.content.items c.loop-room.invariant.copied
    c.read_block.ensures.rest

pub loop-room-preserved : goal.loop-room-preserved
loop-room-preserved g c =
    let size = length-take-le c.piece_length.result c.loop-room.room
    (omega (arith, c.loop-room.invariant.room, c.piece_length.ensures.room)) in
    let filled : length c.read_block.new.into ≡ c.piece_length.result = omega (arith, c.read_block.auto.into, size) in
    let more : length c.extend_from_slice.new.self.items ≡ length (c.loop-room.content.items ++ c.read_block.new.into) =
    ap length c.in_ok-extend_from_slice.ensures.items in
    record {
      copied = rw c.in_ok-extend_from_slice.ensures.items (copied_step _ _ _ c.loop-room.content.items c.read_block.new.into _
          c.loop-room.invariant.copied c.in_ok-read_block.ensures.read);
      within = omega (arith, more, length-append c.loop-room.content.items c.read_block.new.into, filled, c.piece_length.ensures.within);
      room = omega (
        arith,
        length-append c.read_block.new.into (drop c.piece_length.result c.loop-room.room),
        length-drop c.piece_length.result c.loop-room.room,
        filled,
        c.loop-room.invariant.room,
        c.piece_length.ensures.room,
      );
      cause = c.in_ok-read_block.ensures.cause ∙ c.loop-room.invariant.cause;
    }

pub returns-in_err-extend_from_slice-clause-memory : goal.returns-in_err-extend_from_slice-clause-memory
returns-in_err-extend_from_slice-clause-memory g c =
    let size = length-take-le c.piece_length.result c.loop-room.room
    (omega (arith, c.loop-room.invariant.room, c.piece_length.ensures.room)) in
    let p = err_from_is_err_and c.from_residual-in_err-extend_from_slice.result c.from_residual-in_err-extend_from_slice.ensures.1 in
    rw (p.1, p.2)
    (copied_wants _ _ _ _ c.loop-room.content.items c.read_block.new.into
    (length (take c.piece_length.result c.loop-room.room)) _ c.loop-room.invariant.copied
    (omega (arith, size, c.piece_length.ensures.some)) c.read_block.auto.into
    c.in_ok-read_block.ensures.read)

pub returns-in_err-extend_from_slice-clause-rest : goal.returns-in_err-extend_from_slice-clause-rest
returns-in_err-extend_from_slice-clause-rest g c = copied_rest _ _ _ c.loop-room.content.items c.loop-room.invariant.copied
    c.read_block.ensures.rest

pub returns-clause-read : goal.returns-clause-read
returns-clause-read g c = copied_whole _ _ c.loop-room.content c.args.len c.loop-room.invariant.copied
    (omega (arith, c.loop-room.invariant.within))
