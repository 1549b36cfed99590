use Rattle.std.proofs.Common.{◌≡◌, ◌∙◌, Some, position, ap, inl}
use Rattle.std.specs.Vec.{with_item}
use Rattle.sspi_types.specs.Buffers.{has_type}
use Rattle.sspi_types.proofs.Places.{found_at, place_of_first}
use Rattle.sspi_types.proofs.buffer.SecurityBuffer.find_buffer_mut.Goals as goal

pub returns-in-Some : goal.returns-in-Some
returns-in-Some c =
    let at : Some c.in-Some.place ≡ position (has_type c.args.buffer_type) c.args.buffers.now.items =
    c.in-Some.ensures ∙ ap (position (has_type c.args.buffer_type)) c.deref.ensures.value in
    let first = place_of_first (has_type c.args.buffer_type) c.args.buffers.now.items c.in-Some.place at in
    let found = found_at (has_type c.args.buffer_type) c.args.buffers.now.items c.in-Some.place c.index_mut.result.now at in (
      ap (λ n. inl (c.index_mut.result.ghost_name, with_item c.args.buffers.now n)) first,
      record { writes_back = tt; found = found c.index_mut.ensures.value; missing = tt },
    )
