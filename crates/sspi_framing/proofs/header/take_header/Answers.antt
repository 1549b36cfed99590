use Rattle.std.proofs.Common.{◌+◌, arith, take, slice_set, refl}
use Rattle.std.proofs.lemmas.List.{length-set, length-take, take_more_set}
use Rattle.std.proofs.lemmas.Result.{err_from_is_err_and}
use Rattle.sspi_framing.proofs.Headers.{byte_taken, cut_header, five_decide, found_header, header_so_far, no_bytes, none_taken, not_empty, pushed_some, refused_header}
use Rattle.sspi_framing.proofs.Wanted.{pushed_wanted}
use Rattle.sspi_framing.proofs.header.take_header.Goals as goal

pub loop-size-init : goal.loop-size-init
loop-size-init g c = record {
  room = refl;
  taken = none_taken (g.S.Source.left c.args.source.now) _ refl;
  partial = no_bytes _ refl;
  cause = refl;
}

pub returns-else-size-eq0-clause-takes : goal.returns-else-size-eq0-clause-takes
returns-else-size-eq0-clause-takes g c =
    let next = rw c.in-None.is at c.in_ok-byte.ensures.bytes in
    let so_far = c.loop-size.invariant in
    cut_header _ _ _ _ so_far.taken next.0 next.1 so_far.partial
    (not_empty (take c.loop-size.size c.loop-size.octets) c.loop-size.size
    (omega (arith, length-take c.loop-size.size c.loop-size.octets, so_far.room)) c.if-size-eq0.false)

pub returns-in_err-size-clause-takes : goal.returns-in_err-size-clause-takes
returns-in_err-size-clause-takes g c =
    let p = err_from_is_err_and c.from_residual-in_err-size.result c.from_residual-in_err-size.ensures.1 in
    let so_far = c.loop-size.invariant in
    let pushed = take_more_set c.loop-size.octets c.loop-size.size c.in-Some.byte (omega (arith, so_far.room)) in
    rw (p.1, p.2) (refused_header _ _ _ _ _ refl c.in_err-size.ensures
    (byte_taken _ _ _ (take c.loop-size.size c.loop-size.octets) _ c.in-Some.byte so_far.taken
    (rw c.in-Some.is at c.in_ok-byte.ensures.bytes) pushed)
    (pushed_some (take c.loop-size.size c.loop-size.octets) _ c.in-Some.byte pushed)
    (pushed_wanted (take c.loop-size.size c.loop-size.octets) _ c.in-Some.byte pushed so_far.partial))

pub returns-clause-takes : goal.returns-clause-takes
returns-clause-takes g c =
    absurd (five_decide (take c.loop-size.size c.loop-size.octets)
    (omega (arith, length-take c.loop-size.size c.loop-size.octets, c.loop-size.invariant.room)) c.loop-size.invariant.partial)

pub returns-in-Some-2-clause-takes : goal.returns-in-Some-2-clause-takes
returns-in-Some-2-clause-takes g c =
    let so_far = c.loop-size.invariant in
    found_header _ _ _ (take c.loop-size.size c.loop-size.octets) _ c.in-Some.byte
    (record {
      octets = slice_set c.loop-size.octets c.loop-size.size c.in-Some.byte;
      count = c.loop-size.size + 1;
      size = c.in-Some-2.size;
    }) _ so_far.taken
    (rw c.in-Some.is at c.in_ok-byte.ensures.bytes) so_far.partial
    (take_more_set c.loop-size.octets c.loop-size.size c.in-Some.byte (omega (arith, so_far.room)))
    (omega (arith, so_far.room, length-set c.loop-size.octets c.loop-size.size c.in-Some.byte)) refl c.in-Some-2.is c.in_ok-size.ensures

pub returns-in_err-byte-clause-takes : goal.returns-in_err-byte-clause-takes
returns-in_err-byte-clause-takes g c =
    let p = err_from_is_err_and c.from_residual.result c.from_residual.ensures.1 in
    rw (p.1, p.2) (header_so_far _ _ _ _ c.loop-size.invariant.taken c.in_err-byte.ensures.bytes c.loop-size.invariant.partial)
