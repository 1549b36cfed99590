use Rattle.std.proofs.Common.{◌≡◌, ◌+◌, length, sym, arith}
use Rattle.sspi_tsreq.specs.Spelling.{carried, version_field}
use Rattle.sspi_tsreq.proofs.Capped.{fields_capped, version_size}
use Rattle.sspi_tsreq.proofs.sizes.fields_size.Goals as goal

pub returns : goal.returns
returns c =
    let r = carried c.args.request.now in
    let version : 2 + c.sizeof_integer-version.result ≡ length (version_field r.version) =
    rw c.sizeof_integer-version.ensures.size (sym (version_size c.args.request.now.version (omega arith))) in
    fields_capped r _ _ _ _ _ _ version c.nego_field_size-nego.ensures.capped (c.octets_field_size-auth.ensures.capped 0xA2)
    (c.octets_field_size-key.ensures.capped 0xA3)
    (rw c.carried_code.ensures at c.code_field_size-code.ensures.size)
    (rw c.carried_nonce.ensures.value at (rw c.copied.ensures at c.nonce_field_size-nonce.ensures.size))
