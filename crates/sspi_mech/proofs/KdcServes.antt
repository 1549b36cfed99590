-- What a plain KDC replies is what a client of plain Kerberos reads.
use Rattle.std.proofs.Common.{◌≡◌, ℕ, List, ◌++◌, length, true, Ok, None, refl, arith, length-append}
use Rattle.std.specs.List.{slice_get}
use Rattle.sha2.proofs.Facts256.{length-sha256}
use Rattle.sspi_mech.specs.declared.plain_kdc.Scripted.{Scripted}
use Rattle.sspi_mech.specs.KerberosLogon.{request_at}
use Rattle.sspi_mech.specs.KerberosMessages.{as_request, tgs_request}
use Rattle.sspi_mech.specs.KerberosReplies.{first_key_in, session_key_in}
use Rattle.sspi_mech.specs.PlainKdc.{first_key, session_key, knows, told_by}
use Rattle.sspi_mech.proofs.KerberosMessages.{block_is_read}

length-first_key : (name : List ℕ) → length (first_key name) ≡ 32
unfolding first_key
length-first_key name = length-sha256 _

length-session_key : (both : List ℕ) → length (session_key both) ≡ 32
unfolding session_key
length-session_key both = length-sha256 _

pub first_is_given : (users : List (List ℕ)) (script : List Scripted) (call : ℕ) (url name : List ℕ) →
    slice_get script call ≡ None → knows users name ≡ true →
    first_key_in (told_by users script call (request_at url (as_request name))) ≡ Ok (first_key name)
first_is_given users script call url name over known =
    rw (over, known, block_is_read (first_key name) (length-first_key name)) refl

pub session_is_given : (users : List (List ℕ)) (script : List Scripted) (call : ℕ) (url key ticket : List ℕ) →
    slice_get script call ≡ None → length key ≡ 32 → length ticket ≡ 32 →
    session_key_in (told_by users script call (request_at url (tgs_request key ticket))) ≡ Ok (session_key (key ++ ticket))
session_is_given users script call url key ticket over long_key long_ticket =
    let both : length (key ++ ticket) ≡ 64 = omega (arith, length-append key ticket, long_key, long_ticket) in
    rw (over, both, block_is_read (session_key (key ++ ticket)) (length-session_key (key ++ ticket))) refl
