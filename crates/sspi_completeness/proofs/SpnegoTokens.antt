-- The tokens of a negotiation of matching ends: each is short, is written, and is read again.
use Rattle.std.proofs.Common.{◌≡◌, ◌≢◌, ℕ, ◌+◌, ◌≤◌, Bool, true, false, List, [], ◌∷◌, ◌++◌, length, Option, None, Some, sym, option_map}
use Rattle.std.proofs.Common.{arith}
use Rattle.std.proofs.lemmas.List.{append-nil, length-take-le}
use Rattle.std.specs.Int.{w64, to_le_bytes}
use Rattle.sha2.proofs.Facts256.{length-sha256}
use Rattle.sspi_ber.specs.Short.{element, header, len_short, element_size}
use Rattle.sspi_ber.proofs.Written.{length-element, size_below}
use Rattle.sspi_mech.specs.declared.protection.Direction.{Direction}
use Rattle.sspi_mech.specs.KerberosMessages.{ticket_request}
use Rattle.sspi_mech.specs.NtlmMessages.{negotiate_message}
use Rattle.sspi_mech.specs.Protection.{direction_byte, mic_label, mic_of}
use Rattle.sspi_tokens.specs.declared.neg_result.NegResult.{NegResult}
use Rattle.sspi_tokens.specs.declared.neg_token_init.NegTokenInit.{NegTokenInit}
use Rattle.sspi_tokens.specs.declared.neg_token_targ.NegTokenTarg.{NegTokenTarg}
use Rattle.sspi_tokens.specs.Grammar.{IsInit, IsTarg}
use Rattle.sspi_tokens.specs.Reading.{init_of, targ_of, init_at, targ_at}
use Rattle.sspi_tokens.specs.Spelling.{field, oids_text, mech_types_text, init_fields, init_content, result_text, targ_fields}
use Rattle.sspi_tokens.specs.Spelling.{targ_content, spelled_list, spelled_init, spelled_targ}
use Rattle.sspi_tokens.proofs.Encode.{whole_some}
use Rattle.sspi_tokens.proofs.GrammarMatch.{of_begins, init_match, targ_match}
use Rattle.sspi_tokens.proofs.Lengths.{length-octets, length-oid, length-result, length-targ_fields, length-targ_content}
use Rattle.sspi_tokens.proofs.ReadBack.{init_short, targ_short}
use Rattle.sspi_negotiate.specs.declared.protocol.Protocol.{Protocol}
use Rattle.sspi_negotiate.specs.declared.protocol.Protocol.TheVariants.{Ntlm, Kerberos}
use Rattle.sspi_negotiate.specs.Pick.{offered}
use Rattle.sspi_completeness.proofs.Lengths.{size_of}

-- ---- the list of mechanisms

-- the offer of a client that begins with this mechanism, and may use NTLM or not
abbrev pub offer : Protocol → Bool → List (List ℕ)
offer protocol ntlm = offered protocol (record { ntlm = ntlm; kerberos = false })

abbrev pub list_text : Protocol → Bool → List ℕ
list_text protocol ntlm = element 0x30 (oids_text (offer protocol ntlm))

list_short : (protocol : Protocol) (ntlm : Bool) → length (oids_text (offer protocol ntlm)) ≤ 34
unfolding oids_text element header len_short
list_short Ntlm true = omega arith
list_short Ntlm false = omega arith
list_short Kerberos true = omega arith
list_short Kerberos false = omega arith

pub list_spelled : (protocol : Protocol) (ntlm : Bool) → spelled_list (offer protocol ntlm) ≡ Some (list_text protocol ntlm)
list_spelled protocol ntlm =
    let s = list_short protocol ntlm in whole_some 0x30 (oids_text (offer protocol ntlm)) (omega (arith, s))

-- ---- the client's first token

abbrev pub first_token : Protocol → List ℕ
first_token Ntlm = negotiate_message
first_token Kerberos = ticket_request

abbrev pub first_init : Protocol → Bool → NegTokenInit
first_init protocol ntlm = record { mech_types = Some (offer protocol ntlm); mech_token = Some (first_token protocol) }

abbrev pub init_text : Protocol → Bool → List ℕ
init_text protocol ntlm = element 0x60 (init_content (first_init protocol ntlm))

init_few : (protocol : Protocol) (ntlm : Bool) → length (init_content (first_init protocol ntlm)) ≤ 60
unfolding init_content init_fields field mech_types_text oids_text element header len_short
init_few Ntlm true = omega arith
init_few Ntlm false = omega arith
init_few Kerberos true = omega arith
init_few Kerberos false = omega arith

pub init_spelled : (protocol : Protocol) (ntlm : Bool) → spelled_init (first_init protocol ntlm) ≡ Some (init_text protocol ntlm)
init_spelled protocol ntlm =
    let s = init_few protocol ntlm in whole_some 0x60 (init_content (first_init protocol ntlm)) (omega (arith, s))

pub init_is : (protocol : Protocol) (ntlm : Bool) → init_of (init_text protocol ntlm) ≡ Some (first_init protocol ntlm)
init_is protocol ntlm =
    let s = init_few protocol ntlm in
    of_begins init_at IsInit init_match (init_text protocol ntlm) (first_init protocol ntlm)
    (record {
      text = init_text protocol ntlm;
      rest = [];
      parts = sym (append-nil (init_text protocol ntlm));
      form = init_short (first_init protocol ntlm) [] (omega (arith, s));
    })

pub init_text_short : (protocol : Protocol) (ntlm : Bool) → length (init_text protocol ntlm) ≤ 65536
init_text_short protocol ntlm =
    let e = length-element 0x60 (init_content (first_init protocol ntlm)) in
    let b = size_below (length (init_content (first_init protocol ntlm))) in
    let s = init_few protocol ntlm in
    omega (arith, e, b, s)

-- ---- the tokens that follow

abbrev pub targ_text : NegTokenTarg → List ℕ
targ_text t = element 0xA1 (targ_content t)

octets_size : (tag : ℕ) (o : Option (List ℕ)) → length (field tag (option_map (element 0x04) o)) ≤ size_of o + 10
octets_size tag None = let e = length-octets tag None in omega (arith, e)
octets_size tag (Some x) =
    let e = length-octets tag (Some x) in
    let a = size_below (element_size (length x)) in
    let b = size_below (length x) in
    omega (arith, e, a, b)

oid_size : (o : Option (List ℕ)) → length (field 0xA1 (option_map (element 0x06) o)) ≤ size_of o + 10
oid_size None = let e = length-oid None in omega (arith, e)
oid_size (Some x) =
    let e = length-oid (Some x) in
    let a = size_below (element_size (length x)) in
    let b = size_below (length x) in
    omega (arith, e, a, b)

result_size : (o : Option NegResult) → length (field 0xA0 (option_map result_text o)) ≤ 5
result_size None = let e = length-result None in omega (arith, e)
result_size (Some x) = let e = length-result (Some x) in omega (arith, e)

-- the parts of such a token are short together
abbrev pub IsLittle : NegTokenTarg → Type 0
IsLittle t = size_of t.supported_mech + size_of t.response_token + size_of t.mech_list_mic ≤ 60000

content_short : (t : NegTokenTarg) → IsLittle t → length (targ_content t) ≤ 60040
content_short t little =
    let whole = length-targ_content t in
    let fields = length-targ_fields t in
    let around = size_below (length (targ_fields t)) in
    let result = result_size t.neg_result in
    let mech = oid_size t.supported_mech in
    let response = octets_size 0xA2 t.response_token in
    let mic = octets_size 0xA3 t.mech_list_mic in
    omega (arith, whole, fields, around, result, mech, response, mic, little)

pub targ_spelled : (t : NegTokenTarg) → IsLittle t → spelled_targ t ≡ Some (targ_text t)
targ_spelled t little = let s = content_short t little in whole_some 0xA1 (targ_content t) (omega (arith, s))

pub targ_is : (t : NegTokenTarg) → IsLittle t → targ_of (targ_text t) ≡ Some t
targ_is t little =
    let s = content_short t little in
    of_begins targ_at IsTarg targ_match (targ_text t) t
    (record { text = targ_text t; rest = []; parts = sym (append-nil (targ_text t)); form = targ_short t [] (omega (arith, s)) })

pub targ_text_short : (t : NegTokenTarg) → IsLittle t → length (targ_text t) ≤ 65536
targ_text_short t little =
    let s = content_short t little in
    let e = length-element 0xA1 (targ_content t) in
    let b = size_below (length (targ_content t)) in
    omega (arith, s, e, b)

pub targ_text_speaks : (t : NegTokenTarg) → targ_text t ≢ []
unfolding element header
targ_text_speaks t = λ empty. absurd (cc (empty))

pub mic_length : (key : List ℕ) (direction : Direction) (n : ℕ) (text : List ℕ) → length (mic_of key direction n text) ≡ 16
unfolding mic_of
mic_length key direction n text =
    let whole = length-sha256 (mic_label ++ key ++ (direction_byte direction ∷ []) ++ to_le_bytes w64 n ++ text) in
    length-take-le 16 _ (omega (arith, whole))
