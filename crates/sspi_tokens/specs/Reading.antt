-- The tokens as read from left to right: the grammar as functions.
use Rattle.std.specs.Prelude.{ℕ, Bool, false, ◌==◌, List, [], ◌∷◌, length, Option, None, Some, Ok}
use Rattle.std.specs.Prelude.{Err, if◌then◌else◌}
use Rattle.std.specs.Str.{bytes_eq}
use Prim.Native.Nat.{zero, suc}
use Rattle.sspi_ber.specs.Pieces.{Invalid, Read, ◌>>=◌, element_at}
use Rattle.sspi_tokens.specs.Oids.{spnego}
use Rattle.sspi_tokens.specs.Grammar.{result_of}
use Rattle.sspi_tokens.specs.declared.neg_result.NegResult.{NegResult}
use Rattle.sspi_tokens.specs.declared.neg_token_init.NegTokenInit.{NegTokenInit}
use Rattle.sspi_tokens.specs.declared.neg_token_targ.NegTokenTarg.{NegTokenTarg}

-- whether this tag comes next
abbrev pub is_next : ℕ → List ℕ → Bool
is_next tag [] = false
is_next tag (byte ∷ rest) = byte == tag

-- an element, and what inner reads from its content
unfoldable pub around_at : {A : Type 0} → ℕ → (List ℕ → Read A) → List ℕ → Read A
around_at tag inner bytes = do
  content ← element_at tag bytes
  x ← inner content.0
  Ok (x.0, content.1)

-- what element reads, if this tag comes next
unfoldable pub optional_at : {A : Type 0} → ℕ → (List ℕ → Read A) → List ℕ → Read (Option A)
optional_at tag element bytes = if is_next tag bytes
    then (element bytes >>= λ x. Ok (Some x.0, x.1)) else Ok (None, bytes)

-- at most this number of object identifiers
abbrev pub oids_up_to : ℕ → List ℕ → Read (List (List ℕ))
oids_up_to zero bytes = Ok ([], bytes)
oids_up_to (suc most) bytes =
    if is_next 0x06 bytes
    then (element_at 0x06 bytes >>= λ oid. oids_up_to most oid.1 >>= λ oids. Ok
    (oid.0 ∷ oids.0, oids.1))
    else Ok ([], bytes)

-- each takes at least one byte
unfoldable pub oids_at : List ℕ → Read (List (List ℕ))
oids_at bytes = oids_up_to (length bytes) bytes

abbrev pub mech_types_at : List ℕ → Read (List (List ℕ))
mech_types_at = around_at 0x30 oids_at

abbrev pub octets_at : ℕ → List ℕ → Read (Option (List ℕ))
octets_at tag = optional_at tag (around_at tag (element_at 0x04))

unfoldable pub init_fields_at : List ℕ → Read NegTokenInit
init_fields_at bytes = do
  mech_types ← optional_at 0xA0 (around_at 0xA0 mech_types_at) bytes
  flags ← optional_at 0xA1 (element_at 0xA1) mech_types.1
  mech_token ← octets_at 0xA2 flags.1
  hints ← optional_at 0xA3 (element_at 0xA3) mech_token.1
  Ok (record { mech_types = mech_types.0; mech_token = mech_token.0 }, hints.1)

unfoldable pub init_content_at : List ℕ → Read NegTokenInit
init_content_at bytes = do
  mech ← element_at 0x06 bytes
  if bytes_eq mech.0 spnego then around_at 0xA0 (around_at 0x30 init_fields_at) mech.1
      else Err Invalid

unfoldable pub init_at : List ℕ → Read NegTokenInit
init_at bytes = around_at 0x60 init_content_at bytes

unfoldable pub result_at : List ℕ → Read NegResult
result_at bytes = do
  content ← element_at 0x0A bytes
  Ok (result_of content.0, content.1)

unfoldable pub targ_fields_at : List ℕ → Read NegTokenTarg
targ_fields_at bytes = do
  neg_result ← optional_at 0xA0 (around_at 0xA0 result_at) bytes
  supported_mech ← optional_at 0xA1 (around_at 0xA1 (element_at 0x06)) neg_result.1
  response_token ← octets_at 0xA2 supported_mech.1
  mech_list_mic ← octets_at 0xA3 response_token.1
  Ok (
    record {
      neg_result = neg_result.0;
      supported_mech = supported_mech.0;
      response_token = response_token.0;
      mech_list_mic = mech_list_mic.0;
    },
    mech_list_mic.1,
  )

unfoldable pub targ_at : List ℕ → Read NegTokenTarg
targ_at bytes = around_at 0xA1 (around_at 0x30 targ_fields_at) bytes

abbrev pub value_of : {A : Type 0} → Read A → Option A
value_of (Ok x) = Some x.0
value_of (Err fault) = None

-- the token that the bytes begin with, if there is one
abbrev pub init_of : List ℕ → Option NegTokenInit
init_of bytes = value_of (init_at bytes)

abbrev pub targ_of : List ℕ → Option NegTokenTarg
targ_of bytes = value_of (targ_at bytes)
