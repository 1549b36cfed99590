-- What the calls on the buffers of a message do.
use Rattle.std.specs.Prelude.{◌≡◌, ◌≢◌, ◌≤◌, ℕ, List, ◌++◌, take, drop, length, nat_lt, cond}
use Rattle.std.specs.Prelude.{Option, None, Some, option_map}
use Rattle.sspi_types.specs.declared.buffer.SecurityBuffer.{SecurityBuffer}
use Rattle.sspi_types.specs.declared.buffer_type.BufferType.TheVariants.{Data, Token, Stream}
use Rattle.sspi_types.specs.declared.error.Error.{Error}
use Rattle.sspi_types.specs.declared.error_kind.ErrorKind.{ErrorKind}
use Rattle.sspi_types.specs.declared.error_kind.ErrorKind.TheVariants.{InvalidToken}
use Rattle.sspi_types.specs.declared.error_kind.ErrorKind.TheVariants.{InsufficientMemory}
use Rattle.sspi_mech.specs.Calls.{Call, ToSeal, ToUnseal, ToSign, ToVerify, one_sealing}
use Rattle.sspi_mech.specs.Calls.{one_unsealing, one_signing, one_verification}
use Rattle.sspi_mech.specs.Answered.{IsRefusedAs}
use Rattle.sspi_messages.specs.Buffers.{bytes_in, with_bytes, pair_of}
use Rattle.sspi_messages.specs.Protecting.{Protecting}

-- What a call asks of the context, if the buffers are suitable. The text is in Data, and Token
-- takes the tag or has the MIC.
abbrev pub to_encrypt : List SecurityBuffer → Option Call
to_encrypt message = option_map (λ pair. ToSeal pair.1)
    (pair_of (bytes_in Token message) (bytes_in Data message))

abbrev pub to_sign : List SecurityBuffer → Option Call
to_sign message = option_map (λ pair. ToSign pair.1)
    (pair_of (bytes_in Token message) (bytes_in Data message))

abbrev pub to_verify : List SecurityBuffer → Option Call
to_verify message = option_map (λ pair. ToVerify pair.0 pair.1)
    (pair_of (bytes_in Token message) (bytes_in Data message))

-- the blob: Stream's bytes, or without a Stream those of Token followed by those of Data, which
-- takes the text in either case
abbrev pub blob_of : Option (List ℕ) → Option (List ℕ) → Option (List ℕ) → Option (List ℕ)
blob_of stream token None = None
blob_of (Some stream) token (Some rest) = Some stream
blob_of None None (Some rest) = None
blob_of None (Some token) (Some rest) = Some (token ++ rest)

-- a blob begins with a tag of 16 bytes
abbrev pub if_tagged : List ℕ → Option Call
if_tagged blob = cond (nat_lt (length blob) 16) None (Some (ToUnseal blob))

abbrev pub to_open : Option (List ℕ) → Option Call
to_open None = None
to_open (Some blob) = if_tagged blob

abbrev pub blob_in : List SecurityBuffer → Option (List ℕ)
blob_in message = blob_of (bytes_in Stream message) (bytes_in Token message) (bytes_in Data message)

abbrev pub to_decrypt : List SecurityBuffer → Option Call
to_decrypt message = to_open (blob_in message)

module _ {C : Type 0} (c : Protecting C) where
  -- the kind of a refusal: InvalidToken if the buffers are unsuitable, otherwise the context's own
  abbrev pub IsRefusal : C → Option Call → ErrorKind → Type 0
  IsRefusal m None kind = kind ≡ InvalidToken
  IsRefusal m (Some call) kind = c.refuses m call kind

  -- the same if a call allocates, which it does only if the buffers are suitable
  abbrev pub IsCause : C → Option Call → ErrorKind → Type 0
  IsCause m None kind = kind ≡ InvalidToken
  IsCause m (Some call) kind = kind ≢ InsufficientMemory → c.refuses m call kind

  -- the same for a blob in one buffer, for which nothing is allocated before the context has judged
  -- it
  abbrev pub IsJudged : C → Option Call → ErrorKind → Type 0
  IsJudged m None kind = kind ≡ InvalidToken
  IsJudged m (Some call) kind = IsRefusedAs (c.permits m call) (c.refuses m call) kind

  -- a refused call leaves the context as it was
  pub record Refuses (asked : Option Call) (m : C) (error : Error) (m2 : C) : Type 0 where
    pub context : m2 ≡ m
    pub codeless : error.nstatus ≡ None
    pub cause : IsCause m asked error.error_type

  -- a text is sealed as the next message
  pub record Seals (m : C) (text blob : List ℕ) (m2 : C) : Type 0 where
    pub sealed : c.seals m2 (c.counts m).sealings text blob
    pub long : 16 ≤ length blob
    pub permitted : c.permits m (ToSeal text)
    pub context : m2 ≡ c.counted m (one_sealing (c.counts m))
    pub count : c.counts m2 ≡ one_sealing (c.counts m)

  -- the text of a message is sealed, the blob's tag left in Token and the rest in Data
  pub record Encrypts (m : C) (message : List SecurityBuffer) (m2 : C)
      (message2 : List SecurityBuffer) : Type 0 where
    pub text : List ℕ
    pub blob : List ℕ
    pub asked : to_encrypt message ≡ Some (ToSeal text)
    pub seals : Seals m text blob m2
    pub buffers : message2 ≡ with_bytes Data (drop 16 blob)
        (with_bytes Token (take 16 blob) message)

  -- a blob is opened as the peer's next message
  pub record Opens (m : C) (blob text : List ℕ) (m2 : C) : Type 0 where
    pub asked : if_tagged blob ≡ Some (ToUnseal blob)
    pub opened : c.opens m2 (c.counts m).unsealings blob text
    pub permitted : c.permits m (ToUnseal blob)
    pub context : m2 ≡ c.counted m (one_unsealing (c.counts m))
    pub count : c.counts m2 ≡ one_unsealing (c.counts m)

  -- the blob of a message is opened, and its text left in Data
  pub record Decrypts (m : C) (message : List SecurityBuffer) (m2 : C)
      (message2 : List SecurityBuffer) : Type 0 where
    pub blob : List ℕ
    pub text : List ℕ
    pub taken : blob_in message ≡ Some blob
    pub opens : Opens m blob text m2
    pub buffers : message2 ≡ with_bytes Data text message

  -- the next MIC is made of the text, and left in Token
  pub record Signs (m : C) (message : List SecurityBuffer) (m2 : C)
      (message2 : List SecurityBuffer) : Type 0 where
    pub text : List ℕ
    pub mic : List ℕ
    pub asked : to_sign message ≡ Some (ToSign text)
    pub signed : c.signs m2 (c.counts m).signings text mic
    pub permitted : c.permits m (ToSign text)
    pub context : m2 ≡ c.counted m (one_signing (c.counts m))
    pub count : c.counts m2 ≡ one_signing (c.counts m)
    pub buffers : message2 ≡ with_bytes Token mic message

  -- the peer's next MIC is that of the text
  pub record Verifies (m : C) (message : List SecurityBuffer) (m2 : C) : Type 0 where
    pub mic : List ℕ
    pub text : List ℕ
    pub asked : to_verify message ≡ Some (ToVerify mic text)
    pub verified : c.verifies m2 (c.counts m).verifications mic text
    pub permitted : c.permits m (ToVerify mic text)
    pub context : m2 ≡ c.counted m (one_verification (c.counts m))
    pub count : c.counts m2 ≡ one_verification (c.counts m)
