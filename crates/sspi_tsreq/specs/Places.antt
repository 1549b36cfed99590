-- What a reader that is fed pieces answers from each place of the grammar, if these bytes still
-- come.
use Rattle.std.specs.Prelude.{ℕ, ◌+◌, ◌-◌, ◌*◌, ◌%◌, ◌^◌, nat_lt, nat_le, ◌==◌, List, [], ◌++◌}
use Rattle.std.specs.Prelude.{take, fold, Option}
use Rattle.std.specs.Prelude.{None, Some, Result, Ok, Err, if◌then◌else◌}
use Rattle.sspi_ber.specs.Pieces.{Fault, Invalid, Read, ◌>>=◌, bytes_at, number_at, length_at}
use Rattle.sspi_ber.specs.Pieces.{tagged_at}
use Rattle.sspi_ber.specs.Forms.{is_integer_size, max_content}
use Rattle.sspi_tsreq.specs.declared.request.TsRequest.{TsRequest}
use Rattle.sspi_tsreq.specs.declared.place.LengthPart.{LengthPart}
use Rattle.sspi_tsreq.specs.declared.place.LengthPart.TheVariants.{First, Three, Two, One}
use Rattle.sspi_tsreq.specs.declared.place.Text.{Text}
use Rattle.sspi_tsreq.specs.declared.place.Text.TheVariants.{NegoTokens, AuthInfo, PubKeyAuth}
use Rattle.sspi_tsreq.specs.declared.place.Element.{Element}
use Rattle.sspi_tsreq.specs.declared.place.Element.TheVariants.{Optional, Required}
use Rattle.sspi_tsreq.specs.declared.place.Field.TheVariants.{Nego, Auth, Key, Code, Nonce}
use Rattle.sspi_tsreq.specs.declared.place.Inner.TheVariants.{Version, VersionNumber, TokenList}
use Rattle.sspi_tsreq.specs.declared.place.Inner.TheVariants.{TokenItem, Token, Octets, CodeNumber}
use Rattle.sspi_tsreq.specs.declared.place.Inner.TheVariants.{NonceOctets}
use Rattle.sspi_tsreq.specs.declared.place.Place.{Place}
use Rattle.sspi_tsreq.specs.declared.place.Place.TheVariants.{AtTag, InLength, InVersion, InCode}
use Rattle.sspi_tsreq.specs.declared.place.Place.TheVariants.{InText, InNonce, Whole, Faulty}
use Rattle.sspi_tsreq.specs.Grammar.{bare}
use Rattle.sspi_tsreq.specs.Reading.{low_at, octets_at, nonce_at, after_code, after_key, after_auth}
use Rattle.sspi_tsreq.specs.Reading.{after_nego, after_version, body_at}

-- ---- numbers, of which some octets were read

-- a length, after octets with this value
unfoldable pub limited_from : ℕ → ℕ → List ℕ → Read ℕ
limited_from value count bytes = do
  octets ← bytes_at count bytes
  if nat_le (fold (λ high byte. high * 256 + byte) value octets.0) max_content then Ok
      (fold (λ high byte. high * 256 + byte) value octets.0, octets.1) else Err Invalid

abbrev pub length_rest : LengthPart → List ℕ → Read ℕ
length_rest First bytes = length_at bytes
length_rest Three bytes = limited_from 0 3 bytes
length_rest (Two value) bytes = limited_from value 2 bytes
length_rest (One value) bytes = limited_from value 1 bytes

-- the low 32 bits of a number, after bytes with this value
unfoldable pub low_from : ℕ → ℕ → List ℕ → Read ℕ
low_from value count bytes = do
  content ← bytes_at count bytes
  Ok (fold (λ high byte. (high * 256 + byte) % 2 ^ 32) value content.0, content.1)

-- ---- what follows a piece that was read

abbrev pub text_then : Text → TsRequest → List ℕ × List ℕ → Read TsRequest
text_then NegoTokens r text = after_nego (record r { nego_tokens = Some text.0 }) text.1
text_then AuthInfo r text = after_auth (record r { auth_info = Some text.0 }) text.1
text_then PubKeyAuth r text = after_key (record r { pub_key_auth = Some text.0 }) text.1

abbrev pub version_then : ℕ × List ℕ → Read TsRequest
version_then low = after_version (bare low.0) low.1

abbrev pub code_then : TsRequest → ℕ × List ℕ → Read TsRequest
code_then r low = after_code (record r { error_code = Some (record { 0 = low.0 }) }) low.1

abbrev pub nonce_then : TsRequest → List ℕ × List ℕ → Read TsRequest
nonce_then r nonce = Ok (record r { client_nonce = Some nonce.0 }, nonce.1)

-- a number of n bytes
abbrev pub sized_low : ℕ → List ℕ → Read ℕ
sized_low n bytes = (if is_integer_size n then number_at n bytes else Err Invalid) >>= λ w. Ok
    (w.0 % 2 ^ 32, w.1)

-- after the length n of an element
abbrev pub behind : Element → TsRequest → ℕ → List ℕ → Read TsRequest
behind (Required Version) r n bytes = low_at bytes >>= version_then
behind (Required VersionNumber) r n bytes = sized_low n bytes >>= version_then
behind (Optional Nego) r n bytes = tagged_at 0x30 (tagged_at 0x30 (tagged_at 0xA0 octets_at)) bytes
    >>= text_then NegoTokens r
behind (Required TokenList) r n bytes = tagged_at 0x30 (tagged_at 0xA0 octets_at) bytes >>=
    text_then NegoTokens r
behind (Required TokenItem) r n bytes = tagged_at 0xA0 octets_at bytes >>= text_then NegoTokens r
behind (Required Token) r n bytes = octets_at bytes >>= text_then NegoTokens r
behind (Required (Octets text)) r n bytes = bytes_at n bytes >>= text_then text r
behind (Optional Auth) r n bytes = octets_at bytes >>= text_then AuthInfo r
behind (Optional Key) r n bytes = octets_at bytes >>= text_then PubKeyAuth r
behind (Optional Code) r n bytes = low_at bytes >>= code_then r
behind (Required CodeNumber) r n bytes = sized_low n bytes >>= code_then r
behind (Optional Nonce) r n bytes = nonce_at bytes >>= nonce_then r
behind (Required NonceOctets) r n bytes = (if n == 32 then bytes_at n bytes
    else Err Invalid) >>= nonce_then r

-- from the identifier octet of an element on
abbrev pub from_tag : Element → TsRequest → List ℕ → Read TsRequest
from_tag (Required Version) r bytes = body_at bytes
from_tag (Required VersionNumber) r bytes = behind (Required Version) r 0 bytes
from_tag (Optional Nego) r bytes = after_version r bytes
from_tag (Required TokenList) r bytes = behind (Optional Nego) r 0 bytes
from_tag (Required TokenItem) r bytes = behind (Required TokenList) r 0 bytes
from_tag (Required Token) r bytes = behind (Required TokenItem) r 0 bytes
from_tag (Required (Octets NegoTokens)) r bytes = behind (Required Token) r 0 bytes
from_tag (Required (Octets AuthInfo)) r bytes = behind (Optional Auth) r 0 bytes
from_tag (Required (Octets PubKeyAuth)) r bytes = behind (Optional Key) r 0 bytes
from_tag (Optional Auth) r bytes = after_nego r bytes
from_tag (Optional Key) r bytes = after_auth r bytes
from_tag (Optional Code) r bytes = after_key r bytes
from_tag (Required CodeNumber) r bytes = behind (Optional Code) r 0 bytes
from_tag (Optional Nonce) r bytes = after_code r bytes
from_tag (Required NonceOctets) r bytes = behind (Optional Nonce) r 0 bytes

-- the bytes of a field so far
abbrev pub octets_of : Option (List ℕ) → List ℕ
octets_of None = []
octets_of (Some octets) = octets

abbrev pub text_of : Text → TsRequest → List ℕ
text_of NegoTokens r = octets_of r.nego_tokens
text_of AuthInfo r = octets_of r.auth_info
text_of PubKeyAuth r = octets_of r.pub_key_auth

-- further bytes of a field, after those that it has
abbrev pub text_more : Text → TsRequest → List ℕ × List ℕ → Read TsRequest
text_more text r rest = text_then text r (text_of text r ++ rest.0, rest.1)

-- the whole nonce, of which `have` bytes are already in `nonce`
abbrev pub nonce_rest : List ℕ → ℕ → List ℕ → Read (List ℕ)
nonce_rest nonce have bytes = if nat_lt have 32
    then (bytes_at (32 - have) bytes >>= λ rest. Ok (take have nonce ++ rest.0, rest.1)) else
    Err Invalid

-- the pieces of which some bytes were read, and what follows them
abbrev pub length_from : Element → LengthPart → TsRequest → List ℕ → Read TsRequest
length_from element part r bytes = length_rest part bytes >>= λ n. behind element r n.0 n.1

abbrev pub version_from : ℕ → ℕ → List ℕ → Read TsRequest
version_from more value bytes = low_from value (more + 1) bytes >>= version_then

abbrev pub code_from : ℕ → ℕ → TsRequest → List ℕ → Read TsRequest
code_from more value r bytes = low_from value (more + 1) bytes >>= code_then r

abbrev pub text_left : Text → ℕ → TsRequest → List ℕ → Read TsRequest
text_left text len r bytes = bytes_at len bytes >>= text_more text r

abbrev pub text_from : Text → ℕ → TsRequest → List ℕ → Read TsRequest
text_from text more r bytes = text_left text (more + 1) r bytes

abbrev pub nonce_from : List ℕ → ℕ → TsRequest → List ℕ → Read TsRequest
nonce_from nonce have r bytes = nonce_rest nonce have bytes >>= nonce_then r

abbrev pub rest_at : List ℕ → Place → TsRequest → List ℕ → Read TsRequest
rest_at nonce (AtTag element) r bytes = from_tag element r bytes
rest_at nonce (InLength element part) r bytes = length_from element part r bytes
rest_at nonce (InVersion more value) r bytes = version_from more value bytes
rest_at nonce (InCode more value) r bytes = code_from more value r bytes
rest_at nonce (InText text more) r bytes = text_from text more r bytes
rest_at nonce (InNonce have) r bytes = nonce_from nonce have r bytes
rest_at nonce Whole r bytes = Ok (r, [])
rest_at nonce Faulty r bytes = Err Invalid

-- the value alone
abbrev pub answered : Read TsRequest → Result TsRequest Fault
answered (Ok read) = Ok read.0
answered (Err fault) = Err fault
