-- Where a reader allocates: in an OCTET STRING, and nowhere else.
use Rattle.std.specs.Prelude.{◌⊎◌, ◌≡◌, ℕ, List, [], ◌∷◌}
use Rattle.std.specs.Option.{IsSome}
use Rattle.sspi_tsreq.specs.declared.place.Element.{Element}
use Rattle.sspi_tsreq.specs.declared.place.Element.TheVariants.{Optional, Required}
use Rattle.sspi_tsreq.specs.declared.place.Inner.{Inner}
use Rattle.sspi_tsreq.specs.declared.place.Inner.TheVariants.{Version, VersionNumber, TokenList}
use Rattle.sspi_tsreq.specs.declared.place.Inner.TheVariants.{TokenItem, Token, Octets, CodeNumber}
use Rattle.sspi_tsreq.specs.declared.place.Inner.TheVariants.{NonceOctets}
use Rattle.sspi_tsreq.specs.declared.place.Place.{Place}
use Rattle.sspi_tsreq.specs.declared.place.Place.TheVariants.{AtTag, InLength, InVersion, InCode}
use Rattle.sspi_tsreq.specs.declared.place.Place.TheVariants.{InText, InNonce, Whole, Faulty}
use Rattle.sspi_tsreq.specs.declared.request.TsRequest.{TsRequest}

-- no byte has this value
abbrev pub IsWithout : ℕ → List ℕ → Type 0
IsWithout value [] = Unit {0}
IsWithout value (byte ∷ rest) = (byte ≡ value → ⊥) × IsWithout value rest

-- an OCTET STRING of any length
abbrev pub IsOctetsHeader : Inner → Type 0
IsOctetsHeader Version = ⊥
IsOctetsHeader VersionNumber = ⊥
IsOctetsHeader TokenList = ⊥
IsOctetsHeader TokenItem = ⊥
IsOctetsHeader Token = ⊥
IsOctetsHeader (Octets text) = Unit {0}
IsOctetsHeader CodeNumber = ⊥
IsOctetsHeader NonceOctets = ⊥

abbrev pub IsOctetsElement : Element → Type 0
IsOctetsElement (Optional field) = ⊥
IsOctetsElement (Required inner) = IsOctetsHeader inner

-- the identifier octet of an OCTET STRING was read, but not yet all of its bytes
abbrev pub Opened : Place → Type 0
Opened (AtTag element) = ⊥
Opened (InLength element part) = IsOctetsElement element
Opened (InVersion more value) = ⊥
Opened (InCode more value) = ⊥
Opened (InText text more) = Unit {0}
Opened (InNonce have) = ⊥
Opened Whole = ⊥
Opened Faulty = ⊥

-- the request has an OCTET STRING that is copied; the nonce does not count, since it is stored in
-- the request itself
abbrev pub HasOctets : TsRequest → Type 0
HasOctets r = IsSome r.nego_tokens ⊎ (IsSome r.auth_info ⊎ IsSome r.pub_key_auth)
