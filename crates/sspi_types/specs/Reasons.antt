-- The text of each reason of a refusal.
use Rattle.std.specs.Prelude.{ℕ, List, codes}
use Rattle.sspi_types.specs.declared.reason.Reason.{Reason}
use Rattle.sspi_types.specs.declared.reason.Reason.TheVariants.{
  ErrorStatus,
  PeerVersion,
  OldPeer,
  NoPubKey,
  NoAuthInfo,
  NoNonce,
  ShortBlob,
  EmptyToken,
  EchoDiffers,
  HashDiffers,
  Sequence,
  NoVersion,
  Status,
  TooLong,
  CredType,
  SmartCard,
  Keytab,
  NoAuthData,
  NoPackage,
  Disabled,
  MechUnknown,
  NoSharedMech,
  NoMechTypes,
  NegResult,
  NoMic,
  NoIdentity,
  NoCandidate,
  NotPassword,
  Proxy,
  TokenForm,
  NoBuffer,
  Number,
  Utf,
  UserName,
  Proof,
  Tag,
  Kdc,
  Spent,
  Unsupported,
  Package,
  Io,
  Memory,
  Mechanism,
}

-- the text of each reason
abbrev pub reason_text : Reason → List ℕ
reason_text ErrorStatus = codes "CredSSP server returned an error status"
reason_text PeerVersion = codes "CredSSP peer changed protocol version"
reason_text OldPeer = codes "the peer's version is below the least accepted"
reason_text NoPubKey = codes "expected an encrypted public key"
reason_text NoAuthInfo = codes "expected an encrypted ts credentials"
reason_text NoNonce = codes "client nonce is empty, but a peer version is >= 5"
reason_text ShortBlob = codes "sealed bytes are shorter than 16"
reason_text EmptyToken = codes "the security package returned an empty token"
reason_text EchoDiffers = codes "could not verify a public key echo"
reason_text HashDiffers = codes "could not verify a public key hash"
reason_text Sequence = codes "call out of sequence"
reason_text NoVersion = codes "the context ended before any request came"
reason_text Status = codes "unexpected status"
reason_text TooLong = codes "a length passes the limit"
reason_text CredType = codes "invalid TsCredentials"
reason_text SmartCard = codes "smart card credentials are not supported"
reason_text Keytab = codes "keytab credentials are not supported"
reason_text NoAuthData = codes "the client must specify the auth data"
reason_text NoPackage = codes "all security packages are disabled or invalid"
reason_text Disabled = codes "the protocol is disabled in package_list"
reason_text MechUnknown = codes "unsupported mech_type"
reason_text NoSharedMech = codes "no supported authentication protocols found in mech list"
reason_text NoMechTypes = codes "mech_types is missing"
reason_text NegResult = codes "unexpected NegResult"
reason_text NoMic = codes "mech_list_mic is not present in SPNEGO message"
reason_text NoIdentity = codes "user credentials are not found on the server side"
reason_text NoCandidate = codes "no credentials provided"
reason_text NotPassword = codes "provided credentials are not password-based"
reason_text Proxy = codes "the credentials look-up failed"
reason_text TokenForm = codes "the token is malformed"
reason_text NoBuffer = codes "no buffer was provided with that type"
reason_text Number = codes "integer conversion error"
reason_text Utf = codes "text conversion error"
reason_text UserName = codes "user name has a mixed format"
reason_text Proof = codes "no candidate matches the proof"
reason_text Tag = codes "a tag does not match"
reason_text Kdc = codes "the KDC refused or could not be asked"
reason_text Spent = codes "a count is spent"
reason_text Unsupported = codes "the function is not supported"
reason_text Package = codes "queried info about unknown package"
reason_text Io = codes "reading or writing failed"
reason_text Memory = codes "want of memory"
reason_text Mechanism = codes "the mechanism refused"
