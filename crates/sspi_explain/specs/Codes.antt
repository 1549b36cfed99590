-- The code with which a server reports why it refused, and its name if it has one.
use Rattle.std.specs.Prelude.{ℕ, ◌==◌, List, [], ◌∷◌, ◌++◌, codes, Option, None, Some}
use Rattle.std.specs.Prelude.{if◌then◌else◌}
use Rattle.std.specs.Int.{w32, to_be_bytes}
use Rattle.hex.specs.Hex.{encode_lower}
use Rattle.sspi_types.specs.declared.error_kind.ErrorKind.{ErrorKind}
use Rattle.sspi_types.specs.declared.error_kind.ErrorKind.TheVariants.{Unknown, InsufficientMemory}
use Rattle.sspi_types.specs.declared.error_kind.ErrorKind.TheVariants.{InvalidHandle}
use Rattle.sspi_types.specs.declared.error_kind.ErrorKind.TheVariants.{UnsupportedFunction}
use Rattle.sspi_types.specs.declared.error_kind.ErrorKind.TheVariants.{TargetUnknown}
use Rattle.sspi_types.specs.declared.error_kind.ErrorKind.TheVariants.{InternalError}
use Rattle.sspi_types.specs.declared.error_kind.ErrorKind.TheVariants.{SecurityPackageNotFound}
use Rattle.sspi_types.specs.declared.error_kind.ErrorKind.TheVariants.{NotOwned, CannotInstall}
use Rattle.sspi_types.specs.declared.error_kind.ErrorKind.TheVariants.{InvalidToken}
use Rattle.sspi_types.specs.declared.error_kind.ErrorKind.TheVariants.{CannotPack}
use Rattle.sspi_types.specs.declared.error_kind.ErrorKind.TheVariants.{OperationNotSupported}
use Rattle.sspi_types.specs.declared.error_kind.ErrorKind.TheVariants.{NoImpersonation, LogonDenied}
use Rattle.sspi_types.specs.declared.error_kind.ErrorKind.TheVariants.{UnknownCredentials}
use Rattle.sspi_types.specs.declared.error_kind.ErrorKind.TheVariants.{NoCredentials}
use Rattle.sspi_types.specs.declared.error_kind.ErrorKind.TheVariants.{MessageAltered}
use Rattle.sspi_types.specs.declared.error_kind.ErrorKind.TheVariants.{OutOfSequence}
use Rattle.sspi_types.specs.declared.error_kind.ErrorKind.TheVariants.{NoAuthenticatingAuthority}
use Rattle.sspi_types.specs.declared.error_kind.ErrorKind.TheVariants.{BadPackageId}
use Rattle.sspi_types.specs.declared.error_kind.ErrorKind.TheVariants.{ContextExpired}
use Rattle.sspi_types.specs.declared.error_kind.ErrorKind.TheVariants.{IncompleteMessage}
use Rattle.sspi_types.specs.declared.error_kind.ErrorKind.TheVariants.{IncompleteCredentials}
use Rattle.sspi_types.specs.declared.error_kind.ErrorKind.TheVariants.{BufferTooSmall}
use Rattle.sspi_types.specs.declared.error_kind.ErrorKind.TheVariants.{WrongPrincipalName}
use Rattle.sspi_types.specs.declared.error_kind.ErrorKind.TheVariants.{TimeSkew, UntrustedRoot}
use Rattle.sspi_types.specs.declared.error_kind.ErrorKind.TheVariants.{IllegalMessage}
use Rattle.sspi_types.specs.declared.error_kind.ErrorKind.TheVariants.{CertificateUnknown}
use Rattle.sspi_types.specs.declared.error_kind.ErrorKind.TheVariants.{CertificateExpired}
use Rattle.sspi_types.specs.declared.error_kind.ErrorKind.TheVariants.{EncryptFailure}
use Rattle.sspi_types.specs.declared.error_kind.ErrorKind.TheVariants.{DecryptFailure}
use Rattle.sspi_types.specs.declared.error_kind.ErrorKind.TheVariants.{AlgorithmMismatch}
use Rattle.sspi_types.specs.declared.error_kind.ErrorKind.TheVariants.{SecurityQosFailed}
use Rattle.sspi_types.specs.declared.error_kind.ErrorKind.TheVariants.{UnfinishedContextDeleted}
use Rattle.sspi_types.specs.declared.error_kind.ErrorKind.TheVariants.{NoTgtReply, NoIpAddress}
use Rattle.sspi_types.specs.declared.error_kind.ErrorKind.TheVariants.{WrongCredentialHandle}
use Rattle.sspi_types.specs.declared.error_kind.ErrorKind.TheVariants.{CryptoSystemInvalid}
use Rattle.sspi_types.specs.declared.error_kind.ErrorKind.TheVariants.{MaxReferralsExceeded}
use Rattle.sspi_types.specs.declared.error_kind.ErrorKind.TheVariants.{MustBeKdc}
use Rattle.sspi_types.specs.declared.error_kind.ErrorKind.TheVariants.{StrongCryptoNotSupported}
use Rattle.sspi_types.specs.declared.error_kind.ErrorKind.TheVariants.{TooManyPrincipals, NoPaData}
use Rattle.sspi_types.specs.declared.error_kind.ErrorKind.TheVariants.{PkInitNameMismatch}
use Rattle.sspi_types.specs.declared.error_kind.ErrorKind.TheVariants.{SmartCardLogonRequired}
use Rattle.sspi_types.specs.declared.error_kind.ErrorKind.TheVariants.{ShutdownInProgress}
use Rattle.sspi_types.specs.declared.error_kind.ErrorKind.TheVariants.{KdcInvalidRequest}
use Rattle.sspi_types.specs.declared.error_kind.ErrorKind.TheVariants.{KdcUnknownEType}
use Rattle.sspi_types.specs.declared.error_kind.ErrorKind.TheVariants.{KdcUnknownEType2}
use Rattle.sspi_types.specs.declared.error_kind.ErrorKind.TheVariants.{UnsupportedPreAuth}
use Rattle.sspi_types.specs.declared.error_kind.ErrorKind.TheVariants.{DelegationRequired}
use Rattle.sspi_types.specs.declared.error_kind.ErrorKind.TheVariants.{BadBindings}
use Rattle.sspi_types.specs.declared.error_kind.ErrorKind.TheVariants.{MultipleAccounts}
use Rattle.sspi_types.specs.declared.error_kind.ErrorKind.TheVariants.{NoKerbKey, CertWrongUsage}
use Rattle.sspi_types.specs.declared.error_kind.ErrorKind.TheVariants.{DowngradeDetected}
use Rattle.sspi_types.specs.declared.error_kind.ErrorKind.TheVariants.{SmartCardCertificateRevoked}
use Rattle.sspi_types.specs.declared.error_kind.ErrorKind.TheVariants.{IssuingCAUntrusted}
use Rattle.sspi_types.specs.declared.error_kind.ErrorKind.TheVariants.{RevocationOffline}
use Rattle.sspi_types.specs.declared.error_kind.ErrorKind.TheVariants.{PkInitClientFailure}
use Rattle.sspi_types.specs.declared.error_kind.ErrorKind.TheVariants.{SmartCardCertExpired}
use Rattle.sspi_types.specs.declared.error_kind.ErrorKind.TheVariants.{NoS4uProtSupport}
use Rattle.sspi_types.specs.declared.error_kind.ErrorKind.TheVariants.{CrossRealmDelegationFailure}
use Rattle.sspi_types.specs.declared.error_kind.ErrorKind.TheVariants.{RevocationOfflineKdc}
use Rattle.sspi_types.specs.declared.error_kind.ErrorKind.TheVariants.{IssuingCaUntrustedKdc}
use Rattle.sspi_types.specs.declared.error_kind.ErrorKind.TheVariants.{KdcCertExpired}
use Rattle.sspi_types.specs.declared.error_kind.ErrorKind.TheVariants.{KdcCertRevoked}
use Rattle.sspi_types.specs.declared.error_kind.ErrorKind.TheVariants.{InvalidParameter}
use Rattle.sspi_types.specs.declared.error_kind.ErrorKind.TheVariants.{DelegationPolicy}
use Rattle.sspi_types.specs.declared.error_kind.ErrorKind.TheVariants.{PolicyNtlmOnly, NoContext}
use Rattle.sspi_types.specs.declared.error_kind.ErrorKind.TheVariants.{Pku2uCertFailure}
use Rattle.sspi_types.specs.declared.error_kind.ErrorKind.TheVariants.{MutualAuthFailed}
use Rattle.sspi_types.specs.declared.error_kind.ErrorKind.TheVariants.{OnlyHttpsAllowed}
use Rattle.sspi_types.specs.declared.error_kind.ErrorKind.TheVariants.{ApplicationProtocolMismatch}
use Rattle.sspi_types.specs.Errors.{error_kind_name}
use Rattle.sspi_types.specs.StatusCodes.{status_name}
use Rattle.sspi_credssp.specs.Requests.{error_code_of}

-- the kinds, in the order of their numbers
abbrev pub all_kinds : List ErrorKind
all_kinds =
    Unknown ∷ InsufficientMemory ∷ InvalidHandle ∷ UnsupportedFunction ∷ TargetUnknown ∷
    InternalError ∷ SecurityPackageNotFound ∷ NotOwned ∷ CannotInstall ∷ InvalidToken ∷
    CannotPack ∷ OperationNotSupported ∷ NoImpersonation ∷ LogonDenied ∷ UnknownCredentials ∷
    NoCredentials ∷ MessageAltered ∷ OutOfSequence ∷ NoAuthenticatingAuthority ∷ BadPackageId ∷
    ContextExpired ∷ IncompleteMessage ∷ IncompleteCredentials ∷ BufferTooSmall ∷
    WrongPrincipalName ∷ TimeSkew ∷ UntrustedRoot ∷ IllegalMessage ∷ CertificateUnknown ∷
    CertificateExpired ∷ EncryptFailure ∷ DecryptFailure ∷ AlgorithmMismatch ∷ SecurityQosFailed ∷
    UnfinishedContextDeleted ∷ NoTgtReply ∷ NoIpAddress ∷ WrongCredentialHandle ∷
    CryptoSystemInvalid ∷ MaxReferralsExceeded ∷ MustBeKdc ∷ StrongCryptoNotSupported ∷
    TooManyPrincipals ∷ NoPaData ∷ PkInitNameMismatch ∷ SmartCardLogonRequired ∷
    ShutdownInProgress ∷ KdcInvalidRequest ∷ KdcUnknownEType ∷ KdcUnknownEType2 ∷
    UnsupportedPreAuth ∷ DelegationRequired ∷ BadBindings ∷ MultipleAccounts ∷ NoKerbKey ∷
    CertWrongUsage ∷ DowngradeDetected ∷ SmartCardCertificateRevoked ∷ IssuingCAUntrusted ∷
    RevocationOffline ∷ PkInitClientFailure ∷ SmartCardCertExpired ∷ NoS4uProtSupport ∷
    CrossRealmDelegationFailure ∷ RevocationOfflineKdc ∷ IssuingCaUntrustedKdc ∷ KdcCertExpired ∷
    KdcCertRevoked ∷ InvalidParameter ∷ DelegationPolicy ∷ PolicyNtlmOnly ∷ NoContext ∷
    Pku2uCertFailure ∷ MutualAuthFailed ∷ OnlyHttpsAllowed ∷ ApplicationProtocolMismatch ∷ []

unfoldable pub kind_code : ErrorKind → ℕ
kind_code kind = (error_code_of kind).0

-- the name of the first of some kinds for which a server that refuses sends this code
abbrev pub name_among : List ErrorKind → ℕ → Option (List ℕ)
name_among [] code = None
name_among (kind ∷ kinds) code =
    if kind_code kind == code then Some (error_kind_name kind) else name_among kinds code

unfoldable pub kind_name : ℕ → Option (List ℕ)
kind_name code = name_among all_kinds code

abbrev pub or_kind : Option (List ℕ) → ℕ → Option (List ℕ)
or_kind (Some name) code = Some name
or_kind None code = kind_name code

-- the name of an NTSTATUS code, or else that of the kind
unfoldable pub code_name : ℕ → Option (List ℕ)
code_name code = or_kind (status_name code) code

unfoldable pub code_digits : ℕ → List ℕ
code_digits code = encode_lower (to_be_bytes w32 code)

abbrev pub named_code : List ℕ → Option (List ℕ) → List ℕ
named_code digits None = codes "0x" ++ digits
named_code digits (Some name) = codes "0x" ++ digits ++ codes " " ++ name

unfoldable pub code_text : ℕ → List ℕ
code_text code = named_code (code_digits code) (code_name code)
