-- The kinds of errors, with their names and numbers, and an error as it is displayed.
use Rattle.std.specs.Prelude.{ℕ, List, codes, [], ◌++◌, Option, Some, None}
use Rattle.sspi_types.specs.declared.error.Error.{Error}
use Rattle.sspi_types.specs.declared.error_kind.ErrorKind.{ErrorKind}
use Rattle.sspi_types.specs.declared.error_kind.ErrorKind.TheVariants.{Unknown, InsufficientMemory}
use Rattle.sspi_types.specs.declared.error_kind.ErrorKind.TheVariants.{InvalidHandle}
use Rattle.sspi_types.specs.declared.error_kind.ErrorKind.TheVariants.{UnsupportedFunction}
use Rattle.sspi_types.specs.declared.error_kind.ErrorKind.TheVariants.{TargetUnknown, InternalError}
use Rattle.sspi_types.specs.declared.error_kind.ErrorKind.TheVariants.{SecurityPackageNotFound}
use Rattle.sspi_types.specs.declared.error_kind.ErrorKind.TheVariants.{NotOwned}
use Rattle.sspi_types.specs.declared.error_kind.ErrorKind.TheVariants.{CannotInstall, InvalidToken}
use Rattle.sspi_types.specs.declared.error_kind.ErrorKind.TheVariants.{CannotPack}
use Rattle.sspi_types.specs.declared.error_kind.ErrorKind.TheVariants.{OperationNotSupported}
use Rattle.sspi_types.specs.declared.error_kind.ErrorKind.TheVariants.{NoImpersonation, LogonDenied}
use Rattle.sspi_types.specs.declared.error_kind.ErrorKind.TheVariants.{UnknownCredentials}
use Rattle.sspi_types.specs.declared.error_kind.ErrorKind.TheVariants.{NoCredentials}
use Rattle.sspi_types.specs.declared.error_kind.ErrorKind.TheVariants.{MessageAltered}
use Rattle.sspi_types.specs.declared.error_kind.ErrorKind.TheVariants.{OutOfSequence}
use Rattle.sspi_types.specs.declared.error_kind.ErrorKind.TheVariants.{NoAuthenticatingAuthority}
use Rattle.sspi_types.specs.declared.error_kind.ErrorKind.TheVariants.{BadPackageId, ContextExpired}
use Rattle.sspi_types.specs.declared.error_kind.ErrorKind.TheVariants.{IncompleteMessage}
use Rattle.sspi_types.specs.declared.error_kind.ErrorKind.TheVariants.{IncompleteCredentials}
use Rattle.sspi_types.specs.declared.error_kind.ErrorKind.TheVariants.{BufferTooSmall}
use Rattle.sspi_types.specs.declared.error_kind.ErrorKind.TheVariants.{WrongPrincipalName, TimeSkew}
use Rattle.sspi_types.specs.declared.error_kind.ErrorKind.TheVariants.{UntrustedRoot}
use Rattle.sspi_types.specs.declared.error_kind.ErrorKind.TheVariants.{IllegalMessage}
use Rattle.sspi_types.specs.declared.error_kind.ErrorKind.TheVariants.{CertificateUnknown}
use Rattle.sspi_types.specs.declared.error_kind.ErrorKind.TheVariants.{CertificateExpired}
use Rattle.sspi_types.specs.declared.error_kind.ErrorKind.TheVariants.{EncryptFailure}
use Rattle.sspi_types.specs.declared.error_kind.ErrorKind.TheVariants.{DecryptFailure}
use Rattle.sspi_types.specs.declared.error_kind.ErrorKind.TheVariants.{AlgorithmMismatch}
use Rattle.sspi_types.specs.declared.error_kind.ErrorKind.TheVariants.{SecurityQosFailed}
use Rattle.sspi_types.specs.declared.error_kind.ErrorKind.TheVariants.{UnfinishedContextDeleted}
use Rattle.sspi_types.specs.declared.error_kind.ErrorKind.TheVariants.{NoTgtReply, NoIpAddress}
use Rattle.sspi_types.specs.declared.error_kind.ErrorKind.TheVariants.{WrongCredentialHandle}
use Rattle.sspi_types.specs.declared.error_kind.ErrorKind.TheVariants.{CryptoSystemInvalid}
use Rattle.sspi_types.specs.declared.error_kind.ErrorKind.TheVariants.{MaxReferralsExceeded}
use Rattle.sspi_types.specs.declared.error_kind.ErrorKind.TheVariants.{MustBeKdc}
use Rattle.sspi_types.specs.declared.error_kind.ErrorKind.TheVariants.{StrongCryptoNotSupported}
use Rattle.sspi_types.specs.declared.error_kind.ErrorKind.TheVariants.{TooManyPrincipals, NoPaData}
use Rattle.sspi_types.specs.declared.error_kind.ErrorKind.TheVariants.{PkInitNameMismatch}
use Rattle.sspi_types.specs.declared.error_kind.ErrorKind.TheVariants.{SmartCardLogonRequired}
use Rattle.sspi_types.specs.declared.error_kind.ErrorKind.TheVariants.{ShutdownInProgress}
use Rattle.sspi_types.specs.declared.error_kind.ErrorKind.TheVariants.{KdcInvalidRequest}
use Rattle.sspi_types.specs.declared.error_kind.ErrorKind.TheVariants.{KdcUnknownEType}
use Rattle.sspi_types.specs.declared.error_kind.ErrorKind.TheVariants.{KdcUnknownEType2}
use Rattle.sspi_types.specs.declared.error_kind.ErrorKind.TheVariants.{UnsupportedPreAuth}
use Rattle.sspi_types.specs.declared.error_kind.ErrorKind.TheVariants.{DelegationRequired}
use Rattle.sspi_types.specs.declared.error_kind.ErrorKind.TheVariants.{BadBindings}
use Rattle.sspi_types.specs.declared.error_kind.ErrorKind.TheVariants.{MultipleAccounts, NoKerbKey}
use Rattle.sspi_types.specs.declared.error_kind.ErrorKind.TheVariants.{CertWrongUsage}
use Rattle.sspi_types.specs.declared.error_kind.ErrorKind.TheVariants.{DowngradeDetected}
use Rattle.sspi_types.specs.declared.error_kind.ErrorKind.TheVariants.{SmartCardCertificateRevoked}
use Rattle.sspi_types.specs.declared.error_kind.ErrorKind.TheVariants.{IssuingCAUntrusted}
use Rattle.sspi_types.specs.declared.error_kind.ErrorKind.TheVariants.{RevocationOffline}
use Rattle.sspi_types.specs.declared.error_kind.ErrorKind.TheVariants.{PkInitClientFailure}
use Rattle.sspi_types.specs.declared.error_kind.ErrorKind.TheVariants.{SmartCardCertExpired}
use Rattle.sspi_types.specs.declared.error_kind.ErrorKind.TheVariants.{NoS4uProtSupport}
use Rattle.sspi_types.specs.declared.error_kind.ErrorKind.TheVariants.{CrossRealmDelegationFailure}
use Rattle.sspi_types.specs.declared.error_kind.ErrorKind.TheVariants.{RevocationOfflineKdc}
use Rattle.sspi_types.specs.declared.error_kind.ErrorKind.TheVariants.{IssuingCaUntrustedKdc}
use Rattle.sspi_types.specs.declared.error_kind.ErrorKind.TheVariants.{KdcCertExpired}
use Rattle.sspi_types.specs.declared.error_kind.ErrorKind.TheVariants.{KdcCertRevoked}
use Rattle.sspi_types.specs.declared.error_kind.ErrorKind.TheVariants.{InvalidParameter}
use Rattle.sspi_types.specs.declared.error_kind.ErrorKind.TheVariants.{DelegationPolicy}
use Rattle.sspi_types.specs.declared.error_kind.ErrorKind.TheVariants.{PolicyNtlmOnly}
use Rattle.sspi_types.specs.declared.error_kind.ErrorKind.TheVariants.{NoContext, Pku2uCertFailure}
use Rattle.sspi_types.specs.declared.error_kind.ErrorKind.TheVariants.{MutualAuthFailed}
use Rattle.sspi_types.specs.declared.error_kind.ErrorKind.TheVariants.{OnlyHttpsAllowed}
use Rattle.sspi_types.specs.declared.error_kind.ErrorKind.TheVariants.{ApplicationProtocolMismatch}
use Rattle.sspi_types.specs.declared.nstatus.NStatusCode.{NStatusCode}
use Rattle.sspi_types.specs.declared.reason.Reason.{Reason}
use Rattle.sspi_types.specs.declared.reason.Reason.TheVariants.{Memory}
use Rattle.sspi_types.specs.Reasons.{reason_text}
use Rattle.sspi_types.specs.StatusCodes.{status_text}

-- each kind's name, and its number (winerror.h, SECURITY_STATUS codes)
abbrev pub error_kind_row : ErrorKind → List ℕ × ℕ
error_kind_row Unknown = (codes "Unknown", 0x00000000)
error_kind_row InsufficientMemory = (codes "InsufficientMemory", 0x80090300)
error_kind_row InvalidHandle = (codes "InvalidHandle", 0x80090301)
error_kind_row UnsupportedFunction = (codes "UnsupportedFunction", 0x80090302)
error_kind_row TargetUnknown = (codes "TargetUnknown", 0x80090303)
error_kind_row InternalError = (codes "InternalError", 0x80090304)
error_kind_row SecurityPackageNotFound = (codes "SecurityPackageNotFound", 0x80090305)
error_kind_row NotOwned = (codes "NotOwned", 0x80090306)
error_kind_row CannotInstall = (codes "CannotInstall", 0x80090307)
error_kind_row InvalidToken = (codes "InvalidToken", 0x80090308)
error_kind_row CannotPack = (codes "CannotPack", 0x80090309)
error_kind_row OperationNotSupported = (codes "OperationNotSupported", 0x8009030a)
error_kind_row NoImpersonation = (codes "NoImpersonation", 0x8009030b)
error_kind_row LogonDenied = (codes "LogonDenied", 0x8009030c)
error_kind_row UnknownCredentials = (codes "UnknownCredentials", 0x8009030d)
error_kind_row NoCredentials = (codes "NoCredentials", 0x8009030e)
error_kind_row MessageAltered = (codes "MessageAltered", 0x8009030f)
error_kind_row OutOfSequence = (codes "OutOfSequence", 0x80090310)
error_kind_row NoAuthenticatingAuthority = (codes "NoAuthenticatingAuthority", 0x80090311)
error_kind_row BadPackageId = (codes "BadPackageId", 0x80090316)
error_kind_row ContextExpired = (codes "ContextExpired", 0x80090317)
error_kind_row IncompleteMessage = (codes "IncompleteMessage", 0x80090318)
error_kind_row IncompleteCredentials = (codes "IncompleteCredentials", 0x80090320)
error_kind_row BufferTooSmall = (codes "BufferTooSmall", 0x80090321)
error_kind_row WrongPrincipalName = (codes "WrongPrincipalName", 0x80090322)
error_kind_row TimeSkew = (codes "TimeSkew", 0x80090324)
error_kind_row UntrustedRoot = (codes "UntrustedRoot", 0x80090325)
error_kind_row IllegalMessage = (codes "IllegalMessage", 0x80090326)
error_kind_row CertificateUnknown = (codes "CertificateUnknown", 0x80090327)
error_kind_row CertificateExpired = (codes "CertificateExpired", 0x80090328)
error_kind_row EncryptFailure = (codes "EncryptFailure", 0x80090329)
error_kind_row DecryptFailure = (codes "DecryptFailure", 0x80090330)
error_kind_row AlgorithmMismatch = (codes "AlgorithmMismatch", 0x80090331)
error_kind_row SecurityQosFailed = (codes "SecurityQosFailed", 0x80090332)
error_kind_row UnfinishedContextDeleted = (codes "UnfinishedContextDeleted", 0x80090333)
error_kind_row NoTgtReply = (codes "NoTgtReply", 0x80090334)
error_kind_row NoIpAddress = (codes "NoIpAddress", 0x80090335)
error_kind_row WrongCredentialHandle = (codes "WrongCredentialHandle", 0x80090336)
error_kind_row CryptoSystemInvalid = (codes "CryptoSystemInvalid", 0x80090337)
error_kind_row MaxReferralsExceeded = (codes "MaxReferralsExceeded", 0x80090338)
error_kind_row MustBeKdc = (codes "MustBeKdc", 0x80090339)
error_kind_row StrongCryptoNotSupported = (codes "StrongCryptoNotSupported", 0x8009033a)
error_kind_row TooManyPrincipals = (codes "TooManyPrincipals", 0x8009033b)
error_kind_row NoPaData = (codes "NoPaData", 0x8009033c)
error_kind_row PkInitNameMismatch = (codes "PkInitNameMismatch", 0x8009033d)
error_kind_row SmartCardLogonRequired = (codes "SmartCardLogonRequired", 0x8009033e)
error_kind_row ShutdownInProgress = (codes "ShutdownInProgress", 0x8009033f)
error_kind_row KdcInvalidRequest = (codes "KdcInvalidRequest", 0x80090340)
error_kind_row KdcUnknownEType = (codes "KdcUnknownEType", 0x80090341)
error_kind_row KdcUnknownEType2 = (codes "KdcUnknownEType2", 0x80090342)
error_kind_row UnsupportedPreAuth = (codes "UnsupportedPreAuth", 0x80090343)
error_kind_row DelegationRequired = (codes "DelegationRequired", 0x80090345)
error_kind_row BadBindings = (codes "BadBindings", 0x80090346)
error_kind_row MultipleAccounts = (codes "MultipleAccounts", 0x80090347)
error_kind_row NoKerbKey = (codes "NoKerbKey", 0x80090348)
error_kind_row CertWrongUsage = (codes "CertWrongUsage", 0x80090349)
error_kind_row DowngradeDetected = (codes "DowngradeDetected", 0x80090350)
error_kind_row SmartCardCertificateRevoked = (codes "SmartCardCertificateRevoked", 0x80090351)
error_kind_row IssuingCAUntrusted = (codes "IssuingCAUntrusted", 0x80090352)
error_kind_row RevocationOffline = (codes "RevocationOffline", 0x80090353)
error_kind_row PkInitClientFailure = (codes "PkInitClientFailure", 0x80090354)
error_kind_row SmartCardCertExpired = (codes "SmartCardCertExpired", 0x80090355)
error_kind_row NoS4uProtSupport = (codes "NoS4uProtSupport", 0x80090356)
error_kind_row CrossRealmDelegationFailure = (codes "CrossRealmDelegationFailure", 0x80090357)
error_kind_row RevocationOfflineKdc = (codes "RevocationOfflineKdc", 0x80090358)
error_kind_row IssuingCaUntrustedKdc = (codes "IssuingCaUntrustedKdc", 0x80090359)
error_kind_row KdcCertExpired = (codes "KdcCertExpired", 0x8009035a)
error_kind_row KdcCertRevoked = (codes "KdcCertRevoked", 0x8009035b)
error_kind_row InvalidParameter = (codes "InvalidParameter", 0x8009035d)
error_kind_row DelegationPolicy = (codes "DelegationPolicy", 0x8009035e)
error_kind_row PolicyNtlmOnly = (codes "PolicyNtlmOnly", 0x8009035f)
error_kind_row NoContext = (codes "NoContext", 0x80090361)
error_kind_row Pku2uCertFailure = (codes "Pku2uCertFailure", 0x80090362)
error_kind_row MutualAuthFailed = (codes "MutualAuthFailed", 0x80090363)
error_kind_row OnlyHttpsAllowed = (codes "OnlyHttpsAllowed", 0x80090365)
error_kind_row ApplicationProtocolMismatch = (codes "ApplicationProtocolMismatch", 0x80090367)

-- the variant's name
abbrev pub error_kind_name : ErrorKind → List ℕ
error_kind_name kind = (error_kind_row kind).0

-- its number
abbrev pub error_kind_number : ErrorKind → ℕ
error_kind_number kind = (error_kind_row kind).1

-- ---- an error of such a kind

-- the part of a refusal's text that gives the status
abbrev pub after_reason : Option NStatusCode → List ℕ
after_reason None = []
after_reason (Some status) = codes "; status is " ++ status_text status.0

-- how a refusal is displayed
abbrev pub error_text : Error → List ℕ
error_text error = error_kind_name error.error_type ++ codes ": " ++
    reason_text error.description ++ after_reason error.nstatus

-- an internal fault
abbrev pub internal_error : Reason → Error
internal_error reason = record { error_type = InternalError; description = reason; nstatus = None }

-- what every call answers when out of memory
abbrev pub memory_error : Error
memory_error = record { error_type = InsufficientMemory; description = Memory; nstatus = None }
