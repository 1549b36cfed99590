use Rattle.std.proofs.Common.{◌≡◌, Some, refl}
use Rattle.sspi_types.specs.declared.error_kind.ErrorKind.{ErrorKind}
use Rattle.sspi_types.specs.declared.error_kind.ErrorKind.TheVariants.{Unknown, InsufficientMemory}
use Rattle.sspi_types.specs.declared.error_kind.ErrorKind.TheVariants.{InvalidHandle}
use Rattle.sspi_types.specs.declared.error_kind.ErrorKind.TheVariants.{UnsupportedFunction}
use Rattle.sspi_types.specs.declared.error_kind.ErrorKind.TheVariants.{TargetUnknown}
use Rattle.sspi_types.specs.declared.error_kind.ErrorKind.TheVariants.{InternalError}
use Rattle.sspi_types.specs.declared.error_kind.ErrorKind.TheVariants.{SecurityPackageNotFound}
use Rattle.sspi_types.specs.declared.error_kind.ErrorKind.TheVariants.{NotOwned, CannotInstall}
use Rattle.sspi_types.specs.declared.error_kind.ErrorKind.TheVariants.{InvalidToken}
use Rattle.sspi_types.specs.declared.error_kind.ErrorKind.TheVariants.{CannotPack}
use Rattle.sspi_types.specs.declared.error_kind.ErrorKind.TheVariants.{OperationNotSupported}
use Rattle.sspi_types.specs.declared.error_kind.ErrorKind.TheVariants.{NoImpersonation, LogonDenied}
use Rattle.sspi_types.specs.declared.error_kind.ErrorKind.TheVariants.{UnknownCredentials}
use Rattle.sspi_types.specs.declared.error_kind.ErrorKind.TheVariants.{NoCredentials}
use Rattle.sspi_types.specs.declared.error_kind.ErrorKind.TheVariants.{MessageAltered}
use Rattle.sspi_types.specs.declared.error_kind.ErrorKind.TheVariants.{OutOfSequence}
use Rattle.sspi_types.specs.declared.error_kind.ErrorKind.TheVariants.{NoAuthenticatingAuthority}
use Rattle.sspi_types.specs.declared.error_kind.ErrorKind.TheVariants.{BadPackageId}
use Rattle.sspi_types.specs.declared.error_kind.ErrorKind.TheVariants.{ContextExpired}
use Rattle.sspi_types.specs.declared.error_kind.ErrorKind.TheVariants.{IncompleteMessage}
use Rattle.sspi_types.specs.declared.error_kind.ErrorKind.TheVariants.{IncompleteCredentials}
use Rattle.sspi_types.specs.declared.error_kind.ErrorKind.TheVariants.{BufferTooSmall}
use Rattle.sspi_types.specs.declared.error_kind.ErrorKind.TheVariants.{WrongPrincipalName}
use Rattle.sspi_types.specs.declared.error_kind.ErrorKind.TheVariants.{TimeSkew, UntrustedRoot}
use Rattle.sspi_types.specs.declared.error_kind.ErrorKind.TheVariants.{IllegalMessage}
use Rattle.sspi_types.specs.declared.error_kind.ErrorKind.TheVariants.{CertificateUnknown}
use Rattle.sspi_types.specs.declared.error_kind.ErrorKind.TheVariants.{CertificateExpired}
use Rattle.sspi_types.specs.declared.error_kind.ErrorKind.TheVariants.{EncryptFailure}
use Rattle.sspi_types.specs.declared.error_kind.ErrorKind.TheVariants.{DecryptFailure}
use Rattle.sspi_types.specs.declared.error_kind.ErrorKind.TheVariants.{AlgorithmMismatch}
use Rattle.sspi_types.specs.declared.error_kind.ErrorKind.TheVariants.{SecurityQosFailed}
use Rattle.sspi_types.specs.declared.error_kind.ErrorKind.TheVariants.{UnfinishedContextDeleted}
use Rattle.sspi_types.specs.declared.error_kind.ErrorKind.TheVariants.{NoTgtReply, NoIpAddress}
use Rattle.sspi_types.specs.declared.error_kind.ErrorKind.TheVariants.{WrongCredentialHandle}
use Rattle.sspi_types.specs.declared.error_kind.ErrorKind.TheVariants.{CryptoSystemInvalid}
use Rattle.sspi_types.specs.declared.error_kind.ErrorKind.TheVariants.{MaxReferralsExceeded}
use Rattle.sspi_types.specs.declared.error_kind.ErrorKind.TheVariants.{MustBeKdc}
use Rattle.sspi_types.specs.declared.error_kind.ErrorKind.TheVariants.{StrongCryptoNotSupported}
use Rattle.sspi_types.specs.declared.error_kind.ErrorKind.TheVariants.{TooManyPrincipals, NoPaData}
use Rattle.sspi_types.specs.declared.error_kind.ErrorKind.TheVariants.{PkInitNameMismatch}
use Rattle.sspi_types.specs.declared.error_kind.ErrorKind.TheVariants.{SmartCardLogonRequired}
use Rattle.sspi_types.specs.declared.error_kind.ErrorKind.TheVariants.{ShutdownInProgress}
use Rattle.sspi_types.specs.declared.error_kind.ErrorKind.TheVariants.{KdcInvalidRequest}
use Rattle.sspi_types.specs.declared.error_kind.ErrorKind.TheVariants.{KdcUnknownEType}
use Rattle.sspi_types.specs.declared.error_kind.ErrorKind.TheVariants.{KdcUnknownEType2}
use Rattle.sspi_types.specs.declared.error_kind.ErrorKind.TheVariants.{UnsupportedPreAuth}
use Rattle.sspi_types.specs.declared.error_kind.ErrorKind.TheVariants.{DelegationRequired}
use Rattle.sspi_types.specs.declared.error_kind.ErrorKind.TheVariants.{BadBindings}
use Rattle.sspi_types.specs.declared.error_kind.ErrorKind.TheVariants.{MultipleAccounts}
use Rattle.sspi_types.specs.declared.error_kind.ErrorKind.TheVariants.{NoKerbKey, CertWrongUsage}
use Rattle.sspi_types.specs.declared.error_kind.ErrorKind.TheVariants.{DowngradeDetected}
use Rattle.sspi_types.specs.declared.error_kind.ErrorKind.TheVariants.{SmartCardCertificateRevoked}
use Rattle.sspi_types.specs.declared.error_kind.ErrorKind.TheVariants.{IssuingCAUntrusted}
use Rattle.sspi_types.specs.declared.error_kind.ErrorKind.TheVariants.{RevocationOffline}
use Rattle.sspi_types.specs.declared.error_kind.ErrorKind.TheVariants.{PkInitClientFailure}
use Rattle.sspi_types.specs.declared.error_kind.ErrorKind.TheVariants.{SmartCardCertExpired}
use Rattle.sspi_types.specs.declared.error_kind.ErrorKind.TheVariants.{NoS4uProtSupport}
use Rattle.sspi_types.specs.declared.error_kind.ErrorKind.TheVariants.{CrossRealmDelegationFailure}
use Rattle.sspi_types.specs.declared.error_kind.ErrorKind.TheVariants.{RevocationOfflineKdc}
use Rattle.sspi_types.specs.declared.error_kind.ErrorKind.TheVariants.{IssuingCaUntrustedKdc}
use Rattle.sspi_types.specs.declared.error_kind.ErrorKind.TheVariants.{KdcCertExpired}
use Rattle.sspi_types.specs.declared.error_kind.ErrorKind.TheVariants.{KdcCertRevoked}
use Rattle.sspi_types.specs.declared.error_kind.ErrorKind.TheVariants.{InvalidParameter}
use Rattle.sspi_types.specs.declared.error_kind.ErrorKind.TheVariants.{DelegationPolicy}
use Rattle.sspi_types.specs.declared.error_kind.ErrorKind.TheVariants.{PolicyNtlmOnly, NoContext}
use Rattle.sspi_types.specs.declared.error_kind.ErrorKind.TheVariants.{Pku2uCertFailure}
use Rattle.sspi_types.specs.declared.error_kind.ErrorKind.TheVariants.{MutualAuthFailed}
use Rattle.sspi_types.specs.declared.error_kind.ErrorKind.TheVariants.{OnlyHttpsAllowed}
use Rattle.sspi_types.specs.declared.error_kind.ErrorKind.TheVariants.{ApplicationProtocolMismatch}
use Rattle.sspi_types.specs.Errors.{error_kind_name}
use Rattle.sspi_explain.specs.Codes.{kind_name, kind_code}
use Rattle.sspi_explain.proofs.laws.codes_tell_their_kinds.Goals as goal

told : (kind : ErrorKind) → kind_name (kind_code kind) ≡ Some (error_kind_name kind)
unfolding kind_name kind_code
told Unknown = refl
told InsufficientMemory = refl
told InvalidHandle = refl
told UnsupportedFunction = refl
told TargetUnknown = refl
told InternalError = refl
told SecurityPackageNotFound = refl
told NotOwned = refl
told CannotInstall = refl
told InvalidToken = refl
told CannotPack = refl
told OperationNotSupported = refl
told NoImpersonation = refl
told LogonDenied = refl
told UnknownCredentials = refl
told NoCredentials = refl
told MessageAltered = refl
told OutOfSequence = refl
told NoAuthenticatingAuthority = refl
told BadPackageId = refl
told ContextExpired = refl
told IncompleteMessage = refl
told IncompleteCredentials = refl
told BufferTooSmall = refl
told WrongPrincipalName = refl
told TimeSkew = refl
told UntrustedRoot = refl
told IllegalMessage = refl
told CertificateUnknown = refl
told CertificateExpired = refl
told EncryptFailure = refl
told DecryptFailure = refl
told AlgorithmMismatch = refl
told SecurityQosFailed = refl
told UnfinishedContextDeleted = refl
told NoTgtReply = refl
told NoIpAddress = refl
told WrongCredentialHandle = refl
told CryptoSystemInvalid = refl
told MaxReferralsExceeded = refl
told MustBeKdc = refl
told StrongCryptoNotSupported = refl
told TooManyPrincipals = refl
told NoPaData = refl
told PkInitNameMismatch = refl
told SmartCardLogonRequired = refl
told ShutdownInProgress = refl
told KdcInvalidRequest = refl
told KdcUnknownEType = refl
told KdcUnknownEType2 = refl
told UnsupportedPreAuth = refl
told DelegationRequired = refl
told BadBindings = refl
told MultipleAccounts = refl
told NoKerbKey = refl
told CertWrongUsage = refl
told DowngradeDetected = refl
told SmartCardCertificateRevoked = refl
told IssuingCAUntrusted = refl
told RevocationOffline = refl
told PkInitClientFailure = refl
told SmartCardCertExpired = refl
told NoS4uProtSupport = refl
told CrossRealmDelegationFailure = refl
told RevocationOfflineKdc = refl
told IssuingCaUntrustedKdc = refl
told KdcCertExpired = refl
told KdcCertRevoked = refl
told InvalidParameter = refl
told DelegationPolicy = refl
told PolicyNtlmOnly = refl
told NoContext = refl
told Pku2uCertFailure = refl
told MutualAuthFailed = refl
told OnlyHttpsAllowed = refl
told ApplicationProtocolMismatch = refl

pub returns : goal.returns
returns c = told
