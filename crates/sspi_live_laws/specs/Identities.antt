-- The identity that a server got over its channel.
use Rattle.std.specs.Prelude.{Option, Some, None, Result, Ok, Err}
use Rattle.sspi_names.specs.declared.identity.AuthIdentity.{AuthIdentity}
use Rattle.sspi_delegate.specs.declared.answer.Delegation.{Delegation}
use Rattle.sspi_delegate.specs.declared.answer.DelegateError.{DelegateError}

abbrev pub identity_of : Result Delegation DelegateError → Option AuthIdentity
identity_of (Ok delegation) = Some delegation.credentials
identity_of (Err error) = None
