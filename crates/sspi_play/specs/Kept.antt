-- The list of mechanisms that an end keeps, which the MICs of a negotiation protect; and the
-- identity that a play gave.
use Rattle.std.specs.Prelude.{ℕ, List, [], Option, None, Some, Result, Ok, Err}
use Rattle.sspi_names.specs.declared.identity.AuthIdentity.{AuthIdentity}
use Rattle.sspi_credssp.specs.declared.context.SspiContext.{SspiContext}
use Rattle.sspi_credssp.specs.declared.context.SspiContext.TheVariants as hands
use Rattle.sspi_delegate.specs.declared.answer.DelegateError.{DelegateError}
use Rattle.sspi_play.specs.declared.played.Played.{Played}

abbrev pub kept_list : {N K : Type 0} → Option (SspiContext N K) → List (List ℕ)
kept_list None = []
kept_list (Some (hands.Negotiate m)) = m.list
kept_list (Some (hands.Ntlm m)) = []
kept_list (Some (hands.Kerberos m)) = []

abbrev pub identity_of : Result Played DelegateError → Option AuthIdentity
identity_of (Ok played) = played.identity
identity_of (Err error) = None
