-- What a client's step may do to the selected mechanism, the packages, the need of MICs and the
-- kept credentials, whatever it answers.
use Rattle.std.specs.Prelude.{◌≡◌, ℕ, List, Option, Some, option_and_then, Bool, true, false}
use Rattle.sspi_types.specs.declared.client_request_flags.ClientRequestFlags.{ClientRequestFlags}
use Rattle.sspi_names.specs.Identity.{buffers_of, identity_of}
use Rattle.sspi_names.specs.declared.credentials.CredentialsBuffers.{CredentialsBuffers}
use Rattle.sspi_names.specs.declared.credentials.CredentialsBuffers.TheVariants.{AuthIdentity}
use Rattle.sspi_names.specs.declared.identity.AuthIdentity.{AuthIdentity as Identity}
use Rattle.sspi_mech.specs.Calls.{StepArgs}
use Rattle.sspi_negotiate.specs.declared.package_list.PackageListConfig.{PackageListConfig}
use Rattle.sspi_negotiate.specs.declared.protocol.Protocol.{Protocol}
use Rattle.sspi_negotiate.specs.declared.protocol.Protocol.TheVariants.{Kerberos, Ntlm}
use Rattle.sspi_negotiate.specs.Choices.{chosen_at}
use Rattle.sspi_negotiate.specs.Client.{passwords_of}
use Rattle.sspi_negotiate.specs.Rows.{client_wants_mic}
use Rattle.sspi_negotiate.specs.Rule.{rule_url}
use Rattle.sspi_negotiate.specs.Target.{IsNamedByIp}
use Rattle.sspi_negotiate.specs.Values.{Values}

-- the user whose name and password a call passes in
abbrev pub user_of : Option CredentialsBuffers → Option Identity
user_of handle = option_and_then identity_of (passwords_of handle)

-- the URL for which Kerberos replaces NTLM
abbrev pub user_url : Values → Option Identity → Option (List ℕ)
user_url v user = option_and_then (λ identity. rule_url v identity.username) user

-- The selected mechanism is the one from before, or one that the step takes: the server's choice,
-- NTLM because of the target's address, or Kerberos because of the URL of a KDC.
pub data MayHold (ByAddress : Type 0) (url : Option (List ℕ)) (choice : Option Protocol)
    (held new : Protocol) : Type 0 where
  as_before : new ≡ held → MayHold ByAddress url choice held new
  as_chosen : choice ≡ Some new → MayHold ByAddress url choice held new
  as_addressed : ByAddress → new ≡ Ntlm → MayHold ByAddress url choice held new
  as_ruled : (found : List ℕ) → url ≡ Some found → new ≡ Kerberos →
      MayHold ByAddress url choice held new

-- The packages are those from before, or one is disabled: Kerberos because of the target's address,
-- or the one not chosen by the server, whose choice may be used.
pub data MayAllow (ByAddress : Type 0) (choice : Option Protocol)
    (old new : PackageListConfig) : Type 0 where
  as_allowed : new ≡ old → MayAllow ByAddress choice old new
  as_named : ByAddress → new ≡ record old { kerberos = false } → MayAllow ByAddress choice old new
  kerberos_chosen : choice ≡ Some Kerberos → old.kerberos ≡ true →
      new ≡ record old { ntlm = false } →
      MayAllow ByAddress choice old new
  ntlm_chosen : choice ≡ Some Ntlm → old.ntlm ≡ true → new ≡ record old { kerberos = false } →
      MayAllow ByAddress choice old new

-- the selected mechanism and the packages
abbrev pub MayHave : Type 0 → Option (List ℕ) → Option Protocol → Values → Values → Type 0
MayHave ByAddress url choice old new =
    MayHold ByAddress url choice old.hand new.hand ×
    MayAllow ByAddress choice old.packages new.packages

-- the kept credentials are those from before, or the user's
pub data MayKeep (user : Option Identity) (kept new : Option CredentialsBuffers) : Type 0 where
  as_kept : new ≡ kept → MayKeep user kept new
  as_handed : (identity : Identity) → user ≡ Some identity →
      new ≡ Some (AuthIdentity (buffers_of identity)) → MayKeep user kept new

-- the need of MICs is the one from before, or what the flags of the step say
pub data MayNeed (flags : ClientRequestFlags) (need new : Bool) : Type 0 where
  as_needed : new ≡ need → MayNeed flags need new
  as_asked : new ≡ client_wants_mic flags → MayNeed flags need new

-- the selected mechanism and the packages that a client's later step leaves
abbrev pub StaysHeld : Values → StepArgs → Values → Type 0
StaysHeld old args new = MayHave (IsNamedByIp args.target × (old.packages.ntlm ≡ true))
    (user_url old (user_of args.handle))
    (chosen_at old.state args.input) old new
