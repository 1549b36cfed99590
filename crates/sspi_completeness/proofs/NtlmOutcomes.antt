-- What an object of plain NTLM makes of its peer's messages and identities, in the exchange of matching ends.
use Rattle.std.proofs.Common.{◌≡◌, ℕ, ◌-◌, ◌≤◌, ◌<◌, ◌^◌, List, [], ◌∷◌, length, map, filter, Option, Some, Ok, refl, ap, sym}
use Rattle.std.proofs.Common.{◌∙◌, subst, arith}
use Rattle.sspi_types.specs.declared.credential_use.CredentialUse.TheVariants.{Outbound}
use Rattle.sspi_types.specs.declared.error_kind.ErrorKind.{ErrorKind}
use Rattle.sspi_types.specs.declared.security_status.SecurityStatus.TheVariants as statuses
use Rattle.sspi_names.specs.declared.credentials.Credentials.{Credentials}
use Rattle.sspi_names.specs.declared.credentials.Credentials.TheVariants as credentials
use Rattle.sspi_names.specs.declared.credentials.CredentialsBuffers.{CredentialsBuffers}
use Rattle.sspi_names.specs.declared.credentials.CredentialsBuffers.TheVariants as buffers
use Rattle.sspi_names.specs.declared.identity.AuthIdentity.{AuthIdentity}
use Rattle.sspi_names.specs.Identity.{IsIdentity, buffers_of}
use Rattle.sspi_names.specs.Name.{Name, inner_of}
use Rattle.sspi_mech.specs.declared.ntlm.stage.Claim.{Claim}
use Rattle.sspi_mech.specs.declared.ntlm.stage.Stage.{Stage}
use Rattle.sspi_mech.specs.declared.ntlm.stage.Stage.TheVariants.{NegotiateSent, AuthenticateSent, ChallengeSent, Claimed}
use Rattle.sspi_mech.specs.NtlmAcquire.{acquired}
use Rattle.sspi_mech.specs.NtlmIdentities.{has_password, identified, with_key, key_at}
use Rattle.sspi_mech.specs.NtlmMessages.{challenge_message, proof_of, key_of}
use Rattle.sspi_mech.specs.NtlmStage.{NtlmState, name_at}
use Rattle.sspi_mech.specs.NtlmSteps.{Goes, client_step, server_step}
use Rattle.sspi_mech.proofs.Messages.{challenge_is_read}
use Rattle.sspi_credssp.specs.Proxy.{ProxyTells, AreFound, AreCandidates, candidates_of, entry_of, is_named}
use Rattle.sspi_credssp.specs.ServerCause.{LookUpRefused, failed, nobody}
use Rattle.sspi_completeness.specs.Matching.{HasEntry}
use Rattle.sspi_completeness.proofs.NtlmRound.{last_token, logs_on, claimed, first_found, key_is, proof_length}

abbrev pub claim_by : AuthIdentity → List ℕ → Claim
claim_by i challenge = record {
  name = i.username;
  text = inner_of i.username;
  proof = proof_of challenge (inner_of i.username)
      i.password.value;
}

abbrev pub key_for : AuthIdentity → List ℕ → List ℕ
key_for i challenge = key_of challenge (inner_of i.username) i.password.value

abbrev pub keyed_by : List ℕ → NtlmState → NtlmState
keyed_by key m = record m { protection = record m.protection { key = Some key } }

abbrev pub logged_on : AuthIdentity → List ℕ → NtlmState → NtlmState
logged_on i challenge m = record m {
  stage = AuthenticateSent i.username;
  protection = record m.protection { key = Some (key_for i challenge) };
}

pub client_outcome : (m : NtlmState) (stage : Stage) (handle : Option CredentialsBuffers) (input challenge : List ℕ) (i : AuthIdentity) →
    IsIdentity i →
    length (inner_of i.username) ≤ 65535 → length challenge ≡ 8 → stage ≡ NegotiateSent → input ≡ challenge_message challenge →
    handle ≡ Some (buffers.AuthIdentity (buffers_of i)) →
    client_step stage m handle input ≡ Goes (logged_on i challenge m) (record { status = statuses.Ok; output = last_token i challenge })
client_outcome m stage handle input challenge i is short eight sent given had =
    rw (sent, given, had, challenge_is_read challenge eight, logs_on i is short) refl

pub server_outcome : (m : NtlmState) (stage : Stage) (input challenge : List ℕ) (i : AuthIdentity) → IsIdentity i →
    length (inner_of i.username) < 2 ^ 16 →
    stage ≡ ChallengeSent → input ≡ last_token i challenge →
    server_step stage m input ≡ Goes (record m { stage = Claimed (claim_by i challenge) })
    (record { status = statuses.CompleteNeeded; output = [] })
server_outcome m stage input challenge i is short sent given =
    rw (
      sent,
      given,
      claimed i.username (proof_of challenge (inner_of i.username) i.password.value) is.name short
          (proof_length challenge (inner_of i.username) i.password.value),
    ) refl

pub some_candidates : (entries : List AuthIdentity) (i : AuthIdentity) (has : HasEntry entries i) →
    (rest : List AuthIdentity) × (candidates_of entries i.username ≡ has.entry ∷ rest)
unfolding entry_of candidates_of
some_candidates entries i has = first_found (is_named i.username) entries has.entry has.found

-- an object with the client's claim takes its key
pub keyed : (m : NtlmState) (identities entries : List AuthIdentity) (i : AuthIdentity) (challenge : List ℕ) → HasEntry entries i →
    m.stage ≡ Claimed (claim_by i challenge) → m.challenge ≡ challenge → identities ≡ candidates_of entries i.username →
    identified m (filter has_password (map credentials.AuthIdentity identities)) ≡ Ok (keyed_by (key_for i challenge) m)
keyed m identities entries i challenge has stage_is challenge_is candidates =
    let some = some_candidates entries i has in
    let list : identities ≡ has.entry ∷ some.0 = candidates ∙ some.1 in
    let key = key_is challenge (claim_by i challenge) i.password.value has.entry some.0 refl has.password in
    let at : key_at m.stage m.challenge (filter has_password (map credentials.AuthIdentity identities)) ≡ Ok (key_for i challenge) =
    (rw (stage_is, challenge_is, list) refl) ∙ key in
    ap (with_key m) at

pub acquires_buffers : (cr : Credentials) (i : AuthIdentity) (handle : Option CredentialsBuffers) → cr ≡ credentials.AuthIdentity i →
    acquired Outbound (Some cr) ≡ Ok handle →
    handle ≡ Some (buffers.AuthIdentity (buffers_of i))
acquires_buffers cr i handle is h =
    let e : acquired Outbound (Some (credentials.AuthIdentity i)) ≡ Ok handle = subst
    (λ (x : Credentials). acquired Outbound (Some x) ≡ Ok handle) is h in cc

-- an object that waits for the identity of that claim, with a proxy that exposes its entries
module _ (tells : ProxyTells) (entries : List AuthIdentity) (i : AuthIdentity) (challenge : List ℕ) (told : tells.entries ≡ Some entries)
    (has : HasEntry entries i) (y : NtlmState) (stage : y.stage ≡ Claimed (claim_by i challenge)) (sent : y.challenge ≡ challenge) where
  pub name_is : (name : Name) → name_at y.stage ≡ Some name → name ≡ i.username
  name_is name named = let e : Some i.username ≡ Some name = ap name_at (sym stage) ∙ named in cc

  pub found : (name : Name) (identities : List AuthIdentity) → name ≡ i.username → AreFound tells name identities →
      identities ≡ candidates_of entries i.username
  found name identities same candidates =
      let here : identities ≡ candidates_of entries name =
      subst (λ (x : Option (List AuthIdentity)). AreCandidates x name identities) told candidates.candidates in
      here ∙ ap (candidates_of entries) same

  pub takes_key : (identities : List AuthIdentity) → identities ≡ candidates_of entries i.username →
      identified y (filter has_password (map credentials.AuthIdentity identities)) ≡ Ok (keyed_by (key_for i challenge) y)
  takes_key identities list = keyed y identities entries i challenge has stage sent list

  pub look_never : (before now : ℕ) (kind : ErrorKind) → now ≡ before → before < 2 ^ 64 - 1 →
      LookUpRefused tells i.username before now kind → ⊥
  look_never before now kind still few (failed more is) = omega (arith, more, still, few)
  look_never before now kind still few (nobody none is) =
      let some = some_candidates entries i has in
      let empty : [] ≡ candidates_of entries i.username = subst (λ (x : Option (List AuthIdentity)). AreCandidates x i.username []) told
      none.candidates in
      let never : [] ≡ has.entry ∷ some.0 = empty ∙ some.1 in cc
