-- What the contexts of plain NTLM make of steps, names and messages, apart from their counts.
use Rattle.std.proofs.Common.{◌≡◌, ℕ, ◌<◌, ◌-◌, ◌^◌, List, Option, None, Some, Ok, refl, ap, sym, ◌∙◌, subst}
use Rattle.sspi_types.specs.declared.credential_use.CredentialUse.{CredentialUse}
use Rattle.sspi_types.specs.declared.credential_use.CredentialUse.TheVariants.{Inbound, Outbound}
use Rattle.sspi_names.specs.declared.credentials.Credentials.{Credentials}
use Rattle.sspi_names.specs.declared.credentials.CredentialsBuffers.{CredentialsBuffers}
use Rattle.sspi_names.specs.declared.identity.AuthIdentity.{AuthIdentity}
use Rattle.sspi_mech.specs.declared.config.NtlmConfig.{NtlmConfig}
use Rattle.sspi_mech.specs.declared.protection.Direction.{Direction}
use Rattle.sspi_mech.specs.declared.step.Answer.{Answer}
use Rattle.sspi_mech.specs.declared.step.Answer.TheVariants.{Ask}
use Rattle.sspi_mech.specs.Calls.{StepArgs, ToSeal, ToUnseal}
use Rattle.sspi_mech.specs.Context.{IsContext}
use Rattle.sspi_mech.specs.Meaning.{Meaning}
use Rattle.sspi_mech.specs.Ntlm.{ntlm_meaning, ntlm_of, NtlmSteps}
use Rattle.sspi_mech.specs.NtlmAcquire.{acquired}
use Rattle.sspi_mech.specs.NtlmStage.{NtlmState, own_direction, peer_direction}
use Rattle.sspi_mech.specs.Protection.{recounted, counts_of, SealsBy}
use Rattle.sspi_mech.specs.Settings.{Setting}
use Rattle.sspi_credssp.specs.declared.context.SspiContext.{SspiContext}
use Rattle.sspi_credssp.specs.declared.context.SspiContext.TheVariants.{Negotiate, Ntlm, Kerberos}
use Rattle.sspi_credssp.specs.declared.mode.ClientMode.TheVariants as client
use Rattle.sspi_credssp.specs.declared.mode.ServerMode.TheVariants as server
use Rattle.sspi_credssp.specs.Context.{Begun, goes_on, is_new, ContextSetting, ForClient, ForServer, either}
use Rattle.sspi_credssp.specs.Ends.{ClientView}
use Rattle.sspi_credssp.specs.ClientTurn.{Asked, Walked, stepped, resumed, still_asked, recounted as walk_recounted, client_args}
use Rattle.sspi_credssp.specs.Acts.{silent, cleared}
use Rattle.sspi_credssp.proofs.Deliver.{bare_after}
use Rattle.sspi_completeness.proofs.Blobs.{blob_of, blob_long, one_text, never_unopened, never_unsealed}
use Rattle.sspi_completeness.proofs.Ends.{IsMaker, IsTaker}

-- the object that sealed and opened nothing
abbrev pub at_rest : NtlmState → NtlmState
at_rest m = record m { protection = recounted m.protection (silent (counts_of m.protection)) }

module _ {K : Type 0} (k : Meaning Setting K) where
  abbrev meaning : Meaning ContextSetting (SspiContext NtlmState K)
  meaning = either 0 ntlm_meaning k

  -- a context that is this object at rest
  pub as_ntlm : (m : SspiContext NtlmState K) (x : NtlmState) → cleared meaning m ≡ Ntlm x → (y : NtlmState) × (m ≡ Ntlm y) ×
      (at_rest y ≡ x)
  as_ntlm (Ntlm y) x same = (y, refl, let e : at_rest y ≡ x = cc in e)
  as_ntlm (Kerberos y) x same = absurd cc
  as_ntlm (Negotiate y) x same = absurd cc

  -- ---- how the context of a turn begins

  abbrev pub IfNtlm : SspiContext NtlmState K → (NtlmState → Type 0) → Type 0
  IfNtlm (Ntlm m) Q = Q m
  IfNtlm (Kerberos m) Q = ⊥
  IfNtlm (Negotiate m) Q = ⊥

  pub client_first : (config : NtlmConfig) (cr : Credentials) (context : Option (SspiContext NtlmState K))
      (had handle : Option CredentialsBuffers)
      (m0 : SspiContext NtlmState K) → context ≡ None → Begun meaning context had (ForClient (client.Ntlm config)) Outbound
      (Some cr) handle m0 →
      IfNtlm m0 (λ m. (m ≡ ntlm_of config) × (acquired Outbound (Some cr) ≡ Ok handle))
  client_first config cr context had handle m0 none (goes_on is same) = absurd (cc (is, none))
  client_first config cr context had handle (Ntlm m0) none (is_new (Ntlm m) is made acquires) = (acquires.1 ∙ made, acquires.0)
  client_first config cr context had handle (Kerberos m0) none (is_new (Ntlm m) is made acquires) = absurd acquires
  client_first config cr context had handle (Negotiate m0) none (is_new (Ntlm m) is made acquires) = absurd acquires
  client_first config cr context had handle m0 none (is_new (Kerberos m) is made acquires) = absurd made
  client_first config cr context had handle m0 none (is_new (Negotiate m) is made acquires) = absurd made

  pub server_first : (config : NtlmConfig) (told : Option (List AuthIdentity)) (context : Option (SspiContext NtlmState K))
      (had handle : Option CredentialsBuffers)
      (m0 : SspiContext NtlmState K) → context ≡ None → Begun meaning context had
      (ForServer (server.Ntlm config) told) Inbound None handle m0 →
      IfNtlm m0 (λ m. (m ≡ ntlm_of config) × (handle ≡ None))
  server_first config told context had handle m0 none (goes_on is same) = absurd (cc (is, none))
  server_first config told context had handle (Ntlm m0) none (is_new (Ntlm m) is made acquires) =
      (acquires.1 ∙ made, let e : handle ≡ None = (let a = acquires.0 in cc) in e)
  server_first config told context had handle (Kerberos m0) none (is_new (Ntlm m) is made acquires) = absurd acquires
  server_first config told context had handle (Negotiate m0) none (is_new (Ntlm m) is made acquires) = absurd acquires
  server_first config told context had handle m0 none (is_new (Kerberos m) is made acquires) = absurd made
  server_first config told context had handle m0 none (is_new (Negotiate m) is made acquires) = absurd made

  pub goes_on_as : (setting : ContextSetting) (context : Option (SspiContext NtlmState K)) (asked : Option Credentials)
      (had handle : Option CredentialsBuffers) (m0 : SspiContext NtlmState K) (m : NtlmState) (purpose : CredentialUse) →
      context ≡ Some (Ntlm m) →
      Begun meaning context had setting purpose asked handle m0 → IfNtlm m0 (λ x. (x ≡ m) × (handle ≡ had))
  goes_on_as setting context asked had handle m0 m purpose there (goes_on is same) =
      let here : m0 ≡ Ntlm m = (let e : Some m0 ≡ Some (Ntlm m) = sym is ∙ there in cc) in
      subst (λ (x : SspiContext NtlmState K). IfNtlm x (λ x. (x ≡ m) × (handle ≡ had))) (sym here) (refl, same)
  goes_on_as setting context asked had handle m0 m purpose there (is_new m1 is made acquires) = absurd (cc (is, there))

  -- ---- a client's step: no KDC is asked

  pub record Stepped (begun : NtlmState → Type 0) (args : StepArgs) (answer : Answer) (m : SspiContext NtlmState K) : Type 0 where
    pub before : NtlmState
    pub after : NtlmState
    pub begins : begun before
    pub steps : NtlmSteps before args answer after
    pub same : cleared meaning m ≡ Ntlm (at_rest after)

  step_at : (begun : NtlmState → Type 0) (args : StepArgs) (answer : Answer) (m0 m : SspiContext NtlmState K) → IfNtlm m0 begun →
      meaning.steps m0 args answer m → Stepped begun args answer m
  step_at begun args answer (Ntlm a) (Ntlm b) h steps = record { before = a; after = b; begins = h; steps = steps; same = refl }
  step_at begun args answer (Ntlm a) (Kerberos b) h steps = absurd steps
  step_at begun args answer (Ntlm a) (Negotiate b) h steps = absurd steps
  step_at begun args answer (Kerberos a) m h steps = absurd h
  step_at begun args answer (Negotiate a) m h steps = absurd h

  pub stepped_once : (laws : IsContext meaning) (begun : NtlmState → Type 0) (start : ClientView (SspiContext NtlmState K))
      (handle : Option CredentialsBuffers)
      (token : Option (List ℕ)) (tries : ℕ) (log : List Asked) (answer : Answer) (m : SspiContext NtlmState K) →
      ((m0 : SspiContext NtlmState K) → Begun meaning start.context start.handle (ForClient start.settings.mode) Outbound
      (Some start.settings.credentials) handle m0 → IfNtlm m0 begun) →
      Walked meaning start handle token tries log answer m → Stepped begun (client_args handle start.settings.target token) answer m
  stepped_once laws begun start handle token tries log answer m begins (stepped m0 m1 a b steps) =
      step_at begun (client_args handle start.settings.target token) answer m0 m (begins m0 b) steps
  stepped_once laws begun start handle token tries log answer m begins (resumed m1 m2 tried before q reply a walked resumes) =
      absurd (stepped_once laws begun start handle token tried before (Ask q) m1 begins walked).steps
  stepped_once laws begun start handle token tries log answer m begins (still_asked m1 m2 tried before q reply error walked resumes waits) =
      absurd (stepped_once laws begun start handle token tried before (Ask q) m1 begins walked).steps
  stepped_once laws begun start handle token tries log answer m begins (walk_recounted m1 m2 n tried before a walked counted quiet) =
      let s = stepped_once laws begun start handle token tried log answer m1 begins walked in
      record {
        before = s.before;
        after = s.after;
        begins = s.begins;
        steps = s.steps;
        same = bare_after meaning laws m1 m n counted quiet ∙ s.same;
      }

  -- ---- the messages of an object with a key

  module _ (x : NtlmState) (key : List ℕ) (own peers : Direction) (keyed : x.protection.key ≡ Some key)
      (own_is : own_direction x.stage ≡ own)
      (peers_are : peer_direction x.stage ≡ peers) where
    pub key_of_rest : (y : NtlmState) → at_rest y ≡ x → (y.protection.key ≡ Some key) × (own_direction y.stage ≡ own) ×
        (peer_direction y.stage ≡ peers)
    key_of_rest y same = (
      ap (λ (z : NtlmState). z.protection.key) same ∙ keyed,
      ap (λ (z : NtlmState). own_direction z.stage) same ∙ own_is,
      ap (λ (z : NtlmState). peer_direction z.stage) same ∙ peers_are,
    )

    pub made : (y : NtlmState) (n : ℕ) (text sealed : List ℕ) → at_rest y ≡ x → ntlm_meaning.seals y n text sealed →
        sealed ≡ blob_of key own n text
    made y n text sealed same seals =
        let rest = key_of_rest y same in
        subst (λ (d : Direction). SealsBy (Some key) d n text sealed) rest.1
        (subst (λ (e : Option (List ℕ)). SealsBy e (own_direction y.stage) n text sealed) rest.0 seals)

    pub maker : IsMaker meaning (Ntlm x) (blob_of key own)
    maker = record {
      made = λ m n text sealed same seals.
          let at = as_ntlm m x same in made at.0 n text sealed at.2
          (subst (λ (z : SspiContext NtlmState K). meaning.seals z n text sealed) at.1 seals);
      never = λ m text kind same few refuses.
          let at = as_ntlm m x same in
          never_unsealed at.0.protection.key key at.0.protection.sealings kind (key_of_rest at.0 at.2).0
          (subst (λ (z : SspiContext NtlmState K). (meaning.counts z).sealings < 2 ^ 64 - 1) at.1 few)
          (subst (λ (z : SspiContext NtlmState K). meaning.refuses z (ToSeal text) kind) at.1 refuses);
    }

    pub taker : IsTaker meaning (Ntlm x) (blob_of key peers)
    taker = record {
      opened = λ m n i text text2 same opens.
          let at = as_ntlm m x same in
          one_text at.0.protection.key (peer_direction at.0.stage) key peers n i text text2
          (subst (λ (z : SspiContext NtlmState K). meaning.opens z i
          (blob_of key peers n text) text2) at.1 opens);
      never = λ m n text kind same next few refuses.
          let at = as_ntlm m x same in
          let rest = key_of_rest at.0 at.2 in
          never_unopened at.0.protection.key (peer_direction at.0.stage) at.0.protection.unsealings key peers n text kind rest.0 rest.2
          (subst (λ (z : SspiContext NtlmState K). (meaning.counts z).unsealings ≡ n) at.1 next) few
          (subst (λ (z : SspiContext NtlmState K). meaning.refuses z (ToUnseal (blob_of key peers n text)) kind) at.1 refuses);
      long = λ n text. blob_long key peers n text;
    }
