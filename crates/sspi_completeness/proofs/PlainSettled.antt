-- What an undisturbed exchange between matching ends comes to.
use Rattle.std.proofs.Common.{◌≡◌, ℕ, suc, ◌≤◌, ◌<◌, Bool, List, Option, Result, Ok, Err, IfOk, refl, ap, ◌∙◌, subst, arith, false, true}
use Rattle.std.proofs.lemmas.Bool.{le-ltb}
use Rattle.sspi_names.specs.declared.credentials.Credentials.{Credentials}
use Rattle.sspi_names.specs.declared.identity.AuthIdentity.{AuthIdentity}
use Rattle.sspi_names.specs.declared.network.NetworkRequest.{NetworkRequest}
use Rattle.sspi_mech.specs.declared.step.Reply.{Reply}
use Rattle.sspi_mech.specs.Context.{IsContext}
use Rattle.sspi_mech.specs.Kerberos.{kerberos_meaning}
use Rattle.sspi_tsreq.specs.declared.request.TsRequest.{TsRequest}
use Rattle.sspi_negotiate.specs.declared.pick.Choice.{Choice}
use Rattle.sspi_negotiate.specs.declared.pick.Choice.TheVariants as choices
use Rattle.sspi_negotiate.specs.declared.protocol.Protocol.{Protocol}
use Rattle.sspi_negotiate.specs.declared.protocol.Protocol.TheVariants.{Ntlm, Kerberos}
use Rattle.sspi_credssp.specs.Ends.{ClientView, IsFreshClient, ServerView, IsFreshServer}
use Rattle.sspi_credssp.specs.declared.mode.ClientMode.{ClientMode}
use Rattle.sspi_credssp.specs.declared.mode.ClientMode.TheVariants as client_mode
use Rattle.sspi_credssp.specs.declared.mode.ServerMode.{ServerMode}
use Rattle.sspi_credssp.specs.declared.mode.ServerMode.TheVariants as server_mode
use Rattle.sspi_credssp.specs.Exchange.{delegated_text, delegated_as}
use Rattle.sspi_credssp.specs.Proxy.{ProxyMeaning}
use Rattle.sspi_delegate.specs.declared.answer.Delegation.{Delegation}
use Rattle.sspi_delegate.specs.declared.answer.DelegateError.{DelegateError}
use Rattle.sspi_delegate.specs.declared.answer.DelegateError.TheVariants as errors
use Rattle.sspi_delegate.specs.declared.carried.Carried.{Carried}
use Rattle.sspi_delegate.specs.declared.edit.Edit.{Edit}
use Rattle.sspi_credssp.specs.declared.turn.Turn.{Turn}
use Rattle.sspi_delegate.specs.Chain.{kdc_calls}
use Rattle.sspi_delegate.specs.Log.{RunEnds}
use Rattle.sspi_delegate.specs.Turns.{client_turns, server_turns}
use Rattle.sspi_delegate.specs.History.{ClientPast, ServerHistory}
use Rattle.sspi_delegate.specs.Link.{StaysTold, AnswerTold}
use Rattle.sspi_delegate.specs.Turns.{server_end, GivesNewest}
use Rattle.sspi_completeness.specs.Matching.{MatchModes, messages_of, messages_in, AreMatching, IsUndisturbed, IsCalm}
use Rattle.sspi_completeness.specs.Matching.{ComesToOkIn}
use Rattle.sspi_completeness.specs.Negotiating.{Needs, messages_by, kdc_url}
use Rattle.sspi_completeness.specs.Matching.{IsCutShort}
use Rattle.sspi_completeness.proofs.Negotiated.{known}
use Rattle.sspi_completeness.proofs.Negotiation.{AreAlike, IsNegotiation}
use Rattle.sspi_completeness.proofs.PlainNtlm as ntlm
use Rattle.sspi_completeness.proofs.Points.{IsKnown}
use Rattle.sspi_completeness.proofs.Settling.{Settled, settled}
use Rattle.sspi_completeness.proofs.Courses.{Meeting, IsCourse, negotiation}
use Rattle.sspi_completeness.proofs.NtlmRow.{ntlm_course}
use Rattle.sspi_completeness.proofs.ChangedRow.{changed_course}
use Rattle.sspi_completeness.proofs.KerberosRow.{kerberos_course}
use Rattle.sspi_completeness.proofs.Rows.{kerberos_picked, never_second}
use Rattle.sspi_completeness.proofs.SpnegoEnds.{C, c}
use Rattle.sspi_completeness.proofs.Texts.{HasDelegated, delegates}

pub comes_to_ok : (messages limit : ℕ) (identity : AuthIdentity) (result : Result Delegation DelegateError) → messages ≤ limit →
    Settled messages limit identity result → ComesToOkIn messages identity result
comes_to_ok messages limit identity (Ok delegation) enough settled = settled
comes_to_ok messages limit identity (Err (errors.Client error)) enough settled = settled
comes_to_ok messages limit identity (Err (errors.Server error)) enough settled = settled
comes_to_ok messages limit identity (Err (errors.Read to kind)) enough settled = settled
comes_to_ok messages limit identity (Err (errors.Write from)) enough settled = settled
comes_to_ok messages limit identity (Err errors.LinkFault) enough settled = settled
comes_to_ok messages limit identity (Err errors.TurnsSpent) enough settled = omega (arith, enough, settled)
comes_to_ok messages limit identity (Err errors.InsufficientMemory) enough settled = tt

pub cut_short : (messages limit : ℕ) (identity : AuthIdentity) (result : Result Delegation DelegateError) → limit < messages →
    IfOk result (λ delegation. delegation.rounds ≤ limit) → Settled messages limit identity result → IsCutShort result
cut_short messages limit identity (Ok delegation) few within settled = omega (arith, few, within, settled.0)
cut_short messages limit identity (Err (errors.Client error)) few within settled = settled
cut_short messages limit identity (Err (errors.Server error)) few within settled = settled
cut_short messages limit identity (Err (errors.Read to kind)) few within settled = settled
cut_short messages limit identity (Err (errors.Write from)) few within settled = settled
cut_short messages limit identity (Err errors.LinkFault) few within settled = settled
cut_short messages limit identity (Err errors.TurnsSpent) few within settled = tt
cut_short messages limit identity (Err errors.InsufficientMemory) few within settled = tt

module _ {C P : Type 0} (p : ProxyMeaning P) (told : Option (ℕ → NetworkRequest → Reply)) (call : ℕ) (a : ClientView C) (b : ServerView C P)
    (matching : AreMatching p told call a b) where
  pub delegated : HasDelegated a.settings.delegation matching.identity
  delegated = delegates a.settings.delegation matching.identity matching.identity_is matching.short

  pub alike : AreAlike a b delegated.text (delegated_as a.settings.delegation matching.identity)
  alike = record {
    key_same = matching.key_same;
    key_short = matching.key_short;
    versions = matching.versions;
    client_takes = le-ltb b.settings.version a.settings.least matching.client_takes;
    server_takes = le-ltb a.settings.version b.settings.least matching.server_takes;
    client_version = matching.client_version;
    server_version = matching.server_version;
    nonce = matching.nonce;
    text_is = ap (λ (cr : Credentials). delegated_text cr a.settings.delegation) matching.credentials_are ∙ delegated.is;
    text_short = delegated.short;
    delegates = delegated.holds;
  }

module _ {D P : Type 0} (told : D → Option (ℕ → NetworkRequest → Reply)) (calls faults : D → ℕ) (laws : IsContext c) (p : ProxyMeaning P)
    (a : ClientView C) (b : ServerView C P) (kdc : D) (client_new : IsFreshClient a) (server_new : IsFreshServer b)
    (matching : AreMatching p (told kdc) (calls kdc) a b) where
  abbrev given : AuthIdentity
  given = delegated_as a.settings.delegation matching.identity

  abbrev Known : ℕ → Type 1
  Known last = IsKnown c (kdc_calls told calls faults) p a b kdc last given

  known_so : (j : ℕ) (early : Bool) → IsNegotiation c laws (kdc_calls told calls faults) p a b kdc j early → Known (suc (suc j))
  known_so j early it =
      known c laws (kdc_calls told calls faults) p a b kdc j early it (delegated p (told kdc) (calls kdc) a b matching).text given
      (alike p (told kdc) (calls kdc) a b matching) client_new server_new

  -- the number of the client's last message
  abbrev last_by : Protocol → Choice → ℕ
  last_by Ntlm choice = 3
  last_by Kerberos choices.Ntlm = 4
  last_by Kerberos choices.Kerberos = 3
  last_by Kerberos choices.MsKerberos = 3

  negotiated : (meet : Meeting D P) (begins : Protocol) (choice : Choice) → meet.come.begins ≡ begins → meet.come.picked.choice ≡ choice →
      Needs (meet.told meet.kdc) (meet.calls meet.kdc) begins choice
      (kdc_url meet.client_config meet.come.client_hand meet.matching.identity.username) meet.come.server_hand meet.matching.identity →
      (j : ℕ) × (early : Bool) × IsCourse meet j early × (suc (suc j) ≡ last_by begins choice)
  negotiated meet Ntlm choice by picks needs = (1, true, ntlm_course meet by needs, refl)
  negotiated meet Kerberos choices.Ntlm by picks needs = (2, true, changed_course meet by needs.0 picks needs.1, refl)
  negotiated meet Kerberos choices.MsKerberos by picks needs =
      (1, false, kerberos_course meet by (kerberos_picked meet by picks) needs, refl)
  negotiated meet Kerberos choices.Kerberos by picks needs = absurd (never_second meet by picks)

  counted : (begins : Protocol) (choice : Choice) → suc (last_by begins choice) ≡ messages_by begins choice
  counted Ntlm choice = refl
  counted Kerberos choices.Ntlm = refl
  counted Kerberos choices.Kerberos = refl
  counted Kerberos choices.MsKerberos = refl

  known_by : (cm : ClientMode) (sm : ServerMode) → a.settings.mode ≡ cm → b.settings.mode ≡ sm →
      (modes : MatchModes (told kdc) (calls kdc) a.settings.target matching.identity cm sm) →
      (last : ℕ) × Known last × (suc last ≡ messages_of (told kdc) (calls kdc) a.settings.target matching.identity cm sm modes)
  known_by (client_mode.Ntlm config) (server_mode.Ntlm config2) client_is server_is eight = (
    2,
    known_so 0 false (ntlm.negotiation kerberos_meaning laws (kdc_calls told calls faults) p (told kdc) (calls kdc) a b kdc matching
        config config2
        client_is server_is eight),
    refl,
  )
  known_by (client_mode.Negotiate config) (server_mode.Negotiate config2) client_is server_is come =
      let meet : Meeting D P = record {
        told = told;
        calls = calls;
        faults = faults;
        laws = laws;
        proxy = p;
        client = a;
        server = b;
        kdc = kdc;
        matching = matching;
        client_config = config;
        server_config = config2;
        client_is = client_is;
        server_is = server_is;
        come = come;
      } in
      let course = negotiated meet come.begins come.picked.choice refl refl come.needs in (
        suc (suc course.0),
        known_so course.0 course.1 (negotiation meet course.0 course.1 course.2),
        ap suc course.3 ∙ counted come.begins come.picked.choice,
      )
  known_by (client_mode.Ntlm config) (server_mode.Negotiate config2) client_is server_is never = absurd never
  known_by (client_mode.Negotiate config) (server_mode.Ntlm config2) client_is server_is never = absurd never

  pub settled_plainly : (due : TsRequest → Type 0) (kdc2 : D) (base : List Carried) (start now limit : ℕ) (x : ClientView C)
      (y : ServerView C P) (edits edits2 : Option (List Edit))
      (result : Result Delegation DelegateError) (turns : List Turn) (log : List Carried) → IsUndisturbed edits base log start now →
      RunEnds base start limit result turns log now → StaysTold edits edits2 base log →
      AnswerTold edits start now result log turns →
      ClientPast c (kdc_calls told calls faults) due a kdc result (client_turns turns) x kdc2 → ServerHistory c p b (server_turns turns) y →
      IsCalm (p.faults b.proxy) (p.faults y.proxy) →
      IfOk result (λ delegation. GivesNewest c (server_end y) (server_turns turns) delegation.credentials) →
      Settled (messages_in matching) limit given result
  settled_plainly due kdc2 base start now limit x y edits edits2 result turns log undisturbed ends stays still clients servers calm gives =
      let it = known_by a.settings.mode b.settings.mode refl refl matching.modes in
      subst (λ (n : ℕ). Settled n limit given result) it.2
      (settled c (kdc_calls told calls faults) p a b kdc it.0 given it.1 due base start now limit x kdc2 y edits edits2 result turns log
      undisturbed ends stays still clients servers calm gives)
