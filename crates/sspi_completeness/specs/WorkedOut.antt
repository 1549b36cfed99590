-- What an exchange worked by hand leaves: both ends, its KDC, its link and its transcript, and that
-- they are those of a run.
use Rattle.std.specs.Prelude.{ℕ, Option, Some, Result}
use Rattle.sspi_names.specs.declared.network.NetworkRequest.{NetworkRequest}
use Rattle.sspi_mech.specs.declared.step.Reply.{Reply}
use Rattle.sspi_mech.specs.Kerberos.{kerberos_meaning}
use Rattle.sspi_mech.specs.KerberosStage.{KerberosState}
use Rattle.sspi_mech.specs.Meaning.{Meaning}
use Rattle.sspi_mech.specs.Ntlm.{ntlm_meaning}
use Rattle.sspi_mech.specs.NtlmStage.{NtlmState}
use Rattle.sspi_mech.specs.PlainKdc.{PlainKdcState, told_by}
use Rattle.sspi_credssp.specs.declared.context.SspiContext.{SspiContext}
use Rattle.sspi_credssp.specs.Context.{ContextSetting, either}
use Rattle.sspi_credssp.specs.Ends.{ClientView, ServerView}
use Rattle.sspi_credssp.specs.Exchange.{delegated_as}
use Rattle.sspi_credssp.specs.Table.{TableView, table_meaning}
use Rattle.sspi_delegate.specs.declared.answer.Delegation.{Delegation}
use Rattle.sspi_delegate.specs.declared.answer.DelegateError.{DelegateError}
use Rattle.sspi_delegate.specs.Headline.{Around, around_by, Parties, parties, Delegates}
use Rattle.sspi_delegate.specs.Link.{MemoryLinkView}
use Rattle.sspi_completeness.specs.declared.worked.ends.Exchanged.{Exchanged}
use Rattle.sspi_completeness.specs.Answered.{AnswersIn}
use Rattle.sspi_completeness.specs.Matching.{AreMatching, NothingDisturbs}
use Rattle.sspi_completeness.specs.Worked.{Example, IsClientOf, IsServerOf}

-- the context of either end, and its meaning
abbrev pub Plain : Type 0
Plain = SspiContext NtlmState KerberosState

abbrev pub plain_meaning : Meaning ContextSetting Plain
plain_meaning = either 0 ntlm_meaning kerberos_meaning

-- the replies that a plain KDC exposes
abbrev pub kdc_told : PlainKdcState → Option (ℕ → NetworkRequest → Reply)
kdc_told kdc = Some (told_by kdc.users kdc.script)

-- what surrounds both ends: a proxy with a table, a link in memory and a plain KDC
abbrev pub in_memory : Around TableView MemoryLinkView PlainKdcState
in_memory =
    around_by table_meaning (λ link. link.log) (λ link. Some link.edits) (λ link. link.faults)
    kdc_told (λ kdc. kdc.asked)
    (λ kdc. kdc.faults)

-- The participants were made as in the example, they match, and nothing disturbed them. What they
-- left is a delegation's, whose turns and log are a run (`IsRun`). The answer is the one that was
-- worked by hand.
pub record WorkedOut (x : Example) (messages limit : ℕ) (answer : Result Delegation DelegateError)
    (new : Parties Plain TableView MemoryLinkView PlainKdcState) : Type 0 where
  pub old : Parties Plain TableView MemoryLinkView PlainKdcState
  pub client_is : IsClientOf x old.client
  pub server_is : IsServerOf x old.server
  pub matching : AreMatching table_meaning (kdc_told old.kdc) old.kdc.asked old.client old.server
  pub undisturbed : NothingDisturbs in_memory old new
  pub delegates : Delegates plain_meaning in_memory old limit answer new
  pub answers : AnswersIn messages limit (delegated_as x.delegation x.identity) answer

-- the same for what was returned
abbrev pub IsWorked : Example → ℕ → ℕ → Exchanged (ClientView Plain) (ServerView Plain TableView) →
    Type 0
IsWorked x messages limit it = WorkedOut x messages limit it.answer
    (parties it.client it.server it.link it.kdc it.transcript.turns)
