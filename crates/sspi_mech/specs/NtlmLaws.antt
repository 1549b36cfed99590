-- Plain NTLM is a mechanism.
use Rattle.std.specs.Prelude.{◌≡◌, ℕ, List, Bool, true, false, Option, None, Some, Result, Ok, Err}
use Rattle.std.specs.Prelude.{refl}
use Rattle.std.proofs.Common.{ap, subst, arith}
use Rattle.sspi_types.specs.declared.error.Error.{Error}
use Rattle.sspi_types.specs.declared.error_kind.ErrorKind.{ErrorKind}
use Rattle.sspi_names.specs.declared.credentials.CredentialsBuffers.{CredentialsBuffers}
use Rattle.sspi_mech.specs.declared.ntlm.login.Login.{Login}
use Rattle.sspi_mech.specs.declared.ntlm.stage.Claim.{Claim}
use Rattle.sspi_mech.specs.declared.ntlm.stage.Stage.{Stage}
use Rattle.sspi_mech.specs.declared.ntlm.stage.Stage.TheVariants.{Unused, NegotiateSent}
use Rattle.sspi_mech.specs.declared.ntlm.stage.Stage.TheVariants.{AuthenticateSent, ChallengeSent}
use Rattle.sspi_mech.specs.declared.ntlm.stage.Stage.TheVariants.{Claimed}
use Rattle.sspi_mech.specs.declared.step.Answer.{Answer}
use Rattle.sspi_mech.specs.declared.step.Answer.TheVariants.{Done, Ask, Refused}
use Rattle.sspi_mech.specs.declared.step.Reply.{Reply}
use Rattle.sspi_mech.specs.declared.step.Step.{Step}
use Rattle.sspi_mech.specs.Calls.{StepArgs}
use Rattle.sspi_mech.specs.Laws.{IsMechanism}
use Rattle.sspi_mech.specs.Ntlm.{ntlm_meaning, NtlmMade, NtlmSteps, NtlmResumes}
use Rattle.sspi_mech.specs.NtlmClaims.{claim_of}
use Rattle.sspi_mech.specs.NtlmIdentities.{with_key, key_at}
use Rattle.sspi_mech.specs.NtlmMessages.{is_negotiate, read_challenge}
use Rattle.sspi_mech.specs.NtlmStage.{NtlmState, own_direction, peer_direction}
use Rattle.sspi_mech.specs.NtlmSteps.{Outcome, Goes, Stops, Steps, login_of, authenticates_as}
use Rattle.sspi_mech.specs.NtlmSteps.{authenticates, client_step, challenges}
use Rattle.sspi_mech.specs.NtlmSteps.{claims, server_step}
use Rattle.sspi_mech.specs.Protection.{counts_of}
use Rattle.sspi_mech.specs.Tags.{one_text, long_blob}
use Rattle.sspi_mech.specs.Settings.{Setting, OfNtlm, OfKerberos, OfKerberosServer}

-- an outcome keeps the counts of its object
abbrev pub Keeps : NtlmState → Outcome → Type 0
Keeps m (Goes m2 s) = counts_of m2.protection ≡ counts_of m.protection
Keeps m (Stops kind) = Unit {0}

authenticates_as_keeps : (m : NtlmState) (challenge : List ℕ) (login : Result Login ErrorKind) →
    Keeps m (authenticates_as m challenge login)
authenticates_as_keeps m challenge (Ok login) = refl
authenticates_as_keeps m challenge (Err kind) = tt

authenticates_keeps : (m : NtlmState) (challenge : Option (List ℕ))
    (handle : Option CredentialsBuffers) →
    Keeps m (authenticates m challenge handle)
authenticates_keeps m None handle = tt
authenticates_keeps m (Some challenge) handle = authenticates_as_keeps m challenge (login_of handle)

client_keeps : (stage : Stage) (m : NtlmState) (handle : Option CredentialsBuffers)
    (input : List ℕ) →
    Keeps m (client_step stage m handle input)
client_keeps Unused m handle input = refl
client_keeps NegotiateSent m handle input = authenticates_keeps m (read_challenge input) handle
client_keeps (AuthenticateSent name) m handle input = tt
client_keeps ChallengeSent m handle input = tt
client_keeps (Claimed claim) m handle input = tt

challenges_keeps : (m : NtlmState) (b : Bool) → Keeps m (challenges m b)
challenges_keeps m true = refl
challenges_keeps m false = tt

claims_keeps : (m : NtlmState) (claim : Result Claim ErrorKind) → Keeps m (claims m claim)
claims_keeps m (Ok claim) = refl
claims_keeps m (Err kind) = tt

server_keeps : (stage : Stage) (m : NtlmState) (input : List ℕ) →
    Keeps m (server_step stage m input)
server_keeps Unused m input = challenges_keeps m (is_negotiate input)
server_keeps NegotiateSent m input = tt
server_keeps (AuthenticateSent name) m input = tt
server_keeps ChallengeSent m input = claims_keeps m (claim_of input)
server_keeps (Claimed claim) m input = tt

steps_keep : (outcome : Outcome) (m m2 : NtlmState) (r : Result Step Error) → Keeps m outcome →
    Steps outcome m r m2 →
    counts_of m2.protection ≡ counts_of m.protection
steps_keep outcome m m2 (Ok s) keeps stepped = subst (Keeps m) stepped keeps
steps_keep outcome m m2 (Err e) keeps stepped =
    ap (λ (x : NtlmState). counts_of x.protection) stepped.1

step_counts : (m m2 : NtlmState) (a : StepArgs) (r : Answer) → NtlmSteps m a r m2 →
    counts_of m2.protection ≡ counts_of m.protection
step_counts m m2 a (Done s) stepped = steps_keep _ m m2 (Ok s)
    (client_keeps m.stage m a.handle a.input) stepped
step_counts m m2 a (Ask q) stepped = absurd stepped
step_counts m m2 a (Refused e) stepped = steps_keep _ m m2 (Err e)
    (client_keeps m.stage m a.handle a.input) stepped

resume_counts : (m m2 : NtlmState) (b : Reply) (r : Answer) → NtlmResumes m b r m2 →
    counts_of m2.protection ≡ counts_of m.protection
resume_counts m m2 b (Done s) resumed = absurd resumed
resume_counts m m2 b (Ask q) resumed = absurd resumed
resume_counts m m2 b (Refused e) resumed = ap (λ (x : NtlmState). counts_of x.protection) resumed.1

with_key_counts : (m m2 : NtlmState) (key : Result (List ℕ) ErrorKind) → with_key m key ≡ Ok m2 →
    counts_of m2.protection ≡ counts_of m.protection
with_key_counts m m2 (Ok key) is = cc
with_key_counts m m2 (Err kind) is = cc

made_fresh : (s : Setting) (m : NtlmState) → NtlmMade s m → counts_of m.protection ≡ record
    { sealings = 0; unsealings = 0; signings = 0; verifications = 0 }
made_fresh (OfNtlm config) m made = ap (λ (x : NtlmState). counts_of x.protection) made
made_fresh (OfKerberos config) m made = ap (λ (x : NtlmState). counts_of x.protection) made
made_fresh (OfKerberosServer config server) m made =
    ap (λ (x : NtlmState). counts_of x.protection) made

pub ntlm_laws : IsMechanism 0 ntlm_meaning
ntlm_laws = record {
  made_fresh = made_fresh;
  made_left = λ s m made. omega arith;
  step_refused = λ m m2 a e stepped. stepped.1;
  resume_refused = λ m m2 b e resumed. resumed.1;
  accept_refused = λ m m2 a e accepted. accepted.1;
  step_asks = λ m m2 a q stepped. absurd stepped;
  resume_asks = λ m m2 b q resumed. absurd resumed;
  acquire_left = λ m m2 u d b acquired. omega arith;
  step_left = λ m m2 a r stepped. omega arith;
  resume_left = λ m m2 b r resumed. omega arith;
  accept_left = λ m m2 a r accepted. omega arith;
  identify_left = λ m m2 ids is. omega arith;
  step_waits = λ m m2 a q stepped. absurd stepped;
  resume_waits = λ m m2 b q resumed. absurd resumed;
  step_done = λ m m2 a s stepped. refl;
  resume_done = λ m m2 b s resumed. refl;
  accept_done = λ m m2 a s accepted. refl;
  acquire_counts = λ m m2 u d b acquired. ap (λ (x : NtlmState). counts_of x.protection) acquired.1;
  step_counts = step_counts;
  resume_counts = resume_counts;
  accept_counts = λ m m2 a r accepted. steps_keep _ m m2 r (server_keeps m.stage m a.input)
      accepted;
  identify_counts = λ m m2 ids is. with_key_counts m m2 (key_at m.stage m.challenge ids) is;
  counts_counted = λ m n. refl;
  counted_counted = λ m n k. refl;
  counted_counts = λ m. refl;
  names_counted = λ m n. refl;
  keyed_counted = λ m n. refl;
  session_key_counted = λ m n. refl;
  waits_counted = λ m n. refl;
  left_counted = λ m n. refl;
  pairs_counted = λ m n. refl;
  seals_counted = λ m n i text blob sealed. sealed;
  opens_counted = λ m n i blob text opened. opened;
  signs_counted = λ m n i text mic signed. signed;
  verifies_counted = λ m n i mic text verified. verified;
  one_text = λ m i blob text other opened again. one_text m.protection.key (peer_direction m.stage)
      i blob text other opened again;
  long_blob = λ m i text blob sealed. long_blob m.protection.key (own_direction m.stage) i text blob
      sealed;
}
