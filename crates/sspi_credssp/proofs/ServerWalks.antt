-- A server's walk continues while its context only counts, and as it comes to know its peer.
use Rattle.std.proofs.Common.{◌≡◌, ℕ, List, Option, Some, None, Result, Ok, Err, true, refl, sym, subst}
use Rattle.sspi_types.specs.declared.error.Error.{Error}
use Rattle.sspi_types.specs.declared.security_status.SecurityStatus.{SecurityStatus}
use Rattle.sspi_types.specs.declared.security_status.SecurityStatus.TheVariants as statuses
use Rattle.sspi_names.specs.declared.credentials.CredentialsBuffers.{CredentialsBuffers}
use Rattle.sspi_tsreq.specs.declared.request.TsRequest.{TsRequest}
use Rattle.sspi_mech.specs.declared.step.Step.{Step}
use Rattle.sspi_mech.specs.Context.{IsContext}
use Rattle.sspi_mech.specs.Meaning.{Meaning}
use Rattle.sspi_credssp.specs.Context.{IfContext, ContextSetting}
use Rattle.sspi_credssp.specs.Acts.{SameBut}
use Rattle.sspi_credssp.specs.Proxy.{ProxyMeaning}
use Rattle.sspi_credssp.specs.Ends.{ServerView}
use Rattle.sspi_credssp.specs.ServerTurn.{Knowing, Unknown, Completed, Accepted, AcceptedSoFar, RefusedAt, HasAccepted, HasCome, DoneStep}
use Rattle.sspi_credssp.specs.ServerTurn.{OnStep, refused_step, known_at, recounted, so_far}
use Rattle.sspi_credssp.specs.ServerStage.{CompletedStep}
use Rattle.sspi_credssp.specs.Turn.{IsOver}
use Rattle.sspi_credssp.proofs.Walks.{recounted_as, silent_as}

module _ {C P : Type 0} (c : Meaning ContextSetting C) (laws : IsContext c) (p : ProxyMeaning P) where
  pub accepted_on : (start : ServerView C P) (handle : Option CredentialsBuffers) (token : Option (List ℕ)) (known : Knowing)
      (answer : Result Step Error)
      (o o2 : Option C) → SameBut c o o2 → IfContext o (Accepted c p start handle token known answer) →
      IfContext o2 (Accepted c p start handle token known answer)
  accepted_on start handle token known answer None o2 same accepted = absurd accepted
  accepted_on start handle token known answer (Some m) None same accepted = absurd same
  accepted_on start handle token known answer (Some m) (Some m2) same accepted =
      recounted m m2 (c.counts m2) known answer accepted (recounted_as c laws m m2 same) (silent_as c laws m m2 same)

  -- the same step for a view with the same handle and output
  pub come_on : (known : Knowing) (status : SecurityStatus) (start old new : ServerView C P) (d : TsRequest) → new.handle ≡ old.handle →
      new.output ≡ old.output →
      IfContext new.context (Accepted c p start old.handle d.nego_tokens known (Ok (record { status = status; output = old.output }))) →
      HasCome c p known status start d new
  come_on known status start old new d same_handle same_output h = rw (same_handle, same_output) h

  pub known_so_far : (start : ServerView C P) (handle : Option CredentialsBuffers) (token : Option (List ℕ)) (known : Knowing)
      (answer : Result Step Error)
      (o : Option C) → IfContext o (Accepted c p start handle token known answer) →
      IfContext o (AcceptedSoFar c p start handle token answer)
  known_so_far start handle token known answer None accepted = absurd accepted
  known_so_far start handle token known answer (Some m) accepted = so_far known accepted

  -- a call that changes only the context's counts, once the peer is known
  pub completed_on : {T : Type 0} (start : ServerView C P) (handle : Option CredentialsBuffers) (token : Option (List ℕ))
      (answer : Result Step Error)
      (r : Result T Error) (o o2 : Option C) → SameBut c o o2 → IfContext o (Accepted c p start handle token Completed answer) →
      CompletedStep c p start handle token answer r o2
  completed_on start handle token answer (Ok x) o o2 same accepted = accepted_on start handle token Completed answer o o2 same accepted
  completed_on start handle token answer (Err e) o o2 same accepted =
      known_so_far start handle token Completed answer o2 (accepted_on start handle token Completed answer o o2 same accepted)

  -- a call that was refused before it looked up its peer
  pub unknown_at : (s : SecurityStatus) (start : ServerView C P) (handle : Option CredentialsBuffers) (token : Option (List ℕ))
      (answer : Result Step Error)
      (m : C) → Accepted c p start handle token Unknown answer m → RefusedAt c p (Some s) start handle token answer m
  unknown_at statuses.Ok start handle token answer m h = so_far Unknown h
  unknown_at statuses.ContinueNeeded start handle token answer m h = h
  unknown_at statuses.CompleteNeeded start handle token answer m h = so_far Unknown h
  unknown_at statuses.CompleteAndContinue start handle token answer m h = h
  unknown_at statuses.LocalLogon start handle token answer m h = h
  unknown_at statuses.ContextExpired start handle token answer m h = h
  unknown_at statuses.IncompleteCredentials start handle token answer m h = h
  unknown_at statuses.Renegotiate start handle token answer m h = h
  unknown_at statuses.NoLsaContext start handle token answer m h = h

  pub unknown_refused : (s : SecurityStatus) (start : ServerView C P) (handle : Option CredentialsBuffers) (token : Option (List ℕ))
      (answer : Result Step Error)
      (o : Option C) → IfContext o (Accepted c p start handle token Unknown answer) →
      IfContext o (RefusedAt c p (Some s) start handle token answer)
  unknown_refused s start handle token answer None h = absurd h
  unknown_refused s start handle token answer (Some m) h = unknown_at s start handle token answer m h

  -- and after it
  over_at : (s : SecurityStatus) (start : ServerView C P) (handle : Option CredentialsBuffers) (token : Option (List ℕ))
      (answer : Result Step Error)
      (m : C) → known_at c p s ≡ Completed → AcceptedSoFar c p start handle token answer m →
      RefusedAt c p (Some s) start handle token answer m
  over_at statuses.Ok start handle token answer m known h = h
  over_at statuses.ContinueNeeded start handle token answer m known h = absurd (cc known)
  over_at statuses.CompleteNeeded start handle token answer m known h = h
  over_at statuses.CompleteAndContinue start handle token answer m known h = absurd (cc known)
  over_at statuses.LocalLogon start handle token answer m known h = absurd (cc known)
  over_at statuses.ContextExpired start handle token answer m known h = absurd (cc known)
  over_at statuses.IncompleteCredentials start handle token answer m known h = absurd (cc known)
  over_at statuses.Renegotiate start handle token answer m known h = absurd (cc known)
  over_at statuses.NoLsaContext start handle token answer m known h = absurd (cc known)

  over_refused : (s : SecurityStatus) (start : ServerView C P) (handle : Option CredentialsBuffers) (token : Option (List ℕ))
      (answer : Result Step Error)
      (o : Option C) → known_at c p s ≡ Completed → IfContext o (AcceptedSoFar c p start handle token answer) →
      IfContext o (RefusedAt c p (Some s) start handle token answer)
  over_refused s start handle token answer None known h = absurd h
  over_refused s start handle token answer (Some m) known h = over_at s start handle token answer m known h

  -- a turn that was refused, and one that was not, once the step had answered
  pub turn_refused : (start now : ServerView C P) (d : TsRequest) (status : SecurityStatus) (error : Error) →
      now.acts.negotiated ≡ true → now.acts.status ≡ Some status →
      IfContext now.context (RefusedAt c p (Some status) start now.handle d.nego_tokens
      (Ok (record { status = status; output = now.output }))) →
      OnStep c p now.acts.negotiated (IfContext now.context (RefusedAt c p now.acts.status start now.handle d.nego_tokens
      (refused_step now.acts.status now.output error)))
  turn_refused start now d status error negotiated answered h =
      subst (λ b. OnStep c p b (IfContext now.context (RefusedAt c p now.acts.status start now.handle d.nego_tokens
      (refused_step now.acts.status now.output error)))) (sym negotiated)
      (subst (λ s. IfContext now.context (RefusedAt c p s start now.handle d.nego_tokens (refused_step s now.output error)))
      (sym answered) h)

  pub turn_done : {T : Type 0} (start now : ServerView C P) (d : TsRequest) (status : SecurityStatus) (value : T) →
      now.acts.status ≡ Some status →
      IfContext now.context (Accepted c p start now.handle d.nego_tokens (known_at c p status)
      (Ok (record { status = status; output = now.output }))) →
      HasAccepted c p start d (Ok value) now
  turn_done start now d status value answered h = subst (λ s. DoneStep c p s start d now) (sym answered) h

  -- the result of a call at the end of the authentication
  pub turn_completed : {T : Type 0} (start now : ServerView C P) (d : TsRequest) (status : SecurityStatus)
      (handle : Option CredentialsBuffers) (output : List ℕ) (r : Result T Error) →
      now.acts.negotiated ≡ true → now.acts.status ≡ Some status → known_at c p status ≡ Completed → now.handle ≡ handle →
      now.output ≡ output →
      CompletedStep c p start handle d.nego_tokens (Ok (record { status = status; output = output })) r now.context →
      HasAccepted c p start d r now
  turn_completed start now d status handle output (Ok value) negotiated answered known same_handle same_output h =
      turn_done start now d status value answered
      (subst (λ k. IfContext now.context (Accepted c p start now.handle d.nego_tokens k
      (Ok (record { status = status; output = now.output })))) (sym known)
      (subst (λ x. IfContext now.context (Accepted c p start x d.nego_tokens Completed
      (Ok (record { status = status; output = now.output })))) (sym same_handle)
      (subst (λ x. IfContext now.context (Accepted c p start handle d.nego_tokens Completed
      (Ok (record { status = status; output = x })))) (sym same_output) h)))
  turn_completed start now d status handle output (Err error) negotiated answered known same_handle same_output h =
      turn_refused start now d status error negotiated answered
      (over_refused status start now.handle d.nego_tokens _ now.context known
      (subst (λ x. IfContext now.context (AcceptedSoFar c p start x d.nego_tokens (Ok (record { status = status; output = now.output }))))
      (sym same_handle)
      (subst (λ x. IfContext now.context (AcceptedSoFar c p start handle d.nego_tokens (Ok (record { status = status; output = x }))))
      (sym same_output) h)))

  -- with the error that the call returns
  pub refused_as : (start now : ServerView C P) (d : TsRequest) (error error2 : Error) → error2 ≡ error →
      OnStep c p now.acts.negotiated (IfContext now.context (RefusedAt c p now.acts.status start now.handle d.nego_tokens
      (refused_step now.acts.status now.output error))) →
      OnStep c p now.acts.negotiated (IfContext now.context (RefusedAt c p now.acts.status start now.handle d.nego_tokens
      (refused_step now.acts.status now.output error2)))
  refused_as start now d error error2 same h =
      subst (λ e. OnStep c p now.acts.negotiated (IfContext now.context (RefusedAt c p now.acts.status start now.handle d.nego_tokens
      (refused_step now.acts.status now.output e)))) (sym same) h

  pub known_over : (s : SecurityStatus) → IsOver (Some s) → known_at c p s ≡ Completed
  known_over statuses.Ok over = refl
  known_over statuses.ContinueNeeded over = absurd over
  known_over statuses.CompleteNeeded over = refl
  known_over statuses.CompleteAndContinue over = absurd over
  known_over statuses.LocalLogon over = absurd over
  known_over statuses.ContextExpired over = absurd over
  known_over statuses.IncompleteCredentials over = absurd over
  known_over statuses.Renegotiate over = absurd over
  known_over statuses.NoLsaContext over = absurd over
