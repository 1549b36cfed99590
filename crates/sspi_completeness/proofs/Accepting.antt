-- The step of a server's turn, and how far the server then knows its peer.
use Rattle.std.proofs.Common.{◌≡◌, ◌-◌, ◌≢◌, ℕ, ◌<◌, ◌^◌, List, Bool, true, false, Option, None, Some, Result, Ok, Err, refl, ap, ◌∙◌}
use Rattle.std.proofs.Common.{subst}
use Rattle.sspi_types.specs.declared.credential_use.CredentialUse.TheVariants.{Inbound}
use Rattle.sspi_types.specs.declared.error.Error.{Error}
use Rattle.sspi_types.specs.declared.error_kind.ErrorKind.{ErrorKind}
use Rattle.sspi_types.specs.declared.error_kind.ErrorKind.TheVariants.{InsufficientMemory}
use Rattle.sspi_types.specs.declared.security_status.SecurityStatus.{SecurityStatus}
use Rattle.sspi_types.specs.declared.security_status.SecurityStatus.TheVariants as statuses
use Rattle.sspi_names.specs.declared.credentials.CredentialsBuffers.{CredentialsBuffers}
use Rattle.sspi_mech.specs.declared.step.Step.{Step}
use Rattle.sspi_mech.specs.Calls.{ToComplete}
use Rattle.sspi_mech.specs.Context.{IsContext}
use Rattle.sspi_mech.specs.Meaning.{Meaning}
use Rattle.sspi_credssp.specs.Context.{Begun, IfContext, ContextSetting}
use Rattle.sspi_credssp.specs.Acts.{cleared}
use Rattle.sspi_credssp.specs.Proxy.{ProxyMeaning, ProxyTells}
use Rattle.sspi_credssp.specs.Ends.{ServerView}
use Rattle.sspi_credssp.specs.ServerCause.{IdentifyCause}
use Rattle.sspi_credssp.specs.ServerTurn.{Knowing, Unknown, Identified, Completed, IsIdentified, Accepted, accepted, identified, completed}
use Rattle.sspi_credssp.specs.ServerTurn.{recounted, AcceptedSoFar, so_far, RefusedAt, OnStep, refused_step, server_args, server_setting}
use Rattle.sspi_credssp.proofs.Deliver.{bare_after}
use Rattle.sspi_completeness.proofs.Ends.{in_context}

module _ {C : Type 0} (c : Meaning ContextSetting C) (laws : IsContext c) where
  -- naming the peer of context y, as its proxy tells, leads to context z, which is complete
  pub record IsPeer (tells : ProxyTells) (y z : C) : Type 0 where
    pub identified : (m m2 : C) → cleared c m ≡ y → IsIdentified c tells m m2 → cleared c m2 ≡ z
    pub never : (m : C) (before now : ℕ) (kind : ErrorKind) → cleared c m ≡ y → now ≡ before → before < 2 ^ 64 - 1 →
        IdentifyCause c m tells before now kind → ⊥
    pub completes : (m : C) (kind : ErrorKind) → cleared c m ≡ z → c.refuses m ToComplete kind → ⊥

  -- the context came from y once its peer was named
  pub record IsNamed (tells : ProxyTells) (y m : C) : Type 0 where
    pub before : C
    pub after : C
    pub same : cleared c before ≡ y
    pub identifies : IsIdentified c tells before after
    pub cleared_is : cleared c m ≡ cleared c after

  abbrev pub ComesOf : Knowing → ProxyTells → C → C → Type 0
  ComesOf Unknown tells y m = cleared c m ≡ y
  ComesOf Identified tells y m = IsNamed tells y m
  ComesOf Completed tells y m = IsNamed tells y m

  pub named_is : (tells : ProxyTells) (y z m : C) → IsPeer tells y z → IsNamed tells y m → cleared c m ≡ z
  named_is tells y z m peer named = named.cleared_is ∙ peer.identified named.before named.after named.same named.identifies

  recounted_on : (known : Knowing) (tells : ProxyTells) (y m m2 : C) → cleared c m2 ≡ cleared c m → ComesOf known tells y m →
      ComesOf known tells y m2
  recounted_on Unknown tells y m m2 same h = same ∙ h
  recounted_on Identified tells y m m2 same h =
      record { before = h.before; after = h.after; same = h.same; identifies = h.identifies; cleared_is = same ∙ h.cleared_is }
  recounted_on Completed tells y m m2 same h =
      record { before = h.before; after = h.after; same = h.same; identifies = h.identifies; cleared_is = same ∙ h.cleared_is }

  module _ {P : Type 0} (p : ProxyMeaning P) where
    -- all a mode says about a turn's step: its answer, and the context and credentials after it
    pub record Takes (old : ServerView C P) (token : Option (List ℕ)) (step : Step) (y : C)
        (handle : Option CredentialsBuffers) : Type 0 where
      pub done : (h : Option CredentialsBuffers) (m0 m : C) (s : Step) →
          Begun c old.context old.handle (server_setting p old) Inbound None h m0 →
          c.accepts m0 (server_args h token) (Ok s) m → (s ≡ step) × (cleared c m ≡ y) × (h ≡ handle)
      pub never : (h : Option CredentialsBuffers) (m0 m : C) (error : Error) → error.error_type ≢ InsufficientMemory →
          Begun c old.context old.handle (server_setting p old) Inbound None h m0 → c.accepts m0 (server_args h token) (Err error) m → ⊥

    module _ (old : ServerView C P) (token : Option (List ℕ)) (step : Step) (y : C) (handle : Option CredentialsBuffers)
        (takes : Takes old token step y handle) where
      took_done : (h : Option CredentialsBuffers) (known : Knowing) (answer : Result Step Error) (s : Step) (m : C) → answer ≡ Ok s →
          Accepted c p old h token known answer m → (s ≡ step) × ComesOf known (p.told old.proxy) y m × (h ≡ handle)
      took_done h known answer s m is (accepted m0 m1 a begun accepts) =
          takes.done h m0 m s begun (subst (λ (x : Result Step Error). c.accepts m0 (server_args h token) x m) is accepts)
      took_done h known answer s m is (identified m1 m2 a before names) =
          let t = took_done h Unknown answer s m1 is before in
          (t.0, record { before = m1; after = m; same = t.1; identifies = names; cleared_is = refl }, t.2)
      took_done h known answer s m is (completed m1 a before permits) = took_done h Identified answer s m is before
      took_done h known answer s m is (recounted m1 m2 n kn a before counted quiet) =
          let t = took_done h known answer s m1 is before in
          (t.0, recounted_on known (p.told old.proxy) y m1 m (bare_after c laws m1 m n counted quiet) t.1, t.2)

      took_never : (h : Option CredentialsBuffers) (known : Knowing) (answer : Result Step Error) (error : Error) (m : C) →
          answer ≡ Err error →
          error.error_type ≢ InsufficientMemory → Accepted c p old h token known answer m → ⊥
      took_never h known answer error m is others (accepted m0 m1 a begun accepts) =
          takes.never h m0 m error others begun (subst (λ (x : Result Step Error). c.accepts m0 (server_args h token) x m) is accepts)
      took_never h known answer error m is others (identified m1 m2 a before names) = took_never h Unknown answer error m1 is others before
      took_never h known answer error m is others (completed m1 a before permits) = took_never h Identified answer error m is others before
      took_never h known answer error m is others (recounted m1 m2 n kn a before counted quiet) =
          took_never h known answer error m1 is others before

      -- the context of a turn that came this far
      pub record Left (mid : ServerView C P) (known : Knowing) : Type 0 where
        pub held : C
        pub there : mid.context ≡ Some held
        pub comes : ComesOf known (p.told old.proxy) y held
        pub output_is : mid.output ≡ step.output
        pub handle_is : mid.handle ≡ handle

      pub come_at : (mid : ServerView C P) (known : Knowing) (st : SecurityStatus) →
          IfContext mid.context (Accepted c p old mid.handle token known (Ok (record { status = st; output = mid.output }))) →
          (st ≡ step.status) × Left mid known
      come_at mid known st h =
          let there = in_context mid.context _ h in
          let t = took_done mid.handle known _ _ there.0 refl there.2 in (
            ap (λ (x : Step). x.status) t.0,
            record { held = there.0; there = there.1; comes = t.1; output_is = ap (λ (x : Step). x.output) t.0; handle_is = t.2 },
          )

      pub never_at : (mid : ServerView C P) (known : Knowing) (error : Error) → error.error_type ≢ InsufficientMemory →
          IfContext mid.context (Accepted c p old mid.handle token known (Err error)) → ⊥
      never_at mid known error others h = let there = in_context mid.context _ h in took_never mid.handle known _ error there.0 refl
          others there.2

      -- the step of a refused turn was made, and came to the status
      refused_known : (mid : ServerView C P) (st : SecurityStatus) (m : C) → mid.context ≡ Some m →
          AcceptedSoFar c p old mid.handle token (Ok (record { status = st; output = mid.output })) m → st ≡ step.status
      refused_known mid st m there (so_far known took) = ap (λ (x : Step). x.status) (took_done mid.handle known _ _ m refl took).0

      refused_status : (mid : ServerView C P) (status : SecurityStatus) (m : C) → mid.context ≡ Some m →
          RefusedAt c p (Some status) old mid.handle token (Ok (record { status = status; output = mid.output })) m → status ≡ step.status
      refused_status mid statuses.Ok m there h = refused_known mid statuses.Ok m there h
      refused_status mid statuses.ContinueNeeded m there h = refused_known mid statuses.ContinueNeeded m there (so_far Unknown h)
      refused_status mid statuses.CompleteNeeded m there h = refused_known mid statuses.CompleteNeeded m there h
      refused_status mid statuses.CompleteAndContinue m there h = refused_known mid statuses.CompleteAndContinue m there (so_far Unknown h)
      refused_status mid statuses.LocalLogon m there h = refused_known mid statuses.LocalLogon m there (so_far Unknown h)
      refused_status mid statuses.ContextExpired m there h = refused_known mid statuses.ContextExpired m there (so_far Unknown h)
      refused_status mid statuses.IncompleteCredentials m there h =
          refused_known mid statuses.IncompleteCredentials m there (so_far Unknown h)
      refused_status mid statuses.Renegotiate m there h = refused_known mid statuses.Renegotiate m there (so_far Unknown h)
      refused_status mid statuses.NoLsaContext m there h = refused_known mid statuses.NoLsaContext m there (so_far Unknown h)

      pub refused_at : (mid : ServerView C P) (status : Option SecurityStatus) (negotiated : Bool) (error : Error) → negotiated ≡ true →
          error.error_type ≢ InsufficientMemory →
          OnStep c p negotiated (IfContext mid.context (RefusedAt c p status old mid.handle token (refused_step status mid.output error))) →
          status ≡ Some step.status
      refused_at mid None true error was others h = absurd (never_at mid Unknown error others h)
      refused_at mid (Some st) true error was others h = let there =
          in_context mid.context _ h in ap Some (refused_status mid st there.0 there.1 there.2)
      refused_at mid status false error was others h = absurd cc
