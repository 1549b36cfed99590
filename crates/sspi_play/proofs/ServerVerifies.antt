-- A server's context once a turn ended the authentication: a negotiation is over. It has verified a
-- MIC if the selected mechanism needs one, unless the proxy found the identities of a guest.
use Rattle.std.proofs.Common.{◌≡◌, ◌≢◌, ◌≤◌, ℕ, Bool, true, false, List, [], ◌∷◌, map, Option, None, Some, Result, Ok, Err}
use Rattle.std.proofs.Common.{refl, sym, ◌∙◌, ap, subst, ◌&&◌, ◌⊎◌, inl, inr}
use Rattle.std.proofs.Math.Logic.{⊎_map}
use Rattle.std.proofs.lemmas.Bool.{false≢true, and_parts, or_cases}
use Rattle.std.proofs.lemmas.Option.{same_Some}
use Rattle.sspi_types.specs.declared.credential_use.CredentialUse.TheVariants.{Inbound}
use Rattle.sspi_types.specs.declared.error.Error.{Error}
use Rattle.sspi_types.specs.declared.security_status.SecurityStatus.{SecurityStatus}
use Rattle.sspi_types.specs.declared.security_status.SecurityStatus.TheVariants as statuses
use Rattle.sspi_names.specs.Name.{Name, inner_of}
use Rattle.sspi_names.specs.declared.credentials.Credentials.TheVariants as credentials
use Rattle.sspi_names.specs.declared.credentials.CredentialsBuffers.{CredentialsBuffers}
use Rattle.sspi_names.specs.declared.identity.AuthIdentity.{AuthIdentity}
use Rattle.sspi_mech.specs.declared.step.Answer.TheVariants.{Done}
use Rattle.sspi_mech.specs.declared.step.Step.{Step}
use Rattle.sspi_mech.specs.Calls.{AcceptArgs, Counts}
use Rattle.sspi_mech.specs.Laws.{IsMechanism}
use Rattle.sspi_mech.specs.Meaning.{Meaning}
use Rattle.sspi_mech.specs.Settings.{Setting}
use Rattle.sspi_negotiate.specs.declared.protocol.NegotiatedProtocol.{NegotiatedProtocol}
use Rattle.sspi_negotiate.specs.declared.protocol.Protocol.{Protocol}
use Rattle.sspi_negotiate.specs.declared.state.NegotiateState.TheVariants as states
use Rattle.sspi_negotiate.specs.Does.{StaysPicked}
use Rattle.sspi_negotiate.specs.Hand.{hand, hand_of}
use Rattle.sspi_negotiate.specs.Negotiate.{negotiate}
use Rattle.sspi_negotiate.specs.Rows.{is_over as is_over_status, is_guest_text}
use Rattle.sspi_negotiate.specs.Values.{Values, Negotiation, values_of}
use Rattle.sspi_negotiate.specs.Verified.{IsGuestNamed}
use Rattle.sspi_negotiate.proofs.Ending.{server_ended_before}
use Rattle.sspi_credssp.specs.declared.context.SspiContext.{SspiContext}
use Rattle.sspi_credssp.specs.declared.context.SspiContext.TheVariants as contexts
use Rattle.sspi_credssp.specs.declared.mode.ServerMode.{ServerMode}
use Rattle.sspi_credssp.specs.declared.mode.ServerMode.TheVariants as modes
use Rattle.sspi_credssp.specs.declared.turn.Outcome.{Outcome}
use Rattle.sspi_credssp.specs.declared.turn.Outcome.TheVariants as outcome
use Rattle.sspi_credssp.specs.declared.turn.Turn.{Turn}
use Rattle.sspi_credssp.specs.Acts.{cleared}
use Rattle.sspi_credssp.specs.Context.{Begun, goes_on, is_new, IfContext, ForServer, either}
use Rattle.sspi_credssp.specs.Ends.{ServerView}
use Rattle.sspi_credssp.specs.Proxy.{ProxyMeaning, AreFound}
use Rattle.sspi_credssp.specs.ServerTurn as accept
use Rattle.sspi_credssp.specs.ServerTurn.{UnlessMade}
use Rattle.sspi_credssp.specs.Turn.{ShowsServerActs, server_shown}
use Rattle.sspi_delegate.specs.Chain.{ServerStage, server_at, ServerMovedBy, ServerChain}
use Rattle.sspi_delegate.specs.Turns.{ServerEnd, EachServerTurn, server_frame_at, is_over, is_replied, any_over}
use Rattle.sspi_delegate.specs.Turns.{IsUnrefused, NoneRefused, OthersUnrefused}
use Rattle.sspi_play.specs.Negotiated.{TookGuest, TookGuestAt, NeedsMic, HasVerifiedOrGuest}
use Rattle.sspi_play.proofs.ClientVerifies.{VerifiedOne, one_stays, verified_one}
use Rattle.sspi_play.proofs.Contexts.{identified_hand}
use Rattle.sspi_play.proofs.Marks.{hand_keeps}
use Rattle.sspi_play.proofs.OnNegotiation.{OnNegotiation, map_on, IsLike, IsOfLike, counted_on, cleared_on}
use Rattle.sspi_play.proofs.ServerNeeds.{AreNeeded, server_secured}
use Rattle.sspi_play.proofs.ServerOver.{not_over, some_status, over_some, replied_unrefused}
use Rattle.sspi_play.proofs.ServerPicks.{by_state}

-- ---- what a step leaves

module _ {N K P : Type 0} (r : ℕ) (n : Meaning Setting N) (k : Meaning Setting K) (p : ProxyMeaning P)
    (first : ServerView (SspiContext N K) P) where
  -- a guest's context that has since sealed and opened more
  guest_left : (stage : ServerStage (SspiContext N K)) (token : Option (List ℕ)) (m m2 : SspiContext N K) →
      cleared (either r n k) m2 ≡ cleared (either r n k) m → TookGuestAt r n k p first stage token (Some m) →
      TookGuestAt r n k p first stage token (Some m2)
  guest_left stage token m m2 same h = record {
    handle = h.handle;
    step = h.step;
    before = h.before;
    stepped = h.stepped;
    name = h.name;
    named = h.named;
    is_guest = h.is_guest;
    identities = h.identities;
    found = h.found;
    some = h.some;
    taken = h.taken;
    peer = h.peer;
    left = same ∙ h.left;
  }

  like_same : (s : Negotiation (NegotiatedProtocol N K)) (mech : NegotiatedProtocol N K) → IsLike n k s.mech mech →
      cleared (either r n k) (contexts.Negotiate (record s { mech = mech })) ≡ cleared (either r n k) (contexts.Negotiate s)
  like_same s mech like = ap (λ (x : NegotiatedProtocol N K). contexts.Negotiate (record s { mech = x })) like.cleared

  module _ (stage : ServerStage (SspiContext N K)) (token : Option (List ℕ)) where
    -- a peer from whom no MIC is needed, by how far the server knows it
    abbrev Excuses : accept.Knowing → Negotiation (NegotiatedProtocol N K) → Type 0
    Excuses accept.Unknown = λ s. IsGuestNamed (hand n k) s.mech
    Excuses accept.Identified = λ s. TookGuestAt r n k p first stage token (Some (contexts.Negotiate s))
    Excuses accept.Completed = λ s. TookGuestAt r n k p first stage token (Some (contexts.Negotiate s))

    -- what a step leaves
    record Stepped (known : accept.Knowing) (step : Step) (s : Negotiation (NegotiatedProtocol N K)) : Type 0 where
      begun : s.state ≢ states.Initial
      over : is_over_status step.status ≡ true → s.state ≡ states.Ok
      done : s.state ≡ states.Ok → is_over_status step.status ≡ true
      needs : s.state ≢ states.Ok → AreNeeded (values_of s)
      verified : s.state ≡ states.Ok → NeedsMic (hand_of s.mech) s.list → VerifiedOne n k s ⊎ Excuses known s

    abbrev Next : accept.Knowing → Result Step Error → Negotiation (NegotiatedProtocol N K) → Type 0
    Next known (Ok step) s = Stepped known step s
    Next known (Err error) s = Unit {0}

    stepped_of_like : (known known2 : accept.Knowing) (step : Step) (s : Negotiation (NegotiatedProtocol N K))
        (mech : NegotiatedProtocol N K) → hand_of mech ≡ hand_of s.mech →
        (VerifiedOne n k s → VerifiedOne n k (record s { mech = mech })) →
        (Excuses known s → Excuses known2 (record s { mech = mech })) → Stepped known step s →
        Stepped known2 step (record s { mech = mech })
    stepped_of_like known known2 step s mech same one excuse h = record {
      begun = h.begun;
      over = h.over;
      done = h.done;
      needs = λ before mic. h.needs before (subst (λ (x : Protocol). NeedsMic x s.list) same mic);
      verified = λ at mic. ⊎_map one excuse (h.verified at (subst (λ (x : Protocol). NeedsMic x s.list) same mic));
    }

    excuse_of_like : (known : accept.Knowing) (s : Negotiation (NegotiatedProtocol N K)) (mech : NegotiatedProtocol N K) →
        IsLike n k s.mech mech → Excuses known s → Excuses known (record s { mech = mech })
    excuse_of_like accept.Unknown s mech like h = record { name = h.name; named = like.names ∙ h.named; is_guest = h.is_guest }
    excuse_of_like accept.Identified s mech like h = guest_left stage token (contexts.Negotiate s) _ (like_same s mech like) h
    excuse_of_like accept.Completed s mech like h = guest_left stage token (contexts.Negotiate s) _ (like_same s mech like) h

    next_of_like : (known : accept.Knowing) (x : Result Step Error) → IsOfLike n k (Next known x)
    next_of_like known (Ok step) = λ s mech like h. stepped_of_like known known step s mech like.protocol
        (λ one. one_stays n k s.mech mech like one) (excuse_of_like known s mech like) h
    next_of_like known (Err error) = λ s mech like h. tt

  -- ---- what holds between two turns

  record Guards (turns : List Turn) (s : Negotiation (NegotiatedProtocol N K)) : Type 0 where
    needs : s.state ≢ states.Initial → s.state ≢ states.Ok → AreNeeded (values_of s)
    over : any_over turns ≡ true → s.state ≡ states.Ok
    verified : s.state ≡ states.Ok → NeedsMic (hand_of s.mech) s.list →
        VerifiedOne n k s ⊎ TookGuest r n k p first turns (Some (contexts.Negotiate s))

  guest_of_like : (turns : List Turn) (s : Negotiation (NegotiatedProtocol N K)) (mech : NegotiatedProtocol N K) → IsLike n k s.mech mech →
      TookGuest r n k p first turns (Some (contexts.Negotiate s)) →
      TookGuest r n k p first turns (Some (contexts.Negotiate (record s { mech = mech })))
  guest_of_like turns s mech like h = record {
    at = h.at;
    stage = h.stage;
    came = h.came;
    took = guest_left h.stage h.at.turn.delivered.nego_tokens (contexts.Negotiate s) _ (like_same s mech like) h.took;
  }

  guards_of_like : (turns : List Turn) → IsOfLike n k (Guards turns)
  guards_of_like turns = λ s mech like h. record {
    needs = λ begun before mic. h.needs begun before (subst (λ (x : Protocol). NeedsMic x s.list) like.protocol mic);
    over = h.over;
    verified = λ at mic. ⊎_map (λ one. one_stays n k s.mech mech like one) (guest_of_like turns s mech like)
        (h.verified at (subst (λ (x : Protocol). NeedsMic x s.list) like.protocol mic));
  }

  guest_more : (t : Turn) (past : List Turn) (context : Option (SspiContext N K)) → TookGuest r n k p first past context →
      TookGuest r n k p first (t ∷ past) context
  guest_more t past context h = record {
    at = record {
      later = t ∷ h.at.later;
      turn = h.at.turn;
      before = h.at.before;
      parts = ap (λ (l : List Turn). t ∷ l) h.at.parts;
    };
    stage = h.stage;
    came = h.came;
    took = h.took;
  }

  -- the guest of the newest turn
  guest_here : (t : Turn) (past : List Turn) (stage : ServerStage (SspiContext N K)) (context : Option (SspiContext N K)) →
      ServerChain (either r n k) p first past stage → TookGuestAt r n k p first stage t.delivered.nego_tokens context →
      TookGuest r n k p first (t ∷ past) context
  guest_here t past stage context chain h =
      record { at = record { later = []; turn = t; before = past; parts = refl }; stage = stage; came = chain; took = h }

-- ---- one step

module _ {N K P : Type 0} (r q : ℕ) (n : Meaning Setting N) (k : Meaning Setting K) (ln : IsMechanism r n) (lk : IsMechanism q k)
    (p : ProxyMeaning P) (first : ServerView (SspiContext N K) P) where
  abbrev Needs : Negotiation (NegotiatedProtocol N K) → Type 0
  Needs s = s.state ≢ states.Initial → s.state ≢ states.Ok → AreNeeded (values_of s)

  -- an unchanged mechanism and list need MICs as before
  mic_before : (old new : Values) → StaysPicked old new → NeedsMic new.hand new.list → NeedsMic old.hand old.list
  mic_before old new stays mic = subst (λ (x : Protocol). NeedsMic x old.list) stays.hand
      (subst (λ (x : List (List ℕ)). NeedsMic new.hand x) stays.list mic)

  -- a context that was just made has taken no step
  acquired_initial : (m m2 : SspiContext N K) (mode : ServerMode) (entries : Option (List AuthIdentity))
      (buffers : Option CredentialsBuffers) → (either r n k).made (ForServer mode entries) m →
      (either r n k).acquires m Inbound None buffers m2 →
      OnNegotiation n k (λ (s : Negotiation (NegotiatedProtocol N K)). s.state ≡ states.Initial) m2
  acquired_initial (contexts.Negotiate s) (contexts.Negotiate s2) (modes.Negotiate config) entries buffers made got =
      ap (λ (x : Negotiation (NegotiatedProtocol N K)). x.state) got.kept
      ∙ ap (λ (x : Negotiation (NegotiatedProtocol N K)). x.state) made.1.1
  acquired_initial (contexts.Negotiate s) (contexts.Negotiate s2) (modes.Ntlm config) entries buffers made got = absurd made
  acquired_initial (contexts.Ntlm m) (contexts.Negotiate s2) mode entries buffers made got = absurd got
  acquired_initial (contexts.Kerberos m) (contexts.Negotiate s2) mode entries buffers made got = absurd got
  acquired_initial m (contexts.Ntlm m2) mode entries buffers made got = tt
  acquired_initial m (contexts.Kerberos m2) mode entries buffers made got = tt

  -- before there is a context, no turn has ended the authentication
  abbrev GuardsIn : List Turn → Option (SspiContext N K) → Type 0
  GuardsIn turns None = any_over turns ≡ true → ⊥
  GuardsIn turns (Some m) = OnNegotiation n k (Guards r n k p first turns) m

  begun_needs : (turns : List Turn) (context : Option (SspiContext N K)) (had handle : Option CredentialsBuffers) (mode : ServerMode)
      (entries : Option (List AuthIdentity)) (m : SspiContext N K) → GuardsIn turns context →
      Begun (either r n k) context had (ForServer mode entries) Inbound None handle m → OnNegotiation n k Needs m
  begun_needs turns context had handle mode entries m h (goes_on is same) =
      map_on n k (Guards r n k p first turns) Needs (λ s g. g.needs) m (subst (λ (o : Option (SspiContext N K)). GuardsIn turns o) is h)
  begun_needs turns context had handle mode entries m h (is_new m0 none made got) =
      map_on n k (λ (s : Negotiation (NegotiatedProtocol N K)). s.state ≡ states.Initial) Needs (λ s at late. absurd (late at)) m
      (acquired_initial m0 m mode entries handle made got)

  module _ (stage : ServerStage (SspiContext N K)) (handle : Option CredentialsBuffers) (token : Option (List ℕ)) where
    abbrev NextOf : accept.Knowing → Result Step Error → Negotiation (NegotiatedProtocol N K) → Type 0
    NextOf known x = Next r n k p first stage token known x

    step_next : (s s2 : Negotiation (NegotiatedProtocol N K)) (args : AcceptArgs) (x : Result Step Error) →
        (negotiate r n k).accepts s args x s2 → Needs s → NextOf accept.Unknown x s2
    step_next s s2 args (Err error) moves need = tt
    step_next s s2 args (Ok step) moves need =
        let h = (server_secured (hand n k) (values_of s) args s.mech need).ends s2.mech (Done step) (values_of s2)
        moves.moves.follows.as_planned in
        record {
          begun = h.begun;
          over = h.over;
          done = h.done;
          needs = h.needs;
          verified = λ at mic. by_state (VerifiedOne n k s2 ⊎ IsGuestNamed (hand n k) s2.mech) s.state
              (λ first. absurd (h.first first mic at))
              (λ late. ⊎_map (verified_one r q n k ln lk s2.list s2.mech) (λ guest. guest)
              (server_ended_before n k s s2 args step moves at late (need late h.before
              (mic_before (values_of s) (values_of s2) (moves.picked late) mic))));
        }

    accepted_on : (m m2 : SspiContext N K) (args : AcceptArgs) (x : Result Step Error) → (either r n k).accepts m args x m2 →
        OnNegotiation n k Needs m → OnNegotiation n k (NextOf accept.Unknown x) m2
    accepted_on (contexts.Negotiate s) (contexts.Negotiate s2) args x a h = step_next s s2 args x a h
    accepted_on (contexts.Ntlm m) (contexts.Negotiate s2) args x a h = absurd a
    accepted_on (contexts.Kerberos m) (contexts.Negotiate s2) args x a h = absurd a
    accepted_on m (contexts.Ntlm m2) args x a h = tt
    accepted_on m (contexts.Kerberos m2) args x a h = tt

    abbrev AcceptedAs : Result Step Error → SspiContext N K → Type 0
    AcceptedAs x m = accept.Accepted (either r n k) p (server_at (either r n k) p first stage) handle token accept.Unknown x m

    identified_next : (s s2 : Negotiation (NegotiatedProtocol N K)) (name : Name) (ids : List AuthIdentity) (x : Result Step Error) →
        AcceptedAs x (contexts.Negotiate s) → (hand n k).names s.mech ≡ Some name → AreFound (p.told first.proxy) name ids → ids ≢ [] →
        (either r n k).identifies (contexts.Negotiate s) (map credentials.AuthIdentity ids) (contexts.Negotiate s2) →
        NextOf accept.Unknown x s → NextOf accept.Identified x (record s { mech = s2.mech })
    identified_next s s2 name ids (Ok step) stepped named found some peer h =
        stepped_of_like r n k p first stage token accept.Unknown accept.Identified step s s2.mech
        (identified_hand n k s.mech s2.mech (map credentials.AuthIdentity ids) peer.0)
        (λ one. record {
          one = subst (λ (x : Counts). 1 ≤ x.verifications)
              (sym ((hand_keeps r q n k ln lk).identified s.mech s2.mech (map credentials.AuthIdentity ids) peer.0)) one.one;
        })
        (λ guest. record {
          handle = handle;
          step = step;
          before = contexts.Negotiate s;
          stepped = stepped;
          name = name;
          named = named;
          is_guest = subst (λ (x : Name). is_guest_text (inner_of x) ≡ true) (same_Some guest.name name (sym guest.named ∙ named))
              guest.is_guest;
          identities = ids;
          found = found;
          some = some;
          taken = contexts.Negotiate s2;
          peer = peer;
          left = ap (λ (x : Negotiation (NegotiatedProtocol N K)). cleared (either r n k) (contexts.Negotiate x)) (sym peer.1);
        }) h
    identified_next s s2 name ids (Err error) stepped named found some peer h = tt

    identified_on : (m m2 : SspiContext N K) (name : Name) (ids : List AuthIdentity) (x : Result Step Error) → AcceptedAs x m →
        (either r n k).names m ≡ Some name → AreFound (p.told first.proxy) name ids → ids ≢ [] →
        (either r n k).identifies m (map credentials.AuthIdentity ids) m2 → OnNegotiation n k (NextOf accept.Unknown x) m →
        OnNegotiation n k (NextOf accept.Identified x) m2
    identified_on (contexts.Negotiate s) (contexts.Negotiate s2) name ids x stepped named found some peer h =
        subst (NextOf accept.Identified x) (sym peer.1) (identified_next s s2 name ids x stepped named found some peer h)
    identified_on (contexts.Ntlm m) (contexts.Negotiate s2) name ids x stepped named found some peer h = absurd peer
    identified_on (contexts.Kerberos m) (contexts.Negotiate s2) name ids x stepped named found some peer h = absurd peer
    identified_on m (contexts.Ntlm m2) name ids x stepped named found some peer h = tt
    identified_on m (contexts.Kerberos m2) name ids x stepped named found some peer h = tt

    completed_next : (x : Result Step Error) (s : Negotiation (NegotiatedProtocol N K)) → NextOf accept.Identified x s →
        NextOf accept.Completed x s
    completed_next (Ok step) s h = record { begun = h.begun; over = h.over; done = h.done; needs = h.needs; verified = h.verified }
    completed_next (Err error) s h = h

    accepts_next : (past : List Turn) (known : accept.Knowing) (x : Result Step Error) (m : SspiContext N K) →
        GuardsIn past stage.context →
        accept.Accepted (either r n k) p (server_at (either r n k) p first stage) handle token known x m →
        OnNegotiation n k (NextOf known x) m
    accepts_next past known x m h (accept.accepted m0 m1 y begun accepts) =
        accepted_on m0 m _ x accepts (begun_needs past stage.context stage.handle handle first.settings.mode _ m0 h begun)
    accepts_next past known x m h (accept.identified m1 m2 y step (accept.is_identified name ids named found some peer)) =
        identified_on m1 m name ids x step named found some peer (accepts_next past accept.Unknown x m1 h step)
    accepts_next past known x m h (accept.completed m1 y step permits) =
        map_on n k (NextOf accept.Identified x) (NextOf accept.Completed x) (completed_next x) m
        (accepts_next past accept.Identified x m h step)
    accepts_next past known x m h (accept.recounted m1 m2 i so y step counted quiet) =
        subst (λ (z : SspiContext N K). OnNegotiation n k (NextOf known x) z) (sym counted)
        (counted_on r q n k ln lk (NextOf known x) (next_of_like r n k p first stage token known x) m1 i quiet
        (accepts_next past known x m1 h step))

    -- once the authentication has ended, the peer is known
    known_guest : (status : SecurityStatus) (s : Negotiation (NegotiatedProtocol N K)) → is_over_status status ≡ true →
        Excuses r n k p first stage token (accept.known_at (either r n k) p status) s →
        TookGuestAt r n k p first stage token (Some (contexts.Negotiate s))
    known_guest statuses.Ok s is h = h
    known_guest statuses.CompleteNeeded s is h = h
    known_guest statuses.ContinueNeeded s is h = absurd (false≢true is)
    known_guest statuses.CompleteAndContinue s is h = absurd (false≢true is)
    known_guest statuses.LocalLogon s is h = absurd (false≢true is)
    known_guest statuses.ContextExpired s is h = absurd (false≢true is)
    known_guest statuses.IncompleteCredentials s is h = absurd (false≢true is)
    known_guest statuses.Renegotiate s is h = absurd (false≢true is)
    known_guest statuses.NoLsaContext s is h = absurd (false≢true is)

  -- ---- one turn

  module _ (t : Turn) (past : List Turn) (stage : ServerStage (SspiContext N K))
      (chain : ServerChain (either r n k) p first past stage) where
    step_guards : (handle : Option CredentialsBuffers) (step : Step) →
        (any_over (t ∷ past) ≡ true → is_over_status step.status ≡ true) → (s : Negotiation (NegotiatedProtocol N K)) →
        NextOf stage handle t.delivered.nego_tokens (accept.known_at (either r n k) p step.status) (Ok step) s →
        Guards r n k p first (t ∷ past) s
    step_guards handle step ended s h = record {
      needs = λ begun before. h.needs before;
      over = λ is. h.over (ended is);
      verified = λ at mic. ⊎_map (λ one. one)
          (λ excuse. guest_here r n k p first t past stage (Some (contexts.Negotiate s)) chain
          (known_guest stage handle t.delivered.nego_tokens step.status s (h.done at) excuse)) (h.verified at mic);
    }

    stepped_guards : (handle : Option CredentialsBuffers) (step : Step) (context : Option (SspiContext N K)) →
        (any_over (t ∷ past) ≡ true → is_over_status step.status ≡ true) → GuardsIn past stage.context →
        IfContext context (accept.Accepted (either r n k) p (server_at (either r n k) p first stage) handle t.delivered.nego_tokens
        (accept.known_at (either r n k) p step.status) (Ok step)) → GuardsIn (t ∷ past) context
    stepped_guards handle step None ended h accepted = absurd accepted
    stepped_guards handle step (Some m) ended h accepted =
        map_on n k (NextOf stage handle t.delivered.nego_tokens (accept.known_at (either r n k) p step.status) (Ok step))
        (Guards r n k p first (t ∷ past)) (step_guards handle step ended) m
        (accepts_next stage handle t.delivered.nego_tokens past _ (Ok step) m h accepted)

    less_over : (any_over (t ∷ past) ≡ true → any_over past ≡ true) → (s : Negotiation (NegotiatedProtocol N K)) →
        Guards r n k p first past s → Guards r n k p first (t ∷ past) s
    less_over less s g = record {
      needs = g.needs;
      over = λ is. g.over (less is);
      verified = λ at mic. ⊎_map (λ one. one) (guest_more r n k p first t past (Some (contexts.Negotiate s))) (g.verified at mic);
    }

    begun_guards : (had handle : Option CredentialsBuffers) (m : SspiContext N K) → (any_over (t ∷ past) ≡ true → any_over past ≡ true) →
        (any_over past ≡ true → ⊥) → stage.context ≡ None →
        Begun (either r n k) stage.context had (accept.server_setting p first) Inbound None handle m →
        OnNegotiation n k (Guards r n k p first (t ∷ past)) m
    begun_guards had handle m less none is (goes_on at same) = absurd (cc (is, at))
    begun_guards had handle m less none is (is_new m0 still made got) =
        map_on n k (λ (s : Negotiation (NegotiatedProtocol N K)). s.state ≡ states.Initial) (Guards r n k p first (t ∷ past))
        (λ s at. record {
          needs = λ begun. absurd (begun at);
          over = λ over. absurd (none (less over));
          verified = λ over. absurd (cc (at, over));
        }) m (acquired_initial m0 m first.settings.mode _ handle made got)

    rested : (handle : Option CredentialsBuffers) (x y : Option (SspiContext N K)) →
        (any_over (t ∷ past) ≡ true → any_over past ≡ true) → GuardsIn past x →
        UnlessMade (either r n k) x y
        (Begun (either r n k) stage.context stage.handle (accept.server_setting p first) Inbound None handle) →
        stage.context ≡ x → GuardsIn (t ∷ past) y
    rested handle None None less h made is = λ over. h (less over)
    rested handle None (Some m) less h made is = begun_guards stage.handle handle m less h is made
    rested handle (Some m) None less h made is = absurd made
    rested handle (Some m) (Some m2) less h made is =
        cleared_on r q n k ln lk (Guards r n k p first (t ∷ past)) (guards_of_like r n k p first (t ∷ past)) m m2 made
        (map_on n k (Guards r n k p first past) (Guards r n k p first (t ∷ past)) (less_over less) m h)

  module _ (end : ServerEnd (SspiContext N K)) where
    abbrev ActsAt : Turn → List Turn → Type 0
    ActsAt t past = ShowsServerActs (server_shown (server_frame_at end past t)) t

    -- a turn without a step does not end the authentication
    rest_over : (t : Turn) (past : List Turn) → ActsAt t past → t.acts.negotiated ≡ false → any_over (t ∷ past) ≡ true →
        any_over past ≡ true
    rest_over t past acts bare is = elim (or_cases (is_replied t.outcome && is_over t.acts.status) (any_over past) is) [
      | inl here ↦ absurd (false≢true (sym bare
          ∙ acts.answered (some_status t.acts.status (and_parts (is_replied t.outcome) (is_over t.acts.status) here).1)))
      | inr before ↦ before
    ]

    -- a step that ends it came to a status that says so, and its turn was not refused
    step_over : (t : Turn) (past : List Turn) → ActsAt t past → t.acts.negotiated ≡ true → any_over (t ∷ past) ≡ true →
        (is_replied t.outcome ≡ true) × (is_over t.acts.status ≡ true)
    step_over t past acts step is = elim (or_cases (is_replied t.outcome && is_over t.acts.status) (any_over past) is) [
      | inl here ↦ and_parts (is_replied t.outcome) (is_over t.acts.status) here
      | inr before ↦ absurd (not_over past (acts.negotiated step) before)
    ]

    moved : (t : Turn) (past : List Turn) (stage next : ServerStage (SspiContext N K)) (negotiated : Bool)
        (status : Option SecurityStatus) (came : Outcome) → ServerChain (either r n k) p first past stage → ActsAt t past →
        t.acts.negotiated ≡ negotiated → t.acts.status ≡ status → (t.acts.negotiated ≡ true → IsUnrefused came) →
        GuardsIn past stage.context →
        ServerMovedBy (either r n k) p first negotiated status came t.delivered.nego_tokens t.output stage next →
        GuardsIn (t ∷ past) next.context
    moved t past stage next false status came chain acts is at un h by =
        rested t past stage chain next.handle stage.context next.context (rest_over t past acts is) h by.context refl
    moved t past stage next true (Some status) (outcome.Refused kind reply) chain acts is at un h by = absurd (un is)
    moved t past stage next true (Some status) (outcome.Reply reply) chain acts is at un h by =
        stepped_guards t past stage chain next.handle (record { status = status; output = t.output }) next.context
        (λ over. over_some status (subst (λ (x : Option SecurityStatus). is_over x ≡ true) at (step_over t past acts is over).1)) h by
    moved t past stage next true (Some status) (outcome.Final reply) chain acts is at un h by =
        stepped_guards t past stage chain next.handle (record { status = status; output = t.output }) next.context
        (λ over. over_some status (subst (λ (x : Option SecurityStatus). is_over x ≡ true) at (step_over t past acts is over).1)) h by
    moved t past stage next true (Some status) outcome.Finished chain acts is at un h by =
        stepped_guards t past stage chain next.handle (record { status = status; output = t.output }) next.context
        (λ over. over_some status (subst (λ (x : Option SecurityStatus). is_over x ≡ true) at (step_over t past acts is over).1)) h by
    moved t past stage next true None (outcome.Refused kind reply) chain acts is at un h by = absurd (un is)
    moved t past stage next true None (outcome.Reply reply) chain acts is at un h by = absurd by
    moved t past stage next true None (outcome.Final reply) chain acts is at un h by = absurd by
    moved t past stage next true None outcome.Finished chain acts is at un h by = absurd by

    -- ---- the turns

    chain_guards : (turns : List Turn) (stage : ServerStage (SspiContext N K)) → first.context ≡ None → NoneRefused turns →
        EachServerTurn (either r n k) end turns → ServerChain (either r n k) p first turns stage → GuardsIn turns stage.context
    chain_guards [] stage none un each chain = subst (λ (o : Option (SspiContext N K)). GuardsIn [] o)
        (sym (ap (λ (x : ServerStage (SspiContext N K)). x.context) chain ∙ none)) (λ is. false≢true is)
    chain_guards (t ∷ past) stage none un each chain =
        moved t past chain.0 stage t.acts.negotiated t.acts.status t.outcome chain.1 each.0.shown.acts refl refl (λ step. un.0)
        (chain_guards past chain.0 none un.1 each.1 chain.1) chain.2.moved

    guards_claim : (turns : List Turn) (context : Option (SspiContext N K)) → any_over turns ≡ true → GuardsIn turns context →
        HasVerifiedOrGuest r n k p first turns context
    guards_claim turns None over h = absurd (h over)
    guards_claim turns (Some (contexts.Negotiate s)) over h = λ mic. ⊎_map (λ one. one.one) (λ guest. guest)
        (h.verified (h.over over) mic)
    guards_claim turns (Some (contexts.Ntlm m)) over h = tt
    guards_claim turns (Some (contexts.Kerberos m)) over h = tt

    -- even if the newest turn was refused
    pub left_claims : (turns : List Turn) (stage : ServerStage (SspiContext N K)) → first.context ≡ None → OthersUnrefused turns →
        EachServerTurn (either r n k) end turns → ServerChain (either r n k) p first turns stage → any_over turns ≡ true →
        HasVerifiedOrGuest r n k p first turns stage.context
    left_claims [] stage none un each chain over = absurd (false≢true over)
    left_claims (t ∷ past) stage none un each chain over = guards_claim (t ∷ past) stage.context over
        (moved t past chain.0 stage t.acts.negotiated t.acts.status t.outcome chain.1 each.0.shown.acts refl refl
        (λ step. replied_unrefused t.outcome (step_over t past each.0.shown.acts step over).0)
        (chain_guards past chain.0 none un each.1 chain.1) chain.2.moved)
