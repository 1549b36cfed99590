-- The server's rows, with each way in which they may end: a fact of its steps is a record of cases.
use Rattle.std.proofs.Common.{◌≡◌, ◌≢◌, ◌⊎◌, inl, inr, ◌&&◌, ◌==◌, ℕ, Bool, true, false, List, [], Option, None, Some}
use Rattle.std.proofs.Common.{refl, sym, subst, ◌∙◌}
use Rattle.std.proofs.lemmas.Bool.{false≢true}
use Rattle.sspi_types.specs.declared.error.Error.{Error}
use Rattle.sspi_types.specs.declared.error_kind.ErrorKind.TheVariants.{InvalidToken, OutOfSequence}
use Rattle.sspi_types.specs.declared.security_status.SecurityStatus.TheVariants as statuses
use Rattle.sspi_names.specs.Name.{inner_of}
use Rattle.sspi_mech.specs.declared.step.Answer.{Answer}
use Rattle.sspi_mech.specs.declared.step.Answer.TheVariants.{Done, Refused}
use Rattle.sspi_mech.specs.declared.step.Step.{Step}
use Rattle.sspi_mech.specs.Calls.{AcceptArgs}
use Rattle.sspi_mech.specs.Meaning.{Meaning}
use Rattle.sspi_tokens.specs.declared.neg_token_init.NegTokenInit.{NegTokenInit}
use Rattle.sspi_tokens.specs.declared.neg_token_targ.NegTokenTarg.{NegTokenTarg}
use Rattle.sspi_tokens.specs.Reading.{init_of, targ_of}
use Rattle.sspi_negotiate.specs.declared.package_list.PackageListConfig.{PackageListConfig}
use Rattle.sspi_negotiate.specs.declared.pick.Choice.{Choice}
use Rattle.sspi_negotiate.specs.declared.pick.Choice.TheVariants as choices
use Rattle.sspi_negotiate.specs.declared.pick.Picked.{Picked}
use Rattle.sspi_negotiate.specs.declared.protocol.Protocol.{Protocol}
use Rattle.sspi_negotiate.specs.declared.protocol.Protocol.TheVariants as protocols
use Rattle.sspi_negotiate.specs.declared.state.NegotiateState.{NegotiateState}
use Rattle.sspi_negotiate.specs.declared.state.NegotiateState.TheVariants as states
use Rattle.sspi_negotiate.specs.declared.state.Role.{Role}
use Rattle.sspi_negotiate.specs.declared.state.Role.TheVariants.{Client, Server}
use Rattle.sspi_negotiate.specs.Hand.{Origin, is_kerberos_hand}
use Rattle.sspi_negotiate.specs.Pick.{place_of, found_or, picked_or, pick}
use Rattle.sspi_negotiate.specs.Rows.{is_over, is_complete, is_guest_text}
use Rattle.sspi_negotiate.specs.Server.{drops, waits_for_token, goes_on, awaits_mic, ends_at_once, opens, needs_mic}
use Rattle.sspi_negotiate.specs.Server.{first_token, placed, takes_pick, picks, reads_list, at_initial, without_mic}
use Rattle.sspi_negotiate.specs.Server.{settles, accepted, at_progress, last_mic, at_verify_mic, server_at, spnego_server}
use Rattle.sspi_negotiate.specs.Values.{Values}
use Rattle.sspi_negotiate.specs.Verified.{as_it_was, IsVerified, IsGuestNamed}
use Rattle.sspi_negotiate.proofs.ClientLeads.{and_last}
use Rattle.sspi_negotiate.proofs.Leads.{Leads, AtRefusal, Comes, by_itself, bad_token, bad_order}
use Rattle.sspi_negotiate.proofs.Leads.{goes, stops, accepts, pairs, names, either}
use Rattle.sspi_negotiate.proofs.RowLeads.{AtDone, writes_leads, in_ntlm_leads, checks_leads, completes_leads, signed_leads}
use Rattle.sspi_negotiate.proofs.RowLeads.{carries_on_leads}

-- what a choice selects: Kerberos is chosen only if it is selected, NTLM only if it may be used
abbrev pub IsTaken : Choice → PackageListConfig → Protocol → Protocol → Type 0
IsTaken choices.MsKerberos packages held hand = (hand ≡ held) × (held ≡ protocols.Kerberos)
IsTaken choices.Kerberos packages held hand = (hand ≡ held) × (held ≡ protocols.Kerberos)
IsTaken choices.Ntlm packages held hand = (hand ≡ protocols.Ntlm) × (packages.ntlm ≡ true)

-- the need of MICs set with a pick: true, or as `needs_mic` says if the pick is the client's choice
abbrev pub IsNeedOf : Picked → Values → AcceptArgs → Bool → Type 0
IsNeedOf p v args need = (need ≡ true) ⊎ (((p.index == 0) ≡ true) × (b : Bool) × (need ≡ needs_mic v args b))

pub record ServerCases {M : Type 0} (c : Meaning Origin M) (args : AcceptArgs) (R : M → Answer → Values → Type 0)
    (Before : Values → Type 0) (Chosen : Picked → Values → Type 0) (Good : Values → Type 0) : Type 0 where
  pub unready : (m : M) (v : Values) (error : Error) → Comes c error.error_type → Before v → R m (Refused error) v
  -- the first step: one of the list is picked; that is reported, or the negotiation ends at once
  pub chooses : (v : Values) (token : NegTokenInit) (list : List (List ℕ)) (p : Picked) (hand : Protocol) → v.state ≡ states.Initial →
      init_of args.input ≡ Some token → token.mech_types ≡ Some list → pick list v.packages v.hand ≡ Some p →
      IsTaken p.choice v.packages v.hand hand → Before v → Chosen p (record v { list = list; hand = hand })
  pub unpicked : (m : M) (v : Values) (p : Picked) (error : Error) → Comes c error.error_type → Chosen p v → R m (Refused error) v
  pub tells : (m : M) (v : Values) (p : Picked) (output : List ℕ) (need : Bool) (state : NegotiateState) → state ≢ states.Initial →
      state ≢ states.Ok → IsNeedOf p v args need → Chosen p v →
      R m (Done (record { status = statuses.ContinueNeeded; output = output })) (record v { need = need; state = state })
  pub at_once : (m : M) (v : Values) (p : Picked) (output : List ℕ) (b : Bool) → (p.index == 0) ≡ true → needs_mic v args b ≡ false →
      Chosen p v → R m (Done (record { status = statuses.Ok; output = output })) (record v { need = false; state = states.Ok })
  -- later steps: refused, going on, sending a MIC, or over: if MICs are needed, the peer's is
  -- verified or the peer is a guest
  pub later : (v : Values) → v.state ≢ states.Initial → v.state ≢ states.Ok → Before v → Good v
  pub refuses : (m : M) (v : Values) (error : Error) → Comes c error.error_type → Good v → R m (Refused error) v
  pub goes_on : (m : M) (v : Values) (step : Step) → is_over step.status ≡ false → Good v → R m (Done step) v
  pub hands_mic : (m : M) (v : Values) (output : List ℕ) → Good v →
      R m (Done (record { status = statuses.ContinueNeeded; output = output })) (record v { state = states.VerifyMic })
  pub ends : (m : M) (v : Values) (output : List ℕ) → (v.need ≡ false) ⊎ IsVerified c v.list m → Good v →
      R m (Done (record { status = statuses.Ok; output = output })) (record v { state = states.Ok })
  pub excuses : (m : M) (v : Values) (output : List ℕ) → IsGuestNamed c m → Good v →
      R m (Done (record { status = statuses.Ok; output = output })) (record v { need = false; state = states.Ok })

-- ---- what is picked may be taken

-- what is selected once this is taken
abbrev taken : Choice → Protocol → Protocol
taken choices.MsKerberos held = held
taken choices.Kerberos held = held
taken choices.Ntlm held = protocols.Ntlm

abbrev MayTake : PackageListConfig → Protocol → Option Picked → Type 0
MayTake packages held None = Unit {0}
MayTake packages held (Some p) = IsTaken p.choice packages held (taken p.choice held)

module _ (list : List (List ℕ)) (packages : PackageListConfig) (held : Protocol) where
  found_may : (choice : Choice) (o : Option ℕ) (other : Option Picked) → IsTaken choice packages held (taken choice held) →
      MayTake packages held other → MayTake packages held (found_or choice o other)
  found_may choice None other h k = k
  found_may choice (Some index) other h k = h

  picked_may : (b : Bool) (choice : Choice) (other : Option Picked) →
      (b ≡ true → IsTaken choice packages held (taken choice held)) → MayTake packages held other →
      MayTake packages held (picked_or b choice list other)
  picked_may true choice other h k = found_may choice (place_of choice list) other (h refl) k
  picked_may false choice other h k = k

  in_hand : (protocol : Protocol) → is_kerberos_hand protocol ≡ true → protocol ≡ protocols.Kerberos
  in_hand protocols.Kerberos h = refl
  in_hand protocols.Ntlm h = absurd (false≢true h)

  pick_may : MayTake packages held (pick list packages held)
  pick_may =
      let usable : packages.kerberos && is_kerberos_hand held ≡ true → held ≡ protocols.Kerberos =
      λ h. in_hand held (and_last packages.kerberos (is_kerberos_hand held) h) in
      picked_may (packages.kerberos && is_kerberos_hand held) choices.MsKerberos _ (λ h. (refl, usable h))
      (picked_may (packages.kerberos && is_kerberos_hand held) choices.Kerberos _ (λ h. (refl, usable h))
      (picked_may packages.ntlm choices.Ntlm None (λ h. (refl, h)) tt))

-- ---- the rows

module _ {M : Type 0} (c : Meaning Origin M) (args : AcceptArgs) (R : M → Answer → Values → Type 0)
    (Before : Values → Type 0) (Chosen : Picked → Values → Type 0) (Good : Values → Type 0)
    (cases : ServerCases c args R Before Chosen Good) where
  unready_at : (v : Values) → Before v → AtRefusal c R v
  unready_at v g m error comes = cases.unready m v error comes g

  unpicked_at : (p : Picked) (v : Values) → Chosen p v → AtRefusal c R v
  unpicked_at p v g m error comes = cases.unpicked m v p error comes g

  refused_at : (v : Values) → Good v → AtRefusal c R v
  refused_at v g m error comes = cases.refuses m v error comes g

  told : (p : Picked) (v : Values) (need : Bool) (state : NegotiateState) (m : M) → state ≢ states.Initial → state ≢ states.Ok →
      IsNeedOf p v args need → Chosen p v → AtDone c R m statuses.ContinueNeeded (record v { need = need; state = state })
  told p v need state m late still is g output = cases.tells m v p output need state late still is g

  opens_leads : (p : Picked) (v : Values) (step : Step) (b need : Bool) (m : M) → (p.index == 0) ≡ true → needs_mic v args b ≡ need →
      Chosen p v → Leads c R (opens p v step need) m
  unfolding awaits_mic ends_at_once goes_on
  opens_leads p v step b need m at is g = either c R (is_over step.status) _ _ m
      (λ over. either c R need _ _ m
      (λ on. writes_leads c R _ v _ _ m (unpicked_at p v g) (told p v true states.VerifyMic m (λ e. cc (e)) (λ e. cc (e)) (inl refl) g))
      (λ off. writes_leads c R _ v _ _ m (unpicked_at p v g) (λ output. cases.at_once m v p output b at (is ∙ off) g)))
      (λ on. writes_leads c R _ v _ _ m (unpicked_at p v g)
      (told p v need states.InProgress m (λ e. cc (e)) (λ e. cc (e)) (inr (at, b, sym is)) g))

  first_leads : (token : Option (List ℕ)) (p : Picked) (v : Values) (m : M) → (p.index == 0) ≡ true → Chosen p v →
      Leads c R (first_token token p v args) m
  unfolding first_token waits_for_token
  first_leads None p v m at g = pairs c R _ m (λ b. writes_leads c R _ v _ _ m (unpicked_at p v g)
      (told p v _ states.InProgress m (λ e. cc (e)) (λ e. cc (e)) (inr (at, b, refl)) g))
  first_leads (Some token) p v m at g = accepts c R _ v _ m (unpicked_at p v g)
      (λ m1 step. pairs c R _ m1 (λ b. opens_leads p v step b _ m1 at refl g))

  placed_leads : (token : Option (List ℕ)) (p : Picked) (v : Values) (m : M) → Chosen p v → Leads c R (placed token p v args) m
  unfolding placed drops
  placed_leads token p v m g = either c R (p.index == 0) _ _ m (λ at. first_leads token p v m at g)
      (λ other. writes_leads c R _ v _ _ m (unpicked_at p v g)
      (told p v true states.InProgress m (λ e. cc (e)) (λ e. cc (e)) (inl refl) g))

  takes_leads : (choice : Choice) (token : Option (List ℕ)) (p : Picked) (v : Values) (m : M) →
      Chosen p (record v { hand = taken choice v.hand }) → Leads c R (takes_pick choice token p v args) m
  takes_leads choices.MsKerberos token p v m g = placed_leads token p v m g
  takes_leads choices.Kerberos token p v m g = placed_leads token p v m g
  takes_leads choices.Ntlm token p v m g = in_ntlm_leads c R v.hand v.computer _ m (λ m1. placed_leads token p _ m1 g)

  picks_leads : (o : Option Picked) (list : List (List ℕ)) (token : Option (List ℕ)) (v : Values) (m : M) →
      ((p : Picked) → o ≡ Some p → Chosen p (record v { list = list; hand = taken p.choice v.hand })) → Before v →
      Leads c R (picks o list token v args) m
  unfolding picks
  picks_leads None list token v m chosen g = stops c R v InvalidToken m (by_itself (bad_token refl)) (unready_at v g)
  picks_leads (Some p) list token v m chosen g = takes_leads p.choice token p _ m (chosen p refl)

  reads_leads : (o : Option (List (List ℕ))) (token : NegTokenInit) (v : Values) (m : M) → v.state ≡ states.Initial →
      init_of args.input ≡ Some token → token.mech_types ≡ o → Before v → Leads c R (reads_list o token.mech_token v args) m
  unfolding reads_list
  reads_leads None token v m at read listed g = stops c R v InvalidToken m (by_itself (bad_token refl)) (unready_at v g)
  reads_leads (Some list) token v m at read listed g = picks_leads (pick list v.packages v.hand) list token.mech_token v m
      (λ p is. cases.chooses v token list p _ at read listed is
      (subst (λ o. MayTake v.packages v.hand o) is (pick_may list v.packages v.hand)) g) g

  at_initial_leads : (o : Option NegTokenInit) (v : Values) (m : M) → v.state ≡ states.Initial → init_of args.input ≡ o → Before v →
      Leads c R (at_initial o v args) m
  at_initial_leads None v m at read g = stops c R v InvalidToken m (by_itself (bad_token refl)) (unready_at v g)
  at_initial_leads (Some token) v m at read g = reads_leads token.mech_types token v m at read refl g

  without_leads : (complete : Bool) (v : Values) (token : List ℕ) (m : M) → Good v → Leads c R (without_mic complete v token) m
  unfolding without_mic
  without_leads true v token m g = names c R v _ m (refused_at v g)
      (λ m1 name is. either c R (is_guest_text (inner_of name)) _ _ m1
      (λ guest. completes_leads c R v token false m1 (refused_at v g)
      (λ output. cases.excuses m1 v output (record { name = name; named = is; is_guest = guest }) g))
      (λ other. stops c R v InvalidToken m1 (by_itself (bad_token refl)) (refused_at v g)))
  without_leads false v token m g = signed_leads c R _ states.VerifyMic statuses.ContinueNeeded v token m (refused_at v g)
      (λ m1 left output. cases.hands_mic m1 v output g)

  settles_leads : (need : Bool) (mic : Option (List ℕ)) (complete : Bool) (v : Values) (token : List ℕ) (m : M) → v.need ≡ need →
      Good v → Leads c R (settles need mic complete v token) m
  settles_leads false mic complete v token m off g = completes_leads c R v token v.need m (refused_at v g)
      (λ output. cases.ends m v output (inl off) g)
  settles_leads true (Some mic) complete v token m on g = checks_leads c R mic v _ m (refused_at v g)
      (λ m1 seen. signed_leads c R _ states.Ok statuses.Ok v token m1 (refused_at v g)
      (λ m2 left output. cases.ends m2 v output (inr (seen m2 left)) g))
  settles_leads true None complete v token m on g = without_leads complete v token m g

  accepted_leads : (token : NegTokenTarg) (v : Values) (step : Step) (m : M) → Good v → Leads c R (accepted token v step) m
  accepted_leads token v step m g = either c R (is_over step.status) _ _ m
      (λ over. settles_leads v.need token.mech_list_mic (is_complete token.neg_result) v step.output m refl g)
      (λ on. carries_on_leads c R v step.output step.status m (refused_at v g) (λ output. cases.goes_on m v _ on g))

  at_progress_leads : (o : Option NegTokenTarg) (v : Values) (m : M) → Good v → Leads c R (at_progress o v args) m
  at_progress_leads None v m g = stops c R v InvalidToken m (by_itself (bad_token refl)) (refused_at v g)
  at_progress_leads (Some token) v m g = accepts c R _ v _ m (refused_at v g) (λ m1 step. accepted_leads token v step m1 g)

  last_mic_leads : (mic : Option (List ℕ)) (v : Values) (m : M) → Good v → Leads c R (last_mic mic v) m
  last_mic_leads None v m g = stops c R v InvalidToken m (by_itself (bad_token refl)) (refused_at v g)
  last_mic_leads (Some mic) v m g = checks_leads c R mic v _ m (refused_at v g)
      (λ m1 seen. goes c R _ _ m1 (cases.ends m1 v [] (inr (seen m1 (as_it_was refl))) g))

  at_verify_mic_leads : (o : Option NegTokenTarg) (v : Values) (m : M) → Good v → Leads c R (at_verify_mic o v) m
  at_verify_mic_leads None v m g = stops c R v InvalidToken m (by_itself (bad_token refl)) (refused_at v g)
  at_verify_mic_leads (Some token) v m g = last_mic_leads token.mech_list_mic v m g

  server_at_leads : (role : Role) (state : NegotiateState) (v : Values) (m : M) → v.state ≡ state → Before v →
      Leads c R (server_at role state v args) m
  server_at_leads Client state v m at g = stops c R v OutOfSequence m (by_itself (bad_order refl)) (unready_at v g)
  server_at_leads Server states.Initial v m at g = at_initial_leads (init_of args.input) v m at refl g
  server_at_leads Server states.InProgress v m at g =
      at_progress_leads (targ_of args.input) v m (cases.later v (λ e. cc (at, e)) (λ e. cc (at, e)) g)
  server_at_leads Server states.VerifyMic v m at g =
      at_verify_mic_leads (targ_of args.input) v m (cases.later v (λ e. cc (at, e)) (λ e. cc (at, e)) g)
  server_at_leads Server states.Ok v m at g = stops c R v OutOfSequence m (by_itself (bad_order refl)) (unready_at v g)

  pub server_leads : (v : Values) (m : M) → Before v → Leads c R (spnego_server v args) m
  server_leads v m g = server_at_leads v.role v.state v m refl g
