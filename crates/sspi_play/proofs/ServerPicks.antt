-- A server's context through one step: before it has read the client's list, it makes or verifies
-- no MIC; then it has selected the mechanism that it picks from the list, and keeps both.
use Rattle.std.proofs.Common.{◌≡◌, ◌≢◌, ℕ, true, false, List, [], ◌∷◌, option_map, Option, None, Some, Result, Ok, Err}
use Rattle.std.proofs.Common.{refl, sym, ◌∙◌, ap, subst}
use Rattle.std.proofs.lemmas.Bool.{false≢true}
use Rattle.sspi_types.specs.declared.credential_use.CredentialUse.TheVariants.{Inbound}
use Rattle.sspi_types.specs.declared.error.Error.{Error}
use Rattle.sspi_types.specs.declared.error_kind.ErrorKind.{ErrorKind}
use Rattle.sspi_names.specs.declared.credentials.Credentials.{Credentials}
use Rattle.sspi_names.specs.declared.credentials.CredentialsBuffers.{CredentialsBuffers}
use Rattle.sspi_names.specs.declared.identity.AuthIdentity.{AuthIdentity}
use Rattle.sspi_mech.specs.declared.step.Answer.TheVariants.{Done}
use Rattle.sspi_mech.specs.declared.step.Step.{Step}
use Rattle.sspi_mech.specs.Calls.{AcceptArgs, Counts, no_counts}
use Rattle.sspi_mech.specs.Laws.{IsMechanism}
use Rattle.sspi_mech.specs.Meaning.{Meaning}
use Rattle.sspi_mech.specs.Settings.{Setting}
use Rattle.sspi_negotiate.specs.declared.negotiate_config.NegotiateConfig.{NegotiateConfig}
use Rattle.sspi_negotiate.specs.declared.package_list.PackageListConfig.{PackageListConfig}
use Rattle.sspi_negotiate.specs.declared.pick.Picked.{Picked}
use Rattle.sspi_negotiate.specs.declared.protocol.NegotiatedProtocol.{NegotiatedProtocol}
use Rattle.sspi_negotiate.specs.declared.protocol.NegotiatedProtocol.TheVariants as hands
use Rattle.sspi_negotiate.specs.declared.protocol.Protocol.{Protocol}
use Rattle.sspi_negotiate.specs.declared.protocol_config.ProtocolConfig.TheVariants as configs
use Rattle.sspi_negotiate.specs.declared.state.NegotiateState.{NegotiateState}
use Rattle.sspi_negotiate.specs.declared.state.NegotiateState.TheVariants as states
use Rattle.sspi_negotiate.specs.declared.state.Role.{Role}
use Rattle.sspi_negotiate.specs.declared.state.Role.TheVariants as roles
use Rattle.sspi_negotiate.specs.Acquire.{acquired_url}
use Rattle.sspi_negotiate.specs.Does.{StaysPicked}
use Rattle.sspi_negotiate.specs.Hand.{Origin, Configured, InPlaceOfNtlm, hand, hand_of}
use Rattle.sspi_negotiate.specs.Negotiate.{negotiate}
use Rattle.sspi_negotiate.specs.New.{first_in_hand, packages_in, IsFirst, fresh}
use Rattle.sspi_negotiate.specs.Pick.{pick}
use Rattle.sspi_negotiate.specs.Rule.{TakenBy}
use Rattle.sspi_negotiate.specs.Values.{Values, Negotiation, values_of}
use Rattle.sspi_credssp.specs.declared.context.SspiContext.{SspiContext}
use Rattle.sspi_credssp.specs.declared.context.SspiContext.TheVariants as contexts
use Rattle.sspi_credssp.specs.declared.mode.ServerMode.{ServerMode}
use Rattle.sspi_credssp.specs.declared.mode.ServerMode.TheVariants as modes
use Rattle.sspi_credssp.specs.declared.turn.Turn.{Turn}
use Rattle.sspi_credssp.specs.Context.{Begun, goes_on, is_new, either, ForServer}
use Rattle.sspi_credssp.specs.Acts.{silent}
use Rattle.sspi_credssp.specs.Requests.{token_of}
use Rattle.sspi_play.specs.Negotiated.{HasRead, IsReadAs, protocol_of, protocol_from, picks_with, picked_by}
use Rattle.sspi_play.proofs.Contexts.{HoldsOf, holds_map, IsOfMics, acquired_hand, holds_recounted, holds_identified}
use Rattle.sspi_play.proofs.Contexts.{holds_accepted}
use Rattle.sspi_play.proofs.Marks.{is_marked, marks_before, hand_keeps}
use Rattle.sspi_play.proofs.Picking.{PicksOne, server_picks}

-- a list was read in one of these turns; from it a server so configured picks this mechanism
pub record WasChosen (config : NegotiateConfig) (turns : List Turn) (list : List (List ℕ)) (protocol : Protocol) : Type 0 where
  pub read : HasRead turns list
  pub picked : picked_by config list ≡ Some protocol

chosen_more : (config : NegotiateConfig) (t : Turn) (turns : List Turn) (list : List (List ℕ)) (protocol : Protocol) →
    WasChosen config turns list protocol → WasChosen config (t ∷ turns) list protocol
chosen_more config t turns list protocol was = record {
  read = record {
    at = record {
      later = t ∷ was.read.at.later;
      turn = was.read.at.turn;
      before = was.read.at.before;
      parts = ap (λ (l : List Turn). t ∷ l) was.read.at.parts;
    };
    read = was.read.read;
  };
  picked = was.picked;
}

pub by_state : (Goal : Type 0) (state : NegotiateState) → (state ≡ states.Initial → Goal) → (state ≢ states.Initial → Goal) → Goal
by_state Goal states.Initial first later = first refl
by_state Goal states.InProgress first later = later (λ e. cc (e))
by_state Goal states.VerifyMic first later = later (λ e. cc (e))
by_state Goal states.Ok first later = later (λ e. cc (e))

module _ {N K : Type 0} (n : Meaning Setting N) (k : Meaning Setting K) (mode : ServerMode) where
  -- The negotiation of a server with no refused turn: it is as it was made, or has picked.
  pub record KeepsPick (turns : List Turn) (s : Negotiation (NegotiatedProtocol N K)) : Type 0 where
    pub config : NegotiateConfig
    pub mode_is : mode ≡ modes.Negotiate config
    pub packages : s.packages ≡ packages_in config
    pub first : s.state ≡ states.Initial → protocol_from (first_in_hand roles.Server config) ≡ Some (hand_of s.mech)
    pub unmarked : s.state ≡ states.Initial → is_marked ((hand n k).counts s.mech) ≡ false
    pub picked : s.state ≢ states.Initial → WasChosen config turns s.list (hand_of s.mech)

  -- what holds of it even after a turn was refused
  pub record ShowsPick (turns : List Turn) (s : Negotiation (NegotiatedProtocol N K)) : Type 0 where
    pub config : NegotiateConfig
    pub mode_is : mode ≡ modes.Negotiate config
    pub picked : is_marked ((hand n k).counts s.mech) ≡ true → WasChosen config turns s.list (hand_of s.mech)

  pub keeps_of_mics : (turns : List Turn) → IsOfMics n k (KeepsPick turns)
  keeps_of_mics turns = λ s mech named marks h. record {
    config = h.config;
    mode_is = h.mode_is;
    packages = h.packages;
    first = λ at. h.first at ∙ ap (λ (x : Protocol). Some x) (sym named);
    unmarked = λ at. marks ∙ h.unmarked at;
    picked = λ late. subst (λ (x : Protocol). WasChosen h.config turns s.list x) (sym named) (h.picked late);
  }

  shows_of_mics : (turns : List Turn) → IsOfMics n k (ShowsPick turns)
  shows_of_mics turns = λ s mech named marks h. record {
    config = h.config;
    mode_is = h.mode_is;
    picked = λ marked. subst (λ (x : Protocol). WasChosen h.config turns s.list x) (sym named) (h.picked (sym marks ∙ marked));
  }

  pub keeps_more : (t : Turn) (turns : List Turn) (s : Negotiation (NegotiatedProtocol N K)) → KeepsPick turns s → KeepsPick (t ∷ turns) s
  keeps_more t turns s h = record {
    config = h.config;
    mode_is = h.mode_is;
    packages = h.packages;
    first = h.first;
    unmarked = h.unmarked;
    picked = λ late. chosen_more h.config t turns s.list (hand_of s.mech) (h.picked late);
  }

  keeps_show : (turns : List Turn) (s : Negotiation (NegotiatedProtocol N K)) → KeepsPick turns s → ShowsPick turns s
  keeps_show turns s h = record {
    config = h.config;
    mode_is = h.mode_is;
    picked = λ marked. by_state (WasChosen h.config turns s.list (hand_of s.mech)) s.state
        (λ at. absurd (false≢true (sym (h.unmarked at) ∙ marked))) h.picked;
  }

module _ {N K : Type 0} (r q : ℕ) (n : Meaning Setting N) (k : Meaning Setting K) (ln : IsMechanism r n) (lk : IsMechanism q k)
    (mode : ServerMode) where
  -- the pick of the first step, by the configuration
  picks_by : (config : NegotiateConfig) (packages : PackageListConfig) (protocol : Protocol) (list : List (List ℕ)) (o : Option Picked) →
      packages ≡ packages_in config → protocol_from (first_in_hand roles.Server config) ≡ Some protocol →
      pick list packages protocol ≡ o → picked_by config list ≡ option_map (λ (x : Picked). protocol_of x.choice) o
  picks_by config packages protocol list o same first is =
      ap (λ (x : Option Protocol). picks_with config x list) first
      ∙ ap (λ (x : PackageListConfig). option_map (λ (y : Picked). protocol_of y.choice) (pick list x protocol)) (sym same)
      ∙ ap (λ (x : Option Picked). option_map (λ (y : Picked). protocol_of y.choice) x) is

  module _ (t : Turn) (past : List Turn) (s s2 : Negotiation (NegotiatedProtocol N K)) (args : AcceptArgs)
      (token : args.input ≡ token_of t.delivered.nego_tokens) (h : KeepsPick n k mode past s) where
    after_first : s.state ≡ states.Initial → PicksOne (values_of s) args.input (values_of s2) → KeepsPick n k mode (t ∷ past) s2
    after_first at one = record {
      config = h.config;
      mode_is = h.mode_is;
      packages = one.packages at ∙ h.packages;
      first = λ first. absurd (one.begun first);
      unmarked = λ first. absurd (one.begun first);
      picked = λ late. record {
        read = record {
          at = record { later = []; turn = t; before = past; parts = refl };
          read = subst (λ (x : List ℕ). IsReadAs x s2.list) token (one.chosen at).read;
        };
        picked = picks_by h.config s.packages (hand_of s.mech) s2.list (Some (one.chosen at).picked) h.packages (h.first at) (one.chosen at).pick_is
            ∙ ap (λ (x : Protocol). Some x) (sym (one.chosen at).choice);
      };
    }

    after_later : s.state ≢ states.Initial → s2.state ≢ states.Initial → StaysPicked (values_of s) (values_of s2) →
        KeepsPick n k mode (t ∷ past) s2
    after_later late begun stays = record {
      config = h.config;
      mode_is = h.mode_is;
      packages = stays.packages ∙ h.packages;
      first = λ first. absurd (begun first);
      unmarked = λ first. absurd (begun first);
      picked = λ after. chosen_more h.config t past s2.list (hand_of s2.mech)
          (subst (λ (x : Protocol). WasChosen h.config past s2.list x) (sym stays.hand)
          (subst (λ (x : List (List ℕ)). WasChosen h.config past x (hand_of s.mech)) (sym stays.list) (h.picked late)));
    }

    step_done : (step : Step) → (negotiate r n k).accepts s args (Ok step) s2 → KeepsPick n k mode (t ∷ past) s2
    step_done step moves =
        let one = (server_picks (hand n k) (values_of s) args s.mech).ends s2.mech (Done step) (values_of s2)
        moves.moves.follows.as_planned in
        by_state (KeepsPick n k mode (t ∷ past) s2) s.state (λ at. after_first at one)
        (λ late. after_later late one.begun (moves.picked late))

    step_refused : (error : Error) → (negotiate r n k).accepts s args (Err error) s2 → ShowsPick n k mode (t ∷ past) s2
    step_refused error moves = record {
      config = h.config;
      mode_is = h.mode_is;
      picked = λ marked. by_state (WasChosen h.config (t ∷ past) s2.list (hand_of s2.mech)) s.state
          (λ at. absurd (false≢true (sym (h.unmarked at)
          ∙ marks_before ((hand n k).counts s.mech) ((hand n k).counts s2.mech) (moves.moves.unmarked at) marked)))
          (λ late. chosen_more h.config t past s2.list (hand_of s2.mech)
          (subst (λ (x : Protocol). WasChosen h.config past s2.list x) (sym (moves.picked late).hand)
          (subst (λ (x : List (List ℕ)). WasChosen h.config past x (hand_of s.mech)) (sym (moves.picked late).list) (h.picked late))));
    }

  -- ---- the context

  abbrev pub Keeps : List Turn → Option (SspiContext N K) → Type 0
  Keeps turns context = HoldsOf n k (KeepsPick n k mode turns) context

  abbrev pub Shows : List Turn → Option (SspiContext N K) → Type 0
  Shows turns context = HoldsOf n k (ShowsPick n k mode turns) context

  pub full_shows : (turns : List Turn) (context : Option (SspiContext N K)) → Keeps turns context → Shows turns context
  full_shows turns context h = holds_map n k (KeepsPick n k mode turns) (ShowsPick n k mode turns) (keeps_show n k mode turns) context h

  -- what a step leaves, by its answer
  abbrev pub After : Result Step Error → List Turn → SspiContext N K → Type 0
  After (Ok step) turns m = Keeps turns (Some m)
  After (Err error) turns m = Shows turns (Some m)

  pub stepped : (t : Turn) (past : List Turn) (m m2 : SspiContext N K) (args : AcceptArgs) (x : Result Step Error) →
      args.input ≡ token_of t.delivered.nego_tokens →
      (either r n k).accepts m args x m2 → Keeps past (Some m) → After x (t ∷ past) m2
  stepped t past m m2 args (Ok step) token a h = holds_accepted r q n k ln lk (KeepsPick n k mode past) (KeepsPick n k mode (t ∷ past))
      m m2 args (Ok step) (λ s s2 moves keeps. step_done t past s s2 args token keeps step moves) a h
  stepped t past m m2 args (Err error) token a h = holds_accepted r q n k ln lk (KeepsPick n k mode past) (ShowsPick n k mode (t ∷ past))
      m m2 args (Err error) (λ s s2 moves keeps. step_refused t past s s2 args token keeps error moves) a h

  pub after_recounted : (turns : List Turn) (m : SspiContext N K) (i : Counts) (x : Result Step Error) → After x turns m →
      silent i ≡ silent ((either r n k).counts m) →
      After x turns ((either r n k).counted m i)
  after_recounted turns m i (Ok step) h same =
      holds_recounted r q n k ln lk (KeepsPick n k mode turns) (keeps_of_mics n k mode turns) m i same h
  after_recounted turns m i (Err error) h same =
      holds_recounted r q n k ln lk (ShowsPick n k mode turns) (shows_of_mics n k mode turns) m i same h

  pub after_identified : (turns : List Turn) (m m2 : SspiContext N K) (ids : List Credentials) (x : Result Step Error) → After x turns m →
      (either r n k).identifies m ids m2 → After x turns m2
  after_identified turns m m2 ids (Ok step) h found =
      holds_identified r q n k ln lk (KeepsPick n k mode turns) (keeps_of_mics n k mode turns) m m2 ids found h
  after_identified turns m m2 ids (Err error) h found =
      holds_identified r q n k ln lk (ShowsPick n k mode turns) (shows_of_mics n k mode turns) m m2 ids found h

  -- a context that was just made
  first_named : (o : Result Origin ErrorKind) (m : NegotiatedProtocol N K) → IsFirst (hand n k) o m → protocol_from o ≡ Some (hand_of m)
  first_named (Ok (Configured (configs.Ntlm config))) (hands.Ntlm m) h = refl
  first_named (Ok (Configured (configs.Ntlm config))) (hands.Kerberos m) h = absurd h
  first_named (Ok (Configured (configs.Kerberos config))) (hands.Ntlm m) h = absurd h
  first_named (Ok (Configured (configs.Kerberos config))) (hands.Kerberos m) h = refl
  first_named (Ok (Configured (configs.KerberosServer config server))) (hands.Ntlm m) h = absurd h
  first_named (Ok (Configured (configs.KerberosServer config server))) (hands.Kerberos m) h = refl
  first_named (Ok (InPlaceOfNtlm url kdcs computer)) (hands.Ntlm m) h = absurd h
  first_named (Ok (InPlaceOfNtlm url kdcs computer)) (hands.Kerberos m) h = refl
  first_named (Err kind) m h = absurd h

  first_counts : (o : Result Origin ErrorKind) (m : NegotiatedProtocol N K) → IsFirst (hand n k) o m → (hand n k).counts m ≡ no_counts
  first_counts (Ok origin) m h = (hand_keeps r q n k ln lk).made origin m h
  first_counts (Err kind) m h = absurd h

  no_url : (role : Role) (v : Values) → acquired_url role v None ≡ None
  no_url roles.Client v = refl
  no_url roles.Server v = refl

  fresh_keeps : (config : NegotiateConfig) (known : List AuthIdentity) (buffers : Option CredentialsBuffers) (turns : List Turn)
      (s s2 : Negotiation (NegotiatedProtocol N K)) → mode ≡ modes.Negotiate config →
      IsFirst (hand n k) (first_in_hand roles.Server config) s.mech → s ≡ fresh roles.Server config known s.mech →
      (negotiate r n k).acquires s Inbound None buffers s2 → KeepsPick n k mode turns s2
  fresh_keeps config known buffers turns s s2 is made same got =
      let taken : got.mech ≡ s.mech = subst (λ (x : Option (List ℕ)). TakenBy (hand n k) x s.kdcs s.computer s.mech got.mech)
      (no_url s.role (values_of s)) got.taken in
      let state : s2.state ≡ states.Initial =
      ap (λ (x : Negotiation (NegotiatedProtocol N K)). x.state) got.kept
      ∙ ap (λ (x : Negotiation (NegotiatedProtocol N K)). x.state) same in
      let packages : s2.packages ≡ packages_in config =
      ap (λ (x : Negotiation (NegotiatedProtocol N K)). x.packages) got.kept
      ∙ ap (λ (x : Negotiation (NegotiatedProtocol N K)). x.packages) same in
      let named : hand_of s2.mech ≡ hand_of s.mech =
      acquired_hand n k got.mech s2.mech Inbound None buffers got.acquired ∙ ap (λ (x : NegotiatedProtocol N K). hand_of x) taken in
      let counts : (hand n k).counts s2.mech ≡ no_counts =
      (hand_keeps r q n k ln lk).acquired got.mech s2.mech Inbound None buffers got.acquired
      ∙ ap (λ (x : NegotiatedProtocol N K). (hand n k).counts x) taken ∙ first_counts _ s.mech made in
      record {
        config = config;
        mode_is = is;
        packages = packages;
        first = λ at. first_named _ s.mech made ∙ ap (λ (x : Protocol). Some x) (sym named);
        unmarked = λ at. ap is_marked counts;
        picked = λ late. absurd (late state);
      }

  made_keeps : (way : ServerMode) (entries : Option (List AuthIdentity)) (buffers : Option CredentialsBuffers) (turns : List Turn)
      (m m2 : SspiContext N K) → mode ≡ way →
      (either r n k).made (ForServer way entries) m → (either r n k).acquires m Inbound None buffers m2 → Keeps turns (Some m2)
  made_keeps (modes.Negotiate config) entries buffers turns (contexts.Negotiate s) (contexts.Negotiate s2) is made got =
      fresh_keeps config s.known buffers turns s s2 is made.1.0 made.1.1 got
  made_keeps (modes.Ntlm config) entries buffers turns (contexts.Ntlm m) (contexts.Ntlm m2) is made got =
      ap is_marked (ln.acquire_counts m m2 _ _ _ got) ∙ ap is_marked (ln.made_fresh _ m made)
  made_keeps (modes.Negotiate config) entries buffers turns (contexts.Negotiate s) (contexts.Ntlm m2) is made got = absurd got
  made_keeps (modes.Negotiate config) entries buffers turns (contexts.Negotiate s) (contexts.Kerberos m2) is made got = absurd got
  made_keeps (modes.Negotiate config) entries buffers turns (contexts.Ntlm m) m2 is made got = absurd made
  made_keeps (modes.Negotiate config) entries buffers turns (contexts.Kerberos m) m2 is made got = absurd made
  made_keeps (modes.Ntlm config) entries buffers turns (contexts.Ntlm m) (contexts.Negotiate s2) is made got = absurd got
  made_keeps (modes.Ntlm config) entries buffers turns (contexts.Ntlm m) (contexts.Kerberos m2) is made got = absurd got
  made_keeps (modes.Ntlm config) entries buffers turns (contexts.Negotiate s) m2 is made got = absurd made
  made_keeps (modes.Ntlm config) entries buffers turns (contexts.Kerberos m) m2 is made got = absurd made

  pub begun_keeps : (context : Option (SspiContext N K)) (had handle : Option CredentialsBuffers) (entries : Option (List AuthIdentity))
      (turns : List Turn) (m : SspiContext N K) → Keeps turns context →
      Begun (either r n k) context had (ForServer mode entries) Inbound None handle m → Keeps turns (Some m)
  begun_keeps context had handle entries turns m h (goes_on is same) = subst (λ (o : Option (SspiContext N K)). Keeps turns o) is h
  begun_keeps context had handle entries turns m h (is_new m0 none made got) = made_keeps mode entries handle turns m0 m refl made got
