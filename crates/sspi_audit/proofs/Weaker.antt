-- What a turn shows given all that is known of its end, it shows given less.
use Rattle.std.proofs.Common.{◌≡◌, ℕ, ◌⊎◌, inl, inr, List, Option, None, Some, IsSome, Bool, true, false, sym, ◌∙◌, subst, refl}
use Rattle.sspi_types.specs.declared.security_status.SecurityStatus.{SecurityStatus}
use Rattle.sspi_types.specs.declared.security_status.SecurityStatus.TheVariants as statuses
use Rattle.sspi_tsreq.specs.declared.request.TsRequest.{TsRequest}
use Rattle.sspi_credssp.specs.declared.state.CredSspState.{CredSspState}
use Rattle.sspi_credssp.specs.declared.state.CredSspState.TheVariants as state
use Rattle.sspi_credssp.specs.declared.turn.Outcome.{Outcome}
use Rattle.sspi_credssp.specs.declared.turn.Outcome.TheVariants as outcome
use Rattle.sspi_credssp.specs.declared.turn.Turn.{Turn}
use Rattle.sspi_credssp.specs.Turn.{ShownFrame, IsOwn, IsVersionBack, ShowsToken, ShowsProof, ShowsNego, ShowsReply, ShowsClient}
use Rattle.sspi_credssp.specs.Turn.{ShowsTokenBack, ShowsProofBack, ShowsOver, ShowsNegoBack, ShowsStateBack, ShowsAnswer, ShowsServer}
use Rattle.sspi_credssp.specs.Turn.{UnlessRefused, AtNoted, FitsNoted}

-- the second frame knows what the first does, or less of its end's own version; it may have pinned a version where the first has none
pub record Knows (f g : ShownFrame) : Type 0 where
  pub state : g.state ≡ f.state
  pub looks : g.looks ≡ f.looks
  pub noted : (version : ℕ) → f.noted ≡ Some version → g.noted ≡ Some version
  pub version : (g.version ≡ None) ⊎ (g.version ≡ f.version)

own_by : (own less : Option ℕ) (version : ℕ) → (less ≡ None) ⊎ (less ≡ own) → IsOwn own version → IsOwn less version
own_by own less version (inl none) is = rw none tt
own_by own less version (inr same) is = subst (λ (o : Option ℕ). IsOwn o version) (sym same) is

back_by : (own less : Option ℕ) (d version : ℕ) → (less ≡ None) ⊎ (less ≡ own) → IsVersionBack own d version → IsVersionBack less d version
back_by own less d version (inl none) is = rw none tt
back_by own less d version (inr same) is = subst (λ (o : Option ℕ). IsVersionBack o d version) (sym same) is

noted_by : (noted more : Option ℕ) (P : ℕ → Type 0) → ((version : ℕ) → noted ≡ Some version → more ≡ Some version) → AtNoted noted P →
    AtNoted more P
noted_by None more P has at = absurd at
noted_by (Some version) more P has at = subst (λ (o : Option ℕ). AtNoted o P) (sym (has version refl)) at

fits_by : (looks : Bool) (noted more : Option ℕ) (d : ℕ) → ((version : ℕ) → noted ≡ Some version → more ≡ Some version) →
    FitsNoted looks noted d → FitsNoted looks more d
fits_by false noted more d has fits = fits
fits_by true noted more d has fits = noted_by noted more _ has fits

some_by : (noted more : Option ℕ) → ((version : ℕ) → noted ≡ Some version → more ≡ Some version) → IsSome noted → IsSome more
some_by None more has some = absurd (cc (some))
some_by (Some version) more has some = subst (λ (o : Option ℕ). IsSome o) (sym (has version refl)) refl

unless_by : (out : Outcome) (P Q : Type 0) → (P → Q) → UnlessRefused out P → UnlessRefused out Q
unless_by (outcome.Reply r) P Q by p = by p
unless_by (outcome.Final r) P Q by p = by p
unless_by outcome.Finished P Q by p = by p
unless_by (outcome.Refused kind r) P Q by p = tt

module _ (f g : ShownFrame) (knows : Knows f g) where
  own : (version : ℕ) → IsOwn f.version version → IsOwn g.version version
  own version is = own_by f.version g.version version knows.version is

  version_fits : (t : Turn) → UnlessRefused t.outcome (FitsNoted f.looks f.noted t.delivered.version) →
      UnlessRefused t.outcome (FitsNoted g.looks g.noted t.delivered.version)
  version_fits t fits = unless_by t.outcome _ _ (λ is. subst (λ (b : Bool). FitsNoted b g.noted t.delivered.version) (sym knows.looks)
      (fits_by f.looks f.noted g.noted t.delivered.version knows.noted is)) fits

  -- ---- the client

  token : (t : Turn) (r : TsRequest) → ShowsToken f t r → ShowsToken g t r
  token t r shows = record { state = knows.state ∙ shows.state; version = own r.version shows.version; reply = shows.reply }

  proof : (t : Turn) (r : TsRequest) → ShowsProof f t r → ShowsProof g t r
  proof t r shows = record {
    state = knows.state ∙ shows.state;
    proved = shows.proved;
    version = own r.version shows.version;
    nonce = shows.nonce;
    reply = shows.reply;
  }

  nego : (t : Turn) (status : Option SecurityStatus) (r : TsRequest) → ShowsNego f t status r → ShowsNego g t status r
  nego t None r shows = shows
  nego t (Some statuses.Ok) r shows = proof t r shows
  nego t (Some statuses.ContinueNeeded) r shows = token t r shows
  nego t (Some statuses.CompleteNeeded) r shows = token t r shows
  nego t (Some statuses.CompleteAndContinue) r shows = token t r shows
  nego t (Some statuses.LocalLogon) r shows = token t r shows
  nego t (Some statuses.ContextExpired) r shows = token t r shows
  nego t (Some statuses.IncompleteCredentials) r shows = token t r shows
  nego t (Some statuses.Renegotiate) r shows = token t r shows
  nego t (Some statuses.NoLsaContext) r shows = token t r shows

  reply : (t : Turn) (out : Outcome) → ShowsReply f t out → ShowsReply g t out
  reply t (outcome.Reply r) shows = nego t t.acts.status r shows
  reply t (outcome.Final r) shows = record {
    state = knows.state ∙ shows.state;
    checked = shows.checked;
    sealed = shows.sealed;
    version = own r.version shows.version;
    reply = shows.reply;
  }
  reply t outcome.Finished shows = shows
  reply t (outcome.Refused kind None) shows = shows
  reply t (outcome.Refused kind (Some r)) shows = shows

  pub client_by : (t : Turn) → ShowsClient f t → ShowsClient g t
  client_by t shows = record {
    code = shows.code;
    version = version_fits t shows.version;
    acts = record {
      negotiated = λ is. knows.state ∙ shows.acts.negotiated is;
      answered = shows.acts.answered;
      proved = λ is. ((shows.acts.proved is).0, some_by f.noted g.noted knows.noted (shows.acts.proved is).1);
      checked = λ is. (knows.state ∙ (shows.acts.checked is).0, (shows.acts.checked is).1);
      sealed = shows.acts.sealed;
      opened = shows.acts.opened;
    };
    reply = reply t t.outcome shows.reply;
  }

  -- ---- the server

  token_back : (t : Turn) (r : TsRequest) → ShowsTokenBack f t r → ShowsTokenBack g t r
  token_back t r shows = record { unproved = shows.unproved; version = own r.version shows.version; reply = shows.reply }

  proof_back : (t : Turn) (r : TsRequest) → ShowsProofBack f t r → ShowsProofBack g t r
  proof_back t r shows = record {
    checked = shows.checked;
    proved = shows.proved;
    version = own r.version shows.version;
    reply = shows.reply;
  }

  over : (t : Turn) (blob : Option (List ℕ)) (r : TsRequest) → ShowsOver f t blob r → ShowsOver g t blob r
  over t None r shows = (token_back t r shows.0, shows.1)
  over t (Some blob) r shows = proof_back t r shows

  nego_back : (t : Turn) (status : Option SecurityStatus) (r : TsRequest) → ShowsNegoBack f t status r → ShowsNegoBack g t status r
  nego_back t None r shows = shows
  nego_back t (Some statuses.Ok) r shows = over t t.delivered.pub_key_auth r shows
  nego_back t (Some statuses.ContinueNeeded) r shows = token_back t r shows
  nego_back t (Some statuses.CompleteNeeded) r shows = over t t.delivered.pub_key_auth r shows
  nego_back t (Some statuses.CompleteAndContinue) r shows = shows
  nego_back t (Some statuses.LocalLogon) r shows = shows
  nego_back t (Some statuses.ContextExpired) r shows = shows
  nego_back t (Some statuses.IncompleteCredentials) r shows = shows
  nego_back t (Some statuses.Renegotiate) r shows = shows
  nego_back t (Some statuses.NoLsaContext) r shows = shows

  state_back : (t : Turn) (at : CredSspState) (r : TsRequest) → ShowsStateBack f t at r → ShowsStateBack g t at r
  state_back t state.NegoToken r shows = nego_back t t.acts.status r shows
  state_back t state.PubKeyInfo r shows = proof_back t r shows
  state_back t state.AuthInfo r shows = shows
  state_back t state.Final r shows = shows

  answer : (t : Turn) (out : Outcome) → ShowsAnswer f t out → ShowsAnswer g t out
  answer t (outcome.Reply r) shows =
      subst (λ (s : CredSspState). ShowsStateBack g t s r) (sym knows.state) (state_back t f.state r shows)
  answer t (outcome.Final r) shows = shows
  answer t outcome.Finished shows = (knows.state ∙ shows.0, shows.1)
  answer t (outcome.Refused kind None) shows = shows
  answer t (outcome.Refused kind (Some r)) shows = record {
    version = back_by f.version g.version t.delivered.version r.version knows.version shows.version;
    reply = rw knows.state shows.reply;
  }

  pub server_by : (t : Turn) → ShowsServer f t → ShowsServer g t
  server_by t shows = record {
    version = version_fits t shows.version;
    acts = record {
      negotiated = λ is. knows.state ∙ shows.acts.negotiated is;
      answered = shows.acts.answered;
      checked = λ is. (rw knows.state (shows.acts.checked is).0, (shows.acts.checked is).1);
      proved = λ is. ((shows.acts.proved is).0, noted_by f.noted g.noted _ knows.noted (shows.acts.proved is).1);
      opened = λ is. (knows.state ∙ (shows.acts.opened is).0, (shows.acts.opened is).1);
      sealed = shows.acts.sealed;
    };
    reply = answer t t.outcome shows.reply;
  }
