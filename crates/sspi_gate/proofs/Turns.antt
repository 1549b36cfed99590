-- A relay, step by step.
use Rattle.std.proofs.Common.{◌≡◌, ℕ, ◌+◌, ◌<◌, List, [], ◌∷◌, ◌++◌, length, Option, None}
use Rattle.std.proofs.Common.{Some, Ok, Err, refl, sym, ap, ◌∙◌, subst, arith}
use Rattle.std.proofs.lemmas.List.{append-nil, length_push}
use Rattle.std.proofs.lemmas.List.Elements.{All-nil, All-push}
use Rattle.std.proofs.KnownBytes.{Appends-nil, Appends-trans, Consumes-nil, Consumes-trans}
use Rattle.sspi_types.specs.declared.nstatus.NStatusCode.{NStatusCode}
use Rattle.sspi_credssp.specs.declared.turn.End.TheVariants.{Client, Server}
use Rattle.sspi_gate.specs.declared.answer.Close.TheVariants.{Ended, Refused}
use Rattle.sspi_gate.specs.declared.answer.GateFault.{GateFault}
use Rattle.sspi_gate.specs.declared.answer.GateFault.TheVariants.{Bad, Version, ReadFault, WriteFault, TurnsSpent, InsufficientMemory}
use Rattle.sspi_gate.specs.declared.passing.Seen.{Seen}
use Rattle.sspi_gate.specs.declared.passing.Step.TheVariants as steps
use Rattle.sspi_tsreq.specs.declared.request.TsRequest.{TsRequest}
use Rattle.sspi_framing.proofs.Fronts.{joined}
use Rattle.sspi_gate.specs.Front.{AreCalm, HaveOneVersion, MaySend, first_version, refusal}
use Rattle.sspi_gate.specs.Relay.{GivesUp, IsBroken, IsRelay, Passed}
use Rattle.sspi_gate.specs.Step.{IsStep}
use Rattle.sspi_gate.specs.Way.{HandsOn, Way}

-- ---- requests handed on

pub nothing_handed : (way : Way) → HandsOn way way []
nothing_handed way = record {
  front = [];
  requests_are = refl;
  taken = Consumes-nil way.left;
  written = Appends-nil way.written;
  reading = refl;
  writing = refl;
}

pub handed : (a b c : Way) (requests others : List TsRequest) → HandsOn a b requests → HandsOn b c others → HandsOn a c (requests ++ others)
handed a b c requests others p q = record {
  front = p.front ++ q.front;
  requests_are = joined p.front q.front requests others p.requests_are q.requests_are;
  taken = Consumes-trans a.left b.left c.left p.front q.front p.taken q.taken;
  written = Appends-trans a.written b.written c.written p.front q.front p.written q.written;
  reading = q.reading ∙ p.reading;
  writing = q.writing ∙ p.writing;
}

handed_nothing : (a b c : Way) (requests : List TsRequest) → HandsOn a b requests → HandsOn b c [] → HandsOn a c requests
handed_nothing a b c requests p q = subst (λ (l : List TsRequest). HandsOn a c l) (append-nil requests) (handed a b c requests [] p q)

-- ---- versions

version_on : (requests : List TsRequest) (r : TsRequest) → HaveOneVersion requests → MaySend (first_version requests) r.version →
    HaveOneVersion (requests ++ r ∷ [])
version_on [] r one may = All-nil (λ (s : TsRequest). s.version ≡ r.version)
version_on (first ∷ later) r one may = All-push (λ (s : TsRequest). s.version ≡ first.version) later r one may

first_on : (requests : List TsRequest) (r : TsRequest) → MaySend (first_version requests) r.version →
    Some r.version ≡ first_version (requests ++ r ∷ [])
first_on [] r may = refl
first_on (first ∷ later) r may = ap (λ (v : ℕ). Some v) may

-- ---- turns

-- this many turns were made, and the client's request is due
pub record SoFar (done : ℕ) (up down up_now down_now : Way) (client_version server_version : Option ℕ) : Type 0 where
  pub sent : List TsRequest
  pub answered : List TsRequest
  pub passed : Passed up down up_now down_now sent answered
  pub client_first : client_version ≡ first_version sent
  pub server_first : server_version ≡ first_version answered
  pub all_sent : length sent ≡ done
  pub all_answered : length answered ≡ done
  pub calm : AreCalm answered

-- the client's request of the next turn was handed on too
pub record Half (done : ℕ) (up down up_now down_now : Way) (client_version server_version : Option ℕ) : Type 0 where
  pub sent : List TsRequest
  pub answered : List TsRequest
  pub passed : Passed up down up_now down_now sent answered
  pub client_first : client_version ≡ first_version sent
  pub server_first : server_version ≡ first_version answered
  pub all_sent : length sent ≡ done + 1
  pub all_answered : length answered ≡ done
  pub calm : AreCalm answered

pub no_turn : (up down : Way) → SoFar 0 up down up down None None
no_turn up down = record {
  sent = [];
  answered = [];
  passed = record { from_client = nothing_handed up; from_server = nothing_handed down; client_version = tt; server_version = tt };
  client_first = refl;
  server_first = refl;
  all_sent = refl;
  all_answered = refl;
  calm = All-nil (λ (r : TsRequest). refusal r ≡ None);
}

pub client_passed : (done : ℕ) (up down up_now down_now up_next : Way) (client_version server_version : Option ℕ) (seen : Seen) →
    SoFar done up down up_now down_now client_version server_version → IsStep Client client_version up_now up_next (steps.Passed seen) →
    Half done up down up_next down_now (Some seen.version) server_version
client_passed done up down up_now down_now up_next client_version server_version seen s (r, one, is, may) =
    let agrees : MaySend (first_version s.sent) r.version = subst (λ (v : Option ℕ). MaySend v r.version) s.client_first may in
    record {
      sent = s.sent ++ r ∷ [];
      answered = s.answered;
      passed = record {
        from_client = handed up up_now up_next s.sent (r ∷ []) s.passed.from_client one;
        from_server = s.passed.from_server;
        client_version = version_on s.sent r s.passed.client_version agrees;
        server_version = s.passed.server_version;
      };
      client_first = ap (λ (v : ℕ). Some v) is.version ∙ first_on s.sent r agrees;
      server_first = s.server_first;
      all_sent = length_push s.sent r ∙ ap (λ (n : ℕ). n + 1) s.all_sent;
      all_answered = s.all_answered;
      calm = s.calm;
    }

-- what was passed once the server's request was handed on too
both_passed : (up down up_now down_now down_next : Way) (sent answered : List TsRequest) (r : TsRequest) →
    Passed up down up_now down_now sent answered → HandsOn down_now down_next (r ∷ []) → MaySend (first_version answered) r.version →
    Passed up down up_now down_next sent (answered ++ r ∷ [])
both_passed up down up_now down_now down_next sent answered r p one may = record {
  from_client = p.from_client;
  from_server = handed down down_now down_next answered (r ∷ []) p.from_server one;
  client_version = p.client_version;
  server_version = version_on answered r p.server_version may;
}

pub server_passed : (done : ℕ) (up down up_now down_now down_next : Way) (client_version server_version : Option ℕ) (seen : Seen) →
    Half done up down up_now down_now client_version server_version → IsStep Server server_version down_now down_next (steps.Passed seen) →
    seen.refusal ≡ None → SoFar (done + 1) up down up_now down_next client_version (Some seen.version)
server_passed done up down up_now down_now down_next client_version server_version seen s (r, one, is, may) none =
    let agrees : MaySend (first_version s.answered) r.version = subst (λ (v : Option ℕ). MaySend v r.version) s.server_first may in
    record {
      sent = s.sent;
      answered = s.answered ++ r ∷ [];
      passed = both_passed up down up_now down_now down_next s.sent s.answered r s.passed one agrees;
      client_first = s.client_first;
      server_first = ap (λ (v : ℕ). Some v) is.version ∙ first_on s.answered r agrees;
      all_sent = s.all_sent;
      all_answered = length_push s.answered r ∙ ap (λ (n : ℕ). n + 1) s.all_answered;
      calm = All-push (λ (q : TsRequest). refusal q ≡ None) s.answered r s.calm (sym is.refusal ∙ none);
    }

-- ---- ends

pub server_refused : (limit done count : ℕ) (up down up_now down_now down_next : Way) (client_version server_version : Option ℕ)
    (seen : Seen)
    (code : NStatusCode) →
    Half done up down up_now down_now client_version server_version → IsStep Server server_version down_now down_next (steps.Passed seen) →
    seen.refusal ≡ Some code → done < limit → count ≡ done + 1 + (done + 1) →
    IsRelay limit up down up_now down_next (Ok (record { passed = count; how = Refused code }))
server_refused limit done count up down up_now down_now down_next client_version server_version seen code s (r, one, is, may) refuses lt e =
    let agrees : MaySend (first_version s.answered) r.version = subst (λ (v : Option ℕ). MaySend v r.version) s.server_first may in
    let more = length_push s.answered r in
    record {
      sent = s.sent;
      answered = s.answered ++ r ∷ [];
      up_last = up_now;
      down_last = down_next;
      passed = both_passed up down up_now down_now down_next s.sent s.answered r s.passed one agrees;
      stops = (
        omega (arith, e, s.all_sent, s.all_answered, more),
        record {
          earlier = s.answered;
          last = r;
          parts = refl;
          calm = s.calm;
          refused = sym is.refusal ∙ refuses;
          all_answered = omega (arith, s.all_sent, s.all_answered, more);
          within = omega (arith, s.all_answered, more, lt);
        },
        refl,
        refl,
      );
    }

pub client_ended : (limit done count : ℕ) (up down up_now down_now up_next : Way) (client_version server_version : Option ℕ) →
    SoFar done up down up_now down_now client_version server_version → IsStep Client client_version up_now up_next steps.Ended →
    done < limit
    → count ≡ done + done → IsRelay limit up down up_next down_now (Ok (record { passed = count; how = Ended Client }))
client_ended limit done count up down up_now down_now up_next client_version server_version s (end, none) lt e = record {
  sent = s.sent;
  answered = s.answered;
  up_last = up_next;
  down_last = down_now;
  passed = record {
    from_client = handed_nothing up up_now up_next s.sent s.passed.from_client none;
    from_server = s.passed.from_server;
    client_version = s.passed.client_version;
    server_version = s.passed.server_version;
  };
  stops = (
    omega (arith, e, s.all_sent, s.all_answered),
    (record { due = omega (arith, s.all_sent, s.all_answered); within = omega (arith, s.all_answered, lt); calm = s.calm }, end),
    refl,
    refl,
  );
}

pub server_ended : (limit done count : ℕ) (up down up_now down_now down_next : Way) (client_version server_version : Option ℕ) →
    Half done up down up_now down_now client_version server_version → IsStep Server server_version down_now down_next steps.Ended
    → done < limit
    → count ≡ done + done + 1 → IsRelay limit up down up_now down_next (Ok (record { passed = count; how = Ended Server }))
server_ended limit done count up down up_now down_now down_next client_version server_version s (end, none) lt e = record {
  sent = s.sent;
  answered = s.answered;
  up_last = up_now;
  down_last = down_next;
  passed = record {
    from_client = s.passed.from_client;
    from_server = handed_nothing down down_now down_next s.answered s.passed.from_server none;
    client_version = s.passed.client_version;
    server_version = s.passed.server_version;
  };
  stops = (
    omega (arith, e, s.all_sent, s.all_answered),
    (record { due = omega (arith, s.all_sent, s.all_answered); within = omega (arith, s.all_answered, lt); calm = s.calm }, end),
    refl,
    refl,
  );
}

gives_up : (limit : ℕ) (sent answered : List TsRequest) (up down up_after down_after : Way) (why : GateFault) →
    IsBroken limit sent answered up down up_after down_after why → GivesUp limit sent answered up down up_after down_after why
gives_up limit sent answered up down up_after down_after (Bad end kind) b = b
gives_up limit sent answered up down up_after down_after (Version end) b = b
gives_up limit sent answered up down up_after down_after (ReadFault end) b = b
gives_up limit sent answered up down up_after down_after (WriteFault end) b = b
gives_up limit sent answered up down up_after down_after TurnsSpent b = absurd b.fails
gives_up limit sent answered up down up_after down_after InsufficientMemory b = b

pub client_stopped : (limit done count : ℕ) (up down up_now down_now up_next : Way) (client_version server_version : Option ℕ)
    (why : GateFault) →
    SoFar done up down up_now down_now client_version server_version → IsStep Client client_version up_now up_next
    (steps.Stopped why) → done < limit
    → count ≡ done + done → IsRelay limit up down up_next down_now (Err (record { passed = count; why = why }))
client_stopped limit done count up down up_now down_now up_next client_version server_version why s f lt e = record {
  sent = s.sent;
  answered = s.answered;
  up_last = up_now;
  down_last = down_now;
  passed = s.passed;
  stops = (
    omega (arith, e, s.all_sent, s.all_answered),
    gives_up limit s.sent s.answered up_now down_now up_next down_now why (record {
      end = Client;
      goes_on = record { due = omega (arith, s.all_sent, s.all_answered); within = omega (arith, s.all_answered, lt); calm = s.calm };
      fails = rw s.client_first at f;
      other = refl;
    }),
  );
}

pub server_stopped : (limit done count : ℕ) (up down up_now down_now down_next : Way) (client_version server_version : Option ℕ)
    (why : GateFault) →
    Half done up down up_now down_now client_version server_version → IsStep Server server_version down_now down_next (steps.Stopped why)
    → done < limit → count ≡ done + done + 1 → IsRelay limit up down up_now down_next (Err (record { passed = count; why = why }))
server_stopped limit done count up down up_now down_now down_next client_version server_version why s f lt e = record {
  sent = s.sent;
  answered = s.answered;
  up_last = up_now;
  down_last = down_now;
  passed = s.passed;
  stops = (
    omega (arith, e, s.all_sent, s.all_answered),
    gives_up limit s.sent s.answered up_now down_now up_now down_next why (record {
      end = Server;
      goes_on = record { due = omega (arith, s.all_sent, s.all_answered); within = omega (arith, s.all_answered, lt); calm = s.calm };
      fails = rw s.server_first at f;
      other = refl;
    }),
  );
}

pub spent : (limit done count : ℕ) (up down up_now down_now : Way) (client_version server_version : Option ℕ) →
    SoFar done up down up_now down_now client_version server_version → done ≡ limit → count ≡ done + done →
    IsRelay limit up down up_now down_now (Err (record { passed = count; why = TurnsSpent }))
spent limit done count up down up_now down_now client_version server_version s all e = record {
  sent = s.sent;
  answered = s.answered;
  up_last = up_now;
  down_last = down_now;
  passed = s.passed;
  stops = (
    omega (arith, e, s.all_sent, s.all_answered),
    (record { all_sent = s.all_sent ∙ all; all_answered = s.all_answered ∙ all; calm = s.calm }, refl, refl),
  );
}
