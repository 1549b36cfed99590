-- The rows that both ends have in common ask for what the host was told.
use Rattle.std.proofs.Common.{◌≡◌, ℕ, ◌==◌, Bool, true, false, length, map, List, [], ◌∷◌, Option, None, Some, refl, if◌then◌else◌}
use Rattle.sspi_types.specs.declared.security_status.SecurityStatus.{SecurityStatus}
use Rattle.sspi_types.specs.declared.security_status.SecurityStatus.TheVariants as statuses
use Rattle.sspi_names.specs.declared.credentials.Credentials.TheVariants.{AuthIdentity as Credential}
use Rattle.sspi_tokens.specs.Spelling.{spelled_list, spelled_targ}
use Rattle.sspi_tokens.specs.declared.neg_result.NegResult.{NegResult}
use Rattle.sspi_tokens.specs.declared.neg_token_targ.NegTokenTarg.{NegTokenTarg}
use Rattle.sspi_negotiate.specs.declared.protocol.Protocol.{Protocol}
use Rattle.sspi_negotiate.specs.declared.protocol.Protocol.TheVariants as protocols
use Rattle.sspi_negotiate.specs.declared.state.NegotiateState.{NegotiateState}
use Rattle.sspi_negotiate.specs.declared.state.NegotiateState.TheVariants as states
use Rattle.sspi_negotiate.specs.Known.{named}
use Rattle.sspi_negotiate.specs.Plan.{Plan}
use Rattle.sspi_negotiate.specs.Rows.{written, writes, in_ntlm, signs_text, verifies_text, checks, completes, answers_signed, carries_on}
use Rattle.sspi_negotiate.specs.Rows.{or_empty}
use Rattle.sspi_negotiate.specs.Values.{Values}
use Rattle.sspi_credssp.specs.Requests.{unless_empty}
use Rattle.sspi_outside.specs.Course.{Asking, course_of}
use Rattle.sspi_outside.specs.Runs.{Runs}
use Rattle.sspi_outside.specs.declared.course.Course.{Course}

-- the step of a mechanism, with this token
abbrev pub asked_with : Protocol → List ℕ → Option Asking
asked_with mechanism token = Some (record { mechanism = mechanism; token = token })

pub back : (envelope : List ℕ) → or_empty (unless_empty envelope) ≡ envelope
back [] = refl
back (byte ∷ bytes) = refl

module _ (ip : Bool) (list : Option (List ℕ)) (known : Bool → SecurityStatus → Course) where
  pub either_runs : (b : Bool) (p q : Plan) (due : Option Asking) (ended : Bool) (held : Protocol) →
      (b ≡ true → Runs ip list known due ended held p) → (b ≡ false → Runs ip list known due ended held q) →
      Runs ip list known due ended held (if b then p else q)
  either_runs true p q due ended held first second = first refl
  either_runs false p q due ended held first second = second refl

  pub in_ntlm_runs : (hand : Protocol) (computer : List ℕ) (p : Plan) (due : Option Asking) (ended : Bool) →
      Runs ip list known due ended protocols.Ntlm p → Runs ip list known due ended hand (in_ntlm hand computer p)
  in_ntlm_runs protocols.Ntlm computer p due ended runs = runs
  in_ntlm_runs protocols.Kerberos computer p due ended runs = runs

  pub written_runs : (text : Option (List ℕ)) (v v2 : Values) (status : SecurityStatus) (ended : Bool) (held : Protocol) →
      course_of ip v2 ≡ known ended status → Runs ip list known None ended held (written text v v2 status)
  written_runs None v v2 status ended held is = tt
  written_runs (Some text) v v2 status ended held is = (refl, is)

  pub writes_runs : (token : NegTokenTarg) (v v2 : Values) (status : SecurityStatus) (ended : Bool) (held : Protocol) →
      course_of ip v2 ≡ known ended status → Runs ip list known None ended held (writes token v v2 status)
  unfolding writes
  writes_runs token v v2 status ended held is = written_runs (spelled_targ token) v v2 status ended held is

  signs_runs : (text : Option (List ℕ)) (v : Values) (rest : List ℕ → Plan) (ended : Bool) (held : Protocol) → list ≡ text →
      ((mic : List ℕ) → Runs ip list known None ended held (rest mic)) → Runs ip list known None ended held (signs_text text v rest)
  signs_runs None v rest ended held is runs = tt
  signs_runs (Some text) v rest ended held is runs = (is, runs)

  pub verifies_runs : (mic : List ℕ) (text : Option (List ℕ)) (v : Values) (p : Plan) (ended : Bool) (held : Protocol) → list ≡ text →
      Runs ip list known None ended held p → Runs ip list known None ended held (verifies_text mic text v p)
  verifies_runs mic None v p ended held is runs = tt
  verifies_runs mic (Some text) v p ended held is runs = (is, runs)

  pub checks_runs : (mic : List ℕ) (v : Values) (p : Plan) (ended : Bool) (held : Protocol) → list ≡ spelled_list v.list →
      Runs ip list known None ended held p → Runs ip list known None ended held (checks mic v p)
  checks_runs mic v p ended held is runs = λ name. either_runs (length (map Credential (named name v.known)) == 0) _ _ None ended held
      (λ none. tt) (λ some. verifies_runs mic (spelled_list v.list) v p ended held is runs)

  pub completes_runs : (v : Values) (token : List ℕ) (need ended : Bool) (held : Protocol) →
      course_of ip (record v { need = need; state = states.Ok }) ≡ known ended statuses.Ok →
      Runs ip list known None ended held (completes v token need)
  unfolding completes
  completes_runs v token need ended held is = writes_runs _ v _ statuses.Ok ended held is

  pub signed_runs : (result : NegResult) (state : NegotiateState) (status : SecurityStatus) (v : Values) (token : List ℕ)
      (ended : Bool) (held : Protocol) → list ≡ spelled_list v.list → course_of ip (record v { state = state }) ≡ known ended status →
      Runs ip list known None ended held (answers_signed result state status v token)
  unfolding answers_signed
  signed_runs result state status v token ended held over is =
      signs_runs (spelled_list v.list) v _ ended held over (λ mic. writes_runs _ v _ status ended held is)

  pub carries_runs : (v : Values) (token : List ℕ) (status : SecurityStatus) (ended : Bool) (held : Protocol) →
      course_of ip v ≡ known ended status → Runs ip list known None ended held (carries_on v token status)
  unfolding carries_on
  carries_runs v token status ended held is = writes_runs _ v _ status ended held is
