-- The rows that both ends of a negotiation have in common, with each way in which they may end.
use Rattle.std.proofs.Common.{◌≡◌, ◌==◌, ℕ, Bool, length, map, List, Option, None, Some, refl}
use Rattle.sspi_types.specs.declared.error_kind.ErrorKind.TheVariants.{InternalError, NoCredentials}
use Rattle.sspi_types.specs.declared.security_status.SecurityStatus.{SecurityStatus}
use Rattle.sspi_types.specs.declared.security_status.SecurityStatus.TheVariants as statuses
use Rattle.sspi_names.specs.declared.credentials.Credentials.TheVariants.{AuthIdentity as Credential}
use Rattle.sspi_mech.specs.declared.step.Answer.{Answer}
use Rattle.sspi_mech.specs.declared.step.Answer.TheVariants.{Done}
use Rattle.sspi_mech.specs.Meaning.{Meaning}
use Rattle.sspi_tokens.specs.declared.neg_result.NegResult.{NegResult}
use Rattle.sspi_tokens.specs.declared.neg_token_targ.NegTokenTarg.{NegTokenTarg}
use Rattle.sspi_tokens.specs.Spelling.{spelled_list, spelled_targ}
use Rattle.sspi_negotiate.specs.declared.protocol.Protocol.{Protocol}
use Rattle.sspi_negotiate.specs.declared.protocol.Protocol.TheVariants as protocols
use Rattle.sspi_negotiate.specs.declared.state.NegotiateState.{NegotiateState}
use Rattle.sspi_negotiate.specs.declared.state.NegotiateState.TheVariants as states
use Rattle.sspi_negotiate.specs.Hand.{Origin}
use Rattle.sspi_negotiate.specs.Known.{named}
use Rattle.sspi_negotiate.specs.Plan.{Plan}
use Rattle.sspi_negotiate.specs.Rows.{written, writes, in_ntlm, signs_text, verifies_text, checks, completes, answers_signed, carries_on}
use Rattle.sspi_negotiate.specs.Values.{Values}
use Rattle.sspi_negotiate.specs.Verified.{Leaves, having_signed, IsVerified}
use Rattle.sspi_negotiate.proofs.Leads.{Leads, AtRefusal, by_itself, unwritten, nobody, goes, stops, takes, names, identifies, signs, verifies}
use Rattle.sspi_negotiate.proofs.Leads.{either}

module _ {M : Type 0} (c : Meaning Origin M) (R : M → Answer → Values → Type 0) where
  -- at a step that is made with this status
  abbrev pub AtDone : M → SecurityStatus → Values → Type 0
  AtDone m status v = (output : List ℕ) → R m (Done (record { status = status; output = output })) v

  pub written_leads : (o : Option (List ℕ)) (v v2 : Values) (status : SecurityStatus) (m : M) → AtRefusal c R v →
      ((text : List ℕ) → o ≡ Some text → R m (Done (record { status = status; output = text })) v2) →
      Leads c R (written o v v2 status) m
  written_leads None v v2 status m refuse done = stops c R v InternalError m (by_itself (unwritten refl)) refuse
  written_leads (Some text) v v2 status m refuse done = goes c R v2 _ m (done text refl)

  pub writes_leads : (token : NegTokenTarg) (v v2 : Values) (status : SecurityStatus) (m : M) → AtRefusal c R v → AtDone m status v2 →
      Leads c R (writes token v v2 status) m
  unfolding writes
  writes_leads token v v2 status m refuse done = written_leads (spelled_targ token) v v2 status m refuse (λ text is. done text)

  pub in_ntlm_leads : (protocol : Protocol) (computer : List ℕ) (rest : Plan) (m : M) → ((m1 : M) → Leads c R rest m1) →
      Leads c R (in_ntlm protocol computer rest) m
  in_ntlm_leads protocols.Ntlm computer rest m h = h m
  in_ntlm_leads protocols.Kerberos computer rest m h = takes c R _ rest m h

  signs_leads : (o : Option (List ℕ)) (v : Values) (rest : List ℕ → Plan) (m : M) → AtRefusal c R v →
      ((m1 : M) (mic : List ℕ) → Leaves c m m1 → Leads c R (rest mic) m1) → Leads c R (signs_text o v rest) m
  signs_leads None v rest m refuse h = stops c R v InternalError m (by_itself (unwritten refl)) refuse
  signs_leads (Some text) v rest m refuse h = signs c R text v rest m refuse (λ m1 mic same. h m1 mic (having_signed same))

  -- the MIC of the list was verified, and still counts if the rest makes at most its own
  abbrev pub Onward : List (List ℕ) → Plan → Type 0
  Onward list rest = (m : M) → ((m2 : M) → Leaves c m m2 → IsVerified c list m2) → Leads c R rest m

  pub verifies_leads : (mic : List ℕ) (o : Option (List ℕ)) (v : Values) (rest : Plan) (m : M) → spelled_list v.list ≡ o →
      AtRefusal c R v → Onward v.list rest → Leads c R (verifies_text mic o v rest) m
  verifies_leads mic None v rest m is refuse h = stops c R v InternalError m (by_itself (unwritten refl)) refuse
  verifies_leads mic (Some text) v rest m is refuse h = verifies c R mic text v rest m refuse
      (λ m1 verified counted permitted. h m1 (λ m2 last. record {
        before = m;
        after = m1;
        mic = mic;
        text = text;
        spelled = is;
        permitted = permitted;
        verified = verified;
        counted = counted;
        last = last;
      }))

  pub checks_leads : (mic : List ℕ) (v : Values) (rest : Plan) (m : M) → AtRefusal c R v → Onward v.list rest →
      Leads c R (checks mic v rest) m
  checks_leads mic v rest m refuse h = names c R v _ m refuse
      (λ m1 name is. either c R (length (map Credential (named name v.known)) == 0) _ _ m1
      (λ none. stops c R v NoCredentials m1 (by_itself (nobody refl)) refuse)
      (λ some. identifies c R _ v _ m1 refuse (λ m3. verifies_leads mic (spelled_list v.list) v rest m3 refl refuse h)))

  pub completes_leads : (v : Values) (token : List ℕ) (need : Bool) (m : M) → AtRefusal c R v →
      AtDone m statuses.Ok (record v { need = need; state = states.Ok }) → Leads c R (completes v token need) m
  unfolding completes
  completes_leads v token need m refuse done = writes_leads _ v _ statuses.Ok m refuse done

  pub signed_leads : (result : NegResult) (state : NegotiateState) (status : SecurityStatus) (v : Values) (token : List ℕ) (m : M) →
      AtRefusal c R v → ((m1 : M) → Leaves c m m1 → AtDone m1 status (record v { state = state })) →
      Leads c R (answers_signed result state status v token) m
  unfolding answers_signed
  signed_leads result state status v token m refuse done = signs_leads (spelled_list v.list) v _ m refuse
      (λ m1 mic left. writes_leads _ v _ status m1 refuse (done m1 left))

  pub carries_on_leads : (v : Values) (token : List ℕ) (status : SecurityStatus) (m : M) → AtRefusal c R v → AtDone m status v →
      Leads c R (carries_on v token status) m
  unfolding carries_on
  carries_on_leads v token status m refuse done = writes_leads _ v v status m refuse done
