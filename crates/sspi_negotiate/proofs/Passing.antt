-- Parts of a step, each with what comes after it.
use Rattle.std.proofs.Common.{◌≡◌, ◌≢◌, ◌==◌, ℕ, length, cond, true, false, List, Option, None, Some}
use Rattle.std.proofs.Common.{Result, Ok, Err, OnOk, OnErr, IfErr, refl, sym, ◌∙◌, subst, inl, inr}
use Rattle.sspi_types.specs.declared.error.Error.{Error}
use Rattle.sspi_types.specs.declared.error_kind.ErrorKind.TheVariants.{InsufficientMemory, NoCredentials}
use Rattle.sspi_names.specs.Name.{Name}
use Rattle.sspi_names.specs.declared.credentials.Credentials.{Credentials}
use Rattle.sspi_names.specs.declared.kdc_table.KdcEntry.{KdcEntry}
use Rattle.sspi_mech.specs.declared.step.Answer.{Answer}
use Rattle.sspi_mech.specs.declared.step.Answer.TheVariants.{Refused}
use Rattle.sspi_mech.specs.Calls.{ToName, ToIdentify, ToVerify, one_verification}
use Rattle.sspi_mech.specs.Meaning.{Meaning}
use Rattle.sspi_mech.specs.Settings.{Setting}
use Rattle.sspi_negotiate.specs.declared.protocol.NegotiatedProtocol.{NegotiatedProtocol}
use Rattle.sspi_negotiate.specs.Does.{Meets}
use Rattle.sspi_negotiate.specs.Passes.{Passes}
use Rattle.sspi_negotiate.specs.Follows.{answered, refused}
use Rattle.sspi_negotiate.specs.Hand.{Origin, hand, in_place_of_kerberos}
use Rattle.sspi_negotiate.specs.Plan.{Plan, Stops, Names, Identifies, Verifies}
use Rattle.sspi_negotiate.specs.Values.{Values, Negotiation, values_of}
use Rattle.sspi_negotiate.specs.Rows.{in_ntlm, identifies_among}
use Rattle.sspi_negotiate.specs.Rule.{TakenBy, by_rule}
use Rattle.sspi_negotiate.specs.declared.protocol.Protocol.TheVariants.{Kerberos}
use Rattle.sspi_negotiate.proofs.Follow.{unless_map, took, named, not_named}

module _ {N K : Type 0} {n : Meaning Setting N} {k : Meaning Setting K} where
  -- a part that was done, and what follows at the values that it leaves
  pub passed : {T : Type 0} {p : Plan → Plan} {v : Values} {old mid : Negotiation (NegotiatedProtocol N K)} {x : T} {r : Answer}
      {v2 : Values}
      {m2 : NegotiatedProtocol N K} → Passes n k p v old (Ok x) mid → (rest : Values → Plan) →
      Meets (hand n k) (rest (values_of mid)) mid.mech r v2 m2 → Meets (hand n k) (p (rest v)) old.mech r v2 m2
  passed {v = v} {mid = mid} {r = r} {v2 = v2} {m2 = m2} h rest after =
      h.onward.1 (rest v) r v2 m2 (subst (λ w. Meets (hand n k) (rest w) mid.mech r v2 m2) h.onward.0 after)

  -- a part that was refused
  pub stopped : {T : Type 0} {p : Plan → Plan} {v : Values} {old new : Negotiation (NegotiatedProtocol N K)} {error : Error} →
      Passes {T = T} n k p v old (Err error) new →
      (rest : Plan) → Meets (hand n k) (p rest) old.mech (Refused error) (values_of new) new.mech
  stopped h rest = h.onward rest

  pub ntlm_taken : {T : Type 0} {x : T} {v : Values} {old new : Negotiation (NegotiatedProtocol N K)} (computer : List ℕ) →
      (hand n k).made (in_place_of_kerberos computer) new.mech → values_of new ≡ v → Passes n k (in_ntlm Kerberos computer) v old (Ok x) new
  ntlm_taken {new = new} computer made same = record { onward = (same, λ rest r v2 m2 after. took new.mech made after) }

  -- one part after the other
  pub passed_past : {S T : Type 0} (p : Plan → Plan)
      (q : Values → Plan → Plan) {v : Values} {old mid new : Negotiation (NegotiatedProtocol N K)} {x : S}
      (result : Result T Error) → Passes n k p v old (Ok x) mid → Passes n k (q (values_of mid)) (values_of mid) mid result new →
      Passes n k (λ rest. p (q v rest)) v old result new
  passed_past p q {v = v} {mid = mid} (Ok y) h g =
      record { onward = (g.onward.0 ∙ h.onward.0, λ rest r v2 m2 after. passed h (λ w. q w rest) (g.onward.1 rest r v2 m2 after)) }
  passed_past p q {v = v} {mid = mid} (Err error) h g = record { onward = λ rest. passed h (λ w. q w rest) (g.onward rest) }

  pub stopped_part : {S T : Type 0} (p q : Plan → Plan) {v : Values} {old new : Negotiation (NegotiatedProtocol N K)} {error : Error} →
      Passes {T = S} n k p v old (Err error) new → Passes {T = T} n k (λ rest. p (q rest)) v old (Err error) new
  stopped_part p q h = record { onward = λ rest. h.onward (q rest) }

  pub among_part : {T : Type 0} {v : Values} {old new : Negotiation (NegotiatedProtocol N K)} {result : Result T Error}
      (found given : List Credentials) →
      given ≡ found → (length given == 0) ≡ false → Passes n k (Identifies given v) v old result new →
      Passes n k (λ rest. identifies_among found v rest) v old result new
  among_part {v = v} {old = old} {new = new} {result = result} found given same some h =
      subst (λ xs. Passes n k (λ rest. identifies_among xs v rest) v old result new) same
      (subst (λ b. Passes n k (λ rest. cond b (Stops v NoCredentials) (Identifies given v rest)) v old result new) (sym some) h)

  pub among_none : {T : Type 0} {s : Negotiation (NegotiatedProtocol N K)} {error : Error} (found : List Credentials) →
      (length found == 0) ≡ true → (error.error_type ≢ InsufficientMemory → error.error_type ≡ NoCredentials) →
      Passes {T = T} n k (λ rest. identifies_among found (values_of s) rest) (values_of s) s (Err error) s
  among_none {T = T} {s = s} {error = error} found none is =
      record {
        onward = λ rest. subst
            (λ b. Meets (hand n k) (cond b (Stops (values_of s) NoCredentials) (Identifies found (values_of s) rest)) s.mech (Refused error)
            (values_of s) s.mech) (sym none) (record { as_planned = λ other. (is other, refl, refl); reached = inl refl });
      }

  pub identified_part : (found : List Credentials) (old new : Negotiation (NegotiatedProtocol N K)) (result : Result (Unit {0}) Error) →
      values_of new ≡ values_of old → OnOk result ((hand n k).identifies old.mech found new.mech) → OnErr result (new.mech ≡ old.mech) →
      IfErr result (λ error. error.error_type ≢ InsufficientMemory → (hand n k).refuses old.mech (ToIdentify found) error.error_type) →
      Passes n k (Identifies found (values_of old)) (values_of old) old result new
  identified_part found old new (Ok u) same h still cause =
      record {
        onward = (
          same,
          λ rest r v2 m2 after. record {
            as_planned = unless_map r (λ q. answered tt new.mech (h, q)) after.as_planned;
            reached = inr (new.mech, h, after.reached);
          },
        );
      }
  identified_part found old new (Err error) same h still cause =
      record { onward = λ rest. record { as_planned = λ other. refused error (cause other, still) refl same; reached = inl still } }

  pub verified_part : (mic text : List ℕ) (old new : Negotiation (NegotiatedProtocol N K)) (result : Result (Unit {0}) Error) →
      values_of new ≡ values_of old →
      OnOk result ((hand n k).verifies new.mech ((hand n k).counts old.mech).verifications mic text) →
      OnOk result (new.mech ≡ (hand n k).counted old.mech (one_verification ((hand n k).counts old.mech))) →
      OnOk result ((hand n k).permits old.mech (ToVerify mic text)) → OnErr result (new.mech ≡ old.mech) →
      IfErr result (λ error. error.error_type ≢ InsufficientMemory →
      (hand n k).refuses old.mech (ToVerify mic text) error.error_type) →
      Passes n k (Verifies mic text (values_of old)) (values_of old) old result new
  verified_part mic text old new (Ok u) same h counted permitted still cause =
      record {
        onward = (
          same,
          λ rest r v2 m2 after. record {
            as_planned = unless_map r (λ q. answered tt new.mech (h, counted, permitted, q)) after.as_planned;
            reached = inr (new.mech, h, counted, permitted, after.reached);
          },
        );
      }
  verified_part mic text old new (Err error) same h counted permitted still cause =
      record { onward = λ rest. record { as_planned = λ other. refused error (cause other, still) refl same; reached = inl still } }

  pub named_part : {T : Type 0} {v : Values} {part : Name → Plan → Plan} {old new : Negotiation (NegotiatedProtocol N K)}
      (result : Result T Error) (name : Name) →
      (hand n k).names old.mech ≡ Some name → Passes n k (part name) v old result new →
      Passes n k (λ rest. Names (values_of old) (λ x. part x rest)) v old result new
  named_part (Ok x) name h p = record { onward = (p.onward.0, λ rest r v2 m2 after. named name h (p.onward.1 rest r v2 m2 after)) }
  named_part (Err error) name h p = record { onward = λ rest. named name h (p.onward rest) }

  pub not_named_part : {T : Type 0} {v : Values} {part : Name → Plan → Plan} (old : Negotiation (NegotiatedProtocol N K)) (error : Error) →
      (error.error_type ≢ InsufficientMemory → (hand n k).refuses old.mech ToName error.error_type) →
      Passes {T = T} n k (λ rest. Names (values_of old) (λ x. part x rest)) v old (Err error) old
  not_named_part old error cause = record { onward = λ rest. not_named error cause refl refl }

-- the protocol rule
pub ruled_met : {M : Type 0} {c : Meaning Origin M} {r : Answer} {v2 : Values} {m m1 m2 : M} {rest : Plan} (url : Option (List ℕ))
    (kdcs : List KdcEntry) (computer : List ℕ) →
    TakenBy c url kdcs computer m m1 → Meets c rest m1 r v2 m2 → Meets c (by_rule url kdcs computer rest) m r v2 m2
ruled_met {c = c} {r = r} {v2 = v2} {m2 = m2} {rest = rest} None kdcs computer same after = subst (λ x. Meets c rest x r v2 m2) same after
ruled_met {m1 = m1} (Some url) kdcs computer made after = took m1 made after
