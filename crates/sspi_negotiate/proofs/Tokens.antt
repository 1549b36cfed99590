-- Tokens that a step reads and writes.
use Rattle.std.proofs.Common.{◌≡◌, ◌≢◌, ℕ, List, true, Option, Some, None, Result, Ok, Err, refl, sym, ap, ◌∙◌, subst, inl}
use Rattle.std.proofs.lemmas.Bool.{false≢true}
use Rattle.sspi_types.specs.declared.error.Error.{Error}
use Rattle.sspi_types.specs.declared.error_kind.ErrorKind.TheVariants.{InvalidToken, InternalError, InsufficientMemory}
use Rattle.sspi_types.specs.declared.error_kind.ErrorKind.{ErrorKind}
use Rattle.sspi_mech.specs.declared.step.Answer.{Answer}
use Rattle.sspi_mech.specs.declared.step.Answer.TheVariants.{Refused}
use Rattle.sspi_mech.specs.Meaning.{Meaning}
use Rattle.sspi_mech.specs.Refusals.{error_of, refusal_of}
use Rattle.sspi_mech.specs.Settings.{Setting}
use Rattle.sspi_tokens.specs.Answers.{ReadsAs}
use Rattle.sspi_negotiate.specs.declared.protocol.NegotiatedProtocol.{NegotiatedProtocol}
use Rattle.sspi_negotiate.specs.Does.{Meets}
use Rattle.sspi_negotiate.specs.Passes.{Passes}
use Rattle.sspi_negotiate.specs.Exact.{TellsKind, unread_refusal}
use Rattle.sspi_negotiate.specs.Fallback.{is_fallback}
use Rattle.sspi_negotiate.specs.Hand.{Origin}
use Rattle.sspi_negotiate.specs.Plan.{Plan, Stops}
use Rattle.sspi_negotiate.specs.Spelled.{IsSpelled}
use Rattle.sspi_negotiate.specs.Values.{Values, Negotiation}

module _ {M : Type 0} {c : Meaning Origin M} {m : M} where
  -- refused with the kind and the reason of the token's error
  pub unread : {v : Values} {T : Type 0} (o : Option T) (plan : Option T → Plan) (error : Error) → plan None ≡ Stops v InvalidToken →
      ReadsAs o (Err error) → Meets c (plan o) m (Refused (error_of (refusal_of error))) v m
  unread {v = v} None plan error stops h = subst (λ p. Meets c p m (Refused (error_of (refusal_of error))) v m) (sym stops)
      (record { as_planned = λ other. (ap (λ e. e.error_type) h, refl, refl); reached = inl refl })
  unread (Some x) plan error stops h = record { as_planned = λ other. absurd (other (ap (λ e. e.error_type) h)); reached = inl refl }

  pub read : {T : Type 0} {r : Answer} {v2 : Values} {m2 : M} (o : Option T) (plan : Option T → Plan) (x : T) → ReadsAs o (Ok x) →
      Meets c (plan (Some x)) m r v2 m2 → Meets c (plan o) m r v2 m2
  read None plan x h after = absurd h
  read {r = r} {v2 = v2} {m2 = m2} (Some y) plan x h after = subst (λ z. Meets c (plan (Some z)) m r v2 m2) h after

  pub unspelled : {v : Values} (o : Option (List ℕ)) (plan : Option (List ℕ) → Plan) (error : Error) → plan None ≡ Stops v InternalError →
      IsSpelled o (Err error) →
      Meets c (plan o) m (Refused error) v m
  unspelled {v = v} None plan error stops h =
      subst (λ p. Meets c p m (Refused error) v m) (sym stops) (record { as_planned = λ other. (h, refl, refl); reached = inl refl })
  unspelled (Some x) plan error stops h = record { as_planned = λ other. absurd (other h); reached = inl refl }

  pub spelled : {r : Answer} {v2 : Values} {m2 : M} (o : Option (List ℕ)) (plan : Option (List ℕ) → Plan) (x : List ℕ) →
      IsSpelled o (Ok x) →
      Meets c (plan (Some x)) m r v2 m2 → Meets c (plan o) m r v2 m2
  spelled None plan x h after = absurd h
  spelled {r = r} {v2 = v2} {m2 = m2} (Some y) plan x h after = subst (λ z. Meets c (plan (Some z)) m r v2 m2) h after

-- if there is no token, the refusal says so
pub unread_told : {T : Type 0} (o : Option T) (error : Error) → ReadsAs o (Err error) →
    TellsKind (unread_refusal o) (Refused (error_of (refusal_of error)))
unread_told None error h = ap (λ e. e.error_type) h
unread_told (Some token) error h = tt

pub read_told : {T : Type 0} (o : Option T) (token : T) (r : Answer) → ReadsAs o (Ok token) → TellsKind (unread_refusal o) r
read_told None token r h = absurd h
read_told (Some other) token r h = tt

module _ {N K : Type 0} {n : Meaning Setting N} {k : Meaning Setting K} where
  pub spelled_part : {T : Type 0} {v : Values} {result : Result T Error} {old new : Negotiation (NegotiatedProtocol N K)}
      (o : Option (List ℕ)) (part : Option (List ℕ) → Plan → Plan) (x : List ℕ) → IsSpelled o (Ok x) →
      Passes n k (part (Some x)) v old result new → Passes n k (part o) v old result new
  spelled_part None part x h after = absurd h
  spelled_part {v = v} {result = result} {old = old} {new = new} (Some y) part x h after = subst
      (λ z. Passes n k (part (Some z)) v old result new) h after

-- out of memory is not a kind after which NTLM replaces Kerberos
pub fallback_is_other : (kind : ErrorKind) → is_fallback kind ≡ true → kind ≢ InsufficientMemory
unfolding is_fallback
fallback_is_other kind falls memory = absurd (false≢true (sym (ap is_fallback memory) ∙ falls))
