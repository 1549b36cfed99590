-- What a client hears of an entry that was delivered as it was sent.
use Rattle.std.proofs.Common.{◌≡◌, ◌≤◌, length, take, Some, Result, Ok, Err, IfOk, refl, sym, ap, ◌∙◌, arith}
use Rattle.std.proofs.lemmas.List.{length-take, take_all}
use Rattle.sspi_delegate.specs.declared.carried.Carried.{Carried}
use Rattle.sspi_delegate.specs.Link.{Delivers}
use Rattle.sspi_tsreq.specs.declared.early.EarlyUserAuthResult.{EarlyUserAuthResult}
use Rattle.sspi_tsreq.specs.declared.early.EarlyUserAuthResult.TheVariants.{Success, AccessDenied}
use Rattle.sspi_tsreq.specs.Early.{early_result_text}
use Rattle.sspi_early.specs.declared.answer.Authorized.{Authorized}
use Rattle.sspi_early.specs.declared.answer.EarlyError.{EarlyError}
use Rattle.sspi_early.specs.Authorizes.{HasCause}
use Rattle.sspi_early.specs.Heard.{Heard, IsCut, IsNoResult, Tells}

pub text_long : (result : EarlyUserAuthResult) → length (early_result_text result) ≡ 4
text_long Success = refl
text_long AccessDenied = refl

text_decides : (a b : EarlyUserAuthResult) → early_result_text a ≡ early_result_text b → a ≡ b
text_decides Success Success same = refl
text_decides Success AccessDenied same = cc
text_decides AccessDenied Success same = cc
text_decides AccessDenied AccessDenied same = refl

sent_long : (told : EarlyUserAuthResult) (e : Carried) → Tells told e → length e.sent ≡ 4
sent_long told e tells = ap length tells.sent ∙ text_long told

-- a delivery of at least four bytes is the whole result
whole_by_length : (told : EarlyUserAuthResult) (e : Carried) → Tells told e → Delivers (Some e.sent) e → 4 ≤ length e.delivered →
    e.delivered ≡ e.sent
whole_by_length told e tells delivers enough = delivers.0 ∙ take_all (length e.delivered) e.sent (omega (arith, sent_long told e tells))

heard_whole : (told : EarlyUserAuthResult) (e : Carried) → Tells told e → e.delivered ≡ e.sent → Heard told e
heard_whole told e tells whole =
    ap (λ text. take 4 text) whole ∙ take_all 4 e.sent (omega (arith, sent_long told e tells)) ∙ tells.sent

heard_long : (result : EarlyUserAuthResult) (e : Carried) → Heard result e → 4 ≤ length e.delivered
heard_long result e heard = omega (arith, ap length heard, text_long result, length-take 4 e.delivered)

pub heard_told : (told heard : EarlyUserAuthResult) (e : Carried) → Tells told e → Delivers (Some e.sent) e → Heard heard e → heard ≡ told
heard_told told heard e tells delivers is =
    let whole = whole_by_length told e tells delivers (heard_long heard e is) in
    text_decides heard told (sym is ∙ heard_whole told e tells whole)

pub never_cut : {A : Type 0} (told : EarlyUserAuthResult) (e : Carried) → Tells told e → Delivers (Some e.sent) e → IsCut e → A
never_cut told e tells delivers cut = absurd (omega (arith, ap length (delivers.1 cut.0), sent_long told e tells, cut.1))

pub never_no_result : {A : Type 0} (told : EarlyUserAuthResult) (e : Carried) → Tells told e → Delivers (Some e.sent) e → IsNoResult e → A
never_no_result told e tells delivers none =
    absurd (none.1 told (heard_whole told e tells (whole_by_length told e tells delivers none.0)))

-- so the client hears what was told
pub honest_answer : (told : EarlyUserAuthResult) (e : Carried) (answer : Result Authorized EarlyError) → Tells told e →
    HasCause told e answer → Delivers (Some e.sent) e → IfOk answer (λ authorized. authorized.heard ≡ told)
honest_answer told e (Ok authorized) tells cause delivers = heard_told told authorized.heard e tells delivers cause.1
honest_answer told e (Err error) tells cause delivers = tt
