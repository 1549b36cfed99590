use Rattle.std.proofs.Common.{sym, subst, refl}
use Rattle.sspi_ber.proofs.Rest.{rest_then}
use Rattle.sspi_tsreq.specs.Creds.{creds_in}
use Rattle.sspi_tsreq.specs.CredsAnswers.{IsCredsRefusal, IsOrMemory}
use Rattle.sspi_tsreq.proofs.Refused.{header_refused, content_refused, content_answer, content_cause, content_listed, fault_listed}
use Rattle.sspi_tsreq.proofs.creds_reading.read_ts_credentials.Goals as goal

pub returns-in-Err-clause-read : goal.returns-in-Err-clause-read
returns-in-Err-clause-read g c = rw c.refusal_of.ensures (header_refused _ _ c.in-Err.kind _ _ c.in-Err.ensures.read c.in-Err.ensures.cause)

pub returns-in-Ok-read_content-clause-read : goal.returns-in-Ok-read_content-clause-read
returns-in-Ok-read_content-clause-read g c =
    content_answer _ _ _ c.in-Ok.len c.in-Ok.len c.in-Ok-read_content.body _ refl c.in-Ok.ensures.read c.in-Ok-read_content.ensures.read
    (subst (λ b. IsOrMemory (λ x. x) c.read_creds.result (creds_in b)) c.deref.ensures.value c.read_creds.ensures.read)

pub returns-in-Ok-read_content-clause-cause : goal.returns-in-Ok-read_content-clause-cause
returns-in-Ok-read_content-clause-cause g c = content_cause _ _ _ c.deref.result.now c.read_creds.result c.in-Ok.ensures.cause
    c.in-Ok-read_content.ensures.cause c.read_creds.ensures.read

pub returns-in-Ok-read_content-clause-rest : goal.returns-in-Ok-read_content-clause-rest
returns-in-Ok-read_content-clause-rest g c = rest_then c.in-Ok.ensures.rest c.in-Ok-read_content.ensures.rest

pub returns-in-Err-read_content-clause-read : goal.returns-in-Err-read_content-clause-read
returns-in-Err-read_content-clause-read g c =
    rw c.refusal_of-in-Err-read_content.ensures
    (content_refused _ _ _ c.in-Ok.len c.in-Ok.len c.in-Err-read_content.kind _ _ refl c.in-Ok.ensures.read
    c.in-Err-read_content.ensures.read c.in-Err-read_content.ensures.cause)

pub returns-in-Err-read_content-clause-rest : goal.returns-in-Err-read_content-clause-rest
returns-in-Err-read_content-clause-rest g c = rest_then c.in-Ok.ensures.rest c.in-Err-read_content.ensures.rest

pub returns-in-Err-clause-kinds : goal.returns-in-Err-clause-kinds
returns-in-Err-clause-kinds g c = subst IsCredsRefusal (sym c.refusal_of.ensures) (fault_listed c.in-Err.kind)

pub returns-in-Ok-read_content-clause-kinds : goal.returns-in-Ok-read_content-clause-kinds
returns-in-Ok-read_content-clause-kinds g c = content_listed _ c.read_creds.result c.read_creds.ensures.read

pub returns-in-Err-read_content-clause-kinds : goal.returns-in-Err-read_content-clause-kinds
returns-in-Err-read_content-clause-kinds g c = subst IsCredsRefusal (sym c.refusal_of-in-Err-read_content.ensures)
    (fault_listed c.in-Err-read_content.kind)
