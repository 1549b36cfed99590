use Rattle.std.proofs.Common.{◌≡◌, ◌≢◌, IfErr, false, refl, ap, ◌∙◌, rules}
use Rattle.std.proofs.lemmas.Result.{err_from_is_err_and, IfErr-weaker}
use Rattle.sspi_types.specs.declared.error_kind.ErrorKind.TheVariants.{InsufficientMemory}
use Rattle.sspi_credssp.specs.declared.acts.Acts.{Acts}
use Rattle.sspi_credssp.specs.ClientCause.{SealsCause}
use Rattle.sspi_credssp.specs.Context.{either}
use Rattle.sspi_credssp.specs.Exchange.{delegated_text}
use Rattle.sspi_credssp.proofs.ContextLaws.{lawful}
use Rattle.sspi_credssp.proofs.Opened.{other_stops, owed_causes, owed_stops}
use Rattle.sspi_credssp.proofs.ClientRefusals.{unopened_exactly}
use Rattle.sspi_credssp.proofs.Deliver.{exchanged}
use Rattle.sspi_credssp.proofs.OneText.{owed_exactly, sealed_exactly}
use Rattle.sspi_credssp.proofs.client.CredSspClient.exchange.Goals as goal

pub returns-in_err-opens_to-clause-cause : goal.returns-in_err-opens_to-clause-cause
returns-in_err-opens_to-clause-cause g c =
    let p = err_from_is_err_and c.from_residual-in_err-opens_to.result c.from_residual-in_err-opens_to.ensures.1 in
    rw (p.1, p.2) (λ memory. let why = c.in_err-opens_to.ensures.cause memory in search rules)

pub returns-in_err-text-clause-cause : goal.returns-in_err-text-clause-cause
returns-in_err-text-clause-cause g c =
    let it = either g.N.Mechanism.REQUESTS g.N.Mechanism.meaning g.K.Mechanism.meaning in
    let kind = c.in_err-text.field-0.0.error_type in
    let delegated = delegated_text c.self.inside.credentials c.self.inside.cred_ssp_mode in
    let p = err_from_is_err_and c.from_residual-in_err-text.result c.from_residual-in_err-text.ensures.1 in
    rw (p.1, p.2) (λ memory.
    let seals : SealsCause it c.opens_to.new.context delegated kind = rw (c.in_err-text.ensures.cause memory) refl in
    let why = owed_stops kind (SealsCause it c.opens_to.new.context delegated kind)
    c.in_ok-opens_to.ensures.opened c.if-branch.true seals in
    search rules)

pub returns-in_ok-text-clause-delivers : goal.returns-in_ok-text-clause-delivers
returns-in_ok-text-clause-delivers g c =
    let it = either g.N.Mechanism.REQUESTS g.N.Mechanism.meaning g.K.Mechanism.meaning in
    let laws = lawful _ _ g.N.Mechanism.meaning g.K.Mechanism.meaning g.met.N.Mechanism.laws g.met.K.Mechanism.laws in
    let sealed = c.seal_text.ensures in
    let opened = c.in_ok-opens_to.ensures.opened in
    let exchanges = exchanged it laws _ _ _ _ _ _ _ _ _ _ _ (ap (λ (a : Acts). a.sealed) opened.noted ∙ search rules)
    opened c.if-branch.true sealed.noted sealed.ok sealed.count sealed.err sealed.err_noted in
    search rules

pub returns-in_ok-text-clause-cause : goal.returns-in_ok-text-clause-cause
returns-in_ok-text-clause-cause g c =
    let it = either g.N.Mechanism.REQUESTS g.N.Mechanism.meaning g.K.Mechanism.meaning in
    let new = c.seal_text.new.context in
    let delegated = delegated_text c.self.inside.credentials c.self.inside.cred_ssp_mode in
    let seals : IfErr c.seal_text.result (λ error. error.error_type ≢ InsufficientMemory → SealsCause it new delegated error.error_type) =
    search rules in
    let cause = owed_causes new (λ kind. SealsCause it new delegated kind) c.seal_text.result c.in_ok-opens_to.ensures.opened
    c.if-branch.true c.seal_text.ensures.err seals in
    IfErr-weaker c.seal_text.result _ _ (λ error cause memory. let why = cause memory in search rules) cause

pub returns-in_err-text-clause-exact : goal.returns-in_err-text-clause-exact
returns-in_err-text-clause-exact g c =
    let it = either g.N.Mechanism.REQUESTS g.N.Mechanism.meaning g.K.Mechanism.meaning in
    let laws = lawful _ _ g.N.Mechanism.meaning g.K.Mechanism.meaning g.met.N.Mechanism.laws g.met.K.Mechanism.laws in
    let p = err_from_is_err_and c.from_residual-in_err-text.result c.from_residual-in_err-text.ensures.1 in
    rw (p.1, p.2)
    (let why = owed_exactly it laws _ c.opens_to.new.context c.in_ok-blob.blob.now _
    c.in_err-text.field-0.0.error_type c.in_ok-opens_to.ensures.opened c.if-branch.true in
    search rules)

pub returns-in_ok-text-clause-exact : goal.returns-in_ok-text-clause-exact
returns-in_ok-text-clause-exact g c =
    let it = either g.N.Mechanism.REQUESTS g.N.Mechanism.meaning g.K.Mechanism.meaning in
    let laws = lawful _ _ g.N.Mechanism.meaning g.K.Mechanism.meaning g.met.N.Mechanism.laws g.met.K.Mechanism.laws in
    let exact = sealed_exactly it laws c.seal_text.result _ _ c.seal_text.new.context c.in_ok-blob.blob.now
    _ c.in_ok-opens_to.ensures.opened c.if-branch.true c.seal_text.ensures.err in
    IfErr-weaker c.seal_text.result _ _ (λ error said. let why = said in search rules) exact

pub returns-else-branch-clause-cause : goal.returns-else-branch-clause-cause
returns-else-branch-clause-cause g c = λ memory.
    let it = either g.N.Mechanism.REQUESTS g.N.Mechanism.meaning g.K.Mechanism.meaning in
    let seals = SealsCause it c.opens_to.new.context (delegated_text c.self.inside.credentials c.self.inside.cred_ssp_mode)
    c.altered.result.error_type in
    let why = other_stops seals c.in_ok-opens_to.ensures.opened c.if-branch.false c.altered.ensures.kind in
    search rules

pub returns-in_err-opens_to-clause-exact : goal.returns-in_err-opens_to-clause-exact
returns-in_err-opens_to-clause-exact g c =
    let p = err_from_is_err_and c.from_residual-in_err-opens_to.result c.from_residual-in_err-opens_to.ensures.1 in
    let it = either g.N.Mechanism.REQUESTS g.N.Mechanism.meaning g.K.Mechanism.meaning in
    let unchecked : c.opens_to.new.acts.checked ≡ false = search rules in
    rw (p.1, p.2) (unopened_exactly it _ c.in_ok-blob.blob.now c.opens_to.new.context _ c.in_err-opens_to.field-0.0.error_type
    c.in_ok-blob.ensures.blob refl unchecked c.in_err-opens_to.ensures.exact)
