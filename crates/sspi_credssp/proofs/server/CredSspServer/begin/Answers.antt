use Rattle.std.proofs.Common.{◌≡◌, None, sym, subst, rules}
use Rattle.std.proofs.lemmas.Result.{err_from_is_err_and}
use Rattle.sspi_types.specs.declared.credential_use.CredentialUse.TheVariants.{Inbound}
use Rattle.sspi_credssp.specs.Context.{Begun, IfContext, OnContext, either}
use Rattle.sspi_credssp.specs.ServerTurn.{server_setting}
use Rattle.sspi_credssp.proofs.ServerBeginning.{new_refused, there_or_not, refused_both}
use Rattle.sspi_credssp.proofs.server.CredSspServer.begin.Goals as goal

pub returns-in_err-make_context-in-None-clause-cause : goal.returns-in_err-make_context-in-None-clause-cause
returns-in_err-make_context-in-None-clause-cause g c =
    let none : c.args.self.now.context ≡ None = search rules in
    let gone : c.make_context.new.self.context ≡ None = search rules in
    let p = err_from_is_err_and c.from_residual.result c.from_residual.ensures.1 in
    rw (p.1, p.2)
    (rw (none, gone) (λ memory. c.in_err-make_context-in-None.ensures.cause memory))

pub returns-in_ok-make_context-in-None-clause-made : goal.returns-in_ok-make_context-in-None-clause-made
returns-in_ok-make_context-in-None-clause-made g c =
    let it = either g.N.Mechanism.REQUESTS g.N.Mechanism.meaning g.K.Mechanism.meaning in
    let now = c.args.self.now in
    let setting = server_setting g.C.CredentialsProxy.meaning now in
    let made = c.make_context.new.self in
    record {
      fresh = search rules;
      made = subst (λ v. OnContext v.context (Begun it now.context now.handle setting Inbound None v.handle)) (sym c.self-in-None.view_is)
          (there_or_not made.context (Begun it now.context now.handle setting Inbound None made.handle)
          c.in_ok-make_context-in-None.ensures.begun);
      unmade = search rules;
    }

pub returns-in_ok-make_context-in-None-clause-refused : goal.returns-in_ok-make_context-in-None-clause-refused
returns-in_ok-make_context-in-None-clause-refused g c =
    let it = either g.N.Mechanism.REQUESTS g.N.Mechanism.meaning g.K.Mechanism.meaning in
    let now = c.args.self.now in
    refused_both c.note_version-in-None.result _ _
    (new_refused it _ c.note_version-in-None.result now _ c.args.version (search rules)
    c.in_ok-make_context-in-None.ensures.fresh.0 c.in_ok-make_context-in-None.ensures.fresh.1
    (search rules)
    (subst (λ v. IfContext v.context (Begun it now.context now.handle
    (server_setting g.C.CredentialsProxy.meaning now) Inbound None
    v.handle)) (sym c.self-in-None.view_is) c.in_ok-make_context-in-None.ensures.begun)
    (search rules) (search rules))
    (search rules)
