use Rattle.std.proofs.Common.{ap, subst, ◌∙◌}
use Rattle.std.specs.Str.{IsUtf8}
use Rattle.sspi_names.specs.Utf16.{units_of}
use Rattle.sspi_names.proofs.Identities.{identity_by, buffers_by}
use Rattle.sspi_names.proofs.identity.AuthIdentity.to_buffers.Goals as goal

pub returns-clause-read_back : goal.returns-clause-read_back
returns-clause-read_back c =
    identity_by c.args.self.now _ _ _
    (record { name = c.user_part.ensures.name; password_text = subst IsUtf8 c.as_str.ensures c.as_str.utf8 })
    (c.in_ok-from_str.ensures ∙ ap units_of c.user_part.ensures.text)
    (c.in_ok-from_str-2.ensures ∙ ap units_of c.domain_part.ensures)
    (c.in_ok-from_str-3.ensures ∙ ap units_of c.as_str.ensures)

pub returns-clause-well_formed : goal.returns-clause-well_formed
returns-clause-well_formed c =
    buffers_by c.args.self.now _ _ _
    (record { name = c.user_part.ensures.name; password_text = subst IsUtf8 c.as_str.ensures c.as_str.utf8 })
    (c.in_ok-from_str.ensures ∙ ap units_of c.user_part.ensures.text)
    (c.in_ok-from_str-2.ensures ∙ ap units_of c.domain_part.ensures)
    (c.in_ok-from_str-3.ensures ∙ ap units_of c.as_str.ensures)
