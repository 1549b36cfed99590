use Rattle.std.proofs.Common.{rules}
use Rattle.std.proofs.lemmas.List.Elements.{filter_from_retain}
use Rattle.sspi_mech.specs.NtlmIdentities.{has_password}
use Rattle.sspi_mech.proofs.identities.with_passwords.Goals as goal

pub returns : goal.returns
returns c = filter_from_retain _ has_password (λ p x b q h. search (rules, h)) _ _ _ c.retain.ensures.filtered
