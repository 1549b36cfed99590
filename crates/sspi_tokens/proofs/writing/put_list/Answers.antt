use Rattle.std.proofs.Common.{sym, ap, ◌∙◌}
use Rattle.sspi_ber.specs.Short.{element, element_size}
use Rattle.sspi_ber.proofs.Written.{length-element}
use Rattle.sspi_tokens.specs.Spelling.{oids_text, mech_types_text}
use Rattle.sspi_tokens.proofs.Written.{puts_around}
use Rattle.sspi_tokens.proofs.writing.put_list.Goals as goal

pub returns : goal.returns
unfolding mech_types_text
returns c =
    puts_around c.put_mech_types.new.sink 0xA0 c.size_of_element.result (element 0x30 (oids_text c.args.oids.now))
    c.put_mech_types.result c.in_ok-put_header.ensures
    (c.size_of_element.ensures.size ∙ ap element_size c.requires.size ∙ sym (length-element 0x30 (oids_text c.args.oids.now)))
    c.put_mech_types.ensures
