use Rattle.std.proofs.Common.{sym, ap, ◌∙◌}
use Rattle.sspi_ber.specs.Short.{element, element_size}
use Rattle.sspi_ber.proofs.Written.{length-element}
use Rattle.sspi_tokens.specs.Spelling.{init_fields}
use Rattle.sspi_tokens.proofs.Written.{puts_around}
use Rattle.sspi_tokens.proofs.writing.put_init_body.Goals as goal

pub returns : goal.returns
returns c =
    puts_around c.put_init_sequence.new.sink 0xA0 c.size_of_element.result (element 0x30 (init_fields c.args.token.now))
    c.put_init_sequence.result c.in_ok-put_header.ensures
    (c.size_of_element.ensures.size ∙ ap element_size c.requires.fields_is ∙ sym (length-element 0x30 (init_fields c.args.token.now)))
    c.put_init_sequence.ensures
