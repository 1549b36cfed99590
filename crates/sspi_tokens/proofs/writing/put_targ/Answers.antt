use Rattle.std.proofs.Common.{sym, ap, ◌∙◌}
use Rattle.sspi_ber.specs.Short.{element, element_size}
use Rattle.sspi_ber.proofs.Written.{length-element}
use Rattle.sspi_tokens.specs.Spelling.{targ_fields, targ_content}
use Rattle.sspi_tokens.proofs.Written.{puts_around}
use Rattle.sspi_tokens.proofs.writing.put_targ.Goals as goal

pub returns : goal.returns
unfolding targ_content
returns c =
    puts_around c.put_targ_content.new.sink 0xA1 c.size_of_element.result (element 0x30 (targ_fields c.args.token.now))
    c.put_targ_content.result c.in_ok-put_header.ensures
    (c.size_of_element.ensures.size ∙ ap element_size c.requires.size ∙ sym (length-element 0x30 (targ_fields c.args.token.now)))
    c.put_targ_content.ensures
