use Rattle.std.proofs.Common.{sym, ◌∙◌}
use Rattle.sspi_ber.specs.Short.{element}
use Rattle.sspi_ber.proofs.Written.{length-element}
use Rattle.sspi_tokens.proofs.Written.{puts_around}
use Rattle.sspi_tokens.proofs.writing.put_field.Goals as goal

pub returns : goal.returns
returns c =
    puts_around c.put_element.new.sink c.args.tag c.size_of_element.result (element c.args.inner c.args.content.now)
    c.put_element.result c.in_ok-put_header.ensures
    (c.size_of_element.ensures.size ∙ sym (length-element c.args.inner c.args.content.now)) c.put_element.ensures
