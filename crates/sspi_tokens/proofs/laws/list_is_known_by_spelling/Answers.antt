use Rattle.std.proofs.Common.{◌∙◌, [], sym}
use Rattle.sspi_ber.proofs.Match.{both_are}
use Rattle.sspi_tokens.proofs.ReadBack.{list_read}
use Rattle.sspi_tokens.proofs.laws.list_is_known_by_spelling.Goals as goal

pub returns : goal.returns
returns c = λ list other text spelled same.
    (both_are list other [] [] (sym (list_read list text spelled) ∙ list_read other text same)).0
