use Rattle.std.proofs.Common.{refl, ◌++◌, List, ℕ, subst, sym}
use Rattle.sspi_tokens.specs.Grammar.{IsTarg}
use Rattle.sspi_tokens.specs.Reading.{targ_at}
use Rattle.sspi_tokens.specs.Spelling.{targ_content}
use Rattle.sspi_tokens.proofs.GrammarMatch.{of_begins, targ_match}
use Rattle.sspi_tokens.proofs.ReadBack.{targ_short}
use Rattle.sspi_tokens.proofs.Encode.{whole_is}
use Rattle.sspi_tokens.proofs.laws.targ_reads_back.Goals as goal

pub returns : goal.returns
returns c = λ token text more spelled.
    let is = whole_is 0xA1 (targ_content token) text spelled in
    of_begins targ_at IsTarg targ_match (text ++ more) token
    (record {
      text = text;
      rest = more;
      parts = refl;
      form = subst (λ (l : List ℕ). IsTarg l token more) (sym is.1)
          (targ_short token more is.0);
    })
