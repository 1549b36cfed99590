use Rattle.std.proofs.Common.{refl, ◌++◌, List, ℕ, subst, sym}
use Rattle.sspi_tokens.specs.Grammar.{IsInit}
use Rattle.sspi_tokens.specs.Reading.{init_at}
use Rattle.sspi_tokens.specs.Spelling.{init_content}
use Rattle.sspi_tokens.proofs.GrammarMatch.{of_begins, init_match}
use Rattle.sspi_tokens.proofs.ReadBack.{init_short}
use Rattle.sspi_tokens.proofs.Encode.{whole_is}
use Rattle.sspi_tokens.proofs.laws.init_reads_back.Goals as goal

pub returns : goal.returns
returns c = λ token text more spelled.
    let is = whole_is 0x60 (init_content token) text spelled in
    of_begins init_at IsInit init_match (text ++ more) token
    (record {
      text = text;
      rest = more;
      parts = refl;
      form = subst (λ (l : List ℕ). IsInit l token more) (sym is.1)
          (init_short token more is.0);
    })
