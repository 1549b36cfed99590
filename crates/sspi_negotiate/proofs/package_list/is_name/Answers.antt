use Rattle.std.proofs.Common.{lit<, ◌∙◌, ap}
use Rattle.std.proofs.lemmas.Str.Pattern.{strip_prefix_char}
use Rattle.sspi_negotiate.proofs.Names.{unmarked_is, name_test}
use Rattle.sspi_negotiate.proofs.package_list.is_name.Goals as goal

pub returns : goal.returns
returns c =
    let bare = ap (λ name. name.now) c.unwrap_or.ensures ∙
    unmarked_is c.args.name c.strip_prefix.result
    (strip_prefix_char 33 c.args.name.now c.strip_prefix.result c.strip_prefix.ensures.cases (lit< tt)) in
    name_test c.eq_ignore_ascii_case.result c.args.name.now c.args.expected.now (rw bare at c.eq_ignore_ascii_case.ensures.test)
