-- The proxies of this crate: a table of identities, and one whose calls all fail.
use Rattle.std.specs.Prelude.{ℕ, List, None, Some}
use Rattle.sspi_names.specs.declared.identity.AuthIdentity.{AuthIdentity}
use Rattle.sspi_credssp.specs.Proxy.{ProxyMeaning, candidates_of}

-- the identities with the numbers of the calls that fail, and how many calls were made and failed
pub record TableView : Type 0 where
  pub entries : List AuthIdentity
  pub failing : List ℕ
  pub calls : ℕ
  pub faults : ℕ

-- it exposes everything
abbrev pub table_meaning : ProxyMeaning TableView
table_meaning = record {
  told = λ table. record {
    entries = Some table.entries;
    answers = λ name. Some (candidates_of table.entries name);
    failing = Some table.failing;
  };
  calls = λ table. table.calls;
  faults = λ table. table.faults;
}

-- it exposes nothing but how many calls failed
abbrev pub failing_meaning : ProxyMeaning ℕ
failing_meaning = record {
  told = λ faults. record { entries = None; answers = λ name. None; failing = None };
  calls = λ faults. faults;
  faults = λ faults. faults;
}
