-- Which value a word means.
use Rattle.std.proofs.Common.{◌≡◌, ℕ, List, false, Some, None, refl}
use Rattle.std.specs.Prelude.{codes}
use Rattle.std.specs.Str.{bytes_eq}
use Rattle.std.proofs.lemmas.Bool.{false_from_ne_true}
use Rattle.std.proofs.lemmas.Slice.Eq.{bytes_eq-Decides}
use Rattle.sspi_credssp.specs.declared.turn.End.TheVariants as ends
use Rattle.sspi_tsreq.specs.declared.mode.CredSspMode.TheVariants.{WithCredentials, CredentialLess}
use Rattle.sspi_scenario.specs.declared.scenario.Mode.TheVariants as mode
use Rattle.sspi_scenario.specs.declared.scenario.Package.TheVariants as packages
use Rattle.sspi_scenario.specs.declared.words.Accounts.TheVariants as accounts
use Rattle.sspi_scenario.specs.Words.{mode_of, package_of, delegation_of, accounts_of, end_of}

pub differs : (word text : List ℕ) → (word ≡ text → ⊥) → bytes_eq word text ≡ false
differs word text n = false_from_ne_true (bytes_eq word text) (λ e. n ((bytes_eq-Decides word text).0 e))

module _ (word : List ℕ) where
  pub is_ntlm : word ≡ codes "ntlm" → Some mode.Ntlm ≡ mode_of word
  unfolding mode_of
  is_ntlm e = rw e refl

  pub is_negotiate : word ≡ codes "negotiate" → Some mode.Negotiate ≡ mode_of word
  unfolding mode_of
  is_negotiate e = rw e refl

  pub no_mode : (word ≡ codes "ntlm" → ⊥) → (word ≡ codes "negotiate" → ⊥) → None ≡ mode_of word
  unfolding mode_of
  no_mode n m = rw (differs word _ n, differs word _ m) refl

  pub is_ntlm_package : word ≡ codes "ntlm" → Some packages.Ntlm ≡ package_of word
  unfolding package_of
  is_ntlm_package e = rw e refl

  pub is_kerberos_package : word ≡ codes "kerberos" → Some packages.Kerberos ≡ package_of word
  unfolding package_of
  is_kerberos_package e = rw e refl

  pub no_package : (word ≡ codes "ntlm" → ⊥) → (word ≡ codes "kerberos" → ⊥) → None ≡ package_of word
  unfolding package_of
  no_package n m = rw (differs word _ n, differs word _ m) refl

  pub is_with : word ≡ codes "with" → Some WithCredentials ≡ delegation_of word
  unfolding delegation_of
  is_with e = rw e refl

  pub is_less : word ≡ codes "less" → Some CredentialLess ≡ delegation_of word
  unfolding delegation_of
  is_less e = rw e refl

  pub no_delegation : (word ≡ codes "with" → ⊥) → (word ≡ codes "less" → ⊥) → None ≡ delegation_of word
  unfolding delegation_of
  no_delegation n m = rw (differs word _ n, differs word _ m) refl

  pub is_own : word ≡ codes "own" → Some accounts.Own ≡ accounts_of word
  unfolding accounts_of
  is_own e = rw e refl

  pub is_none : word ≡ codes "none" → Some accounts.None ≡ accounts_of word
  unfolding accounts_of
  is_none e = rw e refl

  pub no_accounts : (word ≡ codes "own" → ⊥) → (word ≡ codes "none" → ⊥) → None ≡ accounts_of word
  unfolding accounts_of
  no_accounts n m = rw (differs word _ n, differs word _ m) refl

  pub is_client : word ≡ codes "client" → Some ends.Client ≡ end_of word
  unfolding end_of
  is_client e = rw e refl

  pub is_server : word ≡ codes "server" → Some ends.Server ≡ end_of word
  unfolding end_of
  is_server e = rw e refl

  pub no_end : (word ≡ codes "client" → ⊥) → (word ≡ codes "server" → ⊥) → None ≡ end_of word
  unfolding end_of
  no_end n m = rw (differs word _ n, differs word _ m) refl

pub ruleset packages_named = (is_ntlm_package, is_kerberos_package, no_package)
