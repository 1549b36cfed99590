-- What `new_name` gives.
use Rattle.std.proofs.Common.{◌≡◌, ℕ, ◌<◌, List, [], ◌∷◌, true, false, Option, Some, None, length, unwrap_or, refl, arith}
use Rattle.std.specs.Option.{option_copied}
use denote.Ref.{Bor}
use Rattle.sspi_names.specs.Name.{down_level, parse_name, new_name, has_separator}

pub bare_name : (account domain : List ℕ) → length domain ≡ 0 → new_name account domain ≡ parse_name account
unfolding new_name
bare_name account [] e = refl
bare_name account (b ∷ domain) e = absurd (omega arith)

pub qualified_name : (account domain : List ℕ) → 0 < length domain → has_separator account ≡ false →
    has_separator domain ≡ false → new_name account domain ≡ Some (down_level account domain)
unfolding new_name
qualified_name account [] some a d = absurd (omega arith)
qualified_name account (b ∷ domain) some a d = rw (a, d)

pub mixed_account : (account domain : List ℕ) → 0 < length domain → has_separator account ≡ true → new_name account domain ≡ None
unfolding new_name
mixed_account account [] some a = absurd (omega arith)
mixed_account account (b ∷ domain) some a = rw a

pub mixed_domain : (account domain : List ℕ) → 0 < length domain → has_separator account ≡ false → has_separator domain ≡ true →
    new_name account domain ≡ None
unfolding new_name
mixed_domain account [] some a d = absurd (omega arith)
mixed_domain account (b ∷ domain) some a d = rw (a, d)

-- what `unwrap_or` of an optional text gives
pub text_or_nil : (o : Option (Bor (List ℕ))) (d : Bor (List ℕ)) → d.now ≡ [] → (unwrap_or o d).now ≡ unwrap_or (option_copied o) []
text_or_nil None d e = e
text_or_nil (Some x) d e = refl
