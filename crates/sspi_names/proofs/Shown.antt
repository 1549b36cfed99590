-- The text that shows a name, from where its separator is.
use Rattle.std.proofs.Common.{◌≡◌, ℕ, ◌+◌, ◌<◌, List, [], ◌∷◌, ◌++◌, length, get_or, take}
use Rattle.std.proofs.Common.{drop, refl, sym, ap, ◌∙◌, Option, Some, None, arith}
use Rattle.std.proofs.lemmas.List.{take-append-drop, drop_more, length-take-le}
use Rattle.sspi_names.specs.Name.{Name, shown, inner_of, domain_of, domain_by, at_sign, backslash}
use Rattle.sspi_names.specs.Username.{name_at, IsPlaced}
use Rattle.sspi_names.specs.declared.format.UserNameFormat.TheVariants.{DownLevelLogonName}
use Rattle.sspi_names.specs.declared.shape.Shape.{Shape}
use Rattle.sspi_names.specs.declared.shape.Shape.TheVariants.{Principal, Qualified, Bare}

-- a list around one of its elements
pub around : (t : List ℕ) (k c : ℕ) → k < length t → get_or t k 0 ≡ c → take k t ++ c ∷ drop (k + 1) t ≡ t
around t k c within here = ap (λ b. take k t ++ b ∷ drop (k + 1) t) (sym here)
    ∙ ap (λ r. take k t ++ r) (sym (drop_more t k 0 within)) ∙ take-append-drop k t

pub shown_qualified : (account domain : List ℕ) → 0 < length domain → shown DownLevelLogonName account domain ≡ domain
    ++ backslash ∷ account
shown_qualified account [] h = absurd (omega arith)
shown_qualified account (b ∷ domain) h = refl

pub shows : (t : List ℕ) (s : Shape) → IsPlaced t s → inner_of (name_at t s) ≡ t
unfolding inner_of
shows t (Principal at) p = around t at at_sign p.0 p.1
shows t (Qualified at) p = shown_qualified (drop (at + 1) t) (take at t) (omega (arith, length-take-le at t (omega arith)))
    ∙ around t at backslash p.1 p.2
shows t Bare p = refl

some_domain : (domain : List ℕ) → 0 < length domain → domain_by DownLevelLogonName domain ≡ Some domain
some_domain [] h = absurd (omega arith)
some_domain (b ∷ domain) h = refl

-- the domain of each shape
abbrev pub domain_in : List ℕ → Shape → Option (List ℕ)
domain_in t (Principal at) = Some (drop (at + 1) t)
domain_in t (Qualified at) = Some (take at t)
domain_in t Bare = None

pub domain_at : (t : List ℕ) (s : Shape) → IsPlaced t s → domain_of (name_at t s) ≡ domain_in t s
unfolding domain_of
domain_at t (Principal at) p = refl
domain_at t (Qualified at) p = some_domain (take at t) (omega (arith, length-take-le at t (omega arith)))
domain_at t Bare p = refl

pub domain_told : (t : List ℕ) (s known : Shape) (n : Name) (told : Option (List ℕ)) → IsPlaced t s → name_at t s ≡ n →
    s ≡ known → told ≡ domain_in t known → told ≡ domain_of n
domain_told t s known n told p view is e = e ∙ sym (ap (domain_in t) is) ∙ sym (domain_at t s p) ∙ ap domain_of view
