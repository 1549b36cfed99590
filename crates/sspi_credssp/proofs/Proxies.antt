-- The entries of a name, one entry after the other.
use Rattle.std.proofs.Common.{◌≡◌, ◌<◌, ◌+◌, ◌++◌, ℕ, List, [], ◌∷◌, length, take, get_or, cond, Bool, true, false, refl, sym, ◌∙◌, ap}
use Rattle.std.proofs.Common.{append-nil}
use Rattle.std.proofs.lemmas.List.Elements.{filter_more}
use Rattle.sspi_names.specs.declared.identity.AuthIdentity.{AuthIdentity}
use Rattle.sspi_names.specs.Name.{Name}
use Rattle.sspi_credssp.specs.Proxy.{candidates_of, is_named}

pub candidates_none : (name : Name) → [] ≡ candidates_of [] name
unfolding candidates_of
candidates_none name = refl

candidates_more : (entries : List AuthIdentity) (name : Name) (i : ℕ) (d : AuthIdentity) → i < length entries →
    candidates_of (take (i + 1) entries) name ≡
    candidates_of (take i entries) name ++ cond (is_named name (get_or entries i d)) (get_or entries i d ∷ []) []
unfolding candidates_of
candidates_more entries name i d lt = filter_more (is_named name) entries i d lt

-- what one entry adds
candidates_at : (entries : List AuthIdentity) (name : Name) (i : ℕ) (d : AuthIdentity) (named : Bool) → i < length entries →
    d ≡ get_or entries i d → is_named name d ≡ named →
    candidates_of (take (i + 1) entries) name ≡ candidates_of (take i entries) name ++ cond named (d ∷ []) []
candidates_at entries name i d named lt item is =
    candidates_more entries name i d lt
    ∙ ap (λ e. candidates_of (take i entries) name ++ cond (is_named name e) (e ∷ []) []) (sym item)
    ∙ ap (λ b. candidates_of (take i entries) name ++ cond b (d ∷ []) []) is

-- an entry of that name is copied, and another is not
pub candidates_taken : (entries : List AuthIdentity) (name : Name) (i : ℕ) (d : AuthIdentity) (before after : List AuthIdentity) →
    i < length entries →
    d ≡ get_or entries i d → is_named name d ≡ true → after ≡ before ++ (d ∷ []) → before ≡ candidates_of (take i entries) name →
    after ≡ candidates_of (take (i + 1) entries) name
candidates_taken entries name i d before after lt item is pushed held =
    pushed ∙ ap (λ xs. xs ++ (d ∷ [])) held ∙ sym (candidates_at entries name i d true lt item is)

pub candidates_left : (entries : List AuthIdentity) (name : Name) (i : ℕ) (d : AuthIdentity) (before after : List AuthIdentity) →
    i < length entries →
    d ≡ get_or entries i d → is_named name d ≡ false → after ≡ before → before ≡ candidates_of (take i entries) name →
    after ≡ candidates_of (take (i + 1) entries) name
candidates_left entries name i d before after lt item is same held =
    same ∙ held ∙ sym (candidates_at entries name i d false lt item is ∙ append-nil _)
