-- The entries of a name, one by one.
use Rattle.std.proofs.Common.{◌≡◌, ◌<◌, ◌+◌, ◌++◌, ℕ, List, [], ◌∷◌, length, take, get_or}
use Rattle.std.proofs.Common.{arith, ◌||◌, ◌==◌, cond, not, Bool, true, false, filter, map, refl, sym, ◌∙◌, ap, append-nil}
use Rattle.std.specs.List.{list_any}
use Rattle.sspi_names.specs.declared.credentials.Credentials.{Credentials}
use Rattle.sspi_names.specs.declared.credentials.Credentials.TheVariants.{AuthIdentity as Credential}
use Rattle.std.proofs.lemmas.List.Elements.{filter_more}
use Rattle.sspi_names.specs.declared.identity.AuthIdentity.{AuthIdentity}
use Rattle.sspi_names.specs.Name.{Name}
use Rattle.sspi_negotiate.specs.Known.{named, is_named}

pub named_none : (name : Name) → [] ≡ named name []
unfolding named
named_none name = refl

named_more : (entries : List AuthIdentity) (name : Name) (i : ℕ) (d : AuthIdentity) → i < length entries →
    named name (take (i + 1) entries) ≡
    named name (take i entries) ++ cond (is_named name (get_or entries i d)) (get_or entries i d ∷ []) []
unfolding named
named_more entries name i d lt = filter_more (is_named name) entries i d lt

-- what one entry adds
named_at : (entries : List AuthIdentity) (name : Name) (i : ℕ) (d : AuthIdentity) (which : Bool) → i < length entries →
    d ≡ get_or entries i d → is_named name d ≡ which →
    named name (take (i + 1) entries) ≡ named name (take i entries) ++ cond which (d ∷ []) []
named_at entries name i d which lt item is =
    named_more entries name i d lt
    ∙ ap (λ e. named name (take i entries) ++ cond (is_named name e) (e ∷ []) []) (sym item)
    ∙ ap (λ b. named name (take i entries) ++ cond b (d ∷ []) []) is

-- an entry of that name is copied, any other is not
pub named_taken : (entries : List AuthIdentity) (name : Name) (i : ℕ) (d : AuthIdentity) (before after : List AuthIdentity) →
    i < length entries →
    d ≡ get_or entries i d → is_named name d ≡ true → after ≡ before ++ (d ∷ []) → before ≡ named name (take i entries) →
    after ≡ named name (take (i + 1) entries)
named_taken entries name i d before after lt item is pushed held =
    pushed ∙ ap (λ xs. xs ++ (d ∷ [])) held ∙ sym (named_at entries name i d true lt item is)

pub named_left : (entries : List AuthIdentity) (name : Name) (i : ℕ) (d : AuthIdentity) (before after : List AuthIdentity) →
    i < length entries →
    d ≡ get_or entries i d → is_named name d ≡ false → after ≡ before → before ≡ named name (take i entries) →
    after ≡ named name (take (i + 1) entries)
named_left entries name i d before after lt item is same held =
    same ∙ held ∙ sym (named_at entries name i d false lt item is ∙ append-nil _)

one_more : (which any : Bool) (entry : AuthIdentity) (kept : List AuthIdentity) → (length (map Credential kept) == 0) ≡ not any →
    (length (map Credential (cond which (entry ∷ kept) kept)) == 0) ≡ not (which || any)
one_more true any entry kept is = grind arith
one_more false any entry kept is = is

any_kept : (test : AuthIdentity → Bool) (entries : List AuthIdentity) →
    (length (map Credential (filter test entries)) == 0) ≡ not (list_any test entries)
any_kept test [] = refl
any_kept test (entry ∷ entries) = one_more (test entry) (list_any test entries) entry (filter test entries) (any_kept test entries)

-- whether there are entries of a name
pub none_known : (name : Name) (entries : List AuthIdentity) → list_any (is_named name) entries ≡ false →
    (length (map Credential (named name entries)) == 0) ≡ true
unfolding named
none_known name entries is = any_kept (is_named name) entries ∙ ap not is

pub some_known : (name : Name) (entries : List AuthIdentity) (given : List Credentials) → given ≡ map Credential (named name entries) →
    list_any (is_named name) entries ≡ true → (length given == 0) ≡ false
unfolding named
some_known name entries given same is = ap (λ found. length found == 0) same ∙ any_kept (is_named name) entries ∙ ap not is
