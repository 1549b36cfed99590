-- A MIC is good as the host reported it.
use Rattle.std.proofs.Common.{◌≡◌, ℕ, List, Option, None, Some, sym, ◌∙◌, subst}
use Rattle.std.proofs.lemmas.Option.{none-some, same_Some}
use Rattle.sspi_outside.specs.Envelope.{no_tag, text_in}
use Rattle.sspi_outside.specs.Hosting.{shown, text_of}
use Rattle.sspi_outside.specs.Negotiated.{MicIsGoodAsReported, ListToSignIsTheEnds}
use Rattle.sspi_outside.proofs.Texts.{closed_has_none, text_shown}

good_as_reported : (came verified : Option (List ℕ)) (mic list : List ℕ) → shown verified came ≡ Some mic → text_in mic ≡ Some list →
    verified ≡ Some list
good_as_reported None verified mic list handed good = absurd (none-some mic handed)
good_as_reported (Some came) None mic list handed good =
    let none : text_in mic ≡ None = subst (λ (x : List ℕ). text_in x ≡ None) (same_Some _ _ handed) (closed_has_none came) in
    absurd (none-some list (sym none ∙ good))
good_as_reported (Some came) (Some verified) mic list handed good =
    let text : text_in mic ≡ Some verified = subst (λ (x : List ℕ). text_in x ≡ Some verified) (same_Some _ _ handed) (text_shown verified) in
    sym text ∙ good

pub mic_good : MicIsGoodAsReported
mic_good m n token step verified mic list handed good = good_as_reported token.mech_list_mic verified mic list handed good

pub list_owed : ListToSignIsTheEnds
list_owed m n token mic list made has =
    let text : text_in mic ≡ Some list = subst (λ (x : List ℕ). text_in x ≡ Some list) (sym made) (text_shown list) in
    subst (λ (x : Option (List ℕ)). text_of x ≡ Some list) (sym has) text
