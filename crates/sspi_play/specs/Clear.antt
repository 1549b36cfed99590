-- Mechanisms that do not encrypt: the texts that an end opened, as the recorded turns show them.
use Rattle.std.specs.Prelude.{◌≡◌, ℕ, List, [], ◌∷◌, ◌++◌, drop, Option, None, Some}
use Rattle.sspi_mech.specs.Meaning.{Meaning}
use Rattle.sspi_credssp.specs.declared.turn.Turn.{Turn}
use Rattle.sspi_credssp.specs.Context.{ContextSetting}
use Rattle.sspi_play.specs.Faithful.{where_done, HaveOpened}

-- a blob opens to what follows its tag of 16 octets
abbrev pub OpensBehindTag : {S C : Type 0} → Meaning S C → Type 0
OpensBehindTag {S} {C} c = (m : C) (n : ℕ) (blob text : List ℕ) → c.opens m n blob text →
    text ≡ drop 16 blob

abbrev pub behind_tag : Option (List ℕ) → List (List ℕ)
behind_tag None = []
behind_tag (Some blob) = drop 16 blob ∷ []

-- an end opens the proof of its peer, and a server also the credentials
abbrev pub texts_shown : Turn → List (List ℕ)
texts_shown t = where_done t.acts.opened (behind_tag t.delivered.auth_info)
    ++ where_done t.acts.checked (behind_tag t.delivered.pub_key_auth)

abbrev pub shown_texts : List Turn → List (List ℕ)
shown_texts [] = []
shown_texts (t ∷ past) = texts_shown t ++ shown_texts past

-- what these turns have opened is what they show
abbrev pub OpensWhatIsShown : {C : Type 0} → Meaning ContextSetting C → Type 0
OpensWhatIsShown {C} c = (context : Option C) (turns : List Turn) (texts : List (List ℕ)) →
    HaveOpened c context turns texts →
    texts ≡ shown_texts turns
