-- A server's calls, one after another.
use Rattle.std.specs.Prelude.{◌≡◌, ℕ, List, [], ◌∷◌, Result}
use Rattle.sspi_mech.specs.Meaning.{Meaning}
use Rattle.sspi_credssp.specs.Context.{ContextSetting}
use Rattle.sspi_credssp.specs.Proxy.{ProxyMeaning}
use Rattle.sspi_credssp.specs.Ends.{ServerView}
use Rattle.sspi_desk.specs.declared.answer.DeskError.{DeskError}
use Rattle.sspi_desk.specs.declared.answer.Served.{Served}
use Rattle.sspi_desk.specs.Call.{IsServed}

module _ {C P : Type 0} (c : Meaning ContextSetting C) (p : ProxyMeaning P) where
  -- Given these byte strings in turn, the server gives these answers, and is then `new`.
  abbrev pub Alone : ServerView C P → List (List ℕ) → List (Result Served DeskError) →
      ServerView C P → Type 0
  Alone old [] [] new = new ≡ old
  Alone old [] (answer ∷ answers) new = ⊥
  Alone old (bytes ∷ calls) [] new = ⊥
  Alone old (bytes ∷ calls) (answer ∷ answers) new =
      (mid : ServerView C P) × IsServed c p old bytes answer mid × Alone mid calls answers new
