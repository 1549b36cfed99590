-- That a server that served calls has proved its key in one of them.
use Rattle.std.specs.Prelude.{◌≡◌, ℕ, List, ◌∷◌, ◌++◌, Result, true}
use Rattle.sspi_mech.specs.Meaning.{Meaning}
use Rattle.sspi_credssp.specs.Context.{ContextSetting}
use Rattle.sspi_credssp.specs.Proxy.{ProxyMeaning}
use Rattle.sspi_credssp.specs.Ends.{ServerView}
use Rattle.sspi_desk.specs.declared.answer.DeskError.{DeskError}
use Rattle.sspi_desk.specs.declared.answer.Served.{Served}
use Rattle.sspi_desk.specs.Alone.{Alone}
use Rattle.sspi_desk.specs.Call.{IsServed}

module _ {C P : Type 0} (c : Meaning ContextSetting C) (p : ProxyMeaning P) where
  -- In one of these calls, which led a server that was `first` to `now`, it checked its client's
  -- proof and proved its own key.
  pub record ProvesIn (first : ServerView C P) (calls : List (List ℕ))
      (answers : List (Result Served DeskError)) (now : ServerView C P) :
      Type 0 where
    pub early : List (List ℕ)
    pub bytes : List ℕ
    pub later : List (List ℕ)
    pub calls_are : calls ≡ early ++ (bytes ∷ later)
    pub early_answers : List (Result Served DeskError)
    pub answer : Result Served DeskError
    pub later_answers : List (Result Served DeskError)
    pub answers_are : answers ≡ early_answers ++ (answer ∷ later_answers)
    pub before : ServerView C P
    pub after : ServerView C P
    pub led : Alone c p first early early_answers before
    pub served : IsServed c p before bytes answer after
    pub checked : after.acts.checked ≡ true
    pub proved : after.acts.proved ≡ true
    pub went_on : Alone c p after later later_answers now
