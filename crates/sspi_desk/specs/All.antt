-- Many calls on a desk, and what they do to each session.
use Rattle.std.specs.Prelude.{◌≡◌, ◌==◌, ℕ, List, [], ◌∷◌, length, Option, None, Some, All, Result}
use Rattle.std.specs.Prelude.{Err, if◌then◌else◌}
use Rattle.sspi_mech.specs.Meaning.{Meaning}
use Rattle.sspi_credssp.specs.Context.{ContextSetting}
use Rattle.sspi_credssp.specs.Proxy.{ProxyMeaning}
use Rattle.sspi_credssp.specs.Ends.{ServerView}
use Rattle.sspi_desk.specs.declared.answer.Call.{Call}
use Rattle.sspi_desk.specs.declared.answer.DeskError.{DeskError}
use Rattle.sspi_desk.specs.declared.answer.DeskError.TheVariants.{NoSession}
use Rattle.sspi_desk.specs.declared.answer.Served.{Served}
use Rattle.sspi_desk.specs.Alone.{Alone}
use Rattle.sspi_desk.specs.Desk.{DeskView, session, Counts}

-- what the session is given, in order
abbrev pub bytes_for : ℕ → List Call → List (List ℕ)
bytes_for s [] = []
bytes_for s (call ∷ calls) = if call.session == s then call.bytes ∷ bytes_for s calls
    else bytes_for s calls

-- what the session is answered, in order: the answers at its calls
abbrev pub answers_for : {A : Type 0} → ℕ → List Call → List A → List A
answers_for s [] answers = []
answers_for s (call ∷ calls) [] = []
answers_for s (call ∷ calls) (answer ∷ answers) =
    if call.session == s then answer ∷ answers_for s calls answers else answers_for s calls answers

module _ {C P : Type 0} (c : Meaning ContextSetting C) (p : ProxyMeaning P) where
  -- A session that is kept gives what its server gives alone, and stays kept; if it is not kept,
  -- each of its calls has the answer `NoSession`.
  abbrev pub ServesSession : Option (ServerView C P) → List (List ℕ) →
      List (Result Served DeskError) → Option (ServerView C P) → Type 0
  ServesSession None calls answers None = All (λ answer. answer ≡ Err NoSession) answers
  ServesSession None calls answers (Some after) = ⊥
  ServesSession (Some before) calls answers None = ⊥
  ServesSession (Some before) calls answers (Some after) = Alone c p before calls answers after

  -- Each call has one answer, each session goes on as if it were alone, and the limit and both
  -- counts stay.
  pub record ServesAll (calls : List Call) (answers : List (Result Served DeskError))
      (old new : DeskView C P) : Type 0 where
    pub answered : length answers ≡ length calls
    pub each : (s : ℕ) → ServesSession (session s old) (bytes_for s calls)
        (answers_for s calls answers) (session s new)
    pub limit : new.limit ≡ old.limit
    pub counts : Counts new old.admitted (length old.kept)
