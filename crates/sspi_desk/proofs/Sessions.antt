-- Calls on a desk go on from where the calls before left each session.
use Rattle.std.proofs.Common.{◌≡◌, ◌≢◌, ℕ, ◌+◌, List, [], ◌∷◌, ◌++◌, length, Option, None}
use Rattle.std.proofs.Common.{Some, Result, Err, refl, sym, ap, ◌∙◌, subst, arith, eqb}
use Rattle.std.proofs.Common.{length-append}
use Rattle.std.specs.Prelude.{if◌then◌else◌, Bool, true, false}
use Rattle.std.proofs.lemmas.Bool.{eqb-true, eqb-false}
use Rattle.std.proofs.lemmas.List.Elements.{All-append, All-nil, All-push}
use Rattle.sspi_mech.specs.Meaning.{Meaning}
use Rattle.sspi_credssp.specs.Context.{ContextSetting}
use Rattle.sspi_credssp.specs.Proxy.{ProxyMeaning}
use Rattle.sspi_credssp.specs.Ends.{ServerView}
use Rattle.sspi_desk.specs.declared.answer.Call.{Call}
use Rattle.sspi_desk.specs.declared.answer.DeskError.{DeskError}
use Rattle.sspi_desk.specs.declared.answer.DeskError.TheVariants.{NoSession}
use Rattle.sspi_desk.specs.declared.answer.Served.{Served}
use Rattle.sspi_desk.specs.Alone.{Alone}
use Rattle.sspi_desk.specs.Desk.{DeskView, session, Serves, ServesAt, Counts}
use Rattle.sspi_desk.specs.All.{bytes_for, answers_for, ServesSession, ServesAll}

-- what one more call adds
bytes_for-more : (s : ℕ) (calls : List Call) (call : Call) → bytes_for s (calls ++ call ∷ []) ≡ bytes_for s calls ++ bytes_for s (call ∷ [])
bytes_for-more s [] call = refl
bytes_for-more s (first ∷ calls) call = elim (eqb first.session s) as (λ b.
    (if b then first.bytes ∷ bytes_for s (calls ++ call ∷ []) else bytes_for s (calls ++ call ∷ []))
    ≡ (if b then first.bytes ∷ bytes_for s calls else bytes_for s calls) ++ bytes_for s (call ∷ [])) [
      | true ↦ ap (λ later. first.bytes ∷ later) (bytes_for-more s calls call)
      | false ↦ bytes_for-more s calls call
    ]

answers_for-more : {A : Type 0} (s : ℕ) (calls : List Call) (call : Call) (answers : List A) (answer : A) → length answers ≡ length calls →
    answers_for s (calls ++ call ∷ []) (answers ++ answer ∷ []) ≡ answers_for s calls answers ++ answers_for s (call ∷ []) (answer ∷ [])
answers_for-more s [] call [] answer same = refl
answers_for-more s [] call (one ∷ answers) answer same = absurd (omega arith)
answers_for-more s (first ∷ calls) call [] answer same = absurd (omega arith)
answers_for-more s (first ∷ calls) call (one ∷ answers) answer same = elim (eqb first.session s) as (λ b.
    (if b then one ∷ answers_for s (calls ++ call ∷ []) (answers ++ answer ∷ []) else answers_for s (calls ++ call ∷ [])
    (answers ++ answer ∷ []))
    ≡ (if b then one ∷ answers_for s calls answers else answers_for s calls answers) ++ answers_for s (call ∷ []) (answer ∷ [])) [
      | true ↦ ap (λ later. one ∷ later) (answers_for-more s calls call answers answer (omega arith))
      | false ↦ answers_for-more s calls call answers answer (omega arith)
    ]

module _ {C P : Type 0} (c : Meaning ContextSetting C) (p : ProxyMeaning P) where
  pub Alone-append : (a b d : ServerView C P) (calls calls2 : List (List ℕ)) (answers answers2 : List (Result Served DeskError)) →
      Alone c p a calls answers b → Alone c p b calls2 answers2 d → Alone c p a (calls ++ calls2) (answers ++ answers2) d
  Alone-append a b d [] calls2 [] answers2 first later = subst (λ x. Alone c p x calls2 answers2 d) first later
  Alone-append a b d [] calls2 (answer ∷ answers) answers2 first later = absurd first
  Alone-append a b d (bytes ∷ calls) calls2 [] answers2 first later = absurd first
  Alone-append a b d (bytes ∷ calls) calls2 (answer ∷ answers) answers2 first later =
      (first.0, first.1, Alone-append first.0 b d calls calls2 answers answers2 first.2 later)

  -- a session after some calls, and after some more
  ServesSession-append : (a b d : Option (ServerView C P)) (calls calls2 : List (List ℕ))
      (answers answers2 : List (Result Served DeskError)) →
      ServesSession c p a calls answers b → ServesSession c p b calls2 answers2 d →
      ServesSession c p a (calls ++ calls2) (answers ++ answers2) d
  ServesSession-append None None None calls calls2 answers answers2 first later =
      All-append (λ answer. answer ≡ Err NoSession) answers answers2 first later
  ServesSession-append None None (Some d) calls calls2 answers answers2 first later = absurd later
  ServesSession-append None (Some b) d calls calls2 answers answers2 first later = absurd first
  ServesSession-append (Some a) None d calls calls2 answers answers2 first later = absurd first
  ServesSession-append (Some a) (Some b) None calls calls2 answers answers2 first later = absurd later
  ServesSession-append (Some a) (Some b) (Some d) calls calls2 answers answers2 first later =
      Alone-append a b d calls calls2 answers answers2 first later

  -- without a call, no session moves
  ServesSession-none : (a : Option (ServerView C P)) → ServesSession c p a [] [] a
  ServesSession-none None = All-nil (λ answer. answer ≡ Err NoSession)
  ServesSession-none (Some a) = refl

  -- one call of a session
  one_call : (at : Option (ServerView C P)) (s : ℕ) (bytes : List ℕ) (answer : Result Served DeskError) (old new : DeskView C P) →
      session s old ≡ at →
      ServesAt c p at s bytes answer old new → ServesSession c p at (bytes ∷ []) (answer ∷ []) (session s new)
  one_call None s bytes answer old new found serves =
      subst (ServesSession c p None (bytes ∷ []) (answer ∷ [])) (sym (ap (session s) serves.1 ∙ found))
      (All-push (λ a. a ≡ Err NoSession) [] answer (All-nil (λ a. a ≡ Err NoSession)) serves.0)
  one_call (Some server) s bytes answer old new found serves =
      subst (ServesSession c p (Some server) (bytes ∷ []) (answer ∷ [])) (sym serves.changes.here) (serves.after, serves.answers, refl)

  -- and for the others
  others_stay : (at : Option (ServerView C P)) (s : ℕ) (bytes : List ℕ) (answer : Result Served DeskError) (old new : DeskView C P) →
      ServesAt c p at s bytes answer old new → (other : ℕ) → other ≢ s → session other new ≡ session other old
  others_stay None s bytes answer old new serves other apart = ap (session other) serves.1
  others_stay (Some server) s bytes answer old new serves other apart = serves.changes.others other apart

  counts_stay : (at : Option (ServerView C P)) (s : ℕ) (bytes : List ℕ) (answer : Result Served DeskError) (old new : DeskView C P) →
      ServesAt c p at s bytes answer old new → (new.limit ≡ old.limit) × Counts new old.admitted (length old.kept)
  counts_stay None s bytes answer old new serves = (
    ap (λ desk. desk.limit) serves.1,
    record {
      admitted_is = ap (λ desk. desk.admitted) serves.1;
      kept_is = ap (λ desk. length desk.kept) serves.1;
    },
  )
  counts_stay (Some server) s bytes answer old new serves = (serves.changes.limit, serves.counts)

  -- one call, for a session whether or not it is the call's
  each_session : (s : ℕ) (call : Call) (answer : Result Served DeskError) (old new : DeskView C P) →
      Serves c p call.session call.bytes answer old new → (own : Bool) → eqb call.session s ≡ own →
      ServesSession c p (session s old) (if own then call.bytes ∷ [] else []) (if own then answer ∷ [] else []) (session s new)
  each_session s call answer old new serves true own =
      let same : call.session ≡ s = eqb-true call.session s own in
      one_call (session s old) s call.bytes answer old new refl
      (subst (λ t. ServesAt c p (session t old) t call.bytes answer old new) same serves)
  each_session s call answer old new serves false own =
      subst (ServesSession c p (session s old) [] [])
      (sym (others_stay (session call.session old) call.session call.bytes answer old new serves s
      (λ same. eqb-false call.session s own (sym same))))
      (ServesSession-none (session s old))

  -- one more call
  pub ServesAll-more : (calls : List Call) (answers : List (Result Served DeskError)) (call : Call)
      (answer : Result Served DeskError) (old mid new : DeskView C P) →
      ServesAll c p calls answers old mid → Serves c p call.session call.bytes answer mid new →
      ServesAll c p (calls ++ call ∷ []) (answers ++ answer ∷ []) old new
  ServesAll-more calls answers call answer old mid new before serves =
      let stay = counts_stay (session call.session mid) call.session call.bytes answer mid new serves in
      record {
        answered = simp length-append (ap (λ n. n + 1) before.answered);
        each = λ s. rw (bytes_for-more s calls call, answers_for-more s calls call answers answer before.answered)
            (ServesSession-append (session s old) (session s mid) (session s new) (bytes_for s calls) (bytes_for s (call ∷ []))
            (answers_for s calls answers) (answers_for s (call ∷ []) (answer ∷ [])) (before.each s)
            (each_session s call answer mid new serves (eqb call.session s) refl));
        limit = stay.0 ∙ before.limit;
        counts = record { admitted_is = stay.1.admitted_is ∙ before.counts.admitted_is; kept_is = stay.1.kept_is ∙ before.counts.kept_is };
      }
