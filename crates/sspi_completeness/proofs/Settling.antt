-- What an undisturbed exchange comes to, once it is known what its ends make of their turns.
use Rattle.std.proofs.Common.{◌≡◌, ◌≢◌, ℕ, suc, ◌<◌, List, [], ◌∷◌, Option, None, Some, Result, Ok, Err, IfOk}
use Rattle.std.proofs.Common.{sym, ◌∙◌, subst, arith, length}
use Rattle.sspi_types.specs.declared.error.Error.{Error}
use Rattle.sspi_types.specs.declared.error_kind.ErrorKind.{ErrorKind}
use Rattle.sspi_types.specs.declared.error_kind.ErrorKind.TheVariants.{InsufficientMemory}
use Rattle.sspi_ber.specs.declared.wire_kind.WireKind.{WireKind}
use Rattle.sspi_names.specs.declared.identity.AuthIdentity.{AuthIdentity}
use Rattle.sspi_mech.specs.Meaning.{Meaning}
use Rattle.sspi_tsreq.specs.declared.request.TsRequest.{TsRequest}
use Rattle.sspi_credssp.specs.Ends.{ClientView, ServerView}
use Rattle.sspi_credssp.specs.Context.{ContextSetting}
use Rattle.sspi_credssp.specs.Proxy.{ProxyMeaning}
use Rattle.sspi_credssp.specs.ServerTurn.{HoldsIdentity}
use Rattle.sspi_delegate.specs.declared.answer.Delegation.{Delegation}
use Rattle.sspi_delegate.specs.declared.answer.DelegateError.{DelegateError}
use Rattle.sspi_delegate.specs.declared.answer.DelegateError.TheVariants as errors
use Rattle.sspi_delegate.specs.declared.carried.Carried.{Carried}
use Rattle.sspi_credssp.specs.declared.turn.End.{End}
use Rattle.sspi_credssp.specs.declared.turn.End.TheVariants.{Client, Server}
use Rattle.sspi_delegate.specs.declared.edit.Edit.{Edit}
use Rattle.sspi_credssp.specs.declared.turn.Outcome.{Outcome}
use Rattle.sspi_credssp.specs.declared.turn.Outcome.TheVariants.{Reply, Final, Finished, Refused}
use Rattle.sspi_credssp.specs.declared.turn.Turn.{Turn}
use Rattle.sspi_delegate.specs.Chain.{KdcCalls}
use Rattle.sspi_delegate.specs.Log.{Cause, RunEnds, Given, carried, too_long, link_failed, no_memory, turns_of, IsClientRefusal}
use Rattle.sspi_delegate.specs.Log.{IsServerRefusal, IsFinished}
use Rattle.sspi_delegate.specs.Link.{FollowsEdits, FollowsTold, StaysTold, newest_message, CarryFails, AnswerTold}
use Rattle.sspi_delegate.specs.Turns.{onto_server, client_turns, server_turns, next_end, Alternates}
use Rattle.sspi_delegate.proofs.Histories.{client_stopped_history}
use Rattle.sspi_delegate.specs.History.{ClientHistory, ClientPast, ServerHistory}
use Rattle.sspi_delegate.specs.Log.{LoggedButLast}
use Rattle.sspi_delegate.specs.Turns.{server_end, GivesNewest}
use Rattle.sspi_completeness.specs.Matching.{AreWholePast, IsUndisturbed, unedited, shown, IsCalm, NoneFailed, none_told, none_counted}
use Rattle.sspi_completeness.proofs.Deliveries.{always_readable, never_too_long}
use Rattle.sspi_completeness.proofs.Ends.{Comes, Ends}
use Rattle.sspi_completeness.proofs.Fits.{IsMessage}
use Rattle.sspi_completeness.proofs.Points.{IsKnown, IsCalmAt, wrong_end, server_none, Stands, client_next, server_next, TurnIs}
use Rattle.sspi_completeness.proofs.Points.{client_turn, server_turn, server_end as ends_here, stands, stands_on, newest_turn}
use Rattle.sspi_credssp.specs.Turn.{message_of}

-- how an undisturbed exchange is settled: Ok after this many messages of the client, or it may not
-- make that many, or there was no memory
abbrev pub Settled : ℕ → ℕ → AuthIdentity → Result Delegation DelegateError → Type 0
Settled count limit identity (Ok delegation) = (delegation.rounds ≡ count) × (delegation.credentials ≡ identity)
Settled count limit identity (Err errors.TurnsSpent) = limit < count
Settled count limit identity (Err errors.InsufficientMemory) = Unit {0}
Settled count limit identity (Err error) = ⊥

pub calm_by : (failing : Option (List ℕ)) (before now : ℕ) → NoneFailed failing before now → (failing ≡ Some [] → now ≡ before) →
    IsCalm before now
calm_by failing before now (none_told none counted) stays = record { same = stays none; counted = counted }
calm_by failing before now (none_counted calm) stays = calm

-- without edits no carry fails
carry_never : (log : List Carried) (message : Option TsRequest) → CarryFails [] log message → ⊥
carry_never log None h = h
carry_never log (Some r) h = cc

-- ---- what holds over an undisturbed link

abbrev NoLinkFault : Result Delegation DelegateError → Type 0
NoLinkFault (Ok delegation) = Unit {0}
NoLinkFault (Err (errors.Client error)) = Unit {0}
NoLinkFault (Err (errors.Server error)) = Unit {0}
NoLinkFault (Err (errors.Read to kind)) = Unit {0}
NoLinkFault (Err (errors.Write from)) = Unit {0}
NoLinkFault (Err errors.LinkFault) = ⊥
NoLinkFault (Err errors.TurnsSpent) = Unit {0}
NoLinkFault (Err errors.InsufficientMemory) = Unit {0}

told_calm : (result : Result Delegation DelegateError) (start now : ℕ) (log : List Carried) (turns : List Turn) →
    AnswerTold (Some []) start now result log turns → NoLinkFault result
told_calm (Ok delegation) start now log turns told = tt
told_calm (Err (errors.Client error)) start now log turns told = tt
told_calm (Err (errors.Server error)) start now log turns told = tt
told_calm (Err (errors.Read to kind)) start now log turns told = tt
told_calm (Err (errors.Write from)) start now log turns told = tt
told_calm (Err errors.LinkFault) start now log turns told = carry_never log (newest_message turns) told.0
told_calm (Err errors.TurnsSpent) start now log turns told = tt
told_calm (Err errors.InsufficientMemory) start now log turns told = tt

ends_calm : (base log : List Carried) (limit start now : ℕ) (result : Result Delegation DelegateError) (turns : List Turn) →
    IsCalm start now →
    RunEnds base start limit result turns log now → NoLinkFault result
ends_calm base log limit start now (Ok delegation) turns calm ends = tt
ends_calm base log limit start now (Err (errors.Client error)) turns calm ends = tt
ends_calm base log limit start now (Err (errors.Server error)) turns calm ends = tt
ends_calm base log limit start now (Err (errors.Read to kind)) turns calm ends = tt
ends_calm base log limit start now (Err (errors.Write from)) turns calm ends = tt
ends_calm base log limit start now (Err errors.LinkFault) turns calm ends = omega (arith, ends.cause.1, calm.same, calm.counted)
ends_calm base log limit start now (Err errors.TurnsSpent) turns calm ends = tt
ends_calm base log limit start now (Err errors.InsufficientMemory) turns calm ends = tt

-- a log without edits is whole, and conversely
unedited_whole : (count : ℕ) (log : List Carried) → FollowsEdits [] log → AreWholePast count log
unedited_whole count [] follows = tt
unedited_whole count (e ∷ log) follows = ((λ past. follows.0), unedited_whole count log follows.1)

pub whole_unedited : (log : List Carried) → AreWholePast 0 log → FollowsEdits [] log
whole_unedited [] whole = tt
whole_unedited (e ∷ log) whole = (whole.0 (omega arith), whole_unedited log whole.1)

-- the log of a link without edits follows no edits
unedited_log : (edits edits2 : Option (List Edit)) (log log2 : List Carried) → edits ≡ Some [] → AreWholePast 0 log →
    StaysTold edits edits2 log log2 → FollowsEdits [] log2
unedited_log edits edits2 log log2 none whole stays =
    let told_now : edits2 ≡ Some [] = stays.same ∙ none in
    let before : FollowsTold edits log = rw none (whole_unedited log whole) in
    subst (λ (e : Option (List Edit)). FollowsTold e log2) told_now (stays.follows before)

pub undisturbed_is : (edits edits2 : Option (List Edit)) (log log2 : List Carried) (limit start now : ℕ)
    (result : Result Delegation DelegateError) (turns : List Turn) →
    IsUndisturbed edits log log2 start now → RunEnds log start limit result turns log2 now → StaysTold edits edits2 log log2 →
    AnswerTold edits start now result log2 turns → AreWholePast (length log) log2 × NoLinkFault result
undisturbed_is edits edits2 log log2 limit start now result turns (unedited none whole) ends stays still = (
  unedited_whole (length log) log2 (unedited_log edits edits2 log log2 none whole stays),
  told_calm result start now log2 turns (subst (λ (e : Option (List Edit)). AnswerTold e start now result log2 turns) none still),
)
undisturbed_is edits edits2 log log2 limit start now result turns (shown whole calm) ends stays still =
    (whole, ends_calm log log2 limit start now result turns calm ends)

-- ---- by how the newest turn ended

client_refusal : (out : Outcome) (kind : ErrorKind) (Q : TsRequest → Type 0) → IsClientRefusal kind out → kind ≢ InsufficientMemory →
    Comes out Q → ⊥
client_refusal (Reply r) kind Q is others comes = is
client_refusal (Final r) kind Q is others comes = is
client_refusal Finished kind Q is others comes = is
client_refusal (Refused refused None) kind Q is others comes = comes (λ memory. others (sym is ∙ memory))
client_refusal (Refused refused (Some r)) kind Q is others comes = is

server_refusal : (out : Outcome) (kind : ErrorKind) (Q : TsRequest → Type 0) → IsServerRefusal kind out → kind ≢ InsufficientMemory →
    Comes out Q → ⊥
server_refusal (Reply r) kind Q is others comes = is
server_refusal (Final r) kind Q is others comes = is
server_refusal Finished kind Q is others comes = is
server_refusal (Refused refused None) kind Q is others comes = is
server_refusal (Refused refused (Some r)) kind Q is others comes = comes (λ memory. others (sym is ∙ memory))

end_refusal : (out : Outcome) (kind : ErrorKind) (Q : Type 0) → IsServerRefusal kind out → kind ≢ InsufficientMemory → Ends out Q → ⊥
end_refusal (Reply r) kind Q is others ends = is
end_refusal (Final r) kind Q is others ends = is
end_refusal Finished kind Q is others ends = is
end_refusal (Refused refused None) kind Q is others ends = is
end_refusal (Refused refused (Some r)) kind Q is others ends = ends (λ memory. others (sym is ∙ memory))

finished_never : (out : Outcome) (Q : TsRequest → Type 0) → IsFinished out → Comes out Q → ⊥
finished_never (Reply r) Q is comes = is
finished_never (Final r) Q is comes = is
finished_never Finished Q is comes = comes
finished_never (Refused kind reply) Q is comes = is

finished_so : (out : Outcome) (Q : Type 0) → IsFinished out → Ends out Q → Q
finished_so (Reply r) Q is ends = absurd is
finished_so (Final r) Q is ends = absurd is
finished_so Finished Q is ends = ends
finished_so (Refused kind reply) Q is ends = absurd is

module _ {C D P : Type 0} (c : Meaning ContextSetting C) (k : KdcCalls D) (p : ProxyMeaning P)
    (a : ClientView C) (b : ServerView C P) (kdc_first : D) (last : ℕ) (identity : AuthIdentity)
    (known : IsKnown c k p a b kdc_first last identity) where
  abbrev CView : Type 0
  CView = ClientView C

  abbrev SView : Type 0
  SView = ServerView C P

  module _ (base : List Carried) (start now limit : ℕ) (x : CView) (kdc : D) (y : SView) (calm : IsCalmAt c k p a b kdc_first y) where
    abbrev StandsSo : List Turn → Type 0
    StandsSo turns = Stands c k p a b kdc_first last identity known turns x kdc y

    abbrev TurnSo : Turn → List Turn → Type 0
    TurnSo t past = TurnIs c k p a b kdc_first last identity known t past x kdc y

    held_by : (e : End) (t : Turn) (past : List Turn) (identity2 : AuthIdentity) → e ≡ Server →
        GivesNewest c (server_end y) (onto_server e t (server_turns past)) identity2 →
        HoldsIdentity c y.context t.delivered.auth_info identity2
    held_by Client t past identity2 is gives = absurd cc
    held_by Server t past identity2 is gives = gives

    ok_by : (t : Turn) (past : List Turn) (delegation : Delegation) → TurnSo t past → t.end ≡ Server → IsFinished t.outcome →
        HoldsIdentity c y.context t.delivered.auth_info delegation.credentials → delegation.rounds ≡ turns_of Client (t ∷ past) →
        (delegation.rounds ≡ suc last) × (delegation.credentials ≡ identity)
    ok_by t past delegation (client_turn i e count server comes) here finished holds turns =
        absurd (finished_never t.outcome _ finished comes)
    ok_by t past delegation (server_turn i is e count client comes) here finished holds turns =
        absurd (finished_never t.outcome _ finished comes)
    ok_by t past delegation (ends_here e count ends) here finished holds turns =
        let none = server_none t.end e in (
          omega (arith, turns, count, none),
          finished_so t.outcome _ finished ends delegation.credentials holds,
        )

    settle_ok : (delegation : Delegation) (turns : List Turn) (log : List Carried) →
        RunEnds base start limit (Ok delegation) turns log now → AreWholePast (length base) log →
        ClientHistory c k a kdc_first (client_turns turns) x kdc → ServerHistory c p b (server_turns turns) y →
        GivesNewest c (server_end y) (server_turns turns) delegation.credentials → (delegation.rounds ≡ suc last) ×
        (delegation.credentials ≡ identity)
    settle_ok delegation [] log ends whole clients servers gives = absurd ends.0.newest
    settle_ok delegation (t ∷ past) log ends whole clients servers gives =
        let done = ends.0 in
        let turn = newest_turn c k p a b kdc_first last identity known base t past log x kdc y done.order done.entries.0 done.entries.1
        whole clients servers calm in
        ok_by t past delegation turn done.newest.0 done.newest.1 (held_by t.end t past delegation.credentials done.newest.0 gives) ends.1

    client_never : (t : Turn) (past : List Turn) (kind : ErrorKind) → TurnSo t past → t.end ≡ Client → IsClientRefusal kind t.outcome →
        kind ≢ InsufficientMemory → ⊥
    client_never t past kind (client_turn i e count server comes) here is others = client_refusal t.outcome kind _ is others comes
    client_never t past kind (server_turn i last_is e count client comes) here is others = wrong_end t.end here e
    client_never t past kind (ends_here e count ends) here is others = wrong_end t.end here e

    server_never : (t : Turn) (past : List Turn) (kind : ErrorKind) → TurnSo t past → t.end ≡ Server → IsServerRefusal kind t.outcome →
        kind ≢ InsufficientMemory → ⊥
    server_never t past kind (client_turn i e count server comes) here is others = wrong_end t.end e here
    server_never t past kind (server_turn i last_is e count client comes) here is others = server_refusal t.outcome kind _ is others comes
    server_never t past kind (ends_here e count ends) here is others = end_refusal t.outcome kind _ is others ends

    settle_client : (error : Error) (turns : List Turn) (log : List Carried) → Alternates turns →
        Cause base start limit (errors.Client error) turns log now → AreWholePast (length base) log →
        ClientHistory c k a kdc_first (client_turns turns) x kdc → ServerHistory c p b (server_turns turns) y → ⊥
    settle_client error [] log order cause whole clients servers = cause.1
    settle_client error (t ∷ past) log order cause whole clients servers =
        let turn = newest_turn c k p a b kdc_first last identity known base t past log x kdc y order cause.2.0 cause.2.1 whole clients
        servers calm in
        client_never t past error.error_type turn cause.1.0 cause.1.1 cause.0

    server_entries : (t : Turn) (past : List Turn) (log : List Carried) → AreWholePast (length base) log →
        Given base start (t ∷ past) log now →
        (log2 : List Carried) × LoggedButLast base (t ∷ past) log2 × AreWholePast (length base) log2
    server_entries t past [] whole (carried entries unread still) = absurd entries
    server_entries t past (e ∷ log) whole (carried entries unread still) = (log, (entries.1, entries.2), whole.1)
    server_entries t past log whole (too_long entries unfit still) = (log, entries, whole)
    server_entries t past log whole (link_failed entries fit counted) = (log, entries, whole)
    server_entries t past log whole (no_memory entries fit still) = (log, entries, whole)

    settle_server : (error : Error) (turns : List Turn) (log : List Carried) → Alternates turns →
        Cause base start limit (errors.Server error) turns log now → AreWholePast (length base) log →
        ClientHistory c k a kdc_first (client_turns turns) x kdc → ServerHistory c p b (server_turns turns) y → ⊥
    settle_server error [] log order cause whole clients servers = cause.1
    settle_server error (t ∷ past) log order cause whole clients servers =
        let e = server_entries t past log whole cause.2 in
        let turn = newest_turn c k p a b kdc_first last identity known base t past e.0 x kdc y order e.1.0 e.1.1 e.2 clients servers calm in
        server_never t past error.error_type turn cause.1.0 cause.1.1 cause.0

    -- the newest turn has a message
    newest_sent : (t : Turn) (past : List Turn) → StandsSo (t ∷ past) → (r : TsRequest) × (message_of t.outcome ≡ Some r) × IsMessage r
    newest_sent t past (client_next i client server next count sent) = (sent.0, sent.1, sent.2)
    newest_sent t past (server_next i client server next count sent) = (sent.0, sent.1, sent.2)

    settle_read : (to : End) (kind : WireKind) (turns : List Turn) (log : List Carried) → Alternates turns →
        Cause base start limit (errors.Read to kind) turns log now →
        AreWholePast (length base) log → ClientHistory c k a kdc_first (client_turns turns) x kdc →
        ServerHistory c p b (server_turns turns) y → ⊥
    settle_read to kind [] log order cause whole clients servers = cause.4
    settle_read to kind (t ∷ past) log order cause whole clients servers =
        let s = stands c k p a b kdc_first last identity known base
        (t ∷ past) log x kdc y order cause.0 cause.3 whole clients servers calm in
        let m = newest_sent t past s in
        always_readable base t past log m.0 kind m.1 m.2.value cause.3 whole cause.4

    settle_write : (from : End) (turns : List Turn) (log : List Carried) → Alternates turns →
        Cause base start limit (errors.Write from) turns log now → AreWholePast (length base) log →
        ClientHistory c k a kdc_first (client_turns turns) x kdc → ServerHistory c p b (server_turns turns) y → ⊥
    settle_write from [] log order cause whole clients servers = cause.2
    settle_write from (t ∷ past) log order cause whole clients servers =
        let turn = newest_turn c k p a b kdc_first last identity known base t past log x kdc y order cause.2.0 cause.2.1 whole clients
        servers calm in
        let m = newest_sent t past (stands_on c k p a b kdc_first last identity known t past x kdc y cause.0.0 turn) in
        never_too_long t past m.0 m.1 m.2.fit cause.3

    spent : (turns : List Turn) → StandsSo turns → next_end turns ≡ Client → turns_of Client turns ≡ limit → limit < suc last
    spent turns (client_next i client server next count sent) here limit_is = let within =
        known.rank_within i in omega (arith, within, count, limit_is)
    spent turns (server_next i client server next count sent) here limit_is = absurd (wrong_end (next_end turns) here next)

    settled_by : (due : TsRequest → Type 0) (result : Result Delegation DelegateError) (turns : List Turn) (log : List Carried) →
        RunEnds base start limit result turns log now → AreWholePast (length base) log →
        NoLinkFault result → ClientPast c k due a kdc_first result (client_turns turns) x kdc → ServerHistory c p b (server_turns turns) y →
        IfOk result (λ delegation. GivesNewest c (server_end y) (server_turns turns) delegation.credentials) →
        Settled (suc last) limit identity result
    settled_by due (Ok delegation) turns log ends whole still clients servers gives =
        settle_ok delegation turns log ends whole clients servers gives
    settled_by due (Err (errors.Client error)) turns log ends whole still clients servers gives =
        settle_client error turns log ends.order ends.cause whole
        (client_stopped_history c k a x kdc_first kdc error (client_turns turns) clients) servers
    settled_by due (Err (errors.Server error)) turns log ends whole still clients servers gives =
        settle_server error turns log ends.order ends.cause whole clients servers
    settled_by due (Err (errors.Read to kind)) turns log ends whole still clients servers gives =
        settle_read to kind turns log ends.order ends.cause whole clients servers
    settled_by due (Err (errors.Write from)) turns log ends whole still clients servers gives =
        settle_write from turns log ends.order ends.cause whole clients servers
    settled_by due (Err errors.LinkFault) turns log ends whole still clients servers gives = still
    settled_by due (Err errors.TurnsSpent) turns log ends whole still clients servers gives =
        spent turns (stands c k p a b kdc_first last identity known base turns log x kdc y ends.order ends.cause.0 ends.cause.3 whole
        clients servers calm)
        ends.cause.1 ends.cause.2
    settled_by due (Err errors.InsufficientMemory) turns log ends whole still clients servers gives = tt

  -- the ends of an undisturbed exchange come to what is known of them
  pub settled : (due : TsRequest → Type 0) (base : List Carried) (start now limit : ℕ) (x : CView) (kdc : D) (y : SView)
      (edits edits2 : Option (List Edit)) (result : Result Delegation DelegateError)
      (turns : List Turn) (log : List Carried) → IsUndisturbed edits base log start now → RunEnds base start limit result turns log now →
      StaysTold edits edits2 base log →
      AnswerTold edits start now result log turns → ClientPast c k due a kdc_first result (client_turns turns) x kdc →
      ServerHistory c p b (server_turns turns) y → IsCalm (p.faults b.proxy) (p.faults y.proxy) →
      IfOk result (λ delegation. GivesNewest c (server_end y) (server_turns turns) delegation.credentials) →
      Settled (suc last) limit identity result
  settled due base start now limit x kdc y edits edits2 result turns log undisturbed ends stays still clients servers calm gives =
      let quiet = undisturbed_is edits edits2 base log limit start now result turns undisturbed ends stays still in
      settled_by base start now limit x kdc y (record { still = calm.same; few = calm.counted }) due result turns log ends quiet.0 quiet.1
      clients servers gives
