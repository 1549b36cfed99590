-- What an exchange leaves is shown as a run, and what is shown as a run is shown right.
use Rattle.std.proofs.Common.{◌≡◌, ◌+◌, ℕ, List, [], ◌∷◌, ◌++◌, take, drop, reverse, slice_get, Some, Result, sym, ◌∙◌, ap, subst}
use Rattle.std.proofs.lemmas.List.{reverse-append, take-append-drop}
use Rattle.sspi_mech.specs.Context.{IsContext}
use Rattle.sspi_mech.specs.Meaning.{Meaning}
use Rattle.sspi_tsreq.specs.declared.request.TsRequest.{TsRequest}
use Rattle.sspi_credssp.specs.declared.turn.End.{End}
use Rattle.sspi_credssp.specs.declared.turn.End.TheVariants.{Client, Server}
use Rattle.sspi_credssp.specs.declared.turn.Turn.{Turn}
use Rattle.sspi_credssp.specs.Context.{ContextSetting}
use Rattle.sspi_credssp.specs.Ends.{ClientView, IsFreshClient}
use Rattle.sspi_delegate.specs.declared.answer.DelegateError.{DelegateError}
use Rattle.sspi_delegate.specs.declared.answer.Delegation.{Delegation}
use Rattle.sspi_delegate.specs.declared.carried.Carried.{Carried}
use Rattle.sspi_delegate.specs.Chain.{KdcCalls}
use Rattle.sspi_delegate.specs.Headline.{Around, Delegates, IsFresh, Parties, calls_of_kdc}
use Rattle.sspi_delegate.specs.History.{ClientLeft, between, waiting}
use Rattle.sspi_delegate.specs.Turns.{OthersGoOn, client_turns, server_turns, onto_client, onto_server}
use Rattle.sspi_delegate.proofs.Histories.{client_past_left, server_past_history}
use Rattle.sspi_audit.specs.Left.{LeavesRun}
use Rattle.sspi_audit.specs.Run.{EachRunTurn, HeedsPeer, IsShownRun, RunTurn}
use Rattle.sspi_audit.specs.Shown.{EachShown, ShownRun}
use Rattle.sspi_audit.proofs.ClientHeeding.{EachClientHeeds, each_client_heeds}
use Rattle.sspi_audit.proofs.Fronts.{next_past}
use Rattle.sspi_audit.proofs.RunEndings.{last_left}
use Rattle.sspi_audit.proofs.Runs.{run_is_shown}
use Rattle.sspi_audit.proofs.ServerHeeding.{EachServerHeeds, each_server_heeds}

-- ---- a shown run is shown right

pub each_is_shown : (log : List Carried) (turns : List Turn) → EachRunTurn log turns → EachShown log turns
each_is_shown log [] each = tt
each_is_shown log (t ∷ past) each = (each.0.shown, each_is_shown log past each.1)

pub is_shown : (turns : List Turn) (log : List Carried) → IsShownRun turns log → ShownRun turns log
is_shown turns log run = record { each = each_is_shown log turns run.each; counted = run.ends.counted }

-- what holds of all turns holds of the first ones
each_before : (log : List Carried) (later past : List Turn) → EachRunTurn log (later ++ past) → EachRunTurn log past
each_before log [] past each = each
each_before log (t ∷ later) past each = each_before log later past each.1

pub each_at : (log : List Carried) (turns : List Turn) (n : ℕ) (t : Turn) → slice_get turns n ≡ Some t → EachRunTurn log (reverse turns) →
    RunTurn log (reverse (take n turns)) t
each_at log turns n t there each =
    let split : reverse turns ≡ reverse (drop (n + 1) turns) ++ (t ∷ reverse (take n turns)) =
    ap reverse (sym (take-append-drop (n + 1) turns)) ∙ reverse-append (take (n + 1) turns) (drop (n + 1) turns)
    ∙ ap (λ (l : List Turn). reverse (drop (n + 1) turns) ++ l) (next_past turns n t there) in
    (each_before log (reverse (drop (n + 1) turns)) (t ∷ reverse (take n turns)) (subst (λ (l : List Turn). EachRunTurn log l) split each)).0

-- ---- what an exchange leaves

-- a turn heeds its peer, and so do those before it
record Heeding (end : End) (past : List Turn) (t : Turn) : Type 0 where
  heeds : HeedsPeer end past t
  clients : EachClientHeeds (client_turns past)
  servers : EachServerHeeds (server_turns past)

heeding : (end : End) (past : List Turn) (t : Turn) → EachClientHeeds (onto_client end t (client_turns past)) →
    EachServerHeeds (onto_server end t (server_turns past)) → Heeding end past t
heeding Client past t clients servers = record { heeds = clients.0; clients = clients.1; servers = servers }
heeding Server past t clients servers = record { heeds = servers.0; clients = clients; servers = servers.1 }

each_turn : (log : List Carried) (turns : List Turn) → EachShown log turns → EachClientHeeds (client_turns turns) →
    EachServerHeeds (server_turns turns) → EachRunTurn log turns
each_turn log [] shown clients servers = tt
each_turn log (t ∷ past) shown clients servers =
    let at = heeding t.end past t clients servers in
    (record { shown = shown.0; heeds = at.heeds }, each_turn log past shown.1 at.clients at.servers)

module _ {C : Type 0} (c : Meaning ContextSetting C) (law : IsContext c) where
  left_heeds : {D : Type 0} (k : KdcCalls D) (due : TsRequest → Type 0) (first now : ClientView C) (kdc kdc2 : D) (turns : List Turn) →
      IsFreshClient first → OthersGoOn turns → ClientLeft c k due first kdc turns now kdc2 → EachClientHeeds turns
  left_heeds k due first now kdc kdc2 turns fresh others (between h) = each_client_heeds c k law first now kdc kdc2 turns fresh others h
  left_heeds k due first now kdc kdc2 turns fresh others (waiting old kdc1 d is went h way) =
      each_client_heeds c k law first old kdc kdc1 turns fresh others h

  pub delegation_is_run : {P L D : Type 0} (around : Around P L D) (old new : Parties C P L D) (limit : ℕ)
      (result : Result Delegation DelegateError) → IsFresh old.client old.server → Delegates c around old limit result new →
      LeavesRun (around.log old.link) (around.log new.link) new.turns
  delegation_is_run around old new limit result fresh delegates =
      let run = delegates.the_turns_are_a_run in
      let past = delegates.accounts in
      let left = run_is_shown c law old.client new.client old.server new.server (around.log old.link) (around.log new.link) new.turns run in
      record {
        added = left.added;
        parts = left.parts;
        shown = record {
          each = each_turn (reverse left.added) new.turns left.shown.each
              (left_heeds (calls_of_kdc around) _ old.client new.client old.kdc new.kdc (client_turns new.turns) fresh.client_is
              run.client_ran.others
              (client_past_left c (calls_of_kdc around) _ old.client new.client old.kdc new.kdc (client_turns new.turns) result
              past.client_turns_are_its_calls))
              (each_server_heeds c around.proxy law old.server new.server (server_turns new.turns) fresh.server_is run.server_ran.others
              (server_past_history c around.proxy old.server new.server (server_turns new.turns) result past.server_turns_are_its_calls));
          ends = record {
            counted = left.shown.counted;
            last = last_left (around.log old.link) (around.link_faults old.link) limit (around.link_faults new.link) result new.turns
                left.added (around.log new.link) left.parts left.shown.counted past.turns_and_log_show_the_answer;
          };
        };
      }
