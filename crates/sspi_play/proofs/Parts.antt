-- The turns of both ends among all turns, and what holds of the turns before one of them.
use Rattle.std.proofs.Common.{◌≡◌, ℕ, Bool, true, false, List, [], ◌∷◌, ◌++◌, None, Some}
use Rattle.std.proofs.Common.{◌∙◌, ap, subst, refl, nat_lt, if◌then◌else◌}
use Rattle.sspi_mech.specs.Meaning.{Meaning}
use Rattle.sspi_credssp.specs.Context.{ContextSetting}
use Rattle.sspi_credssp.specs.declared.turn.End.{End}
use Rattle.sspi_credssp.specs.declared.turn.End.TheVariants.{Client, Server}
use Rattle.sspi_credssp.specs.declared.turn.Turn.{Turn}
use Rattle.sspi_delegate.specs.Turns.{ClientEnd, ServerEnd, client_noted, EachClientTurn, server_noted, EachServerTurn}
use Rattle.sspi_delegate.specs.Turns.{onto_client, onto_server, client_turns, server_turns, OthersGoOn, OthersUnrefused, AllGoOn}
use Rattle.sspi_delegate.specs.Turns.{NoneRefused}
use Rattle.sspi_play.specs.Faithful.{OpensWhatWasSealed}
use Rattle.sspi_play.proofs.Lists.{head_same, tail_same}

-- ---- the turns of an end

pub client_more : (t : Turn) (past : List Turn) → t.end ≡ Client → client_turns (t ∷ past) ≡ t ∷ client_turns past
client_more t past is = ap (λ (e : End). onto_client e t (client_turns past)) is

pub client_skip : (t : Turn) (past : List Turn) → t.end ≡ Server → client_turns (t ∷ past) ≡ client_turns past
client_skip t past is = ap (λ (e : End). onto_client e t (client_turns past)) is

pub server_more : (t : Turn) (past : List Turn) → t.end ≡ Server → server_turns (t ∷ past) ≡ t ∷ server_turns past
server_more t past is = ap (λ (e : End). onto_server e t (server_turns past)) is

pub server_skip : (t : Turn) (past : List Turn) → t.end ≡ Client → server_turns (t ∷ past) ≡ server_turns past
server_skip t past is = ap (λ (e : End). onto_server e t (server_turns past)) is

onto_server_more : (end : End) (t : Turn) (a b : List Turn) → onto_server end t (a ++ b) ≡ onto_server end t a ++ b
onto_server_more Client t a b = refl
onto_server_more Server t a b = refl

pub server_split : (later rest : List Turn) → server_turns (later ++ rest) ≡ server_turns later ++ server_turns rest
server_split [] rest = refl
server_split (t ∷ later) rest =
    ap (λ (l : List Turn). onto_server t.end t l) (server_split later rest) ∙ onto_server_more t.end t (server_turns later)
    (server_turns rest)

-- a turn of the server has its place among all turns
pub record ServerPlace (turns : List Turn) (t : Turn) (before : List Turn) : Type 0 where
  pub later : List Turn
  pub past : List Turn
  pub parts : turns ≡ later ++ (t ∷ past)
  pub end : t.end ≡ Server
  pub before_is : server_turns past ≡ before

place_on : (x : Turn) (turns : List Turn) (t : Turn) (before : List Turn) → ServerPlace turns t before → ServerPlace (x ∷ turns) t before
place_on x turns t before p = record {
  later = x ∷ p.later;
  past = p.past;
  parts = ap (λ (l : List Turn). x ∷ l) p.parts;
  end = p.end;
  before_is = p.before_is;
}

place_by : (u : Turn) (turns : List Turn) (t : Turn) (before : List Turn) →
    ((later : List Turn) → server_turns turns ≡ later ++ (t ∷ before) → ServerPlace turns t before) →
    (end : End) (later : List Turn) → u.end ≡ end → onto_server end u (server_turns turns) ≡ later ++ (t ∷ before) →
    ServerPlace (u ∷ turns) t before
place_by u turns t before place Client later is e = place_on u turns t before (place later e)
place_by u turns t before place Server [] is e =
    subst (λ (x : Turn). ServerPlace (u ∷ turns) x before) (head_same u t (server_turns turns) before e)
    (record { later = []; past = turns; parts = refl; end = is; before_is = tail_same u t (server_turns turns) before e })
place_by u turns t before place Server (x ∷ later) is e =
    place_on u turns t before (place later (tail_same u x (server_turns turns) (later ++ (t ∷ before)) e))

pub server_place : (turns later : List Turn) (t : Turn) (before : List Turn) → server_turns turns ≡ later ++ (t ∷ before) →
    ServerPlace turns t before
server_place [] [] t before e = absurd (cc (e))
server_place [] (x ∷ later) t before e = absurd (cc (e))
server_place (u ∷ turns) later t before e = place_by u turns t before (λ l h. server_place turns l t before h) u.end later refl e

-- ---- the version that an end pinned stays

client_noted_more : (least : ℕ) (x : Turn) (turns : List Turn) (version : ℕ) → client_noted least turns ≡ Some version →
    client_noted least (x ∷ turns) ≡ Some version
client_noted_more least x [] version is = absurd (cc (is))
client_noted_more least x (t ∷ []) version is = absurd (cc (is))
client_noted_more least x (t ∷ u ∷ past) version is = is

client_noted_onto : (least : ℕ) (end : End) (x : Turn) (turns : List Turn) (version : ℕ) → client_noted least turns ≡ Some version →
    client_noted least (onto_client end x turns) ≡ Some version
client_noted_onto least Client x turns version is = client_noted_more least x turns version is
client_noted_onto least Server x turns version is = is

pub client_noted_later : (least : ℕ) (later rest : List Turn) (version : ℕ) → client_noted least (client_turns rest) ≡ Some version →
    client_noted least (client_turns (later ++ rest)) ≡ Some version
client_noted_later least [] rest version is = is
client_noted_later least (x ∷ later) rest version is =
    client_noted_onto least x.end x (client_turns (later ++ rest)) version (client_noted_later least later rest version is)

server_noted_more : (least : ℕ) (x : Turn) (turns : List Turn) (version : ℕ) → server_noted least turns ≡ Some version →
    server_noted least (x ∷ turns) ≡ Some version
server_noted_more least x [] version is = absurd (cc (is))
server_noted_more least x (t ∷ past) version is = is

server_noted_onto : (least : ℕ) (end : End) (x : Turn) (turns : List Turn) (version : ℕ) → server_noted least turns ≡ Some version →
    server_noted least (onto_server end x turns) ≡ Some version
server_noted_onto least Client x turns version is = is
server_noted_onto least Server x turns version is = server_noted_more least x turns version is

pub server_noted_later : (least : ℕ) (later rest : List Turn) (version : ℕ) → server_noted least (server_turns rest) ≡ Some version →
    server_noted least (server_turns (later ++ rest)) ≡ Some version
server_noted_later least [] rest version is = is
server_noted_later least (x ∷ later) rest version is =
    server_noted_onto least x.end x (server_turns (later ++ rest)) version (server_noted_later least later rest version is)

-- and is at least the least version that the end accepts
noted_least : (least v version : ℕ) (old : Bool) → nat_lt v least ≡ old → (if old then None else Some v) ≡ Some version →
    nat_lt version least ≡ false
noted_least least v version true is e = absurd (cc (e))
noted_least least v version false is e = let same : v ≡ version = cc (e) in subst (λ (n : ℕ). nat_lt n least ≡ false) same is

pub client_noted_least : (least : ℕ) (turns : List Turn) (version : ℕ) → client_noted least turns ≡ Some version →
    nat_lt version least ≡ false
client_noted_least least [] version e = absurd (cc (e))
client_noted_least least (t ∷ []) version e = absurd (cc (e))
client_noted_least least (t ∷ u ∷ []) version e = noted_least least t.delivered.version version (nat_lt t.delivered.version least) refl e
client_noted_least least (t ∷ u ∷ v ∷ past) version e = client_noted_least least (u ∷ v ∷ past) version e

pub server_noted_least : (least : ℕ) (turns : List Turn) (version : ℕ) → server_noted least turns ≡ Some version →
    nat_lt version least ≡ false
server_noted_least least [] version e = absurd (cc (e))
server_noted_least least (t ∷ []) version e = noted_least least t.delivered.version version (nat_lt t.delivered.version least) refl e
server_noted_least least (t ∷ u ∷ past) version e = server_noted_least least (u ∷ past) version e

-- ---- what holds of all turns, and so of those before one

module _ {C : Type 0} (c : Meaning ContextSetting C) (client : ClientEnd C) (server : ServerEnd C) where
  pub record AllTurns (turns : List Turn) : Type 0 where
    pub client_each : EachClientTurn c client (client_turns turns)
    pub client_others : OthersGoOn (client_turns turns)
    pub server_each : EachServerTurn c server (server_turns turns)
    pub server_others : OthersUnrefused (server_turns turns)
    pub opens : OpensWhatWasSealed c client server turns

  pub client_each_before : (end : End) (t : Turn) (past : List Turn) → EachClientTurn c client (onto_client end t past) →
      EachClientTurn c client past
  client_each_before Client t past each = each.1
  client_each_before Server t past each = each

  pub server_each_before : (end : End) (t : Turn) (past : List Turn) → EachServerTurn c server (onto_server end t past) →
      EachServerTurn c server past
  server_each_before Client t past each = each
  server_each_before Server t past each = each.1

  others_go : (past : List Turn) → AllGoOn past → OthersGoOn past
  others_go [] going = tt
  others_go (t ∷ past) going = going.1

  others_unrefused : (past : List Turn) → NoneRefused past → OthersUnrefused past
  others_unrefused [] un = tt
  others_unrefused (t ∷ past) un = un.1

  client_others_before : (end : End) (t : Turn) (past : List Turn) → OthersGoOn (onto_client end t past) → OthersGoOn past
  client_others_before Client t past others = others_go past others
  client_others_before Server t past others = others

  server_others_before : (end : End) (t : Turn) (past : List Turn) → OthersUnrefused (onto_server end t past) → OthersUnrefused past
  server_others_before Client t past others = others
  server_others_before Server t past others = others_unrefused past others

  one_before : (t : Turn) (past : List Turn) → AllTurns (t ∷ past) → AllTurns past
  one_before t past all = record {
    client_each = client_each_before t.end t (client_turns past) all.client_each;
    client_others = client_others_before t.end t (client_turns past) all.client_others;
    server_each = server_each_before t.end t (server_turns past) all.server_each;
    server_others = server_others_before t.end t (server_turns past) all.server_others;
    opens = all.opens.2;
  }

  pub all_before : (later rest : List Turn) → AllTurns (later ++ rest) → AllTurns rest
  all_before [] rest all = all
  all_before (t ∷ later) rest all = all_before later rest (one_before t (later ++ rest) all)
