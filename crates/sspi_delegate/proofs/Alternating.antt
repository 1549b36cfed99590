-- The turns of one end, among turns that alternate.
use Rattle.std.proofs.Common.{List, [], ◌∷◌}
use Rattle.sspi_credssp.specs.declared.turn.End.{End}
use Rattle.sspi_credssp.specs.declared.turn.End.TheVariants.{Client, Server}
use Rattle.sspi_credssp.specs.declared.turn.Outcome.{Outcome}
use Rattle.sspi_credssp.specs.declared.turn.Outcome.TheVariants as outcome
use Rattle.sspi_credssp.specs.declared.turn.Turn.{Turn}
use Rattle.sspi_delegate.specs.Turns.{onto_client, onto_server, client_turns, server_turns, OthersGoOn, OthersUnrefused, GoesOn, AllGoOn}
use Rattle.sspi_delegate.specs.Turns.{IsUnrefused, NoneRefused, Alternates}

pub others_go : (past : List Turn) → AllGoOn past → OthersGoOn past
others_go [] going = tt
others_go (t ∷ past) going = going.1

-- a turn that went on was not refused
pub went_unrefused : (out : Outcome) → GoesOn out → IsUnrefused out
went_unrefused (outcome.Reply reply) went = tt
went_unrefused (outcome.Final reply) went = tt
went_unrefused outcome.Finished went = absurd went
went_unrefused (outcome.Refused kind reply) went = absurd went

pub all_unrefused : (turns : List Turn) → AllGoOn turns → NoneRefused turns
all_unrefused [] going = tt
all_unrefused (t ∷ past) going = (went_unrefused t.outcome going.0, all_unrefused past going.1)

pub rest_unrefused : (turns : List Turn) → NoneRefused turns → OthersUnrefused turns
rest_unrefused [] unrefused = tt
rest_unrefused (t ∷ past) unrefused = unrefused.1

pub others_unrefused : (turns : List Turn) → OthersGoOn turns → OthersUnrefused turns
others_unrefused [] others = tt
others_unrefused (t ∷ past) others = all_unrefused past others

client_onto : (e : End) (t : Turn) (past : List Turn) → GoesOn t.outcome → AllGoOn past → AllGoOn (onto_client e t past)
client_onto Client t past h rest = (h, rest)
client_onto Server t past h rest = rest

server_onto : (e : End) (t : Turn) (past : List Turn) → GoesOn t.outcome → AllGoOn past → AllGoOn (onto_server e t past)
server_onto Client t past h rest = rest
server_onto Server t past h rest = (h, rest)

pub clients_go : (turns : List Turn) → AllGoOn turns → AllGoOn (client_turns turns)
clients_go [] going = tt
clients_go (t ∷ past) going = client_onto t.end t (client_turns past) going.0 (clients_go past going.1)

servers_go : (turns : List Turn) → AllGoOn turns → AllGoOn (server_turns turns)
servers_go [] going = tt
servers_go (t ∷ past) going = server_onto t.end t (server_turns past) going.0 (servers_go past going.1)

client_newest : (e : End) (t : Turn) (past : List Turn) → AllGoOn past → OthersGoOn (onto_client e t past)
client_newest Client t past rest = rest
client_newest Server t past rest = others_go past rest

server_newest : (e : End) (t : Turn) (past : List Turn) → AllGoOn past → OthersGoOn (onto_server e t past)
server_newest Client t past rest = others_go past rest
server_newest Server t past rest = rest

-- only an end's newest turn may have been refused, or be its last
pub clients_others : (turns : List Turn) → Alternates turns → OthersGoOn (client_turns turns)
clients_others [] order = tt
clients_others (t ∷ past) order = client_newest t.end t (client_turns past) (clients_go past order.1)

pub servers_others : (turns : List Turn) → Alternates turns → OthersGoOn (server_turns turns)
servers_others [] order = tt
servers_others (t ∷ past) order = server_newest t.end t (server_turns past) (servers_go past order.1)
