-- Which requests the turns of one end were given, and which messages they made. Turns are listed
-- newest first.
use Rattle.std.specs.Prelude.{◌≡◌, List, [], ◌∷◌, ◌++◌, Option, None, Some}
use Rattle.sspi_tsreq.specs.declared.request.TsRequest.{TsRequest}
use Rattle.sspi_tsreq.specs.Grammar.{first_request}
use Rattle.sspi_credssp.specs.declared.turn.End.{End}
use Rattle.sspi_credssp.specs.declared.turn.End.TheVariants.{Client, Server}
use Rattle.sspi_credssp.specs.declared.turn.Turn.{Turn}
use Rattle.sspi_credssp.specs.Turn.{message_of}

abbrev pub AreOf : End → List Turn → Type 0
AreOf end [] = Unit {0}
AreOf end (t ∷ past) = (t.end ≡ end) × AreOf end past

-- the first of these turns was given the request that a client makes itself
abbrev pub BeginsItself : List Turn → Type 0
BeginsItself [] = Unit {0}
BeginsItself (t ∷ []) = t.delivered ≡ first_request
BeginsItself (t ∷ u ∷ past) = BeginsItself (u ∷ past)

-- what is read for a turn on this request, after these turns: nothing for a client's first
abbrev pub read_for : End → List Turn → TsRequest → List TsRequest
read_for Client [] d = []
read_for Client (t ∷ past) d = d ∷ []
read_for Server past d = d ∷ []

-- the requests that were read for these turns, in order
abbrev pub received_by : End → List Turn → List TsRequest
received_by end [] = []
received_by end (t ∷ past) = received_by end past ++ read_for end past t.delivered

abbrev pub one_or_none : Option TsRequest → List TsRequest
one_or_none None = []
one_or_none (Some message) = message ∷ []

-- the messages of these turns, in order
abbrev pub messages_in : List Turn → List TsRequest
messages_in [] = []
messages_in (t ∷ past) = messages_in past ++ one_or_none (message_of t.outcome)

-- all turns but the newest
abbrev pub earlier : List Turn → List Turn
earlier [] = []
earlier (t ∷ past) = past
