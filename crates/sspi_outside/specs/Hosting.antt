-- What the host of an end over `Outside` reports about a message, and what it has to seal in the
-- answer.
use Rattle.std.specs.Prelude.{ℕ, ◌++◌, List, ◌∷◌, drop, length, nat_lt, Option, None, Some, Result}
use Rattle.std.specs.Prelude.{Ok, Err, if◌then◌else◌}
use Rattle.sspi_types.specs.declared.error.Error.{Error}
use Rattle.sspi_tsreq.specs.declared.request.TsRequest.{TsRequest}
use Rattle.sspi_credssp.specs.Requests.{unless_empty}
use Rattle.sspi_credssp.specs.declared.acts.Acts.{Acts}
use Rattle.sspi_credssp.specs.declared.client_state.ClientState.TheVariants as client
use Rattle.sspi_credssp.specs.declared.client_state.Progress.{Progress}
use Rattle.sspi_credssp.specs.declared.client_state.Progress.TheVariants.{Suspended, Completed}
use Rattle.sspi_credssp.specs.declared.server_state.ServerError.{ServerError}
use Rattle.sspi_credssp.specs.declared.server_state.ServerState.{ServerState}
use Rattle.sspi_credssp.specs.declared.server_state.ServerState.TheVariants as server
use Rattle.sspi_outside.specs.Envelope.{no_tag, text_in}
use Rattle.sspi_outside.specs.declared.last.Last.{Last}
use Rattle.sspi_outside.specs.declared.last.Last.TheVariants.{Nothing, Reply, Final, Finished, Asks}
use Rattle.sspi_outside.specs.declared.last.Last.TheVariants.{Refused}
use Rattle.sspi_outside.specs.declared.last.Owed.{Owed}
use Rattle.sspi_outside.specs.declared.last.Owed.TheVariants as owed
use Rattle.sspi_outside.specs.declared.opened.Opened.{Opened}
use Rattle.sspi_outside.specs.declared.opened.Opened.TheVariants as opened

-- ---- what the end is given in place of what was received

-- the texts that the host opened
abbrev pub proof_opened : Opened → Option (List ℕ)
proof_opened opened.Neither = None
proof_opened (opened.PubKeyAuth text) = Some text.now
proof_opened (opened.AuthInfo text) = None

abbrev pub credentials_opened : Opened → Option (List ℕ)
credentials_opened opened.Neither = None
credentials_opened (opened.PubKeyAuth text) = None
credentials_opened (opened.AuthInfo text) = Some text.now

-- a blob that the host did not open says so, whatever was received; a too short one is unchanged
abbrev pub closed : List ℕ → List ℕ
closed blob = if nat_lt (length blob) 16 then blob else 1 ∷ drop 1 blob

abbrev pub shown : Option (List ℕ) → Option (List ℕ) → Option (List ℕ)
shown text None = None
shown None (Some blob) = Some (closed blob)
shown (Some text) (Some blob) = Some (no_tag ++ text)

-- the request with the envelope of the step, if one was made, and with what was opened; no token,
-- and no sealed field of at least 16 bytes, is left as received
abbrev pub handed : TsRequest → List ℕ → Option (List ℕ) → Option (List ℕ) → TsRequest
handed r step proof credentials = record r {
  nego_tokens = unless_empty step;
  pub_key_auth = shown proof r.pub_key_auth;
  auth_info = shown credentials r.auth_info;
}

-- ---- the result of a call

abbrev pub client_last : Result Progress Error → Last
client_last (Ok (Suspended question)) = Asks question
client_last (Ok (Completed (client.ReplyNeeded message))) = Reply message
client_last (Ok (Completed (client.FinalMessage message))) = Final message
client_last (Err error) = Refused error None

abbrev pub server_last : Result ServerState ServerError → Last
server_last (Ok (server.ReplyNeeded message)) = Reply message
server_last (Ok (server.Finished identity)) = Finished identity
server_last (Err refusal) = Refused refusal.error refusal.ts_request

-- ---- what is sent

-- the text that the host has yet to seal: a proof or the credentials, if the call made it
abbrev pub owed_of : Acts → Last → Owed
owed_of acts Nothing = owed.Neither
owed_of acts (Reply message) = if acts.proved then owed.PubKeyAuth else owed.Neither
owed_of acts (Final message) = if acts.sealed then owed.AuthInfo else owed.Neither
owed_of acts (Finished identity) = owed.Neither
owed_of acts (Asks question) = owed.Neither
owed_of acts (Refused error message) = owed.Neither

abbrev pub message_of : Last → Option TsRequest
message_of Nothing = None
message_of (Reply message) = Some message
message_of (Final message) = Some message
message_of (Finished identity) = None
message_of (Asks question) = None
message_of (Refused error message) = message

abbrev pub text_of : Option (List ℕ) → Option (List ℕ)
text_of None = None
text_of (Some blob) = text_in blob

abbrev pub owed_text : Owed → Option TsRequest → Option (List ℕ)
owed_text what None = None
owed_text owed.Neither (Some message) = None
owed_text owed.PubKeyAuth (Some message) = text_of message.pub_key_auth
owed_text owed.AuthInfo (Some message) = text_of message.auth_info

-- the message with the sealed blob in its place, and with nothing that was received
abbrev pub sealed_by : Owed → List ℕ → TsRequest → TsRequest
sealed_by owed.Neither blob m = record m { pub_key_auth = None; auth_info = None }
sealed_by owed.PubKeyAuth blob m = record m { pub_key_auth = Some blob; auth_info = None }
sealed_by owed.AuthInfo blob m = record m { pub_key_auth = None; auth_info = Some blob }

abbrev pub refusing : Option TsRequest → Option TsRequest
refusing None = None
refusing (Some m) = Some (record m { nego_tokens = None; pub_key_auth = None; auth_info = None })

abbrev pub sent : Owed → List ℕ → Last → Option TsRequest
sent what blob Nothing = None
sent what blob (Reply message) = Some (sealed_by what blob message)
sent what blob (Final message) = Some (sealed_by what blob message)
sent what blob (Finished identity) = None
sent what blob (Asks question) = None
sent what blob (Refused error message) = refusing message
