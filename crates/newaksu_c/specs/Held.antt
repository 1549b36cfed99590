-- The object behind a handle, by the kind that a call wants.
use Rattle.std.specs.Prelude.{ℕ, Bool, true, false, List, Option, None, Some}
use Rattle.sspi_mech.specs.NtlmStage.{NtlmState}
use Rattle.sspi_names.specs.declared.credentials.CredentialsBuffers.{CredentialsBuffers}
use Rattle.sspi_names.specs.declared.identity.AuthIdentity.{AuthIdentity}
use Rattle.sspi_credssp.specs.declared.acts.Acts.{Acts}
use Rattle.sspi_credssp.specs.declared.state.CredSspState.{CredSspState}
use Rattle.sspi_outside.specs.Outside.{OutsideState}
use Rattle.sspi_outside.specs.declared.last.Last.{Last}
use Rattle.sspi_tokens.specs.declared.neg_token_init.NegTokenInit.{NegTokenInit}
use Rattle.sspi_tokens.specs.declared.neg_token_targ.NegTokenTarg.{NegTokenTarg}
use Rattle.sspi_tsreq.specs.declared.reader.TsReader.{TsReader}
use Rattle.sspi_tsreq.specs.declared.request.TsRequest.{TsRequest}
use Rattle.newaksu_c.specs.declared.object.Object.{Object}
use Rattle.newaksu_c.specs.declared.object.Object.TheVariants.{Request, Reader, Init, Targ}
use Rattle.newaksu_c.specs.declared.object.Object.TheVariants.{Credentials, Identities}
use Rattle.newaksu_c.specs.declared.object.Object.TheVariants.{Client, Server, PlainClient}
use Rattle.newaksu_c.specs.declared.object.Object.TheVariants.{PlainServer, Course}

abbrev pub kind_in : Option Object → ℕ
kind_in None = 0
kind_in (Some (Request r)) = 1
kind_in (Some (Reader r)) = 2
kind_in (Some (Init t)) = 3
kind_in (Some (Targ t)) = 4
kind_in (Some (Credentials c)) = 5
kind_in (Some (Identities l)) = 6
kind_in (Some (Client e)) = 7
kind_in (Some (Server e)) = 8
kind_in (Some (PlainClient e)) = 9
kind_in (Some (PlainServer e)) = 10
kind_in (Some (Course c)) = 11

abbrev pub request_in : Option Object → Option TsRequest
request_in None = None
request_in (Some (Request r)) = Some r
request_in (Some (Reader r)) = None
request_in (Some (Init t)) = None
request_in (Some (Targ t)) = None
request_in (Some (Credentials c)) = None
request_in (Some (Identities l)) = None
request_in (Some (Client e)) = None
request_in (Some (Server e)) = None
request_in (Some (PlainClient e)) = None
request_in (Some (PlainServer e)) = None
request_in (Some (Course c)) = None

abbrev pub reader_in : Option Object → Option TsReader
reader_in None = None
reader_in (Some (Request r)) = None
reader_in (Some (Reader r)) = Some r
reader_in (Some (Init t)) = None
reader_in (Some (Targ t)) = None
reader_in (Some (Credentials c)) = None
reader_in (Some (Identities l)) = None
reader_in (Some (Client e)) = None
reader_in (Some (Server e)) = None
reader_in (Some (PlainClient e)) = None
reader_in (Some (PlainServer e)) = None
reader_in (Some (Course c)) = None

abbrev pub init_in : Option Object → Option NegTokenInit
init_in None = None
init_in (Some (Request r)) = None
init_in (Some (Reader r)) = None
init_in (Some (Init t)) = Some t
init_in (Some (Targ t)) = None
init_in (Some (Credentials c)) = None
init_in (Some (Identities l)) = None
init_in (Some (Client e)) = None
init_in (Some (Server e)) = None
init_in (Some (PlainClient e)) = None
init_in (Some (PlainServer e)) = None
init_in (Some (Course c)) = None

abbrev pub targ_in : Option Object → Option NegTokenTarg
targ_in None = None
targ_in (Some (Request r)) = None
targ_in (Some (Reader r)) = None
targ_in (Some (Init t)) = None
targ_in (Some (Targ t)) = Some t
targ_in (Some (Credentials c)) = None
targ_in (Some (Identities l)) = None
targ_in (Some (Client e)) = None
targ_in (Some (Server e)) = None
targ_in (Some (PlainClient e)) = None
targ_in (Some (PlainServer e)) = None
targ_in (Some (Course c)) = None

abbrev pub credentials_in : Option Object → Option CredentialsBuffers
credentials_in None = None
credentials_in (Some (Request r)) = None
credentials_in (Some (Reader r)) = None
credentials_in (Some (Init t)) = None
credentials_in (Some (Targ t)) = None
credentials_in (Some (Credentials c)) = Some c
credentials_in (Some (Identities l)) = None
credentials_in (Some (Client e)) = None
credentials_in (Some (Server e)) = None
credentials_in (Some (PlainClient e)) = None
credentials_in (Some (PlainServer e)) = None
credentials_in (Some (Course c)) = None

abbrev pub identities_in : Option Object → Option (List AuthIdentity)
identities_in None = None
identities_in (Some (Request r)) = None
identities_in (Some (Reader r)) = None
identities_in (Some (Init t)) = None
identities_in (Some (Targ t)) = None
identities_in (Some (Credentials c)) = None
identities_in (Some (Identities l)) = Some l
identities_in (Some (Client e)) = None
identities_in (Some (Server e)) = None
identities_in (Some (PlainClient e)) = None
identities_in (Some (PlainServer e)) = None
identities_in (Some (Course c)) = None

-- ---- an end: the outcome and effects of its last call, what it waits for, whether it is hosted

abbrev pub last_in : Option Object → Option Last
last_in None = None
last_in (Some (Request r)) = None
last_in (Some (Reader r)) = None
last_in (Some (Init t)) = None
last_in (Some (Targ t)) = None
last_in (Some (Credentials c)) = None
last_in (Some (Identities l)) = None
last_in (Some (Client e)) = Some e.value.last
last_in (Some (Server e)) = Some e.value.last
last_in (Some (PlainClient e)) = Some e.value.last
last_in (Some (PlainServer e)) = Some e.value.last
last_in (Some (Course c)) = None

abbrev pub acts_in : Option Object → Option Acts
acts_in None = None
acts_in (Some (Request r)) = None
acts_in (Some (Reader r)) = None
acts_in (Some (Init t)) = None
acts_in (Some (Targ t)) = None
acts_in (Some (Credentials c)) = None
acts_in (Some (Identities l)) = None
acts_in (Some (Client e)) = Some e.value.client.acts
acts_in (Some (Server e)) = Some e.value.server.acts
acts_in (Some (PlainClient e)) = Some e.value.client.acts
acts_in (Some (PlainServer e)) = Some e.value.server.acts
acts_in (Some (Course c)) = None

abbrev pub state_in : Option Object → Option CredSspState
state_in None = None
state_in (Some (Request r)) = None
state_in (Some (Reader r)) = None
state_in (Some (Init t)) = None
state_in (Some (Targ t)) = None
state_in (Some (Credentials c)) = None
state_in (Some (Identities l)) = None
state_in (Some (Client e)) = Some e.value.client.state
state_in (Some (Server e)) = Some e.value.server.state
state_in (Some (PlainClient e)) = Some e.value.client.state
state_in (Some (PlainServer e)) = Some e.value.server.state
state_in (Some (Course c)) = None

abbrev pub is_hosted : Option Object → Bool
is_hosted None = false
is_hosted (Some (Request r)) = false
is_hosted (Some (Reader r)) = false
is_hosted (Some (Init t)) = false
is_hosted (Some (Targ t)) = false
is_hosted (Some (Credentials c)) = false
is_hosted (Some (Identities l)) = false
is_hosted (Some (Client e)) = true
is_hosted (Some (Server e)) = true
is_hosted (Some (PlainClient e)) = false
is_hosted (Some (PlainServer e)) = false
is_hosted (Some (Course c)) = false
