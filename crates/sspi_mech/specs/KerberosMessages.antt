-- The messages of plain Kerberos. They are this project's own, modeled on the AS, TGS and AP
-- exchanges of RFC 4120. In user-to-user authentication, a server first sends its ticket.
use Rattle.std.specs.Prelude.{ℕ, Bool, List, [], ◌∷◌, ◌++◌, codes, Option}
use Rattle.std.specs.Str.{bytes_eq}
use Rattle.sha2.specs.Sha256.{sha256}
use Rattle.sspi_mech.specs.Named.{Named, read_block, named_message, read_named}

-- what shows that a server has the session key
unfoldable pub reply_proof : List ℕ → List ℕ
reply_proof key = sha256 ((codes "plain kerberos reply" ++ 0 ∷ []) ++ key)

-- ---- client and server: the ticket is asked for and sent, then the session key is sent and shown

abbrev pub ticket_request : List ℕ
ticket_request = codes "K1"

abbrev pub ticket_reply : List ℕ → List ℕ
ticket_reply ticket = codes "K2" ++ ticket

abbrev pub ap_request : List ℕ → List ℕ → List ℕ
ap_request name key = named_message (codes "K3") name key

abbrev pub ap_reply : List ℕ → List ℕ
ap_reply key = codes "K4" ++ reply_proof key

abbrev pub is_ticket_request : List ℕ → Bool
is_ticket_request message = bytes_eq message ticket_request

abbrev pub read_ticket : List ℕ → Option (List ℕ)
read_ticket message = read_block (codes "K2") message

abbrev pub read_ap_request : List ℕ → Option Named
read_ap_request message = read_named (codes "K3") message

abbrev pub read_ap_reply : List ℕ → Option (List ℕ)
read_ap_reply message = read_block (codes "K4") message

-- ---- between client and KDC: a first key for a name, a session key for the first key and a ticket

abbrev pub as_request : List ℕ → List ℕ
as_request name = codes "KA" ++ name

abbrev pub as_reply : List ℕ → List ℕ
as_reply key = codes "KB" ++ key

abbrev pub tgs_request : List ℕ → List ℕ → List ℕ
tgs_request key ticket = codes "KT" ++ key ++ ticket

abbrev pub tgs_reply : List ℕ → List ℕ
tgs_reply key = codes "KS" ++ key

abbrev pub kdc_error : ℕ → List ℕ
kdc_error code = codes "KE" ++ code ∷ []
