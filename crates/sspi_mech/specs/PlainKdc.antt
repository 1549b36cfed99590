-- What a plain KDC replies.
use Rattle.std.specs.Prelude.{◌==◌, ℕ, Bool, List, [], ◌∷◌, ◌++◌, codes, length, Option, None, Some}
use Rattle.std.specs.Prelude.{if◌then◌else◌}
use Rattle.std.specs.List.{list_any, slice_get}
use Rattle.std.specs.Str.{bytes_eq}
use Rattle.sha2.specs.Sha256.{sha256}
use Rattle.sspi_names.specs.declared.network.NetworkRequest.{NetworkRequest}
use Rattle.sspi_mech.specs.declared.plain_kdc.Scripted.{Scripted}
use Rattle.sspi_mech.specs.declared.plain_kdc.Scripted.TheVariants.{Usual, Code, Fail}
use Rattle.sspi_mech.specs.declared.step.Reply.{Reply}
use Rattle.sspi_mech.specs.declared.step.Reply.TheVariants.{Answered, Failed}
use Rattle.sspi_mech.specs.KerberosMessages.{as_reply, tgs_reply, kdc_error}
use Rattle.sspi_mech.specs.Named.{after_letters}

-- a KDC: whom it knows, what decides its calls in order, and the counts of its calls and of those
-- that failed
pub record PlainKdcState : Type 0 where
  pub users : List (List ℕ)
  pub script : List Scripted
  pub asked : ℕ
  pub faults : ℕ

-- the key of a name, and that of a first key and a ticket, one after the other
unfoldable pub first_key : List ℕ → List ℕ
first_key name = sha256 ((codes "plain kdc first" ++ 0 ∷ []) ++ name)

unfoldable pub session_key : List ℕ → List ℕ
session_key both = sha256 ((codes "plain kdc session" ++ 0 ∷ []) ++ both)

abbrev pub knows : List (List ℕ) → List ℕ → Bool
knows users name = list_any (λ user. bytes_eq user name) users

abbrev pub first_reply : List (List ℕ) → List ℕ → List ℕ
first_reply users name = if knows users name then as_reply (first_key name) else kdc_error 4

-- the reply to a first key and a ticket of 32 bytes each; to anything else an error
abbrev pub session_reply : Option (List ℕ) → List ℕ
session_reply None = kdc_error 5
session_reply (Some both) = if length both == 64 then tgs_reply (session_key both) else kdc_error 5

abbrev pub reply_by : List (List ℕ) → Option (List ℕ) → List ℕ → List ℕ
reply_by users (Some name) request = first_reply users name
reply_by users None request = session_reply (after_letters (codes "KT") request)

abbrev pub usual_reply : List (List ℕ) → List ℕ → List ℕ
usual_reply users request = reply_by users (after_letters (codes "KA") request) request

-- the reply by the script's entry for a call; past its end calls are usual
abbrev pub scripted_reply : List (List ℕ) → Option Scripted → List ℕ → Reply
scripted_reply users None request = Answered (usual_reply users request)
scripted_reply users (Some Usual) request = Answered (usual_reply users request)
scripted_reply users (Some (Code code)) request = Answered (kdc_error code)
scripted_reply users (Some Fail) request = Failed

abbrev pub told_by : List (List ℕ) → List Scripted → ℕ → NetworkRequest → Reply
told_by users script call request = scripted_reply users (slice_get script call) request.payload
