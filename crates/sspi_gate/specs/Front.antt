-- The versions of an end's requests, and the codes with which they refuse.
use Rattle.std.specs.Prelude.{◌≡◌, ◌==◌, ℕ, List, [], ◌∷◌, Option, None, Some, All, if◌then◌else◌}
use Rattle.sspi_types.specs.declared.nstatus.NStatusCode.{NStatusCode}
use Rattle.sspi_tsreq.specs.declared.request.TsRequest.{TsRequest}

-- ---- versions

abbrev pub first_version : List TsRequest → Option ℕ
first_version [] = None
first_version (first ∷ later) = Some first.version

-- an end whose first version is this one, if it has one yet, may send this version
abbrev pub MaySend : Option ℕ → ℕ → Type 0
MaySend None version = Unit {0}
MaySend (Some first) version = version ≡ first

abbrev pub HaveOneVersion : List TsRequest → Type 0
HaveOneVersion [] = Unit {0}
HaveOneVersion (first ∷ later) = All (λ r. r.version ≡ first.version) later

-- ---- codes

abbrev pub refusing_code : Option NStatusCode → Option NStatusCode
refusing_code None = None
refusing_code (Some code) = if code.0 == 0 then None else Some code

-- the code with which a request refuses: one other than SUCCESS
abbrev pub refusal : TsRequest → Option NStatusCode
refusal r = refusing_code r.error_code

-- none of them refuses
abbrev pub AreCalm : List TsRequest → Type 0
AreCalm requests = All (λ r. refusal r ≡ None) requests
