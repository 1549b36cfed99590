-- When a request's content no longer depends on the bytes that follow.
use Rattle.std.specs.Prelude.{◌≡◌, ◌⊎◌, ◌<◌, ℕ, List, ◌++◌, Some}
use Rattle.sspi_ber.specs.Pieces.{Invalid}
use Rattle.sspi_tsreq.specs.declared.request.TsRequest.{TsRequest}
use Rattle.sspi_tsreq.specs.Reading.{body_fault}
use Rattle.sspi_tsreq.specs.Grammar.{IsBody}

-- a byte that begins no optional field
abbrev pub IsNoTag : ℕ → Type 0
IsNoTag byte = (byte < 0xA1) ⊎ (0xA5 < byte)

-- the same request is read whatever follows, or the content is refused as invalid whatever follows
abbrev pub IsSettled : List ℕ → Type 0
IsSettled front = ((r : TsRequest) × ((more : List ℕ) → IsBody (front ++ more) r)) ⊎
    ((more : List ℕ) → body_fault (front ++ more) ≡ Some Invalid)
