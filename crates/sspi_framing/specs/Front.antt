-- The requests at the beginning of a stream, one after the other (MS-CSSP 2.2.1).
use Rattle.std.specs.Prelude.{◌≡◌, ℕ, List, [], ◌∷◌, ◌++◌, length, drop}
use Rattle.sspi_tsreq.specs.declared.request.TsRequest.{TsRequest}
use Rattle.sspi_tsreq.specs.Grammar.{IsRequest}

-- all of the text is this one request
abbrev pub IsText : List ℕ → TsRequest → Type 0
IsText text r = IsRequest text r (length text)

-- the bytes are these requests, one after the other, and nothing else
abbrev pub AreRequests : List ℕ → List TsRequest → Type 0
AreRequests bytes [] = bytes ≡ []
AreRequests bytes (r ∷ later) = (text : List ℕ) × (rest : List ℕ) × (bytes ≡ text ++ rest) ×
    IsText text r × AreRequests rest later

-- read one after the other, the stream gives these requests first, and this rest is left
abbrev pub GivesFirst : List ℕ → List TsRequest → List ℕ → Type 0
GivesFirst stream [] rest = stream ≡ rest
GivesFirst stream (r ∷ later) rest = (count : ℕ) × IsRequest stream r count ×
    GivesFirst (drop count stream) later rest
