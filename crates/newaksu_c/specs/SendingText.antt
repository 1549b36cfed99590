-- The message that is sent, encoded.
use Rattle.std.specs.Prelude.{◌≡◌, ℕ, List, Some, Result, Ok, Err}
use Rattle.sspi_tsreq.specs.declared.request.TsRequest.{TsRequest}
use Rattle.newaksu_c.specs.Requests.{IsEncoded}

abbrev pub IsMessageText : Result TsRequest ℕ → Result (List ℕ) ℕ → Type 0
IsMessageText (Ok message) text = IsEncoded (Some message) text
IsMessageText (Err status) text = text ≡ Err status
