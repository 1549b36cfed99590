-- A reader that is fed pieces, and the bytes that it represents.
use Rattle.std.specs.Prelude.{◌≡◌, ◌≤◌, ◌⊎◌, ℕ, ◌-◌, List, [], ◌++◌, length, take, Ok, Err}
use Rattle.sspi_ber.specs.Pieces.{Invalid, header_at}
use Rattle.sspi_tsreq.specs.declared.place.Place.{Place}
use Rattle.sspi_tsreq.specs.declared.place.Stage.{Stage}
use Rattle.sspi_tsreq.specs.declared.place.Stage.TheVariants.{OuterTag, OuterLength, Content}
use Rattle.sspi_tsreq.specs.declared.place.Stage.TheVariants.{Refused}
use Rattle.sspi_tsreq.specs.declared.reader.TsReader.{TsReader}
use Rattle.sspi_tsreq.specs.declared.request.TsRequest.{TsRequest}
use Rattle.sspi_tsreq.specs.Reading.{body_at}
use Rattle.sspi_tsreq.specs.Places.{answered, length_rest, rest_at}
use Rattle.sspi_tsreq.specs.Quiet.{IsWithout, Opened}

-- Inside a content: its header was read, and `left` of its bytes are still to come. Whatever these
-- are, the fields that were read and the place lead to what the whole content reads as.
pub record StandsInside (nonce : List ℕ) (left : ℕ) (place : Place) (r : TsRequest)
    (bytes : List ℕ) : Type 0 where
  pub size : ℕ
  pub body : List ℕ
  pub header : header_at 0x30 bytes ≡ Ok (size, body)
  pub counted : left ≡ size - length body
  pub goes : (more : List ℕ) → length more ≤ left →
      answered (body_at (take size body ++ more)) ≡ answered (rest_at nonce place r more)
  pub quiet : IsWithout 0x04 bytes → Opened place → ⊥

abbrev pub StandsAt : List ℕ → Stage → TsRequest → List ℕ → Type 0
StandsAt nonce OuterTag r bytes = bytes ≡ []
StandsAt nonce (OuterLength part) r bytes = (more : List ℕ) →
    header_at 0x30 (bytes ++ more) ≡ length_rest part more
StandsAt nonce (Content left place) r bytes = StandsInside nonce left place r bytes
StandsAt nonce Refused r bytes = header_at 0x30 bytes ≡ Err Invalid

-- the reader was fed these bytes
pub record Stands (reader : TsReader) (bytes : List ℕ) : Type 0 where
  pub at : StandsAt reader.nonce reader.stage reader.request bytes

-- the bytes begin with a header and its whole content
pub record IsFramed (bytes : List ℕ) : Type 0 where
  pub size : ℕ
  pub body : List ℕ
  pub header : header_at 0x30 bytes ≡ Ok (size, body)
  pub whole : size ≤ length body

-- Further bytes are ignored: the message is whole, or its header is bad.
abbrev pub IsPastReading : List ℕ → Type 0
IsPastReading bytes = IsFramed bytes ⊎ (header_at 0x30 bytes ≡ Err Invalid)
