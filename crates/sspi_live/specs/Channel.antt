-- The channel of one end: a source that its peer's requests are taken from, and a sink that its own
-- messages are written to.
use Rattle.std.specs.Prelude.{◌≡◌, ℕ, true, List, [], ◌∷◌, ◌++◌, Option, All}
use Rattle.std.specs.Io.KnownBytes.{Appends, Consumes}
use Rattle.sspi_tsreq.specs.declared.request.TsRequest.{TsRequest}
use Rattle.sspi_tsreq.specs.Spelling.{fits, spelled}
use Rattle.sspi_framing.specs.Front.{AreRequests}

-- the bytes that are left and that were written, if they are exposed, and the counts of faults
pub record Channel : Type 0 where
  pub left : Option (List ℕ)
  pub read_faults : ℕ
  pub written : Option (List ℕ)
  pub write_faults : ℕ

abbrev pub channel : {S W : Type 0} → (S → Option (List ℕ)) → (S → ℕ) → (W → Option (List ℕ)) →
    (W → ℕ) → S → W → Channel
channel left read_faults written write_faults source sink =
    record {
      left = left source;
      read_faults = read_faults source;
      written = written sink;
      write_faults = write_faults sink;
    }

-- the encodings of these messages, one after the other
abbrev pub encodings : List TsRequest → List ℕ
encodings [] = []
encodings (m ∷ later) = spelled m ++ encodings later

-- These requests and no byte more were taken, the encodings of these messages and no byte more were
-- written, and nothing failed.
pub record Carries (before after : Channel) (received sent : List TsRequest) : Type 0 where
  pub front : List ℕ
  pub requests_are : AreRequests front received
  pub taken : Consumes before.left after.left front
  pub fit : All (λ m. fits m ≡ true) sent
  pub written : Appends before.written after.written (encodings sent)
  pub reading : after.read_faults ≡ before.read_faults
  pub writing : after.write_faults ≡ before.write_faults
