-- One direction of a relay: a source from which requests are taken, and a sink to which their bytes
-- are written.
use Rattle.std.specs.Prelude.{◌≡◌, ℕ, List, Option}
use Rattle.std.specs.Io.KnownBytes.{Appends, Consumes}
use Rattle.sspi_tsreq.specs.declared.request.TsRequest.{TsRequest}
use Rattle.sspi_framing.specs.Front.{AreRequests}

-- the bytes that are left and that were written, if they are known, and the counts of faults
pub record Way : Type 0 where
  pub left : Option (List ℕ)
  pub read_faults : ℕ
  pub written : Option (List ℕ)
  pub write_faults : ℕ

abbrev pub way : {S W : Type 0} → (S → Option (List ℕ)) → (S → ℕ) → (W → Option (List ℕ)) →
    (W → ℕ) → S → W → Way
way left read_faults written write_faults source sink =
    record {
      left = left source;
      read_faults = read_faults source;
      written = written sink;
      write_faults = write_faults sink;
    }

-- These requests and not a byte more were taken, and their bytes were written unchanged.
pub record HandsOn (before after : Way) (requests : List TsRequest) : Type 0 where
  pub front : List ℕ
  pub requests_are : AreRequests front requests
  pub taken : Consumes before.left after.left front
  pub written : Appends before.written after.written front
  pub reading : after.read_faults ≡ before.read_faults
  pub writing : after.write_faults ≡ before.write_faults
