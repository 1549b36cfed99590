-- What octets begin with, according to the reader's answer.
use Rattle.std.proofs.Common.{◌≡◌, ◌↔◌, ℕ, List, Result, Ok, Err, subst}
use Rattle.sspi_ber.specs.declared.wire_kind.WireKind.{WireKind}
use Rattle.sspi_tsreq.specs.declared.request.TsRequest.{TsRequest}
use Rattle.sspi_tsreq.specs.Answer.{IsAnswer, IsUnlessMemory}
use Rattle.sspi_tsreq.specs.Grammar.{IsRequest}
use Rattle.sspi_delegate.specs.Log.{IsRead}

-- if the octets begin with a request, this is the reader's answer, or memory ran out
abbrev pub IsOnly : List ℕ → Result TsRequest WireKind → Type 0
IsOnly bytes result = (r : TsRequest) (count : ℕ) → IsRequest bytes r count → IsUnlessMemory result r

pub read_is : (bytes : List ℕ) (x r : TsRequest) → IsAnswer bytes (Ok x) → IsOnly bytes (Ok x) → (x ≡ r) ↔ IsRead bytes r
read_is bytes x r answer only = (
  (λ same. subst (λ (y : TsRequest). IsRead bytes y) same answer.0),
  (λ read. only r read.0 read.1),
)

-- a reader that fails on octets that begin with a request ran out of memory
pub unread : (bytes : List ℕ) (r : TsRequest) (kind fault : WireKind) → kind ≡ fault → IsOnly bytes (Err kind) → IsRead bytes r →
    IsUnlessMemory (Err fault) r
unread bytes r kind fault is only read = subst (λ (k : WireKind). IsUnlessMemory (Err k) r) is (only r read.0 read.1)
