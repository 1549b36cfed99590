-- The rounds of an undisturbed exchange, and what is said of the message that one ends with.
use Rattle.std.proofs.Common.{◌≡◌, ℕ, ◌+◌, false, None, refl}
use Rattle.sspi_tsreq.specs.declared.request.TsRequest.{TsRequest}
use Rattle.sspi_credssp.specs.Requests.{is_code}
use Rattle.sspi_credssp.specs.declared.turn.Outcome.{Outcome}
use Rattle.sspi_credssp.specs.declared.turn.Outcome.TheVariants.{Reply, Final, Finished, Refused}
use Rattle.sspi_completeness.proofs.Ends.{Comes}

-- A token that asks for more, with its number and how many follow it; the client's proof; the last.
pub data Round (j : ℕ) : Type 0 where
  Token : (n rest : ℕ) → n + rest ≡ j → Round j
  Proof : Round j
  Last : Round j

pub comes_map : (out : Outcome) (Q R : TsRequest → Type 0) → ((r : TsRequest) → Q r → R r) → Comes out Q → Comes out R
comes_map (Reply r) Q R more h = more r h
comes_map (Final r) Q R more h = more r h
comes_map Finished Q R more h = h
comes_map (Refused kind reply) Q R more h = h

pub is_no_code : (d : TsRequest) → d.error_code ≡ None → is_code d.error_code ≡ false
is_no_code d none = rw none refl
