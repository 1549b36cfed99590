-- What is read is within the ranges of a request.
use Rattle.std.proofs.Common.{◌≡◌, ℕ, ◌^◌, ◌<◌, Bool, true, false, leb, List, ◌++◌, length, Option, None, Some, arith}
use Rattle.std.specs.Prelude.{IfSome}
use Rattle.sspi_types.specs.declared.nstatus.NStatusCode.{NStatusCode}
use Rattle.sspi_tsreq.specs.declared.request.TsRequest.{TsRequest}
use Rattle.sspi_tsreq.specs.Grammar.{IsRequestValue, IsLow, IsCode, IsNonce, IsLookedFor, IsRequest}

low_small : (text : List ℕ) (v : ℕ) → IsLow text v → v < 2 ^ 32
low_small text v t = let e = t.low in omega arith

code_small : (looked : Bool) (text following : List ℕ) (code : Option NStatusCode) → IsLookedFor looked 0xA4 IsCode text code following →
    IfSome code (λ c. c.0 < 2 ^ 32)
code_small true text following None t = tt
code_small true text following (Some code) t = low_small t.0 code.0 t.2
code_small false text following None t = tt
code_small false text following (Some code) t = absurd (let e = t.1 in cc)

nonce_long : (looked : Bool) (text following : List ℕ) (nonce : Option (List ℕ)) → IsLookedFor looked 0xA5 IsNonce text nonce following →
    IfSome nonce (λ n. length n ≡ 32)
nonce_long true text following None t = tt
nonce_long true text following (Some nonce) t = t.2.1
nonce_long false text following None t = tt
nonce_long false text following (Some nonce) t = absurd (let e = t.1 in cc)

pub read_value : (bytes : List ℕ) (r : TsRequest) (count : ℕ) → IsRequest bytes r count → IsRequestValue r
read_value bytes r count t = record {
  version = low_small t.body_is.version_is.0 r.version t.body_is.version_is.2;
  code = code_small (leb 3 r.version) t.body_is.code (t.body_is.nonce ++ t.body_is.tail) r.error_code t.body_is.code_is;
  nonce = nonce_long (leb 5 r.version) t.body_is.nonce t.body_is.tail r.client_nonce t.body_is.nonce_is;
}
