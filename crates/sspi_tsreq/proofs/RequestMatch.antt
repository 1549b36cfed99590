-- The request's reader agrees with the grammar.
use Rattle.std.proofs.Common.{◌≡◌, ℕ, List, ◌∷◌, ◌++◌, length, drop, Result, Ok, Err, refl, sym, ap, ◌∙◌, subst, append_assoc}
use Rattle.std.proofs.lemmas.List.{drop_at}
use Rattle.sspi_ber.specs.Pieces.{Fault, Read, ◌>>=◌, as_ended, bytes_at, header_at}
use Rattle.sspi_ber.specs.Forms.{IsLength}
use Rattle.sspi_ber.proofs.Match.{bind_ok, both_are}
use Rattle.sspi_ber.proofs.PiecesMatch.{bytes_match, header_match}
use Rattle.sspi_tsreq.specs.declared.request.TsRequest.{TsRequest}
use Rattle.sspi_tsreq.specs.Grammar.{IsBody, IsRequest}
use Rattle.sspi_tsreq.specs.Reading.{body_at, request_at}
use Rattle.sspi_tsreq.proofs.BodyMatch.{body_takes, body_again}

not_ended : {A : Type 0} (r : Result A Fault) (x : A) → as_ended r ≡ Ok x → r ≡ Ok x
not_ended (Ok y) x e = e
not_ended (Err fault) x e = absurd cc

-- the bytes after the body
abbrev behind : List ℕ → TsRequest × List ℕ → Read TsRequest
behind after request = Ok (request.0, after)

abbrev inside : List ℕ × List ℕ → Read TsRequest
inside body = body_at body.0 >>= behind body.1

abbrev measured : ℕ × List ℕ → Read TsRequest
measured n = bytes_at n.0 n.1 >>= inside

three : (bytes header rest body after : List ℕ) → bytes ≡ header ++ rest → rest ≡ body ++ after → bytes ≡ header ++ (body ++ after)
three bytes header rest body after e f = e ∙ ap (λ (l : List ℕ). header ++ l) f

pub request_takes : (bytes : List ℕ) (r : TsRequest) (rest : List ℕ) → request_at bytes ≡ Ok (r, rest) → (count : ℕ) ×
    IsRequest bytes r count × (rest ≡ drop count bytes)
unfolding request_at
request_takes bytes r rest e =
    let a = bind_ok (as_ended (header_at 0x30 bytes)) measured (r, rest) e in
    let n = a.0 in
    let header = (header_match 0x30).takes bytes n.0 n.1 (not_ended (header_at 0x30 bytes) n a.1) in
    let b = bind_ok (bytes_at n.0 n.1) inside (r, rest) a.2 in
    let block = (bytes_match n.0).takes n.1 b.0.0 b.0.1 b.1 in
    let c = bind_ok (body_at b.0.0) (behind b.0.1) (r, rest) b.2 in
    let same = both_are c.0.0 r b.0.1 rest c.2 in
    let is : IsBody b.0.0 r = subst (λ (z : TsRequest). IsBody b.0.0 z) same.0 (body_takes b.0.0 c.0.0 c.0.1 c.1) in
    let len = header.1.len in
    let parts : bytes ≡ (0x30 ∷ len) ++ (b.0.0 ++ b.0.1) =
    three bytes (0x30 ∷ len) n.1 b.0.0 b.0.1 (header.2 ∙ ap (λ (l : List ℕ). l ++ n.1) header.1.spelled)
    (block.2 ∙ ap (λ (l : List ℕ). l ++ b.0.1) block.1.0) in
    let front : bytes ≡ ((0x30 ∷ len) ++ b.0.0) ++ b.0.1 = parts ∙ sym (append_assoc (0x30 ∷ len) b.0.0 b.0.1) in (
      length ((0x30 ∷ len) ++ b.0.0),
      record {
        len = len;
        body = b.0.0;
        after = b.0.1;
        parts = parts;
        measured = subst (λ (k : ℕ). IsLength len k) (sym block.1.1) header.1.measured;
        body_is = is;
        taken = refl;
      },
      sym same.1 ∙ sym (ap (drop (length ((0x30 ∷ len) ++ b.0.0))) front ∙ drop_at ((0x30 ∷ len) ++ b.0.0) b.0.1
          (length ((0x30 ∷ len) ++ b.0.0)) refl),
    )

pub request_again : (bytes : List ℕ) (r : TsRequest) (count : ℕ) → IsRequest bytes r count → request_at bytes ≡ Ok (r, drop count bytes)
unfolding request_at
request_again bytes r count t =
    let header : header_at 0x30 bytes ≡ Ok (length t.body, t.body ++ t.after) =
    ap (header_at 0x30) t.parts ∙ (header_match 0x30).again (0x30 ∷ t.len) (length t.body) (t.body ++ t.after)
    (record { len = t.len; spelled = refl; measured = t.measured }) in
    let block : bytes_at (length t.body) (t.body ++ t.after) ≡ Ok (t.body, t.after) =
    (bytes_match (length t.body)).again t.body t.body t.after (refl, refl) in
    let b = body_again t.body r t.body_is in
    let front : bytes ≡ ((0x30 ∷ t.len) ++ t.body) ++ t.after = t.parts ∙ sym (append_assoc (0x30 ∷ t.len) t.body t.after) in
    let rest : drop count bytes ≡ t.after =
    ap (λ (l : List ℕ). drop count l) front ∙ drop_at ((0x30 ∷ t.len) ++ t.body) t.after count (sym t.taken) in
    ap (λ (h : Read ℕ). as_ended h >>= measured) header
    ∙ ap (λ (h : Read (List ℕ)). h >>= inside) block
    ∙ ap (λ (h : Read TsRequest). h >>= behind t.after) b.1
    ∙ ap (behind_rest r) (sym rest)
  where
    behind_rest : TsRequest → List ℕ → Read TsRequest
    behind_rest z l = Ok (z, l)
