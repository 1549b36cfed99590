-- Octets, numbers and the nonce during a walk through a piece.
use Rattle.std.proofs.Common.{◌≡◌, ℕ, ◌+◌, ◌-◌, ◌*◌, ◌%◌, ◌^◌, ◌<◌, ◌≤◌, List, [], ◌∷◌, ◌++◌, length, take, drop, Ok, Err, refl, sym}
use Rattle.std.proofs.Common.{ap, ◌∙◌, append_assoc, arith, slice_set}
use Rattle.std.specs.Prelude.{◌==◌, if◌then◌else◌}
use Rattle.std.proofs.lemmas.Bool.{lt-ltb, le-ltb}
use Rattle.std.proofs.lemmas.List.{length-append, take-append-le, drop-append-le, append-nil, take_more_set, length-set}
use Rattle.std.proofs.Math.Seq.{take-length}
use Rattle.sspi_ber.specs.Pieces.{Invalid, Read, ◌>>=◌, bytes_at}
use Rattle.sspi_ber.proofs.Match.{read_of}
use Rattle.sspi_tsreq.specs.declared.request.TsRequest.{TsRequest}
use Rattle.sspi_tsreq.specs.declared.place.Text.{Text}
use Rattle.sspi_tsreq.specs.declared.place.Text.TheVariants.{NegoTokens, AuthInfo, PubKeyAuth}
use Rattle.sspi_tsreq.specs.Places.{low_from, nonce_from, nonce_rest, nonce_then, text_of, text_from, text_left, text_more, text_then}
use Rattle.sspi_tsreq.specs.Walks.{with_text}
use Rattle.sspi_tsreq.specs.Places.{version_from, version_then, code_from, code_then}
use Rattle.sspi_tsreq.proofs.Numbers.{bytes_there, bytes_behind, byte_behind, low_step, low_last, none_left, put_before}

-- ---- numbers

low_more : (more value byte : ℕ) (text : List ℕ) → 0 < more →
    low_from value (more + 1) (byte ∷ text) ≡ low_from ((value * 256 + byte) % 2 ^ 32) ((more - 1) + 1) text
low_more more value byte text some = low_step value byte more text ∙ ap (λ (n : ℕ). low_from ((value * 256 + byte) % 2 ^ 32) n text)
    (omega arith)

low_end : (more value byte : ℕ) (text : List ℕ) → more ≤ 0 →
    low_from value (more + 1) (byte ∷ text) ≡ Ok ((value * 256 + byte) % 2 ^ 32, text)
low_end more value byte text none =
    low_step value byte more text
    ∙ ap (λ (n : ℕ). low_from ((value * 256 + byte) % 2 ^ 32) n text) (omega arith)
    ∙ low_last ((value * 256 + byte) % 2 ^ 32) text

pub version_more : (more value byte : ℕ) (text : List ℕ) → 0 < more →
    version_from more value (byte ∷ text) ≡ version_from (more - 1) ((value * 256 + byte) % 2 ^ 32) text
version_more more value byte text some = ap (λ (z : Read ℕ). z >>= version_then) (low_more more value byte text some)

pub version_end : (more value byte : ℕ) (text : List ℕ) → more ≤ 0 →
    version_from more value (byte ∷ text) ≡ version_then ((value * 256 + byte) % 2 ^ 32, text)
version_end more value byte text none = ap (λ (z : Read ℕ). z >>= version_then) (low_end more value byte text none)

pub code_more : (r : TsRequest) (more value byte : ℕ) (text : List ℕ) → 0 < more →
    code_from more value r (byte ∷ text) ≡ code_from (more - 1) ((value * 256 + byte) % 2 ^ 32) r text
code_more r more value byte text some = ap (λ (z : Read ℕ). z >>= code_then r) (low_more more value byte text some)

pub code_end : (r : TsRequest) (more value byte : ℕ) (text : List ℕ) → more ≤ 0 →
    code_from more value r (byte ∷ text) ≡ code_then r ((value * 256 + byte) % 2 ^ 32, text)
code_end r more value byte text none = ap (λ (z : Read ℕ). z >>= code_then r) (low_end more value byte text none)

-- ---- octets

pub octets_there : (text : Text) (r : TsRequest) (len : ℕ) (rest more : List ℕ) → len ≤ length rest
    → (bytes_at len (rest ++ more) >>= text_then text r) ≡ text_then text r (take len rest, drop len rest ++ more)
octets_there text r len rest more le =
    ap (λ (z : Read (List ℕ)). z >>= text_then text r)
    (bytes_there len (rest ++ more) (omega (arith, le, length-append rest more))
    ∙ ap (λ (l : List ℕ). read_of l (drop len (rest ++ more))) (take-append-le len rest more le)
    ∙ ap (λ (l : List ℕ). read_of (take len rest) l) (drop-append-le len rest more le))

-- a field's further bytes come after those that it has
more_octets : (text : Text) (r : TsRequest) (front : List ℕ) (z : Read (List ℕ))
    → ((z >>= put_before front) >>= text_then text r) ≡ (z >>= λ rest. text_then text (with_text text r front)
    (text_of text (with_text text r front) ++ rest.0, rest.1))
more_octets NegoTokens r front (Ok x) = refl
more_octets AuthInfo r front (Ok x) = refl
more_octets PubKeyAuth r front (Ok x) = refl
more_octets text r front (Err fault) = refl

pub octets_begun : (text : Text) (r : TsRequest) (len : ℕ) (rest more : List ℕ) → length rest < len
    → (bytes_at len (rest ++ more) >>= text_then text r) ≡ text_from text (len - length rest - 1) (with_text text r rest) more
octets_begun text r len rest more lt =
    ap (λ (n : ℕ). bytes_at n (rest ++ more) >>= text_then text r) (omega arith)
    ∙ ap (λ (z : Read (List ℕ)). z >>= text_then text r) (bytes_behind rest more (len - length rest - 1 + 1))
    ∙ more_octets text r rest (bytes_at (len - length rest - 1 + 1) more)

-- the last bytes of a field, after those that it has
pub text_whole : (text : Text) (more : ℕ) (r : TsRequest) (octets rest : List ℕ) → length octets ≡ more + 1
    → text_from text more r (octets ++ rest) ≡ text_then text r (text_of text r ++ octets, rest)
text_whole text more r octets rest e =
    ap (λ (n : ℕ). bytes_at n (octets ++ rest) >>= text_more text r) (omega (arith, e))
    ∙ ap (λ (z : Read (List ℕ)). z >>= text_more text r)
    (bytes_behind octets rest 0 ∙ ap (λ (z : Read (List ℕ)). z >>= put_before octets) (none_left rest) ∙ ap
    (λ (l : List ℕ). read_of l rest) (append-nil octets))

tail_behind : (text : Text) (r : TsRequest) (octets : List ℕ) (z : Read (List ℕ))
    → ((z >>= put_before octets) >>= text_more text r) ≡ (z >>= text_more text (with_text text r (text_of text r ++ octets)))
tail_behind NegoTokens r octets (Ok x) = ap (λ (l : List ℕ). text_then NegoTokens r (l, x.1))
    (sym (append_assoc (text_of NegoTokens r) octets x.0))
tail_behind AuthInfo r octets (Ok x) = ap (λ (l : List ℕ). text_then AuthInfo r (l, x.1))
    (sym (append_assoc (text_of AuthInfo r) octets x.0))
tail_behind PubKeyAuth r octets (Ok x) = ap (λ (l : List ℕ). text_then PubKeyAuth r (l, x.1))
    (sym (append_assoc (text_of PubKeyAuth r) octets x.0))
tail_behind text r octets (Err fault) = refl

pub text_part : (text : Text) (more : ℕ) (r : TsRequest) (octets rest : List ℕ) → length octets ≤ more
    → text_from text more r (octets ++ rest) ≡ text_from text (more - length octets) (with_text text r (text_of text r ++ octets)) rest
text_part text more r octets rest le =
    ap (λ (n : ℕ). bytes_at n (octets ++ rest) >>= text_more text r) (omega (arith, le))
    ∙ ap (λ (z : Read (List ℕ)). z >>= text_more text r) (bytes_behind octets rest (more - length octets + 1))
    ∙ tail_behind text r octets (bytes_at (more - length octets + 1) rest)

-- ---- one byte of a field

pub octet_more : (text : Text) (more : ℕ) (r : TsRequest) (byte : ℕ) (rest : List ℕ) → text_from text more r (byte ∷ rest) ≡
    text_left text more (with_text text r (text_of text r ++ byte ∷ [])) rest
octet_more text more r byte rest =
    ap (λ (z : Read (List ℕ)). z >>= text_more text r) (byte_behind byte rest more) ∙ tail_behind text r (byte ∷ [])
    (bytes_at more rest)

text_put : (text : Text) (r : TsRequest) (octets : List ℕ) → text_of text (with_text text r octets) ≡ octets
text_put NegoTokens r octets = refl
text_put AuthInfo r octets = refl
text_put PubKeyAuth r octets = refl

pub put_again : (text : Text) (r : TsRequest) (octets : List ℕ) → with_text text (with_text text r octets) octets ≡ with_text text r octets
put_again NegoTokens r octets = refl
put_again AuthInfo r octets = refl
put_again PubKeyAuth r octets = refl

-- a field has all its bytes
pub text_over : (text : Text) (more : ℕ) (r : TsRequest) (octets rest : List ℕ) → more ≤ 0
    → text_left text more (with_text text r octets) rest ≡ text_then text (with_text text r octets) (octets, rest)
text_over text more r octets rest none =
    let now = with_text text r octets in
    ap (λ (n : ℕ). bytes_at n rest >>= text_more text now) (omega (arith, none))
    ∙ ap (λ (z : Read (List ℕ)). z >>= text_more text now) (none_left rest)
    ∙ ap (λ (l : List ℕ). text_then text now (l, rest)) (append-nil (text_of text now) ∙ text_put text r octets)

begun_with : (text : Text) (r : TsRequest) (z : Read (List ℕ)) → (z >>= text_then text r) ≡ (z >>= text_more text (with_text text r []))
begun_with NegoTokens r (Ok x) = refl
begun_with AuthInfo r (Ok x) = refl
begun_with PubKeyAuth r (Ok x) = refl
begun_with text r (Err fault) = refl

-- a field begins
pub text_begun : (text : Text) (r : TsRequest) (len : ℕ) (rest : List ℕ) → (bytes_at len rest >>= text_then text r) ≡
    text_left text len (with_text text r []) rest
text_begun text r len rest = begun_with text r (bytes_at len rest)

-- ---- the nonce

pub nonce_ready : (nonce : List ℕ) (have : ℕ) (bytes : List ℕ) → have < 32 →
    nonce_rest nonce have bytes ≡ (bytes_at (32 - have) bytes >>= put_before (take have nonce))
nonce_ready nonce have bytes lt = rw (lt-ltb have 32 lt) refl

two_fronts : (first second : List ℕ) (z : Read (List ℕ)) → ((z >>= put_before second) >>= put_before first) ≡
    (z >>= put_before (first ++ second))
two_fronts first second (Ok x) = ap (λ (l : List ℕ). read_of l x.1) (sym (append_assoc first second x.0))
two_fronts first second (Err fault) = refl

-- one byte of a nonce
nonce_byte : (nonce : List ℕ) (have byte : ℕ) (more : List ℕ) → length nonce ≡ 32 → have < 32
    → nonce_rest nonce have (byte ∷ more) ≡ (bytes_at (31 - have) more >>= put_before (take (have + 1) (slice_set nonce have byte)))
nonce_byte nonce have byte more size lt =
    nonce_ready nonce have (byte ∷ more) lt
    ∙ ap (λ (n : ℕ). bytes_at n (byte ∷ more) >>= put_before (take have nonce)) (omega arith)
    ∙ ap (λ (z : Read (List ℕ)). z >>= put_before (take have nonce)) (byte_behind byte more (31 - have))
    ∙ two_fronts (take have nonce) (byte ∷ []) (bytes_at (31 - have) more)
    ∙ ap (λ (l : List ℕ). bytes_at (31 - have) more >>= put_before l) (sym (take_more_set nonce have byte (omega (arith, size, lt))))

pub nonce_more : (r : TsRequest) (nonce : List ℕ) (have byte : ℕ) (more : List ℕ) → length nonce ≡ 32 → have < 32 → (have ≡ 31 → ⊥)
    → nonce_from nonce have r (byte ∷ more) ≡ nonce_from (slice_set nonce have byte) (have + 1) r more
nonce_more r nonce have byte more size lt other =
    ap (λ (z : Read (List ℕ)). z >>= nonce_then r)
    (nonce_byte nonce have byte more size lt
    ∙ ap (λ (n : ℕ). bytes_at n more >>= put_before (take (have + 1) (slice_set nonce have byte))) (omega arith)
    ∙ sym (nonce_ready (slice_set nonce have byte) (have + 1) more (omega (arith, lt, other))))

pub nonce_end : (r : TsRequest) (nonce : List ℕ) (have byte : ℕ) (more : List ℕ) → length nonce ≡ 32 → have ≡ 31
    → nonce_from nonce have r (byte ∷ more) ≡ nonce_then r (slice_set nonce have byte, more)
nonce_end r nonce have byte more size last =
    ap (λ (z : Read (List ℕ)). z >>= nonce_then r)
    (nonce_byte nonce have byte more size (omega arith)
    ∙ ap (λ (n : ℕ). bytes_at n more >>= put_before (take (have + 1) (slice_set nonce have byte))) (omega arith)
    ∙ ap (λ (z : Read (List ℕ)). z >>= put_before (take (have + 1) (slice_set nonce have byte))) (none_left more)
    ∙ ap (λ (l : List ℕ). read_of l more) (append-nil (take (have + 1) (slice_set nonce have byte)))
    ∙ ap (λ (n : ℕ). read_of (take n (slice_set nonce have byte)) more) (omega (arith, size, last, length-set nonce have byte))
    ∙ ap (λ (l : List ℕ). read_of l more) (take-length (slice_set nonce have byte)))

nonce_at_once : (r : TsRequest) (nonce rest more : List ℕ) → 32 ≤ length rest → nonce ≡ take 32 rest
    → (bytes_at 32 (rest ++ more) >>= nonce_then r) ≡ nonce_then r (nonce, drop 32 rest ++ more)
nonce_at_once r nonce rest more le copied =
    ap (λ (z : Read (List ℕ)). z >>= nonce_then r)
    (bytes_there 32 (rest ++ more) (omega (arith, le, length-append rest more))
    ∙ ap (λ (l : List ℕ). read_of l (drop 32 (rest ++ more))) (take-append-le 32 rest more le ∙ sym copied)
    ∙ ap (λ (l : List ℕ). read_of nonce l) (drop-append-le 32 rest more le))

-- a nonce whose bytes are all there
pub nonce_there : (r : TsRequest) (nonce : List ℕ) (len : ℕ) (rest more : List ℕ) → len ≡ 32 → 32 ≤ length rest → nonce ≡ take 32 rest
    → ((if len == 32 then bytes_at len (rest ++ more) else Err Invalid) >>= nonce_then r) ≡ nonce_then r (nonce, drop 32 rest ++ more)
nonce_there r nonce len rest more e le copied =
    ap (λ (n : ℕ). (if n == 32 then bytes_at n (rest ++ more) else Err Invalid) >>= nonce_then r) e
    ∙ nonce_at_once r nonce rest more le copied

pub nonce_over : (r : TsRequest) (nonce : List ℕ) (have : ℕ) (bytes : List ℕ) → 32 ≤ have → nonce_from nonce have r bytes ≡ Err Invalid
nonce_over r nonce have bytes le = rw (le-ltb have 32 le) refl

nonce_map : (r : TsRequest) (z : Read (List ℕ)) → (z >>= nonce_then r) ≡ ((z >>= put_before []) >>= nonce_then r)
nonce_map r (Ok x) = refl
nonce_map r (Err fault) = refl

pub nonce_begun : (r : TsRequest) (nonce : List ℕ) (len : ℕ) (more : List ℕ) → len ≡ 32 →
    (bytes_at len more >>= nonce_then r) ≡ nonce_from nonce 0 r more
nonce_begun r nonce len more e = rw e (nonce_map r (bytes_at 32 more))
