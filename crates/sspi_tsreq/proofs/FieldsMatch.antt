-- Each reader of a field agrees with its form.
use Rattle.std.proofs.Common.{◌≡◌, ℕ, ◌%◌, ◌^◌, Bool, true, false, cond, eqb, List, ◌∷◌, ◌++◌, length, None, Err, refl, sym, ap, ◌∙◌, subst}
use Rattle.std.proofs.lemmas.Bool.{eqb-true, eq-eqb}
use Rattle.sspi_types.specs.declared.nstatus.NStatusCode.{NStatusCode}
use Rattle.sspi_ber.specs.Pieces.{Invalid, Read, bytes_at, header_at, integer_at, field_at, tagged_at}
use Rattle.sspi_ber.specs.Forms.{IsLength, IsHeader, IsInteger, IsWrapped}
use Rattle.sspi_ber.proofs.Match.{Matches, Matches-then, Matches-map, Matches-if, Matches-nothing, Matches-same, Then, Mapped}
use Rattle.sspi_ber.proofs.PiecesMatch.{bytes_match, header_match, element_match, integer_match, tagged_match, field_match}
use Rattle.sspi_tsreq.specs.Grammar.{IsLow, IsOctets, IsToken, IsCode, IsNonce, IsLookedFor}
use Rattle.sspi_tsreq.specs.Reading.{low_at, version_at, octets_at, token_at, code_at, nonce_at, looked_at}

-- a form that does not look at what follows
abbrev pub Bare : {A : Type 0} → (List ℕ → A → Type 0) → List ℕ → A → List ℕ → Type 0
Bare Form text x rest = Form text x

abbrev low_of : ℕ → ℕ
low_of w = w % 2 ^ 32

low_to : (text : List ℕ) (value : ℕ) (rest : List ℕ) → Mapped low_of (Bare IsInteger) text value rest → IsLow text value
low_to text value rest t = record { whole = t.0; integer = t.1; low = t.2 }

low_from : (text : List ℕ) (value : ℕ) (rest : List ℕ) → IsLow text value → Mapped low_of (Bare IsInteger) text value rest
low_from text value rest t = (t.whole, t.integer, t.low)

pub low_match : Matches low_at (Bare IsLow)
unfolding low_at
low_match = Matches-same low_at (Mapped low_of (Bare IsInteger)) (Bare IsLow) low_to low_from
    (Matches-map low_of integer_at (Bare IsInteger) integer_match)

pub version_match : Matches version_at (Bare (IsWrapped 0xA0 IsLow))
version_match = tagged_match 0xA0 low_at IsLow low_match

pub octets_match : Matches octets_at (Bare IsOctets)
octets_match = element_match 0x04

pub token_match : Matches token_at (Bare IsToken)
token_match =
    tagged_match 0x30 (tagged_at 0x30 (tagged_at 0xA0 octets_at)) (IsWrapped 0x30 (IsWrapped 0xA0 IsOctets))
    (tagged_match 0x30 (tagged_at 0xA0 octets_at) (IsWrapped 0xA0 IsOctets) (tagged_match 0xA0 octets_at IsOctets octets_match))

abbrev code_of : ℕ → NStatusCode
code_of low = record { 0 = low }

code_to : (text : List ℕ) (code : NStatusCode) (rest : List ℕ) → Mapped code_of (Bare IsLow) text code rest → IsCode text code
code_to text code rest t = subst (λ (n : ℕ). IsLow text n) (sym (ap (λ (c : NStatusCode). c.0) t.2)) t.1

code_from : (text : List ℕ) (code : NStatusCode) (rest : List ℕ) → IsCode text code → Mapped code_of (Bare IsLow) text code rest
code_from text code rest t = (code.0, t, refl)

pub code_match : Matches code_at (Bare IsCode)
unfolding code_at
code_match = Matches-same code_at (Mapped code_of (Bare IsLow)) (Bare IsCode) code_to code_from
    (Matches-map code_of low_at (Bare IsLow) low_match)

-- ---- the nonce

abbrev IsHead : List ℕ → ℕ → List ℕ → Type 0
IsHead text n rest = IsHeader 0x04 text n

abbrev IsBlock : ℕ → List ℕ → List ℕ → List ℕ → Type 0
IsBlock n text x rest = (eqb n 32 ≡ true) × ((text ≡ x) × (length x ≡ n))

abbrev block_at : ℕ → List ℕ → Read (List ℕ)
block_at n bytes = cond (eqb n 32) (bytes_at n bytes) (Err Invalid)

block_match : (n : ℕ) → Matches (block_at n) (IsBlock n)
block_match n = Matches-if (eqb n 32) Invalid (bytes_at n) (λ text x rest. (text ≡ x) × (length x ≡ n)) (bytes_match n)

nonce_to : (text nonce rest : List ℕ) → Then IsHead IsBlock text nonce rest → IsNonce text nonce
nonce_to text nonce rest t =
    let len = t.first_is.len in
    let block = t.second_is.1 in (
      record {
        len = len;
        spelled = t.parts ∙ ap (λ (l : List ℕ). l ++ t.second) t.first_is.spelled ∙ ap (λ (l : List ℕ). 0x04 ∷ (len ++ l)) block.0;
        measured = subst (λ (n : ℕ). IsLength len n) (sym block.1) t.first_is.measured;
      },
      block.1 ∙ eqb-true t.x 32 t.second_is.0,
    )

nonce_from : (text nonce rest : List ℕ) → IsNonce text nonce → Then IsHead IsBlock text nonce rest
nonce_from text nonce rest t = record {
  x = length nonce;
  first = 0x04 ∷ t.0.len;
  second = nonce;
  parts = t.0.spelled;
  first_is = record { len = t.0.len; spelled = refl; measured = t.0.measured };
  second_is = (eq-eqb (length nonce) 32 t.1, (refl, refl));
}

pub nonce_match : Matches nonce_at (Bare IsNonce)
unfolding nonce_at
nonce_match =
    Matches-same nonce_at (Then IsHead IsBlock) (Bare IsNonce) nonce_to nonce_from
    (Matches-then (header_at 0x04) block_at IsHead IsBlock (header_match 0x04) block_match)

-- ---- fields that only some versions look for

pub looked_match : {A : Type 0} (looked : Bool) (tag : ℕ) (inner : List ℕ → Read A) (Inner : List ℕ → A → Type 0) →
    Matches inner (Bare Inner)
    → Matches (looked_at looked (field_at tag inner)) (IsLookedFor looked tag Inner)
looked_match true tag inner Inner m = field_match tag inner Inner m
looked_match false tag inner Inner m = Matches-nothing None
