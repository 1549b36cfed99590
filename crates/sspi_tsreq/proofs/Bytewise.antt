-- One byte of a content.
use Rattle.std.proofs.Common.{◌≡◌, ℕ, ◌-◌, ◌<◌, ◌≤◌, List, [], ◌∷◌, ◌++◌, length, sym, ap, ◌∙◌, subst, arith}
use Rattle.sspi_tsreq.specs.declared.place.Place.{Place}
use Rattle.sspi_tsreq.specs.declared.place.Place.TheVariants.{InText}
use Rattle.sspi_tsreq.specs.declared.place.Stage.TheVariants.{Content}
use Rattle.sspi_tsreq.specs.declared.place.Text.{Text}
use Rattle.sspi_tsreq.specs.declared.reader.TsReader.{TsReader}
use Rattle.sspi_tsreq.specs.declared.request.TsRequest.{TsRequest}
use Rattle.sspi_tsreq.specs.Feeding.{Stands}
use Rattle.sspi_tsreq.specs.Walks.{WentOn, with_text}
use Rattle.sspi_tsreq.specs.Places.{answered, rest_at, text_from, text_left, text_of}
use Rattle.sspi_tsreq.specs.Quiet.{IsWithout, Opened}
use Rattle.sspi_tsreq.proofs.Feeding.{inside, inside_on, without_parts}
use Rattle.sspi_tsreq.proofs.Walks.{octet_more, text_part}

-- octets of a field, with more after them
pub text_went : (nonce : List ℕ) (left more : ℕ) (octets : List ℕ) (place : Place) (text : Text) (r : TsRequest) (reader : TsReader)
    → length octets ≤ more → place ≡ InText text more → reader.stage ≡ Content left (InText text (more - length octets))
    → reader.request ≡ with_text text r (text_of text r ++ octets) → WentOn nonce place r octets left reader
text_went nonce left more octets place text r reader some is stage-is request-is = record {
  now = InText text (more - length octets);
  stage = stage-is;
  goes = λ rest.
      ap (λ (p : Place). answered (rest_at nonce p r (octets ++ rest))) is
      ∙ ap answered (text_part text more r octets rest some)
      ∙ ap (λ (q : TsRequest). answered (text_from text (more - length octets) q rest)) (sym request-is);
  quiet = λ closed without opened. closed (subst (λ (p : Place). Opened p) (sym is) tt);
}

-- one byte, which leads from a place over a request to another
pub byte_went : (nonce : List ℕ) (left byte : ℕ) (place now : Place) (r : TsRequest) (reader : TsReader) → reader.stage ≡ Content left now
    → ((more : List ℕ) → answered (rest_at nonce place r (byte ∷ more)) ≡ answered (rest_at reader.nonce now reader.request more))
    → ((Opened place → ⊥) → (byte ≡ 0x04 → ⊥) → Opened now → ⊥) → WentOn nonce place r (byte ∷ []) left reader
byte_went nonce left byte place now r reader stage-is goes quiet = record {
  now = now;
  stage = stage-is;
  goes = goes;
  quiet = λ closed without. quiet closed without.0;
}

-- a byte of a field
pub octet_went : (nonce : List ℕ) (left more byte : ℕ) (place now : Place) (text : Text) (r : TsRequest) (reader : TsReader)
    → ((nonce rest octets : List ℕ) (r : TsRequest) → text_left text more (with_text text r octets) rest ≡
    rest_at nonce now (with_text text r octets) rest)
    → place ≡ InText text more → reader.stage ≡ Content left now → reader.request ≡ with_text text r (text_of text r ++ byte ∷ [])
    → WentOn nonce place r (byte ∷ []) left reader
octet_went nonce left more byte place now text r reader goes is stage-is request-is =
    byte_went nonce left byte place now r reader stage-is
    (λ rest.
    ap (λ (p : Place). answered (rest_at nonce p r (byte ∷ rest))) is
    ∙ ap answered (octet_more text more r byte rest ∙ goes reader.nonce rest (text_of text r ++ byte ∷ []) r)
    ∙ ap (λ (q : TsRequest). answered (rest_at reader.nonce now q rest)) (sym request-is))
    (λ closed other opened. closed (subst (λ (p : Place). Opened p) (sym is) tt))

pub byte_stands : (before after : TsReader) (left : ℕ) (place : Place) (bytes : List ℕ) (byte : ℕ) → before.stage ≡ Content left place
    → 0 < left → Stands before bytes → WentOn before.nonce place before.request (byte ∷ []) (left - 1) after
    → Stands after (bytes ++ byte ∷ [])
byte_stands before after left place bytes byte e some s w =
    inside_on before.nonce left 1 place before.request bytes (byte ∷ []) after (inside before left place bytes e s) (omega (arith, some)) w

-- no byte was the tag of an OCTET STRING
pub byte_closed : (reader : TsReader) (left : ℕ) (place : Place) (bytes : List ℕ) (byte : ℕ) → reader.stage ≡ Content left place
    → Stands reader bytes → IsWithout 0x04 (bytes ++ byte ∷ []) → (Opened place → ⊥) × (byte ≡ 0x04 → ⊥)
byte_closed reader left place bytes byte e s without =
    let parts = without_parts 0x04 bytes (byte ∷ []) without in
    ((inside reader left place bytes e s).quiet parts.0, parts.1.0)
