-- A tag has 16 bytes.
use Rattle.std.specs.Prelude.{◌≡◌, ℕ, ◌≤◌, List, [], ◌∷◌, ◌++◌, length, Option, None, Some}
use Rattle.std.specs.Int.{w64, to_le_bytes}
use Rattle.std.proofs.Common.{arith, sym, length-append}
use Rattle.std.proofs.lemmas.List.{length-take-le}
use Rattle.sha2.proofs.Facts256.{length-sha256}
use Rattle.sspi_mech.specs.declared.protection.Direction.{Direction}
use Rattle.sspi_mech.specs.Protection.{direction_byte, tag_of, seal_label, seal_tag, SealsBy}
use Rattle.sspi_mech.specs.Protection.{OpensBy}

length-tag_of : (label key : List ℕ) (direction : Direction) (n : ℕ) (text : List ℕ) →
    length (tag_of label key direction n text) ≡ 16
length-tag_of label key direction n text =
    let whole = length-sha256 (label ++ key ++ (direction_byte direction ∷ []) ++
    to_le_bytes w64 n ++ text) in
    length-take-le 16 _ (omega (arith, whole))

pub length-seal_tag : (key : List ℕ) (direction : Direction) (n : ℕ) (text : List ℕ) →
    length (seal_tag key direction n text) ≡ 16
unfolding seal_tag
length-seal_tag key direction n text = length-tag_of seal_label key direction n text

pub one_text : (key : Option (List ℕ)) (direction : Direction) (n : ℕ) (blob text other : List ℕ) →
    OpensBy key direction n blob text → OpensBy key direction n blob other → text ≡ other
one_text None direction n blob text other opened again = absurd opened
one_text (Some key) direction n blob text other opened again = rw opened.2 (sym again.2)

pub long_blob : (key : Option (List ℕ)) (direction : Direction) (n : ℕ) (text blob : List ℕ) →
    SealsBy key direction n text blob →
    16 ≤ length blob
long_blob None direction n text blob sealed = absurd sealed
long_blob (Some key) direction n text blob sealed =
    rw sealed (omega (
      arith,
      length-append (seal_tag key direction n text) text,
      length-seal_tag key direction n text,
    ))
