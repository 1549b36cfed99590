use Rattle.std.proofs.Common.{Ok, sym, ap, ◌∙◌, subst, arith}
use Rattle.std.specs.List.{All}
use Rattle.std.specs.Char.Utf16.{has_unpaired_surrogate}
use Rattle.std.proofs.lemmas.Result.{err_from_is_err_and}
use Rattle.sspi_names.specs.Utf16.{units_le}
use Rattle.sspi_names.proofs.CodeUnits.{IsSmall, odd_refused, even_decoded, even_refused}
use Rattle.sspi_names.proofs.CodeUnits.{units_le-small, IsUtf16-from_paired}
use Rattle.sspi_names.proofs.utf16.Utf16Text.from_bytes_le.Goals as goal

pub returns-then-bytes-ne0 : goal.returns-then-bytes-ne0
returns-then-bytes-ne0 c = odd_refused c.args.bytes.now c.if-bytes-ne0.true

pub returns-then-not-is_well_formed : goal.returns-then-not-is_well_formed
returns-then-not-is_well_formed c = even_refused c.args.bytes.now (omega arith) c.if-not-is_well_formed.ensures

pub returns-in_err-units_from_le : goal.returns-in_err-units_from_le
returns-in_err-units_from_le c =
    let p = err_from_is_err_and c.from_residual.result c.from_residual.ensures.1 in
    rw (p.1, p.2) (units_le c.args.bytes.now, even_decoded c.args.bytes.now (omega arith) c.if-not-is_well_formed.ensures)

pub invariant_of-result : goal.invariant_of-result
invariant_of-result c =
    IsUtf16-from_paired c.in_ok-units_from_le.field-0.items
    (subst (All IsSmall) (sym c.in_ok-units_from_le.ensures) (units_le-small c.args.bytes.now (λ i. omega (arith, c.type_inv.bytes i))))
    (ap has_unpaired_surrogate c.in_ok-units_from_le.ensures ∙ c.if-not-is_well_formed.ensures)

pub returns : goal.returns
returns c =
    even_decoded c.args.bytes.now (omega arith) c.if-not-is_well_formed.ensures ∙ ap Ok (sym c.in_ok-units_from_le.ensures)
