use Rattle.std.proofs.Common.{◌≡◌, ◌<◌, length, get_or, sym, ◌∙◌, arith}
use Rattle.std.proofs.lemmas.Bool.{eqb-true, eqb-false}
use Rattle.sspi_scenario.proofs.Numerals.{empty-number, plus-number, zero-number, number-parsed}
use Rattle.sspi_scenario.proofs.number.number.Goals as goal
use Rattle.sspi_scenario.proofs.number.number.Goals.{then-is_empty-via-then-is_empty, then-is_empty-via-else-is_empty+then-digits-eq43}
use Rattle.sspi_scenario.proofs.number.number.Goals.{else-digits-gt1-via-then-digits-gt1+else-digits-eq48}
use Rattle.sspi_scenario.proofs.number.number.Goals.{else-digits-gt1-via-else-digits-gt1}

pub returns-then-is_empty : goal.returns-then-is_empty
returns-then-is_empty c =
    let same = c.as_bytes-digits.ensures.value in
    elim c.then-is_empty.branch [
      | then-is_empty-via-then-is_empty w ↦
          empty-number c.args.text.now (rw same at (eqb-true (length c.as_bytes-digits.result.now) 0
          (sym c.is_empty.ensures ∙ w.if-is_empty.true)))
      | then-is_empty-via-else-is_empty+then-digits-eq43 w ↦
          let some = eqb-false (length c.as_bytes-digits.result.now) 0 (sym c.is_empty.ensures ∙ w.if-is_empty.false) in
          let more : 0 < length c.as_bytes-digits.result.now = omega (arith, some) in
          plus-number c.args.text.now (rw same at more) (rw same at w.if-digits-eq43.true)
    ]

pub returns-then-digits-eq48 : goal.returns-then-digits-eq48
returns-then-digits-eq48 c =
    let same = c.as_bytes-digits.ensures.value in
    zero-number c.args.text.now (rw same at c.if-digits-gt1.true) (rw same at c.if-digits-eq48.true)

pub returns : goal.returns
returns c =
    let same = c.as_bytes-digits.ensures.value in
    let some = eqb-false (length c.as_bytes-digits.result.now) 0 (sym c.is_empty.ensures ∙ c.if-is_empty.false) in
    let more : 0 < length c.as_bytes-digits.result.now = omega (arith, some) in
    let unpadded : 1 < length c.as_bytes-digits.result.now → get_or c.as_bytes-digits.result.now 0 0 ≡ 48 → ⊥ =
    λ long zero. elim c.else-digits-gt1.branch [
      | else-digits-gt1-via-then-digits-gt1+else-digits-eq48 w ↦ w.if-digits-eq48.false zero
      | else-digits-gt1-via-else-digits-gt1 w ↦ let short = w.if-digits-gt1.false in omega (arith, short)
    ] in
    c.ok.ensures.value
    ∙ number-parsed c.args.text.now c.parse.result c.parse.ensures.value.0 (rw same at c.if-digits-eq43.false) (rw same at more)
    (rw same at unpadded)
