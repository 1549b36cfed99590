use Rattle.sspi_names.proofs.CodeUnits.{units_of-IsUtf16, text_of-units_of, text_of-IsUtf8, units_of-text_of}
use Rattle.sspi_names.proofs.laws.texts_and_code_units.Goals as goal

pub returns : goal.returns
returns c = record {
  units = λ text utf8. (units_of-IsUtf16 text utf8, text_of-units_of text utf8);
  text = λ units h. (text_of-IsUtf8 units h, units_of-text_of units h);
}
