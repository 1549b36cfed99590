-- Which edits of an entry fail its carry, and which give it a text of their own, whatever it was
-- before.
use Rattle.std.specs.Prelude.{ℕ, ◌==◌, ◌&&◌, List, Bool, true, false}
use Rattle.std.specs.List.{list_any}
use Rattle.sspi_delegate.specs.declared.edit.Edit.{Edit}
use Rattle.sspi_delegate.specs.declared.edit.EditKind.{EditKind}
use Rattle.sspi_delegate.specs.declared.edit.EditKind.TheVariants.{Drop, Cut, Set, Add, Give, Again}
use Rattle.sspi_delegate.specs.declared.edit.EditKind.TheVariants.{Fail}

abbrev pub is_fail : EditKind → Bool
is_fail Drop = false
is_fail (Cut count) = false
is_fail (Set place byte) = false
is_fail (Add more) = false
is_fail (Give bytes) = false
is_fail (Again entry) = false
is_fail Fail = true

abbrev pub is_whole : EditKind → Bool
is_whole Drop = true
is_whole (Cut count) = false
is_whole (Set place byte) = false
is_whole (Add more) = false
is_whole (Give bytes) = true
is_whole (Again entry) = true
is_whole Fail = false

abbrev pub is_failing : ℕ → Edit → Bool
is_failing entry edit = edit.entry == entry && is_fail edit.kind

abbrev pub gives_whole : ℕ → Edit → Bool
gives_whole entry edit = edit.entry == entry && is_whole edit.kind

abbrev pub fails : ℕ → List Edit → Bool
fails entry edits = list_any (λ edit. is_failing entry edit) edits
