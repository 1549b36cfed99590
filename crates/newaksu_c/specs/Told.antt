-- What is given, in the form in which the functions of the library return it.
use Rattle.std.specs.Global.{Vec}
use Rattle.std.specs.Prelude.{ℕ, List, Result}
use Rattle.std.specs.Prelude.{Ok, Err}
use Rattle.std.specs.Borrow.{Bor}

-- a refusal, or bytes that are borrowed
abbrev pub told : Result (Bor (List ℕ)) ℕ → Result (List ℕ) ℕ
told (Ok bytes) = Ok bytes.now
told (Err status) = Err status

abbrev pub told_list : Result (Bor (List (List ℕ))) ℕ → Result (List (List ℕ)) ℕ
told_list (Ok list) = Ok list.now
told_list (Err status) = Err status

abbrev pub items_of : Result (Vec ℕ) ℕ → Result (List ℕ) ℕ
items_of (Ok bytes) = Ok bytes.items
items_of (Err status) = Err status

-- bytes in memory that was filled, or why it was not
abbrev pub filled : List ℕ → Result (Unit {0}) ℕ → Result (List ℕ) ℕ
filled bytes (Ok done) = Ok bytes
filled bytes (Err status) = Err status
