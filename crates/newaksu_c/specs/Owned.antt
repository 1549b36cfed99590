-- What a handle owns.
use Rattle.std.specs.Prelude.{◌≡◌, ℕ}
use base.Fml.{Fml, fsep, fex, ftrue}
use denote.RawPtr.{Ptr, block_ptr, null_ptr}
use Rattle.std.specs.Coded.{Coded, coded_option}
use Rattle.std.specs.declared.option.Option.{Option}
use Rattle.std.specs.declared.option.Option.TheVariants.{None, Some}
use Rattle.std.specs.declared.alloc.Global.{Global}
use Rattle.std.specs.contracts.impls.GlobalAllocator.TheImpl.{ghosts}
use Rattle.std_alloc.specs.Box.Ownership.{box_owns}
use Rattle.newaksu_c.specs.declared.object.Object.{Object}
use Rattle.newaksu_c.specs.contracts.object.Object.{the_row}

abbrev pub coded_held : Coded (Option Object)
coded_held = coded_option the_row.coded

-- null if there is nothing, else the box of the object
abbrev pub owned : Global → Ptr → Option Object → Fml
owned a null_ptr held = fex (held ≡ None) (λ _. ftrue)
owned a (block_ptr b o) held = fex Object (λ t. fsep (fex (held ≡ Some t) (λ _. ftrue))
    (box_owns (ghosts.dealloc_token a) the_row (block_ptr b o) t))
