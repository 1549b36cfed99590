-- Takes apart what a handle owns. Assumes `Logic`.
use Rattle.std.proofs.Common.{◌≡◌, ℕ, List, ◌∷◌, refl}
use seplogic.Ra.Ura.{Ura}
use mir.Raw.{raw as bare}
use base.Logic.{guard, guard_i, ent, via, snd∗}
use base.Fraction.{full_share}
use types.Logic.{Logic, sem}
use types.Kit.{Item, Goal, Seq, ‵, given, ◌$◌, move, drop, fsplit, fpick, learn, use1}
use contract.Monad.{fact_use}
use denote.RattleType.{RattleType}
use denote.Memory.{lone}
use denote.RawPtr.{Ptr, block_ptr, null_ptr, lies_at, Testable}
use Rattle.std.specs.declared.alloc.Global.{Global}
use Rattle.std.specs.contracts.impls.GlobalAllocator.TheImpl.{ghosts}
use Rattle.std.proofs.GlobalToken.{dealloc_token-Testable}
use Rattle.std.specs.declared.option.Option.{Option}
use Rattle.std.specs.declared.option.Option.TheVariants.{None, Some}
use Rattle.std_alloc.specs.Box.Ownership.{box_owns}
use Rattle.newaksu_c.specs.declared.object.Object.{Object}
use Rattle.newaksu_c.specs.contracts.object.Object.{the_row}
use Rattle.newaksu_c.specs.Owned.{owned}

module _ {M : Type 1} {𝓤 : Ura M} (𝓛 : Logic 𝓤) (a : Global) where
  tested : (p : Ptr) (x : Object) → ent 𝓤 (sem 𝓛 (box_owns (ghosts.dealloc_token a) the_row p x))
      (guard 𝓤 (Testable p) (sem 𝓛 (box_owns (ghosts.dealloc_token a) the_row p x)))
  tested p x = let B = sem 𝓛 (box_owns (ghosts.dealloc_token a) the_row p x) in
      fact_use 𝓤 (Testable p) (via 𝓤 _ (snd∗ 𝓤 (sem 𝓛 (lies_at the_row full_share p x)) (sem 𝓛 (ghosts.dealloc_token a (bare (lone the_row.mir)) p)))
      (dealloc_token-Testable 𝓛 a (bare (lone the_row.mir)) p)) (guard_i 𝓤 (Testable p) B)

module _ (a : Global) {M : Type 1} {𝓤 : Ura M} {𝓛 : Logic 𝓤} {K : Type 0} {Γ : List (Item 𝓤)} {G : Goal 𝓤 𝓛.H} where
  pub either_owned : K → (p : Ptr) (held : Option Object) → (p ≡ null_ptr → held ≡ None → Seq K 𝓛 Γ G)
      → ((b o : ℕ) (x : Object) → p ≡ block_ptr b o → held ≡ Some x → Testable (block_ptr b o) →
      Seq K 𝓛 (‵ (box_owns (ghosts.dealloc_token a) the_row (block_ptr b o) x) ∷ Γ) G)
      → Seq K 𝓛 (‵ (owned a p held) ∷ Γ) G
  either_owned t null_ptr held none one = fpick t (λ e. drop t $ none refl e)
  either_owned t (block_ptr b o) held none one = fpick t (λ x. fsplit t $ fpick t (λ e. drop t $
      use1 𝓛 (given (Testable (block_ptr b o)) (‵ (box_owns (ghosts.dealloc_token a) the_row (block_ptr b o) x))) (tested 𝓛 a (block_ptr b o) x) $
      learn t (λ u. one b o x refl e u)))
