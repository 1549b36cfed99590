-- The turns of a server give at most one identity.
use Rattle.std.proofs.Common.{◌≡◌, List, [], ◌∷◌}
use Rattle.sspi_names.specs.declared.identity.AuthIdentity.{AuthIdentity}
use Rattle.sspi_mech.specs.Context.{IsContext}
use Rattle.sspi_mech.specs.Meaning.{Meaning}
use Rattle.sspi_credssp.specs.declared.turn.Turn.{Turn}
use Rattle.sspi_credssp.specs.Context.{ContextSetting}
use Rattle.sspi_credssp.proofs.OneText.{one_held}
use Rattle.sspi_delegate.specs.Turns.{GivesNewest, ServerEnd}

pub one_given : {C : Type 0} (c : Meaning ContextSetting C) → IsContext c → (e : ServerEnd C) (past : List Turn)
    (identity other : AuthIdentity) → GivesNewest c e past identity → GivesNewest c e past other → identity ≡ other
one_given c laws e [] identity other gives again = absurd gives
one_given c laws e (t ∷ past) identity other gives again = one_held c laws e.context t.delivered.auth_info identity other gives again
