-- What is known of an end after one more of its turns.
use Rattle.std.proofs.Common.{◌≡◌, ℕ, List, [], ◌∷◌, Option, None, Some, true}
use Rattle.std.proofs.Common.{sym, ◌∙◌, ap, subst, refl, arith}
use Rattle.std.proofs.lemmas.Bool.{le-ltb}
use Rattle.sspi_credssp.specs.declared.state.CredSspState.{CredSspState}
use Rattle.sspi_credssp.specs.declared.turn.Turn.{Turn}
use Rattle.sspi_credssp.specs.Noted.{noted_with}
use Rattle.sspi_credssp.specs.Turn.{ShownFrame}
use Rattle.sspi_delegate.specs.Turns.{client_state, client_noted, has_turn, server_state, server_noted}
use Rattle.sspi_audit.specs.Frames.{client_before, client_frame, own_version, server_before, server_frame, server_note, told_by}
use Rattle.sspi_audit.specs.Standings.{client_note}

-- if the least version is 0, every version is pinned
any_noted : (version : ℕ) → noted_with 0 None version ≡ Some version
any_noted version = rw (le-ltb version 0 (omega arith)) refl

client_has_noted : (t u : Turn) (past : List Turn) → (noted : ℕ) × (client_noted 0 (t ∷ u ∷ past) ≡ Some noted)
client_has_noted t u [] = (t.delivered.version, any_noted t.delivered.version)
client_has_noted t u (v ∷ past) = client_has_noted u v past

pub client_notes : (t : Turn) (past : List Turn) →
    client_noted 0 (t ∷ past) ≡ client_note (has_turn past) (client_noted 0 past) t.delivered.version
client_notes t [] = refl
client_notes t (u ∷ []) = any_noted t.delivered.version
client_notes t (u ∷ v ∷ past) =
    let has = client_has_noted u v past in
    has.1 ∙ ap (λ (noted : Option ℕ). client_note true noted t.delivered.version) (sym has.1)

server_has_noted : (t : Turn) (past : List Turn) → (noted : ℕ) × (server_noted 0 (t ∷ past) ≡ Some noted)
server_has_noted t [] = (t.delivered.version, any_noted t.delivered.version)
server_has_noted t (u ∷ past) = server_has_noted u past

pub server_notes : (t : Turn) (past : List Turn) → server_noted 0 (t ∷ past) ≡ server_note (server_noted 0 past) t.delivered.version
server_notes t [] = any_noted t.delivered.version
server_notes t (u ∷ past) =
    let has = server_has_noted u past in has.1 ∙ ap (λ (noted : Option ℕ). server_note noted t.delivered.version) (sym has.1)

-- what a turn finds of its end, and what it leaves
pub client_finds : (before : ShownFrame) (t : Turn) (past : List Turn) → before ≡ client_before past →
    record {
      state = before.state;
      looks = before.looks;
      noted = client_note before.looks before.noted t.delivered.version;
      version = before.version;
    } ≡ client_frame past t
client_finds before t past is =
    subst (λ (b : ShownFrame). record {
      state = b.state;
      looks = b.looks;
      noted = client_note b.looks b.noted t.delivered.version;
      version = b.version;
    } ≡ client_frame past t) (sym is) (ap (λ (noted : Option ℕ). record {
      state = client_state past;
      looks = has_turn past;
      noted = noted;
      version = own_version past;
    }) (sym (client_notes t past)))

pub server_finds : (before : ShownFrame) (t : Turn) (past : List Turn) → before ≡ server_before past →
    record { state = before.state; looks = true; noted = server_note before.noted t.delivered.version; version = before.version }
    ≡ server_frame past t
server_finds before t past is =
    subst (λ (b : ShownFrame). record {
      state = b.state;
      looks = true;
      noted = server_note b.noted t.delivered.version;
      version = b.version;
    } ≡ server_frame past t) (sym is) (ap (λ (noted : Option ℕ). record {
      state = server_state past;
      looks = true;
      noted = noted;
      version = own_version past;
    }) (sym (server_notes t past)))

pub client_leaves : (before : ShownFrame) (state : CredSspState) (t : Turn) (past : List Turn) → before ≡ client_before past →
    state ≡ client_state (t ∷ past) →
    record {
      state = state;
      looks = true;
      noted = client_note before.looks before.noted t.delivered.version;
      version = told_by before.version t.outcome;
    } ≡ client_before (t ∷ past)
client_leaves before state t past is now =
    subst (λ (b : ShownFrame). record {
      state = state;
      looks = true;
      noted = client_note b.looks b.noted t.delivered.version;
      version = told_by b.version t.outcome;
    } ≡ client_before (t ∷ past)) (sym is) (rw (now, client_notes t past) refl)

pub server_leaves : (before : ShownFrame) (state : CredSspState) (t : Turn) (past : List Turn) → before ≡ server_before past →
    state ≡ server_state (t ∷ past) →
    record {
      state = state;
      looks = true;
      noted = server_note before.noted t.delivered.version;
      version = told_by before.version t.outcome;
    } ≡ server_before (t ∷ past)
server_leaves before state t past is now =
    subst (λ (b : ShownFrame). record {
      state = state;
      looks = true;
      noted = server_note b.noted t.delivered.version;
      version = told_by b.version t.outcome;
    } ≡ server_before (t ∷ past)) (sym is) (rw (now, server_notes t past) refl)
