use Rattle.std.proofs.Common.{◌∙◌, ℕ, List, Some, sym, ap, refl}
use Rattle.sspi_types.specs.declared.buffer_type.BufferType.TheVariants.{Data, Token}
use Rattle.sspi_mech.specs.Calls.{ToSign}
use Rattle.sspi_messages.proofs.Asked.{token_data, on_err, both_found, asked_of}
use Rattle.sspi_messages.proofs.Left.{holding, none_left, first_left}
use Rattle.sspi_messages.proofs.message.make_signature.Goals as goal

pub returns-in_err-mic-clause-buffers : goal.returns-in_err-mic-clause-buffers
returns-in_err-mic-clause-buffers g c =
    let a = c.in-Some.token.now in
    let b = c.in-Some.data.now in
    let both = both_found _ _ a b c.in-Some.ensures.pair in
    on_err _ _ (none_left Token Data token_data c.args.message.now a b both.0 both.1 _ _ refl refl)

pub returns-clause-signed : goal.returns-clause-signed
returns-clause-signed g c =
    let xs = c.args.message.now in
    let a = c.in-Some.token.now in
    let b = c.in-Some.data.now in
    let both = both_found _ _ a b c.in-Some.ensures.pair in
    record {
      text = c.as_slice.result.now;
      mic = c.in_ok-mic.mic.items;
      asked = asked_of xs a b both.1 (λ (p : List ℕ × List ℕ). ToSign p.1) both.0 ∙ ap (λ (t : List ℕ). Some (ToSign t))
          (sym c.as_slice.ensures);
      signed = c.in_ok-mic.ensures.mic;
      permitted = c.in_ok-mic.ensures.permitted;
      context = c.in_ok-mic.ensures.ok;
      count = c.in_ok-mic.ensures.count;
      buffers = first_left Token Data token_data xs a b both.0 both.1 _ _ c.in_ok-mic.mic.items (ap (holding a) c.from_vec.ensures) refl;
    }
