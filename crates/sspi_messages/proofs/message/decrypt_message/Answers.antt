use Rattle.std.proofs.Common.{◌≡◌, ◌∙◌, ℕ, List, ◌++◌, Some, None, sym, ap, refl}
use Rattle.sspi_types.specs.declared.buffer_type.BufferType.TheVariants.{Data, Token, Stream}
use Rattle.sspi_messages.specs.Buffers.{first_unflagged, pair_of}
use Rattle.sspi_messages.proofs.Asked.{token_data, stream_data, on_err, both_found, first_is_lacking, stream_taken, parts_taken}
use Rattle.sspi_messages.proofs.Left.{holding, none_left, second_left}
use Rattle.sspi_messages.proofs.message.decrypt_message.Goals as goal

pub returns-in_err-text-clause-buffers : goal.returns-in_err-text-clause-buffers
returns-in_err-text-clause-buffers g c =
    let both = both_found _ _ c.in-Some.stream.now c.in-Some.data.now c.in-Some.ensures.pair in
    on_err _ _ (none_left Stream Data stream_data c.args.message.now c.in-Some.stream.now c.in-Some.data.now both.0 both.1 _ _ refl refl)

pub returns-in-Some-clause-opened : goal.returns-in-Some-clause-opened
returns-in-Some-clause-opened g c =
    let xs = c.args.message.now in
    let a = c.in-Some.stream.now in
    let b = c.in-Some.data.now in
    let both = both_found _ _ a b c.in-Some.ensures.pair in
    record {
      blob = c.as_slice.result.now;
      text = c.in_ok-text.text.items;
      taken = stream_taken xs a b both.1 both.0 ∙ ap (λ (t : List ℕ). Some t) (sym c.as_slice.ensures);
      opens = c.in_ok-text.ensures.opened;
      buffers = second_left Stream Data stream_data xs a b both.0 both.1 _ _ c.in_ok-text.text.items refl
          (ap (holding b) c.from_vec.ensures);
    }

pub returns-in_err-text-2-clause-buffers : goal.returns-in_err-text-2-clause-buffers
returns-in_err-text-2-clause-buffers g c =
    let a = c.in-Some-pair_mut.token.now in
    let b = c.in-Some-pair_mut.data.now in
    let both = both_found _ _ a b c.in-Some-pair_mut.ensures.pair in
    on_err _ _ (none_left Token Data token_data c.args.message.now a b both.0 both.1 _ _ (ap (holding a) c.open_parts.ensures.same) refl)

pub returns-clause-opened : goal.returns-clause-opened
returns-clause-opened g c =
    let xs = c.args.message.now in
    let a = c.in-Some-pair_mut.token.now in
    let b = c.in-Some-pair_mut.data.now in
    let both = both_found _ _ a b c.in-Some-pair_mut.ensures.pair in
    let lacking : None ≡ pair_of (first_unflagged Stream xs) (first_unflagged Data xs) = c.in_default.ensures.pair in
    let no_stream = first_is_lacking (first_unflagged Stream xs) (first_unflagged Data xs) b both.1 lacking in
    record {
      blob = a.buffer ++ c.as_slice-2.result.now;
      text = c.in_ok-text-2.text.items;
      taken = parts_taken xs a b both.1 no_stream both.0 ∙ ap (λ (t : List ℕ). Some (a.buffer ++ t)) (sym c.as_slice-2.ensures);
      opens = c.in_ok-text-2.ensures.opened;
      buffers = second_left Token Data token_data xs a b both.0 both.1 _ _ c.in_ok-text-2.text.items
          (ap (holding a) c.open_parts.ensures.same) (ap (holding b) c.from_vec-2.ensures);
    }
