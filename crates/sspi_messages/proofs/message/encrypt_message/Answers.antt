use Rattle.std.proofs.Common.{◌∙◌, ℕ, List, take, drop, Some, sym, ap, refl}
use Rattle.sspi_types.specs.declared.buffer_type.BufferType.TheVariants.{Data, Token}
use Rattle.sspi_mech.specs.Calls.{ToSeal}
use Rattle.sspi_messages.proofs.Asked.{token_data, on_err, both_found, asked_of}
use Rattle.sspi_messages.proofs.Left.{holding, none_left, pair_left}
use Rattle.sspi_messages.proofs.message.encrypt_message.Goals as goal

pub returns-in_err-blob-clause-buffers : goal.returns-in_err-blob-clause-buffers
returns-in_err-blob-clause-buffers g c =
    let a = c.in-Some.token.now in
    let b = c.in-Some.data.now in
    let both = both_found _ _ a b c.in-Some.ensures.pair in
    on_err _ _ (none_left Token Data token_data c.args.message.now a b both.0 both.1 _ _ (ap (holding a) c.in_err-blob.ensures.same) refl)

pub returns-clause-sealed : goal.returns-clause-sealed
returns-clause-sealed g c =
    let xs = c.args.message.now in
    let a = c.in-Some.token.now in
    let b = c.in-Some.data.now in
    let both = both_found _ _ a b c.in-Some.ensures.pair in
    let blob = c.in_ok-blob.blob.items in
    record {
      text = c.as_slice.result.now;
      blob = blob;
      asked = asked_of xs a b both.1 (λ (p : List ℕ × List ℕ). ToSeal p.1) both.0 ∙ ap (λ (t : List ℕ). Some (ToSeal t))
          (sym c.as_slice.ensures);
      seals = c.in_ok-blob.ensures.sealed;
      buffers = pair_left Token Data token_data xs a b both.0 both.1 _ _ (take 16 blob) (drop 16 blob)
          (ap (holding a) c.leave.ensures.tag) (ap (holding b) c.leave.ensures.behind);
    }
