use Rattle.std.proofs.Common.{◌≡◌, ◌∙◌, ℕ, ◌+◌, ◌≤◌, List, ◌++◌, length, take, drop, ap, take_at}
use Rattle.std.proofs.lemmas.List.{length-take-le}
use Rattle.sspi_messages.proofs.message.leave.Goals as goal

tag_first : (old items piece : List ℕ) → 16 ≤ length items → piece ≡ take 16 items →
    take 16 ((take 0 old ++ piece) ++ drop (0 + length piece) old) ≡ take 16 items
tag_first old items piece long e = take_at piece (drop (0 + length piece) old) 16 (ap length e ∙ length-take-le 16 items long) ∙ e

pub returns-clause-tag : goal.returns-clause-tag
returns-clause-tag c =
    let piece : c.split_at.result.0.now ≡ take 16 c.args.blob.items =
    c.split_at.ensures.front ∙ ap (take 16) c.deref.ensures.value in
    c.truncate.ensures ∙ ap (take 16) c.overwrite.ensures
    ∙ tag_first c.args.token.now c.args.blob.items c.split_at.result.0.now c.requires.tagged piece
