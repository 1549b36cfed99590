use Rattle.std.proofs.Common.{◌≡◌, ◌≤◌, length, take}
use Rattle.sspi_ber.specs.Forms.{max_content}
use Rattle.sspi_tokens.specs.Spelling.{oids_text}
use Rattle.sspi_tokens.proofs.sizes.oids_len.Given as goal

abbrev pub invariant-loop-oid : goal.invariant-loop-oid
invariant-loop-oid l = (l.len ≡ length (oids_text (take l.oid-index l.oids))) × (l.len ≤ max_content)
