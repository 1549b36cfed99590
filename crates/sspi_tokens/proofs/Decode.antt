-- The result of a reader over the bytes of a token, as the answer of `decode`.
use Rattle.std.proofs.Common.{◌≡◌, List, ℕ, Option, None, Some, Ok, Err, refl, sym, ap, ◌∙◌}
use Rattle.sspi_ber.specs.Pieces.{Read}
use Rattle.sspi_ber.specs.Outside.{Gives, NeedsNoMemory}
use Rattle.sspi_ber.specs.declared.wire_kind.WireKind.{WireKind}
use Rattle.sspi_ber.specs.declared.wire_kind.WireKind.TheVariants.{UnexpectedEof, InvalidData, ReadFault, WriteFault, InsufficientMemory}
use Rattle.sspi_types.specs.Errors.{memory_error}
use Rattle.sspi_tokens.specs.Answers.{ReadsAs, malformed}
use Rattle.sspi_tokens.specs.Reading.{value_of}

is_malformed : {T : Type 0} (o : Option T) → o ≡ None → ReadsAs o (Err malformed)
is_malformed (Some token) e = absurd cc
is_malformed None e = refl

is_wanting : {T : Type 0} (o : Option T) (token : T) → o ≡ Some token → ReadsAs o (Err memory_error)
is_wanting (Some x) token e = refl
is_wanting None token e = absurd cc

is_token : {T : Type 0} (o : Option T) (token : T) → o ≡ Some token → ReadsAs o (Ok token)
is_token (Some x) token e = cc
is_token None token e = absurd cc

-- nothing was read, and memory did not run out
pub read_refused : {X T : Type 0} (view : X → T) (after : List ℕ) (kind : WireKind) (read : Read T) →
    Gives view after (Err kind) read → NeedsNoMemory {X = X} (Err kind) → ReadsAs (value_of read) (Err malformed)
read_refused view after UnexpectedEof read given none = is_malformed (value_of read) (ap value_of given)
read_refused view after InvalidData read given none = is_malformed (value_of read) (ap value_of given)
read_refused view after ReadFault read given none = absurd given
read_refused view after WriteFault read given none = absurd given
read_refused view after InsufficientMemory read given none = absurd none

-- the parts were read, and memory ran out for the token
pub read_unkept : {T : Type 0} (token : T) (after : List ℕ) (read : Read T) → read ≡ Ok (token, after) →
    ReadsAs (value_of read) (Err memory_error)
read_unkept token after read given = is_wanting (value_of read) token (ap value_of given)

-- the parts were read, and the token is made of these parts
pub read_kept : {T : Type 0} (token seen : T) (after : List ℕ) (read : Read T) → read ≡ Ok (seen, after) → token ≡ seen →
    ReadsAs (value_of read) (Ok token)
read_kept token seen after read given same = is_token (value_of read) token (ap value_of given ∙ ap Some (sym same))
