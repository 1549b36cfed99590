-- What the writers of a token say about lengths and about the bytes that they append.
use Rattle.std.specs.Prelude.{◌≡◌, ℕ, ◌≤◌, List, ◌++◌, length, Option, Result, Ok, Err}
use Rattle.std.specs.Option.{option_map_or, SomeIff}
use Rattle.std.specs.declared.alloc.AllocError.{AllocError}
use Rattle.sspi_ber.specs.Forms.{max_content}
use Rattle.sspi_tokens.specs.Spelling.{oids_text, init_fields, init_content}
use Rattle.sspi_tokens.specs.declared.neg_token_init.NegTokenInit.{NegTokenInit}
use Rattle.sspi_tokens.specs.declared.sizes.InitLengths.{InitLengths}

-- the length of the identifiers of a list, which may be absent
abbrev pub list_length : Option (List (List ℕ)) → ℕ
list_length list = option_map_or (λ oids. length (oids_text oids)) list 0

-- a size, if it is a length that fits
abbrev pub Measures : Option ℕ → ℕ → Type 0
Measures size n = SomeIff size (n ≤ max_content) n

-- the lengths in the headers of a NegTokenInit
pub record IsInitLengths (token : NegTokenInit) (lengths : InitLengths) : Type 0 where
  pub mech_types_is : lengths.mech_types ≡ list_length token.mech_types
  pub fields_is : lengths.fields ≡ length (init_fields token)
  pub content_is : lengths.content ≡ length (init_content token)
  pub fits : length (init_content token) ≤ max_content

-- the text follows what was written before
pub record Put (before after text : List ℕ) : Type 0 where
  pub appended : after ≡ before ++ text

-- what a writer does unless memory runs out
abbrev pub Puts : List ℕ → List ℕ → Result (Unit {0}) AllocError → List ℕ → Type 0
Puts before after (Ok x) text = Put before after text
Puts before after (Err error) text = Unit {0}
