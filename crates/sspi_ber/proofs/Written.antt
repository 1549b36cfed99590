-- What two writers did, one after the other.
use Rattle.std.proofs.Common.{◌≡◌, ◌≢◌, ℕ, ◌+◌, List, [], ◌∷◌, ◌++◌, length, Option, None, Some, Result, Ok, Err, refl}
use Rattle.std.proofs.Common.{sym, ap, ◌∙◌, append_assoc, take, drop, subst, ◌<◌, ◌≤◌, inl, inr, arith}
use Rattle.std.proofs.lemmas.Bool.{cases_lt, lt-ltb, le-ltb}
use Rattle.std.specs.Io.KnownBytes.{Appends, Keeps}
use Rattle.std.proofs.lemmas.List.{append-nil, length-append, take-append-drop}
use Rattle.sspi_ber.specs.declared.wire_kind.WireKind.{WireKind}
use Rattle.sspi_ber.specs.declared.wire_kind.WireKind.TheVariants.{UnexpectedEof, InvalidData, ReadFault, WriteFault, InsufficientMemory}
use Rattle.sspi_ber.specs.Outside.{Wrote, WroteFront, Writes}
use Rattle.sspi_ber.specs.Short.{length_octets, len_short, header, element, element_size}

appends_then : (before mid after : Option (List ℕ)) (a b : List ℕ) → Appends before mid a → Appends mid after b →
    Appends before after (a ++ b)
appends_then None mid after a b p q = tt
appends_then (Some x) None after a b p q = absurd p
appends_then (Some x) (Some y) None a b p q = absurd q
appends_then (Some x) (Some y) (Some z) a b p q = q ∙ ap (λ (l : List ℕ). l ++ b) p ∙ append_assoc x a b

pub appends_nothing : (known : Option (List ℕ)) → Appends known known []
appends_nothing None = tt
appends_nothing (Some x) = sym (append-nil x)

pub wrote_then : {before mid after : Option (List ℕ)} {a b : List ℕ} → Wrote before mid a → Wrote mid after b → Wrote before after (a ++ b)
wrote_then {before} {mid} {after} {a} {b} p q = record { appended = appends_then before mid after a b p.appended q.appended }

pub front_then : {before mid after : Option (List ℕ)} {a b : List ℕ} → Wrote before mid a → WroteFront mid after b →
    WroteFront before after (a ++ b)
front_then {before} {mid} {after} {a} {b} p q = record {
  front = a ++ q.front;
  rest = q.rest;
  appended = appends_then before mid after a q.front p.appended q.appended;
  parts = ap (λ (l : List ℕ). a ++ l) q.parts ∙ sym (append_assoc a q.front q.rest);
  cut = q.cut;
}

some_before : (rest b : List ℕ) → rest ≢ [] → rest ++ b ≢ []
some_before [] b some e = some refl
some_before (x ∷ rest) b some e = absurd cc

pub front_more : {before after : Option (List ℕ)} {a : List ℕ} (b : List ℕ) → WroteFront before after a → WroteFront before after (a ++ b)
front_more {before} {after} {a} b p = record {
  front = p.front;
  rest = p.rest ++ b;
  appended = p.appended;
  parts = ap (λ (l : List ℕ). l ++ b) p.parts ∙ append_assoc p.front p.rest b;
  cut = some_before p.rest b p.cut;
}

pub wrote_nothing : {known : Option (List ℕ)} → Wrote known known []
wrote_nothing {known} = record { appended = appends_nothing known }

-- two texts that were written, and what a last writer did
pub writes_then : {X : Type 0} (before mid after : Option (List ℕ)) (result : Result X WireKind) (a b : List ℕ) →
    Wrote before mid a → Writes mid after result b → Writes before after result (a ++ b)
writes_then before mid after (Ok x) a b p q = wrote_then p q
writes_then before mid after (Err UnexpectedEof) a b p q = q
writes_then before mid after (Err InvalidData) a b p q = q
writes_then before mid after (Err ReadFault) a b p q = q
writes_then before mid after (Err WriteFault) a b p q = front_then p q
writes_then before mid after (Err InsufficientMemory) a b p q = front_then p q

-- what was refused in a text was refused in a longer one
pub writes_more : (before after : Option (List ℕ)) (kind : WireKind) (a b : List ℕ) →
    Writes {X = Unit {0}} before after (Err kind) a → Writes {X = Unit {0}} before after (Err kind) (a ++ b)
writes_more before after UnexpectedEof a b p = p
writes_more before after InvalidData a b p = p
writes_more before after ReadFault a b p = p
writes_more before after WriteFault a b p = front_more b p
writes_more before after InsufficientMemory a b p = front_more b p

-- what a loop of writes has written, and what it has left
pub record Left (before now : Option (List ℕ)) (text rest : List ℕ) : Type 0 where
  pub front : List ℕ
  pub appended : Appends before now front
  pub parts : text ≡ front ++ rest

pub left_start : (known : Option (List ℕ)) (text : List ℕ) → Left known known text text
left_start known text = record { front = []; appended = appends_nothing known; parts = refl }

pub left_step : {before mid after : Option (List ℕ)} {text rest : List ℕ} (count : ℕ) → Left before mid text rest
    → Appends mid after (take count rest) → Left before after text (drop count rest)
left_step {before} {mid} {after} {text} {rest} count p q = record {
  front = p.front ++ take count rest;
  appended = appends_then before mid after p.front (take count rest) p.appended q;
  parts = p.parts ∙ ap (λ (l : List ℕ). p.front ++ l) (sym (take-append-drop count rest))
      ∙ sym (append_assoc p.front (take count rest) (drop count rest));
}

appends_kept : (before mid after : Option (List ℕ)) (a : List ℕ) → Appends before mid a → Keeps mid after → Appends before after a
appends_kept None mid after a p q = tt
appends_kept (Some x) None after a p q = absurd p
appends_kept (Some x) (Some y) None a p q = absurd q
appends_kept (Some x) (Some y) (Some z) a p q = q ∙ p

pub left_stopped : {before mid after : Option (List ℕ)} {text rest : List ℕ} → Left before mid text rest → Keeps mid after →
    rest ≢ [] → WroteFront before after text
left_stopped {before} {mid} {after} {text} {rest} p q some = record {
  front = p.front;
  rest = rest;
  appended = appends_kept before mid after p.front p.appended q;
  parts = p.parts;
  cut = some;
}

pub left_done : {before now : Option (List ℕ)} {text rest : List ℕ} → Left before now text rest → rest ≡ [] → Wrote before now text
left_done {before} {now} {text} {rest} p e = record {
  appended = subst (Appends before now)
      (sym (p.parts ∙ ap (λ (l : List ℕ). p.front ++ l) e ∙ append-nil p.front)) p.appended;
}

pub length-header : (tag n : ℕ) → length (header tag n) ≡ 1 + length (len_short n)
unfolding header
length-header tag n = omega arith

pub length-element : (tag : ℕ) (content : List ℕ) → length (element tag content) ≡ element_size (length content)
unfolding element element_size
length-element tag content = length-append (header tag (length content)) content ∙ ap (λ (n : ℕ). n + length content)
    (length-header tag (length content))

octets_above : (n : ℕ) → 1 ≤ length (length_octets n)
unfolding length_octets
octets_above n = elim (cases_lt n 0x100) [
  | inl lt ↦ rw (lt-ltb n 0x100 lt) (omega arith)
  | inr ge ↦ elim (cases_lt n 0x10000) [
    | inl lt ↦ rw (le-ltb n 0x100 ge, lt-ltb n 0x10000 lt) (omega arith)
    | inr wide ↦ rw (le-ltb n 0x100 ge, le-ltb n 0x10000 wide) (omega arith)
  ]
]

octets_below : (n : ℕ) → length (length_octets n) ≤ 3
unfolding length_octets
octets_below n = elim (cases_lt n 0x100) [
  | inl lt ↦ rw (lt-ltb n 0x100 lt) (omega arith)
  | inr ge ↦ elim (cases_lt n 0x10000) [
    | inl lt ↦ rw (le-ltb n 0x100 ge, lt-ltb n 0x10000 lt) (omega arith)
    | inr wide ↦ rw (le-ltb n 0x100 ge, le-ltb n 0x10000 wide) (omega arith)
  ]
]

len_above : (n : ℕ) → 1 ≤ length (len_short n)
unfolding len_short
len_above n = elim (cases_lt n 0x80) [ inl lt ↦ rw (lt-ltb n 0x80 lt) (omega arith) | inr ge ↦ rw (le-ltb n 0x80 ge) (omega arith) ]

len_below : (n : ℕ) → length (len_short n) ≤ 4
unfolding len_short
len_below n = elim (cases_lt n 0x80) [
  | inl lt ↦ rw (lt-ltb n 0x80 lt) (omega arith)
  | inr ge ↦ (let three = octets_below n in rw (le-ltb n 0x80 ge) (omega arith))
]

-- an element is larger than its content by 2 to 5 bytes
pub size_above : (n : ℕ) → n + 2 ≤ element_size n
unfolding element_size
size_above n = let one = len_above n in omega arith

pub size_below : (n : ℕ) → element_size n ≤ n + 5
unfolding element_size
size_below n = let four = len_below n in omega arith

pub small_size : (n : ℕ) → n < 0x80 → element_size n ≡ n + 2
unfolding element_size len_short
small_size n lt = rw (lt-ltb n 0x80 lt) (omega arith)

pub ruleset writing = (wrote_then, front_then, front_more, wrote_nothing)

pub ruleset lengths = (length-header, length-element)
