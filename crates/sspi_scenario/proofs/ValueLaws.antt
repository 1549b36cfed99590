-- The values of a scenario are as their keys allow.
use Rattle.std.proofs.Common.{◌≡◌, ℕ, ◌*◌, ◌<◌, ◌≤◌, ◌^◌, ◌==◌, ◌+◌, ◌/◌, ◌%◌, ◌&&◌, nat_le, arith, Bool, true, false, List, [], ◌∷◌}
use Rattle.std.proofs.Common.{length, Option, Some, None, Result, Ok, Err, refl, ap, subst}
use Rattle.std.specs.Prelude.{fold, unwrap_or, if◌then◌else◌}
use Rattle.std.specs.Option.{option_map}
use Rattle.std.specs.Result.{result_ok}
use Rattle.std.specs.List.{cons_option, filter_map, enumerate_from}
use Rattle.std.specs.Str.{IsUtf8, is_utf8}
use Rattle.std.specs.Str.Parse.{digits_value}
use Rattle.std.proofs.Math.Dec.{lit<}
use Rattle.std.proofs.lemmas.Bool.{leb-true, eqb-true, eqb-false, and_parts}
use Rattle.std.proofs.lemmas.Str.{IsUtf8-nil, IsUtf8-from_is_utf8}
use Rattle.hex.specs.Hex.{decode_pairs}
use Rattle.hex.specs.declared.error.FromHexError.TheVariants.{OddLength, InvalidStringLength}
use Rattle.hex.proofs.HexLemmas.{decode_pairs-ok}
use Rattle.sspi_names.specs.Name.{parse_name, down_level}
use Rattle.sspi_names.proofs.Spelled.{parsed_name}
use Rattle.sspi_scenario.specs.declared.purpose.Purpose.{Purpose}
use Rattle.sspi_scenario.specs.declared.key.Key.{Key}
use Rattle.sspi_scenario.specs.declared.key.Key.TheVariants as key
use Rattle.sspi_scenario.specs.declared.scenario.Scenario.{Scenario}
use Rattle.sspi_scenario.specs.declared.values.Values.{Values}
use Rattle.sspi_scenario.specs.Deliveries.{delivery_of}
use Rattle.sspi_scenario.specs.Edits.{edit_of}
use Rattle.sspi_scenario.specs.Accounts.{account_of}
use Rattle.sspi_scenario.specs.Faults.{Line, Told, judged, numbered, line_told, lines_from, keys_of, told_by, told_in}
use Rattle.sspi_scenario.specs.Held.{HoldsValues}
use Rattle.sspi_scenario.specs.Hex.{hex_of, hex_of_size}
use Rattle.sspi_scenario.specs.Kdcs.{kdc_of}
use Rattle.sspi_scenario.specs.Keys.{has_required}
use Rattle.sspi_scenario.specs.Purposes.{has_random}
use Rattle.sspi_scenario.specs.Lines.{is_skipped, lines_of, before_space, after_space}
use Rattle.sspi_scenario.specs.Optional.{◌>>=◌}
use Rattle.sspi_scenario.specs.Purposes.{key_for}
use Rattle.sspi_scenario.specs.Reading.{text_limit}
use Rattle.sspi_scenario.specs.Numbers.{is_decimal, number_of}
use Rattle.sspi_scenario.specs.Scenario.{defaults, values_of, finished, completed, scenario_of, is_readable}
use Rattle.sspi_scenario.specs.Scripts.{scripted_of}
use Rattle.sspi_scenario.specs.Table.{row}
use Rattle.sspi_scenario.specs.Words.{mode_of, package_of, delegation_of, accounts_of}
use Rattle.sspi_scenario.proofs.ScenarioLaws.{told-whole}
use Rattle.sspi_scenario.proofs.TextParts.{AreUtf8, lines-utf8, behind-space}

-- a number has 32 bits
number-at : (b : Bool) (n x : ℕ) → (b ≡ true → n ≤ 4294967295) → (if b then Some n else None) ≡ Some x → x < 2 ^ 32
number-at true n x small e = let is : n ≡ x = cc in omega (arith, is, small refl)
number-at false n x small e = absurd cc

number-bits : (text : List ℕ) (x : ℕ) → number_of text ≡ Some x → x < 2 ^ 32
unfolding number_of
number-bits text x e =
    number-at (is_decimal text && nat_le (digits_value 10 text) 4294967295) (digits_value 10 text) x
    (λ h. leb-true (digits_value 10 text) 4294967295 (and_parts (is_decimal text) (nat_le (digits_value 10 text) 4294967295) h).1) e

some-is : {A : Type 0} (a b : A) → Some a ≡ Some b → a ≡ b
some-is {A = A} a b e = ap (λ (o : Option A). unwrap_or o a) e

ok-is : {E : Type 0} (r : Result (List ℕ) E) (x : List ℕ) → result_ok r ≡ Some x → r ≡ Ok x
ok-is (Ok y) x e = ap Ok (some-is y x e)
ok-is (Err refusal) x e = absurd cc

-- `size` bytes in hex
sized-at : (odd fits : Bool) (size : ℕ) (text x : List ℕ) → (odd ≡ false → fits ≡ true → length text ≡ 2 * size) →
    result_ok (if odd then Err OddLength else if fits then decode_pairs 0 text else Err InvalidStringLength) ≡ Some x → length x ≡ size
sized-at true fits size text x long e = absurd cc
sized-at false false size text x long e = absurd cc
sized-at false true size text x long e =
    let pairs = decode_pairs-ok 0 text x (ok-is (decode_pairs 0 text) x e) in
    omega (arith, long refl refl, pairs.1)

halves : (n size : ℕ) → (n % 2 == 1) ≡ false → (n / 2 == size) ≡ true → n ≡ 2 * size
halves n size even half =
    let odd = eqb-false (n % 2) 1 even in
    let is : n / 2 ≡ size = eqb-true (n / 2) size half in
    omega (arith, odd, is)

hex-length : (size : ℕ) (text x : List ℕ) → hex_of_size size text ≡ Some x → length x ≡ size
unfolding hex_of_size
hex-length size text x e = sized-at (length text % 2 == 1) (length text / 2 == size) size text x (halves (length text) size) e

-- a change keeps what holds of the values
abbrev Keeps : (Values → Values) → Type 0
Keeps change = (v : Values) → HoldsValues v.scenario → HoldsValues (change v).scenario

keeps-by : {A : Type 0} (f : A → Values → Values) (o : Option A) (change : Values → Values) → option_map f o ≡ Some change →
    ((x : A) → o ≡ Some x → (v : Values) → HoldsValues v.scenario → HoldsValues (f x v).scenario) → Keeps change
keeps-by f None change e keeps = absurd cc
keeps-by f (Some x) change e keeps = λ v h. subst (λ (c : Values → Values). HoldsValues (c v).scenario) (some-is (f x) change e)
    (keeps x refl v h)

same-keeps : (made change : Values → Values) → Some made ≡ Some change → Keeps made → Keeps change
same-keeps made change e keeps = subst Keeps (some-is made change e) keeps

row-keeps : (k : Key) (text : List ℕ) (change : Values → Values) → IsUtf8 text → (row k).value text ≡ Some change → Keeps change
row-keeps key.Mode text change utf8 e = keeps-by _ (mode_of text) change e (λ x is v h. h)
row-keeps key.User text change utf8 e = keeps-by _ (parse_name text) change e (λ x is v h. record {
  name = parsed_name text x is utf8;
  password_text = h.password_text;
  client_bits = h.client_bits;
  server_bits = h.server_bits;
  nonce_length = h.nonce_length;
  challenge_length = h.challenge_length;
  ticket_length = h.ticket_length;
})
row-keeps key.Password text change utf8 e = same-keeps _ change e (λ v h. record {
  name = h.name;
  password_text = utf8;
  client_bits = h.client_bits;
  server_bits = h.server_bits;
  nonce_length = h.nonce_length;
  challenge_length = h.challenge_length;
  ticket_length = h.ticket_length;
})
row-keeps key.Key text change utf8 e = keeps-by _ (hex_of text) change e (λ x is v h. h)
row-keeps key.ServerKey text change utf8 e = keeps-by _ (hex_of text) change e (λ x is v h. h)
row-keeps key.ClientVersion text change utf8 e = keeps-by _ (number_of text) change e (λ x is v h. record {
  name = h.name;
  password_text = h.password_text;
  client_bits = number-bits text x is;
  server_bits = h.server_bits;
  nonce_length = h.nonce_length;
  challenge_length = h.challenge_length;
  ticket_length = h.ticket_length;
})
row-keeps key.ServerVersion text change utf8 e = keeps-by _ (number_of text) change e (λ x is v h. record {
  name = h.name;
  password_text = h.password_text;
  client_bits = h.client_bits;
  server_bits = number-bits text x is;
  nonce_length = h.nonce_length;
  challenge_length = h.challenge_length;
  ticket_length = h.ticket_length;
})
row-keeps key.Nonce text change utf8 e = keeps-by _ (hex_of_size 32 text) change e (λ x is v h. record {
  name = h.name;
  password_text = h.password_text;
  client_bits = h.client_bits;
  server_bits = h.server_bits;
  nonce_length = hex-length 32 text x is;
  challenge_length = h.challenge_length;
  ticket_length = h.ticket_length;
})
row-keeps key.Challenge text change utf8 e = keeps-by _ (hex_of_size 8 text) change e (λ x is v h. record {
  name = h.name;
  password_text = h.password_text;
  client_bits = h.client_bits;
  server_bits = h.server_bits;
  nonce_length = h.nonce_length;
  challenge_length = hex-length 8 text x is;
  ticket_length = h.ticket_length;
})
row-keeps key.Computer text change utf8 e = same-keeps _ change e (λ v h. h)
row-keeps key.Target text change utf8 e = same-keeps _ change e (λ v h. h)
row-keeps key.Delegation text change utf8 e = keeps-by _ (delegation_of text) change e (λ x is v h. h)
row-keeps key.Keytab text change utf8 e = keeps-by _ (hex_of text) change e (λ x is v h. h)
row-keeps key.ClientProtocol text change utf8 e = keeps-by _ (package_of text) change e (λ x is v h. h)
row-keeps key.ServerProtocol text change utf8 e = keeps-by _ (package_of text) change e (λ x is v h. h)
row-keeps key.ClientPackages text change utf8 e = same-keeps _ change e (λ v h. h)
row-keeps key.ServerPackages text change utf8 e = same-keeps _ change e (λ v h. h)
row-keeps key.ClientUrl text change utf8 e = same-keeps _ change e (λ v h. h)
row-keeps key.Kdc text change utf8 e = keeps-by _ (kdc_of text) change e (λ x is v h. h)
row-keeps key.KdcUser text change utf8 e = same-keeps _ change e (λ v h. h)
row-keeps key.KdcAnswer text change utf8 e = keeps-by _ (scripted_of text) change e (λ x is v h. h)
row-keeps key.Ticket text change utf8 e = keeps-by _ (hex_of_size 32 text) change e (λ x is v h. record {
  name = h.name;
  password_text = h.password_text;
  client_bits = h.client_bits;
  server_bits = h.server_bits;
  nonce_length = h.nonce_length;
  challenge_length = h.challenge_length;
  ticket_length = hex-length 32 text x is;
})
row-keeps key.Account text change utf8 e = keeps-by _ (account_of text) change e (λ x is v h. h)
row-keeps key.Accounts text change utf8 e = keeps-by _ (accounts_of text) change e (λ x is v h. h)
row-keeps key.ProxyFail text change utf8 e = keeps-by _ (number_of text) change e (λ x is v h. h)
row-keeps key.Turns text change utf8 e = keeps-by _ (number_of text) change e (λ x is v h. h)
row-keeps key.Edit text change utf8 e = keeps-by _ (edit_of text) change e (λ x is v h. h)
row-keeps key.Deliver text change utf8 e = keeps-by _ (delivery_of text) change e (λ x is v h. h)
row-keeps key.ClientLeast text change utf8 e = keeps-by _ (number_of text) change e (λ x is v h. h)
row-keeps key.ServerLeast text change utf8 e = keeps-by _ (number_of text) change e (λ x is v h. h)
row-keeps key.Admit text change utf8 e = keeps-by _ (parse_name text) change e (λ x is v h. h)

value-keeps : (k : Key) (line : List ℕ) (told : Told) (o : Option (Values → Values)) → IsUtf8 line → (row k).value (after_space line) ≡ o →
    (o >>= (λ change. Some (record { key = k; change = change }))) ≡ Some told → Keeps told.change
value-keeps k line told None utf8 is e = absurd cc
value-keeps k line told (Some change) utf8 is e =
    subst (λ (t : Told). Keeps t.change) (some-is (record { key = k; change = change }) told e)
    (row-keeps k (after_space line) change (behind-space line utf8) is)

named-keeps : (o : Option Key) (line : List ℕ) (told : Told) → IsUtf8 line →
    (o >>= (λ k. (row k).value (after_space line) >>= (λ change. Some (record { key = k; change = change })))) ≡ Some told →
    Keeps told.change
named-keeps None line told utf8 e = absurd cc
named-keeps (Some k) line told utf8 e = value-keeps k line told ((row k).value (after_space line)) utf8 refl e

line-keeps : (purpose : Purpose) (line : List ℕ) (told : Told) → IsUtf8 line → line_told purpose line ≡ Some told → Keeps told.change
unfolding line_told
line-keeps purpose line told utf8 e = named-keeps (key_for purpose (before_space line)) line told utf8 e

abbrev then_told : Values → List Told → Values
then_told v lines = fold (λ values told. told.change values) v lines

more-keeps : (purpose : Purpose) (number : ℕ) (line : List ℕ) (rest : List Line) (v : Values) → IsUtf8 line → HoldsValues v.scenario →
    ((w : Values) → HoldsValues w.scenario → HoldsValues (then_told w (filter_map told_by rest)).scenario) →
    (skip : Bool) (o : Option Told) → line_told purpose line ≡ o →
    HoldsValues (then_told v (filter_map told_by (cons_option (if skip then None else Some (judged number o)) rest))).scenario
more-keeps purpose number line rest v utf8 h more true o is = more v h
more-keeps purpose number line rest v utf8 h more false None is = more v h
more-keeps purpose number line rest v utf8 h more false (Some told) is = more (told.change v) (line-keeps purpose line told utf8 is v h)

lines-keep : (purpose : Purpose) (number : ℕ) (lines : List (List ℕ)) (v : Values) → AreUtf8 lines → HoldsValues v.scenario →
    HoldsValues (then_told v (told_in (lines_from purpose number lines))).scenario
unfolding told_in lines_from
lines-keep purpose number [] v utf8 h = h
lines-keep purpose number (line ∷ lines) v utf8 h =
    more-keeps purpose number line (filter_map (numbered purpose) (enumerate_from (number + 1) lines)) v utf8.0 h
    (λ w held. lines-keep purpose (number + 1) lines w utf8.1 held)
    (is_skipped line) (line_told purpose line) refl

default-name : parse_name [] ≡ Some (down_level [] [])
unfolding parse_name
default-name = refl

defaults-hold : HoldsValues defaults.scenario
defaults-hold = record {
  name = parsed_name [] (down_level [] []) default-name IsUtf8-nil;
  password_text = IsUtf8-nil;
  client_bits = lit< tt;
  server_bits = lit< tt;
  nonce_length = refl;
  challenge_length = refl;
  ticket_length = tt;
}

completed-is : (b : Bool) (made scenario : Scenario) → (if b then Some made else None) ≡ Some scenario → made ≡ scenario
completed-is true made scenario e = some-is made scenario e
completed-is false made scenario e = absurd cc

readable-utf8 : (text : List ℕ) → is_readable text ≡ true → IsUtf8 text
readable-utf8 text e = IsUtf8-from_is_utf8 text (and_parts (nat_le (length text) text_limit) (is_utf8 text) e).1

finished-holds : (purpose : Purpose) (lines : List Told) (scenario : Scenario) → HoldsValues (values_of lines).scenario →
    completed purpose lines ≡ Some scenario → HoldsValues scenario
unfolding completed
finished-holds purpose lines scenario h e =
    subst HoldsValues
    (completed-is (has_required (keys_of lines) && has_random purpose (keys_of lines)) (finished (keys_of lines) (values_of lines)) scenario e) h

values-held : (purpose : Purpose) (lines : List (List ℕ)) → AreUtf8 lines →
    HoldsValues (values_of (told_in (lines_from purpose 1 lines))).scenario
unfolding values_of
values-held purpose lines utf8 = lines-keep purpose 1 lines defaults utf8 defaults-hold

pub scenario_holds : (purpose : Purpose) (text : List ℕ) (scenario : Scenario) → scenario_of purpose text ≡ Ok scenario →
    HoldsValues scenario
scenario_holds purpose text scenario e =
    let parts = told-whole purpose text scenario e in
    finished-holds purpose (told_in (lines_from purpose 1 (lines_of text))) scenario
    (values-held purpose (lines_of text) (lines-utf8 text (readable-utf8 text parts.0))) parts.1
