-- The names of a printed module are words of its grammar.
use Rattle.std.specs.List.{list_all}
use Rattle.std.specs.Fmt.{decimal}
use Rattle.std.specs.Char.{digit_value}
use Rattle.std.specs.Str.Parse.{AllDigits}
use Rattle.std.proofs.Common.{◌≡◌, ℕ, ◌<◌, ◌^◌, true, List, [], ◌∷◌, refl, arith}
use Rattle.std.proofs.lemmas.Bool.{and_parts}
use Rattle.std.proofs.lemmas.Bool.Decides.{nat_tests}
use Rattle.std.proofs.lemmas.Fmt.{decimal_is_IsNumeral}
use Rattle.rtl_net.specs.Names as names
use Rattle.rtl_net.specs.Names.{is_identifier, is_net_name}
use Rattle.v_design.specs.Lexemes.{Name, is_name_start, is_name_byte, is_name}
use Rattle.v_design.proofs.Printing.{has_word}
use Rattle.v_printer.specs.Module.{wire_name}

start_same : (b : ℕ) → names.is_name_start b ≡ true → is_name_start b ≡ true
start_same b h = grind (arith, nat_tests)

byte_same : (b : ℕ) → names.is_name_byte b ≡ true → is_name_byte b ≡ true
byte_same b h = grind (arith, nat_tests)

bytes_same : (bs : List ℕ) → list_all names.is_name_byte bs ≡ true → list_all is_name_byte bs ≡ true
bytes_same [] h = refl
bytes_same (b ∷ bs) h = let p = and_parts (names.is_name_byte b) (list_all names.is_name_byte bs) h in rw (byte_same b p.0, bytes_same bs p.1)

name_same : (n : List ℕ) → names.is_name n ≡ true → is_name n ≡ true
name_same [] h = h
name_same (b ∷ bs) h = let p = and_parts (names.is_name_start b) (list_all names.is_name_byte bs) h in rw (start_same b p.0, bytes_same bs p.1)

pub identifier_word : (n : List ℕ) → is_identifier n ≡ true → has_word (Name n) ≡ true
identifier_word n h =
    let p = and_parts (names.is_name n) _ h in
    rw (name_same n p.0) p.1

pub net_word : (n : List ℕ) → is_net_name n ≡ true → has_word (Name n) ≡ true
net_word n h = identifier_word n (and_parts (is_identifier n) _ h).0

digit_byte : (c : ℕ) → digit_value c < 10 → is_name_byte c ≡ true
digit_byte c h = grind (arith, nat_tests)

digit_bytes : (ds : List ℕ) → AllDigits 10 ds → list_all is_name_byte ds ≡ true
digit_bytes [] h = refl
digit_bytes (c ∷ cs) h = rw (digit_byte c h.0, digit_bytes cs h.1)

pub wire_word : (k : ℕ) → k < 2 ^ 64 → has_word (Name (wire_name k)) ≡ true
wire_word k h = rw (digit_bytes (decimal k) (decimal_is_IsNumeral k h).0.1)
