-- What the csv crate's machine makes of plain bytes and of lines.
use Rattle.std.proofs.Common.{◌≡◌, ℕ, Bool, true, false, if◌then◌else◌, not, ◌&&◌, ◌==◌, nat_lt, Some, List, [], ◌∷◌, ◌++◌, refl, ap, sym, ◌∙◌, append_assoc, append-nil, arith}
use Rattle.std.proofs.lemmas.Bool.Decides.{nat_tests}
use Rattle.std.specs.List.{AllByRecursion}
use Rattle.csv.specs.Machine.{next_record, step}
use Rattle.csv.specs.Reading.{default_config, strip_bom}
use Rattle.csv.specs.declared.parser.State.{State}
use Rattle.csv.specs.declared.parser.State.TheVariants.{InField, StartField, StartRecord}
use Rattle.csv.specs.declared.parser.Action.TheVariants.{Copy, EndField}
use Rattle.stim_csv.specs.Plain.{is_plain, is_of_line}
use Rattle.stim_csv.specs.PinTable.{Cells}

-- the state in which a field begins, behind these fields
abbrev pub begins : Cells → State
begins [] = StartRecord
begins (field ∷ fields) = StartField

pub begins_next : (fields : Cells) (field : List ℕ) → begins (fields ++ field ∷ []) ≡ StartField
begins_next [] field = refl
begins_next (f ∷ fs) field = refl

no_test : (c : ℕ) (e : is_plain c ≡ false) → is_plain c ≡ true → {A : Type 0} → A
no_test c e h = absurd (let f : false ≡ true = sym e ∙ h in cc)

joins : (c : ℕ) → is_plain c ≡ true → (step default_config InField c ≡ (InField, Copy)) × (step default_config StartField c ≡ (InField, Copy)) × (step default_config StartRecord c ≡ (InField, Copy))
joins c h = by_cases (c == 44) (c == 34) (c == 13) (c == 10) refl refl refl refl
  where
    by_cases : (a b d e : Bool) → (c == 44) ≡ a → (c == 34) ≡ b → (c == 13) ≡ d → (c == 10) ≡ e
        → (step default_config InField c ≡ (InField, Copy)) × (step default_config StartField c ≡ (InField, Copy)) × (step default_config StartRecord c ≡ (InField, Copy))
    by_cases true b d e p q r s = no_test c (rw (p) refl) h
    by_cases false true d e p q r s = no_test c (rw (p, q) refl) h
    by_cases false false true e p q r s = no_test c (rw (p, q, r) refl) h
    by_cases false false false true p q r s = no_test c (rw (p, q, r, s) refl) h
    by_cases false false false false p q r s = (rw (p, r, s) refl, rw (p, q, r, s) refl, rw (p, q, r, s) refl)

-- one plain byte within a field
one : (c : ℕ) (rest field : List ℕ) (fields : Cells) → is_plain c ≡ true → next_record default_config InField fields field (c ∷ rest) ≡ next_record default_config InField fields (field ++ (c ∷ [])) rest
unfolding next_record
one c rest field fields h = rw ((joins c h).0) refl

-- and one that begins a field
begun : (c : ℕ) (rest : List ℕ) (fields : Cells) → is_plain c ≡ true → next_record default_config (begins fields) fields [] (c ∷ rest) ≡ next_record default_config InField fields (c ∷ []) rest
unfolding next_record
begun c rest [] h = rw ((joins c h).2) refl
begun c rest (f ∷ fs) h = rw ((joins c h).1) refl

field_ends : (xs rest field : List ℕ) (fields : Cells) → AllByRecursion (λ c. is_plain c ≡ true) xs
    → next_record default_config InField fields field (xs ++ 44 ∷ rest) ≡ next_record default_config StartField (fields ++ (field ++ xs) ∷ []) [] rest
unfolding next_record
field_ends [] rest field fields h = ap (λ f. next_record default_config StartField (fields ++ f ∷ []) [] rest) (sym (append-nil field))
field_ends (c ∷ xs) rest field fields h =
    one c (xs ++ 44 ∷ rest) field fields h.0 ∙ (field_ends xs rest (field ++ (c ∷ [])) fields h.1
    ∙ ap (λ f. next_record default_config StartField (fields ++ f ∷ []) [] rest) (append_assoc field (c ∷ []) xs))

line_ends : (xs rest field : List ℕ) (fields : Cells) → AllByRecursion (λ c. is_plain c ≡ true) xs
    → next_record default_config InField fields field (xs ++ 10 ∷ rest) ≡ Some (fields ++ (field ++ xs) ∷ [], StartRecord, rest)
unfolding next_record
line_ends [] rest field fields h = ap (λ f. Some (fields ++ f ∷ [], StartRecord, rest)) (sym (append-nil field))
line_ends (c ∷ xs) rest field fields h =
    one c (xs ++ 10 ∷ rest) field fields h.0 ∙ (line_ends xs rest (field ++ (c ∷ [])) fields h.1
    ∙ ap (λ f. Some (fields ++ f ∷ [], StartRecord, rest)) (append_assoc field (c ∷ []) xs))

-- a field that isn't empty, and the byte behind it
pub field_read : (c : ℕ) (xs rest : List ℕ) (fields : Cells) → AllByRecursion (λ b. is_plain b ≡ true) (c ∷ xs)
    → next_record default_config (begins fields) fields [] ((c ∷ xs) ++ 44 ∷ rest) ≡ next_record default_config StartField (fields ++ (c ∷ xs) ∷ []) [] rest
field_read c xs rest fields h = begun c (xs ++ 44 ∷ rest) fields h.0 ∙ field_ends xs rest (c ∷ []) fields h.1

pub record_read : (c : ℕ) (xs rest : List ℕ) (fields : Cells) → AllByRecursion (λ b. is_plain b ≡ true) (c ∷ xs)
    → next_record default_config (begins fields) fields [] ((c ∷ xs) ++ 10 ∷ rest) ≡ Some (fields ++ (c ∷ xs) ∷ [], StartRecord, rest)
record_read c xs rest fields h = begun c (xs ++ 10 ∷ rest) fields h.0 ∙ line_ends xs rest (c ∷ []) fields h.1

-- the state within a field, and at the beginning of one
abbrev within : Bool → State
within true = InField
within false = StartField

-- the fields of a line, from the middle of a field on
abbrev pub fields_on : Cells → List ℕ → List ℕ → Cells
fields_on fields field [] = fields ++ field ∷ []
fields_on fields field (c ∷ xs) = if c == 44 then fields_on (fields ++ field ∷ []) [] xs else fields_on fields (field ++ c ∷ []) xs

-- what a byte of a line isn't
record Unlike (c : ℕ) : Type 0 where
  quote : (c == 34) ≡ false
  carriage_return : (c == 13) ≡ false
  line_feed : (c == 10) ≡ false
  mark : (c == 239) ≡ false

unlike : (c : ℕ) → is_of_line c ≡ true → Unlike c
unlike c h = go (nat_lt c 127) (c == 34) (c == 13) (c == 10) refl refl refl refl h
  where
    low : (c : ℕ) → nat_lt c 127 ≡ true → (c == 239) ≡ false
    low c h = grind (arith, nat_tests)

    go : (a b d e : Bool) → nat_lt c 127 ≡ a → (c == 34) ≡ b → (c == 13) ≡ d → (c == 10) ≡ e → (a && not b && not d && not e) ≡ true → Unlike c
    go true false false false p q r s h = record { quote = q; carriage_return = r; line_feed = s; mark = low c p }
    go true false false true p q r s h = cc h
    go true false true e p q r s h = cc h
    go true true d e p q r s h = cc h
    go false b d e p q r s h = cc h

comma : (b : Bool) (c : ℕ) → (c == 44) ≡ true → step default_config (within b) c ≡ (StartField, EndField)
comma true c e = rw e refl
comma false c e =
    let same : c ≡ 44 = grind (arith, nat_tests, e) in
    rw same refl

other : (b : Bool) (c : ℕ) → Unlike c → (c == 44) ≡ false → step default_config (within b) c ≡ (InField, Copy)
other true c u e = rw (e, u.carriage_return, u.line_feed) refl
other false c u e = rw (e, u.quote, u.carriage_return, u.line_feed) refl

-- a record begins as a field does
as_field : (c : ℕ) (rest : List ℕ) → Unlike c → next_record default_config StartRecord [] [] (c ∷ rest) ≡ next_record default_config StartField [] [] (c ∷ rest)
unfolding next_record
as_field c rest u = rw (u.carriage_return, u.line_feed) refl

module _ (tail after : List ℕ) (ended : (b : Bool) (field : List ℕ) (fields : Cells) → next_record default_config (within b) fields field tail ≡ Some (fields ++ field ∷ [], StartRecord, after)) where
  on_line : (b : Bool) (xs field : List ℕ) (fields : Cells) → AllByRecursion (λ c. is_of_line c ≡ true) xs
      → next_record default_config (within b) fields field (xs ++ tail) ≡ Some (fields_on fields field xs, StartRecord, after)
  unfolding next_record
  on_line b [] field fields h = ended b field fields
  on_line b (c ∷ xs) field fields h = go (c == 44) refl (on_line false xs [] (fields ++ field ∷ []) h.1) (on_line true xs (field ++ c ∷ []) fields h.1)
    where
      go : (t : Bool) → (c == 44) ≡ t → next_record default_config StartField (fields ++ field ∷ []) [] (xs ++ tail) ≡ Some (fields_on (fields ++ field ∷ []) [] xs, StartRecord, after)
          → next_record default_config InField fields (field ++ c ∷ []) (xs ++ tail) ≡ Some (fields_on fields (field ++ c ∷ []) xs, StartRecord, after)
          → next_record default_config (within b) fields field (c ∷ xs ++ tail) ≡ Some ((if t then fields_on (fields ++ field ∷ []) [] xs else fields_on fields (field ++ c ∷ []) xs), StartRecord, after)
      go true e ended_field joined = rw (comma b c e) ended_field
      go false e ended_field joined = rw (other b c (unlike c h.0) e) joined

at_end : (b : Bool) (field : List ℕ) (fields : Cells) → next_record default_config (within b) fields field [] ≡ Some (fields ++ field ∷ [], StartRecord, [])
unfolding next_record
at_end true field fields = refl
at_end false field fields = refl

at_line_feed : (rest : List ℕ) (b : Bool) (field : List ℕ) (fields : Cells) → next_record default_config (within b) fields field (10 ∷ rest) ≡ Some (fields ++ field ∷ [], StartRecord, rest)
unfolding next_record
at_line_feed rest true field fields = refl
at_line_feed rest false field fields = refl

-- the record of a line, whether the text ends behind it
pub line_alone : (c : ℕ) (xs : List ℕ) → AllByRecursion (λ b. is_of_line b ≡ true) (c ∷ xs)
    → next_record default_config StartRecord [] [] (c ∷ xs) ≡ Some (fields_on [] [] (c ∷ xs), StartRecord, [])
line_alone c xs h =
    as_field c xs (unlike c h.0) ∙ (ap (next_record default_config StartField [] []) (sym (append-nil (c ∷ xs))) ∙ on_line [] [] at_end false (c ∷ xs) [] [] h)

-- or goes on
pub line_read : (c : ℕ) (xs rest : List ℕ) → AllByRecursion (λ b. is_of_line b ≡ true) (c ∷ xs)
    → next_record default_config StartRecord [] [] ((c ∷ xs) ++ 10 ∷ rest) ≡ Some (fields_on [] [] (c ∷ xs), StartRecord, rest)
line_read c xs rest h = as_field c (xs ++ 10 ∷ rest) (unlike c h.0) ∙ on_line (10 ∷ rest) rest (at_line_feed rest) false (c ∷ xs) [] [] h

-- a text that begins with a byte of a line has no byte order mark
pub unmarked : (c : ℕ) (xs : List ℕ) → is_of_line c ≡ true → strip_bom (c ∷ xs) ≡ c ∷ xs
unfolding strip_bom
unmarked c [] h = refl
unmarked c (d ∷ []) h = refl
unmarked c (d ∷ e ∷ xs) h = rw ((unlike c h).mark) refl
