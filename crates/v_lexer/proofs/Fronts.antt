-- The longest name or mark at the front of a text.
use Rattle.std.specs.Char.{is_ascii_digit}
use Rattle.std.specs.List.{list_all, take_while}
use Rattle.std.proofs.Common.{◌≡◌, ℕ, ◌<◌, ◌≤◌, Bool, true, false, cond, Some, List, [], ◌∷◌, ◌++◌, length, take, drop, get_or, refl, sym, ap, ◌∙◌, subst, arith, length-take, take-append-drop}
use Rattle.std.proofs.lemmas.Bool.{false_from_ne_true}
use Rattle.rb_grammar.specs.Separators.{begins_separator}
use Rattle.rb_grammar.specs.Lexemes.{has_form}
use Rattle.rb_grammar.specs.Spelling.{IsNext, NoLexeme, no_lexeme}
use Rattle.rb_grammar.proofs.Lexing.{next_by_length}
use Rattle.rb_grammar.proofs.Scanning.{run_passes, run_cons, run_longest, run_taken}
use Rattle.v_design.specs.Lexemes.{Word, Name, among, is_name, is_name_start, is_name_byte, reserved_words, marks, verilog}
use Rattle.v_design.proofs.Tests.{and-left, and-right}
use Rattle.v_design.proofs.Spelling.{is_mark_byte, name_form, name_meaning, name_begins, mark_form, mark_meaning}
use Rattle.v_syntax.specs.Tokens.{token_of}
use Rattle.v_syntax.specs.declared.token.VKind.{VKind}
use Rattle.v_syntax.specs.declared.token.VKind.TheVariants as kinds
use Rattle.v_lexer.specs.Reading.{begins, is_of_kind, IsLexeme, HasFault, word_kind, IsMarkLen}

-- no front with a form is longer
abbrev pub IsBound : ℕ → List ℕ → Type 0
IsBound n text = (other after : List ℕ) → text ≡ other ++ after → has_form verilog other ≡ true → length other ≤ n

pub next_by : (n : ℕ) (text : List ℕ) → n ≤ length text → begins_separator true text ≡ false → has_form verilog (take n text) ≡ true → IsBound n text → IsNext verilog text (take n text) (drop n text)
unfolding verilog
next_by n text within bare form bound = next_by_length verilog text (take n text) (drop n text) (sym (take-append-drop n text)) bare form
    (λ other after e f. omega (arith, bound other after e f, length-take n text))

pub begins_front : (test : ℕ → Bool) (text other after : List ℕ) → begins test text ≡ true → text ≡ other ++ after → 0 < length other → begins test other ≡ true
begins_front test text [] after h e l = absurd (omega (arith, l))
begins_front test text (y ∷ ys) after h e l = subst (λ z. begins test z ≡ true) e h

-- Names.

name_passes : (word : List ℕ) → is_name word ≡ true → list_all is_name_byte word ≡ true
name_passes [] h = cc
name_passes (b ∷ bs) h = rw (and-left (is_name_start b) (list_all is_name_byte bs) h) (and-right (is_name_start b) (list_all is_name_byte bs) h)

name_starts : (b : ℕ) → is_name_start b ≡ true → is_name_byte b ≡ true
name_starts b h = rw h refl

name_taken : (n b : ℕ) (bs : List ℕ) → is_name_start b ≡ true → n ≡ length (take_while is_name_byte (b ∷ bs)) → take n (b ∷ bs) ≡ b ∷ take_while is_name_byte bs
name_taken n b bs h e = run_taken is_name_byte n (b ∷ bs) e ∙ run_cons is_name_byte b bs (name_starts b h)

name_bound : (n b : ℕ) (bs : List ℕ) → is_name_start b ≡ true → n ≡ length (take_while is_name_byte (b ∷ bs)) → IsBound n (b ∷ bs)
name_bound n b bs h e [] after f w = omega arith
name_bound n b bs h e (y ∷ ys) after f w =
    let same : b ≡ y = cc in
    let name : is_name (y ∷ ys) ≡ true = sym (name_form (y ∷ ys) (subst (λ z. is_name_start z ≡ true) same h)) ∙ w in
    omega (arith, e, run_longest is_name_byte (b ∷ bs) (y ∷ ys) after f (name_passes (y ∷ ys) name))

word_means : (r : Bool) (word : List ℕ) → among reserved_words word ≡ r → is_name word ≡ true → (cond r (Word word) (Name word) ≡ token_of (cond r kinds.Word kinds.Id) word) × (is_of_kind (cond r kinds.Word kinds.Id) word ≡ true)
word_means true word e h = (refl, e)
word_means false word e h = (refl, rw (h, e) refl)

pub word_lexeme : (n : ℕ) (text : List ℕ) (kind : VKind) → begins_separator true text ≡ false → begins is_name_start text ≡ true → n ≡ length (take_while is_name_byte text) → kind ≡ word_kind (take n text) → IsLexeme text n kind
word_lexeme n [] kind bare h e k = cc
word_lexeme n (b ∷ bs) kind bare h e k =
    let taken = name_taken n b bs h e in
    let name : is_name (take n (b ∷ bs)) ≡ true = rw (taken, h) (run_passes is_name_byte bs) in
    let form : has_form verilog (take n (b ∷ bs)) ≡ true = name_form (take n (b ∷ bs)) (name_begins (take n (b ∷ bs)) name) ∙ name in
    let within : n ≤ length (b ∷ bs) = omega (arith, e, ap length (run_taken is_name_byte n (b ∷ bs) e), length-take n (b ∷ bs)) in
    let means = word_means (among reserved_words (take n (b ∷ bs))) (take n (b ∷ bs)) refl name in
    record {
      within = within;
      next = next_by n (b ∷ bs) within bare form (name_bound n b bs h e);
      means = rw k (name_meaning (take n (b ∷ bs)) name ∙ ap Some means.0);
      of_kind = rw k means.1;
    }

-- Marks.

mark_byte : (b : ℕ) → is_name_start b ≡ false → is_ascii_digit b ≡ false → is_mark_byte b ≡ true
mark_byte b h k = rw (h, k) refl

mark_begins : (text : List ℕ) → is_name_start (get_or text 0 0) ≡ false → is_ascii_digit (get_or text 0 0) ≡ false → 0 < length text → begins is_mark_byte text ≡ true
mark_begins [] h k l = absurd (omega (arith, l))
mark_begins (b ∷ bs) h k l = mark_byte b h k

-- what has a form at the front is a mark
is_mark : (text other after : List ℕ) → begins is_mark_byte text ≡ true → text ≡ other ++ after → 0 < length other → has_form verilog other ≡ true → among marks other ≡ true
is_mark text other after h e l f = sym (mark_form other (begins_front is_mark_byte text other after h e l)) ∙ f

mark_bound : (n : ℕ) (text : List ℕ) → begins is_mark_byte text ≡ true → IsMarkLen text n → IsBound n text
mark_bound n text h m [] after e f = omega arith
mark_bound n text h m (y ∷ ys) after e f = m.longest (y ∷ ys) after e (is_mark text (y ∷ ys) after h e (omega arith) f)

pub mark_lexeme : (n : ℕ) (text : List ℕ) → begins_separator true text ≡ false → is_name_start (get_or text 0 0) ≡ false → is_ascii_digit (get_or text 0 0) ≡ false → 0 < n → IsMarkLen text n → IsLexeme text n kinds.Mark
mark_lexeme n text bare h k l m =
    let first = mark_begins text h k (omega (arith, l, m.within)) in
    let mark = m.found l in
    let front = begins_front is_mark_byte text (take n text) (drop n text) first (sym (take-append-drop n text)) (omega (arith, l, m.within, length-take n text)) in
    record {
      within = m.within;
      next = next_by n text m.within bare (mark_form (take n text) front ∙ mark) (mark_bound n text first m);
      means = mark_meaning (take n text) mark;
      of_kind = mark;
    }

no_mark : (text : List ℕ) → begins is_mark_byte text ≡ true → IsMarkLen text 0 → (word rest : List ℕ) → text ≡ word ++ rest → has_form verilog word ≡ false
no_mark text h m [] rest e = refl
no_mark text h m (y ∷ ys) rest e = false_from_ne_true (has_form verilog (y ∷ ys)) (λ f. omega (arith, mark_bound 0 text h m (y ∷ ys) rest e f))

pub mark_fault : (text : List ℕ) → 0 < length text → begins_separator true text ≡ false → is_name_start (get_or text 0 0) ≡ false → is_ascii_digit (get_or text 0 0) ≡ false → IsMarkLen text 0 → HasFault text
unfolding verilog
mark_fault [] l bare h k m = absurd (omega (arith, l))
mark_fault (b ∷ bs) l bare h k m = (NoLexeme b, no_lexeme bare (no_mark (b ∷ bs) (mark_byte b h k) m))
