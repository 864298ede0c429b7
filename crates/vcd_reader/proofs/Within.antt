-- What is read lies within the text.
use Rattle.std.specs.List.{AllByRecursion}
use Rattle.std.specs.Prelude.{◌≢◌, filter}
use Rattle.std.proofs.Common.{inl, inr, ℕ, suc, ◌<◌, ◌≤◌, Bool, true, false, cond, List, [], ◌∷◌, ◌++◌, length, map, ap, sym, ◌∙◌, subst, arith, length-append}
use Rattle.std.proofs.lemmas.List.{length-map, map-append}
use Rattle.plain_lemmas.proofs.Lists.{each-left, each-right}
use Rattle.rb_grammar.specs.Spelling.{SpellsFrom}
use Rattle.vcd_syntax.specs.Words.{vcd}
use Rattle.vcd_syntax.specs.Tokens.{Word, Token}
use Rattle.vcd_syntax.specs.Grammar.{same}
use Rattle.vcd_syntax.specs.declared.error.VcdError.{VcdError}
use Rattle.vcd_syntax.specs.declared.error.VcdError.TheVariants as error
use Rattle.vcd_syntax.specs.declared.kind.Kind.{Kind}
use Rattle.vcd_syntax.specs.declared.kind.Kind.TheVariants as kind
use Rattle.vcd_syntax.specs.Faulty.{Problem}
use Rattle.vcd_syntax.specs.Meaning.{words_of}
use Rattle.vcd_syntax.specs.Reading.{place_in, Has, Fails}
use Rattle.vcd_syntax.specs.declared.state.State.{State}
use Rattle.vcd_syntax.specs.Known.{Known}
use Rattle.vcd_syntax.specs.Reads.{words, Reads}
use Rattle.vcd_syntax.proofs.Judging.{Placed, here, before_it, placed, within, next_place}
use Rattle.vcd_reader.specs.Reading.{place_number}

abbrev IsWithin : List ℕ → Word → Type 0
IsWithin text w = w.place < length text

stop_within : (text : List ℕ) (ws : List Word) → AllByRecursion (IsWithin text) ws → place_in (length text) ws ≤ length text
stop_within text [] h = omega arith
stop_within text (w ∷ ws) h = omega (arith, h.0)

last_of : (text : List ℕ) (ws : List Word) (w : Word) → AllByRecursion (IsWithin text) (ws ++ (w ∷ [])) → w.place < length text
last_of text ws w h = (each-right (IsWithin text) ws (w ∷ []) h).0

at_word : (text : List ℕ) (before : List Token) (last : Token) (p : Problem) (k : ℕ) → AllByRecursion (IsWithin text) (words (before ++ (last ∷ []))) → Placed before last p k → k ≤ length text
at_word text before last p k h f = go (subst (AllByRecursion (IsWithin text)) (map-append (λ m. m.word) before (last ∷ [])) h) f
  where
    go : AllByRecursion (IsWithin text) (words before ++ (last.word ∷ [])) → Placed before last p k → k ≤ length text
    go g (here e) = let l = last_of text (words before) last.word g in omega (arith, e, l)
    go g (before_it front bits e q s i) =
        let b = each-left (IsWithin text) (words before) (last.word ∷ []) g in
        let l = last_of text (words front) bits.word (subst (AllByRecursion (IsWithin text)) (ap words s ∙ map-append (λ m. m.word) front (bits ∷ [])) b) in
        omega (arith, i, l)

has_within : (text : List ℕ) (p : Problem) (k : ℕ) → Has text p k → k ≤ length text
has_within text p k (inl h) =
    let s = h.1 in
    let all = within (length text) text (s.front ++ s.left) s.spelled in
    let l = stop_within text s.left (each-right (IsWithin text) s.front s.left all) in
    omega (arith, s.at, l)
has_within text p k (inr f) =
    let all = within (length text) text (f.front ++ f.left) f.spelled in
    at_word text f.before f.last p k (subst (AllByRecursion (IsWithin text)) (sym f.begun.are) (each-left (IsWithin text) f.front f.left all)) (placed f.before f.last p k f.faulty)

-- The place of an error is within the text.
pub error_within : (text : List ℕ) (e : VcdError) → Fails text e → place_number e ≤ length text
error_within text (error.Form p) h = has_within text _ p.0 h.has
error_within text (error.Twice p) h = has_within text _ p.0 h.has
error_within text (error.Code p) h = has_within text _ p.0 h.has
error_within text (error.Value p) h = has_within text _ p.0 h.has
error_within text (error.Time p) h = has_within text _ p.0 h.has
error_within text (error.Many p) h = has_within text _ p.0 h.has
error_within text (error.NoValue i) h = omega arith
error_within text error.NoMemory h = omega arith

pub inside_of : (text : List ℕ) (e : VcdError) → (e ≢ error.NoMemory → Fails text e) → place_number e ≤ length text
inside_of text (error.Form p) h = error_within text (error.Form p) (h (λ q. cc))
inside_of text (error.Twice p) h = error_within text (error.Twice p) (h (λ q. cc))
inside_of text (error.Code p) h = error_within text (error.Code p) (h (λ q. cc))
inside_of text (error.Value p) h = error_within text (error.Value p) (h (λ q. cc))
inside_of text (error.Time p) h = error_within text (error.Time p) (h (λ q. cc))
inside_of text (error.Many p) h = error_within text (error.Many p) (h (λ q. cc))
inside_of text (error.NoValue i) h = omega arith
inside_of text error.NoMemory h = omega arith

few_words : (size : ℕ) (text : List ℕ) (ws : List Word) → SpellsFrom vcd size text ws → length ws ≤ length text
few_words size text [] h = omega arith
few_words size text (w ∷ ws) h =
    let p = next_place size text h.0 w h.1 in
    let l = few_words size h.0 ws h.2 in
    omega (arith, p.2, p.3, l)

few_of : (x : Kind) (ms : List Token) → length (words_of x ms) ≤ length ms
few_of x [] = omega arith
few_of x (m ∷ ms) = at (same x m.kind) (few_of x ms)
  where
    at : (b : Bool) → length (words_of x ms) ≤ length ms → length (map (λ (z : Token). z.word.token) (cond b (m ∷ filter (λ (z : Token). same x z.kind) ms) (filter (λ (z : Token). same x z.kind) ms))) ≤ suc (length ms)
    at true l = omega (arith, l)
    at false l = omega (arith, l)

-- There are fewer codes than bytes.
pub few_codes : (text : List ℕ) (left : List Word) (s : State) (k : Known) (place : ℕ) → Reads text left s k place → length k.codes ≤ length text
few_codes text left s k place r =
    let c = few_of kind.Code r.ms in
    let all = few_words (length text) text (words r.ms ++ left) r.read.spelled in
    omega (arith, c, all, ap length r.knows.codes, length-append (words r.ms) left, length-map r.ms (λ m. m.word))
