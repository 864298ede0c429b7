use Rattle.std.proofs.Common.{◌≡◌, ◌<◌, ℕ, ◌-◌, ◌∷◌, Some, List, false, not, drop, get_or, length, position, take, ap, sym, ◌∙◌, arith}
use Rattle.std.proofs.lemmas.List.{length-drop, get_or-drop}
use Rattle.drive_lang.specs.Lines.{is_blank, words_of}
use Rattle.drive_lang.proofs.Splitting.{begins, from_word, last_word, no_word, word_before}
use Rattle.plain_lemmas.proofs.Lists.{take-rest as past}
use Rattle.drive_lang.proofs.words.first_word.Goals as goal

-- what stands from the first word on
record IsRest (line rest : List ℕ) : Type 0 where
  some : 0 < length rest
  first : is_blank (get_or rest 0 0) ≡ false
  words : words_of line ≡ words_of rest

is_rest : (line : List ℕ) (start : ℕ) → position (λ b. not (is_blank b)) line ≡ Some start → IsRest line (take (length line - start) (drop start line))
is_rest line start at =
    let b = begins line start at in
    rw (past line start) (record {
      some = omega (arith, length-drop start line, b.0);
      first = ap is_blank (get_or-drop start line 0 0 ∙ ap (λ i. get_or line i 0) (omega arith)) ∙ b.1;
      words = from_word line start at;
    })

pub returns-in_default : goal.returns-in_default
returns-in_default c = no_word c.args.line.now (sym c.start_of_word.ensures ∙ c.in_default.is)

pub returns-in-Some-end_of_word : goal.returns-in-Some-end_of_word
returns-in-Some-end_of_word c =
    let line = c.args.line.now in
    let start = c.in-Some.start in
    let end = c.in-Some-end_of_word.end in
    let rest = take (length line - start) (drop start line) in
    let r = is_rest line start (sym c.start_of_word.ensures ∙ c.in-Some.is) in
    r.words ∙ word_before rest end r.some r.first (sym c.end_of_word.ensures ∙ c.in-Some-end_of_word.is) ∙ ap (λ xs. take end rest ∷ words_of xs) (sym (past rest end))

pub returns-in-None : goal.returns-in-None
returns-in-None c =
    let line = c.args.line.now in
    let start = c.in-Some.start in
    let rest = take (length line - start) (drop start line) in
    let r = is_rest line start (sym c.start_of_word.ensures ∙ c.in-Some.is) in
    r.words ∙ last_word rest r.some (sym c.end_of_word.ensures ∙ c.in-None.is)
