-- What a scanner concludes: the next lexeme, and that tokens take bytes.
use Rattle.std.specs.Str.{bytes_eq}
use Rattle.std.specs.List.{take_while, list_all}
use Rattle.std.proofs.Common.{◌≡◌, ℕ, ◌+◌, ◌<◌, ◌≤◌, Bool, true, false, List, [], ◌∷◌, ◌++◌, length, take, drop, refl, ap, sym, ◌∙◌, subst, arith, append_assoc, length-append, length-drop, take-append-drop, Option, Some, None, cond, ◌⊎◌, inl, inr}
use Rattle.std.proofs.lemmas.Bool.{and_parts, both_ways, false_from_ne_true}
use Rattle.std.proofs.lemmas.Slice.Eq.{bytes_eq-Decides}
use Rattle.rb_grammar.specs.Separators.{Skips, stay, skip, IsOpenComment, opened, begins_separator}
use Rattle.rb_grammar.specs.Lexemes.{Lexicon, has_form, spelled}
use Rattle.rb_grammar.specs.Spelling.{At, OpenComment, IsNext, StartsWith, open_comment, FailsAt}
use Rattle.rb_grammar.proofs.Scanning.{run_passes, run_cons, run_longest, run_taken}

module _ {T : Type 0} (L : Lexicon T) where
  none_longer : (word rest more after : List ℕ) → rest ≡ more ++ after → length (word ++ more) ≤ length word → more ≡ []
  none_longer word rest [] after e l = refl
  none_longer word rest (b ∷ bs) after e l = absurd (omega (arith, l, length-append word (b ∷ bs)))

  -- A lexeme that no other at the front exceeds is the longest.
  pub next_by_length : (left word rest : List ℕ) → left ≡ word ++ rest → begins_separator L.comments left ≡ false → has_form L word ≡ true
      → ((other after : List ℕ) → left ≡ other ++ after → has_form L other ≡ true → length other ≤ length word) → IsNext L left word rest
  next_by_length left word rest e b f h = record {
    whole = e;
    bare = b;
    form = f;
    longest = λ more after g k. none_longer word rest more after g (h (word ++ more) after (e ∙ (ap (λ z. word ++ z) g ∙ sym (append_assoc word more after))) k);
  }

  -- Where the lexemes that begin with a byte are the runs of a test, the longest is the whole run.
  pub next_by_run : (p : ℕ → Bool) (b : ℕ) (bs : List ℕ) (n : ℕ) → begins_separator L.comments (b ∷ bs) ≡ false → p b ≡ true → ((w : List ℕ) → has_form L (b ∷ w) ≡ list_all p w)
      → n ≡ length (take_while p (b ∷ bs)) → IsNext L (b ∷ bs) (take n (b ∷ bs)) (drop n (b ∷ bs))
  next_by_run p b bs n bare first forms e =
      let run : take n (b ∷ bs) ≡ b ∷ take_while p bs = run_taken p n (b ∷ bs) e ∙ run_cons p b bs first in
      next_by_length (b ∷ bs) (take n (b ∷ bs)) (drop n (b ∷ bs)) (sym (take-append-drop n (b ∷ bs))) bare (ap (has_form L) run ∙ (forms (take_while p bs) ∙ run_passes p bs))
      (λ other after g k. subst (λ z. length other ≤ length z) (sym (run_taken p n (b ∷ bs) e)) (run_longest p (b ∷ bs) other after g (passes other after g k)))
    where
      passes : (other after : List ℕ) → b ∷ bs ≡ other ++ after → has_form L other ≡ true → list_all p other ≡ true
      passes [] after g k = refl
      passes (c ∷ cs) after g k =
          let same : b ≡ c = cc in
          let rest : list_all p cs ≡ true = sym (forms cs) ∙ (ap (λ z. has_form L (z ∷ cs)) same ∙ k) in
          rw (← same, first) rest

  skips_shorter : {c : Bool} {text left : List ℕ} → Skips c text left → length left ≤ length text
  skips_shorter stay = omega arith
  skips_shorter (skip s r e p q) = omega (arith, ap length e, length-append s r, skips_shorter q)

  word_some : (word : List ℕ) → has_form L word ≡ true → 0 < length word
  word_some [] h = cc
  word_some (b ∷ bs) h = omega arith

  -- Each token takes a byte at least.
  pub starts_shorter : (size : ℕ) (text : List ℕ) (t : At T) (rest : List ℕ) → StartsWith L size text t rest → length rest < length text
  starts_shorter size text t rest a = omega (arith, skips_shorter a.skips, ap length a.next.whole, length-append a.word rest, word_some a.word a.next.form)

  -- A comment that is not closed, as a scan of the separators finds it.
  pub fails_open : (text : List ℕ) (n place : ℕ) → n ≤ length text → L.comments ≡ true → Skips L.comments text (drop n text) → IsOpenComment (drop n text) → FailsAt L (place + length text) text OpenComment (place + n)
  fails_open text n place l c s (opened body e h) = record { left = drop n text; skips = s; fault = open_comment body c e h; at = omega (arith, length-drop n text) }

-- What is spelled.

module _ {M : Type 0} (spelling : M → List ℕ) where
  found_or : (b : Bool) (m n : M) (o : Option M) → cond b (Some m) o ≡ Some n → ((b ≡ true) × (m ≡ n)) ⊎ (o ≡ Some n)
  found_or true m n o h = inl (refl, cc)
  found_or false m n o h = inr h

  pub spelled_is : (ms : List M) (word : List ℕ) (n : M) → spelled spelling ms word ≡ Some n → word ≡ spelling n
  spelled_is [] word n h = cc
  spelled_is (m ∷ ms) word n h = elim (found_or (bytes_eq (spelling m) word) m n (spelled spelling ms word) h) [
    | inl p ↦ sym ((bytes_eq-Decides (spelling m) word).0 p.0) ∙ ap spelling p.1
    | inr q ↦ spelled_is ms word n q
  ]

  -- the first byte passes
  abbrev pub begins_by : (ℕ → Bool) → List ℕ → Bool
  begins_by p [] = false
  begins_by p (b ∷ bs) = p b

  not_spelled : (p : ℕ → Bool) (s : List ℕ) (b : ℕ) (w : List ℕ) → begins_by p s ≡ true → p b ≡ false → bytes_eq s (b ∷ w) ≡ false
  not_spelled p [] b w h k = refl
  not_spelled p (c ∷ s) b w h k = false_from_ne_true (bytes_eq (c ∷ s) (b ∷ w)) (λ e.
      let q : c ∷ s ≡ b ∷ w = (bytes_eq-Decides (c ∷ s) (b ∷ w)).0 e in
      let same : c ≡ b = cc in
      both_ways (p b) k (sym (ap p same) ∙ h))

  -- where no spelling begins with such a byte
  pub spelled_by : (p : ℕ → Bool) (ms : List M) (b : ℕ) (w : List ℕ) → list_all (λ m. begins_by p (spelling m)) ms ≡ true → p b ≡ false → spelled spelling ms (b ∷ w) ≡ None
  spelled_by p [] b w h k = refl
  spelled_by p (m ∷ ms) b w h k =
      let q = and_parts (begins_by p (spelling m)) (list_all (λ n. begins_by p (spelling n)) ms) h in
      rw (not_spelled p (spelling m) b w q.0 k) (spelled_by p ms b w q.1 k)
