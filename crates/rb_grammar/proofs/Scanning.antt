-- What a scan of a text from its front finds.
use Rattle.std.specs.List.{take_while, list_all, prefix_len}
use Rattle.std.proofs.Common.{◌≡◌, ℕ, suc, ◌+◌, ◌-◌, ◌<◌, ◌≤◌, Bool, true, false, cond, List, [], ◌∷◌, ◌++◌, length, take, drop, get_or, codes, refl, ap, sym, ◌∙◌, subst, arith, length-append, take-append-drop, drop-cons, length-take, length-drop, append_assoc}
use Rattle.std.proofs.lemmas.List.{get_or_at, get_or-append-add, get_or-take, take_at, drop-drop}
use Rattle.std.proofs.lemmas.Bool.{and_parts}
use Rattle.std.proofs.lemmas.Bool.Decides.{nat_tests}
use Rattle.std.proofs.lemmas.Grind.{common_steps}
use Rattle.std.proofs.lemmas.List.Sums.{take_while-cons}
use Rattle.std.proofs.lemmas.List.Folds.{length-prefix_len}
use Rattle.rb_grammar.specs.Separators.{is_blank, is_in_line, EndsLine, Lacks, IsSeparator, blank, line_comment, block_comment, LeadsBy, IsOpenComment, opened, Skips, stay, skip}

-- The longest run of bytes that pass a test.

run_passes_at : (p : ℕ → Bool) (x : ℕ) (xs : List ℕ) (b : Bool) → p x ≡ b → list_all p (take_while p xs) ≡ true → list_all p (cond b (x ∷ take_while p xs) []) ≡ true
run_passes_at p x xs true e h = rw e h
run_passes_at p x xs false e h = refl

pub run_passes : (p : ℕ → Bool) (xs : List ℕ) → list_all p (take_while p xs) ≡ true
run_passes p [] = refl
run_passes p (x ∷ xs) = subst (λ z. list_all p z ≡ true) (sym (take_while-cons p x xs)) (run_passes_at p x xs (p x) refl (run_passes p xs))

pub run_cons : (p : ℕ → Bool) (x : ℕ) (xs : List ℕ) → p x ≡ true → take_while p (x ∷ xs) ≡ x ∷ take_while p xs
run_cons p x xs e = take_while-cons p x xs ∙ ap (λ b. cond b (x ∷ take_while p xs) []) e

-- No longer front passes.
pub run_longest : (p : ℕ → Bool) (xs other more : List ℕ) → xs ≡ other ++ more → list_all p other ≡ true → length other ≤ length (take_while p xs)
run_longest p xs [] more e h = omega arith
run_longest p [] (y ∷ ys) more e h = cc
run_longest p (x ∷ xs) (y ∷ ys) more e h =
    let parts = and_parts (p y) (list_all p ys) h in
    let same : x ≡ y = cc in
    let rest : xs ≡ ys ++ more = cc in
    let px : p x ≡ true = ap p same ∙ parts.0 in
    let le = run_longest p xs ys more rest parts.1 in
    subst (λ z. length (y ∷ ys) ≤ length z) (sym (run_cons p x xs px)) (omega (arith, le))

-- the run as the code takes it
pub run_taken : (p : ℕ → Bool) (n : ℕ) (xs : List ℕ) → n ≡ length (take_while p xs) → take n xs ≡ take_while p xs
run_taken p n xs e = ap (λ k. take k xs) (e ∙ length-prefix_len p xs)

run_within : (p : ℕ → Bool) (xs : List ℕ) → length (take_while p xs) ≤ length xs
run_within p xs = omega (arith, length-take (prefix_len p xs) xs)

-- Two bytes at a place.

pair_at : (text before after : List ℕ) (a b : ℕ) → text ≡ before ++ (a ∷ b ∷ after) → (length before + 1 < length text) × (get_or text (length before) 0 ≡ a) × (get_or text (length before + 1) 0 ≡ b)
pair_at text before after a b e = (
  omega (arith, ap length e, length-append before (a ∷ b ∷ after)),
  ap (λ z. get_or z (length before) 0) e ∙ get_or_at before a (b ∷ after) 0 (length before) refl,
  ap (λ z. get_or z (length before + 1) 0) e ∙ get_or-append-add before (a ∷ b ∷ after) 1 0,
)

-- Where a mark of two bytes stands at no place so far, the text lacks it so far.
pub lacks_so_far : (a b i : ℕ) (text : List ℕ) → ((k : ℕ) → k + 1 < i → get_or text k 0 ≡ a → get_or text (k + 1) 0 ≡ b → ⊥) → Lacks (take i text) (a ∷ b ∷ [])
lacks_so_far a b i text h before after e =
    let p = pair_at (take i text) before after a b e in
    let k = length before in
    let within : k + 1 < i = omega (arith, p.0, length-take i text) in
    h k within (sym (get_or-take i text k 0 (omega arith)) ∙ p.1) (sym (get_or-take i text (k + 1) 0 within) ∙ p.2)

pub lacks_all : (a b i : ℕ) (text : List ℕ) → length text ≤ i → ((k : ℕ) → k + 1 < i → get_or text k 0 ≡ a → get_or text (k + 1) 0 ≡ b → ⊥) → Lacks text (a ∷ b ∷ [])
lacks_all a b i text l h before after e =
    let p = pair_at text before after a b e in
    h (length before) (omega (arith, p.0)) p.1 p.2

pub split_at : (i : ℕ) (text : List ℕ) → 1 ≤ i → i < length text → get_or text (i - 1) 0 ≡ 42 → get_or text i 0 ≡ 47 → text ≡ take (i - 1) text ++ (42 ∷ 47 ∷ drop (i - 1 + 2) text)
split_at i text p h e f =
    let one : drop (i - 1) text ≡ get_or text (i - 1) 0 ∷ drop (suc (i - 1)) text = drop-cons text (i - 1) 0 (omega arith) in
    let same : suc (i - 1) ≡ i = omega arith in
    let two : drop i text ≡ get_or text i 0 ∷ drop (suc i) text = drop-cons text i 0 h in
    let last : suc i ≡ i - 1 + 2 = omega arith in
    sym (take-append-drop (i - 1) text) ∙ ap (λ z. take (i - 1) text ++ z) (one ∙ (ap (λ z. get_or text (i - 1) 0 ∷ drop z text) same ∙ (ap (λ z. get_or text (i - 1) 0 ∷ z) two
    ∙ (ap (λ z. z ∷ get_or text i 0 ∷ drop (suc i) text) e ∙ (ap (λ z. 42 ∷ z ∷ drop (suc i) text) f ∙ ap (λ z. 42 ∷ 47 ∷ drop z text) last)))))

-- A separator at the front of a text.

pub leads_blank : (c : Bool) (text : List ℕ) → 1 ≤ length text → is_blank (get_or text 0 0) ≡ true → LeadsBy c text 1
leads_blank c [] l h = absurd (omega arith)
leads_blank c (b ∷ bs) l h = record { within = l; found = λ p. blank h; none = λ e. absurd (omega arith) }

-- what the code passes as the text behind two bytes
behind_two : (x y : ℕ) (bs : List ℕ) → take (length (x ∷ y ∷ bs) - 2) (drop 2 (x ∷ y ∷ bs)) ≡ bs
behind_two x y bs = grind (arith, common_steps)

run_ends_at : (b : Bool) (x : ℕ) (xs : List ℕ) → is_in_line x ≡ b → EndsLine (drop (length (take_while is_in_line xs)) xs) → EndsLine (drop (length (cond b (x ∷ take_while is_in_line xs) [])) (x ∷ xs))
run_ends_at true x xs e h = h
run_ends_at false x xs e h = grind (arith, nat_tests)

run_ends : (xs : List ℕ) → EndsLine (drop (length (take_while is_in_line xs)) xs)
run_ends [] = tt
run_ends (x ∷ xs) = subst (λ z. EndsLine (drop (length z) (x ∷ xs))) (sym (take_while-cons is_in_line x xs)) (run_ends_at (is_in_line x) x xs refl (run_ends xs))

pub leads_line : (c : Bool) (text : List ℕ) (n : ℕ) → c ≡ true → 2 ≤ length text → get_or text 0 0 ≡ 47 → get_or text 1 0 ≡ 47
    → n ≡ length (take_while is_in_line (take (length text - 2) (drop 2 text))) → LeadsBy c text (2 + n)
leads_line c [] n p l e f r = absurd (omega arith)
leads_line c (x ∷ []) n p l e f r = absurd (omega arith)
leads_line c (x ∷ y ∷ bs) n p l e f r =
    let run : n ≡ length (take_while is_in_line bs) = r ∙ ap (λ z. length (take_while is_in_line z)) (behind_two x y bs) in
    let two : 2 + n ≡ suc (suc n) = omega arith in
    let front : take (2 + n) (x ∷ y ∷ bs) ≡ codes "//" ++ take_while is_in_line bs = rw (two, e, f, run_taken is_in_line n bs run) refl in
    let left : drop (2 + n) (x ∷ y ∷ bs) ≡ drop (length (take_while is_in_line bs)) bs = rw (two, run) refl in
    record {
      within = (let k = run_within is_in_line bs in omega arith);
      found = λ q. line_comment (take_while is_in_line bs) p front (run_passes is_in_line bs) (rw left (run_ends bs));
      none = λ k. absurd (omega arith);
    }

block_leads : (c : Bool) (text body rest : List ℕ) (n : ℕ) → c ≡ true → Lacks body (codes "*/") → length body ≡ n → text ≡ codes "/*" ++ (body ++ (codes "*/" ++ rest)) → LeadsBy c text (4 + n)
block_leads c text body rest n p h l e =
    let separator = codes "/*" ++ (body ++ codes "*/") in
    let inner : length (body ++ codes "*/") ≡ n + 2 = omega (arith, length-append body (codes "*/"), l) in
    let split : text ≡ separator ++ rest = e ∙ ap (λ z. 47 ∷ 42 ∷ z) (sym (append_assoc body (codes "*/") rest)) in
    let front : take (4 + n) text ≡ separator = ap (λ z. take (4 + n) z) split ∙ take_at separator rest (4 + n) (omega (arith, inner)) in
    record {
      within = omega (arith, ap length split, length-append separator rest, inner);
      found = λ q. block_comment body p front h;
      none = λ k. absurd (omega (arith, k));
    }

pub leads_block : (c : Bool) (text : List ℕ) (n : ℕ) → c ≡ true → 2 ≤ length text → get_or text 0 0 ≡ 47 → get_or text 1 0 ≡ 42
    → Lacks (take n (take (length text - 2) (drop 2 text))) (codes "*/") × (take (length text - 2) (drop 2 text) ≡ take n (take (length text - 2) (drop 2 text)) ++ (codes "*/" ++ drop (n + 2) (take (length text - 2) (drop 2 text))))
    → LeadsBy c text (4 + n)
leads_block c [] n p l e f r = absurd (omega arith)
leads_block c (x ∷ []) n p l e f r = absurd (omega arith)
leads_block c (x ∷ y ∷ bs) n p l e f r = block_leads c (x ∷ y ∷ bs) (take n bs) (drop (n + 2) bs) n p (rw behind_two at r.0) long whole
  where
    body : bs ≡ take n bs ++ (codes "*/" ++ drop (n + 2) bs)
    body = rw behind_two at r.1

    long : length (take n bs) ≡ n
    long = omega (arith, length-take n bs, ap length body, length-append (take n bs) (codes "*/" ++ drop (n + 2) bs), length-drop (n + 2) bs)

    whole : x ∷ y ∷ bs ≡ codes "/*" ++ (take n bs ++ (codes "*/" ++ drop (n + 2) bs))
    whole = ap (λ z. z ∷ y ∷ bs) e ∙ (ap (λ z. 47 ∷ z ∷ bs) f ∙ ap (λ z. 47 ∷ 42 ∷ z) body)

pub opens : (text : List ℕ) → 2 ≤ length text → get_or text 0 0 ≡ 47 → get_or text 1 0 ≡ 42 → Lacks (take (length text - 2) (drop 2 text)) (codes "*/") → IsOpenComment text
opens [] l e f h = absurd (omega arith)
opens (x ∷ []) l e f h = absurd (omega arith)
opens (x ∷ y ∷ bs) l e f h = opened bs (let p : x ≡ 47 = e in let q : y ≡ 42 = f in cc) (rw behind_two at h)

-- One more separator.
skips_on : (c : Bool) (text left rest : List ℕ) → Skips c text left → (separator : List ℕ) → left ≡ separator ++ rest → IsSeparator c separator rest → Skips c text rest
skips_on c text _ rest stay separator e k = skip separator rest e k stay
skips_on c text left rest (skip s r f p q) separator e k = skip s r f p (skips_on c r left rest q separator e k)

pub skip_more : (c : Bool) (text : List ℕ) (i n : ℕ) → i ≤ length text → Skips c text (drop i text) → LeadsBy c (take (length text - i) (drop i text)) n → 0 < n → (i + n ≤ length text) × Skips c text (drop (i + n) text)
skip_more c text i n l s h p =
    let left : take (length text - i) (drop i text) ≡ drop i text = grind (arith, common_steps) in
    let lead : LeadsBy c (drop i text) n = rw left at h in
    let rest : drop n (drop i text) ≡ drop (i + n) text = drop-drop n i text in (
      omega (arith, lead.within, length-drop i text),
      skips_on c text (drop i text) (drop (i + n) text) s (take n (drop i text))
          (sym (take-append-drop n (drop i text)) ∙ ap (λ z. take n (drop i text) ++ z) rest) (subst (λ z. IsSeparator c (take n (drop i text)) z) rest (lead.found p)),
    )
