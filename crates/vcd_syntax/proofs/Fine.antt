-- No word of a dump that was written is at fault: the front.
use Rattle.std.specs.Str.{bytes_eq}
use Rattle.std.specs.Fmt.{decimal}
use Rattle.std.specs.Cmp.Lexicographic.{bytes_decides}
use Rattle.std.specs.Prelude.{nat_lt, if◌then◌else◌}
use Rattle.std.proofs.Common.{◌≡◌, ℕ, ◌+◌, ◌-◌, ◌^◌, ◌<◌, ◌≤◌, Bool, true, false, not, ◌||◌, List, [], ◌∷◌, ◌++◌, codes, map, refl, ap, sym, ◌∙◌, subst, arith, append_assoc, append-nil}
use Rattle.std.proofs.lemmas.Bool.{and_parts, or_parts, or_from, both_ways, not-true, false_from_ne_true}
use Rattle.plain_lemmas.proofs.Lists.{list_any-append}
use Rattle.rb_base.specs.declared.ports.Pin.{Pin}
use Rattle.v_design.specs.Lexemes.{among}
use Rattle.v_design.specs.WellFormed.{distinct}
use Rattle.vcd_syntax.specs.declared.kind.Kind.TheVariants as kind
use Rattle.vcd_syntax.specs.Words.{decimal_value}
use Rattle.vcd_syntax.specs.Tokens.{Token}
use Rattle.vcd_syntax.specs.Meaning.{Event}
use Rattle.vcd_syntax.specs.Faulty.{Problem, IsFaulty}
use Rattle.vcd_syntax.specs.Dump.{code, end}
use Rattle.vcd_syntax.specs.Reads.{Knows}
use Rattle.vcd_syntax.specs.Known.{Known, more}
use Rattle.vcd_syntax.proofs.Knowing.{IsFine, knows_more, not_faulty}
use Rattle.vcd_syntax.proofs.Codes.{one_code}
use Rattle.vcd_syntax.proofs.Numerals.{decimal_value_of}
use Rattle.vcd_syntax.proofs.Marking.{Spoken, var_spoken, vars_spoken}

-- what is known after words of these kinds, and that each of them is fine
abbrev pub after_spoken : Known → Spoken → Known
after_spoken k [] = k
after_spoken k (x ∷ xs) = after_spoken (more x.0 x.1 k) xs

abbrev pub AllFine : Known → Spoken → Type 0
AllFine k [] = Unit {0}
AllFine k (x ∷ xs) = IsFine x.0 x.1 k × AllFine (more x.0 x.1 k) xs

pub fine_append : (k : Known) (xs ys : Spoken) → AllFine k xs → AllFine (after_spoken k xs) ys → AllFine k (xs ++ ys)
fine_append k [] ys a b = b
fine_append k (x ∷ xs) ys a b = (a.0, fine_append (more x.0 x.1 k) xs ys a.1 b)

pub after_append : (k : Known) (xs ys : Spoken) → after_spoken k (xs ++ ys) ≡ after_spoken (after_spoken k xs) ys
after_append k [] ys = refl
after_append k (x ∷ xs) ys = after_append (more x.0 x.1 k) xs ys

-- marks without their places
abbrev pub forget : List Token → Spoken
forget ms = map (λ m. (m.kind, m.word.token)) ms

pub knows_all : (before ms : List Token) (k : Known) → Knows before k → Knows (before ++ ms) (after_spoken k (forget ms))
knows_all before [] k h = subst (λ z. Knows z k) (sym (append-nil before)) h
knows_all before (m ∷ ms) k h = subst (λ z. Knows z (after_spoken k (forget (m ∷ ms)))) (append_assoc before (m ∷ []) ms) (knows_all (before ++ (m ∷ [])) ms (more m.kind m.word.token k) (knows_more before m k h))

-- Where each word is fine, none is at fault.
pub all_clean : (before ms : List Token) (k : Known) → Knows before k → AllFine k (forget ms) → (front : List Token) (m : Token) (behind : List Token) (p : Problem) (q : ℕ) → ms ≡ front ++ (m ∷ behind) → IsFaulty (before ++ front) m p q → ⊥
all_clean before [] k h f [] m behind p q e i = cc
all_clean before [] k h f (y ∷ front) m behind p q e i = cc
all_clean before (x ∷ ms) k h f [] m behind p q e i =
    let one : x ≡ m = cc in
    not_faulty before x k p q h f.0 (subst (λ z. IsFaulty before z p q) (sym one) (subst (λ z. IsFaulty z m p q) (append-nil before) i))
all_clean before (x ∷ ms) k h f (y ∷ front) m behind p q e i =
    let one : x ≡ y = cc in
    let rest : ms ≡ front ++ (m ∷ behind) = cc in
    let moved : before ++ (y ∷ front) ≡ (before ++ (x ∷ [])) ++ front = ap (λ z. before ++ (z ∷ front)) (sym one) ∙ sym (append_assoc before (x ∷ []) front) in
    all_clean (before ++ (x ∷ [])) ms (more x.kind x.word.token k) (knows_more before x k h) f.1 front m behind p q rest (subst (λ z. IsFaulty z m p q) moved i)

-- what is known of variables
abbrev pub known : (codes names : List (List ℕ)) (widths : List ℕ) → List Event → List ℕ → Known
known cs ns ws es w = record { codes = cs; names = ns; widths = ws; events = es; word = w }

-- the codes of pins numbered from k
abbrev pub codes_from : ℕ → List Pin → List (List ℕ)
codes_from k [] = []
codes_from k (p ∷ ps) = code k ∷ codes_from (k + 1) ps

abbrev pub names_of : List Pin → List (List ℕ)
names_of ps = map (λ p. p.name) ps

abbrev pub widths_of : List Pin → List ℕ
widths_of ps = map (λ p. p.width) ps

pub among-append : (xs ys : List (List ℕ)) (w : List ℕ) → among (xs ++ ys) w ≡ (among xs w || among ys w)
among-append xs ys w = list_any-append (λ x. bytes_eq x w) xs ys

not_among : (xs : List (List ℕ)) (x w : List ℕ) → among xs w ≡ false → (x ≡ w → ⊥) → among (xs ++ (x ∷ [])) w ≡ false
not_among xs x w h n =
    let e : bytes_eq x w ≡ false = false_from_ne_true (bytes_eq x w) (λ t. n ((bytes_decides x w).0 t)) in
    among-append xs (x ∷ []) w ∙ or_from (among xs w) (bytes_eq x w || false) h (or_from (bytes_eq x w) false e refl)

-- no code from k on is among these
abbrev pub AreFresh : ℕ → List (List ℕ) → Type 0
AreFresh k cs = (j : ℕ) → k ≤ j → among cs (code j) ≡ false

pub fresh_on : (k : ℕ) (cs : List (List ℕ)) → AreFresh k cs → AreFresh (k + 1) (cs ++ (code k ∷ []))
fresh_on k cs h j le = not_among cs (code k) (code j) (h j (omega (arith, le))) (λ e. let same = one_code k j e in absurd (omega (arith, same, le)))

-- no name is among those before it
abbrev pub AreNew : List (List ℕ) → List Pin → Type 0
AreNew ns [] = Unit {0}
AreNew ns (p ∷ ps) = (among ns p.name ≡ false) × AreNew (ns ++ (p.name ∷ [])) ps

var_known : (k : ℕ) (p : Pin) (cs ns : List (List ℕ)) (ws : List ℕ) (w : List ℕ) → p.width < 10 ^ 64 → after_spoken (known cs ns ws [] w) (var_spoken k p) ≡ known (cs ++ code k ∷ []) (ns ++ p.name ∷ []) (ws ++ p.width ∷ []) [] end
var_known k p cs ns ws w l = at (nat_lt 1 p.width) ∙ ap (λ z. known (cs ++ code k ∷ []) (ns ++ p.name ∷ []) (ws ++ z ∷ []) [] end) (decimal_value_of p.width l)
  where
    at : (b : Bool) → after_spoken (known cs ns ws [] w) ((kind.Var, codes "$var") ∷ (kind.NetKind, codes "wire") ∷ (kind.Width, decimal p.width) ∷ (kind.Code, code k) ∷ (kind.Name, p.name)
        ∷ ((if b then (kind.Range, codes "[" ++ (decimal (p.width - 1) ++ codes ":0]")) ∷ [] else []) ++ (kind.End, end) ∷ [])) ≡ known (cs ++ code k ∷ []) (ns ++ p.name ∷ []) (ws ++ decimal_value (decimal p.width) ∷ []) [] end
    at true = refl
    at false = refl

var_fine : (k : ℕ) (p : Pin) (cs ns : List (List ℕ)) (ws : List ℕ) (w : List ℕ) → among cs (code k) ≡ false → among ns p.name ≡ false → AllFine (known cs ns ws [] w) (var_spoken k p)
var_fine k p cs ns ws w c n = at (nat_lt 1 p.width)
  where
    at : (b : Bool) → AllFine (known cs ns ws [] w) ((kind.Var, codes "$var") ∷ (kind.NetKind, codes "wire") ∷ (kind.Width, decimal p.width) ∷ (kind.Code, code k) ∷ (kind.Name, p.name)
        ∷ ((if b then (kind.Range, codes "[" ++ (decimal (p.width - 1) ++ codes ":0]")) ∷ [] else []) ++ (kind.End, end) ∷ []))
    at true = (tt, (tt, (tt, (c, (n, (tt, (tt, tt)))))))
    at false = (tt, (tt, (tt, (c, (n, (tt, tt))))))

abbrev pub AreNarrow : List Pin → Type 0
AreNarrow [] = Unit {0}
AreNarrow (p ∷ ps) = (p.width ≤ 128) × AreNarrow ps

pub vars_known : (k : ℕ) (ps : List Pin) (cs ns : List (List ℕ)) (ws : List ℕ) (w : List ℕ) → AreNarrow ps
    → (v : List ℕ) × (after_spoken (known cs ns ws [] w) (vars_spoken k ps) ≡ known (cs ++ codes_from k ps) (ns ++ names_of ps) (ws ++ widths_of ps) [] v)
vars_known k [] cs ns ws w h = (w, ap (λ z. known z ns ws [] w) (sym (append-nil cs)) ∙ (ap (λ z. known (cs ++ []) z ws [] w) (sym (append-nil ns)) ∙ ap (λ z. known (cs ++ []) (ns ++ []) z [] w) (sym (append-nil ws))))
vars_known k (p ∷ ps) cs ns ws w h =
    let r = vars_known (k + 1) ps (cs ++ code k ∷ []) (ns ++ p.name ∷ []) (ws ++ p.width ∷ []) end h.1 in (
      r.0,
      after_append (known cs ns ws [] w) (var_spoken k p) (vars_spoken (k + 1) ps)
          ∙ (ap (λ z. after_spoken z (vars_spoken (k + 1) ps)) (var_known k p cs ns ws w (omega (arith, h.0))) ∙ (r.1
          ∙ (ap (λ z. known z ((ns ++ p.name ∷ []) ++ names_of ps) ((ws ++ p.width ∷ []) ++ widths_of ps) [] r.0) (append_assoc cs (code k ∷ []) (codes_from (k + 1) ps))
          ∙ (ap (λ z. known (cs ++ codes_from k (p ∷ ps)) z ((ws ++ p.width ∷ []) ++ widths_of ps) [] r.0) (append_assoc ns (p.name ∷ []) (names_of ps))
          ∙ ap (λ z. known (cs ++ codes_from k (p ∷ ps)) (ns ++ names_of (p ∷ ps)) z [] r.0) (append_assoc ws (p.width ∷ []) (widths_of ps)))))),
    )

pub vars_fine : (k : ℕ) (ps : List Pin) (cs ns : List (List ℕ)) (ws : List ℕ) (w : List ℕ) → AreNarrow ps → AreFresh k cs → AreNew ns ps → AllFine (known cs ns ws [] w) (vars_spoken k ps)
vars_fine k [] cs ns ws w h f n = tt
vars_fine k (p ∷ ps) cs ns ws w h f n =
    fine_append (known cs ns ws [] w) (var_spoken k p) (vars_spoken (k + 1) ps) (var_fine k p cs ns ws w (f k (omega arith)) n.0)
    (subst (λ z. AllFine z (vars_spoken (k + 1) ps)) (sym (var_known k p cs ns ws w (omega (arith, h.0))))
    (vars_fine (k + 1) ps (cs ++ code k ∷ []) (ns ++ p.name ∷ []) (ws ++ p.width ∷ []) end h.1 (fresh_on k cs f) n.1))

-- none of these pins has a name among these
abbrev AreOut : List (List ℕ) → List Pin → Type 0
AreOut ns [] = Unit {0}
AreOut ns (p ∷ ps) = (among ns p.name ≡ false) × AreOut ns ps

out_more : (ns : List (List ℕ)) (n : List ℕ) (ps : List Pin) → AreOut ns ps → among (names_of ps) n ≡ false → AreOut (ns ++ (n ∷ [])) ps
out_more ns n [] a h = tt
out_more ns n (p ∷ ps) a h =
    let q = or_parts (bytes_eq p.name n) (among (names_of ps) n) h in
    (not_among ns n p.name a.0 (λ e. both_ways (bytes_eq p.name n) q.0 ((bytes_decides p.name n).1 (sym e))), out_more ns n ps a.1 q.1)

-- Names that differ are new, each where it stands.
new_names : (ns : List (List ℕ)) (ps : List Pin) → distinct (names_of ps) ≡ true → AreOut ns ps → AreNew ns ps
new_names ns [] d a = tt
new_names ns (p ∷ ps) d a =
    let q = and_parts (not (among (names_of ps) p.name)) (distinct (names_of ps)) d in
    (a.0, new_names (ns ++ (p.name ∷ [])) ps q.1 (out_more ns p.name ps a.1 (not-true (among (names_of ps) p.name) q.0)))

none_out : (ps : List Pin) → AreOut [] ps
none_out [] = tt
none_out (p ∷ ps) = (refl, none_out ps)

pub all_new : (ps : List Pin) → distinct (names_of ps) ≡ true → AreNew [] ps
all_new ps d = new_names [] ps d (none_out ps)
