-- Brackets of a tree's tokens nest no deeper than the parser goes.
use Rattle.std.specs.List.{fold}
use Rattle.std.proofs.Common.{◌≡◌, ℕ, zero, suc, ◌+◌, ◌-◌, ◌<◌, ◌≤◌, Bool, true, false, ◌&&◌, nat_lt, if◌then◌else◌, List, [], ◌∷◌, length, take, refl, ap, arith, subst}
use Rattle.std.proofs.lemmas.Bool.{lt-ltb}
use Rattle.std.proofs.lemmas.Bool.Decides.{nat_tests}
use Rattle.rb_grammar.specs.Spelling.{At, tokens_of}
use Rattle.rb_grammar.specs.Brackets.{counted, StaysWithin, open_after}
use Rattle.v_design.specs.Lexemes.{Token, Word, Name, Number, Const}
use Rattle.v_design.specs.Tree.{nests, opens, closes}
use Rattle.v_design.proofs.Tests.{and-left, and-right}
use Rattle.v_syntax.specs.Grammar.{nesting, nesting_of, word_nesting, most_open}

-- how many are open after one more token
abbrev step : ℕ → At Token → ℕ
step n t = counted n (nesting t)

-- never more are open than may be, where so many are open before
abbrev KeepsWithin : ℕ → List (At Token) → Type 0
KeepsWithin n ts = (i : ℕ) → i ≤ length ts → fold step n (take i ts) ≤ most_open

one_more : (n : ℕ) (t : At Token) (ts : List (At Token)) → n ≤ most_open → KeepsWithin (step n t) ts → KeepsWithin n (t ∷ ts)
one_more n t ts l k zero h = l
one_more n t ts l k (suc i) h = k i (omega arith)

one_less : (n : ℕ) (t : At Token) (ts : List (At Token)) → KeepsWithin n (t ∷ ts) → KeepsWithin (step n t) ts
one_less n t ts k i h = k (suc i) (omega arith)

word_keeps : (o c : Bool) (n : ℕ) (a : At Token) (w : List ℕ) (ts : List (At Token)) → a.token ≡ Word w → opens w ≡ o → closes w ≡ c → n ≤ most_open
    → (if o then nat_lt n 64 && nests (n + 1) (tokens_of ts) else (if c then nests (n - 1) (tokens_of ts) else nests n (tokens_of ts))) ≡ true
    → ((m : ℕ) → m ≤ most_open → nests m (tokens_of ts) ≡ true → KeepsWithin m ts) → KeepsWithin n (a ∷ ts)
word_keeps true c n a w ts e p q l h r =
    let s : step n a ≡ n + 1 = rw (e, p) refl in
    let f : nat_lt n 64 ≡ true = and-left (nat_lt n 64) (nests (n + 1) (tokens_of ts)) h in
    one_more n a ts l (rw s (r (n + 1) (grind (arith, nat_tests, f)) (and-right (nat_lt n 64) (nests (n + 1) (tokens_of ts)) h)))
word_keeps false true n a w ts e p q l h r =
    let s : step n a ≡ n - 1 = rw (e, p, q) refl in one_more n a ts l (rw s (r (n - 1) (omega arith) h))
word_keeps false false n a w ts e p q l h r =
    let s : step n a ≡ n = rw (e, p, q) refl in one_more n a ts l (rw s (r n l h))

keeps_one : (x : Token) (a : At Token) (ts : List (At Token)) (n : ℕ) → a.token ≡ x → n ≤ most_open → nests n (x ∷ tokens_of ts) ≡ true → ((m : ℕ) → m ≤ most_open → nests m (tokens_of ts) ≡ true → KeepsWithin m ts) → KeepsWithin n (a ∷ ts)
keeps_one (Word w) a ts n e l h r = word_keeps (opens w) (closes w) n a w ts e refl refl l h r
keeps_one (Name w) a ts n e l h r = let s : step n a ≡ n = rw e refl in one_more n a ts l (rw s (r n l h))
keeps_one (Number v) a ts n e l h r = let s : step n a ≡ n = rw e refl in one_more n a ts l (rw s (r n l h))
keeps_one (Const w v) a ts n e l h r = let s : step n a ≡ n = rw e refl in one_more n a ts l (rw s (r n l h))

keeps : (ts : List (At Token)) (n : ℕ) → n ≤ most_open → nests n (tokens_of ts) ≡ true → KeepsWithin n ts
keeps [] n l h = λ i k. let z : i ≡ 0 = omega arith in rw z l
keeps (a ∷ ts) n l h = keeps_one a.token a ts n refl l h (λ m. keeps ts m)

word_nests : (o c : Bool) (n : ℕ) (a : At Token) (w : List ℕ) (ts : List (At Token)) → a.token ≡ Word w → opens w ≡ o → closes w ≡ c → KeepsWithin n (a ∷ ts)
    → ((m : ℕ) → KeepsWithin m ts → nests m (tokens_of ts) ≡ true)
    → (if o then nat_lt n 64 && nests (n + 1) (tokens_of ts) else (if c then nests (n - 1) (tokens_of ts) else nests n (tokens_of ts))) ≡ true
word_nests true c n a w ts e p q k r =
    let s : step n a ≡ n + 1 = rw (e, p) refl in
    let below : n < 64 = (let f : fold step n (take 1 (a ∷ ts)) ≤ most_open = k 1 (omega arith) in let g : step n a ≤ most_open = f in omega (arith, s, g)) in
    rw (lt-ltb n 64 below) (r (n + 1) (subst (λ m. KeepsWithin m ts) s (one_less n a ts k)))
word_nests false true n a w ts e p q k r = let s : step n a ≡ n - 1 = rw (e, p, q) refl in r (n - 1) (subst (λ m. KeepsWithin m ts) s (one_less n a ts k))
word_nests false false n a w ts e p q k r = let s : step n a ≡ n = rw (e, p, q) refl in r n (subst (λ m. KeepsWithin m ts) s (one_less n a ts k))

nested_one : (x : Token) (a : At Token) (ts : List (At Token)) (n : ℕ) → a.token ≡ x → KeepsWithin n (a ∷ ts) → ((m : ℕ) → KeepsWithin m ts → nests m (tokens_of ts) ≡ true) → nests n (x ∷ tokens_of ts) ≡ true
nested_one (Word w) a ts n e k r = word_nests (opens w) (closes w) n a w ts e refl refl k r
nested_one (Name w) a ts n e k r = let s : step n a ≡ n = rw e refl in r n (subst (λ m. KeepsWithin m ts) s (one_less n a ts k))
nested_one (Number v) a ts n e k r = let s : step n a ≡ n = rw e refl in r n (subst (λ m. KeepsWithin m ts) s (one_less n a ts k))
nested_one (Const w v) a ts n e k r = let s : step n a ≡ n = rw e refl in r n (subst (λ m. KeepsWithin m ts) s (one_less n a ts k))

nested : (ts : List (At Token)) (n : ℕ) → KeepsWithin n ts → nests n (tokens_of ts) ≡ true
nested [] n k = refl
nested (a ∷ ts) n k = nested_one a.token a ts n refl k (λ m. nested ts m)

pub stays_within : (ts : List (At Token)) → nests 0 (tokens_of ts) ≡ true → StaysWithin nesting most_open ts
stays_within ts h = keeps ts 0 (omega arith) h

pub nests_within : (ts : List (At Token)) → StaysWithin nesting most_open ts → nests 0 (tokens_of ts) ≡ true
nests_within ts k = nested ts 0 k
