-- What a reader that goes word by word may conclude of the whole text.
use Rattle.std.specs.List.{AllByRecursion}
use Rattle.std.specs.Prelude.{option_and_then, is_some}
use Rattle.std.proofs.Common.{◌≡◌, ℕ, ◌+◌, ◌<◌, ◌≤◌, Bool, true, not, ◌||◌, Some, None, List, [], ◌∷◌, ◌++◌, length, refl, ap, sym, ◌∙◌, subst, arith, append_assoc, append-nil, length-append, ◌⊎◌, inl, inr}
use Rattle.std.proofs.lemmas.List.{append_cancel_left, map-append}
use Rattle.rb_grammar.specs.Separators.{Skips, stay, skip}
use Rattle.rb_grammar.specs.Lexemes.{has_form}
use Rattle.rb_grammar.specs.Spelling.{StartsWith, SpellsFrom, Spells}
use Rattle.rb_grammar.proofs.OneSpelling.{spells_once}
use Rattle.rb_grammar.proofs.Bridge.{fits_begins}
use Rattle.vcd_syntax.specs.Grammar.{grammar, same}
use Rattle.vcd_syntax.specs.declared.kind.Kind.{Kind}
use Rattle.vcd_syntax.specs.declared.kind.Kind.TheVariants as kind
use Rattle.vcd_syntax.specs.Words.{vcd, is}
use Rattle.vcd_syntax.specs.Tokens.{Word, Token, kinds_of, AreOfTheirKinds, AreBegun}
use Rattle.vcd_syntax.specs.Faulty.{Problem, Misformed, Unfit, turn, IsFaulty, code_again, name_again, no_taker, no_scalar, unknown_bit, unknown_bits, one_bit, too_wide, not_above, too_late, too_many_times, too_many_values}
use Rattle.vcd_syntax.specs.Reading.{Stops, place_in, FaultsAt, Has, IsFirst, IsSound}
use Rattle.vcd_syntax.specs.declared.state.State.{State}
use Rattle.vcd_syntax.specs.declared.state.State.TheVariants as state
use Rattle.vcd_syntax.specs.Reads.{words, Read}
use Rattle.vcd_syntax.specs.Exits.{exits, after, after_all, exit_by}
use Rattle.vcd_syntax.proofs.Stacks.{same_exact, found, begins_leads, leads_begin, fits_leads, leads_fit}
use Rattle.vcd_syntax.proofs.OneMarking.{taken, led, one_marking}

-- Lists.

-- Of two fronts of a list one begins the other.
compare : {X : Type 0} (a b c d : List X) → a ++ b ≡ c ++ d → ((e : List X) × (a ≡ c ++ e)) ⊎ ((x : X) × (e : List X) × (c ≡ a ++ (x ∷ e)) × (b ≡ x ∷ (e ++ d)))
compare [] b [] d q = inl ([], refl)
compare [] b (x ∷ c) d q = inr (x, c, refl, q)
compare (x ∷ a) b [] d q = inl (x ∷ a, refl)
compare (x ∷ a) b (y ∷ c) d q =
    let head : x ≡ y = cc in
    let tail : a ++ b ≡ c ++ d = cc in
    elim (compare a b c d tail) [
      | inl r ↦ inl (r.0, ap (λ z. x ∷ z) r.1 ∙ ap (λ z. z ∷ (c ++ r.0)) head)
      | inr r ↦ inr (r.0, r.1, ap (λ z. y ∷ z) r.2 ∙ ap (λ z. z ∷ (a ++ (r.0 ∷ r.1))) (sym head), r.3)
    ]

-- The last of a list that ends with some.
ends_alike : {X : Type 0} (ks0 : List X) (b : X) (bs xs : List X) (x : X) → ks0 ++ (b ∷ bs) ≡ xs ++ (x ∷ []) → (e : List X) × (b ∷ bs ≡ e ++ (x ∷ [])) × (xs ≡ ks0 ++ e)
ends_alike [] b bs xs x q = (xs, q, refl)
ends_alike (a ∷ []) b bs [] x q = cc
ends_alike (a ∷ c ∷ ks0) b bs [] x q = cc
ends_alike (a ∷ ks0) b bs (y ∷ xs) x q =
    let head : a ≡ y = cc in
    let tail : ks0 ++ (b ∷ bs) ≡ xs ++ (x ∷ []) = cc in
    let r = ends_alike ks0 b bs xs x tail in
    (r.0, r.1, ap (λ z. z ∷ xs) (sym head) ∙ ap (λ z. a ∷ z) r.2)

pub snoc_same : {X : Type 0} (xs ys : List X) (x y : X) → xs ++ (x ∷ []) ≡ ys ++ (y ∷ []) → (xs ≡ ys) × (x ≡ y)
snoc_same [] [] x y e = (refl, cc)
snoc_same [] (b ∷ []) x y e = cc
snoc_same [] (b ∷ c ∷ ys) x y e = cc
snoc_same (a ∷ []) [] x y e = cc
snoc_same (a ∷ c ∷ xs) [] x y e = cc
snoc_same (a ∷ xs) (b ∷ ys) x y e =
    let head : a ≡ b = cc in
    let tail : xs ++ (x ∷ []) ≡ ys ++ (y ∷ []) = cc in
    let r = snoc_same xs ys x y tail in
    (ap (λ z. z ∷ xs) head ∙ ap (λ z. b ∷ z) r.0, r.1)

-- Fronts of marks.

split_words : (front more : List Word) (ns : List Token) → words ns ≡ front ++ more → (ks0 : List Token) × (bs : List Token) × (ns ≡ ks0 ++ bs) × (words ks0 ≡ front) × (words bs ≡ more)
split_words [] more ns q = ([], ns, refl, refl, q)
split_words (w ∷ front) more [] q = cc
split_words (w ∷ front) more (n ∷ ns) q =
    let head : n.word ≡ w = cc in
    let tail : words ns ≡ front ++ more = cc in
    let r = split_words front more ns tail in
    (n ∷ r.0, r.1, ap (λ z. n ∷ z) r.2, ap (λ z. z ∷ words r.0) head ∙ ap (λ z. w ∷ z) r.3, r.4)

each_front : (ks0 bs : List Token) → AreOfTheirKinds (ks0 ++ bs) → AreOfTheirKinds ks0
each_front [] bs h = tt
each_front (a ∷ ks0) bs h = (h.0, each_front ks0 bs h.1)

each_more : (ks0 : List Token) (m : Token) → AreOfTheirKinds ks0 → is m.kind m.word.token ≡ true → AreOfTheirKinds (ks0 ++ (m ∷ []))
each_more [] m h i = (i, tt)
each_more (a ∷ ks0) m h i = (h.0, each_more ks0 m h.1 i)

each_last : (ks0 : List Token) (m : Token) → AreOfTheirKinds (ks0 ++ (m ∷ [])) → is m.kind m.word.token ≡ true
each_last [] m h = h.0
each_last (a ∷ ks0) m h = each_last ks0 m h.1

-- What leads somewhere leads there by its front.
pub by_front : (ks ls : List Kind) (s t : State) → after_all s (ks ++ ls) ≡ Some t → (u : State) × (after_all s ks ≡ Some u) × (after_all u ls ≡ Some t)
by_front [] ls s t e = (s, refl, e)
by_front (k ∷ ks) ls s t e =
    let p = led s k (ks ++ ls) t e in
    let q = by_front ks ls p.0 t p.2 in
    (q.0, ap (option_and_then (λ z. after_all z ks)) p.1 ∙ q.1, q.2)

pub lead_on : (ks : List Kind) (k : Kind) (s t u : State) → after_all s ks ≡ Some t → after t k ≡ Some u → after_all s (ks ++ (k ∷ [])) ≡ Some u
lead_on [] k s t u e f = let one : s ≡ t = cc in ap (λ z. option_and_then (λ y. after_all y []) (after z k)) one ∙ ap (option_and_then (λ y. after_all y [])) f
lead_on (j ∷ ks) k s t u e f = let p = led s j ks t e in ap (option_and_then (λ z. after_all z (ks ++ (k ∷ [])))) p.1 ∙ lead_on ks k p.0 t u p.2 f

begun_front : (front more : List Word) (ns : List Token) → AreBegun (front ++ more) ns → (ks0 : List Token) × (bs : List Token) × (ns ≡ ks0 ++ bs) × AreBegun front ks0 × (words bs ≡ more)
begun_front front more ns h =
    let r = split_words front more ns h.are in
    let kinds : kinds_of ns ≡ kinds_of r.0 ++ kinds_of r.1 = ap kinds_of r.2 ∙ map-append (λ m. m.kind) r.0 r.1 in
    let p = begins_leads (kinds_of ns) h.begins in
    let q = by_front (kinds_of r.0) (kinds_of r.1) state.Front p.0 (ap (after_all state.Front) (sym kinds) ∙ p.1) in
    (r.0, r.1, r.2, record { are = r.3; each = each_front r.0 r.1 (subst AreOfTheirKinds r.2 h.each); begins = leads_begin (kinds_of r.0) q.0 q.1 }, r.4)

-- Places rise.

abbrev AreAbove : ℕ → List Word → Type 0
AreAbove place ws = AllByRecursion (λ w. place < w.place) ws

abbrev Rising : List Word → Type 0
Rising [] = Unit {0}
Rising (w ∷ ws) = AreAbove w.place ws × Rising ws

skips_shorter : {c : Bool} {text left : List ℕ} → Skips c text left → length left ≤ length text
skips_shorter stay = omega arith
skips_shorter (skip s r e p q) = omega (arith, ap length e, length-append s r, skips_shorter q)

-- the place of the next word, and that what is behind it is shorter
pub next_place : (size : ℕ) (text rest : List ℕ) (w : Word) → StartsWith vcd size text w rest → (n : ℕ) × (w.place + n ≡ size) × (n ≤ length text) × (length rest < n)
next_place size text rest w a = (length a.left, a.at, skips_shorter a.skips, omega (arith, ap length a.next.whole, length-append a.word rest, word_some a.word a.next.form))
  where
    word_some : (word : List ℕ) → has_form vcd word ≡ true → 0 < length word
    word_some [] h = cc
    word_some (b ∷ bs) h = omega arith

above_all : (size n : ℕ) (text : List ℕ) (ws : List Word) (place : ℕ) → SpellsFrom vcd size text ws → place + n ≡ size → length text < n → AreAbove place ws
above_all size n text [] place h e l = tt
above_all size n text (w ∷ ws) place h e l =
    let p = next_place size text h.0 w h.1 in
    (omega (arith, p.1, p.2, e, l), above_all size n h.0 ws place h.2 e (omega (arith, l, p.2, p.3)))

rising : (size : ℕ) (text : List ℕ) (ws : List Word) → SpellsFrom vcd size text ws → Rising ws
rising size text [] h = tt
rising size text (w ∷ ws) h =
    let p = next_place size text h.0 w h.1 in
    (above_all size p.0 h.0 ws w.place h.2 p.1 p.3, rising size h.0 ws h.2)

pub within : (size : ℕ) (text : List ℕ) (ws : List Word) → SpellsFrom vcd size text ws → AllByRecursion (λ w. w.place < size) ws
within size text [] h = tt
within size text (w ∷ ws) h = let p = next_place size text h.0 w h.1 in (omega (arith, p.1, p.3), within size h.0 ws h.2)

all_back : (P : Word → Type 0) (ks0 bs : List Word) → AllByRecursion P (ks0 ++ bs) → AllByRecursion P bs
all_back P [] bs h = h
all_back P (a ∷ ks0) bs h = all_back P ks0 bs h.1

all_front : (P : Word → Type 0) (ks0 bs : List Word) → AllByRecursion P (ks0 ++ bs) → AllByRecursion P ks0
all_front P [] bs h = tt
all_front P (a ∷ ks0) bs h = (h.0, all_front P ks0 bs h.1)

all_last : (P : Word → Type 0) (ks0 : List Word) (b : Word) → AllByRecursion P (ks0 ++ (b ∷ [])) → P b
all_last P ks0 b h = (all_back P ks0 (b ∷ []) h).0

rising_back : (ks0 : List Word) (b : Word) (bs : List Word) → Rising (ks0 ++ (b ∷ bs)) → AreAbove b.place bs
rising_back [] b bs h = h.0
rising_back (a ∷ ks0) b bs h = rising_back ks0 b bs h.1

-- Where a fault stands.
pub data Placed (before : List Token) (m : Token) (p : Problem) (k : ℕ) : Type 0 where
  here : k ≡ m.word.place → Placed before m p k
  before_it : (front : List Token) (bits : Token) → m.kind ≡ kind.Taker → p ≡ Unfit → before ≡ front ++ (bits ∷ []) → k ≡ bits.word.place → Placed before m p k

pub placed : (before : List Token) (m : Token) (p : Problem) (k : ℕ) → IsFaulty before m p k → Placed before m p k
placed before m _ _ (code_again e f) = here refl
placed before m _ _ (name_again e f) = here refl
placed before m _ _ (no_taker e f) = here refl
placed before m _ _ (no_scalar e f) = here refl
placed before m _ _ (unknown_bit e f) = here refl
placed before m _ _ (unknown_bits e f) = here refl
placed before m _ _ (one_bit w e f g) = here refl
placed before m _ _ (too_wide front bits w e f g h) = before_it front bits e refl f refl
placed before m _ _ (not_above s e f g) = here refl
placed before m _ _ (too_late e f) = here refl
placed before m _ _ (too_many_times e f) = here refl
placed before m _ _ (too_many_values e f) = here refl

-- No fault stands within what was read.
none_within : (text : List ℕ) (ms : List Token) (left : List Word) (q : Problem) (k : ℕ) → Read text ms left → (f : FaultsAt text q k) → (e : List Word) → words ms ≡ f.front ++ e → ⊥
none_within text ms left q k r f e same =
    let p = begun_front f.front e ms (subst (λ z. AreBegun z ms) same r.begun) in
    let one : p.0 ≡ f.before ++ (f.last ∷ []) = one_marking f.front p.0 (f.before ++ (f.last ∷ [])) p.3 f.begun in
    r.clean f.before f.last p.1 q k (p.2 ∙ (ap (λ z. z ++ p.1) one ∙ append_assoc f.before (f.last ∷ []) p.1)) f.faulty

-- the last of some marks, by its word
one_mark : (bs : List Token) (w : Word) → words bs ≡ w ∷ [] → (n : Token) × (bs ≡ n ∷ []) × (n.word ≡ w)
one_mark [] w e = cc
one_mark (n ∷ []) w e = (n, refl, cc)
one_mark (n ∷ m ∷ bs) w e = cc

-- one more mark leads on from the state of those before
last_led : (ms : List Token) (n : Token) (s : State) → AreBegun (words (ms ++ (n ∷ []))) (ms ++ (n ∷ [])) → after_all state.Front (kinds_of ms) ≡ Some s → (z : State) × (after s n.kind ≡ Some z) × (is n.kind n.word.token ≡ true)
last_led ms n s h e =
    let kinds : kinds_of (ms ++ (n ∷ [])) ≡ kinds_of ms ++ (n.kind ∷ []) = map-append (λ m. m.kind) ms (n ∷ []) in
    let p = begins_leads (kinds_of (ms ++ (n ∷ []))) h.begins in
    let q = by_front (kinds_of ms) (n.kind ∷ []) state.Front p.0 (ap (after_all state.Front) (sym kinds) ∙ p.1) in
    let one : s ≡ q.0 = (let both : Some s ≡ Some q.0 = sym e ∙ q.1 in cc) in
    let z = led s n.kind [] p.0 (subst (λ y. after_all y (n.kind ∷ []) ≡ Some p.0) (sym one) q.2) in
    (z.0, z.1, each_last ms n h.each)

-- A word that takes no exit goes on with nothing.
pub unexpected : (ms : List Token) (w : Word) (left : List Word) (s : State) → AreBegun (words ms) ms → after_all state.Front (kinds_of ms) ≡ Some s → exit_by s w.token ≡ None → Stops (words ms) (w ∷ left)
unexpected ms w left s b e f ns h =
    let p = begun_front (words ms) (w ∷ []) ns h in
    let one : p.0 ≡ ms = one_marking (words ms) p.0 ms p.3 b in
    let n = one_mark p.1 w p.4 in
    let all : ns ≡ ms ++ (n.0 ∷ []) = p.2 ∙ (ap (λ z. z ++ p.1) one ∙ ap (λ z. ms ++ z) n.1) in
    let begun : AreBegun (words (ms ++ (n.0 ∷ []))) (ms ++ (n.0 ∷ [])) = subst (λ z. AreBegun (words z) z) all (record { are = refl; each = h.each; begins = h.begins }) in
    let last = last_led ms n.0 s begun e in
    let exit = taken n.0.word.token s n.0.kind last.0 last.1 last.2 in
    let none : exit_by s n.0.word.token ≡ None = ap (λ z. exit_by s z.token) n.2 ∙ f in
    let both : Some (n.0.kind, last.0) ≡ None = sym exit ∙ none in
    cc

-- A reading that may not end goes on.
pub unfinished : (ms : List Token) (s : State) → AreBegun (words ms) ms → after_all state.Front (kinds_of ms) ≡ Some s → (s ≡ state.Entries → ⊥) → Stops (words ms) []
unfinished ms s b e f ns h =
    let one : ns ≡ ms = one_marking (words ms) ns ms (record { are = h.are; each = h.each; begins = fits_begins grammar h.fits }) b in
    let last = fits_leads (kinds_of ns) h.fits in
    let both : Some s ≡ Some state.Entries = sym e ∙ (ap (λ z. after_all state.Front (kinds_of z)) (sym one) ∙ last) in
    f cc

-- What a reader concludes.

-- where two fronts of the words of a text are the same or one is longer
one_text : (text : List ℕ) (a b c d : List Word) → Spells vcd text (a ++ b) → Spells vcd text (c ++ d) → a ++ b ≡ c ++ d
one_text text a b c d p q = spells_once vcd text (a ++ b) (c ++ d) p q

place_above : (size place : ℕ) (ws : List Word) → AreAbove place ws → place < size → place < place_in size ws
place_above size place [] h l = l
place_above size place (w ∷ ws) h l = h.0

-- The next word, or the end, does not go on with a dump.
pub stops_first : (text : List ℕ) (ms : List Token) (left : List Word) → Read text ms left → Stops (words ms) left → IsFirst text Misformed (place_in (length text) left)
stops_first text ms left r stops = record {
  has = inl (refl, record { front = words ms; left = left; ms = ms; spelled = r.spelled; begun = r.begun; stops = stops; at = refl });
  first = first;
}
  where
    -- nothing begins past it
    past : (front behind : List Word) (ns : List Token) (x : Word) (e : List Word) → AreBegun front ns → front ≡ words ms ++ (x ∷ e) → left ≡ x ∷ (e ++ behind) → ⊥
    past front behind ns x e b f g =
        let h : AreBegun ((words ms ++ (x ∷ [])) ++ e) ns = subst (λ z. AreBegun z ns) (f ∙ sym (append_assoc (words ms) (x ∷ []) e)) b in
        let p = begun_front (words ms ++ (x ∷ [])) e ns h in
        subst (λ z. Stops (words ms) z) g stops p.0 p.3

    -- it stops nowhere before
    sooner : (front behind e : List Word) → Stops front behind → words ms ≡ front ++ e → words ms ++ left ≡ front ++ behind → left ≡ behind
    sooner front behind [] st f g = append_cancel_left front left behind (ap (λ z. z ++ left) (sym (append-nil front) ∙ sym f) ∙ g)
    sooner front behind (y ∷ e) st f g =
        let cut : behind ≡ y ∷ (e ++ left) = append_cancel_left front behind (y ∷ (e ++ left)) (sym g ∙ (ap (λ z. z ++ left) f ∙ append_assoc front (y ∷ e) left)) in
        let h : AreBegun ((front ++ (y ∷ [])) ++ e) ms = subst (λ z. AreBegun z ms) (f ∙ sym (append_assoc front (y ∷ []) e)) r.begun in
        let p = begun_front (front ++ (y ∷ [])) e ms h in
        absurd (subst (λ z. Stops front z) cut st p.0 p.3)

    first : (q : Problem) (k : ℕ) → Has text q k → (place_in (length text) left < k) ⊎ ((place_in (length text) left ≡ k) × (turn Misformed ≤ turn q))
    first q k (inr f) = elim (compare (words ms) left f.front f.left (one_text text (words ms) left f.front f.left r.spelled f.spelled)) [
      | inl p ↦ absurd (none_within text ms left q k r f p.0 p.1)
      | inr p ↦ absurd (past f.front f.left (f.before ++ (f.last ∷ [])) p.0 p.1 f.begun p.2 p.3)
    ]
    first q k (inl h) = elim (compare (words ms) left h.1.front h.1.left (one_text text (words ms) left h.1.front h.1.left r.spelled h.1.spelled)) [
      | inl p ↦ inr (ap (place_in (length text)) (sooner h.1.front h.1.left p.0 h.1.stops p.1 (one_text text (words ms) left h.1.front h.1.left r.spelled h.1.spelled)) ∙ sym h.1.at, omega arith)
      | inr p ↦ absurd (past h.1.front h.1.left h.1.ms p.0 p.1 h.1.begun p.2 p.3)
    ]

-- A text whose words are a dump without a fault is sound.
pub sound : (text : List ℕ) (ms : List Token) → Read text ms [] → after_all state.Front (kinds_of ms) ≡ Some state.Entries → IsSound text ms
sound text ms r e = record {
  words = words ms;
  spelled = subst (λ z. Spells vcd text z) (append-nil (words ms)) r.spelled;
  whole = record { are = refl; each = r.begun.each; fits = leads_fit (kinds_of ms) e };
  none = none;
}
  where
    all : (front behind : List Word) → Spells vcd text (front ++ behind) → words ms ≡ front ++ behind
    all front behind h = sym (append-nil (words ms)) ∙ one_text text (words ms) [] front behind r.spelled h

    stops_not : (front left : List Word) → Stops front left → words ms ≡ front ++ left → ⊥
    stops_not front [] st f = st ms (record { are = f ∙ append-nil front; each = r.begun.each; fits = leads_fit (kinds_of ms) e })
    stops_not front (w ∷ left) st f =
        let h : AreBegun ((front ++ (w ∷ [])) ++ left) ms = subst (λ z. AreBegun z ms) (f ∙ sym (append_assoc front (w ∷ []) left)) r.begun in
        let p = begun_front (front ++ (w ∷ [])) left ms h in
        st p.0 p.3

    none : (q : Problem) (k : ℕ) → Has text q k → ⊥
    none q k (inl h) = stops_not h.1.front h.1.left h.1.stops (all h.1.front h.1.left h.1.spelled)
    none q k (inr f) = none_within text ms [] q k r f f.left (all f.front f.left f.spelled)

-- Behind a word that leads to where a taker may come, it is bits.
abbrev takes_taker : Kind × State → Bool
takes_taker x = not (is_some (after x.1 kind.Taker)) || same x.0 kind.Bits

behind_bits : (s : State) → AllByRecursion (λ x. takes_taker x ≡ true) (exits s)
behind_bits state.Front = (refl, (refl, tt))
behind_bits state.FrontSaid = (refl, (refl, tt))
behind_bits state.ScopeKind = (refl, tt)
behind_bits state.ScopeName = (refl, tt)
behind_bits state.ScopeEnd = (refl, tt)
behind_bits state.Variables = (refl, (refl, (refl, tt)))
behind_bits state.VariablesSaid = (refl, (refl, tt))
behind_bits state.NetKind = (refl, tt)
behind_bits state.Width = (refl, tt)
behind_bits state.Code = (refl, tt)
behind_bits state.Name = (refl, tt)
behind_bits state.Range = (refl, (refl, tt))
behind_bits state.VarEnd = (refl, tt)
behind_bits state.UpscopeEnd = (refl, tt)
behind_bits state.Back = (refl, (refl, tt))
behind_bits state.BackSaid = (refl, (refl, tt))
behind_bits state.DefinitionsEnd = (refl, tt)
behind_bits state.Entries = (refl, (refl, (refl, (refl, (refl, tt)))))
behind_bits state.Taker = (refl, tt)
behind_bits state.Dump = (refl, (refl, (refl, tt)))
behind_bits state.DumpTaker = (refl, tt)
behind_bits state.Commented = (refl, (refl, tt))

before_taker : (s v z : State) (k : Kind) → after s k ≡ Some v → after v kind.Taker ≡ Some z → k ≡ kind.Bits
before_taker s v z k e f =
    let t = found (λ x. takes_taker x ≡ true) (exits s) k v e (behind_bits s) in
    same_exact k kind.Bits (subst (λ o. (not (is_some o) || same k kind.Bits) ≡ true) f t)

at_bits : (before : List Token) (m : Token) (p : Problem) (k : ℕ) → IsFaulty before m p k → m.kind ≡ kind.Bits → p ≡ Unfit
at_bits before m _ _ (code_again e f) h = cc
at_bits before m _ _ (name_again e f) h = cc
at_bits before m _ _ (no_taker e f) h = cc
at_bits before m _ _ (no_scalar e f) h = cc
at_bits before m _ _ (unknown_bit e f) h = refl
at_bits before m _ _ (unknown_bits e f) h = refl
at_bits before m _ _ (one_bit w e f g) h = refl
at_bits before m _ _ (too_wide front bits w e f g i) h = refl
at_bits before m _ _ (not_above s e f g) h = cc
at_bits before m _ _ (too_late e f) h = cc
at_bits before m _ _ (too_many_times e f) h = cc
at_bits before m _ _ (too_many_values e f) h = cc

last_step : (ks : List Kind) (k : Kind) (t : State) → after_all state.Front (ks ++ (k ∷ [])) ≡ Some t → (u : State) × (after_all state.Front ks ≡ Some u) × (after u k ≡ Some t)
last_step ks k t e =
    let q = by_front ks (k ∷ []) state.Front t e in
    let z = led q.0 k [] t q.2 in
    (q.0, q.1, z.1 ∙ z.2)

-- a taker behind a mark: the mark is bits
taken_bits : (ms : List Token) (m n : Token) → AreBegun (words ((ms ++ (m ∷ [])) ++ (n ∷ []))) ((ms ++ (m ∷ [])) ++ (n ∷ [])) → n.kind ≡ kind.Taker → m.kind ≡ kind.Bits
taken_bits ms m n h e =
    let inner : kinds_of (ms ++ (m ∷ [])) ≡ kinds_of ms ++ (m.kind ∷ []) = map-append (λ y. y.kind) ms (m ∷ []) in
    let outer : kinds_of ((ms ++ (m ∷ [])) ++ (n ∷ [])) ≡ kinds_of (ms ++ (m ∷ [])) ++ (n.kind ∷ []) = map-append (λ y. y.kind) (ms ++ (m ∷ [])) (n ∷ []) in
    let p = begins_leads (kinds_of ((ms ++ (m ∷ [])) ++ (n ∷ []))) h.begins in
    let q = last_step (kinds_of (ms ++ (m ∷ []))) n.kind p.0 (ap (after_all state.Front) (sym outer) ∙ p.1) in
    let z = last_step (kinds_of ms) m.kind q.0 (ap (after_all state.Front) (sym inner) ∙ q.1) in
    before_taker z.0 q.0 p.0 m.kind z.2 (ap (after q.0) (sym e) ∙ q.2)

pub last_words : (ms : List Token) (m : Token) → words (ms ++ (m ∷ [])) ≡ words ms ++ (m.word ∷ [])
last_words ms m = map-append (λ y. y.word) ms (m ∷ [])

-- A fault of the last mark that was read, the least of its faults, is the first of the text.
pub fault_first : (text : List ℕ) (ms : List Token) (m : Token) (left : List Word) (p : Problem) (place : ℕ) → Read text ms (m.word ∷ left) → AreBegun (words (ms ++ (m ∷ []))) (ms ++ (m ∷ [])) → IsFaulty ms m p place
    → ((q : Problem) (k : ℕ) → IsFaulty ms m q k → (place < k) ⊎ ((place ≡ k) × (turn p ≤ turn q))) → IsFirst text p place
fault_first text ms m left p place r b f least = record {
  has = inr (record { front = words (ms ++ (m ∷ [])); left = left; before = ms; last = m; spelled = spelled; begun = b; faulty = f });
  first = first;
}
  where
    spelled : Spells vcd text (words (ms ++ (m ∷ [])) ++ left)
    spelled = subst (λ z. Spells vcd text z) (sym (ap (λ z. z ++ left) (last_words ms m) ∙ append_assoc (words ms) (m.word ∷ []) left)) r.spelled

    up : Rising (words ms ++ (m.word ∷ left))
    up = rising (length text) text (words ms ++ (m.word ∷ left)) r.spelled

    above : AreAbove m.word.place left
    above = rising_back (words ms) m.word left up

    ended : m.word.place < length text
    ended = (all_back (λ w. w.place < length text) (words ms) (m.word ∷ left) (within (length text) text (words ms ++ (m.word ∷ left)) r.spelled)).0

    -- not behind the mark
    by_mark : Placed ms m p place → place ≤ m.word.place
    by_mark (here e) = omega (arith, e)
    by_mark (before_it front bits e g h i) =
        let ws : words ms ≡ words front ++ (bits.word ∷ []) = ap words h ∙ last_words front bits in
        let lower = rising_back (words front) bits.word (m.word ∷ left) (subst Rising (ap (λ z. z ++ (m.word ∷ left)) ws ∙ append_assoc (words front) (bits.word ∷ []) (m.word ∷ left)) up) in
        omega (arith, i, lower.0)

    -- what stands behind the mark is above it
    beyond : (front behind e : List Word) → words (ms ++ (m ∷ [])) ++ left ≡ front ++ behind → front ≡ words (ms ++ (m ∷ [])) ++ e → left ≡ e ++ behind
    beyond front behind e g h = append_cancel_left (words (ms ++ (m ∷ []))) left (e ++ behind) (g ∙ (ap (λ z. z ++ behind) h ∙ append_assoc (words (ms ++ (m ∷ []))) e behind))

    stops_past : (front behind e : List Word) → words (ms ++ (m ∷ [])) ++ left ≡ front ++ behind → front ≡ words (ms ++ (m ∷ [])) ++ e → place < place_in (length text) behind
    stops_past front behind e g h =
        let over = place_above (length text) m.word.place behind (all_back (λ w. m.word.place < w.place) e behind (subst (λ z. AreAbove m.word.place z) (beyond front behind e g h) above)) ended in
        let low = by_mark (placed ms m p place f) in
        omega (arith, over, low)

    stops_within : (front behind : List Word) (y : Word) (e : List Word) → Stops front behind → words (ms ++ (m ∷ [])) ≡ front ++ (y ∷ e) → words (ms ++ (m ∷ [])) ++ left ≡ front ++ behind → ⊥
    stops_within front behind y e st g h =
        let cut : behind ≡ y ∷ (e ++ left) = append_cancel_left front behind (y ∷ (e ++ left)) (sym h ∙ (ap (λ z. z ++ left) g ∙ append_assoc front (y ∷ e) left)) in
        let a : AreBegun ((front ++ (y ∷ [])) ++ e) (ms ++ (m ∷ [])) = subst (λ z. AreBegun z (ms ++ (m ∷ []))) (g ∙ sym (append_assoc front (y ∷ []) e)) b in
        let c = begun_front (front ++ (y ∷ [])) e (ms ++ (m ∷ [])) a in
        subst (λ z. Stops front z) cut st c.0 c.3

    stopping : (front behind : List Word) → Stops front behind → words (ms ++ (m ∷ [])) ++ left ≡ front ++ behind
        → (((e : List Word) × (words (ms ++ (m ∷ [])) ≡ front ++ e)) ⊎ ((x : Word) × (e : List Word) × (front ≡ words (ms ++ (m ∷ [])) ++ (x ∷ e)) × (left ≡ x ∷ (e ++ behind)))) → place < place_in (length text) behind
    stopping front behind st g (inl ([], h)) = stops_past front behind [] g (sym (h ∙ append-nil front) ∙ sym (append-nil (words (ms ++ (m ∷ [])))))
    stopping front behind st g (inl (y ∷ e, h)) = absurd (stops_within front behind y e st h g)
    stopping front behind st g (inr h) = stops_past front behind (h.0 ∷ h.1) g h.2

    -- a fault at the mark itself
    same_mark : (q : Problem) (k : ℕ) (before : List Token) (last : Token) → before ++ (last ∷ []) ≡ ms ++ (m ∷ []) → IsFaulty before last q k → (place < k) ⊎ ((place ≡ k) × (turn p ≤ turn q))
    same_mark q k before last g h =
        let e = snoc_same before ms last m g in
        least q k (subst (λ z. IsFaulty z m q k) e.0 (subst (λ z. IsFaulty before z q k) e.1 h))

    -- a fault behind it
    later : (q : Problem) (k : ℕ) (behind : List Token) (last : Token) → AreAbove m.word.place (words (behind ++ (last ∷ []))) → AreBegun (words ((ms ++ (m ∷ [])) ++ (behind ++ (last ∷ [])))) ((ms ++ (m ∷ [])) ++ (behind ++ (last ∷ [])))
        → Placed ((ms ++ (m ∷ [])) ++ behind) last q k → (place < k) ⊎ ((place ≡ k) × (turn p ≤ turn q))
    later q k behind last up2 h (here e) =
        let low = by_mark (placed ms m p place f) in
        let high = all_last (λ w. m.word.place < w.place) (words behind) last.word (subst (λ z. AreAbove m.word.place z) (last_words behind last) up2) in
        inl (omega (arith, low, high, e))
    later q k [] last up2 h (before_it front bits e g i j) =
        let same = snoc_same ms front m bits (sym (append-nil (ms ++ (m ∷ []))) ∙ i) in
        let at : k ≡ m.word.place = j ∙ ap (λ z. z.word.place) (sym same.1) in
        tie (placed ms m p place f) at (at_bits ms m p place f (taken_bits ms m last h e)) g
      where
        tie : Placed ms m p place → k ≡ m.word.place → p ≡ Unfit → q ≡ Unfit → (place < k) ⊎ ((place ≡ k) × (turn p ≤ turn q))
        tie (here a) c d v = inr (a ∙ sym c, subst (λ z. turn p ≤ turn z) (sym v) (subst (λ z. turn z ≤ turn Unfit) (sym d) (omega arith)))
        tie (before_it front2 bits2 a b2 c2 d2) c d v =
            let ws : words ms ≡ words front2 ++ (bits2.word ∷ []) = ap words c2 ∙ last_words front2 bits2 in
            let lower = rising_back (words front2) bits2.word (m.word ∷ left) (subst Rising (ap (λ z. z ++ (m.word ∷ left)) ws ∙ append_assoc (words front2) (bits2.word ∷ []) (m.word ∷ left)) up) in
            inl (omega (arith, d2, lower.0, c))
    later q k (c ∷ behind) last up2 h (before_it front bits e g i j) =
        let z = ends_alike (ms ++ (m ∷ [])) c behind front bits i in
        let low = by_mark (placed ms m p place f) in
        let inner : AreAbove m.word.place (words (c ∷ behind)) = all_front (λ w. m.word.place < w.place) (words (c ∷ behind)) (last.word ∷ []) (subst (λ y. AreAbove m.word.place y) (last_words (c ∷ behind) last) up2) in
        let high = all_last (λ w. m.word.place < w.place) (words z.0) bits.word (subst (λ y. AreAbove m.word.place y) (ap words z.1 ∙ last_words z.0 bits) inner) in
        inl (omega (arith, low, high, j))

    faulting : (q : Problem) (k : ℕ) (h : FaultsAt text q k)
        → (((e : List Word) × (words (ms ++ (m ∷ [])) ≡ h.front ++ e)) ⊎ ((x : Word) × (e : List Word) × (h.front ≡ words (ms ++ (m ∷ [])) ++ (x ∷ e)) × (left ≡ x ∷ (e ++ h.left)))) → (place < k) ⊎ ((place ≡ k) × (turn p ≤ turn q))
    faulting q k h (inl ([], g)) =
        same_mark q k h.before h.last (one_marking h.front (h.before ++ (h.last ∷ [])) (ms ++ (m ∷ [])) h.begun (subst (λ z. AreBegun z (ms ++ (m ∷ []))) (g ∙ append-nil h.front) b)) h.faulty
    faulting q k h (inl (y ∷ e, g)) =
        let z = ends_alike h.front y e (words ms) m.word (sym g ∙ last_words ms m) in
        absurd (none_within text ms (m.word ∷ left) q k r h z.0 z.2)
    faulting q k h (inr (x, e, g, i)) =
        let c = begun_front (words (ms ++ (m ∷ []))) (x ∷ e) (h.before ++ (h.last ∷ [])) (subst (λ z. AreBegun z (h.before ++ (h.last ∷ []))) g h.begun) in
        let one : c.0 ≡ ms ++ (m ∷ []) = one_marking (words (ms ++ (m ∷ []))) c.0 (ms ++ (m ∷ [])) c.3 b in
        behind c.1 (sym (c.2 ∙ ap (λ z. z ++ c.1) one)) c.4
      where
        behind : (bs : List Token) → (ms ++ (m ∷ [])) ++ bs ≡ h.before ++ (h.last ∷ []) → words bs ≡ x ∷ e → (place < k) ⊎ ((place ≡ k) × (turn p ≤ turn q))
        behind [] u v = cc
        behind (y ∷ bs) u v =
            let z = ends_alike (ms ++ (m ∷ [])) y bs h.before h.last u in
            let whole : (ms ++ (m ∷ [])) ++ (z.0 ++ (h.last ∷ [])) ≡ h.before ++ (h.last ∷ []) = ap (λ w. (ms ++ (m ∷ [])) ++ w) (sym z.1) ∙ u in
            let up2 : AreAbove m.word.place (words (z.0 ++ (h.last ∷ []))) = subst (λ w. AreAbove m.word.place w) (sym v ∙ ap words z.1) (all_front (λ w. m.word.place < w.place) (x ∷ e) h.left (subst (λ w. AreAbove m.word.place w) i above)) in
            later q k z.0 h.last up2 (subst (λ w. AreBegun (words w) w) (sym whole) (record { are = refl; each = h.begun.each; begins = h.begun.begins }))
            (placed ((ms ++ (m ∷ [])) ++ z.0) h.last q k (subst (λ w. IsFaulty w h.last q k) z.2 h.faulty))

    first : (q : Problem) (k : ℕ) → Has text q k → (place < k) ⊎ ((place ≡ k) × (turn p ≤ turn q))
    first q k (inl h) =
        let g = one_text text (words (ms ++ (m ∷ []))) left h.1.front h.1.left spelled h.1.spelled in
        inl (let z = stopping h.1.front h.1.left h.1.stops g (compare (words (ms ++ (m ∷ []))) left h.1.front h.1.left g) in omega (arith, z, h.1.at))
    first q k (inr h) = faulting q k h (compare (words (ms ++ (m ∷ []))) left h.front h.left (one_text text (words (ms ++ (m ∷ []))) left h.front h.left spelled h.spelled))
