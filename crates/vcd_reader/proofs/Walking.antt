-- A dump is walked word by word.
use Rattle.std.specs.List.{AllByRecursion}
use Rattle.std.specs.Prelude.{IsTrue, filter, slice_get}
use Rattle.std.proofs.Common.{◌≡◌, ℕ, zero, suc, ◌+◌, ◌-◌, ◌<◌, Bool, true, false, cond, Option, Some, None, List, [], ◌∷◌, ◌++◌, length, drop, map, refl, ap, sym, ◌∙◌, subst, arith, append_assoc, append-nil, length-append, length-drop}
use Rattle.std.proofs.lemmas.List.{append_cancel_left, map-append}
use Rattle.plain_lemmas.proofs.Lists.{filter-append, each-right, get-beyond}
use Rattle.rb_grammar.specs.Separators.{Skips}
use Rattle.rb_grammar.specs.Spelling.{SpellsFrom, Spells}
use Rattle.rb_grammar.proofs.OneSpelling.{spells_once}
use Rattle.vcd_syntax.specs.declared.kind.Kind.{Kind}
use Rattle.vcd_syntax.specs.declared.kind.Kind.TheVariants as kind
use Rattle.vcd_syntax.specs.Words.{vcd, is}
use Rattle.vcd_syntax.specs.Grammar.{same}
use Rattle.vcd_syntax.specs.Tokens.{Word, Token, kinds_of}
use Rattle.vcd_syntax.specs.Meaning.{words_of, names}
use Rattle.vcd_syntax.specs.Reading.{IsSound}
use Rattle.vcd_syntax.specs.declared.state.State.{State}
use Rattle.vcd_syntax.specs.declared.state.State.TheVariants as state
use Rattle.vcd_syntax.specs.Exits.{after, after_all, exit_by}
use Rattle.vcd_syntax.specs.Reads.{words}
use Rattle.vcd_syntax.proofs.Stacks.{fits_leads, same_exact}
use Rattle.vcd_syntax.proofs.OneMarking.{taken, led}
use Rattle.vcd_syntax.proofs.Judging.{by_front, lead_on}
use Rattle.vcd_reader.specs.Fronts.{IsBehind}
use Rattle.vcd_reader.specs.Walks.{IsWalked}
use Rattle.vcd_reader.proofs.Existing.{words_exist, coloured}

pub walk_begins : (text : List ℕ) (ms : List Token) (number : ℕ) → IsSound text ms → IsWalked text ms 0 state.Front number number
walk_begins text ms number h = record {
  front = [];
  back = ms;
  are = refl;
  spelled = λ ws s. s;
  leads = refl;
  count = omega arith;
}

words_of-append : (x : Kind) (xs ys : List Token) → words_of x (xs ++ ys) ≡ words_of x xs ++ words_of x ys
words_of-append x xs ys = ap (map (λ (m : Token). m.word.token)) (filter-append (λ (m : Token). same x m.kind) xs ys) ∙ map-append (λ (m : Token). m.word.token) (filter (λ (m : Token). same x m.kind) xs) (filter (λ (m : Token). same x m.kind) ys)

-- what is left of the words of a sound text is what is left of its marks
left_words : (text : List ℕ) (ms : List Token) (at : ℕ) (s : State) (left number : ℕ) (ws : List Word) (h : IsWalked text ms at s left number) → IsSound text ms → SpellsFrom vcd (length text) (drop at text) ws → words h.back ≡ ws
left_words text ms at s left number ws h sound a =
    let all : words ms ≡ words h.front ++ words h.back = ap words h.are ∙ map-append (λ (m : Token). m.word) h.front h.back in
    let one : sound.words ≡ words h.front ++ ws = spells_once vcd text sound.words (words h.front ++ ws) sound.spelled (h.spelled ws a) in
    append_cancel_left (words h.front) (words h.back) ws (sym all ∙ (sound.whole.are ∙ one))

-- the mark of the next word, and what is behind it
pub record IsNextMark (text : List ℕ) (ms : List Token) (at : ℕ) (s : State) (left number : ℕ) (w : Word) : Type 0 where
  pub front : List Token
  pub m : Token
  pub behind : List Token
  pub are : ms ≡ front ++ (m ∷ behind)
  pub word : m.word ≡ w
  pub spelled : (ws : List Word) → SpellsFrom vcd (length text) (drop (w.place + length w.token) text) ws → Spells vcd text (words front ++ (w ∷ ws))
  pub leads : after_all state.Front (kinds_of front) ≡ Some s
  pub to : State
  pub exit : exit_by s w.token ≡ Some (m.kind, to)
  pub goes : after s m.kind ≡ Some to
  pub count : length (names front) + left ≡ number

pub next_mark : (text : List ℕ) (ms : List Token) (at : ℕ) (s : State) (left number : ℕ) (w : Word) → IsSound text ms → IsWalked text ms at s left number → IsBehind text at w → IsNextMark text ms at s left number w
next_mark text ms at s left number w sound h b = go h.back refl
  where
    size : ℕ
    size = w.place + length w.token

    rest : (ws : List Word) × SpellsFrom vcd (length text) (drop size text) ws
    rest = words_exist (length text) (drop size text) (omega (arith, length-drop size text))

    one : words h.back ≡ w ∷ rest.0
    one = left_words text ms at s left number (w ∷ rest.0) h sound (b.spelled rest.0 rest.1)

    go : (back : List Token) → h.back ≡ back → IsNextMark text ms at s left number w
    go [] e = let none : [] ≡ w ∷ rest.0 = ap words (sym e) ∙ one in cc
    go (m ∷ behind) e =
        let whole : ms ≡ h.front ++ (m ∷ behind) = h.are ∙ ap (λ z. h.front ++ z) e in
        let both : m.word ∷ words behind ≡ w ∷ rest.0 = ap words (sym e) ∙ one in
        let head : m.word ≡ w = cc in
        let kinds : kinds_of ms ≡ kinds_of h.front ++ (m.kind ∷ kinds_of behind) = ap kinds_of whole ∙ map-append (λ (z : Token). z.kind) h.front (m ∷ behind) in
        let end = fits_leads (kinds_of ms) sound.whole.fits in
        let f = by_front (kinds_of h.front) (m.kind ∷ kinds_of behind) state.Front state.Entries (ap (after_all state.Front) (sym kinds) ∙ end) in
        let here : s ≡ f.0 = (let same_state : Some s ≡ Some f.0 = sym h.leads ∙ f.1 in cc) in
        let l = led s m.kind (kinds_of behind) state.Entries (subst (λ z. after_all z (m.kind ∷ kinds_of behind) ≡ Some state.Entries) (sym here) f.2) in
        let each = each-right (λ (z : Token). IsTrue (is z.kind z.word.token)) h.front (m ∷ behind) (subst (AllByRecursion (λ (z : Token). IsTrue (is z.kind z.word.token))) whole sound.whole.each) in
        record {
          front = h.front;
          m = m;
          behind = behind;
          are = whole;
          word = head;
          spelled = λ ws a. h.spelled (w ∷ ws) (b.spelled ws a);
          leads = h.leads;
          to = l.0;
          exit = ap (λ (z : Word). exit_by s z.token) (sym head) ∙ taken m.word.token s m.kind l.0 l.1 each.0;
          goes = l.1;
          count = h.count;
        }

-- one word further
walked_on : (text : List ℕ) (ms : List Token) (at : ℕ) (s : State) (left number : ℕ) (w : Word) (n : IsNextMark text ms at s left number w) (fewer : ℕ) → length (words_of kind.Name (n.m ∷ [])) + fewer ≡ left → IsWalked text ms (w.place + length w.token) n.to fewer number
walked_on text ms at s left number w n fewer e = record {
  front = n.front ++ (n.m ∷ []);
  back = n.behind;
  are = n.are ∙ sym (append_assoc n.front (n.m ∷ []) n.behind);
  spelled = λ ws a.
      let same_words : words (n.front ++ (n.m ∷ [])) ++ ws ≡ words n.front ++ (w ∷ ws) = ap (λ z. z ++ ws) (map-append (λ (z : Token). z.word) n.front (n.m ∷ [])) ∙ (append_assoc (words n.front) (n.m.word ∷ []) ws ∙ ap (λ (z : Word). words n.front ++ (z ∷ ws)) n.word) in
      subst (Spells vcd text) (sym same_words) (n.spelled ws a);
  leads = ap (after_all state.Front) (map-append (λ (z : Token). z.kind) n.front (n.m ∷ [])) ∙ lead_on (kinds_of n.front) n.m.kind state.Front s n.to n.leads n.goes;
  count =
      let c = ap length (words_of-append kind.Name n.front (n.m ∷ [])) ∙ length-append (names n.front) (words_of kind.Name (n.m ∷ [])) in
      omega (arith, c, e, n.count);
}

pair_parts : (a c : Kind) (b d : State) → ◌≡◌ {A = Option (Kind × State)} (Some (a, b)) (Some (c, d)) → (a ≡ c) × (b ≡ d)
pair_parts a c b d e = let p : ◌≡◌ {A = Kind × State} (a, b) (c, d) = cc in (ap (λ (z : Kind × State). z.0) p, ap (λ (z : Kind × State). z.1) p)

pub some_left : (n : ℕ) → (n ≡ 0 → ⊥) → 0 < n
some_left zero h = absurd (h refl)
some_left (suc n) h = omega arith

name_alone : (m : Token) (b : Bool) → same kind.Name m.kind ≡ b → length (words_of kind.Name (m ∷ [])) ≡ cond b 1 0
name_alone m true e = ap (λ b. length (map (λ (z : Token). z.word.token) (cond b (m ∷ []) []))) e
name_alone m false e = ap (λ b. length (map (λ (z : Token). z.word.token) (cond b (m ∷ []) []))) e

-- past a name
pub past_name : (text : List ℕ) (ms : List Token) (at : ℕ) (s t : State) (x : Kind) (left number : ℕ) (w : Word) → IsNextMark text ms at s left number w → exit_by s w.token ≡ Some (x, t) → x ≡ kind.Name → 0 < left → IsWalked text ms (w.place + length w.token) t (left - 1) number
past_name text ms at s t x left number w n e f l =
    let both = pair_parts n.m.kind x n.to t (sym n.exit ∙ e) in
    let k : n.m.kind ≡ kind.Name = both.0 ∙ f in
    let one = name_alone n.m true (subst (λ z. same kind.Name z ≡ true) (sym k) refl) in
    subst (λ z. IsWalked text ms (w.place + length w.token) z (left - 1) number) both.1 (walked_on text ms at s left number w n (left - 1) (omega (arith, one, l)))

-- past any other word
pub past_other : (text : List ℕ) (ms : List Token) (at : ℕ) (s t : State) (x : Kind) (left number : ℕ) (w : Word) → IsNextMark text ms at s left number w → exit_by s w.token ≡ Some (x, t) → (x ≡ kind.Name → ⊥) → IsWalked text ms (w.place + length w.token) t left number
past_other text ms at s t x left number w n e f =
    let both = pair_parts n.m.kind x n.to t (sym n.exit ∙ e) in
    let none = name_alone n.m false (other (same kind.Name n.m.kind) refl (λ g. f (sym both.0 ∙ g))) in
    subst (λ z. IsWalked text ms (w.place + length w.token) z left number) both.1 (walked_on text ms at s left number w n left (omega (arith, none)))
  where
    other : (b : Bool) → same kind.Name n.m.kind ≡ b → (n.m.kind ≡ kind.Name → ⊥) → same kind.Name n.m.kind ≡ false
    other true g h = absurd (h (sym (same_exact kind.Name n.m.kind g)))
    other false g h = g

-- the name looked for
pub name_found : (text : List ℕ) (ms : List Token) (at : ℕ) (s t : State) (x : Kind) (left number : ℕ) (w : Word) → IsNextMark text ms at s left number w → exit_by s w.token ≡ Some (x, t) → x ≡ kind.Name → left ≡ 0 → Some w.token ≡ slice_get (names ms) number
name_found text ms at s t x left number w n e f z =
    let both = pair_parts n.m.kind x n.to t (sym n.exit ∙ e) in
    let k : same kind.Name n.m.kind ≡ true = subst (λ y. same kind.Name y ≡ true) (sym (both.0 ∙ f)) refl in
    let head : words_of kind.Name (n.m ∷ n.behind) ≡ n.m.word.token ∷ names n.behind = ap (λ b. map (λ (y : Token). y.word.token) (cond b (n.m ∷ filter (λ (y : Token). same kind.Name y.kind) n.behind) (filter (λ (y : Token). same kind.Name y.kind) n.behind))) k in
    let all : names ms ≡ names n.front ++ (n.m.word.token ∷ names n.behind) = ap names n.are ∙ (words_of-append kind.Name n.front (n.m ∷ n.behind) ∙ ap (λ y. names n.front ++ y) head) in
    ap (λ (y : Word). Some y.token) (sym n.word) ∙ (sym (get_here (names n.front) n.m.word.token (names n.behind) number (omega (arith, n.count, z))) ∙ ap (λ y. slice_get y number) (sym all))
  where
    get_here : {X : Type 0} (xs : List X) (y : X) (ys : List X) (i : ℕ) → i ≡ length xs → slice_get (xs ++ (y ∷ ys)) i ≡ Some y
    get_here [] y ys zero e = refl
    get_here [] y ys (suc i) e = absurd (omega (arith, e))
    get_here (x ∷ xs) y ys zero e = absurd (omega (arith, e))
    get_here (x ∷ xs) y ys (suc i) e = get_here xs y ys i (omega (arith, e))

-- a sound text goes on
pub never_stuck : (text : List ℕ) (ms : List Token) (at : ℕ) (s : State) (left number : ℕ) (w : Word) → IsNextMark text ms at s left number w → exit_by s w.token ≡ None → ⊥
never_stuck text ms at s left number w n e = let both : Some (n.m.kind, n.to) ≡ None = sym n.exit ∙ e in cc

-- at the end there is no name of the number
pub no_name : (text : List ℕ) (ms : List Token) (at : ℕ) (s : State) (left number : ℕ) → IsSound text ms → IsWalked text ms at s left number → Skips false (drop at text) [] → None ≡ slice_get (names ms) number
no_name text ms at s left number sound h k = go h.back refl (left_words text ms at s left number [] h sound (coloured (drop at text) [] k))
  where
    go : (back : List Token) → h.back ≡ back → words h.back ≡ [] → None ≡ slice_get (names ms) number
    go [] e f =
        let all : ms ≡ h.front = h.are ∙ (ap (λ z. h.front ++ z) e ∙ append-nil h.front) in
        sym (get-beyond (names ms) number (let c = ap (λ z. length (names z)) all in omega (arith, c, h.count)))
    go (m ∷ behind) e f = let none : m.word ∷ words behind ≡ [] = ap words (sym e) ∙ f in cc
