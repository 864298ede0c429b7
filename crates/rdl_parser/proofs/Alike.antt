-- Tokens that are seen alike are judged alike.
use Rattle.std.specs.List.{fold}
use Rattle.std.proofs.Common.{◌≡◌, ℕ, zero, suc, ◌+◌, ◌-◌, ◌<◌, ◌≤◌, true, List, [], ◌∷◌, ◌++◌, length, take, drop, map, refl, ap, sym, ◌∙◌, subst}
use Rattle.rb_base.specs.declared.place.Place.{Place}
use Rattle.rb_grammar.specs.Forms.{Form, Non, Fits, Begins, StopsAt, empty, turns, in_first, in_second, at_token, at_end}
use Rattle.rb_grammar.specs.Forms as forms
use Rattle.rdl_tree.specs.declared.token.Terminal.{Terminal}
use Rattle.rdl_tree.specs.declared.token.Token.{Token}
use Rattle.rdl_tree.specs.Grammar.{Rule, grammar}
use Rattle.rdl_tree.specs.Tokens.{is}
use Rattle.rdl_lexer.specs.Lexemes.{seen}
use Rattle.rdl_lexer.specs.Depth.{Depth, deeper, effect, start, IsWithin, StaysWithin}
use Rattle.rdl_parser.specs.Judging.{IsGood, IsWrongAt, IsTooDeepAt}
use Rattle.rdl_parser.specs.Verdicts.{place_of, rule_of}

pub data Alike : List Token → List Token → Type 0 where
  none : Alike [] []
  both : {t u : Token} {ts us : List Token} → t.kind ≡ u.kind → t.place ≡ u.place → Alike ts us → Alike (t ∷ ts) (u ∷ us)

pub alike : (ts us : List Token) → map seen ts ≡ map seen us → Alike ts us
alike [] [] e = none
alike [] (u ∷ us) e = cc
alike (t ∷ ts) [] e = cc
alike (t ∷ ts) (u ∷ us) e =
    let h : seen t ≡ seen u = cc in
    let k : t.kind ≡ u.kind = ap (λ s. s.token.kind) h in
    let p : t.place.0 ≡ u.place.0 = ap (λ s. s.place) h in
    both {t = t} {u = u} k (ap (λ (n : ℕ). record { 0 = n }) p) (alike ts us (cc))

back : {ts us : List Token} → Alike ts us → Alike us ts
back none = none
back (both k p a) = both (sym k) (sym p) (back a)

long : {ts us : List Token} → Alike ts us → length ts ≡ length us
long none = refl
long (both k p a) = ap suc (long a)

-- a list that is seen as two lists in turn is two lists in turn
split : (xs ys us : List Token) → Alike (xs ++ ys) us → (vs : List Token) × (ws : List Token) × (us ≡ vs ++ ws) × Alike xs vs × Alike ys ws
split [] ys us a = ([], us, refl, none, a)
split (x ∷ xs) ys _ (both {u = u} k p a) = let h = split xs ys _ a in (u ∷ h.0, h.1, ap (λ z. u ∷ z) h.2, both k p h.3, h.4)

parted : {ts us : List Token} (xs ys : List Token) → ts ≡ xs ++ ys → Alike ts us → (vs : List Token) × (ws : List Token) × (us ≡ vs ++ ws) × Alike xs vs × Alike ys ws
parted {us = us} xs ys e a = split xs ys us (subst (λ z. Alike z us) e a)

joined : {xs ys us vs : List Token} → Alike xs us → Alike ys vs → Alike (xs ++ ys) (us ++ vs)
joined none b = b
joined (both k p a) b = both k p (joined a b)

token_alike : (a : Terminal) (t u : Token) → t.kind ≡ u.kind → is a t ≡ true → is a u ≡ true
token_alike a t u k i = ap (λ z. is a record t { kind = z }) (sym k) ∙ i

fits : {f : Form Terminal Rule} {ts us : List Token} → Fits grammar f ts → Alike ts us → Fits grammar f us
fits (forms.token {a = a} {t = t} i) (both {u = u} k p none) = forms.token (token_alike a t u k i)
fits (forms.rule x) a = forms.rule (fits x a)
fits (forms.first x) a = forms.first (fits x a)
fits (forms.second x) a = forms.second (fits x a)
fits forms.none none = forms.none
fits (forms.some x) a = forms.some (fits x a)
fits forms.no_turn none = forms.no_turn
fits (forms.turn {us = xs} {vs = ys} e x y) a = let h = parted xs ys e a in forms.turn h.2 (fits x h.3) (fits y h.4)
fits (forms.both {us = xs} {vs = ys} e x y) a = let h = parted xs ys e a in forms.both h.2 (fits x h.3) (fits y h.4)

begins : {f : Form Terminal Rule} {ts us : List Token} → Begins grammar f ts → Alike ts us → Begins grammar f us
begins empty none = empty
begins (forms.token {a = a} {t = t} i) (both {u = u} k p none) = forms.token (token_alike a t u k i)
begins (forms.rule x) a = forms.rule (begins x a)
begins (forms.first x) a = forms.first (begins x a)
begins (forms.second x) a = forms.second (begins x a)
begins (forms.some x) a = forms.some (begins x a)
begins (turns {us = xs} {vs = ys} e x y) a = let h = parted xs ys e a in turns h.2 (fits x h.3) (begins y h.4)
begins (in_first x) a = in_first (begins x a)
begins (in_second {us = xs} {vs = ys} e x y) a = let h = parted xs ys e a in in_second h.2 (fits x h.3) (begins y h.4)

stops : {f : Form Terminal Rule} {ts us left : List Token} → StopsAt grammar f ts left → Alike ts us → (rest : List Token) × StopsAt grammar f us rest × Alike left rest
stops {f = f} {us = us} (at_end b n) a = ([], at_end {ts = us} (begins b a) (λ x. n (fits x (back a))), none)
stops {f = f} {us = us} (at_token front after t e b n) a = let h = parted front (t ∷ after) e a in go h.0 h.1 h.2 h.3 h.4
  where
    go : (vs ws : List Token) → us ≡ vs ++ ws → Alike front vs → Alike (t ∷ after) ws → (rest : List Token) × StopsAt grammar f us rest × Alike (t ∷ after) rest
    go vs _ g c (both {u = u} {us = ws} k p d) = (u ∷ ws, at_token {ts = us} vs ws u g (begins b c) (λ x. n (begins x (back (joined c (both k p none))))), both k p d)

fronts : {ts us : List Token} (n : ℕ) → Alike ts us → Alike (take n ts) (take n us)
fronts zero a = none
fronts (suc n) none = none
fronts (suc n) (both k p a) = both k p (fronts n a)

pub rests : {ts us : List Token} (n : ℕ) → Alike ts us → Alike (drop n ts) (drop n us)
rests zero a = a
rests (suc n) none = none
rests (suc n) (both k p a) = rests n a

folds : {ts us : List Token} (d : Depth) → Alike ts us → fold (λ d t. deeper d (effect t)) d ts ≡ fold (λ d t. deeper d (effect t)) d us
folds d none = refl
folds d (both {t = t} {u = u} {us = us} k p a) = folds (deeper d (effect t)) a ∙ ap (λ z. fold (λ d t. deeper d (effect t)) (deeper d (effect record t { kind = z })) us) k

within : {ts us : List Token} → StaysWithin ts → Alike ts us → StaysWithin us
within s a = λ i l. subst (λ z. IsWithin z) (folds start (fronts i a)) (s i (subst (λ (n : ℕ). i ≤ n) (sym (long a)) l))

pub place_alike : {ts us : List Token} (end : Place) → Alike ts us → place_of ts end ≡ place_of us end
place_alike end none = refl
place_alike end (both k p a) = p

pub rule_alike : {ts us : List Token} → Alike ts us → rule_of ts ≡ rule_of us
rule_alike none = refl
rule_alike (both {t = t} k p a) = ap (λ z. rule_of (record t { kind = z } ∷ [])) k

pub good_alike : {ts us : List Token} → IsGood ts → Alike ts us → IsGood us
good_alike g a = record { fits = fits g.fits a; within = within g.within a }

pub wrong_alike : {ts us left : List Token} → IsWrongAt ts left → Alike ts us → (rest : List Token) × IsWrongAt us rest × Alike left rest
wrong_alike {ts = ts} {us = us} {left = left} w a = let h = stops w.stops a in (h.0, record { stops = h.1; within = cut h.0 h.2 }, h.2)
  where
    cut : (rest : List Token) → Alike left rest → StaysWithin (take (length us - length rest) us)
    cut rest b = subst (λ (n : ℕ). StaysWithin (take n us)) (ap (λ (n : ℕ). n - length left) (long a) ∙ ap (λ (n : ℕ). length us - n) (long b)) (within w.within (fronts (length ts - length left) a))

pub deep_alike : {ts us : List Token} {i : ℕ} → IsTooDeepAt ts i → Alike ts us → IsTooDeepAt us i
deep_alike {i = i} d a = record {
  first = record {
    within = subst (λ (n : ℕ). i < n) (long a) d.first.within;
    before = within d.first.before (fronts i a);
    passes = λ w. d.first.passes (subst (λ z. IsWithin z) (sym (folds start (fronts (i + 1) a))) w);
  };
  begins = begins d.begins (fronts (i + 1) a);
}
