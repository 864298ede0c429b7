-- From one token to the next.
use Rattle.std.specs.List.{AllByRecursion}
use Rattle.std.proofs.Common.{◌≡◌, ℕ, ◌≤◌, true, Some, None, List, [], ◌∷◌, ◌++◌, length, take, drop, refl, ap, sym, ◌∙◌, subst, arith, append_assoc, length-append}
use Rattle.std.proofs.lemmas.List.{take_at, drop_at}
use Rattle.rb_grammar.specs.Spelling.{At, StartsWith, SpellsFrom, FailsAt}
use Rattle.rb_grammar.specs.Lexemes.{meaning_of}
use Rattle.v_design.specs.Lexemes.{Token, Const, verilog}
use Rattle.v_syntax.specs.Tokens.{seen, token_of, text_of, numbers_of, token_in, spotted, placed}
use Rattle.v_syntax.specs.Scanned.{SpellsUpTo, Scans, whole, broken}
use Rattle.v_syntax.specs.declared.token.VKind.{VKind}
use Rattle.v_syntax.specs.declared.token.VKind.TheVariants as kinds
use Rattle.v_syntax.specs.declared.token.VToken.{VToken}
use Rattle.v_syntax.specs.declared.spot.VSpot.{VSpot}
use Rattle.v_lexer.specs.Reading.{HasFaultAt, StandsAt, class_of, is_of_class, is_of_kind, IsOfItsKind, IsMeant, IsOfItsClass, spot_of}
use Rattle.v_lexer.proofs.NumberFronts.{constant_meant}

up_to_more : (size : ℕ) (ts : List (At Token)) (text rest after : List ℕ) (t : At Token) → SpellsUpTo size text ts rest → StartsWith verilog size rest t after → SpellsUpTo size text (ts ++ t ∷ []) after
up_to_more size [] text rest after t e s = (after, subst (λ z. StartsWith verilog size z t after) (sym e) s, refl)
up_to_more size (u ∷ us) text rest after t p s = (p.0, p.1, up_to_more size us p.0 rest after t p.2 s)

up_to_end : (size : ℕ) (ts : List (At Token)) (text rest : List ℕ) → SpellsUpTo size text ts rest → SpellsFrom verilog size rest [] → SpellsFrom verilog size text ts
up_to_end size [] text rest e s = subst (λ z. SpellsFrom verilog size z []) (sym e) s
up_to_end size (u ∷ us) text rest p s = (p.0, p.1, up_to_end size us p.0 rest p.2 s)

pub behind_more : (size place : ℕ) (bytes rest word after : List ℕ) → (gap : List ℕ) × (bytes ≡ gap ++ rest) → StandsAt size rest word after place → (gap : List ℕ) × (bytes ≡ gap ++ after)
behind_more size place bytes rest word after g s =
    (g.0 ++ (s.gap ++ word), g.1 ∙ (ap (λ z. g.0 ++ z) s.whole ∙ (ap (λ z. g.0 ++ z) (sym (append_assoc s.gap word after)) ∙ sym (append_assoc g.0 (s.gap ++ word) after))))

is_in : (size place : ℕ) (bytes rest word after : List ℕ) → size ≡ length bytes → (gap : List ℕ) × (bytes ≡ gap ++ rest) → StandsAt size rest word after place → word ≡ take (length word) (drop place bytes)
is_in size place bytes rest word after e g s =
    let all : bytes ≡ (g.0 ++ s.gap) ++ (word ++ after) = g.1 ∙ (ap (λ z. g.0 ++ z) s.whole ∙ sym (append_assoc g.0 s.gap (word ++ after))) in
    let len : length (g.0 ++ s.gap) ≡ place = omega (arith, s.at, e, ap length all, length-append (g.0 ++ s.gap) (word ++ after)) in
    sym (ap (λ z. take (length word) (drop place z)) all ∙ (ap (take (length word)) (drop_at (g.0 ++ s.gap) (word ++ after) place len) ∙ take_at word after (length word) refl))

-- A token and its spot.

same_token : (kind : VKind) (word : List ℕ) → is_of_kind kind word ≡ true → meaning_of verilog word ≡ Some (token_of kind word) → token_in (class_of kind) word ≡ token_of kind word
same_token kinds.Id word h m = refl
same_token kinds.Dec word h m = refl
same_token (kinds.Const width value) word h m = ap (λ o. Const (numbers_of o).0 (numbers_of o).1) (sym (constant_meant word h) ∙ m)
same_token kinds.Word word h m = refl
same_token kinds.Mark word h m = refl

pub text_is : (size : ℕ) (bytes rest after : List ℕ) (t : VToken) → size ≡ length bytes → (gap : List ℕ) × (bytes ≡ gap ++ rest) → StandsAt size rest t.text.now after t.place.0 → text_of bytes (spot_of t) ≡ t.text.now
text_is size bytes rest after t e g s = sym (is_in size t.place.0 bytes rest t.text.now after e g s)

pub spotted_is : (bytes : List ℕ) (t : VToken) → text_of bytes (spot_of t) ≡ t.text.now → IsOfItsKind t → IsMeant t → spotted bytes (spot_of t) ≡ seen t
spotted_is bytes t e h m = ap (λ w. record { token = token_in (class_of t.kind) w; place = t.place.0 }) e ∙ ap (λ w. record { token = w; place = t.place.0 }) (same_token t.kind t.text.now h m)

pub class_is : (bytes : List ℕ) (t : VToken) → text_of bytes (spot_of t) ≡ t.text.now → IsOfItsKind t → IsOfItsClass bytes (spot_of t)
class_is bytes t e h = subst (λ w. is_of_class (class_of t.kind) w ≡ true) (sym e) h

pub short : (size place : ℕ) (bytes rest word after : List ℕ) → (gap : List ℕ) × (bytes ≡ gap ++ rest) → StandsAt size rest word after place → length word ≤ length bytes
short size place bytes rest word after g s =
    omega (arith, ap length g.1, length-append g.0 rest, ap length s.whole, length-append s.gap (word ++ after), length-append word after)

placed_more : (bytes : List ℕ) (xs : List VSpot) (s : VSpot) → placed bytes (xs ++ s ∷ []) ≡ placed bytes xs ++ spotted bytes s ∷ []
placed_more bytes [] s = refl
placed_more bytes (x ∷ xs) s = ap (λ z. spotted bytes x ∷ z) (placed_more bytes xs s)

pub next_spelled : (size : ℕ) (bytes rest after : List ℕ) (xs zs : List VSpot) (s : VSpot) (t : At Token) → zs ≡ xs ++ s ∷ [] → spotted bytes s ≡ t → size ≡ length bytes → SpellsUpTo (length bytes) bytes (placed bytes xs) rest → StartsWith verilog size rest t after → SpellsUpTo (length bytes) bytes (placed bytes zs) after
next_spelled size bytes rest after xs zs s t f k e p h =
    rw (f, placed_more bytes xs s, k) (up_to_more (length bytes) (placed bytes xs) bytes rest after t p (subst (λ n. StartsWith verilog n rest t after) e h))

pub whole_here : (size : ℕ) (bytes rest : List ℕ) (ts : List (At Token)) → size ≡ length bytes → SpellsUpTo (length bytes) bytes ts rest → SpellsFrom verilog size rest [] → Scans bytes ts None
whole_here size bytes rest ts e p s = whole (up_to_end (length bytes) ts bytes rest p (subst (λ n. SpellsFrom verilog n rest []) e s))

pub broken_here : (size : ℕ) (bytes rest : List ℕ) (ts : List (At Token)) (place : ℕ) → size ≡ length bytes → SpellsUpTo (length bytes) bytes ts rest → HasFaultAt size rest place → Scans bytes ts (Some place)
broken_here size bytes rest ts place e p f = broken {rest = rest} {f = f.0} {place = place} p (subst (λ n. FailsAt verilog n rest f.0 place) e f.1)

all_and : {X : Type 0} (P : X → Type 0) (xs : List X) (x : X) → AllByRecursion P xs → P x → AllByRecursion P (xs ++ x ∷ [])
all_and P [] x h p = (p, tt)
all_and P (y ∷ ys) x h p = (h.0, all_and P ys x h.1 p)

pub all_more : {X : Type 0} (P : X → Type 0) (xs zs : List X) (x : X) → zs ≡ xs ++ x ∷ [] → AllByRecursion P xs → P x → AllByRecursion P zs
all_more P xs zs x e h p = rw e (all_and P xs x h p)
