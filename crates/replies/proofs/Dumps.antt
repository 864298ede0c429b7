-- What is told of a dump.
use Rattle.std.specs.Option.{option_copied}
use Rattle.std.proofs.Common.{◌≡◌, ℕ, zero, suc, List, [], ◌∷◌, ◌++◌, codes, slice_get, slice_index_or, Option, None, Some, Bor, refl, ap, sym, ◌∙◌, subst}
use Rattle.verdict_text.specs.Lines.{at_place, file_line}
use Rattle.vcd_syntax.specs.Tokens.{Token}
use Rattle.vcd_syntax.specs.Meaning.{names}
use Rattle.vcd_syntax.specs.Reading.{Fails, IsSound, Lacks}
use Rattle.vcd_syntax.specs.declared.error.VcdError.{VcdError}
use Rattle.vcd_syntax.specs.declared.error.VcdError.TheVariants.{Form, Twice, Code, Value, Time, Many, NoValue, NoMemory}
use Rattle.vcd_reader.specs.Reading.{place_number}
use Rattle.replies.specs.Text.{IsVcdLine, vcd_kind}

-- an item that is there, or no bytes
item_or : (xs : List (List ℕ)) (k : ℕ) (x : List ℕ) → slice_get xs k ≡ Some x → x ≡ slice_index_or xs k []
item_or [] k x h = absurd (let q : None ≡ Some x = h in cc)
item_or (y ∷ xs) zero x h = let q : y ≡ x = cc in sym q
item_or (y ∷ xs) (suc k) x h = item_or xs k x h

none_or : (xs : List (List ℕ)) (k : ℕ) → slice_get xs k ≡ None → [] ≡ slice_index_or xs k []
none_or [] k h = refl
none_or (y ∷ xs) zero h = absurd (let q : Some y ≡ None = h in cc)
none_or (y ∷ xs) (suc k) h = none_or xs k h

pub named : (o : Option (Bor (List ℕ))) (b : Bor (List ℕ)) (xs : List (List ℕ)) (k : ℕ) → o ≡ Some b → option_copied o ≡ slice_get xs k → b.now ≡ slice_index_or xs k []
named o b xs k e h = item_or xs k b.now (sym h ∙ ap option_copied e)

pub unnamed : (o : Option (Bor (List ℕ))) (xs : List (List ℕ)) (k : ℕ) → o ≡ None → option_copied o ≡ slice_get xs k → [] ≡ slice_index_or xs k []
unnamed o xs k e h = none_or xs k (sym h ∙ ap option_copied e)

-- the line of a variable without a value
pub lacking : (file text : List ℕ) (error : VcdError) (pin : ℕ) (name : List ℕ) → error ≡ NoValue pin → Fails text error
    → ((ms : List Token) → IsSound text ms → name ≡ slice_index_or (names ms) pin []) → IsVcdLine file text error (file_line file (codes ": pin " ++ name ++ codes " without a value"))
lacking file text error pin name e fails is =
    let lacks : Lacks text pin = subst (Fails text) e fails in
    let told = file_line file (codes ": pin " ++ name ++ codes " without a value") in
    subst (λ d. IsVcdLine file text d told) (sym e) (lacks.ms, lacks.sound, ap (λ n. file_line file (codes ": pin " ++ n ++ codes " without a value")) (is lacks.ms lacks.sound))

-- the line of any other problem
pub placed : (file text : List ℕ) (error : VcdError) (told : List ℕ) → ((pin : ℕ) → error ≡ NoValue pin → ⊥) → told ≡ file_line file (at_place text (place_number error) ++ vcd_kind error) → IsVcdLine file text error told
placed file text (Form p) told other e = e
placed file text (Twice p) told other e = e
placed file text (Code p) told other e = e
placed file text (Value p) told other e = e
placed file text (Time p) told other e = e
placed file text (Many p) told other e = e
placed file text (NoValue i) told other e = absurd (other i refl)
placed file text NoMemory told other e = e
