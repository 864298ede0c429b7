-- What the lines of a script are like.
use Rattle.std.proofs.Common.{◌≡◌, ◌⊎◌, ⊎_elim, inl, inr, ℕ, zero, suc, ◌+◌, ◌-◌, ◌<◌, ◌≤◌, Bool, true, false, ◌&&◌, cond, bytes_eq, ◌∷◌, [], List, Some, Ok, Err, drop, length, refl, ap, sym, ◌∙◌, subst, arith}
use Rattle.std.proofs.lemmas.Bool.Decides.{nat_tests}
use Rattle.rb_base.specs.declared.ports.Pin.{Pin}
use Rattle.rb_model.specs.declared.block.Block.{Block}
use Rattle.rb_model.specs.Ports.{input_pins}
use Rattle.drive_lang.specs.Lines.{words_of}
use Rattle.drive_names.specs.declared.table.Meaning.{Meaning}
use Rattle.drive_names.specs.Named.{meaning_of, named_pins}
use Rattle.drive_lang.specs.declared.order.Order.{Order}
use Rattle.drive_lang.specs.declared.order.Line.{Line}
use Rattle.drive_lang.specs.Steps.{vectors_of}
use Rattle.drive_lang.specs.Left.{are_held, is_held}
use Rattle.drive_lang.specs.Orders.{Judged, order_of}
use Rattle.drive_lang.proofs.Holding.{of_order}
use Rattle.drive_lang.specs.Rising.{Rises, number_at}
use Rattle.drive_lang.specs.Scripts.{Lines, in_front, lines_from, ordered, unless_blank}

-- a text that is read means nothing, or is a line in front of the others
pub record IsFirst (b : Block) (n room : ℕ) (text : List ℕ) (texts : List (List ℕ)) (ls : List Line) : Type 0 where
  pub order : Order
  pub more : List Line
  pub ordered_by : order_of b n room (words_of text) ≡ Ok order
  pub others : lines_from b (n + 1) (room - vectors_of order) texts ≡ Ok more
  pub is : ls ≡ record { number = n; order = order } ∷ more

pub first : (b : Block) (n room : ℕ) (text : List ℕ) (texts : List (List ℕ)) (ls : List Line) → lines_from b n room (text ∷ texts) ≡ Ok ls → (lines_from b (n + 1) room texts ≡ Ok ls) ⊎ IsFirst b n room text texts ls
first b n room text texts ls e = go (words_of text) refl e
  where
    third : (o : Order) → order_of b n room (words_of text) ≡ Ok o → (m : Lines) → lines_from b (n + 1) (room - vectors_of o) texts ≡ m → in_front (record { number = n; order = o }) m ≡ Ok ls → IsFirst b n room text texts ls
    third o j (Ok more) q e = record { order = o; more = more; ordered_by = j; others = q; is = let same : record { number = n; order = o } ∷ more ≡ ls = cc e in sym same }
    third o j (Err x) q e = cc e

    second : (j : Judged) → order_of b n room (words_of text) ≡ j → ordered n j (λ o. lines_from b (n + 1) (room - vectors_of o) texts) ≡ Ok ls → IsFirst b n room text texts ls
    second (Err x) q e = cc e
    second (Ok o) q e = third o q (lines_from b (n + 1) (room - vectors_of o) texts) refl e

    go : (ws : List (List ℕ)) → words_of text ≡ ws → unless_blank ws (lines_from b (n + 1) room texts) (ordered n (order_of b n room (words_of text)) (λ o. lines_from b (n + 1) (room - vectors_of o) texts)) ≡ Ok ls
        → (lines_from b (n + 1) room texts ≡ Ok ls) ⊎ IsFirst b n room text texts ls
    go [] q e = inl e
    go (w ∷ ws) q e = inr (second (order_of b n room (words_of text)) refl e)

-- Numbers rise.

record FromOn (n : ℕ) (ls : List Line) : Type 0 where
  above : (k : ℕ) → k < length ls → n ≤ number_at ls k
  rises : Rises ls

from_on : (b : Block) (n room : ℕ) (texts : List (List ℕ)) (ls : List Line) → lines_from b n room texts ≡ Ok ls → FromOn n ls
from_on b n room [] [] e = record { above = λ k low. absurd (omega (arith, low)); rises = λ j k less low. absurd (omega (arith, low)) }
from_on b n room [] (l ∷ ls) e = cc e
from_on b n room (t ∷ ts) ls e = ⊎_elim
    (λ blank. let r = from_on b (n + 1) room ts ls blank in record { above = λ k low. let a = r.above k low in omega (arith, a); rises = r.rises })
    (λ f. let r = from_on b (n + 1) (room - vectors_of f.order) ts f.more f.others in subst (FromOn n) (sym f.is) (more n f.order f.more r.above r.rises))
    (first b n room t ts ls e)
  where
    more : (n : ℕ) (o : Order) (ls : List Line) → ((k : ℕ) → k < length ls → n + 1 ≤ number_at ls k) → Rises ls → FromOn n (record { number = n; order = o } ∷ ls)
    more n o ls above rises = record { above = up; rises = rise }
      where
        up : (k : ℕ) → k < suc (length ls) → n ≤ number_at (record { number = n; order = o } ∷ ls) k
        up zero low = omega arith
        up (suc k) low = let a = above k (omega (arith, low)) in omega (arith, a)

        rise : (j k : ℕ) → j < k → k < suc (length ls) → number_at (record { number = n; order = o } ∷ ls) j < number_at (record { number = n; order = o } ∷ ls) k
        rise j zero less low = absurd (omega (arith, less))
        rise zero (suc k) less low = let a = above k (omega (arith, low)) in omega (arith, a)
        rise (suc j) (suc k) less low = rises j k (omega (arith, less)) (omega (arith, low))

pub rising : (b : Block) (n room : ℕ) (texts : List (List ℕ)) (ls : List Line) → lines_from b n room texts ≡ Ok ls → Rises ls
rising b n room texts ls e = (from_on b n room texts ls e).rises

-- Settings are of pins that there are.

pins_within : (k : ℕ) (ps : List Pin) (name : List ℕ) (m : Meaning) → meaning_of (named_pins k ps) name ≡ Some m → m.at < k + length ps
pins_within k [] name m e = cc e
pins_within k (p ∷ ps) name m e = go (bytes_eq p.name name) (pins_within (k + 1) ps name m) e
  where
    go : (c : Bool) → (meaning_of (named_pins (k + 1) ps) name ≡ Some m → m.at < k + 1 + length ps)
        → cond c (Some (record { at = k; width = p.width })) (meaning_of (named_pins (k + 1) ps) name) ≡ Some m → m.at < k + suc (length ps)
    go true rest e = let same : record { at = k; width = p.width } ≡ m = cc e in let at = ap (λ (x : Meaning). x.at) same in omega (arith, at)
    go false rest e = let r = rest e in omega (arith, r)

is_set : (b : Block) (o : Order) → Type 0
is_set b o = is_held o (length (drop 6 (input_pins b))) ≡ true

order_held : (b : Block) (line room : ℕ) (ws : List (List ℕ)) (o : Order) → order_of b line room ws ≡ Ok o → is_set b o
unfolding is_set
order_held b line room ws o e =
    of_order (is_set b) b (λ name m v n f. refl) (λ name m n. refl) (λ name m v n f. refl)
    (λ name m v n f. let low = pins_within 0 (drop 6 (input_pins b)) name m n in grind (arith, nat_tests, low)) (λ name m v n f. refl) (λ n. refl) (λ n. refl) line room ws o e

order_held_here : (b : Block) (line room : ℕ) (ws : List (List ℕ)) (o : Order) → order_of b line room ws ≡ Ok o → is_held o (length (drop 6 (input_pins b))) ≡ true
unfolding is_set
order_held_here b line room ws o e = order_held b line room ws o e

pub held : (b : Block) (n room : ℕ) (texts : List (List ℕ)) (ls : List Line) → lines_from b n room texts ≡ Ok ls → are_held ls (length (drop 6 (input_pins b))) ≡ true
held b n room [] [] e = refl
held b n room [] (l ∷ ls) e = cc e
held b n room (t ∷ ts) ls e = ⊎_elim (λ blank. held b (n + 1) room ts ls blank)
    (λ f. let h : is_held f.order (length (drop 6 (input_pins b))) ≡ true = order_held_here b n room (words_of t) f.order f.ordered_by in
    let r = held b (n + 1) (room - vectors_of f.order) ts f.more f.others in
    ap (λ xs. are_held xs (length (drop 6 (input_pins b)))) f.is ∙ ap (λ c. c && are_held f.more (length (drop 6 (input_pins b)))) h ∙ r)
    (first b n room t ts ls e)
