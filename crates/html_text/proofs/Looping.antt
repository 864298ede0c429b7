-- Loops that write a text piece by piece.
use Rattle.std.proofs.Common.{◌≡◌, ◌∙◌, ℕ, List, [], ◌++◌, append_assoc, append-nil, refl, sym, ap}
use Rattle.html_text.specs.Writing.{At, Writes}
use Rattle.html_text.proofs.Wrote.{nothing, of_bytes, wrote}

-- of all that is to be written the front was, and this is left
pub record Goes (s t : At) (all left : List ℕ) : Type 0 where
  pub front : List ℕ
  pub went : Writes s t front
  pub is : front ++ left ≡ all

pub begins : (s : At) (all : List ℕ) → Goes s s all all
begins s all = record { front = []; went = nothing s; is = refl }

pub step : {s t u : At} {all left xs : List ℕ} (more : List ℕ) → left ≡ xs ++ more → Goes s t all left → Writes t u xs → Goes s u all more
step {xs = xs} more e p q = record {
  front = p.front ++ xs;
  went = wrote p.went q;
  is = append_assoc p.front xs more ∙ ap (λ l. p.front ++ l) (sym e) ∙ p.is;
}

pub done : {s t : At} {all left : List ℕ} → left ≡ [] → Goes s t all left → Writes s t all
done e p = of_bytes (sym (append-nil p.front) ∙ ap (λ l. p.front ++ l) (sym e) ∙ p.is) p.went

pub begins_as : (s : At) {all left : List ℕ} → left ≡ all → Goes s s all left
begins_as s e = record { front = []; went = nothing s; is = e }
