-- Where the words of changes lead.
use Rattle.std.specs.List.{list_all}
use Rattle.std.proofs.Common.{◌≡◌, ℕ, ◌≤◌, Bool, true, false, ◌||◌, ◌==◌, Some, List, [], ◌∷◌, length, drop, get_or, nat_lt, refl, sym, subst, arith}
use Rattle.std.proofs.lemmas.Bool.{and_parts}
use Rattle.std.proofs.lemmas.Bool.Decides.{nat_tests}
use Rattle.vcd_syntax.specs.declared.kind.Kind.TheVariants as kind
use Rattle.vcd_syntax.specs.declared.state.State.TheVariants as state
use Rattle.vcd_syntax.specs.Exits.{exit_by}
use Rattle.vcd_syntax.specs.Faulty.{is_known_bit}
use Rattle.vcd_syntax.specs.Words.{is_bit}

wider : (p q r : Bool) → (p || q) ≡ true → (p || (q || r)) ≡ true
wider true q r h = refl
wider false true r h = refl
wider false false r h = cc

known_bits : (bs : List ℕ) → list_all is_known_bit bs ≡ true → list_all is_bit bs ≡ true
known_bits [] h = refl
known_bits (b ∷ bs) h =
    let p = and_parts (is_known_bit b) (list_all is_known_bit bs) h in
    rw (wider (b == 48) (b == 49) (b == 120 || (b == 88 || (b == 122 || b == 90))) p.0, known_bits bs p.1) refl

positive : (n : ℕ) → (n == 0) ≡ false → nat_lt 0 n ≡ true
positive n h = grind (arith, nat_tests)

-- `b` and bits, all of them 0 or 1, are bits for a variable
pub number_leads : (word bits : List ℕ) → 1 ≤ length word → get_or word 0 0 ≡ 98 → bits ≡ drop 1 word → (length bits == 0) ≡ false → list_all is_known_bit bits ≡ true → exit_by state.Entries word ≡ Some (kind.Bits, state.Taker)
number_leads [] bits l h e p k = absurd (omega (arith, l))
number_leads (b ∷ bs) bits l h e p k =
    let some : nat_lt 0 (length bs) ≡ true = subst (λ z. nat_lt 0 (length z) ≡ true) e (positive (length bits) p) in
    let all : list_all is_bit bs ≡ true = subst (λ z. list_all is_bit z ≡ true) e (known_bits bits k) in
    subst (λ z. exit_by state.Entries (z ∷ bs) ≡ Some (kind.Bits, state.Taker)) (sym h) (rw (some, all) refl)
