-- The body of a node laid out, by numbers.
use Rattle.std.specs.List.{All}
use Rattle.std.proofs.Common.{◌≡◌, ◌∙◌, ℕ, zero, suc, ◌+◌, ◌-◌, ◌<◌, List, [], ◌∷◌, ◌++◌, length, refl, sym, ap, subst, arith, append_assoc}
use Rattle.rdl_layout.specs.declared.part.Mode.{Mode}
use Rattle.rdl_layout.specs.declared.part.Part.{Part}
use Rattle.rdl_layout.specs.Parts.{end, starts}
use Rattle.rdl_sizes.specs.declared.lot.Lot.{Lot}
use Rattle.rdl_sizes.specs.Elements.{elements}
use Rattle.rdl_sizes.specs.Lots.{parts_in}

pub one-element : (xs ys zs : List ℕ) (at step others each next : ℕ) → each < others → next ≡ at + step → ys ≡ xs ++ (next ∷ []) → xs ++ elements (at + step) step (others - each) ≡ zs → ys ++ elements (next + step) step (others - (each + 1)) ≡ zs
one-element xs ys zs at step others each next l n e h =
    let left : others - each ≡ suc (others - (each + 1)) = omega (arith, l) in
    ap (λ q. q ++ elements (next + step) step (others - (each + 1))) e
    ∙ (append_assoc xs (next ∷ []) (elements (next + step) step (others - (each + 1)))
    ∙ ((λ i. xs ++ elements (n i) step (sym left i)) ∙ h))

pub wide-parts : (ls : List Lot) (ps : List Part) → ps ≡ parts_in ls → All (λ l. 0 < l.part.access) ls → All (λ p. 0 < p.access) ps
wide-parts ls ps e h = subst (All (λ p. 0 < p.access)) (sym e) (go ls h)
  where
    go : (ls : List Lot) → All (λ l. 0 < l.part.access) ls → All (λ p. 0 < p.access) (parts_in ls)
    go [] h k d l = absurd (omega (arith, l))
    go (x ∷ xs) h zero d l = h 0 x (omega arith)
    go (x ∷ xs) h (suc k) d l = go xs (λ i y m. h (suc i) y (omega (arith, m))) k d (omega (arith, l))

pub as-many-starts : (m : Mode) (before : ℕ) (ps : List Part) → length (starts m before ps) ≡ length ps
as-many-starts m before [] = refl
as-many-starts m before (p ∷ ps) = ap suc (as-many-starts m (end m before p) ps)
