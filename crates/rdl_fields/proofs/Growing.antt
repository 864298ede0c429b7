-- One node more.
use Rattle.std.proofs.Common.{◌≡◌, ◌∙◌, ◌⊎◌, inl, inr, ℕ, ◌+◌, ◌<◌, Bool, List, [], ◌∷◌, ◌++◌, length, length-append, slice_get, Some, sym, ap, subst, arith}
use Rattle.plain_lemmas.proofs.Lists.{get-front, get-last}
use Rattle.rdl_tree.specs.declared.node.Elab.{Elab}
use Rattle.rdl_values.specs.Elaborated.{nodes_of}
use Rattle.rdl_values.specs.Instances.{Instance}
use Rattle.rdl_fields.specs.Touched.{AreTouches, touches}

pub none-yet : (e : Elab) (ts : List Bool) → ts ≡ [] → AreTouches e 0 ts
none-yet e ts h = record { many = ap length h; each = λ k n l. absurd (omega (arith, l)) }

pub one-more : (e : Elab) (at : ℕ) (ts new : List Bool) (t : Bool) → AreTouches e at ts → new ≡ ts ++ (t ∷ []) → ((n : Instance) → slice_get (nodes_of e) at ≡ Some n → t ≡ touches n) → AreTouches e (at + 1) new
one-more e at ts new t h put is = record {
  many = (let s = length-append ts (t ∷ []) in let p = ap length put in let m = h.many in omega (arith, s, p, m));
  each = λ k n l here. subst (λ xs. slice_get xs k ≡ Some (touches n)) (sym put) (by k n here (split k l));
}
  where
    split : (k : ℕ) → k < at + 1 → (k ≡ at) ⊎ (k < at)
    split k l = grind (arith, l)

    by : (k : ℕ) (n : Instance) → slice_get (nodes_of e) k ≡ Some n → (k ≡ at) ⊎ (k < at) → slice_get (ts ++ (t ∷ [])) k ≡ Some (touches n)
    by k n here (inr low) = get-front ts (t ∷ []) k (touches n) (h.each k n low here)
    by k n here (inl q) =
        let index : k ≡ length ts = q ∙ sym h.many in
        ap (slice_get (ts ++ (t ∷ []))) index ∙ (get-last ts t ∙ ap Some (is n (ap (slice_get (nodes_of e)) (sym q) ∙ here)))
