-- Whether software writes through nodes only once, node by node, and tests of all nodes.
use Rattle.std.proofs.Common.{◌≡◌, ◌∙◌, ◌⊎◌, inl, inr, ℕ, ◌+◌, ◌<◌, Bool, List, [], ◌∷◌, ◌++◌, length, length-append, slice_get, Some, sym, ap, subst, arith}
use Rattle.plain_lemmas.proofs.Lists.{get-front, get-last}
use Rattle.rdl_tree.specs.declared.node.Elab.{Elab}
use Rattle.rdl_values.specs.Elaborated.{nodes_of}
use Rattle.rdl_values.specs.Elaboration.{IsClean}
use Rattle.rdl_values.specs.Instances.{Instance}
use Rattle.rdl_layers.specs.Fields.{is_once}
use Rattle.rdl_nodes.proofs.Members.{get-within}
use Rattle.rdl_sizes.proofs.Facts.{count-is, nodes-many}
use Rattle.rdl_members.specs.Covered.{AreTests}
use Rattle.rdl_fields.specs.Touched.{AreTouches, touches}
use Rattle.rdl_field_list.specs.Tables.{AreOnceTo}

pub none-yet : (e : Elab) (ts : List Bool) → ts ≡ [] → AreOnceTo e 0 ts
none-yet e ts h = record { many = ap length h; each = λ k n l. absurd (omega (arith, l)) }

pub one-more : (e : Elab) (at : ℕ) (ts new : List Bool) (t : Bool) → AreOnceTo e at ts → new ≡ ts ++ (t ∷ []) → ((n : Instance) → slice_get (nodes_of e) at ≡ Some n → t ≡ is_once n) → AreOnceTo e (at + 1) new
one-more e at ts new t h put is = record {
  many = (let s = length-append ts (t ∷ []) in let p = ap length put in let m = h.many in omega (arith, s, p, m));
  each = λ k n l here. subst (λ xs. slice_get xs k ≡ Some (is_once n)) (sym put) (by k n here (split k l));
}
  where
    split : (k : ℕ) → k < at + 1 → (k ≡ at) ⊎ (k < at)
    split k l = grind (arith, l)

    by : (k : ℕ) (n : Instance) → slice_get (nodes_of e) k ≡ Some n → (k ≡ at) ⊎ (k < at) → slice_get (ts ++ (t ∷ [])) k ≡ Some (is_once n)
    by k n here (inr low) = get-front ts (t ∷ []) k (is_once n) (h.each k n low here)
    by k n here (inl q) =
        let index : k ≡ length ts = q ∙ sym h.many in
        ap (slice_get (ts ++ (t ∷ []))) index ∙ (get-last ts t ∙ ap Some (is n (ap (slice_get (nodes_of e)) (sym q) ∙ here)))

-- All nodes.

within : (e : Elab) → IsClean e → (k : ℕ) (n : Instance) → slice_get (nodes_of e) k ≡ Some n → k < e.count
within e clean k n here =
    let low = get-within (nodes_of e) k n here in
    let count = count-is e clean in
    let many = nodes-many e in
    omega (arith, low, count, many)

pub all-once : (e : Elab) → IsClean e → (ts : List Bool) → AreOnceTo e e.count ts → AreTests e is_once ts
all-once e clean ts h = λ k n here. h.each k n (within e clean k n here) here

pub all-touches : (e : Elab) → IsClean e → (ts : List Bool) → AreTouches e e.count ts → AreTests e touches ts
all-touches e clean ts h = λ k n here. h.each k n (within e clean k n here) here
