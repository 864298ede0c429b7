-- The field that a field is a view of.
use Rattle.std.proofs.Common.{◌≡◌, ◌∙◌, ◌⊎◌, inl, inr, ℕ, ◌+◌, ◌<◌, Bool, true, false, cond, bytes_eq, List, [], ◌∷◌, ◌++◌, append-nil, filter, flat_map, length, Option, None, Some, slice_get, refl, sym, ap, subst, arith}
use Rattle.plain_lemmas.proofs.Lists.{bytes_eq-swap as bytes-swap, get-end as get-last, get-front}
use Rattle.rdl_tree.specs.declared.item.Kind.TheVariants as kind
use Rattle.rdl_tree.specs.declared.node.Elab.{Elab}
use Rattle.rdl_values.specs.Elaborated.{nodes_of}
use Rattle.rdl_values.specs.Elaboration.{IsClean}
use Rattle.rdl_values.specs.Instances.{Instance}
use Rattle.rdl_values.specs.Lineages.{Lineage, lineages_of}
use Rattle.rdl_values.specs.Uses.{same_name}
use Rattle.rdl_nodes.specs.Rows.{IsParent}
use Rattle.rdl_nodes.proofs.Members.{get-within}
use Rattle.rdl_layers.specs.Fields.{fields_of, is_a, is_alias, is_alias_of}
use Rattle.rdl_sizes.proofs.Facts.{count-is, nodes-many}
use Rattle.rdl_fields.specs.Primary.{TellsPrimary}
use Rattle.rdl_rules.specs.Fields.{first_number, viewed}
use Rattle.rdl_rules.specs.Numbers.{all_fields, number_of, registers}
use Rattle.rdl_block_numbers.specs.declared.fields.Names.{Names}
use Rattle.rdl_block_numbers.specs.Named.{AreNames, first_named, number_under, or_zero}
use Rattle.rdl_block_numbers.specs.Numbers.{AreViewedTo}
use Rattle.rdl_block_numbers.proofs.Ranking.{many-more}

by-name : (all : List Instance) (v : Instance) (fs : List Instance) → first_number (filter (λ f. same_name v.use_.name f.use_.name) fs) all ≡ or_zero (first_named all v.use_.name.text.now fs)
by-name all v [] = refl
by-name all v (f ∷ fs) = ap (λ b. first_number (cond b (f ∷ filter (λ g. same_name v.use_.name g.use_.name) fs) (filter (λ g. same_name v.use_.name g.use_.name) fs)) all) (bytes-swap v.use_.name.text.now f.use_.name.text.now) ∙ go (bytes_eq f.use_.name.text.now v.use_.name.text.now) (by-name all v fs)
  where
    go : (b : Bool) → first_number (filter (λ g. same_name v.use_.name g.use_.name) fs) all ≡ or_zero (first_named all v.use_.name.text.now fs) → first_number (cond b (f ∷ filter (λ g. same_name v.use_.name g.use_.name) fs) (filter (λ g. same_name v.use_.name g.use_.name) fs)) all ≡ or_zero (cond b (Some (number_of f all)) (first_named all v.use_.name.text.now fs))
    go true h = refl
    go false h = h

pub of-none : (ns : List Instance) (r v : Instance) → is_alias r ≡ false → number_of v (all_fields ns) ≡ first_number (viewed ns r v) (all_fields ns)
of-none ns r v none = ap (λ b. first_number (cond b (filter (λ f. same_name v.use_.name f.use_.name) (flat_map fields_of (filter (λ p. is_alias_of p r) (registers ns)))) (v ∷ [])) (all_fields ns)) (sym none)

pub of-alias : (e : Elab) → IsClean e → (names : Names) → AreNames e names → (r v : Instance) (p : ℕ) → TellsPrimary e r (Some p) → (name : List ℕ) → name ≡ v.use_.name.text.now
    → or_zero (number_under names (record { body = p; name = name })) ≡ first_number (viewed (nodes_of e) r v) (all_fields (nodes_of e))
of-alias e clean names are r v p tells name is =
    let q = tells.1 in
    let primary = tells.2 in
    let low' = get-within (nodes_of e) p q primary.here in
    let low : p < e.count = (let c = count-is e clean in let m = nodes-many e in omega (arith, low', c, m)) in
    ap or_zero (ap (λ n. number_under names (record { body = p; name = n })) is ∙ are.each (record { body = p; name = v.use_.name.text.now }) q low primary.here)
    ∙ (sym (by-name (all_fields (nodes_of e)) v (fields_of q))
    ∙ ((λ i. first_number (filter (λ f. same_name v.use_.name f.use_.name) (sym (append-nil (fields_of q)) i)) (all_fields (nodes_of e)))
    ∙ (λ i. first_number (cond (sym tells.0 i) (filter (λ f. same_name v.use_.name f.use_.name) (flat_map fields_of (sym primary.only i))) (v ∷ [])) (all_fields (nodes_of e)))))

pub no-row : (e : Elab) (l : Lineage) (r : Instance) (up : List Instance) (o : Option ℕ) → IsParent (lineages_of e) o l.ancestors → o ≡ None → l.ancestors ≡ r ∷ up → ⊥
no-row e l r up o h q a = let none : l.ancestors ≡ [] = subst (λ p. IsParent (lineages_of e) p l.ancestors) q h in let clash : r ∷ up ≡ [] = sym a ∙ none in cc clash

-- One more.

pub no-views : (e : Elab) (ns : List ℕ) → ns ≡ [] → AreViewedTo e 0 ns
no-views e ns h = record { many = ap length h; each = λ k l r up low. absurd (omega (arith, low)) }

pub one-view : (e : Elab) (at : ℕ) (l : Lineage) → slice_get (lineages_of e) at ≡ Some l → (ns new : List ℕ) (n : ℕ) → AreViewedTo e at ns → new ≡ ns ++ (n ∷ [])
    → ((r : Instance) (up : List Instance) → is_a kind.Field l.node ≡ true → l.ancestors ≡ r ∷ up → n ≡ first_number (viewed (nodes_of e) r l.node) (all_fields (nodes_of e))) → AreViewedTo e (at + 1) new
one-view e at l here ns new n h put is = record {
  many = many-more ns new at n h.many put;
  each = λ k m r up low at-k field above. by k m r up at-k field above (split k low);
}
  where
    split : (k : ℕ) → k < at + 1 → (k ≡ at) ⊎ (k < at)
    split k low = grind (arith, low)

    by : (k : ℕ) (m : Lineage) (r : Instance) (up : List Instance) → slice_get (lineages_of e) k ≡ Some m → is_a kind.Field m.node ≡ true → m.ancestors ≡ r ∷ up → (k ≡ at) ⊎ (k < at) → slice_get new k ≡ Some (first_number (viewed (nodes_of e) r m.node) (all_fields (nodes_of e)))
    by k m r up at-k field above (inl q) =
        let same' : Some l ≡ Some m = sym here ∙ (ap (slice_get (lineages_of e)) (sym q) ∙ at-k) in
        let same : l ≡ m = cc same' in
        ap (λ xs. slice_get xs k) put ∙ (get-last ns n k (q ∙ sym h.many) ∙ ap Some (is r up (subst (λ x. is_a kind.Field x.node ≡ true) (sym same) field) (ap (λ x. x.ancestors) same ∙ above) ∙ ap (λ x. first_number (viewed (nodes_of e) r x.node) (all_fields (nodes_of e))) same))
    by k m r up at-k field above (inr low) = ap (λ xs. slice_get xs k) put ∙ get-front ns (n ∷ []) k (first_number (viewed (nodes_of e) r m.node) (all_fields (nodes_of e))) (h.each k m r up low at-k field above)
