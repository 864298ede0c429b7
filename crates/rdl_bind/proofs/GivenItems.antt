-- A property more.
use Rattle.std.proofs.Common.{◌≡◌, ◌∙◌, ℕ, ◌+◌, ◌<◌, ◌≤◌, List, [], ◌∷◌, ◌++◌, append_assoc, flat_map, get_or, length, map, option_to_list, Option, Some, slice_get, take, take_all, sym, ap, subst, arith}
use Rattle.std.proofs.lemmas.List.{take_more}
use Rattle.std.proofs.lemmas.Grind.{flat_map-append}
use Rattle.plain_lemmas.proofs.Lists.{append-none as nothing-behind, map-append as mapped-both}
use Rattle.rdl_props.specs.declared.prop.Prop.{Prop}
use Rattle.rdl_tree.specs.declared.node.Elab.{Elab}
use Rattle.rdl_values.specs.Elaborated.{nodes_of, top_name}
use Rattle.rdl_values.specs.Instances.{Instance}
use Rattle.rdl_values.specs.Lineages.{Lineage, lineages_of}
use Rattle.rdl_layers.specs.Settings.{setting}
use Rattle.rdl_refs.specs.declared.refs.Target.{Target}
use Rattle.rdl_refs.specs.Answers.{IsNumberOf}
use Rattle.rdl_refs.specs.Follows.{given_items, item_number}
use Rattle.rdl_refs.specs.Items.{Item, target}
use Rattle.rdl_refs.specs.Tables.{item_at}
use Rattle.rdl_refs.proofs.OneTarget.{at_most_length, one_target}
use Rattle.rdl_bind.specs.Given.{NameItems}

one-number : (all : List Lineage) (is : List Item) (o : Option ℕ) → length is ≤ 1 → IsNumberOf all is o → option_to_list o ≡ map (item_number all) is
one-number all [] o few h = ap option_to_list h
one-number all (i ∷ []) o few h = ap option_to_list h
one-number all (i ∷ j ∷ is) o few h = absurd (omega (arith, few))

abbrev pub numbers : Elab → Instance → List Prop → List ℕ
numbers e n ps = map (item_number (lineages_of e)) (given_items (lineages_of e) n ps)

-- the number that a property's setting names
named-one : (e : Elab) (k : ℕ) (n : Instance) → slice_get (nodes_of e) k ≡ Some n → (ts : List Target) → NameItems e k ts → (p : Prop) → option_to_list (item_at p ts) ≡ map (item_number (lineages_of e)) (target (lineages_of e) (setting n p))
named-one e k n here ts are p =
    let at = are p in
    let one : Some at.0 ≡ Some n = sym at.1 ∙ here in
    let is : at.0 ≡ n = cc one in
    one-number (lineages_of e) (target (lineages_of e) (setting n p)) (item_at p ts) (at_most_length (target (lineages_of e) (setting n p)) (one_target (Some (top_name e)) e.source.now (setting n p)))
    (subst (λ m. IsNumberOf (lineages_of e) (target (lineages_of e) (setting m p)) (item_at p ts)) is at.2)

pub one-more : (e : Elab) (k : ℕ) (n : Instance) → slice_get (nodes_of e) k ≡ Some n → (ts : List Target) → NameItems e k ts → (ps : List Prop) (i : ℕ) (d : Prop) → i < length ps → (old xs new : List ℕ) (o : Option ℕ) → xs ≡ old ++ numbers e n (take i ps) → o ≡ item_at (get_or ps i d) ts
    → new ≡ xs ++ option_to_list o → new ≡ old ++ numbers e n (take (i + 1) ps)
one-more e k n here ts are ps i d low old xs new o before is put =
    let p = get_or ps i d in
    let f = target (lineages_of e) in
    let g = item_number (lineages_of e) in
    put
    ∙ (ap (λ ys. ys ++ option_to_list o) before
    ∙ (append_assoc old (numbers e n (take i ps)) (option_to_list o)
    ∙ ap (λ ys. old ++ ys)
    (ap (λ ys. numbers e n (take i ps) ++ ys) (ap option_to_list is ∙ named-one e k n here ts are p)
    ∙ (sym (mapped-both g (given_items (lineages_of e) n (take i ps)) (f (setting n p)))
    ∙ ap (map g)
    (ap (λ ys. given_items (lineages_of e) n (take i ps) ++ ys) (sym (nothing-behind (f (setting n p))))
    ∙ (sym (flat_map-append (λ q. f (setting n q)) (take i ps) (p ∷ [])) ∙ ap (flat_map (λ q. f (setting n q))) (sym (take_more ps i d low))))))))

pub none-yet : (e : Elab) (n : Instance) (xs : List ℕ) → xs ≡ xs ++ numbers e n []
none-yet e n xs = sym (nothing-behind xs)

pub all-given : (e : Elab) (n : Instance) (ps : List Prop) (i : ℕ) → length ps ≤ i → (old xs : List ℕ) → xs ≡ old ++ numbers e n (take i ps) → xs ≡ old ++ numbers e n ps
all-given e n ps i past old xs h = h ∙ ap (λ qs. old ++ numbers e n qs) (take_all i ps past)
