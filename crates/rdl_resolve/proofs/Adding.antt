-- A property more, and a node more.
use Rattle.std.proofs.Common.{◌≡◌, ◌∙◌, ℕ, ◌+◌, ◌<◌, ◌≤◌, List, [], ◌∷◌, ◌++◌, flat_map, get_or, map, take, option_to_list, append_assoc, take_all, slice_get, Some, Contains, refl, sym, ap, subst}
use Rattle.std.proofs.lemmas.List.{take_more}
use Rattle.rdl_props.specs.Table.{reference_props}
use Rattle.rdl_layers.specs.Answers.{SaysAt}
use Rattle.rdl_layers.specs.Says.{Says}
use Rattle.rdl_layers.specs.declared.setting.Setting.{Setting}
use Rattle.rdl_nodes.proofs.Members.{in-to, place-in}
use Rattle.std.proofs.lemmas.Grind.{flat_map-append}
use Rattle.plain_lemmas.proofs.Lists.{append-none as nothing-behind}
use Rattle.rdl_base.specs.declared.fault.Fault.{Fault}
use Rattle.rdl_props.specs.declared.prop.Prop.{Prop}
use Rattle.rdl_tree.specs.declared.node.Elab.{Elab}
use Rattle.rdl_values.specs.Elaborated.{nodes_of}
use Rattle.rdl_values.specs.Instances.{Instance}
use Rattle.rdl_values.specs.Lineages.{lineages_of}
use Rattle.rdl_layers.specs.Settings.{setting}
use Rattle.rdl_refs.specs.declared.item.ItemOf.{ItemOf}
use Rattle.rdl_refs.specs.Answers.{AreItemsOf}
use Rattle.rdl_refs.specs.Items.{Item, bad_reference, target}
use Rattle.rdl_resolve.specs.Aimed.{IsAim}
use Rattle.rdl_resolve.specs.declared.aims.Aim.{Aim}
use Rattle.rdl_resolve.specs.declared.node.NamedItem.{NamedItem}
use Rattle.rdl_resolve.specs.Named.{AddsAim, AddsAims, AreItemsNamed, named_by}

joined : (ns : List Instance) (xs ys : List NamedItem) (us vs : List (Prop × Item)) → AreItemsNamed ns xs us → AreItemsNamed ns ys vs → AreItemsNamed ns (xs ++ ys) (us ++ vs)
joined ns [] ys [] vs h g = g
joined ns [] ys (u ∷ us) vs h g = absurd h
joined ns (x ∷ xs) ys [] vs h g = absurd h
joined ns (x ∷ xs) ys (u ∷ us) vs h g = (h.0, h.1, joined ns xs ys us vs h.2 g)

of-prop : (ns : List Instance) (p : Prop) (xs : List ItemOf) (ts : List Item) → AreItemsOf ns xs ts → AreItemsNamed ns (map (λ i. record { prop = p; item = i }) xs) (map (λ i. (p, i)) ts)
of-prop ns p [] [] h = tt
of-prop ns p [] (t ∷ ts) h = absurd h
of-prop ns p (x ∷ xs) [] h = absurd h
of-prop ns p (x ∷ xs) (t ∷ ts) h = (refl, h.0, of-prop ns p xs ts h.1)

last-one : {X Y : Type 0} (f : X → List Y) (xs : List X) (x : X) → flat_map f (xs ++ (x ∷ [])) ≡ flat_map f xs ++ f x
last-one f xs x = flat_map-append f xs (x ∷ []) ∙ ap (λ ys. flat_map f xs ++ ys) (nothing-behind (f x))

pub none-added : (e : Elab) (n : Instance) (items : List NamedItem) (faults : List Fault) → AddsAims e n [] items items faults faults
none-added e n items faults = record { added = []; items_ = sym (nothing-behind items); named = tt; faults_ = sym (nothing-behind faults) }

pub one-added : (e : Elab) (n : Instance) (ps : List Prop) (p : Prop) (a : Aim) (items one two : List NamedItem) (faults f1 f2 : List Fault) → AddsAims e n ps items one faults f1 → IsAim e p (setting n p) a → AddsAim p a one two f1 f2 → AddsAims e n (ps ++ (p ∷ [])) items two faults f2
one-added e n ps p a items one two faults f1 f2 h aim adds =
    let more = map (λ i. record { prop = p; item = i }) (option_to_list a.target) in
    record {
      added = h.added ++ more;
      items_ = adds.items_ ∙ (ap (λ xs. xs ++ more) h.items_ ∙ append_assoc items h.added more);
      named = subst (AreItemsNamed (nodes_of e) (h.added ++ more)) (sym (last-one (named_by (lineages_of e) n) ps p)) (joined (nodes_of e) h.added more (flat_map (named_by (lineages_of e) n) ps) (named_by (lineages_of e) n p) h.named (of-prop (nodes_of e) p (option_to_list a.target) (target (lineages_of e) (setting n p)) aim.target_));
      faults_ =
          adds.faults_
          ∙ ((λ i. h.faults_ i ++ aim.fault_ i)
          ∙ (append_assoc faults (flat_map (λ p. bad_reference (lineages_of e) p (setting n p)) ps) (bad_reference (lineages_of e) p (setting n p)) ∙ ap (λ xs. faults ++ xs) (sym (last-one (λ p. bad_reference (lineages_of e) p (setting n p)) ps p))));
    }

-- what is known of a setting of a node
pub at-node : (e t : Elab) → e ≡ t → (n : Instance) (k : ℕ) → slice_get (nodes_of e) k ≡ Some n → (p : Prop) (s : Setting) → SaysAt e k p s → (a : Aim) → ((n : Instance) → Contains (nodes_of t) n → Says (nodes_of t) s (setting n p) → IsAim t p (setting n p) a) → IsAim e p (setting n p) a
at-node e t same n k here p s says a aims =
    let one : Some says.0 ≡ Some n = sym says.1 ∙ here in
    let is : says.0 ≡ n = cc one in
    let own : Says (nodes_of e) s (setting n p) = subst (λ m. Says (nodes_of e) s (setting m p)) is says.2 in
    subst (λ y. IsAim y p (setting n p) a) (sym same) (aims n (subst (λ y. Contains (nodes_of y) n) same (in-to (nodes_of e) n (place-in (nodes_of e) k n here))) (subst (λ y. Says (nodes_of y) s (setting n p)) same own))

props-next : (i : ℕ) (d : Prop) → i < 22 → take (i + 1) reference_props ≡ take i reference_props ++ (get_or reference_props i d ∷ [])
unfolding reference_props
props-next i d l = take_more reference_props i d l

pub props-next-of : (xs : List Prop) → xs ≡ reference_props → (i : ℕ) (d : Prop) → i < 22 → take (i + 1) reference_props ≡ take i reference_props ++ (get_or xs i d ∷ [])
props-next-of xs e i d l = subst (λ ys. take (i + 1) reference_props ≡ take i reference_props ++ (get_or ys i d ∷ [])) (sym e) (props-next i d l)

pub props-all : (i : ℕ) → 22 ≤ i → take i reference_props ≡ reference_props
unfolding reference_props
props-all i l = take_all i reference_props l
