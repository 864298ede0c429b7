-- The items that a setting names are such as their nodes have.
use Rattle.std.proofs.Common.{◌≡◌, ◌⊎◌, inl, inr, ℕ, Bool, true, false, cond, List, [], ◌∷◌, ◌++◌, flat_map, map, bytes_eq, codes, Contains, Option, None, Some, option_to_list, refl, subst}
use Rattle.rdl_tree.specs.declared.expr.Name.{Name}
use Rattle.rdl_tree.specs.declared.item.Kind.{Kind}
use Rattle.rdl_tree.specs.declared.item.Kind.TheVariants as kind
use Rattle.rdl_props.specs.declared.prop.Prop.{Prop}
use Rattle.rdl_props.specs.declared.prop.Prop.TheVariants as prop
use Rattle.rdl_props.specs.Table.{find_prop, reference_props}
use Rattle.rdl_tree.specs.declared.node.Elab.{Elab}
use Rattle.rdl_values.specs.Instances.{Instance, kind_of}
use Rattle.rdl_values.specs.Lineages.{Lineage, lineages_of}
use Rattle.rdl_layers.specs.Settings.{Meaning, enum_of, flag, hard, intr, named, number, reference, setting, text, unset}
use Rattle.rdl_refs.specs.declared.item.What.{What}
use Rattle.rdl_refs.specs.declared.item.What.TheVariants as what
use Rattle.rdl_refs.specs.Items.{Item, field_what, item_named, item_of, of_field, reg_what, target, what_named, whats}
use Rattle.rdl_refs.specs.Leads.{led_to}
use Rattle.rdl_nodes.proofs.Members.{In, flat-in, in-to, map-in}
use Rattle.rdl_resolve.specs.Named.{all_named, named_by}
use Rattle.rdl_bind.specs.Targeted.{AllHave}

field-has : (p : Prop) (x : What) → In (field_what p) x → In of_field x
field-has prop.Anded x (inl e) = inr (inl e)
field-has prop.Ored x (inl e) = inr (inr (inl e))
field-has prop.Xored x (inl e) = inr (inr (inr (inl e)))
field-has prop.Incrthreshold x (inl e) = inr (inr (inr (inr (inl e))))
field-has prop.Decrthreshold x (inl e) = inr (inr (inr (inr (inr (inl e)))))
field-has prop.Overflow x (inl e) = inr (inr (inr (inr (inr (inr (inl e))))))
field-has prop.Underflow x (inl e) = inr (inr (inr (inr (inr (inr (inr (inl e)))))))
field-has prop.Swmod x (inl e) = inr (inr (inr (inr (inr (inr (inr (inr (inl e))))))))
field-has prop.Swacc x (inl e) = inr (inr (inr (inr (inr (inr (inr (inr (inr (inl e)))))))))
field-has prop.Anded x (inr h) = absurd h
field-has prop.Ored x (inr h) = absurd h
field-has prop.Xored x (inr h) = absurd h
field-has prop.Incrthreshold x (inr h) = absurd h
field-has prop.Decrthreshold x (inr h) = absurd h
field-has prop.Overflow x (inr h) = absurd h
field-has prop.Underflow x (inr h) = absurd h
field-has prop.Swmod x (inr h) = absurd h
field-has prop.Swacc x (inr h) = absurd h
field-has _ x h = absurd h

reg-cases : (a b : Bool) (x : What) → In (cond a (what.Intr ∷ []) (cond b (what.Halt ∷ []) [])) x → (what.Intr ≡ x) ⊎ (what.Halt ≡ x)
reg-cases true b x (inl e) = inl e
reg-cases true b x (inr h) = absurd h
reg-cases false true x (inl e) = inr e
reg-cases false true x (inr h) = absurd h
reg-cases false false x h = absurd h

reg-is : (n : List ℕ) (x : What) → In (reg_what n) x → (what.Intr ≡ x) ⊎ (what.Halt ≡ x)
reg-is n x h = reg-cases (bytes_eq n (codes "intr")) (bytes_eq n (codes "halt")) x h

reg-has : (x : What) → (what.Intr ≡ x) ⊎ (what.Halt ≡ x) → In (what.Intr ∷ what.Halt ∷ []) x
reg-has x (inl e) = inl e
reg-has x (inr e) = inr (inl e)

field-named : (n : Name) (x : What) → In (flat_map field_what (option_to_list (find_prop n.text.now))) x → In of_field x
field-named n x h = let q = flat-in field_what (option_to_list (find_prop n.text.now)) x h in field-has q.0 x q.2

whats-has : (k : Kind) (o : Option Name) (x : What) → In (what_named k o) x → In (whats k) x
whats-has kind.Signal None x h = h
whats-has kind.Signal (Some n) x h = absurd h
whats-has kind.Field None x (inl e) = inl e
whats-has kind.Field None x (inr h) = absurd h
whats-has kind.Field (Some n) x h = field-named n x h
whats-has kind.Reg None x h = absurd h
whats-has kind.Reg (Some n) x h = reg-has x (reg-is n.text.now x h)
whats-has kind.Addrmap o x h = absurd h
whats-has kind.Regfile o x h = absurd h

has-it : (all : List Lineage) (m : Meaning) (i : Item) → In (target all m) i → Contains (whats (kind_of i.node)) i.what
has-it all (reference p item scope place) i h =
    let q = flat-in (item_named item) (led_to all p scope) i h in
    let l = q.0 in
    let r = map-in (item_of l) (what_named (kind_of l.node) item) i q.2 in
    subst (λ (j : Item). Contains (whats (kind_of j.node)) j.what) r.2 (in-to (whats (kind_of l.node)) r.0 (whats-has (kind_of l.node) item r.0 r.1))
has-it all unset i h = absurd h
has-it all (flag b) i h = absurd h
has-it all (number n) i h = absurd h
has-it all (text t) i h = absurd h
has-it all (named k) i h = absurd h
has-it all (intr e) i h = absurd h
has-it all (hard b) i h = absurd h
has-it all (enum_of n scope) i h = absurd h

both-have : (xs ys : List (Prop × Item)) → AllHave xs → AllHave ys → AllHave (xs ++ ys)
both-have [] ys h g = g
both-have (x ∷ xs) ys h g = (h.0, both-have xs ys h.1 g)

these-have : (p : Prop) (is : List Item) → ((i : Item) → In is i → Contains (whats (kind_of i.node)) i.what) → AllHave (map (λ i. (p, i)) is)
these-have p [] h = tt
these-have p (i ∷ is) h = (h i (inl refl), these-have p is (λ j m. h j (inr m)))

each-has : (all : List Lineage) (n : Instance) (ps : List Prop) → AllHave (flat_map (named_by all n) ps)
each-has all n [] = tt
each-has all n (p ∷ ps) = both-have (named_by all n p) (flat_map (named_by all n) ps) (these-have p (target all (setting n p)) (has-it all (setting n p))) (each-has all n ps)

pub all-have : (e : Elab) (n : Instance) → AllHave (all_named e n)
all-have e n = each-has (lineages_of e) n reference_props
