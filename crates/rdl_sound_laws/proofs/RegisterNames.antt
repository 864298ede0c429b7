-- No two fields of a register have one name.
use Rattle.std.proofs.Common.{◌≡◌, ◌∙◌, inl, inr, ℕ, Bool, true, false, cond, List, [], ◌∷◌, ◌++◌, flat_map, Option, option_to_list, Ok, Err, refl, sym, ap, subst}
use denote.Enum.Bare.{same_true}
use Rattle.rdl_tree.specs.contracts.item.Kind as of_kind
use Rattle.rdl_tree.specs.declared.item.Kind.TheVariants as kind
use Rattle.rdl_tree.specs.declared.item.Source.{Source}
use Rattle.std.specs.List.{AllByRecursion}
use Rattle.rdl_values.specs.Bodies.{Closure, standing}
use Rattle.rdl_values.specs.Instances.{Instance, body, children, elements, given_by, kind_of, nodes, rows, seen_in}
use Rattle.rdl_values.specs.NoNode.{no_node}
use Rattle.rdl_values.specs.Parameters.{Bound, bound_of}
use Rattle.rdl_values.specs.Parts.{dims_of, is_empty}
use Rattle.rdl_values.specs.Paths.{path_in}
use Rattle.rdl_values.specs.Uses.{Seen, Use, parent_of, uses}
use Rattle.rdl_values.specs.Values.{Outcome}
use Rattle.rdl_layers.specs.Fields.{fields_of, is_a}
use Rattle.rdl_nodes.proofs.Members.{In, each-in, flat-in, map-in}
use Rattle.rdl_fields.proofs.Lists.{filter-in, filter-true}
use Rattle.rdl_sound_laws.proofs.Closed.{all-closed, one-node}

-- A field is no array: its path is its name, behind the path of what it stands in.

only-row : (dims is : List ℕ) → dims ≡ [] → In (rows dims) is → is ≡ []
only-row dims is e h = by (subst (λ d. In (rows d) is) e h)
  where
    by : In ([] ∷ []) is → is ≡ []
    by (inl q) = sym q
    by (inr q) = absurd q

element-path : (s : Seen) (k : Closure) (o : Outcome Bound) (d : Outcome (List ℕ)) (c : Instance) → In (elements s k o d) c → (k.def.kind ≡ kind.Field → d ≡ Ok []) → kind_of c ≡ kind.Field → c.path ≡ path_in s.parent (record { name = c.use_.name.text.now; index = [] })
element-path s k (Ok bound) (Ok dims) c h unit field =
    let m = map-in (λ is. record { above = s.above; path = path_in s.parent (record { name = s.use_.name.text.now; index = is }); use_ = s.use_; closure = k; bound = bound }) (rows dims) c h in
    let kinds : k.def.kind ≡ kind.Field = ap kind_of m.2 ∙ field in
    let none : dims ≡ [] = (let q : Ok dims ≡ Ok [] = unit kinds in cc q) in
    subst (λ (x : Instance). x.path ≡ path_in s.parent (record { name = x.use_.name.text.now; index = [] })) m.2 (ap (λ i. path_in s.parent (record { name = s.use_.name.text.now; index = i })) (only-row dims m.0 none m.1))
element-path s k (Ok bound) (Err f) c h unit field = absurd h
element-path s k (Err f) d c h unit field = absurd h

unit-dims : (u : Use) (k : Closure) → k.def.kind ≡ kind.Field → dims_of u k.def.kind ≡ Ok []
unit-dims u k e = rw e refl

given-path : (s : Seen) (c : Instance) → In (given_by s) c → kind_of c ≡ kind.Field → c.path ≡ path_in s.parent (record { name = c.use_.name.text.now; index = [] })
given-path s c h field = by (is_empty (no_node s)) h
  where
    by : (b : Bool) → In (cond b (flat_map (λ k. elements s k (bound_of s.use_ k) (dims_of s.use_ k.def.kind)) (option_to_list s.use_.closure)) []) c → c.path ≡ path_in s.parent (record { name = c.use_.name.text.now; index = [] })
    by true g =
        let k = flat-in (λ k. elements s k (bound_of s.use_ k) (dims_of s.use_ k.def.kind)) (option_to_list s.use_.closure) c g in
        element-path s k.0 (bound_of s.use_ k.0) (dims_of s.use_ k.0.def.kind) c k.2 (unit-dims s.use_ k.0) field
    by false g = absurd g

pub child-path : (n c : Instance) → In (children n) c → kind_of c ≡ kind.Field → c.path ≡ path_in (parent_of (body n)) (record { name = c.use_.name.text.now; index = [] })
child-path n c i field =
    let s = flat-in given_by (seen_in n) c i in
    let u = map-in (λ (u : List Use × Use). record { parent = parent_of (body n); above = n.above ++ (body n ∷ []); earlier = u.0; use_ = u.1 }) (standing (uses (body n))) s.0 s.1 in
    given-path s.0 c s.2 field ∙ ap (λ (x : Seen). path_in x.parent (record { name = c.use_.name.text.now; index = [] })) (sym u.2)

pub field-kind : (n : Instance) → is_a kind.Field n ≡ true → kind_of n ≡ kind.Field
field-kind n e = sym (same_true of_kind.the_type tt kind.Field (kind_of n) e)

module _ (wanted : Option (List ℕ)) (s : Source) (r : Instance) (r_in : In (nodes wanted s) r) where
  pub field-in-nodes : (f : Instance) → In (fields_of r) f → In (nodes wanted s) f
  field-in-nodes f i = each-in (In (nodes wanted s)) (children r) f (each-in (λ x. AllByRecursion (In (nodes wanted s)) (children x)) (nodes wanted s) r (all-closed wanted s) r_in) (filter-in (is_a kind.Field) (children r) f i)

  pub one-name : (f g : Instance) → In (fields_of r) f → In (fields_of r) g → f.use_.name.text.now ≡ g.use_.name.text.now → f ≡ g
  one-name f g i j e =
      let p = child-path r f (filter-in (is_a kind.Field) (children r) f i) (field-kind f (filter-true (is_a kind.Field) (children r) f i)) in
      let q = child-path r g (filter-in (is_a kind.Field) (children r) g j) (field-kind g (filter-true (is_a kind.Field) (children r) g j)) in
      one-node wanted s f g (field-in-nodes f i) (field-in-nodes g j) (p ∙ (ap (λ t. path_in (parent_of (body r)) (record { name = t; index = [] })) e ∙ sym q))
