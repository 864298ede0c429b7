-- What is known of an item, and what it is made from.
use Rattle.std.proofs.Common.{◌≡◌, ◌∙◌, inl, inr, ℕ, ◌<◌, Bool, true, false, ◌&&◌, ◌||◌, cond, List, [], ◌∷◌, ◌++◌, append-nil, filter, flat_map, get_or, length, take, Contains, Some, slice_get, refl, sym, ap, subst, arith}
use Rattle.std.specs.List.{list_any}
use Rattle.plain_lemmas.proofs.Bools.{or-false}
use Rattle.rdl_tree.specs.declared.item.Kind.{Kind}
use Rattle.rdl_tree.specs.declared.item.Kind.TheVariants as kind
use Rattle.rdl_tree.specs.declared.node.Elab.{Elab}
use Rattle.rdl_tree.specs.declared.node.Node.{out-Node}
use Rattle.rdl_props.specs.declared.prop.Prop.TheVariants as prop
use Rattle.rdl_values.specs.Elaborated.{nodes_of}
use Rattle.rdl_values.specs.Elaboration.{IsClean}
use Rattle.rdl_values.specs.Instances.{Instance, children, kind_of}
use Rattle.rdl_values.specs.Lineages.{Lineage, lineages_of}
use Rattle.rdl_values.specs.Parts.{is_unit}
use Rattle.rdl_layers.specs.Fields.{fields_of, has, has_one_of, is_a, is_interrupt}
use Rattle.rdl_nodes.specs.declared.table.Row.{Row}
use Rattle.rdl_nodes.specs.Rows.{AreInside, AreRows}
use Rattle.rdl_refs.specs.declared.item.ItemOf.{ItemOf}
use Rattle.rdl_refs.specs.declared.item.What.{What}
use Rattle.rdl_refs.specs.declared.item.What.TheVariants as what
use Rattle.rdl_refs.specs.Follows.{counts, given_items, is_in_alias, is_missing, item_number, made_from, masked_items, refers_to, value_of}
use Rattle.rdl_refs.specs.Items.{Item, whats}
use Rattle.rdl_nodes.proofs.Members.{In, get-within, in-from, in-to}
use Rattle.rdl_sizes.proofs.Facts.{count-is, node-at, nodes-many}
use Rattle.rdl_ref_items.proofs.Items.{known-row}
use Rattle.rdl_ref_items.specs.Named.{IsItemAt}
use Rattle.rdl_bind.specs.Known.{IsItem, is_of_wire, numbers_of}

-- Which kinds have which items.

value-unit : (k : Kind) (w : What) → In (whats k) w → w ≡ what.Value → is_unit k ≡ true
value-unit kind.Signal w h e = refl
value-unit kind.Field w h e = refl
value-unit kind.Reg w (inl p) e = let two : what.Intr ≡ what.Value = p ∙ e in cc two
value-unit kind.Reg w (inr (inl p)) e = let two : what.Halt ≡ what.Value = p ∙ e in cc two
value-unit kind.Reg w (inr (inr h)) e = absurd h
value-unit kind.Addrmap w h e = absurd h
value-unit kind.Regfile w h e = absurd h

-- an item that fields alone have
abbrev pub is_of_field : What → Bool
is_of_field what.Value = false
is_of_field what.Intr = false
is_of_field what.Halt = false
is_of_field _ = true

pub field-item : (k : Kind) (w : What) → In (whats k) w → is_of_field w ≡ true → k ≡ kind.Field
field-item kind.Field w h e = refl
field-item kind.Signal w (inl p) e = let no : is_of_field what.Value ≡ true = ap is_of_field p ∙ e in cc no
field-item kind.Signal w (inr h) e = absurd h
field-item kind.Reg w (inl p) e = let no : is_of_field what.Intr ≡ true = ap is_of_field p ∙ e in cc no
field-item kind.Reg w (inr (inl p)) e = let no : is_of_field what.Halt ≡ true = ap is_of_field p ∙ e in cc no
field-item kind.Reg w (inr (inr h)) e = absurd h
field-item kind.Addrmap w h e = absurd h
field-item kind.Regfile w h e = absurd h

module _ (e : Elab) (i : Item) (x : ItemOf) (is : IsItem e i x) where
  pub as-item-at : IsItemAt e i x
  as-item-at = record { here = is.here; what_ = is.what_; value = λ v. value-unit (kind_of i.node) i.what (in-from (whats (kind_of i.node)) i.what is.has) v }

  pub node-here : slice_get (nodes_of e) x.node ≡ Some i.node
  node-here = node-at e x.node (record { node = i.node; ancestors = i.ancestors }) is.here

  pub is-field : is_of_field x.what ≡ true → kind_of i.node ≡ kind.Field
  is-field t = field-item (kind_of i.node) i.what (in-from (whats (kind_of i.node)) i.what is.has) (ap is_of_field (sym is.what_) ∙ t)

  pub is-a-unit : is_of_field x.what ≡ true → is_unit (kind_of i.node) ≡ true
  is-a-unit t = ap is_unit (is-field t)

  pub has-value : is_of_field x.what ≡ true → Contains (whats (kind_of i.node)) what.Value
  has-value t = subst (λ k. Contains (whats k) what.Value) (sym (is-field t)) (in-to (whats kind.Field) what.Value (inl refl))

  pub node-low : x.node < length (lineages_of e)
  node-low = get-within (lineages_of e) x.node (record { node = i.node; ancestors = i.ancestors }) is.here

pub node-counted : (e : Elab) → IsClean e → (k : ℕ) (n : Instance) → slice_get (nodes_of e) k ≡ Some n → k < e.count
node-counted e clean k n here = let l = get-within (nodes_of e) k n here in let c = count-is e clean in let m = nodes-many e in omega (arith, l, c, m)

-- the value of a node
abbrev pub value-item : Instance → Item
value-item n = record { node = n; ancestors = []; what = what.Value }

-- the items of a unit have its value
pub unit-value : (k : Kind) → is_unit k ≡ true → In (whats k) what.Value
unit-value kind.Signal e = inl refl
unit-value kind.Field e = inl refl
unit-value kind.Reg e = cc e
unit-value kind.Addrmap e = cc e
unit-value kind.Regfile e = cc e

-- What each is made from.

module _ (all : List Lineage) (i : Item) where
  through : (f : Bool) (p : Instance → Bool) (xs : List Item) (ups : List Instance) → cond (f && list_any p (take 1 ups)) xs [] ≡ cond f (flat_map (λ r. cond (p r) xs []) (take 1 ups)) []
  through false p xs ups = refl
  through true p xs [] = refl
  through true p xs (r ∷ up) = ap (λ b. cond b xs []) (or-false (p r)) ∙ sym (append-nil (cond (p r) xs []))

  pub made-value : i.what ≡ what.Value → cond (is_of_wire all i) (given_items all i.node (prop.Next ∷ [])) [] ≡ made_from all i
  made-value e = through (is_a kind.Field i.node) _ (given_items all i.node (prop.Next ∷ [])) i.ancestors ∙ rw e refl

  pub made-anded : i.what ≡ what.Anded → value_of i ∷ [] ≡ made_from all i
  made-anded e = rw e refl

  pub made-ored : i.what ≡ what.Ored → value_of i ∷ [] ≡ made_from all i
  made-ored e = rw e refl

  pub made-xored : i.what ≡ what.Xored → value_of i ∷ [] ≡ made_from all i
  made-xored e = rw e refl

  pub made-incr : i.what ≡ what.IncrThreshold → value_of i ∷ given_items all i.node (prop.Incrthreshold ∷ []) ≡ made_from all i
  made-incr e = rw e refl

  pub made-decr : i.what ≡ what.DecrThreshold → value_of i ∷ given_items all i.node (prop.Decrthreshold ∷ []) ≡ made_from all i
  made-decr e = rw e refl

  pub made-over : i.what ≡ what.Overflow → given_items all i.node counts ≡ made_from all i
  made-over e = rw e refl

  pub made-under : i.what ≡ what.Underflow → given_items all i.node counts ≡ made_from all i
  made-under e = rw e refl

  pub made-mod : i.what ≡ what.SwMod → [] ≡ made_from all i
  made-mod e = rw e refl

  pub made-acc : i.what ≡ what.SwAcc → [] ≡ made_from all i
  made-acc e = rw e refl

  interrupts : flat_map (masked_items all (prop.Enable ∷ prop.Mask ∷ []) i) (filter (has_one_of (prop.Intr ∷ [])) (fields_of i.node)) ≡ flat_map (masked_items all (prop.Enable ∷ prop.Mask ∷ []) i) (filter is_interrupt (fields_of i.node))
  interrupts = λ j. flat_map (masked_items all (prop.Enable ∷ prop.Mask ∷ []) i) (filter (λ f. or-false (has prop.Intr f) j) (fields_of i.node))

  pub made-intr : i.what ≡ what.Intr → flat_map (masked_items all (prop.Enable ∷ prop.Mask ∷ []) i) (filter (has_one_of (prop.Intr ∷ [])) (fields_of i.node)) ≡ made_from all i
  made-intr e = interrupts ∙ rw e refl

  pub made-halt : i.what ≡ what.Halt → flat_map (masked_items all (prop.Haltenable ∷ prop.Haltmask ∷ []) i) (filter (has_one_of (prop.Haltenable ∷ prop.Haltmask ∷ [])) (fields_of i.node)) ≡ made_from all i
  made-halt e = rw e refl

  pub refers-missing : is_missing i ≡ true → [] ≡ refers_to all i
  refers-missing m = sym (ap (λ b. cond (b || is_in_alias i) [] (made_from all i)) m)

  pub refers-aliased : is_missing i ≡ false → is_in_alias i ≡ true → [] ≡ refers_to all i
  refers-aliased m a = sym (λ j. cond (m j || a j) [] (made_from all i))

  pub refers-made : is_missing i ≡ false → is_in_alias i ≡ false → made_from all i ≡ refers_to all i
  refers-made m a = sym (λ j. cond (m j || a j) [] (made_from all i))

-- Numbers behind others.

pub more-numbers : (e : Elab) (xs ys : List Item) (old mid new : List ℕ) → mid ≡ old ++ numbers_of e xs → new ≡ mid ++ numbers_of e ys → new ≡ old ++ numbers_of e (xs ++ ys)
more-numbers e xs ys old mid new first second = second ∙ (ap (λ ns. ns ++ numbers_of e ys) first ∙ joined old xs)
  where
    joined : (ns : List ℕ) (zs : List Item) → (ns ++ numbers_of e zs) ++ numbers_of e ys ≡ ns ++ numbers_of e (zs ++ ys)
    joined [] [] = refl
    joined [] (z ∷ zs) = ap (λ ms. item_number (lineages_of e) z ∷ ms) (joined [] zs)
    joined (n ∷ ns) zs = ap (λ ms. n ∷ ms) (joined ns zs)

pub no-numbers : (e : Elab) (old : List ℕ) (is : List Item) → [] ≡ is → old ≡ old ++ numbers_of e is
no-numbers e old is none = sym (append-nil old) ∙ ap (λ xs. old ++ numbers_of e xs) none

-- numbers behind others are those of equal items
pub these-numbers : (e : Elab) (xs ys : List Item) (old new : List ℕ) → xs ≡ ys → new ≡ old ++ numbers_of e xs → new ≡ old ++ numbers_of e ys
these-numbers e xs ys old new same h = h ∙ ap (λ zs. old ++ numbers_of e zs) same

-- the nodes in an item's node
pub row-inside : (e : Elab) (rows : List Row) → AreRows e rows → (i : Item) (x : ItemOf) → IsItem e i x → (r : Row) → r ≡ get_or rows x.node r
    → AreInside (lineages_of e) (i.node ∷ i.ancestors) (out-Node (get_or rows x.node r).node.now).children.now (out-Node (get_or rows x.node r).node.now).children.now (children i.node)
row-inside e rows are i x is r at = subst (λ (y : Row). AreInside (lineages_of e) (i.node ∷ i.ancestors) (out-Node y.node.now).children.now (out-Node y.node.now).children.now (children i.node)) at (known-row e rows are i x (as-item-at e i x is) r at).inside
