-- The item of a block that a reference means.
use Rattle.std.proofs.Common.{◌≡◌, ◌∙◌, ℕ, zero, suc, ◌<◌, true, false, List, [], ◌∷◌, length, Option, None, Some, slice_get, refl, sym, ap, subst, arith}
use Rattle.rdl_tree.specs.declared.item.Kind.{Kind}
use Rattle.rdl_tree.specs.declared.item.Kind.TheVariants as kind
use Rattle.rdl_tree.specs.declared.node.Elab.{Elab}
use Rattle.rdl_props.specs.declared.prop.Prop.{Prop}
use Rattle.rdl_tree.specs.Kinds.{same_kind}
use Rattle.rdl_values.specs.Elaborated.{nodes_of, top_name}
use Rattle.rdl_values.specs.Elaboration.{IsClean}
use Rattle.rdl_values.specs.Instances.{Instance, kind_of}
use Rattle.rdl_values.specs.Lineages.{Lineage, lineages_of, nodes_in}
use Rattle.rdl_nodes.proofs.Lineages.{all_nodes}
use Rattle.rdl_layers.specs.Settings.{setting}
use Rattle.rdl_nodes.proofs.Members.{get-within}
use Rattle.rdl_refs.specs.declared.item.ItemOf.{ItemOf}
use Rattle.rdl_refs.specs.declared.item.What.{What}
use Rattle.rdl_refs.specs.Items.{Item, target}
use Rattle.rdl_sizes.proofs.Facts.{count-is, node-at, nodes-many}
use Rattle.rdl_ref_items.specs.Named.{IsItemAt, Names}
use Rattle.rb_model.specs.declared.kinds.RefItem.{RefItem}
use Rattle.rb_model.specs.declared.kinds.RefItem.TheVariants as item
use Rattle.rdl_rules.specs.Feeds.{item_at, ref_of, ref_to}
use Rattle.rdl_rules.specs.Numbers.{all_fields, all_signals, number_of, registers}
use Rattle.rdl_block_numbers.specs.Numbers.{own_number}

pub node-here : (e : Elab) → IsClean e → (k : ℕ) → k < e.count → (n : Instance) × (slice_get (nodes_of e) k ≡ Some n)
node-here e clean k l = has (nodes_of e) k (let c = count-is e clean in let m = nodes-many e in omega (arith, l, c, m))
  where
    has : (xs : List Instance) (k : ℕ) → k < length xs → (n : Instance) × (slice_get xs k ≡ Some n)
    has [] k l = absurd (omega (arith, l))
    has (x ∷ xs) zero l = (x, refl)
    has (x ∷ xs) (suc k) l = has xs k (omega (arith, l))

-- By the kind of its node.

module _ (w : What) (s f r : ℕ) where
  abbrev own-by : Kind → ℕ
  own-by kind.Signal = s
  own-by kind.Field = f
  own-by _ = r

  abbrev ref-by : Kind → RefItem
  ref-by kind.Signal = item.Signal s
  ref-by kind.Field = ref_of w f
  ref-by _ = ref_of w r

  signal-case : (j : Kind) → same_kind kind.Signal j ≡ true → item.Signal (own-by j) ≡ ref-by j
  signal-case kind.Signal e = refl
  signal-case kind.Field e = cc e
  signal-case kind.Reg e = cc e
  signal-case kind.Regfile e = cc e
  signal-case kind.Addrmap e = cc e

  other-case : (j : Kind) → same_kind kind.Signal j ≡ false → ref_of w (own-by j) ≡ ref-by j
  other-case kind.Signal e = cc e
  other-case kind.Field e = refl
  other-case kind.Reg e = refl
  other-case kind.Regfile e = refl
  other-case kind.Addrmap e = refl

pub to-signal : (all : List Lineage) (i : Item) → same_kind kind.Signal (kind_of i.node) ≡ true → item.Signal (own_number (nodes_in all) i.node) ≡ ref_to all i
to-signal all i e = signal-case i.what (number_of i.node (all_signals (nodes_in all))) (number_of i.node (all_fields (nodes_in all))) (number_of i.node (registers (nodes_in all))) (kind_of i.node) e

pub to-other : (all : List Lineage) (i : Item) → same_kind kind.Signal (kind_of i.node) ≡ false → ref_of i.what (own_number (nodes_in all) i.node) ≡ ref_to all i
to-other all i e = other-case i.what (number_of i.node (all_signals (nodes_in all))) (number_of i.node (all_fields (nodes_in all))) (number_of i.node (registers (nodes_in all))) (kind_of i.node) e

-- What a setting names.

item-in : List Lineage → List Item → Option RefItem
item-in all [] = None
item-in all (i ∷ is) = Some (ref_to all i)

pub named-none : (e : Elab) (n : Instance) (p : Prop) (o : Option ItemOf) → o ≡ None → Names e (target (lineages_of e) (setting n p)) o → None ≡ item_at (lineages_of e) n p
unfolding item-in
named-none e n p o is names = sym (ap (item-in (lineages_of e)) (none (target (lineages_of e) (setting n p)) (subst (Names e (target (lineages_of e) (setting n p))) is names)))
  where
    none : (is : List Item) → Names e is None → is ≡ []
    none [] h = refl
    none (i ∷ is) h = absurd h

-- the item that is named
pub record IsNamed (e : Elab) (n : Instance) (p : Prop) (x : ItemOf) : Type 0 where
  pub it : Item
  pub at : IsItemAt e it x
  pub says : Some (ref_to (lineages_of e) it) ≡ item_at (lineages_of e) n p

pub named-one : (e : Elab) (n : Instance) (p : Prop) (o : Option ItemOf) (x : ItemOf) → o ≡ Some x → Names e (target (lineages_of e) (setting n p)) o → IsNamed e n p x
unfolding item-in
named-one e n p o x is names = one (target (lineages_of e) (setting n p)) refl (subst (Names e (target (lineages_of e) (setting n p))) is names)
  where
    one : (is : List Item) → target (lineages_of e) (setting n p) ≡ is → Names e is (Some x) → IsNamed e n p x
    one [] q h = cc h
    one (i ∷ is) q h = record { it = i; at = h.1; says = sym (ap (item-in (lineages_of e)) q) }

pub item-below : (e : Elab) (i : Item) (x : ItemOf) → IsItemAt e i x → x.node < length (lineages_of e)
item-below e i x h = get-within (lineages_of e) x.node (record { node = i.node; ancestors = i.ancestors }) h.here

pub item-node : (e : Elab) (i : Item) (x : ItemOf) → IsItemAt e i x → slice_get (nodes_of e) x.node ≡ Some i.node
item-node e i x h = node-at e x.node (record { node = i.node; ancestors = i.ancestors }) h.here

pub same-lineage : (e : Elab) (k : ℕ) (l m : Lineage) → slice_get (lineages_of e) k ≡ Some l → slice_get (lineages_of e) k ≡ Some m → l ≡ m
same-lineage e k l m a b = let p : Some l ≡ Some m = sym a ∙ b in cc p

pub own-in : (e : Elab) (n : Instance) → own_number (nodes_of e) n ≡ own_number (nodes_in (lineages_of e)) n
own-in e n = ap (λ ns. own_number ns n) (sym (all_nodes (Some (top_name e)) e.source.now))
