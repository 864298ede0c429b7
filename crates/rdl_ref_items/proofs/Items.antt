-- What is known of an item by the number of its node.
use Rattle.std.proofs.Common.{◌≡◌, ◌∙◌, ℕ, ◌<◌, Bool, true, false, not, ◌&&◌, ◌||◌, List, [], ◌∷◌, length, get_or, take, slice_get, Option, None, Some, is_some, refl, sym, ap, subst, arith}
use Rattle.std.specs.List.{list_any}
use Rattle.plain_lemmas.proofs.Bools.{and-false, or-false}
use Rattle.rdl_tree.specs.declared.item.Kind.TheVariants as kinds
use Rattle.rdl_tree.specs.declared.node.Elab.{Elab}
use Rattle.rdl_props.specs.declared.prop.Prop.TheVariants as prop
use Rattle.rdl_values.specs.Elaborated.{nodes_of}
use Rattle.rdl_values.specs.Elaboration.{IsClean}
use Rattle.rdl_values.specs.Instances.{Instance}
use Rattle.rdl_values.specs.Lineages.{Lineage, lineages_of}
use Rattle.rdl_layers.specs.Fields.{fields_of, has_one_of, is_a, is_alias, is_counter, is_interrupt}
use Rattle.rdl_nodes.specs.declared.table.Row.{Row}
use Rattle.rdl_nodes.specs.Rows.{AreRows, IsParent, IsRow}
use Rattle.rdl_refs.specs.declared.item.ItemOf.{ItemOf}
use Rattle.rdl_refs.specs.declared.item.What.TheVariants as what
use Rattle.rdl_refs.specs.Follows.{is_in_alias, is_missing}
use Rattle.rdl_refs.specs.Items.{Item}
use Rattle.rdl_fields.specs.Primary.{TellsPrimary}
use Rattle.rdl_nodes.proofs.Members.{get-within}
use Rattle.rdl_sizes.proofs.Facts.{count-is, node-at, row-at, rows-many}
use Rattle.rdl_sizes.proofs.Turns.{read-at}
use Rattle.rdl_ref_items.specs.Named.{IsItemAt}

abbrev pub lineage_of : Item → Lineage
lineage_of i = record { node = i.node; ancestors = i.ancestors }

pub item-below : (e : Elab) (i : Item) (x : ItemOf) → IsItemAt e i x → x.node < length (lineages_of e)
item-below e i x h = get-within (lineages_of e) x.node (record { node = i.node; ancestors = i.ancestors }) h.here

pub item-node : (e : Elab) (i : Item) (x : ItemOf) → IsItemAt e i x → slice_get (nodes_of e) x.node ≡ Some i.node
item-node e i x h = node-at e x.node (record { node = i.node; ancestors = i.ancestors }) h.here

pub item-counted : (e : Elab) → IsClean e → (i : Item) (x : ItemOf) → IsItemAt e i x → x.node < e.count
item-counted e clean i x h = let low = item-below e i x h in let n = count-is e clean in omega (arith, low, n)

pub same-lineage : (e : Elab) (k : ℕ) (l m : Lineage) → slice_get (lineages_of e) k ≡ Some l → slice_get (lineages_of e) k ≡ Some m → l ≡ m
same-lineage e k l m a b = let p : Some l ≡ Some m = sym a ∙ b in cc p

-- What is missing.

pub missing-incr : (i : Item) → i.what ≡ what.IncrThreshold → not (is_counter i.node) ≡ is_missing i
missing-incr i e = rw e refl

pub missing-decr : (i : Item) → i.what ≡ what.DecrThreshold → not (is_counter i.node) ≡ is_missing i
missing-decr i e = rw e refl

pub missing-over : (i : Item) → i.what ≡ what.Overflow → not (is_counter i.node) ≡ is_missing i
missing-over i e = rw e refl

pub missing-under : (i : Item) → i.what ≡ what.Underflow → not (is_counter i.node) ≡ is_missing i
missing-under i e = rw e refl

pub missing-intr : (i : Item) → i.what ≡ what.Intr → not (list_any is_interrupt (fields_of i.node)) ≡ is_missing i
missing-intr i e = rw e refl

pub missing-halt : (i : Item) → i.what ≡ what.Halt → not (list_any (has_one_of (prop.Haltenable ∷ prop.Haltmask ∷ [])) (fields_of i.node)) ≡ is_missing i
missing-halt i e = rw e refl

-- Aliases.

pub told-some : (e : Elab) (a : Instance) (o : Option ℕ) → TellsPrimary e a o → is_some o ≡ is_alias a
told-some e a None t = sym t
told-some e a (Some k) t = sym t.0

pub alias-itself : (i : Item) → is_alias i.node ≡ true → true ≡ is_in_alias i
alias-itself i a = sym (ap (λ b. b || (is_a kinds.Field i.node && list_any is_alias (take 1 i.ancestors))) a)

pub alias-no-field : (i : Item) → is_alias i.node ≡ false → is_a kinds.Field i.node ≡ false → false ≡ is_in_alias i
alias-no-field i a f = sym (λ j. a j || (f j && list_any is_alias (take 1 i.ancestors)))

pub alias-no-parent : (i : Item) → is_alias i.node ≡ false → i.ancestors ≡ [] → false ≡ is_in_alias i
alias-no-parent i a none = sym ((λ j. a j || (is_a kinds.Field i.node && list_any is_alias (take 1 (none j)))) ∙ and-false (is_a kinds.Field i.node))

pub alias-parent : (i : Item) (q : Instance) (up : List Instance) (b : Bool) → is_alias i.node ≡ false → is_a kinds.Field i.node ≡ true → i.ancestors ≡ q ∷ up → b ≡ is_alias q → b ≡ is_in_alias i
alias-parent i q up b a f is e = e ∙ (sym (or-false (is_alias q)) ∙ sym (λ j. a j || (f j && list_any is_alias (take 1 (is j)))))

pub no-parent : (all : List Lineage) (o : Option ℕ) (up : List Instance) → ((k : ℕ) → o ≡ Some k → ⊥) → IsParent all o up → up ≡ []
no-parent all None up h p = p
no-parent all (Some k) up h p = absurd (h k refl)

-- the row of an item's node
pub known-row : (e : Elab) (rows : List Row) → AreRows e rows → (i : Item) (x : ItemOf) → IsItemAt e i x → (r : Row) → r ≡ get_or rows x.node r → IsRow e (lineages_of e) x.node r (lineage_of i)
known-row e rows h i x at r is =
    let low : x.node < length rows = (let l = item-below e i x at in let m = rows-many e rows h in omega (arith, l, m)) in
    let q = row-at e rows h x.node r (read-at rows x.node r low is) in
    subst (λ (l : Lineage). IsRow e (lineages_of e) x.node r l) (same-lineage e x.node q.0 (lineage_of i) q.1 at.here) q.2
