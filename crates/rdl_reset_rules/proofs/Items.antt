-- The one item of a setting, and its width.
use Rattle.std.proofs.Common.{◌≡◌, ℕ, ◌<◌, List, [], ◌∷◌, slice_get, Option, None, Some, refl, ap, arith}
use Rattle.rdl_tree.specs.declared.node.Elab.{Elab}
use Rattle.rdl_values.specs.Elaborated.{nodes_of}
use Rattle.rdl_values.specs.Elaboration.{IsClean}
use Rattle.rdl_values.specs.Instances.{Instance}
use Rattle.rdl_layers.specs.Phase4.{width_of}
use Rattle.rdl_refs.specs.declared.item.ItemOf.{ItemOf}
use Rattle.rdl_refs.specs.declared.item.What.TheVariants as what
use Rattle.rdl_refs.specs.Items.{Item}
use Rattle.rdl_rules.specs.ReferenceRules.{item_width}
use Rattle.rdl_nodes.proofs.Members.{get-within}
use Rattle.rdl_sizes.proofs.Facts.{count-is, nodes-many}
use Rattle.rdl_ref_items.specs.Named.{IsItemAt, Names}

pub number-below : (e : Elab) → IsClean e → (k : ℕ) (n : Instance) → slice_get (nodes_of e) k ≡ Some n → k < e.count
number-below e clean k n at = let low = get-within (nodes_of e) k n at in let c = count-is e clean in let m = nodes-many e in omega (arith, low, c, m)

pub width-value : (i : Item) → i.what ≡ what.Value → width_of i.node ≡ item_width i
width-value i e = rw e refl

pub names-one : (e : Elab) (t : List Item) (x : ItemOf) → Names e t (Some x) → (i : Item) × (t ≡ i ∷ []) × IsItemAt e i x
names-one e [] x h = cc h
names-one e (i ∷ is) x h = (i, ap (λ js. i ∷ js) h.0, h.1)

pub names-none : (e : Elab) (t : List Item) (o : Option ItemOf) → ((x : ItemOf) → o ≡ Some x → ⊥) → Names e t o → t ≡ []
names-none e t (Some x) never h = absurd (never x refl)
names-none e [] None never h = refl
names-none e (i ∷ is) None never h = absurd h
