-- Circles of references are those of the tree apart from addresses.
use Rattle.std.proofs.Common.{◌≡◌, ℕ, zero, suc, refl, sym, ap, ◌∙◌, subst, List, [], ◌∷◌, map, Option, Some, None, option_map, slice_get, Contains}
use Rattle.rb_base.specs.declared.place.Place.{Place}
use Rattle.rdl_base.specs.declared.rule.Rule.{Rule}
use Rattle.rdl_base.specs.declared.rule.Rule.TheVariants as rules
use Rattle.rdl_tree.specs.declared.item.Source.{Source}
use Rattle.rdl_verdict_laws.specs.Plain.{plain_source}
use Rattle.rdl_values.specs.Faults.{at_}
use Rattle.rdl_values.specs.Lineages.{Lineage, lineages}
use Rattle.rdl_verdict_laws.specs.PlainInstances.{plain_lineage}
use Rattle.rdl_verdict_laws.proofs.Instances.{lineages-plain}
use Rattle.rdl_refs.specs.Follows.{FailsR7}
use Rattle.rdl_refs.specs.Graph.{Edges, ForEver}
use Rattle.rdl_refs.specs.Items.{Item, items}
use Rattle.rdl_verdict_laws.specs.PlainItems.{plain_item}
use Rattle.rdl_verdict_laws.proofs.References.{items-plain, edges-plain}
use Rattle.rdl_rules.specs.Phase6.{fails6}
use Rattle.rdl_verdict_laws.proofs.Meaning.{failures6-plain}

get_under : {A : Type 0} (g : A → A) (xs : List A) (k : ℕ) → slice_get (map g xs) k ≡ option_map g (slice_get xs k)
get_under g [] k = refl
get_under g (x ∷ xs) zero = refl
get_under g (x ∷ xs) (suc k) = get_under g xs k

item_before : (o : Option Item) (i : Item) → option_map plain_item o ≡ Some i → (j : Item) × (o ≡ Some j) × (plain_item j ≡ i)
item_before None i e = cc
item_before (Some j) i e = (j, refl, cc)

circle-from : (all : List Lineage) (p : Place) → FailsR7 (map plain_lineage all) p → FailsR7 all p
circle-from all p f =
    let e : option_map plain_item (slice_get (items all) f.0) ≡ Some f.1 = sym (get_under plain_item (items all) f.0) ∙ ap (λ xs. slice_get xs f.0) (sym (items-plain all)) ∙ f.2 in
    let j = item_before (slice_get (items all) f.0) f.1 e in
    (f.0, j.0, j.1, subst (λ (es : Edges). ForEver es f.0) (edges-plain all) f.3, f.4 ∙ ap (λ (i : Item). i.node.use_.name.place) (sym j.2))

circle-to : (all : List Lineage) (p : Place) → FailsR7 all p → FailsR7 (map plain_lineage all) p
circle-to all p f =
    let e : slice_get (items (map plain_lineage all)) f.0 ≡ Some (plain_item f.1) = ap (λ xs. slice_get xs f.0) (items-plain all) ∙ get_under plain_item (items all) f.0 ∙ ap (option_map plain_item) f.2 in
    (f.0, plain_item f.1, e, subst (λ (es : Edges). ForEver es f.0) (sym (edges-plain all)) f.3, f.4)

pub fails6-from : (w : Option (List ℕ)) (s : Source) (r : Rule) (p : Place) → fails6 w (plain_source s) r p → fails6 w s r p
fails6-from w s rules.R7 p f = circle-from (lineages w s) p (subst (λ all. FailsR7 all p) (lineages-plain w s) f)
fails6-from w s r p f = subst (λ xs. Contains xs (at_ r p)) (failures6-plain w s) f

pub fails6-to : (w : Option (List ℕ)) (s : Source) (r : Rule) (p : Place) → fails6 w s r p → fails6 w (plain_source s) r p
fails6-to w s rules.R7 p f = subst (λ all. FailsR7 all p) (sym (lineages-plain w s)) (circle-to (lineages w s) p f)
fails6-to w s r p f = subst (λ xs. Contains xs (at_ r p)) (sym (failures6-plain w s)) f
