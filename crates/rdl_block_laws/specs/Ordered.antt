-- The items of a block, in the order of the numbers of its source's items.
use Rattle.std.specs.Prelude.{ℕ, ◌||◌, cond, List, [], ◌∷◌, flat_map, option_to_list, slice_get}
use Rattle.rdl_values.specs.Lineages.{Lineage}
use Rattle.rdl_refs.specs.Follows.{is_in_alias, is_missing}
use Rattle.rdl_refs.specs.Items.{Item, items}
use Rattle.rb_model.specs.declared.kinds.RefItem.{RefItem}
use Rattle.rdl_rules.specs.Feeds.{ref_to}

-- what an item is in the block: nothing where it is missing, or an alias's
abbrev pub shown_as : List Lineage → Item → List RefItem
shown_as all i = cond (is_missing i || is_in_alias i) [] (ref_to all i ∷ [])

-- what the items of some numbers are there
abbrev pub in_turn : List Lineage → List ℕ → List RefItem
in_turn all ks = flat_map (λ k. flat_map (shown_as all) (option_to_list (slice_get (items all) k))) ks
