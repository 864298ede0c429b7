-- The nodes round a field: as the walk knows them, and as a search by paths finds them.
use Rattle.std.proofs.Common.{◌≡◌, ℕ, Bool, true, false, ◌&&◌, List, [], ◌∷◌, ◌++◌, refl, map, flat_map, filter, take, reverse, None}
use Rattle.std.specs.Fmt.{digits}
use Rattle.rdl_tree.specs.declared.expr.Path.{roll-Path}
use Rattle.rdl_tree.specs.declared.item.Kind.TheVariants as kind
use Rattle.rdl_tree.specs.declared.item.Source.{Source}
use Rattle.rdl_values.specs.Bodies.{Path, Step, of_signal, below_top}
use Rattle.rdl_values.specs.Instances.{Instance, children, nodes, signals}
use Rattle.rdl_values.specs.Lineages.{Lineage, lineages}
use Rattle.rdl_values.specs.Uses.{path_text}
use Rattle.rdl_layers.specs.Assignments.{same_step, same_steps}
use Rattle.rdl_layers.specs.Fields.{is_a, steps_up}
use Rattle.rdl_rules.specs.Fields.{nodes_round}
use Rattle.rdl_verdict_laws.proofs.BlockSources.{serial_port, many_resets, root_reset, with_alias, many_kinds}

abbrev sources : List Source
sources = serial_port ∷ many_resets ∷ root_reset ∷ with_alias ∷ many_kinds ∷ []

abbrev all_fields : Source → List Lineage
all_fields s = filter (λ n. is_a kind.Field n.node) (lineages None s)

abbrev paths : List Instance → List (List ℕ)
paths ns = map (λ n. path_text n.path) ns

-- the register of a field, by paths

abbrev holds_field : Path → Instance → Bool
holds_field (of_signal s) f = false
holds_field (below_top ss) f = same_steps ss (steps_up f.path)

abbrev reg_by_path : Source → Instance → List Instance
reg_by_path s f = filter (λ r. is_a kind.Reg r && holds_field r.path f) (nodes None s)

-- it is the nearest of the field's ancestors
register_is_nearest : flat_map (λ s. map (λ f. paths (take 1 f.ancestors)) (all_fields s)) sources ≡ flat_map (λ s. map (λ f. paths (reg_by_path s f.node)) (all_fields s)) sources
unfolding nodes lineages digits roll-Path denote.Hole.Carrier.roll Rattle.rdl_tree.specs.declared.expr.Expr.TheBlock.hidden-the_row-Step-1 denote.Hole.Carrier.hidden Rattle.rdl_tree.specs.declared.item.Item.TheBlock.hidden-the_row-Item-0
register_is_nearest = refl

-- what stands round a field, by paths

abbrev goes_on : List Step → List Step → Bool
goes_on [] ts = true
goes_on (s ∷ ss) [] = false
goes_on (s ∷ ss) (t ∷ ts) = same_step s t && goes_on ss ts

abbrev is_above : Path → Path → Bool
is_above (below_top ss) (below_top ts) = goes_on ss ts
is_above _ _ = false

abbrev round_by_path : Source → Instance → List Instance
round_by_path s f = flat_map children (reverse (filter (λ n. is_above n.path f.path) (nodes None s))) ++ signals s

-- it is in the bodies of the field's ancestors, and at the root
round_is_above : flat_map (λ s. map (λ f. paths (nodes_round s f)) (all_fields s)) sources ≡ flat_map (λ s. map (λ f. paths (round_by_path s f.node)) (all_fields s)) sources
unfolding nodes lineages digits roll-Path denote.Hole.Carrier.roll Rattle.rdl_tree.specs.declared.expr.Expr.TheBlock.hidden-the_row-Step-1 denote.Hole.Carrier.hidden Rattle.rdl_tree.specs.declared.item.Item.TheBlock.hidden-the_row-Item-0
round_is_above = refl
