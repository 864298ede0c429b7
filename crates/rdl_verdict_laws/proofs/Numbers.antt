-- The numbers of registers and views: as they are listed, and as a search by paths finds them.
use Rattle.std.proofs.Common.{◌≡◌, ℕ, ◌+◌, List, [], ◌∷◌, refl, map, flat_map, None}
use Rattle.std.specs.Fmt.{digits}
use Rattle.rdl_tree.specs.declared.expr.Path.{roll-Path}
use Rattle.rdl_tree.specs.declared.item.Source.{Source}
use Rattle.rdl_props.specs.Table.{reference_props, props}
use Rattle.rdl_values.specs.Instances.{Instance, nodes}
use Rattle.rdl_values.specs.Lineages.{lineages}
use Rattle.rdl_layers.specs.Fields.{fields_of}
use Rattle.rdl_layers.specs.Settings.{setting}
use Rattle.rdl_addr.specs.Layout.{layout}
use Rattle.rdl_addr.specs.Rules as addr
use Rattle.rdl_rules.specs.Block.{numbered_registers}
use Rattle.rdl_rules.specs.Numbers.{number_of, numbered, registers}
use Rattle.rdl_verdict_laws.proofs.BlockSources.{one_register, serial_port, wide_register, many_resets, with_alias, many_kinds}

abbrev sources : List Source
sources = one_register ∷ serial_port ∷ wide_register ∷ many_resets ∷ with_alias ∷ many_kinds ∷ []

-- every field of a register is a view
abbrev all_views : List Instance → List Instance
all_views all = flat_map fields_of (registers all)

-- the number of a register, and those of its views
abbrev found : List Instance → Instance → ℕ × List ℕ
found all r = (number_of r (registers all), map (λ f. number_of f (all_views all)) (fields_of r))

-- numbers from this one on, one for each field
abbrev counted : ℕ → List Instance → List ℕ
counted k [] = []
counted k (f ∷ fs) = k ∷ counted (k + 1) fs

-- the registers of the tree of instances
registers_by_number : flat_map {A = ℕ × List ℕ} (λ s. map {B = ℕ × List ℕ} (λ r. (r.number, counted r.first_view (fields_of r.register.node))) (numbered_registers (lineages None s))) sources ≡ flat_map (λ s. map (found (nodes None s)) (registers (nodes None s))) sources
unfolding nodes lineages setting layout digits props reference_props roll-Path denote.Hole.Carrier.roll Rattle.rdl_tree.specs.declared.expr.Expr.TheBlock.hidden-the_row-Step-1 denote.Hole.Carrier.hidden Rattle.rdl_tree.specs.declared.item.Item.TheBlock.hidden-the_row-Item-0
registers_by_number = refl

-- and those of the layout, which are the same
placed_by_number : flat_map {A = ℕ × List ℕ} (λ s. map {B = ℕ × List ℕ} (λ r. (r.number, counted r.first_view (fields_of r.register.node))) (numbered (λ p. p.node) (addr.registers None s))) sources ≡ flat_map (λ s. map (found (nodes None s)) (registers (nodes None s))) sources
unfolding nodes lineages setting layout digits props reference_props roll-Path denote.Hole.Carrier.roll Rattle.rdl_tree.specs.declared.expr.Expr.TheBlock.hidden-the_row-Step-1 denote.Hole.Carrier.hidden Rattle.rdl_tree.specs.declared.item.Item.TheBlock.hidden-the_row-Item-0
placed_by_number = refl
