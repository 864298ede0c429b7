-- The register block that a source describes, where it breaks no rule.
use Rattle.std.specs.Prelude.{◌≡◌, ℕ, Bool, not, ◌&&◌, List, [], ◌∷◌, map, flat_map, filter, Option}
use Rattle.std.specs.List.{list_any}
use Rattle.std.specs.List.Sorted.{IsPermutation}
use Rattle.rdl_tree.specs.declared.item.Source.{Source}
use Rattle.rdl_tree.specs.declared.item.Kind.TheVariants as kind
use Rattle.rdl_props.specs.declared.prop.Prop.TheVariants as prop
use Rattle.rdl_refs.specs.Leads.{is_at_root}
use Rattle.rdl_values.specs.Uses.{path_text}
use Rattle.rdl_values.specs.Instances.{Instance, nodes, top_of}
use Rattle.rdl_values.specs.Lineages.{Lineage, lineages, nodes_in}
use Rattle.rdl_layers.specs.Phase4.{width_of}
use Rattle.rdl_layers.specs.Fields.{is_a, fields_of, is_alias, is_interrupt, has_one_of}
use Rattle.rdl_addr.specs.Rules as addr
use Rattle.rb_model.specs.declared.block.Block.{Block}
use Rattle.rb_model.specs.declared.block.Field.{Field}
use Rattle.rb_model.specs.declared.block.Reg.{Reg}
use Rattle.rb_model.specs.declared.block.Signal.{Signal}
use Rattle.rb_model.specs.declared.block.View.{View}
use Rattle.rb_model.specs.Items.{items}
use Rattle.rb_model.specs.References.{IsOrdered}
use Rattle.rdl_rules.specs.Numbers.{Numbered, numbered, all_signals, registers}
use Rattle.rdl_rules.specs.Fields.{field_of, view_of}
use Rattle.rdl_rules.specs.Words.{read_words, write_words, AreByAddress}

abbrev pub signal_of : Instance → Signal
signal_of n = record { path = path_text n.path; width = width_of n; root = is_at_root n.path }

-- the registers of a block, with their numbers
abbrev pub numbered_registers : List Lineage → List (Numbered Lineage)
numbered_registers all = numbered (λ r. r.node) (filter (λ n. is_a kind.Reg n.node) all)

abbrev pub fields : Source → List Lineage → List Field
fields s all = flat_map (λ r. map (field_of s all r) (fields_of r.register.node)) (filter (λ r. not (is_alias r.register.node)) (numbered_registers all))

abbrev pub views : List Lineage → List View
views all = flat_map (λ r. map (view_of all r) (fields_of r)) (registers (nodes_in all))

-- an interrupt field of it is enabled or masked for halt
abbrev pub halts : Instance → Bool
halts f = is_interrupt f && has_one_of (prop.Haltenable ∷ prop.Haltmask ∷ []) f

abbrev pub reg_of : Instance → Reg
reg_of r = record {
  path = path_text r.path;
  alias = is_alias r;
  intr = not (is_alias r) && list_any is_interrupt (fields_of r);
  halt = not (is_alias r) && list_any halts (fields_of r);
}

-- The block of a source and a number of wait states. Its order is any in which each item stands behind those that it refers to.
pub record IsBlockOf (wanted : Option (List ℕ)) (s : Source) (waits : ℕ) (b : Block) : Type 0 where
  pub name : map (λ n. n.use_.name.text.now) (top_of wanted s) ≡ b.name ∷ []
  pub signals : b.signals ≡ map signal_of (all_signals (nodes wanted s))
  pub fields_ : b.fields ≡ fields s (lineages wanted s)
  pub views_ : b.views ≡ views (lineages wanted s)
  pub regs : b.regs ≡ map reg_of (registers (nodes wanted s))
  pub reads : AreByAddress (read_words (addr.registers wanted s)) b.reads
  pub writes : AreByAddress (write_words (addr.registers wanted s)) b.writes
  pub waits_ : b.waits ≡ waits
  pub each_item : IsPermutation (items b) b.order
  pub ordered : IsOrdered b b.order
