-- The registers of the code, where those of the tree stand.
use Rattle.std.specs.Prelude.{◌≡◌, ℕ, ◌/◌, Bool, List, [], ◌∷◌, filter, take, Some, Contains}
use Rattle.std.specs.List.{All}
use Rattle.rdl_tree.specs.declared.item.Kind.TheVariants as kind
use Rattle.rdl_tree.specs.declared.node.Elab.{Elab}
use Rattle.rdl_props.specs.declared.prop.Prop.TheVariants as prop
use Rattle.rdl_values.specs.Elaborated.{top_name}
use Rattle.rdl_values.specs.Instances.{Instance}
use Rattle.rdl_values.specs.Lineages.{Lineage, lineages_of}
use Rattle.rdl_layers.specs.Fields.{is_a}
use Rattle.rdl_layers.specs.Phase4.{number_at}
use Rattle.rdl_layout.specs.declared.register.Register.{Register}
use Rattle.rdl_layout.specs.Registers.{IsFit}
use Rattle.rdl_addr.specs.Layout.{Placed, layout}
use Rattle.rdl_addr.specs.Registers.{AreRegistersOf, IsRegisterOf, side_of}
use Rattle.rdl_addr.specs.Rules as rule
use Rattle.rdl_bits.specs.Failing.{registers_of}

-- A register has the numbers of a node, at an address.
pub record IsNumbersOf (r : Register) (n : Instance) (address : ℕ) : Type 0 where
  pub place_ : r.place ≡ n.use_.name.place
  pub address_ : r.address ≡ address
  pub size_ : r.size ≡ number_at n prop.Regwidth / 8
  pub regwidth_ : r.regwidth ≡ number_at n prop.Regwidth
  pub accesswidth_ : r.accesswidth ≡ number_at n prop.Accesswidth
  pub side_ : r.side ≡ side_of (rule.side_of n)

-- A register stands where the layout has a node.
pub record IsFound (e : Elab) (r : Register) (n : Instance) : Type 0 where
  pub area : Placed
  pub among : Contains (layout (Some (top_name e)) e.source.now) area
  pub node_ : area.node ≡ n
  pub is : IsRegisterOf r area

-- one by one
abbrev pub AreFound : Elab → List Register → List Lineage → Type 0
AreFound e [] [] = Unit {0}
AreFound e (r ∷ rs) (l ∷ ls) = IsFound e r l.node × AreFound e rs ls
AreFound e _ _ = ⊥

abbrev pub is_register : Lineage → Bool
is_register l = is_a kind.Reg l.node

-- The registers are those among the first nodes.
pub record AreRegistersTo (e : Elab) (to : ℕ) (rs : List Register) : Type 0 where
  pub fit : All IsFit rs
  pub found : AreFound e rs (filter is_register (take to (lineages_of e)))

-- The registers are those of the layout.
pub record AreRegisters (e : Elab) (rs : List Register) : Type 0 where
  pub fit : All IsFit rs
  pub are : AreRegistersOf rs (registers_of e)
