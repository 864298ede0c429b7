-- The registers of the code are those of the layout.
use Rattle.std.specs.Prelude.{◌≡◌, ℕ, Bool, true, ◌+◌, ◌<◌, ◌^◌, List, [], ◌∷◌, length, map, filter, take, slice_get, Contains, Some}
use Rattle.std.specs.List.{AllByRecursion}
use Rattle.rdl_tree.specs.declared.node.Elab.{Elab}
use Rattle.rdl_tree.specs.declared.node.Node.{out-Node}
use Rattle.rdl_tree.specs.declared.item.Kind.TheVariants as kind
use Rattle.rdl_values.specs.Elaborated.{top_name}
use Rattle.rdl_values.specs.Lineages.{Lineage, lineages_of}
use Rattle.rdl_layers.specs.Fields.{fields_of, is_a}
use Rattle.rdl_nodes.specs.declared.table.Row.{Row}
use Rattle.rdl_nodes.specs.Rows.{IsRow}
use Rattle.rdl_addr.specs.Answers.{PlacedAt}
use Rattle.rdl_addr.specs.Bits.{bits_of}
use Rattle.rdl_addr.specs.Layout.{Placed, layout}
use Rattle.rdl_addr.specs.Rules as rules
use Rattle.rdl_rules.specs.Numbers.{Numbered, numbered}
use Rattle.rdl_block_words.specs.declared.word.Shape.{Shape}
use Rattle.rdl_block_words.specs.Shapes.{Fits, IsShapeOf}
use Rattle.rdl_fields.specs.Views.{AreViewsOf}
use Rattle.rdl_block_words.specs.declared.entry.PlacedRegister.{PlacedRegister}

-- A register of the code is one of the layout, by its number.
pub record IsEntryOf (e : Elab) (x : PlacedRegister) (r : Numbered Placed) : Type 0 where
  pub shape_ : IsShapeOf x.shape r
  pub fits : Fits x.shape
  pub read_only : x.is_read_only ≡ rules.is_read_only r.register.node
  pub write_only : x.is_write_only ≡ rules.is_write_only r.register.node
  pub views_ : AreViewsOf e x.views.items (bits_of r.register.node)
  pub numbers : x.shape.first_view + length x.views.items < 2 ^ 32
  pub next : x.next_view ≡ x.shape.first_view + length x.views.items

-- one by one
abbrev pub AreEntriesOf : Elab → List PlacedRegister → List (Numbered Placed) → Type 0
AreEntriesOf e [] [] = Unit {0}
AreEntriesOf e (x ∷ xs) (r ∷ rs) = IsEntryOf e x r × AreEntriesOf e xs rs
AreEntriesOf e _ _ = ⊥

-- The row is that of a register.
pub record IsRegisterRow (e : Elab) (x : Row) (l : Lineage) : Type 0 where
  pub here : slice_get (lineages_of e) (out-Node x.node.now).id ≡ Some l
  pub row : IsRow e (lineages_of e) (out-Node x.node.now).id x l
  pub register : is_a kind.Reg l.node ≡ true

-- The shape says where this node stands, which has this number among the registers, and its first field this one among the views.
pub record IsShapeAt (e : Elab) (at number first_view : ℕ) (s : Shape) : Type 0 where
  pub spot : Placed
  pub here : PlacedAt e at spot
  pub is : IsShapeOf s (record { register = spot; number = number; first_view = first_view })
  pub fits : Fits s

-- It is the one of this node, which has this number among the registers, and its first field this one among the views.
pub record IsEntryAt (e : Elab) (at number first_view : ℕ) (x : PlacedRegister) : Type 0 where
  pub spot : Placed
  pub here : PlacedAt e at spot
  pub is : IsEntryOf e x (record { register = spot; number = number; first_view = first_view })

-- how many fields registers have
abbrev pub fields_in : List Placed → ℕ
fields_in [] = 0
fields_in (p ∷ ps) = length (fields_of p.node) + fields_in ps

abbrev pub is_register : Lineage → Bool
is_register l = is_a kind.Reg l.node

-- The registers of the code are those among the first nodes, and have so many fields.
pub record AreEntriesTo (e : Elab) (to views : ℕ) (xs : List PlacedRegister) : Type 0 where
  pub spots : List Placed
  pub nodes_ : map (λ p. p.node) spots ≡ map (λ l. l.node) (filter is_register (take to (lineages_of e)))
  pub among : AllByRecursion (Contains (layout (Some (top_name e)) e.source.now)) spots
  pub are : AreEntriesOf e xs (numbered (λ p. p.node) spots)
  pub views_ : views ≡ fields_in spots

-- they are all registers
abbrev pub AreEntries : Elab → List PlacedRegister → Type 0
AreEntries e xs = AreEntriesOf e xs (numbered (λ p. p.node) (rules.registers (Some (top_name e)) e.source.now))
