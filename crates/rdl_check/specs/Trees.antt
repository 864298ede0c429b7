-- A tree in which no rule fails, and what its block is made of.
use Rattle.std.specs.Prelude.{◌≡◌, ℕ, List, [], map, Result, Ok, Err}
use Rattle.rb_model.specs.declared.kinds.RefItem.{RefItem}
use Rattle.rdl_tree.specs.declared.node.Elab.{Elab}
use Rattle.rdl_values.specs.Elaborated.{nodes_of}
use Rattle.rdl_values.specs.Lineages.{lineages_of}
use Rattle.rdl_values.specs.Verdict.{IsListOf, IsRefusal}
use Rattle.rdl_failures.specs.declared.error.PhaseError.{PhaseError}
use Rattle.rdl_failures.specs.declared.error.PhaseError.TheVariants as error
use Rattle.rdl_ref_items.specs.InterruptOutputs.{AreInterruptOutputs}
use Rattle.rdl_block_numbers.specs.Numbers.{AreNodeNumbers}
use Rattle.rdl_block_numbers.specs.Texts.{AreTexts}
use Rattle.rdl_block_laws.specs.Ordered.{in_turn}
use Rattle.rdl_refs.specs.Follows.{edges_of}
use Rattle.rdl_refs.specs.Graph.{IsOrder}
use Rattle.rdl_rules.specs.Answers.{IsReady, meaning_fails}
use Rattle.rdl_rules.specs.Block as blocks
use Rattle.rdl_rules.specs.Numbers.{all_signals, registers}
pub use Rattle.rdl_block_laws.specs.Forms.{HaveOneForm}
use Rattle.rdl_check.specs.declared.lists.Lists.{Lists}
use Rattle.rdl_check.specs.declared.lists.TreeTables.{TreeTables}

-- `meaning`: that no rule on meaning fails, or the list of all failures. Want of memory may be answered anywhere.
abbrev pub Means : {A : Type 0} → Elab → Result A PhaseError → Type 0
Means e (Ok x) = IsListOf (meaning_fails e) []
Means e (Err (error.Faults list)) = IsRefusal (meaning_fails e) list.items
Means e (Err error.NoMemory) = Unit {0}

-- No rule fails of the tree.
pub record IsClear (e : Elab) : Type 0 where
  pub ready : IsReady e
  pub forms : HaveOneForm e
  pub none : IsListOf (meaning_fails e) []

-- The path texts, the numbers and the marks of its nodes.
pub record AreTables (e : Elab) (t : TreeTables) : Type 0 where
  pub texts_ : AreTexts e t.texts
  pub numbers_ : AreNodeNumbers e t.numbers
  pub marks_ : AreInterruptOutputs e t.marks.items

-- The lists are those of its block.
pub record AreLists (e : Elab) (l : Lists) : Type 0 where
  pub signals_ : l.signals ≡ map blocks.signal_of (all_signals (nodes_of e))
  pub fields_ : l.fields ≡ blocks.fields e.source.now (lineages_of e)
  pub views_ : l.views ≡ blocks.views (lineages_of e)
  pub regs_ : l.regs ≡ map blocks.reg_of (registers (nodes_of e))

-- The items stand in an order of the tree's.
pub record AreInTurn (e : Elab) (is : List RefItem) : Type 0 where
  pub numbers : List ℕ
  pub order : IsOrder (edges_of (lineages_of e)) numbers
  pub turned : is ≡ in_turn (lineages_of e) numbers
