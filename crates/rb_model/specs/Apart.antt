-- What tells the words of a block, and the slots of a word, apart.
use Rattle.std.specs.Prelude.{◌≡◌, ◌⊎◌, ℕ, ◌<◌, ◌^◌, ◌==◌, not, IsTrue, Some, List, ◌∷◌, ◌++◌, AllPairs, length, slice_get}
use Rattle.std.specs.List.{list_all}
use Rattle.rb_model.specs.declared.block.Block.{Block}
use Rattle.rb_model.specs.declared.block.View.{View}
use Rattle.rb_model.specs.declared.block.Slot.{Slot}
use Rattle.rb_model.specs.declared.block.Word.{Word}
use Rattle.rb_model.specs.declared.block.Reg.{Reg}
use Rattle.rb_model.specs.References.{Each}

-- the word that a read reaches at an address, or the one that a write reaches there
abbrev pub IsWordAt : Block → ℕ → Word → Type 0
IsWordAt b k w = (slice_get b.reads k ≡ Some w) ⊎ (slice_get b.writes k ≡ Some w)

-- the slot's view has the register's path and, behind a `$`, a name of its own
pub record IsNamedIn (b : Block) (r : Reg) (s : Slot) : Type 0 where
  pub view : View
  pub of_view : slice_get b.views s.view ≡ Some view
  pub name : List ℕ
  pub of_name : IsTrue (list_all (λ c. not (c == 36)) name)
  pub of_path : view.path ≡ r.path ++ 36 ∷ name

abbrev pub HaveOtherViews : Slot → Slot → Type 0
HaveOtherViews s t = s.view ≡ t.view → ⊥

pub record WordIsApart (b : Block) (w : Word) : Type 0 where
  pub register : Reg
  pub of_register : slice_get b.regs w.reg ≡ Some register
  pub named : Each (IsNamedIn b register) w.slots
  pub slots_apart : AllPairs HaveOtherViews w.slots
  pub few_words : w.number < 2 ^ 64
  pub short_path : length register.path < 2 ^ 64

pub record IsApart (b : Block) : Type 0 where
  pub words : (k : ℕ) (w : Word) → IsWordAt b k w → WordIsApart b w
  -- one register has one word of a number, at one address
  pub addresses : (j k : ℕ) (v w : Word) → IsWordAt b j v → IsWordAt b k w → v.reg ≡ w.reg → v.number ≡ w.number → j ≡ k
