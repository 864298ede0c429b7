-- The block of the first source, written down: one register with one field of 32 bits.
use Rattle.std.proofs.Common.{◌≡◌, ℕ, zero, suc, true, false, Some, None, List, [], ◌∷◌, codes, unwrap_or, refl, ap, subst, arith}
use Rattle.rb_model.specs.declared.kinds.RefItem.{RefItem}
use Rattle.rb_model.specs.declared.kinds.RefItem.TheVariants as item
use Rattle.rb_model.specs.declared.kinds.Class.TheVariants.{Storage}
use Rattle.rb_model.specs.declared.kinds.Feed.TheVariants as feed
use Rattle.rb_model.specs.declared.kinds.Gate.TheVariants as gate
use Rattle.rb_model.specs.declared.kinds.Mask.TheVariants as mask
use Rattle.rb_model.specs.declared.kinds.Latch.TheVariants as latch
use Rattle.rb_model.specs.declared.kinds.OnWrite.TheVariants as on_write
use Rattle.rb_model.specs.declared.kinds.OnRead.TheVariants as on_read
use Rattle.rb_model.specs.declared.block.Block.{Block}
use Rattle.rb_model.specs.declared.block.Field.{Field}
use Rattle.rb_model.specs.declared.block.View.{View}
use Rattle.rb_model.specs.declared.block.Word.{Word}
use Rattle.rb_model.specs.declared.block.Reg.{Reg}
use Rattle.rb_model.specs.References.{IsOrdered, StandsBefore, Each, refs}

-- software reads and writes it, hardware reads it, PRESETn resets it to 5
abbrev first_field : Field
first_field = record {
  path = codes "a$f";
  reg = 0;
  width = 32;
  reset = Some 5;
  reset_by = record { signal = None; low = true; sync = false };
  class = Storage;
  hw_writes = false;
  hw_reads = true;
  hw_first = false;
  source = feed.Off;
  gate = gate.Always;
  count = None;
  latch = latch.Off;
  set = feed.Off;
  clear = feed.Off;
  keep = mask.Off;
  pulse = false;
  once = false;
  enable = mask.Off;
  halt = mask.Off;
  shown = [];
}

abbrev first_view : View
first_view = record { path = codes "a$f"; field = 0; alias = false; reads = true; writes = true; once = false; on_write = on_write.Off; on_read = on_read.Off; gate = gate.Always }

abbrev first_word : Word
first_word = record { address = 0; width = 32; reg = 0; number = 0; slots = record { view = 0; low = 0; from = 0; bits = 32 } ∷ [] }

abbrev pub first : Block
first = record {
  name = codes "one";
  signals = [];
  fields = first_field ∷ [];
  views = first_view ∷ [];
  reads = first_word ∷ [];
  writes = first_word ∷ [];
  regs = record { path = codes "a"; alias = false; intr = false; halt = false } ∷ [];
  order = item.Field 0 ∷ item.Anded 0 ∷ item.Ored 0 ∷ item.Xored 0 ∷ item.SwMod 0 ∷ item.SwAcc 0 ∷ [];
  waits = 0;
}

at : (k : ℕ) (j i : RefItem) → Each (StandsBefore first.order k) (refs first j) → Some j ≡ Some i → Each (StandsBefore first.order k) (refs first i)
at k j i h e = let P : RefItem → Type 0 = λ i. Each (StandsBefore first.order k) (refs first i) in
    let same : j ≡ i = ap (λ o. unwrap_or o j) e in subst P same h

pub all_ordered : IsOrdered first first.order
all_ordered zero i h = at 0 (item.Field 0) i tt h
all_ordered (suc zero) i h = at 1 (item.Anded 0) i ((0, omega arith, refl), tt) h
all_ordered (suc (suc zero)) i h = at 2 (item.Ored 0) i ((0, omega arith, refl), tt) h
all_ordered (suc (suc (suc zero))) i h = at 3 (item.Xored 0) i ((0, omega arith, refl), tt) h
all_ordered (suc (suc (suc (suc zero)))) i h = at 4 (item.SwMod 0) i tt h
all_ordered (suc (suc (suc (suc (suc zero))))) i h = at 5 (item.SwAcc 0) i tt h
all_ordered (suc (suc (suc (suc (suc (suc k)))))) i h = cc
