-- A sound block is sound with any number of wait states that there are.
use Rattle.std.proofs.Common.{◌≡◌, ℕ, ◌≤◌, Option, None, Some, List, [], ◌∷◌, refl, sym, ◌∙◌, subst}
use Rattle.std.specs.List.{enumerate_from}
use Rattle.rb_model.specs.declared.kinds.RefItem.{RefItem}
use Rattle.rb_model.specs.declared.kinds.RefItem.TheVariants as item
use Rattle.rb_model.specs.declared.block.Block.{Block}
use Rattle.rb_model.specs.declared.block.Field.{Field}
use Rattle.rb_model.specs.declared.block.View.{View}
use Rattle.rb_model.specs.declared.block.Slot.{Slot}
use Rattle.rb_model.specs.declared.block.Word.{Word}
use Rattle.rb_model.specs.declared.block.Reg.{Reg}
use Rattle.rb_model.specs.References.{Each, WithSome, StandsBefore, refs, item_width, AreWide, AreWithin, IsOrdered}
use Rattle.rb_model.specs.Sound.{ViewIsSound, RegIsSound, SlotIsSound, StandTogether, WordIsSound, IsSound}
use Rattle.rb_model.specs.SoundField.{RefersWell, FieldIsSoundIn}
use Rattle.rdl_tree.specs.declared.item.Source.{Source}
use Rattle.rdl_rules.specs.Block.{IsBlockOf}
use Rattle.rdl_rules.specs.Waits.{with_waits}

each : {X : Type 0} (P Q : X → Type 0) (xs : List X) → ((x : X) → P x → Q x) → Each P xs → Each Q xs
each P Q [] f h = tt
each P Q (x ∷ xs) f h = (f x h.0, each P Q xs f h.1)

some : {X : Type 0} (P Q : X → Type 0) (o : Option X) → ((x : X) → P x → Q x) → WithSome o P → WithSome o Q
some P Q None f h = tt
some P Q (Some x) f h = f x h

module _ (waits : ℕ) (b : Block) where
  abbrev now : Block
  now = with_waits waits b

  same_width : (i : RefItem) → item_width now i ≡ item_width b i
  same_width (item.Field k) = refl
  same_width (item.Signal s) = refl
  same_width (item.Anded k) = refl
  same_width (item.Ored k) = refl
  same_width (item.Xored k) = refl
  same_width (item.IncrThreshold k) = refl
  same_width (item.DecrThreshold k) = refl
  same_width (item.Overflow k) = refl
  same_width (item.Underflow k) = refl
  same_width (item.SwMod k) = refl
  same_width (item.SwAcc k) = refl
  same_width (item.Intr r) = refl
  same_width (item.Halt r) = refl

  same_refs : (i : RefItem) → refs b i ≡ refs now i
  same_refs (item.Field k) = refl
  same_refs (item.Signal s) = refl
  same_refs (item.Anded k) = refl
  same_refs (item.Ored k) = refl
  same_refs (item.Xored k) = refl
  same_refs (item.IncrThreshold k) = refl
  same_refs (item.DecrThreshold k) = refl
  same_refs (item.Overflow k) = refl
  same_refs (item.Underflow k) = refl
  same_refs (item.SwMod k) = refl
  same_refs (item.SwAcc k) = refl
  same_refs (item.Intr r) = refl
  same_refs (item.Halt r) = refl

  wide : (w : ℕ) (is : List RefItem) → AreWide b w is → AreWide now w is
  wide w is h = each _ _ is (λ i c. (c.0, same_width i ∙ c.1)) h

  within : (w : ℕ) (is : List RefItem) → AreWithin b w is → AreWithin now w is
  within w is h = each _ _ is (λ i c. (c.0, subst (λ x. x ≤ w) (sym (same_width i)) c.1)) h

  ordered : (is : List RefItem) → IsOrdered b is → IsOrdered now is
  ordered is h = λ k i at. subst (λ rs. Each (StandsBefore is k) rs) (same_refs i) (h k i at)

  refers : (f : Field) → RefersWell b f → RefersWell now f
  refers f h = record {
    source = wide f.width _ h.source;
    masks = wide f.width _ h.masks;
    bits = wide 1 _ h.bits;
    pulses = some _ _ f.count (λ c both. (some _ _ c.up (λ p. wide 1 _) both.0, some _ _ c.down (λ p. wide 1 _) both.1)) h.pulses;
    amounts = some _ _ f.count (λ c both. (some _ _ c.up (λ p. within f.width _) both.0, some _ _ c.down (λ p. within f.width _) both.1)) h.amounts;
    levels = some _ _ f.count (λ c all. (some _ _ c.high (λ l. within f.width _) all.0, some _ _ c.low (λ l. within f.width _) all.1, within f.width _ all.2)) h.levels;
  }

  field : (f : ℕ × Field) → FieldIsSoundIn b f → FieldIsSoundIn now f
  field f h = record { alone = h.alone; refers = refers f.1 h.refers; in_register = h.in_register; reset_signal = h.reset_signal; one_view = h.one_view; class = h.class; once = h.once }

  view : (v : ℕ × View) → ViewIsSound b v → ViewIsSound now v
  view v h = record { of = h.of; gate_fed = h.gate_fed; gate_bit = wide 1 _ h.gate_bit; read_in_one_slot = h.read_in_one_slot; written_in_one_slot = h.written_in_one_slot }

  reg : (r : ℕ × Reg) → RegIsSound b r → RegIsSound now r
  reg r h = record { intr = h.intr; halt = h.halt }

  slot : (w : Word) (s : Slot) → SlotIsSound b w s → SlotIsSound now w s
  slot w s h = record { view = h.view; field = h.field; of_view = h.of_view; of_field = h.of_field; some_bit = h.some_bit; in_word = h.in_word; in_field = h.in_field; whole = h.whole }

  together : (s t : Slot) → StandTogether b s t → StandTogether now s t
  together s t h = record { one_view = h.one_view; one_reads = h.one_reads; one_writes = h.one_writes }

  word : (w : Word) → WordIsSound b w → WordIsSound now w
  word w h = record { wide = h.wide; in_register = h.in_register; slots = each _ _ w.slots (slot w) h.slots; together = λ i j d p q. together _ _ (h.together i j d p q) }

  pub sound : waits ≤ 1 → IsSound b → IsSound now
  sound few h = record {
    named = h.named;
    signals = h.signals;
    fields = each _ _ (enumerate_from 0 b.fields) field h.fields;
    views = each _ _ (enumerate_from 0 b.views) view h.views;
    regs = each _ _ (enumerate_from 0 b.regs) reg h.regs;
    reads = each _ _ b.reads word h.reads;
    writes = each _ _ b.writes word h.writes;
    some_word = h.some_word;
    by_address = h.by_address;
    same_addresses = h.same_addresses;
    signal_paths = h.signal_paths;
    field_paths = h.field_paths;
    view_paths = h.view_paths;
    reg_paths = h.reg_paths;
    waits = few;
    all_items = h.all_items;
    ordered = ordered b.order h.ordered;
  }

  pub block : (wanted : Option (List ℕ)) (s : Source) → IsBlockOf wanted s 0 b → IsBlockOf wanted s waits now
  block wanted s h = record {
    name = h.name;
    signals = h.signals;
    fields_ = h.fields_;
    views_ = h.views_;
    regs = h.regs;
    reads = h.reads;
    writes = h.writes;
    waits_ = refl;
    each_item = h.each_item;
    ordered = ordered b.order h.ordered;
  }
