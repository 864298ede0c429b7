-- What the definitions give for register blocks.
use Rattle.std.proofs.Common.{drop, take, ◌≡◌, ℕ, Bool, true, false, List, [], ◌∷◌, ◌++◌, refl, map, flat_map, filter, Option, None, Some, codes, arith}
use Rattle.std.proofs.lemmas.List.Sorted.{IsPermutation-refl}
use Rattle.std.specs.Fmt.{digits}
use Rattle.rb_base.specs.declared.trigger.Trigger.TheVariants as trigger
use Rattle.rb_model.specs.declared.block.Block.{Block}
use Rattle.rb_model.specs.declared.block.Field.{Field}
use Rattle.rb_model.specs.declared.block.Slot.{Slot}
use Rattle.rb_model.specs.declared.kinds.Amount.TheVariants as amount
use Rattle.rb_model.specs.declared.kinds.Class.TheVariants as class
use Rattle.rb_model.specs.declared.kinds.Feed.{Feed}
use Rattle.rb_model.specs.declared.kinds.Feed.TheVariants as feed
use Rattle.rb_model.specs.declared.kinds.Gate.{Gate}
use Rattle.rb_model.specs.declared.kinds.Gate.TheVariants as gate
use Rattle.rb_model.specs.declared.kinds.Latch.{Latch}
use Rattle.rb_model.specs.declared.kinds.Latch.TheVariants as latch
use Rattle.rb_model.specs.declared.kinds.Level.TheVariants as level
use Rattle.rb_model.specs.declared.kinds.Mask.{Mask}
use Rattle.rb_model.specs.declared.kinds.Mask.TheVariants as mask
use Rattle.rb_model.specs.declared.kinds.OnRead.{OnRead}
use Rattle.rb_model.specs.declared.kinds.OnRead.TheVariants as on_read
use Rattle.rb_model.specs.declared.kinds.OnWrite.{OnWrite}
use Rattle.rb_model.specs.declared.kinds.OnWrite.TheVariants as on_write
use Rattle.rb_model.specs.declared.kinds.RefItem.TheVariants as item
use Rattle.rb_model.specs.declared.kinds.ResetBy.{ResetBy}
use Rattle.rb_model.specs.declared.kinds.Shown.TheVariants as shown
use Rattle.rb_model.specs.Ports.{ports}
use Rattle.rb_model.specs.Sound.{IsSound}
use Rattle.rdl_verdict_laws.proofs.FirstBlock.{first, all_ordered}
use Rattle.rdl_tree.specs.declared.expr.Path.{roll-Path}
use Rattle.rdl_tree.specs.declared.item.Source.{Source}
use Rattle.rdl_props.specs.Table.{reference_props, props}
use Rattle.rdl_values.specs.Instances.{nodes}
use Rattle.rdl_values.specs.Lineages.{lineages}
use Rattle.rdl_values.specs.Phase3.{failures3}
use Rattle.rdl_layers.specs.Phase4.{failures4}
use Rattle.rdl_addr.specs.Rules.{failures_ab, all_groups, registers}
use Rattle.rdl_rules.specs.Phase5.{failures5}
use Rattle.rdl_rules.specs.Phase6.{failures6}
use Rattle.rdl_base.specs.declared.fault.Fault.{Fault}
use Rattle.rdl_rules.specs.Block.{IsBlockOf, signal_of, fields, views, reg_of}
use Rattle.rdl_rules.specs.Numbers as numbers
use Rattle.rdl_rules.specs.Words.{read_words, write_words}
use Rattle.rdl_verdict_laws.proofs.AddressesSources.{read_and_write}
use Rattle.rdl_verdict_laws.proofs.BlockSources.{one_register, serial_port, wide_register, many_resets, root_reset, counters, locked, cleared_by_a_read, with_alias, many_kinds}
use Rattle.rdl_layers.specs.Settings.{setting}
use Rattle.rdl_refs.specs.Items.{failures_r, items}
use Rattle.rdl_refs.specs.Leads.{led_to}
use Rattle.rdl_addr.specs.Layout.{layout}

-- All of them break no rule (that none of their references runs in a circle is not computed here).

abbrev failing : Source → List Fault
failing s = failures3 None s ++ failures4 None s ++ failures5 None s ++ failures6 None s

clean_sources : flat_map failing (one_register ∷ serial_port ∷ wide_register ∷ many_resets ∷ root_reset ∷ counters ∷ locked ∷ cleared_by_a_read ∷ with_alias ∷ many_kinds ∷ read_and_write ∷ []) ≡ []
unfolding nodes lineages setting items led_to layout all_groups failures3 failures4 failures_ab failures_r failures6 digits props reference_props roll-Path denote.Hole.Carrier.roll Rattle.rdl_tree.specs.declared.expr.Expr.TheBlock.hidden-the_row-Step-1 denote.Hole.Carrier.hidden Rattle.rdl_tree.specs.declared.item.Item.TheBlock.hidden-the_row-Item-0
clean_sources = refl

-- The first source.

-- its block is the one that was written down
first_block : IsBlockOf None one_register 0 first
unfolding nodes lineages setting items led_to layout all_groups failures3 failures4 failures_ab failures_r failures6 digits props reference_props roll-Path denote.Hole.Carrier.roll Rattle.rdl_tree.specs.declared.expr.Expr.TheBlock.hidden-the_row-Step-1 denote.Hole.Carrier.hidden Rattle.rdl_tree.specs.declared.item.Item.TheBlock.hidden-the_row-Item-0
first_block = record {
  name = refl;
  signals = refl;
  fields_ = refl;
  views_ = refl;
  regs = refl;
  reads = record { same = IsPermutation-refl _; rising = λ k below. absurd (omega arith) };
  writes = record { same = IsPermutation-refl _; rising = λ k below. absurd (omega arith) };
  waits_ = refl;
  each_item = IsPermutation-refl _;
  ordered = all_ordered;
}

-- Fields and words of further sources.

abbrev fields_in : Source → List Field
fields_in s = fields s (lineages None s)

abbrev slot : ℕ → ℕ → ℕ → ℕ → Slot
slot view low from bits = record { view = view; low = low; from = from; bits = bits }

abbrev reset : Option ℕ → Bool → Bool → ResetBy
reset signal low sync = record { signal = signal; low = low; sync = sync }

-- the bits of a field that lies in two words, and of one beside it
slots_of_two_words : map {B = ℕ × List Slot} (λ w. (w.address, w.slots)) (read_words (registers None wide_register)) ≡ (0x10, slot 0 20 0 12 ∷ slot 1 0 0 20 ∷ []) ∷ (0x14, slot 0 0 12 8 ∷ []) ∷ []
unfolding nodes lineages setting items led_to layout all_groups failures3 failures4 failures_ab failures_r failures6 digits props reference_props roll-Path denote.Hole.Carrier.roll Rattle.rdl_tree.specs.declared.expr.Expr.TheBlock.hidden-the_row-Step-1 denote.Hole.Carrier.hidden Rattle.rdl_tree.specs.declared.item.Item.TheBlock.hidden-the_row-Item-0
slots_of_two_words = refl

-- at a shared address a read reaches the read-only register
reads_at_a_shared_address : map (λ w. w.reg) (read_words (registers None read_and_write)) ≡ 0 ∷ []
unfolding nodes lineages setting items led_to layout all_groups failures3 failures4 failures_ab failures_r failures6 digits props reference_props roll-Path denote.Hole.Carrier.roll Rattle.rdl_tree.specs.declared.expr.Expr.TheBlock.hidden-the_row-Step-1 denote.Hole.Carrier.hidden Rattle.rdl_tree.specs.declared.item.Item.TheBlock.hidden-the_row-Item-0
reads_at_a_shared_address = refl

-- and a write the write-only one
writes_at_a_shared_address : map (λ w. w.reg) (write_words (registers None read_and_write)) ≡ 1 ∷ []
unfolding nodes lineages setting items led_to layout all_groups failures3 failures4 failures_ab failures_r failures6 digits props reference_props roll-Path denote.Hole.Carrier.roll Rattle.rdl_tree.specs.declared.expr.Expr.TheBlock.hidden-the_row-Step-1 denote.Hole.Carrier.hidden Rattle.rdl_tree.specs.declared.item.Item.TheBlock.hidden-the_row-Item-0
writes_at_a_shared_address = refl

-- the nearest signal with field_reset, a signal of its own, and one that is synchronous since async is false
reset_signals : map (λ f. f.reset_by) (fields_in many_resets) ≡ reset (Some 2) false true ∷ reset (Some 1) false true ∷ reset (Some 3) true true ∷ []
unfolding nodes lineages setting items led_to layout all_groups failures3 failures4 failures_ab failures_r failures6 digits props reference_props roll-Path denote.Hole.Carrier.roll Rattle.rdl_tree.specs.declared.expr.Expr.TheBlock.hidden-the_row-Step-1 denote.Hole.Carrier.hidden Rattle.rdl_tree.specs.declared.item.Item.TheBlock.hidden-the_row-Item-0
reset_signals = refl

-- a signal at the root, active low and asynchronous
reset_at_the_root : map (λ f. f.reset_by) (fields_in root_reset) ≡ reset (Some 0) true false ∷ []
unfolding nodes lineages setting items led_to layout all_groups failures3 failures4 failures_ab failures_r failures6 digits props reference_props roll-Path denote.Hole.Carrier.roll Rattle.rdl_tree.specs.declared.expr.Expr.TheBlock.hidden-the_row-Step-1 denote.Hole.Carrier.hidden Rattle.rdl_tree.specs.declared.item.Item.TheBlock.hidden-the_row-Item-0
reset_at_the_root = refl

-- what two counters count by, where they stop, and their thresholds
counts : map (λ f. f.count) (fields_in counters) ≡ None ∷ Some (record { up = Some (record { pulse = feed.Pin; amount = amount.Pin 3 }); down = Some (record { pulse = feed.Pin; amount = amount.Number 2 }); high = Some (level.Number 15); low = Some (level.Number 1); above = level.Number 9; below = level.Number 0 }) ∷ Some (record { up = Some (record { pulse = feed.Pin; amount = amount.Item (item.Field 0) }); down = Some (record { pulse = feed.Item (item.Ored 0); amount = amount.Number 1 }); high = Some (level.Item (item.Field 0)); low = None; above = level.Number 15; below = level.Number 0 }) ∷ []
unfolding nodes lineages setting items led_to layout all_groups failures3 failures4 failures_ab failures_r failures6 digits props reference_props roll-Path denote.Hole.Carrier.roll Rattle.rdl_tree.specs.declared.expr.Expr.TheBlock.hidden-the_row-Step-1 denote.Hole.Carrier.hidden Rattle.rdl_tree.specs.declared.item.Item.TheBlock.hidden-the_row-Item-0
counts = refl

-- a counter shows what is set, in the order of the ports
counters_show : map (λ f. f.shown) (fields_in counters) ≡ [] ∷ (shown.IncrThreshold ∷ shown.Overflow ∷ []) ∷ [] ∷ []
unfolding nodes lineages setting items led_to layout all_groups failures3 failures4 failures_ab failures_r failures6 digits props reference_props roll-Path denote.Hole.Carrier.roll Rattle.rdl_tree.specs.declared.expr.Expr.TheBlock.hidden-the_row-Step-1 denote.Hole.Carrier.hidden Rattle.rdl_tree.specs.declared.item.Item.TheBlock.hidden-the_row-Item-0
counters_show = refl

-- a counter loads its pin under a gate alone
counters_load : map {B = Feed × Gate} (λ f. (f.source, f.gate)) (fields_in counters) ≡ (feed.Off, gate.Always) ∷ (feed.Off, gate.Always) ∷ (feed.Pin, gate.High feed.Pin) ∷ []
unfolding nodes lineages setting items led_to layout all_groups failures3 failures4 failures_ab failures_r failures6 digits props reference_props roll-Path denote.Hole.Carrier.roll Rattle.rdl_tree.specs.declared.expr.Expr.TheBlock.hidden-the_row-Step-1 denote.Hole.Carrier.hidden Rattle.rdl_tree.specs.declared.item.Item.TheBlock.hidden-the_row-Item-0
counters_load = refl

-- the fields of the serial port: two are wires
serial_port_classes : map (λ f. f.class) (fields_in serial_port) ≡ class.Storage ∷ class.Storage ∷ class.Storage ∷ class.Storage ∷ class.Wire ∷ class.Wire ∷ class.Storage ∷ class.Storage ∷ class.Storage ∷ class.Storage ∷ class.Storage ∷ []
unfolding nodes lineages setting items led_to layout all_groups failures3 failures4 failures_ab failures_r failures6 digits props reference_props roll-Path denote.Hole.Carrier.roll Rattle.rdl_tree.specs.declared.expr.Expr.TheBlock.hidden-the_row-Step-1 denote.Hole.Carrier.hidden Rattle.rdl_tree.specs.declared.item.Item.TheBlock.hidden-the_row-Item-0
serial_port_classes = refl

-- its interrupt keeps each bit from a rising edge on, and is enabled by a field
serial_port_interrupt : map {B = Latch × Mask} (λ f. (f.latch, f.enable)) (filter (λ f. f.hw_writes) (fields_in serial_port)) ≡ (latch.Off, mask.Off) ∷ (latch.Off, mask.Off) ∷ (latch.Bits trigger.Posedge, mask.Enable (item.Field 7)) ∷ []
unfolding nodes lineages setting items led_to layout all_groups failures3 failures4 failures_ab failures_r failures6 digits props reference_props roll-Path denote.Hole.Carrier.roll Rattle.rdl_tree.specs.declared.expr.Expr.TheBlock.hidden-the_row-Step-1 denote.Hole.Carrier.hidden Rattle.rdl_tree.specs.declared.item.Item.TheBlock.hidden-the_row-Item-0
serial_port_interrupt = refl

-- its words in turn
serial_port_words : map {B = ℕ × List Slot} (λ w. (w.address, w.slots)) (read_words (registers None serial_port)) ≡ (0, slot 0 0 0 2 ∷ slot 1 2 0 1 ∷ slot 2 3 0 1 ∷ slot 3 8 0 1 ∷ []) ∷ (4, slot 4 0 0 1 ∷ slot 5 8 0 5 ∷ []) ∷ (8, slot 6 0 0 4 ∷ []) ∷ (0xC, slot 7 0 0 4 ∷ []) ∷ (0x10, slot 8 0 0 8 ∷ []) ∷ (0x14, slot 9 0 0 16 ∷ []) ∷ (0x18, slot 10 0 0 16 ∷ []) ∷ []
unfolding nodes lineages setting items led_to layout all_groups failures3 failures4 failures_ab failures_r failures6 digits props reference_props roll-Path denote.Hole.Carrier.roll Rattle.rdl_tree.specs.declared.expr.Expr.TheBlock.hidden-the_row-Step-1 denote.Hole.Carrier.hidden Rattle.rdl_tree.specs.declared.item.Item.TheBlock.hidden-the_row-Item-0
serial_port_words = refl

-- a write to a field is let through where the lock is 0
lock_gates_a_view : map (λ v. v.gate) (views (lineages None locked)) ≡ gate.Always ∷ gate.Low (feed.Item (item.Field 0)) ∷ []
unfolding nodes lineages setting items led_to layout all_groups failures3 failures4 failures_ab failures_r failures6 digits props reference_props roll-Path denote.Hole.Carrier.roll Rattle.rdl_tree.specs.declared.expr.Expr.TheBlock.hidden-the_row-Step-1 denote.Hole.Carrier.hidden Rattle.rdl_tree.specs.declared.item.Item.TheBlock.hidden-the_row-Item-0
lock_gates_a_view = refl

-- what a read and a write do, and which view is written once
views_act : map {B = OnRead × OnWrite × Bool} (λ v. (v.on_read, v.on_write, v.once)) (views (lineages None cleared_by_a_read)) ≡ (on_read.RClr, on_write.Off, false) ∷ (on_read.Off, on_write.WoT, true) ∷ []
unfolding nodes lineages setting items led_to layout all_groups failures3 failures4 failures_ab failures_r failures6 digits props reference_props roll-Path denote.Hole.Carrier.roll Rattle.rdl_tree.specs.declared.expr.Expr.TheBlock.hidden-the_row-Step-1 denote.Hole.Carrier.hidden Rattle.rdl_tree.specs.declared.item.Item.TheBlock.hidden-the_row-Item-0
views_act = refl

-- precedence = hw
hardware_has_the_last_word : map (λ f. f.hw_first) (fields_in cleared_by_a_read) ≡ true ∷ false ∷ []
unfolding nodes lineages setting items led_to layout all_groups failures3 failures4 failures_ab failures_r failures6 digits props reference_props roll-Path denote.Hole.Carrier.roll Rattle.rdl_tree.specs.declared.expr.Expr.TheBlock.hidden-the_row-Step-1 denote.Hole.Carrier.hidden Rattle.rdl_tree.specs.declared.item.Item.TheBlock.hidden-the_row-Item-0
hardware_has_the_last_word = refl

-- an alias has a view of the field of its name, and no field of its own
alias_has_views_alone : map {B = List ℕ × ℕ × Bool} (λ v. (v.path, v.field, v.alias)) (views (lineages None with_alias)) ≡ (codes "p$e", 0, false) ∷ (codes "s$e", 0, true) ∷ []
unfolding nodes lineages setting items led_to layout all_groups failures3 failures4 failures_ab failures_r failures6 digits props reference_props roll-Path denote.Hole.Carrier.roll Rattle.rdl_tree.specs.declared.expr.Expr.TheBlock.hidden-the_row-Step-1 denote.Hole.Carrier.hidden Rattle.rdl_tree.specs.declared.item.Item.TheBlock.hidden-the_row-Item-0
alias_has_views_alone = refl

-- a field that an alias writes once is kept track of
written_once_through_an_alias : map {B = List ℕ × Bool} (λ f. (f.path, f.once)) (fields_in with_alias) ≡ (codes "p$e", true) ∷ []
unfolding nodes lineages setting items led_to layout all_groups failures3 failures4 failures_ab failures_r failures6 digits props reference_props roll-Path denote.Hole.Carrier.roll Rattle.rdl_tree.specs.declared.expr.Expr.TheBlock.hidden-the_row-Step-1 denote.Hole.Carrier.hidden Rattle.rdl_tree.specs.declared.item.Item.TheBlock.hidden-the_row-Item-0
written_once_through_an_alias = refl

-- the interrupt is the primary register's
alias_has_no_interrupt : map {B = Bool × Bool} (λ r. (r.alias, r.intr)) (map reg_of (numbers.registers (nodes None with_alias))) ≡ (false, true) ∷ (true, false) ∷ []
unfolding nodes lineages setting items led_to layout all_groups failures3 failures4 failures_ab failures_r failures6 digits props reference_props roll-Path denote.Hole.Carrier.roll Rattle.rdl_tree.specs.declared.expr.Expr.TheBlock.hidden-the_row-Step-1 denote.Hole.Carrier.hidden Rattle.rdl_tree.specs.declared.item.Item.TheBlock.hidden-the_row-Item-0
alias_has_no_interrupt = refl

-- ten kinds of fields, four of them with a second view: what hardware clears, what an alias writes or clears, and what keeps
-- nothing of its own is told apart
many_classes : map (λ f. f.class) (fields_in many_kinds) ≡ class.Storage ∷ class.Storage ∷ class.Wire ∷ class.Storage ∷ class.Storage ∷ class.Storage ∷ class.Storage ∷ class.Storage ∷ class.Wire ∷ class.Storage ∷ []
unfolding nodes lineages setting items led_to layout all_groups failures3 failures4 failures_ab failures_r failures6 digits props reference_props roll-Path denote.Hole.Carrier.roll Rattle.rdl_tree.specs.declared.expr.Expr.TheBlock.hidden-the_row-Step-1 denote.Hole.Carrier.hidden Rattle.rdl_tree.specs.declared.item.Item.TheBlock.hidden-the_row-Item-0
many_classes = refl

-- its words of 16 bits: two views of a field, and two fields at one place of which one is read and one written
many_words : map {B = ℕ × List Slot} (λ w. (w.address, w.slots)) (take 4 (read_words (registers None many_kinds))) ≡ (0, slot 0 0 0 4 ∷ slot 1 4 0 4 ∷ slot 2 8 0 4 ∷ slot 3 12 0 4 ∷ []) ∷ (2, slot 4 0 0 4 ∷ slot 5 4 0 1 ∷ slot 6 5 0 1 ∷ slot 7 6 0 2 ∷ slot 8 8 0 4 ∷ slot 9 8 0 4 ∷ []) ∷ (4, []) ∷ (6, []) ∷ []
unfolding nodes lineages setting items led_to layout all_groups failures3 failures4 failures_ab failures_r failures6 digits props reference_props roll-Path denote.Hole.Carrier.roll Rattle.rdl_tree.specs.declared.expr.Expr.TheBlock.hidden-the_row-Step-1 denote.Hole.Carrier.hidden Rattle.rdl_tree.specs.declared.item.Item.TheBlock.hidden-the_row-Item-0
many_words = refl

-- the parts of a block that ports come from
abbrev shape_of : Source → Block
shape_of s = record { name = []; signals = map signal_of (numbers.all_signals (nodes None s)); fields = fields_in s; views = views (lineages None s); reads = []; writes = []; regs = map reg_of (numbers.registers (nodes None s)); order = []; waits = 0 }

-- the ports of its fields and registers stand behind the ten of the bus
serial_port_ports : map (λ p. p.name) (drop 10 (ports (shape_of serial_port))) ≡ codes "out$ctrl$parity" ∷ codes "out$ctrl$stop2" ∷ codes "out$ctrl$loopback" ∷ codes "out$ctrl$flush" ∷ codes "in$status$busy" ∷ codes "in$status$level_" ∷ codes "in$isr$ev" ∷ codes "out$ier$en" ∷ codes "incr$stats$errors" ∷ codes "out$stats$errors" ∷ codes "out$baud$0$div" ∷ codes "swmod$baud$0$div" ∷ codes "out$baud$1$div" ∷ codes "swmod$baud$1$div" ∷ codes "intr$isr" ∷ []
unfolding nodes lineages setting items led_to layout all_groups failures3 failures4 failures_ab failures_r failures6 digits props reference_props roll-Path denote.Hole.Carrier.roll Rattle.rdl_tree.specs.declared.expr.Expr.TheBlock.hidden-the_row-Step-1 denote.Hole.Carrier.hidden Rattle.rdl_tree.specs.declared.item.Item.TheBlock.hidden-the_row-Item-0
serial_port_ports = refl
