-- The fields and views of a block, read off a source that breaks no rule.
use Rattle.std.specs.Prelude.{ℕ, Bool, true, false, not, ◌&&◌, cond, List, [], ◌∷◌, ◌++◌, map, flat_map, filter, Option, None, Some}
use Rattle.std.specs.List.{list_any}
use Rattle.rb_base.specs.declared.trigger.Trigger.TheVariants as trigger
use Rattle.rdl_base.specs.declared.keyword.Keyword.{Keyword}
use Rattle.rdl_base.specs.declared.keyword.Keyword.TheVariants as word
use Rattle.rdl_tree.specs.declared.item.Source.{Source}
use Rattle.rdl_tree.specs.declared.item.Kind.TheVariants as kind
use Rattle.rdl_props.specs.declared.prop.Prop.{Prop}
use Rattle.rdl_props.specs.declared.prop.Prop.TheVariants as prop
use Rattle.rdl_values.specs.Uses.{path_text, same_name}
use Rattle.rdl_values.specs.Instances.{Instance, children, signals}
use Rattle.rdl_values.specs.Lineages.{Lineage, child_of, nodes_in}
use Rattle.rdl_layers.specs.Settings.{Meaning, number, named, hard, intr, setting}
use Rattle.rdl_layers.specs.Phase4.{width_of}
use Rattle.rdl_layers.specs.Fields.{is_a, fields_of, has, reads, writes, is_once, hardware_writes, hardware_reads, is_alias, is_alias_of, views, is_wire, is_storage, is_counter}
use Rattle.rdl_refs.specs.Items.{target}
use Rattle.rb_model.specs.declared.kinds.Class.{Class}
use Rattle.rb_model.specs.declared.kinds.Class.TheVariants as class
use Rattle.rb_model.specs.declared.kinds.Latch.{Latch}
use Rattle.rb_model.specs.declared.kinds.Latch.TheVariants as latch
use Rattle.rb_model.specs.declared.kinds.OnWrite.{OnWrite}
use Rattle.rb_model.specs.declared.kinds.OnWrite.TheVariants as on_write
use Rattle.rb_model.specs.declared.kinds.OnRead.{OnRead}
use Rattle.rb_model.specs.declared.kinds.OnRead.TheVariants as on_read
use Rattle.rb_model.specs.declared.kinds.ResetBy.{ResetBy}
use Rattle.rb_model.specs.declared.kinds.Shown.{Shown}
use Rattle.rb_model.specs.declared.kinds.Shown.TheVariants as shown
use Rattle.rb_model.specs.declared.block.Field.{Field}
use Rattle.rb_model.specs.declared.block.View.{View}
use Rattle.rdl_rules.specs.Numbers.{Numbered, number_of, all_signals, all_fields, registers}
use Rattle.rdl_rules.specs.Feeds.{feed_at, gate_at, mask_at, source_of, count_of, when_some}

-- Resets (SystemRDL 2.0, 8.2.1): the field's own signal, else that of the nearest body round it, else the bus's.

abbrev pub is_field_reset : Instance → Bool
is_field_reset n = is_a kind.Signal n && has prop.FieldReset n

-- what stands in the bodies round a field from the nearest on, the root's last
abbrev pub nodes_round : Source → Lineage → List Instance
nodes_round s f = flat_map children f.ancestors ++ signals s

abbrev pub reset_signals : Source → List Lineage → Lineage → List Instance
reset_signals s all f = map (λ i. i.node) (target all (setting f.node prop.Resetsignal)) ++ filter is_field_reset (nodes_round s f)

-- a signal is active high and synchronous unless it is set otherwise
abbrev pub reset_by : Source → List Lineage → Lineage → ResetBy
reset_by s all f = go (reset_signals s all f)
  where
    go : List Instance → ResetBy
    go (n ∷ ns) = record { signal = Some (number_of n (all_signals (nodes_in all))); low = has prop.Activelow n; sync = not (has prop.Async n) }
    go [] = record { signal = None; low = true; sync = false }

abbrev pub reset_value : Instance → Option ℕ
reset_value f = go (setting f prop.Reset)
  where
    go : Meaning → Option ℕ
    go (number n) = Some n
    go _ = None

-- Kinds of fields.

abbrev pub class_of : List Instance → Instance → Class
class_of vs f = cond (is_wire vs f) class.Wire (cond (is_storage vs f) class.Storage class.Constant)

abbrev pub latch_of : Instance → Latch
latch_of f = go (setting f prop.Intr)
  where
    go : Meaning → Latch
    go (intr trigger.Nonsticky) = latch.Plain
    go (intr e) = cond (has prop.Sticky f) (latch.Whole e) (latch.Bits e)
    go _ = latch.Off

abbrev pub hardware_first : Meaning → Bool
hardware_first (hard b) = b
hardware_first _ = false

abbrev pub showing : List (Prop × Shown)
showing = (prop.Anded, shown.Anded) ∷ (prop.Ored, shown.Ored) ∷ (prop.Xored, shown.Xored) ∷ (prop.Incrthreshold, shown.IncrThreshold) ∷ (prop.Decrthreshold, shown.DecrThreshold) ∷ (prop.Overflow, shown.Overflow) ∷ (prop.Underflow, shown.Underflow) ∷ (prop.Swmod, shown.SwMod) ∷ (prop.Swacc, shown.SwAcc) ∷ []

-- the outputs of one bit that are set, and not to false
abbrev pub shown_of : Instance → List Shown
shown_of f = map (λ p. p.1) (filter (λ p. has p.0 f) showing)

-- a field of a register that is no alias
abbrev pub field_of : Source → List Lineage → Numbered Lineage → Instance → Field
field_of s all r f = record {
  path = path_text f.path;
  reg = r.number;
  width = width_of f;
  reset = reset_value f;
  reset_by = reset_by s all (child_of r.register f);
  class = class_of (views (nodes_in all) r.register.node f) f;
  hw_writes = hardware_writes f;
  hw_reads = hardware_reads f;
  hw_first = hardware_first (setting f prop.Precedence);
  source = source_of all f;
  gate = gate_at all f prop.We prop.Wel;
  count = when_some (is_counter f) (count_of all f);
  latch = latch_of f;
  set = feed_at all f prop.Hwset;
  clear = feed_at all f prop.Hwclr;
  keep = mask_at all f prop.Hwenable prop.Hwmask;
  pulse = has prop.Singlepulse f;
  once = list_any is_once (views (nodes_in all) r.register.node f);
  enable = mask_at all f prop.Enable prop.Mask;
  halt = mask_at all f prop.Haltenable prop.Haltmask;
  shown = shown_of f;
}

-- Views.

abbrev pub write_word : Keyword → OnWrite
write_word word.Woset = on_write.WoSet
write_word word.Woclr = on_write.WoClr
write_word word.Wot = on_write.WoT
write_word word.Wzs = on_write.WzS
write_word word.Wzc = on_write.WzC
write_word word.Wzt = on_write.WzT
write_word word.Wclr = on_write.WClr
write_word word.Wset = on_write.WSet
write_word _ = on_write.Off

abbrev pub on_write_of : Instance → OnWrite
on_write_of v = go (setting v prop.Onwrite)
  where
    go : Meaning → OnWrite
    go (named w) = write_word w
    go _ = cond (has prop.Woset v) on_write.WoSet (cond (has prop.Woclr v) on_write.WoClr on_write.Off)

abbrev pub read_word : Keyword → OnRead
read_word word.Rclr = on_read.RClr
read_word word.Rset = on_read.RSet
read_word _ = on_read.Off

abbrev pub on_read_of : Instance → OnRead
on_read_of v = go (setting v prop.Onread)
  where
    go : Meaning → OnRead
    go (named w) = read_word w
    go _ = cond (has prop.Rclr v) on_read.RClr (cond (has prop.Rset v) on_read.RSet on_read.Off)

-- the field that a register's field is a view of: itself, or in an alias the primary's field of its name
abbrev pub viewed : List Instance → Instance → Instance → List Instance
viewed all r v = cond (is_alias r) (filter (same_name_as v) (flat_map fields_of (filter (λ p. is_alias_of p r) (registers all)))) (v ∷ [])
  where
    same_name_as : Instance → Instance → Bool
    same_name_as v f = same_name v.use_.name f.use_.name

abbrev pub first_number : List Instance → List Instance → ℕ
first_number [] fields = 0
first_number (f ∷ fs) fields = number_of f fields

abbrev pub view_of : List Lineage → Instance → Instance → View
view_of all r v = record {
  path = path_text v.path;
  field = first_number (viewed (nodes_in all) r v) (all_fields (nodes_in all));
  alias = is_alias r;
  reads = reads v;
  writes = writes v;
  once = is_once v;
  on_write = on_write_of v;
  on_read = on_read_of v;
  gate = gate_at all v prop.Swwe prop.Swwel;
}
