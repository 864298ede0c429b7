-- Where a field's behaviour takes its values from, read off its settings (SystemRDL 2.0, 9.5 to 9.10).
use Rattle.std.specs.Prelude.{ℕ, ◌^◌, ◌-◌, Bool, true, not, ◌&&◌, ◌||◌, cond, List, [], ◌∷◌, Option, None, Some}
use Rattle.rdl_tree.specs.declared.item.Kind.{Kind}
use Rattle.rdl_tree.specs.declared.item.Kind.TheVariants as kind
use Rattle.rdl_props.specs.declared.prop.Prop.{Prop}
use Rattle.rdl_props.specs.declared.prop.Prop.TheVariants as prop
use Rattle.rdl_values.specs.Instances.{Instance, kind_of}
use Rattle.rdl_values.specs.Lineages.{Lineage, nodes_in}
use Rattle.rdl_layers.specs.Settings.{Meaning, flag, number, setting}
use Rattle.rdl_layers.specs.Phase4.{width_of}
use Rattle.rdl_layers.specs.Fields.{has, has_one_of, hardware_writes, is_counter, has_up, has_down}
use Rattle.rdl_refs.specs.declared.item.What.{What}
use Rattle.rdl_refs.specs.declared.item.What.TheVariants as what
use Rattle.rdl_refs.specs.Items.{Item, target}
use Rattle.rb_model.specs.declared.kinds.RefItem.{RefItem}
use Rattle.rb_model.specs.declared.kinds.RefItem.TheVariants as item
use Rattle.rb_model.specs.declared.kinds.Feed.{Feed}
use Rattle.rb_model.specs.declared.kinds.Feed.TheVariants as feed
use Rattle.rb_model.specs.declared.kinds.Gate.{Gate}
use Rattle.rb_model.specs.declared.kinds.Gate.TheVariants as gate
use Rattle.rb_model.specs.declared.kinds.Mask.{Mask}
use Rattle.rb_model.specs.declared.kinds.Mask.TheVariants as mask
use Rattle.rb_model.specs.declared.kinds.Amount.{Amount}
use Rattle.rb_model.specs.declared.kinds.Amount.TheVariants as amount
use Rattle.rb_model.specs.declared.kinds.Level.{Level}
use Rattle.rb_model.specs.declared.kinds.Level.TheVariants as level
use Rattle.rb_model.specs.declared.kinds.Part.{Part}
use Rattle.rb_model.specs.declared.kinds.Count.{Count}
use Rattle.rdl_rules.specs.Numbers.{number_of, all_signals, all_fields, registers}

-- an item of the field, or of the register, of a number
abbrev pub ref_of : What → ℕ → RefItem
ref_of what.Value n = item.Field n
ref_of what.Anded n = item.Anded n
ref_of what.Ored n = item.Ored n
ref_of what.Xored n = item.Xored n
ref_of what.IncrThreshold n = item.IncrThreshold n
ref_of what.DecrThreshold n = item.DecrThreshold n
ref_of what.Overflow n = item.Overflow n
ref_of what.Underflow n = item.Underflow n
ref_of what.SwMod n = item.SwMod n
ref_of what.SwAcc n = item.SwAcc n
ref_of what.Intr n = item.Intr n
ref_of what.Halt n = item.Halt n

abbrev pub ref_to : List Lineage → Item → RefItem
ref_to all i = go (kind_of i.node)
  where
    go : Kind → RefItem
    go kind.Signal = item.Signal (number_of i.node (all_signals (nodes_in all)))
    go kind.Field = ref_of i.what (number_of i.node (all_fields (nodes_in all)))
    go _ = ref_of i.what (number_of i.node (registers (nodes_in all)))

-- the item that a property names, if it names one
abbrev pub item_at : List Lineage → Instance → Prop → Option RefItem
item_at all n p = go (target all (setting n p))
  where
    go : List Item → Option RefItem
    go [] = None
    go (i ∷ is) = Some (ref_to all i)

-- a property that is true has a pin, one that names an item takes that
abbrev pub feed_at : List Lineage → Instance → Prop → Feed
feed_at all n p = go (setting n p) (item_at all n p)
  where
    go : Meaning → Option RefItem → Feed
    go (flag true) r = feed.Pin
    go m (Some r) = feed.Item r
    go m None = feed.Off

-- let through where the one is 1, or where the other is 0
abbrev pub gate_at : List Lineage → Instance → Prop → Prop → Gate
gate_at all n high low = cond (has high n) (gate.High (feed_at all n high)) (cond (has low n) (gate.Low (feed_at all n low)) gate.Always)

-- the bits that an enable lets through, or that a mask does not take
abbrev pub mask_at : List Lineage → Instance → Prop → Prop → Mask
mask_at all n enable masked = go (item_at all n enable) (item_at all n masked)
  where
    go : Option RefItem → Option RefItem → Mask
    go (Some r) m = mask.Enable r
    go None (Some r) = mask.Mask r
    go None None = mask.Off

-- Loading.

abbrev pub has_gate : Instance → Bool
has_gate f = has_one_of (prop.We ∷ prop.Wel ∷ []) f

-- hardware writes it; a counter is loaded under a gate alone
abbrev pub has_pin : Instance → Bool
has_pin f = hardware_writes f && (not (is_counter f) || has_gate f)

-- what it loads: the item of next, else its pin where it has one
abbrev pub source_of : List Lineage → Instance → Feed
source_of all f = go (item_at all f prop.Next)
  where
    go : Option RefItem → Feed
    go (Some r) = feed.Item r
    go None = cond (has_pin f) feed.Pin feed.Off

-- Counting.

-- a number or an item given, or this number where it is just true
abbrev pub level_at : List Lineage → Instance → Prop → ℕ → Option Level
level_at all f p plain = go (setting f p) (item_at all f p)
  where
    go : Meaning → Option RefItem → Option Level
    go (number n) r = Some (level.Number n)
    go (flag true) r = Some (level.Number plain)
    go m (Some r) = Some (level.Item r)
    go m None = None

abbrev pub level_or : Option Level → ℕ → Level
level_or None n = level.Number n
level_or (Some l) n = l

-- one without an item has a pin
abbrev pub pulse_at : List Lineage → Instance → Prop → Feed
pulse_at all f p = go (item_at all f p)
  where
    go : Option RefItem → Feed
    go (Some r) = feed.Item r
    go None = feed.Pin

-- the number or item given, else a pin of the width given, else 1
abbrev pub amount_at : List Lineage → Instance → Prop → Prop → Amount
amount_at all f value width = go (setting f value) (item_at all f value) (setting f width)
  where
    go : Meaning → Option RefItem → Meaning → Amount
    go (number n) r w = amount.Number n
    go m (Some r) w = amount.Item r
    go m None (number w) = amount.Pin w
    go m None w = amount.Number 1

abbrev pub part_at : List Lineage → Instance → Prop → Prop → Prop → Part
part_at all f pulse value width = record { pulse = pulse_at all f pulse; amount = amount_at all f value width }

abbrev pub when_some : {A : Type 0} → Bool → A → Option A
when_some test x = cond test (Some x) None

-- the greatest number of a field
abbrev pub ones_of : Instance → ℕ
ones_of f = 2 ^ width_of f - 1

abbrev pub count_of : List Lineage → Instance → Count
count_of all f = record {
  up = when_some (has_up f) (part_at all f prop.Incr prop.Incrvalue prop.Incrwidth);
  down = when_some (has_down f) (part_at all f prop.Decr prop.Decrvalue prop.Decrwidth);
  high = level_at all f prop.Incrsaturate (ones_of f);
  low = level_at all f prop.Decrsaturate 0;
  above = level_or (level_at all f prop.Incrthreshold (ones_of f)) (ones_of f);
  below = level_or (level_at all f prop.Decrthreshold 0) 0;
}
