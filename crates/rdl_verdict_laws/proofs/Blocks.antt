-- The block that a tree describes does not depend on addresses.
use Rattle.std.specs.List.{list_any}
use Rattle.std.proofs.Common.{◌≡◌, ℕ, ◌+◌, ◌-◌, ◌*◌, ◌/◌, ◌^◌, ◌==◌, Bool, true, false, not, ◌&&◌, ◌||◌, cond, refl, sym, ap, ◌∙◌, subst, List, [], ◌∷◌, ◌++◌, map, flat_map, filter, Option, Some, None}
use Rattle.std.proofs.lemmas.List.{map-append}
use Rattle.rb_base.specs.declared.trigger.Trigger.TheVariants as trigger
use Rattle.rb_model.specs.declared.block.Block.{Block}
use Rattle.rb_model.specs.declared.block.Field.{Field}
use Rattle.rb_model.specs.declared.block.View.{View}
use Rattle.rb_model.specs.declared.kinds.Amount.{Amount}
use Rattle.rb_model.specs.declared.kinds.Amount.TheVariants as amount
use Rattle.rb_model.specs.declared.kinds.Class.TheVariants as class
use Rattle.rb_model.specs.declared.kinds.Feed.{Feed}
use Rattle.rb_model.specs.declared.kinds.Feed.TheVariants as feed
use Rattle.rb_model.specs.declared.kinds.Gate.TheVariants as gate
use Rattle.rb_model.specs.declared.kinds.Latch.{Latch}
use Rattle.rb_model.specs.declared.kinds.Latch.TheVariants as latch
use Rattle.rb_model.specs.declared.kinds.Level.{Level}
use Rattle.rb_model.specs.declared.kinds.Level.TheVariants as level
use Rattle.rb_model.specs.declared.kinds.Mask.{Mask}
use Rattle.rb_model.specs.declared.kinds.Mask.TheVariants as mask
use Rattle.rb_model.specs.declared.kinds.OnRead.{OnRead}
use Rattle.rb_model.specs.declared.kinds.OnRead.TheVariants as on_read
use Rattle.rb_model.specs.declared.kinds.OnWrite.{OnWrite}
use Rattle.rb_model.specs.declared.kinds.OnWrite.TheVariants as on_write
use Rattle.rb_model.specs.declared.kinds.RefItem.{RefItem}
use Rattle.rb_model.specs.declared.kinds.RefItem.TheVariants as item
use Rattle.rb_model.specs.declared.kinds.ResetBy.{ResetBy}
use Rattle.rb_model.specs.declared.kinds.Shown.{Shown}
use Rattle.rdl_tree.specs.declared.item.Kind.{Kind}
use Rattle.rdl_tree.specs.declared.item.Kind.TheVariants as kind
use Rattle.rdl_tree.specs.declared.item.Source.{Source}
use Rattle.rdl_verdict_laws.specs.Plain.{plain_source}
use Rattle.rdl_props.specs.declared.prop.Prop.{Prop}
use Rattle.rdl_props.specs.declared.prop.Prop.TheVariants as prop
use Rattle.rdl_values.specs.Bodies.{same_name}
use Rattle.rdl_values.specs.Instances.{Instance, children, signals, kind_of, top_of, nodes, upto}
use Rattle.rdl_values.specs.Lineages.{Lineage, child_of, lineages, nodes_in}
use Rattle.rdl_values.specs.Paths.{path_text}
use Rattle.rdl_verdict_laws.specs.PlainInstances.{plain_instance, plain_lineage}
use Rattle.rdl_verdict_laws.proofs.Lists.{map_id, map_to, flat_under, flat_same, filter_under, any_same}
use Rattle.rdl_verdict_laws.proofs.Instances.{children-plain, signals-plain, top-plain, nodes-plain, lineages-plain}
use Rattle.rdl_layers.specs.Fields.{is_a, fields_of, has, is_once, is_alias, is_alias_of, views, is_interrupt}
use Rattle.rdl_layers.specs.Forms.{Meaning, flag, number, named, intr}
use Rattle.rdl_layers.specs.Phase4.{number_at}
use Rattle.rdl_layers.specs.Settings.{setting}
use Rattle.rdl_verdict_laws.proofs.Meanings.{tested}
use Rattle.rdl_verdict_laws.proofs.Fields.{tests, fields-plain, has-plain, one_of-plain, reads-plain, writes-plain, once-plain, hardware_writes-plain, hardware_reads-plain, alias-plain, alias_of-plain, views-plain, wire-plain, storage-plain, up-plain, down-plain, number_at-plain, width-plain}
use Rattle.rdl_addr.specs.Bits.{Bits, bits_of}
use Rattle.rdl_addr.specs.Layout.{Placed}
use Rattle.rdl_addr.specs.Rules as addr
use Rattle.rdl_verdict_laws.specs.PlainPlaces.{plain_bits, plain_placed}
use Rattle.rdl_verdict_laws.proofs.Placing.{bits-plain}
use Rattle.rdl_verdict_laws.proofs.Rules as addr_laws
use Rattle.rdl_refs.specs.declared.item.What.{What}
use Rattle.rdl_refs.specs.Items.{Item, target}
use Rattle.rdl_verdict_laws.specs.PlainItems.{plain_item}
use Rattle.rdl_verdict_laws.proofs.References.{nodes_in-plain}
use Rattle.rdl_rules.specs.Block.{signal_of, numbered_registers, fields, halts, reg_of, IsBlockOf}
use Rattle.rdl_rules.specs.Block as block
use Rattle.rdl_rules.specs.Feeds.{ref_of, ref_to, item_at, feed_at, gate_at, mask_at, has_pin, source_of, level_at, level_or, pulse_at, amount_at, part_at, when_some, ones_of, count_of}
use Rattle.rdl_rules.specs.Fields.{is_field_reset, nodes_round, reset_signals, reset_by, reset_value, class_of, latch_of, showing, shown_of, field_of, write_word, on_write_of, read_word, on_read_of, viewed, first_number, view_of}
use Rattle.rdl_rules.specs.Numbers.{number_of, all_signals, registers, all_fields, Numbered, numbered}
use Rattle.rdl_rules.specs.Words.{slots_from, slot, word_of, words_of, shares_with, words_but, read_words, write_words, AreByAddress}
use Rattle.rdl_verdict_laws.specs.PlainRegisters.{plain_numbered}
use Rattle.rdl_verdict_laws.proofs.Counted.{number-plain, registers-plain, all_fields-plain, numbered-plain}
use Rattle.rdl_verdict_laws.proofs.Counted as counted
use Rattle.rdl_verdict_laws.proofs.Meaning.{interrupt-plain, counter-plain, first-plain, resets-plain, target_of-plain}

-- Items by their numbers.

abbrev ref_by : What → ℕ → ℕ → ℕ → Kind → RefItem
ref_by w a b c kind.Signal = item.Signal a
ref_by w a b c kind.Field = ref_of w b
ref_by w a b c _ = ref_of w c

is_ref_by : (all : List Lineage) (i : Item) → ref_to all i ≡ ref_by i.what (number_of i.node (all_signals (nodes_in all))) (number_of i.node (all_fields (nodes_in all))) (number_of i.node (registers (nodes_in all))) (kind_of i.node)
is_ref_by all i = refl

signal_number : (all : List Lineage) (n : Instance) → number_of (plain_instance n) (all_signals (nodes_in (map plain_lineage all))) ≡ number_of n (all_signals (nodes_in all))
signal_number all n = ap (λ ns. number_of (plain_instance n) (all_signals ns)) (nodes_in-plain all) ∙ ap (number_of (plain_instance n)) (counted.signals-plain (nodes_in all)) ∙ number-plain n (all_signals (nodes_in all))

field_number : (all : List Lineage) (n : Instance) → number_of (plain_instance n) (all_fields (nodes_in (map plain_lineage all))) ≡ number_of n (all_fields (nodes_in all))
field_number all n = ap (λ ns. number_of (plain_instance n) (all_fields ns)) (nodes_in-plain all) ∙ ap (number_of (plain_instance n)) (all_fields-plain (nodes_in all)) ∙ number-plain n (all_fields (nodes_in all))

register_number : (all : List Lineage) (n : Instance) → number_of (plain_instance n) (registers (nodes_in (map plain_lineage all))) ≡ number_of n (registers (nodes_in all))
register_number all n = ap (λ ns. number_of (plain_instance n) (registers ns)) (nodes_in-plain all) ∙ ap (number_of (plain_instance n)) (registers-plain (nodes_in all)) ∙ number-plain n (registers (nodes_in all))

ref-plain : (all : List Lineage) (i : Item) → ref_to (map plain_lineage all) (plain_item i) ≡ ref_to all i
ref-plain all i = is_ref_by (map plain_lineage all) (plain_item i) ∙ (λ j. ref_by i.what (signal_number all i.node j) (field_number all i.node j) (register_number all i.node j) (kind_of i.node)) ∙ sym (is_ref_by all i)

abbrev first_ref : List Lineage → List Item → Option RefItem
first_ref all [] = None
first_ref all (i ∷ is) = Some (ref_to all i)

first_ref-plain : (all : List Lineage) (is : List Item) → first_ref (map plain_lineage all) (map plain_item is) ≡ first_ref all is
first_ref-plain all [] = refl
first_ref-plain all (i ∷ is) = ap Some (ref-plain all i)

is_first_ref : (all : List Lineage) (n : Instance) (p : Prop) → item_at all n p ≡ first_ref all (target all (setting n p))
is_first_ref all n p = refl

at-plain : (all : List Lineage) (n : Instance) (p : Prop) → item_at (map plain_lineage all) (plain_instance n) p ≡ item_at all n p
at-plain all n p = is_first_ref (map plain_lineage all) (plain_instance n) p ∙ ap (first_ref (map plain_lineage all)) (target_of-plain all n p) ∙ first_ref-plain all (target all (setting n p)) ∙ sym (is_first_ref all n p)

-- Feeds.

abbrev feed_by : Meaning → Option RefItem → Feed
feed_by (flag true) r = feed.Pin
feed_by m (Some r) = feed.Item r
feed_by m None = feed.Off

feed_same : (n : Instance) (p : Prop) (r : Option RefItem) → feed_by (setting (plain_instance n) p) r ≡ feed_by (setting n p) r
feed_same n p r = tests (λ m. feed_by m r) (tested (λ m. feed_by m r) (λ n s. refl) (λ p n s q. refl)) n p

is_feed_by : (all : List Lineage) (n : Instance) (p : Prop) → feed_at all n p ≡ feed_by (setting n p) (item_at all n p)
is_feed_by all n p = refl

feed-plain : (all : List Lineage) (n : Instance) (p : Prop) → feed_at (map plain_lineage all) (plain_instance n) p ≡ feed_at all n p
feed-plain all n p = is_feed_by (map plain_lineage all) (plain_instance n) p ∙ ap (feed_by (setting (plain_instance n) p)) (at-plain all n p) ∙ feed_same n p (item_at all n p) ∙ sym (is_feed_by all n p)

gate-plain : (all : List Lineage) (n : Instance) (p q : Prop) → gate_at (map plain_lineage all) (plain_instance n) p q ≡ gate_at all n p q
gate-plain all n p q = λ i. cond (has-plain p n i) (gate.High (feed-plain all n p i)) (cond (has-plain q n i) (gate.Low (feed-plain all n q i)) gate.Always)

abbrev mask_by : Option RefItem → Option RefItem → Mask
mask_by (Some r) m = mask.Enable r
mask_by None (Some r) = mask.Mask r
mask_by None None = mask.Off

is_mask_by : (all : List Lineage) (n : Instance) (p q : Prop) → mask_at all n p q ≡ mask_by (item_at all n p) (item_at all n q)
is_mask_by all n p q = refl

mask-plain : (all : List Lineage) (n : Instance) (p q : Prop) → mask_at (map plain_lineage all) (plain_instance n) p q ≡ mask_at all n p q
mask-plain all n p q = is_mask_by (map plain_lineage all) (plain_instance n) p q ∙ (λ i. mask_by (at-plain all n p i) (at-plain all n q i)) ∙ sym (is_mask_by all n p q)

pin-plain : (f : Instance) → has_pin (plain_instance f) ≡ has_pin f
pin-plain f = λ i. hardware_writes-plain f i && (not (counter-plain f i) || one_of-plain (prop.We ∷ prop.Wel ∷ []) f i)

abbrev source_by : Bool → Option RefItem → Feed
source_by p (Some r) = feed.Item r
source_by p None = cond p feed.Pin feed.Off

is_source_by : (all : List Lineage) (f : Instance) → source_of all f ≡ source_by (has_pin f) (item_at all f prop.Next)
is_source_by all f = refl

source-plain : (all : List Lineage) (f : Instance) → source_of (map plain_lineage all) (plain_instance f) ≡ source_of all f
source-plain all f = is_source_by (map plain_lineage all) (plain_instance f) ∙ (λ i. source_by (pin-plain f i) (at-plain all f prop.Next i)) ∙ sym (is_source_by all f)

abbrev level_by : ℕ → Meaning → Option RefItem → Option Level
level_by k (number n) r = Some (level.Number n)
level_by k (flag true) r = Some (level.Number k)
level_by k m (Some r) = Some (level.Item r)
level_by k m None = None

level_same : (n : Instance) (p : Prop) (k : ℕ) (r : Option RefItem) → level_by k (setting (plain_instance n) p) r ≡ level_by k (setting n p) r
level_same n p k r = tests (λ m. level_by k m r) (tested (λ m. level_by k m r) (λ n s. refl) (λ p n s q. refl)) n p

is_level_by : (all : List Lineage) (f : Instance) (p : Prop) (k : ℕ) → level_at all f p k ≡ level_by k (setting f p) (item_at all f p)
is_level_by all f p k = refl

level-plain : (all : List Lineage) (f : Instance) (p : Prop) (k : ℕ) → level_at (map plain_lineage all) (plain_instance f) p k ≡ level_at all f p k
level-plain all f p k = is_level_by (map plain_lineage all) (plain_instance f) p k ∙ ap (level_by k (setting (plain_instance f) p)) (at-plain all f p) ∙ level_same f p k (item_at all f p) ∙ sym (is_level_by all f p k)

abbrev pulse_by : Option RefItem → Feed
pulse_by (Some r) = feed.Item r
pulse_by None = feed.Pin

pulse-plain : (all : List Lineage) (f : Instance) (p : Prop) → pulse_at (map plain_lineage all) (plain_instance f) p ≡ pulse_at all f p
pulse-plain all f p = ap pulse_by (at-plain all f p)

abbrev amount_by : Meaning → Option RefItem → Meaning → Amount
amount_by (number n) r w = amount.Number n
amount_by m (Some r) w = amount.Item r
amount_by m None (number w) = amount.Pin w
amount_by m None w = amount.Number 1

abbrev width_pin : Meaning → Amount
width_pin (number w) = amount.Pin w
width_pin w = amount.Number 1

abbrev amount_of : Meaning → Option RefItem → Amount → Amount
amount_of (number n) r a = amount.Number n
amount_of m (Some r) a = amount.Item r
amount_of m None a = a

split : (m : Meaning) (r : Option RefItem) (w : Meaning) → amount_by m r w ≡ amount_of m r (width_pin w)
split (number n) r w = refl
split m (Some r) w = refl
split m None (number w) = refl
split m None w = refl

amount_same : (n : Instance) (p : Prop) (r : Option RefItem) (a : Amount) → amount_of (setting (plain_instance n) p) r a ≡ amount_of (setting n p) r a
amount_same n p r a = tests (λ m. amount_of m r a) (tested (λ m. amount_of m r a) (λ n s. refl) (λ p n s q. refl)) n p

is_amount_by : (all : List Lineage) (f : Instance) (p q : Prop) → amount_at all f p q ≡ amount_of (setting f p) (item_at all f p) (width_pin (setting f q))
is_amount_by all f p q = go (setting f p) (item_at all f p) (setting f q)
  where
    go : (m : Meaning) (r : Option RefItem) (w : Meaning) → amount_by m r w ≡ amount_of m r (width_pin w)
    go = split

amount-plain : (all : List Lineage) (f : Instance) (p q : Prop) → amount_at (map plain_lineage all) (plain_instance f) p q ≡ amount_at all f p q
amount-plain all f p q =
    is_amount_by (map plain_lineage all) (plain_instance f) p q
    ∙ (λ i. amount_of (setting (plain_instance f) p) (at-plain all f p i) (tests width_pin (tested width_pin (λ n s. refl) (λ p n s q. refl)) f q i))
    ∙ amount_same f p (item_at all f p) (width_pin (setting f q)) ∙ sym (is_amount_by all f p q)

part-plain : (all : List Lineage) (f : Instance) (p q r : Prop) → part_at (map plain_lineage all) (plain_instance f) p q r ≡ part_at all f p q r
part-plain all f p q r = λ i. record { pulse = pulse-plain all f p i; amount = amount-plain all f q r i }

ones-plain : (f : Instance) → ones_of (plain_instance f) ≡ ones_of f
ones-plain f = ap (λ w. 2 ^ w - 1) (width-plain f)

top_level-plain : (all : List Lineage) (f : Instance) (p : Prop) → level_at (map plain_lineage all) (plain_instance f) p (ones_of (plain_instance f)) ≡ level_at all f p (ones_of f)
top_level-plain all f p = ap (level_at (map plain_lineage all) (plain_instance f) p) (ones-plain f) ∙ level-plain all f p (ones_of f)

count-plain : (all : List Lineage) (f : Instance) → count_of (map plain_lineage all) (plain_instance f) ≡ count_of all f
count-plain all f = λ i. record {
  up = when_some (up-plain f i) (part-plain all f prop.Incr prop.Incrvalue prop.Incrwidth i);
  down = when_some (down-plain f i) (part-plain all f prop.Decr prop.Decrvalue prop.Decrwidth i);
  high = top_level-plain all f prop.Incrsaturate i;
  low = level-plain all f prop.Decrsaturate 0 i;
  above = level_or (top_level-plain all f prop.Incrthreshold i) (ones-plain f i);
  below = level_or (level-plain all f prop.Decrthreshold 0 i) 0;
}

-- Fields.

round-plain : (s : Source) (f : Lineage) → nodes_round (plain_source s) (plain_lineage f) ≡ map plain_instance (nodes_round s f)
round-plain s f = (λ i. flat_under children children plain_instance plain_instance children-plain f.ancestors i ++ signals-plain s i) ∙ sym (map-append plain_instance (flat_map children f.ancestors) (signals s))

reset_signals-plain : (s : Source) (all : List Lineage) (f : Lineage) → reset_signals (plain_source s) (map plain_lineage all) (plain_lineage f) ≡ map plain_instance (reset_signals s all f)
reset_signals-plain s all f =
    let named = target all (setting f.node prop.Resetsignal) in
    (λ i. (ap (map (λ (x : Item). x.node)) (target_of-plain all f.node prop.Resetsignal) ∙ map_to (λ (x : Item). x.node) (λ (x : Item). x.node) plain_item plain_instance (λ x. refl) named) i
    ++ (ap (filter is_field_reset) (round-plain s f) ∙ filter_under is_field_reset is_field_reset plain_instance resets-plain (nodes_round s f)) i)
    ∙ sym (map-append plain_instance (map (λ (x : Item). x.node) named) (filter is_field_reset (nodes_round s f)))

abbrev reset_as : List Lineage → List Instance → ResetBy
reset_as all (n ∷ ns) = record { signal = Some (number_of n (all_signals (nodes_in all))); low = has prop.Activelow n; sync = not (has prop.Async n) }
reset_as all [] = record { signal = None; low = true; sync = false }

reset_as-plain : (all : List Lineage) (ns : List Instance) → reset_as (map plain_lineage all) (map plain_instance ns) ≡ reset_as all ns
reset_as-plain all [] = refl
reset_as-plain all (n ∷ ns) = λ i. record { signal = Some (signal_number all n i); low = has-plain prop.Activelow n i; sync = not (has-plain prop.Async n i) }

is_reset_as : (s : Source) (all : List Lineage) (f : Lineage) → reset_by s all f ≡ reset_as all (reset_signals s all f)
is_reset_as s all f = refl

reset_by-plain : (s : Source) (all : List Lineage) (f : Lineage) → reset_by (plain_source s) (map plain_lineage all) (plain_lineage f) ≡ reset_by s all f
reset_by-plain s all f = is_reset_as (plain_source s) (map plain_lineage all) (plain_lineage f) ∙ ap (reset_as (map plain_lineage all)) (reset_signals-plain s all f) ∙ reset_as-plain all (reset_signals s all f) ∙ sym (is_reset_as s all f)

abbrev reset_number : Meaning → Option ℕ
reset_number (number n) = Some n
reset_number _ = None

reset_value-plain : (f : Instance) → reset_value (plain_instance f) ≡ reset_value f
reset_value-plain f = tests reset_number (tested reset_number (λ n s. refl) (λ p n s q. refl)) f prop.Reset

class-plain : (vs : List Instance) (f : Instance) → class_of (map plain_instance vs) (plain_instance f) ≡ class_of vs f
class-plain vs f = λ i. cond (wire-plain vs f i) class.Wire (cond (storage-plain vs f i) class.Storage class.Constant)

abbrev latch_by : Bool → Meaning → Latch
latch_by b (intr trigger.Nonsticky) = latch.Plain
latch_by b (intr e) = cond b (latch.Whole e) (latch.Bits e)
latch_by b _ = latch.Off

is_latch_by : (f : Instance) → latch_of f ≡ latch_by (has prop.Sticky f) (setting f prop.Intr)
is_latch_by f = refl

latch-plain : (f : Instance) → latch_of (plain_instance f) ≡ latch_of f
latch-plain f = is_latch_by (plain_instance f) ∙ (λ i. latch_by (has-plain prop.Sticky f i) (setting (plain_instance f) prop.Intr)) ∙ tests (latch_by (has prop.Sticky f)) (tested (latch_by (has prop.Sticky f)) (λ n s. refl) (λ p n s q. refl)) f prop.Intr ∙ sym (is_latch_by f)

shown-plain : (f : Instance) → shown_of (plain_instance f) ≡ shown_of f
shown-plain f = λ i. map (λ (p : Prop × Shown). p.1) (filter (λ (p : Prop × Shown). has-plain p.0 f i) showing)

all_views-plain : (all : List Lineage) (r f : Instance) → views (nodes_in (map plain_lineage all)) (plain_instance r) (plain_instance f) ≡ map plain_instance (views (nodes_in all) r f)
all_views-plain all r f = ap (λ ns. views ns (plain_instance r) (plain_instance f)) (nodes_in-plain all) ∙ views-plain (nodes_in all) r f

field-plain : (s : Source) (all : List Lineage) (r : Numbered Lineage) (f : Instance) → field_of (plain_source s) (map plain_lineage all) (plain_numbered plain_lineage r) (plain_instance f) ≡ field_of s all r f
field-plain s all r f = λ i. record {
  path = path_text f.path;
  reg = r.number;
  width = width-plain f i;
  reset = reset_value-plain f i;
  reset_by = reset_by-plain s all (child_of r.register f) i;
  class = (ap (λ vs. class_of vs (plain_instance f)) (all_views-plain all r.register.node f) ∙ class-plain (views (nodes_in all) r.register.node f) f) i;
  hw_writes = hardware_writes-plain f i;
  hw_reads = hardware_reads-plain f i;
  hw_first = first-plain f i;
  source = source-plain all f i;
  gate = gate-plain all f prop.We prop.Wel i;
  count = when_some (counter-plain f i) (count-plain all f i);
  latch = latch-plain f i;
  set = feed-plain all f prop.Hwset i;
  clear = feed-plain all f prop.Hwclr i;
  keep = mask-plain all f prop.Hwenable prop.Hwmask i;
  pulse = has-plain prop.Singlepulse f i;
  once = (ap (list_any is_once) (all_views-plain all r.register.node f) ∙ any_same is_once is_once plain_instance once-plain (views (nodes_in all) r.register.node f)) i;
  enable = mask-plain all f prop.Enable prop.Mask i;
  halt = mask-plain all f prop.Haltenable prop.Haltmask i;
  shown = shown-plain f i;
}

numbered_all-plain : (all : List Lineage) → numbered_registers (map plain_lineage all) ≡ map (plain_numbered plain_lineage) (numbered_registers all)
numbered_all-plain all =
    ap (numbered (λ (r : Lineage). r.node)) (filter_under (λ (n : Lineage). is_a kind.Reg n.node) (λ (n : Lineage). is_a kind.Reg n.node) plain_lineage (λ n. refl) all)
    ∙ numbered-plain plain_lineage (λ (r : Lineage). r.node) (λ r. refl) (filter (λ (n : Lineage). is_a kind.Reg n.node) all)

-- lists of another type
map_same : {A B : Type 0} (f h : A → B) (g : A → A) (same : (x : A) → f (g x) ≡ h x) (xs : List A) → map f (map g xs) ≡ map h xs
map_same f h g same [] = refl
map_same f h g same (x ∷ xs) = λ i. same x i ∷ map_same f h g same xs i

pub fields_all-plain : (s : Source) (all : List Lineage) → fields (plain_source s) (map plain_lineage all) ≡ fields s all
fields_all-plain s all =
    let p : Numbered Lineage → Bool = λ r. not (is_alias r.register.node) in
    let f : Source → List Lineage → Numbered Lineage → List Field = λ s all r. map (field_of s all r) (fields_of r.register.node) in
    let each : (r : Numbered Lineage) → f (plain_source s) (map plain_lineage all) (plain_numbered plain_lineage r) ≡ f s all r = λ r.
    ap (map (field_of (plain_source s) (map plain_lineage all) (plain_numbered plain_lineage r))) (fields-plain r.register.node)
    ∙ map_same (field_of (plain_source s) (map plain_lineage all) (plain_numbered plain_lineage r)) (field_of s all r) plain_instance (field-plain s all r) (fields_of r.register.node) in
    ap (λ rs. flat_map (f (plain_source s) (map plain_lineage all)) (filter p rs)) (numbered_all-plain all)
    ∙ ap (flat_map (f (plain_source s) (map plain_lineage all))) (filter_under p p (plain_numbered plain_lineage) (λ r. ap not (alias-plain r.register.node)) (numbered_registers all))
    ∙ flat_same (f (plain_source s) (map plain_lineage all)) (f s all) (plain_numbered plain_lineage) each (filter p (numbered_registers all))

-- Views.

abbrev write_by : Bool → Bool → Meaning → OnWrite
write_by a b (named w) = write_word w
write_by a b _ = cond a on_write.WoSet (cond b on_write.WoClr on_write.Off)

is_write_by : (v : Instance) → on_write_of v ≡ write_by (has prop.Woset v) (has prop.Woclr v) (setting v prop.Onwrite)
is_write_by v = refl

on_write-same : (v : Instance) → on_write_of (plain_instance v) ≡ on_write_of v
on_write-same v =
    is_write_by (plain_instance v) ∙ (λ i. write_by (has-plain prop.Woset v i) (has-plain prop.Woclr v i) (setting (plain_instance v) prop.Onwrite))
    ∙ tests (write_by (has prop.Woset v) (has prop.Woclr v)) (tested (write_by (has prop.Woset v) (has prop.Woclr v)) (λ n s. refl) (λ p n s q. refl)) v prop.Onwrite ∙ sym (is_write_by v)

abbrev read_by : Bool → Bool → Meaning → OnRead
read_by a b (named w) = read_word w
read_by a b _ = cond a on_read.RClr (cond b on_read.RSet on_read.Off)

is_read_by : (v : Instance) → on_read_of v ≡ read_by (has prop.Rclr v) (has prop.Rset v) (setting v prop.Onread)
is_read_by v = refl

on_read-same : (v : Instance) → on_read_of (plain_instance v) ≡ on_read_of v
on_read-same v =
    is_read_by (plain_instance v) ∙ (λ i. read_by (has-plain prop.Rclr v i) (has-plain prop.Rset v i) (setting (plain_instance v) prop.Onread))
    ∙ tests (read_by (has prop.Rclr v) (has prop.Rset v)) (tested (read_by (has prop.Rclr v) (has prop.Rset v)) (λ n s. refl) (λ p n s q. refl)) v prop.Onread ∙ sym (is_read_by v)

abbrev viewed_by : List Instance → Instance → Instance → List Instance
viewed_by all r v = cond (is_alias r) (filter (λ f. same_name v.use_.name f.use_.name) (flat_map fields_of (filter (λ p. is_alias_of p r) (registers all)))) (v ∷ [])

is_viewed_by : (all : List Instance) (r v : Instance) → viewed all r v ≡ viewed_by all r v
is_viewed_by all r v = refl

viewed-plain : (all : List Instance) (r v : Instance) → viewed_by (map plain_instance all) (plain_instance r) (plain_instance v) ≡ map plain_instance (viewed_by all r v)
viewed-plain all r v =
    let q : Instance → Bool = λ p. is_alias_of p r in
    let q' : Instance → Bool = λ p. is_alias_of p (plain_instance r) in
    let n : Instance → Bool = λ f. same_name v.use_.name f.use_.name in
    let primaries = filter q (registers all) in
    (λ i. cond (alias-plain r i)
    ((ap (λ rs. filter n (flat_map fields_of (filter q' rs))) (registers-plain all) ∙ ap (λ rs. filter n (flat_map fields_of rs)) (filter_under q' q plain_instance (λ p. alias_of-plain p r) (registers all))
    ∙ ap (filter n) (flat_under fields_of fields_of plain_instance plain_instance fields-plain primaries) ∙ filter_under n n plain_instance (λ f. refl) (flat_map fields_of primaries)) i) (plain_instance v ∷ []))
    ∙ go (is_alias r) (filter n (flat_map fields_of primaries))
  where
    go : (b : Bool) (xs : List Instance) → cond b (map plain_instance xs) (plain_instance v ∷ []) ≡ map plain_instance (cond b xs (v ∷ []))
    go true xs = refl
    go false xs = refl

first_number-plain : (ns fs : List Instance) → first_number (map plain_instance ns) (map plain_instance fs) ≡ first_number ns fs
first_number-plain [] fs = refl
first_number-plain (n ∷ ns) fs = number-plain n fs

view-plain : (all : List Lineage) (r v : Instance) → view_of (map plain_lineage all) (plain_instance r) (plain_instance v) ≡ view_of all r v
view-plain all r v = λ i. record {
  path = path_text v.path;
  field = ((λ j. first_number (viewed (nodes_in-plain all j) (plain_instance r) (plain_instance v)) (all_fields (nodes_in-plain all j)))
      ∙ (λ j. first_number (viewed-plain (nodes_in all) r v j) (all_fields-plain (nodes_in all) j)) ∙ first_number-plain (viewed (nodes_in all) r v) (all_fields (nodes_in all))) i;
  alias = alias-plain r i;
  reads = reads-plain v i;
  writes = writes-plain v i;
  once = once-plain v i;
  on_write = on_write-same v i;
  on_read = on_read-same v i;
  gate = gate-plain all v prop.Swwe prop.Swwel i;
}

pub views_all-plain : (all : List Lineage) → block.views (map plain_lineage all) ≡ block.views all
views_all-plain all =
    let f : List Lineage → Instance → List View = λ all r. map (view_of all r) (fields_of r) in
    ap (λ ns. flat_map (f (map plain_lineage all)) (registers ns)) (nodes_in-plain all) ∙ ap (flat_map (f (map plain_lineage all))) (registers-plain (nodes_in all))
    ∙ flat_same (f (map plain_lineage all)) (f all) plain_instance (λ r. ap (map (view_of (map plain_lineage all) (plain_instance r))) (fields-plain r) ∙ map_same (view_of (map plain_lineage all) (plain_instance r)) (view_of all r) plain_instance (view-plain all r) (fields_of r)) (registers (nodes_in all))

-- Registers and words.

signal-plain : (n : Instance) → signal_of (plain_instance n) ≡ signal_of n
signal-plain n = λ i. record { path = path_text n.path; width = width-plain n i; root = (signal_of n).root }

halts-plain : (f : Instance) → halts (plain_instance f) ≡ halts f
halts-plain f = λ i. interrupt-plain f i && one_of-plain (prop.Haltenable ∷ prop.Haltmask ∷ []) f i

any_field-plain : (p : Instance → Bool) → ((n : Instance) → p (plain_instance n) ≡ p n) → (r : Instance) → list_any p (fields_of (plain_instance r)) ≡ list_any p (fields_of r)
any_field-plain p h r = ap (list_any p) (fields-plain r) ∙ any_same p p plain_instance h (fields_of r)

reg-plain : (r : Instance) → reg_of (plain_instance r) ≡ reg_of r
reg-plain r = λ i. record { path = path_text r.path; alias = alias-plain r i; intr = not (alias-plain r i) && any_field-plain is_interrupt interrupt-plain r i; halt = not (alias-plain r i) && any_field-plain halts halts-plain r i }

slots-plain : (view base width : ℕ) (bs : List Bits) → slots_from view base width (map plain_bits bs) ≡ slots_from view base width bs
slots-plain view base width [] = refl
slots-plain view base width (b ∷ bs) = ap (λ xs. slot view base width b ++ xs) (slots-plain (view + 1) base width bs)

word-plain : (r : Numbered Placed) (k : ℕ) → word_of (plain_numbered plain_placed r) k ≡ word_of r k
word-plain r k =
    let w = number_at-plain r.register.node prop.Accesswidth in
    λ i. record {
      address = r.register.address + k * (w i / 8);
      width = w i;
      reg = r.number;
      number = k;
      slots = ((λ j. slots_from r.first_view (k * w j) (w j) (bits-plain r.register.node j)) ∙ slots-plain r.first_view (k * number_at r.register.node prop.Accesswidth) (number_at r.register.node prop.Accesswidth) (bits_of r.register.node)) i;
    }

words-plain : (r : Numbered Placed) → words_of (plain_numbered plain_placed r) ≡ words_of r
words-plain r = λ i. map (λ k. word-plain r k i) (upto (number_at-plain r.register.node prop.Regwidth i / number_at-plain r.register.node prop.Accesswidth i))

shares-plain : (p : Instance → Bool) → ((n : Instance) → p (plain_instance n) ≡ p n) → (ps : List Placed) (x : Placed) → shares_with p (map plain_placed ps) (plain_placed x) ≡ shares_with p ps x
shares-plain p h ps x = any_same (λ (q : Placed). q.address == x.address && p q.node) (λ (q : Placed). q.address == x.address && p q.node) plain_placed (λ q. ap (λ t. q.address == x.address && t) (h q.node)) ps

but-plain : (p q : Instance → Bool) → ((n : Instance) → p (plain_instance n) ≡ p n) → ((n : Instance) → q (plain_instance n) ≡ q n) → (ps : List Placed) → words_but p q (map plain_placed ps) ≡ words_but p q ps
but-plain p q h k ps =
    let t : List Placed → Numbered Placed → Bool = λ ps r. not (p r.register.node && shares_with q ps r.register) in
    ap (λ rs. flat_map words_of (filter (t (map plain_placed ps)) rs)) (numbered-plain plain_placed (λ (x : Placed). x.node) (λ x. refl) ps)
    ∙ ap (flat_map words_of) (filter_under (t (map plain_placed ps)) (t ps) (plain_numbered plain_placed) (λ r i. not (h r.register.node i && shares-plain q k ps r.register i)) (numbered (λ (x : Placed). x.node) ps))
    ∙ flat_same words_of words_of (plain_numbered plain_placed) words-plain (filter (t ps) (numbered (λ (x : Placed). x.node) ps))

reads_all-plain : (w : Option (List ℕ)) (s : Source) → read_words (addr.registers w (plain_source s)) ≡ read_words (addr.registers w s)
reads_all-plain w s = ap read_words (addr_laws.registers-plain w s) ∙ but-plain addr.is_write_only addr.is_read_only addr_laws.write_only-plain addr_laws.read_only-plain (addr.registers w s)

writes_all-plain : (w : Option (List ℕ)) (s : Source) → write_words (addr.registers w (plain_source s)) ≡ write_words (addr.registers w s)
writes_all-plain w s = ap write_words (addr_laws.registers-plain w s) ∙ but-plain addr.is_read_only addr.is_write_only addr_laws.read_only-plain addr_laws.write_only-plain (addr.registers w s)

-- The block.

names-plain : (w : Option (List ℕ)) (s : Source) → map (λ (n : Instance). n.use_.name.text.now) (top_of w (plain_source s)) ≡ map (λ (n : Instance). n.use_.name.text.now) (top_of w s)
names-plain w s = ap (map (λ (n : Instance). n.use_.name.text.now)) (top-plain w s) ∙ map_id (λ (n : Instance). n.use_.name.text.now) plain_instance (λ n. refl) (top_of w s)

all_signals-plain : (w : Option (List ℕ)) (s : Source) → map signal_of (all_signals (nodes w (plain_source s))) ≡ map signal_of (all_signals (nodes w s))
all_signals-plain w s = ap (λ ns. map signal_of (all_signals ns)) (nodes-plain w s) ∙ ap (map signal_of) (counted.signals-plain (nodes w s)) ∙ map_id signal_of plain_instance signal-plain (all_signals (nodes w s))

all_regs-plain : (w : Option (List ℕ)) (s : Source) → map reg_of (registers (nodes w (plain_source s))) ≡ map reg_of (registers (nodes w s))
all_regs-plain w s = ap (λ ns. map reg_of (registers ns)) (nodes-plain w s) ∙ ap (map reg_of) (registers-plain (nodes w s)) ∙ map_id reg_of plain_instance reg-plain (registers (nodes w s))

all_views_of-plain : (w : Option (List ℕ)) (s : Source) → block.views (lineages w (plain_source s)) ≡ block.views (lineages w s)
all_views_of-plain w s = ap block.views (lineages-plain w s) ∙ views_all-plain (lineages w s)

all_fields_of-plain : (w : Option (List ℕ)) (s : Source) → fields (plain_source s) (lineages w (plain_source s)) ≡ fields s (lineages w s)
all_fields_of-plain w s = ap (fields (plain_source s)) (lineages-plain w s) ∙ fields_all-plain s (lineages w s)

pub block-from : (w : Option (List ℕ)) (s : Source) (k : ℕ) (b : Block) → IsBlockOf w (plain_source s) k b → IsBlockOf w s k b
block-from w s k b h = record {
  name = sym (names-plain w s) ∙ h.name;
  signals = h.signals ∙ all_signals-plain w s;
  fields_ = h.fields_ ∙ all_fields_of-plain w s;
  views_ = h.views_ ∙ all_views_of-plain w s;
  regs = h.regs ∙ all_regs-plain w s;
  reads = subst (λ ws. AreByAddress ws b.reads) (reads_all-plain w s) h.reads;
  writes = subst (λ ws. AreByAddress ws b.writes) (writes_all-plain w s) h.writes;
  waits_ = h.waits_;
  each_item = h.each_item;
  ordered = h.ordered;
}

pub block-to : (w : Option (List ℕ)) (s : Source) (k : ℕ) (b : Block) → IsBlockOf w s k b → IsBlockOf w (plain_source s) k b
block-to w s k b h = record {
  name = names-plain w s ∙ h.name;
  signals = h.signals ∙ sym (all_signals-plain w s);
  fields_ = h.fields_ ∙ sym (all_fields_of-plain w s);
  views_ = h.views_ ∙ sym (all_views_of-plain w s);
  regs = h.regs ∙ sym (all_regs-plain w s);
  reads = subst (λ ws. AreByAddress ws b.reads) (sym (reads_all-plain w s)) h.reads;
  writes = subst (λ ws. AreByAddress ws b.writes) (sym (writes_all-plain w s)) h.writes;
  waits_ = h.waits_;
  each_item = h.each_item;
  ordered = h.ordered;
}
