-- Which items the parts of a field refer to.
use Rattle.std.proofs.Common.{◌≡◌, ◌⊎◌, inl, inr, ℕ, Bool, true, false, cond, List, [], ◌∷◌, Option, None, Some, refl, sym, ap, subst}
use Rattle.rb_model.specs.declared.kinds.Amount.{Amount}
use Rattle.rb_model.specs.declared.kinds.Amount.TheVariants as amount
use Rattle.rb_model.specs.declared.kinds.Class.TheVariants as class
use Rattle.rb_model.specs.declared.kinds.Feed.{Feed}
use Rattle.rb_model.specs.declared.kinds.Feed.TheVariants as feed
use Rattle.rb_model.specs.declared.kinds.Level.{Level}
use Rattle.rb_model.specs.declared.kinds.Level.TheVariants as level
use Rattle.rb_model.specs.declared.kinds.Mask.{Mask}
use Rattle.rb_model.specs.declared.kinds.Mask.TheVariants as mask
use Rattle.rb_model.specs.declared.kinds.RefItem.{RefItem}
use Rattle.rb_model.specs.References.{amount_refs, class_refs, count_refs, feed_refs, level_refs, mask_refs, part_refs}
use Rattle.rdl_props.specs.declared.prop.Prop.{Prop}
use Rattle.rdl_props.specs.declared.prop.Prop.TheVariants as prop
use Rattle.rdl_values.specs.Instances.{Instance}
use Rattle.rdl_values.specs.Lineages.{Lineage}
use Rattle.rdl_layers.specs.Fields.{has_up, has_down, is_counter, is_storage, is_wire}
use Rattle.rdl_layers.specs.Forms.{Meaning, unset, flag, number, text, named, intr, hard, enum_of, reference}
use Rattle.rdl_layers.specs.Settings.{setting}
use Rattle.rdl_nodes.proofs.Members.{In, in-either, in-flat}
use Rattle.rdl_refs.specs.Follows.{counts, given_items}
use Rattle.rdl_refs.specs.Items.{Item, target}
use Rattle.rdl_rules.specs.Feeds.{amount_at, count_of, has_pin, item_at, level_at, level_or, mask_at, part_at, pulse_at, ref_to, source_of, when_some}
use Rattle.rdl_rules.specs.Fields.{class_of}

module _ (all : List Lineage) where
  -- The item that a property names.

  -- an item that a setting of the node names
  pub record Names (f : Instance) (p : Prop) (j : RefItem) : Type 0 where
    pub item : Item
    pub named_ : In (target all (setting f p)) item
    pub is : j ≡ ref_to all item

  abbrev first : List Item → Option RefItem
  first [] = None
  first (i ∷ is) = Some (ref_to all i)

  pub names : (f : Instance) (p : Prop) (j : RefItem) → item_at all f p ≡ Some j → Names f p j
  names f p j e = go (target all (setting f p)) refl e
    where
      go : (ts : List Item) → target all (setting f p) ≡ ts → first ts ≡ Some j → Names f p j
      go [] q h = cc
      go (t ∷ ts) q h = record { item = t; named_ = subst (λ xs. In xs t) (sym q) (inl refl); is = the_some j (ref_to all t) h }
        where
          the_some : (x y : RefItem) → Some y ≡ Some x → x ≡ y
          the_some x y q = cc

  -- it is one of those that some properties name
  pub given-in : (f : Instance) (ps : List Prop) (p : Prop) (t : Item) → In ps p → In (target all (setting f p)) t → In (given_items all f ps) t
  given-in f ps p t h i = in-flat (λ q. target all (setting f q)) ps p t h i

  -- Feeds.

  abbrev pulse-of : Option RefItem → Feed
  pulse-of (Some r) = feed.Item r
  pulse-of None = feed.Pin

  pulse-names : (f : Instance) (p : Prop) (j : RefItem) → In (feed_refs (pulse_at all f p)) j → item_at all f p ≡ Some j
  pulse-names f p j h = go (item_at all f p) h
    where
      go : (o : Option RefItem) → In (feed_refs (pulse-of o)) j → o ≡ Some j
      go (Some r) (inl q) = ap Some q
      go (Some r) (inr x) = absurd x
      go None x = absurd x

  abbrev source-from : Bool → Option RefItem → Feed
  source-from b (Some r) = feed.Item r
  source-from b None = cond b feed.Pin feed.Off

  pub source-names : (f : Instance) (j : RefItem) → In (feed_refs (source_of all f)) j → item_at all f prop.Next ≡ Some j
  source-names f j h = go (item_at all f prop.Next) (has_pin f) h
    where
      go : (o : Option RefItem) (b : Bool) → In (feed_refs (source-from b o)) j → o ≡ Some j
      go (Some r) b (inl q) = ap Some q
      go (Some r) b (inr x) = absurd x
      go None true x = absurd x
      go None false x = absurd x

  pub class-wire : (vs : List Instance) (f : Instance) (x : Feed) (j : RefItem) → In (class_refs (class_of vs f) x) j → (is_wire vs f ≡ true) × In (feed_refs x) j
  class-wire vs f x j h = go (is_wire vs f) (is_storage vs f) refl h
    where
      go : (w t : Bool) → is_wire vs f ≡ w → In (class_refs (cond w class.Wire (cond t class.Storage class.Constant)) x) j → (is_wire vs f ≡ true) × In (feed_refs x) j
      go true t e i = (e, i)
      go false true e i = absurd i
      go false false e i = absurd i

  -- Levels.

  abbrev level-of : ℕ → Meaning → Option RefItem → Option Level
  level-of plain (number n) r = Some (level.Number n)
  level-of plain (flag true) r = Some (level.Number plain)
  level-of plain m (Some r) = Some (level.Item r)
  level-of plain m None = None

  pub level-names : (f : Instance) (p : Prop) (plain d : ℕ) (j : RefItem) → In (level_refs (level_or (level_at all f p plain) d)) j → item_at all f p ≡ Some j
  level-names f p plain d j h = go (setting f p) (item_at all f p) h
    where
      some : (r : RefItem) → In (r ∷ []) j → Some r ≡ Some j
      some r (inl q) = ap Some q
      some r (inr x) = absurd x

      go : (m : Meaning) (o : Option RefItem) → In (level_refs (level_or (level-of plain m o) d)) j → o ≡ Some j
      go (number n) o x = absurd x
      go (flag true) o x = absurd x
      go (flag false) (Some r) x = some r x
      go (flag false) None x = absurd x
      go unset (Some r) x = some r x
      go unset None x = absurd x
      go (text t) (Some r) x = some r x
      go (text t) None x = absurd x
      go (named w) (Some r) x = some r x
      go (named w) None x = absurd x
      go (intr e) (Some r) x = some r x
      go (intr e) None x = absurd x
      go (hard b) (Some r) x = some r x
      go (hard b) None x = absurd x
      go (enum_of n scope) (Some r) x = some r x
      go (enum_of n scope) None x = absurd x
      go (reference q item scope place) (Some r) x = some r x
      go (reference q item scope place) None x = absurd x

  -- Parts of counters.

  abbrev amount-of : Meaning → Option RefItem → Meaning → Amount
  amount-of (number n) r w = amount.Number n
  amount-of m (Some r) w = amount.Item r
  amount-of m None (number w) = amount.Pin w
  amount-of m None w = amount.Number 1

  no-amount : (m w : Meaning) (j : RefItem) → In (amount_refs (amount-of m None w)) j → ⊥
  no-amount (number n) w j x = x
  no-amount unset w j x = by w x
    where
      by : (w : Meaning) → In (amount_refs (amount-of unset None w)) j → ⊥
      by (number n) x = x
      by _ x = x
  no-amount (flag b) w j x = by w x
    where
      by : (w : Meaning) → In (amount_refs (amount-of (flag b) None w)) j → ⊥
      by (number n) x = x
      by _ x = x
  no-amount (text t) w j x = by w x
    where
      by : (w : Meaning) → In (amount_refs (amount-of (text t) None w)) j → ⊥
      by (number n) x = x
      by _ x = x
  no-amount (named k) w j x = by w x
    where
      by : (w : Meaning) → In (amount_refs (amount-of (named k) None w)) j → ⊥
      by (number n) x = x
      by _ x = x
  no-amount (intr e) w j x = by w x
    where
      by : (w : Meaning) → In (amount_refs (amount-of (intr e) None w)) j → ⊥
      by (number n) x = x
      by _ x = x
  no-amount (hard b) w j x = by w x
    where
      by : (w : Meaning) → In (amount_refs (amount-of (hard b) None w)) j → ⊥
      by (number n) x = x
      by _ x = x
  no-amount (enum_of n scope) w j x = by w x
    where
      by : (w : Meaning) → In (amount_refs (amount-of (enum_of n scope) None w)) j → ⊥
      by (number n) x = x
      by _ x = x
  no-amount (reference q item scope place) w j x = by w x
    where
      by : (w : Meaning) → In (amount_refs (amount-of (reference q item scope place) None w)) j → ⊥
      by (number n) x = x
      by _ x = x

  some-amount : (m w : Meaning) (r j : RefItem) → In (amount_refs (amount-of m (Some r) w)) j → Some r ≡ Some j
  some-amount (number n) w r j x = absurd x
  some-amount unset w r j (inl q) = ap Some q
  some-amount unset w r j (inr x) = absurd x
  some-amount (flag b) w r j (inl q) = ap Some q
  some-amount (flag b) w r j (inr x) = absurd x
  some-amount (text t) w r j (inl q) = ap Some q
  some-amount (text t) w r j (inr x) = absurd x
  some-amount (named k) w r j (inl q) = ap Some q
  some-amount (named k) w r j (inr x) = absurd x
  some-amount (intr e) w r j (inl q) = ap Some q
  some-amount (intr e) w r j (inr x) = absurd x
  some-amount (hard b) w r j (inl q) = ap Some q
  some-amount (hard b) w r j (inr x) = absurd x
  some-amount (enum_of n scope) w r j (inl q) = ap Some q
  some-amount (enum_of n scope) w r j (inr x) = absurd x
  some-amount (reference q item scope place) w r j (inl e) = ap Some e
  some-amount (reference q item scope place) w r j (inr x) = absurd x

  amount-names : (f : Instance) (v w : Prop) (j : RefItem) → In (amount_refs (amount_at all f v w)) j → item_at all f v ≡ Some j
  amount-names f v w j h = go (item_at all f v) h
    where
      go : (o : Option RefItem) → In (amount_refs (amount-of (setting f v) o (setting f w))) j → o ≡ Some j
      go (Some r) x = some-amount (setting f v) (setting f w) r j x
      go None x = absurd (no-amount (setting f v) (setting f w) j x)

  part-names : (t : Bool) (f : Instance) (pulse value width : Prop) (j : RefItem) → In (part_refs (when_some t (part_at all f pulse value width))) j → (item_at all f pulse ≡ Some j) ⊎ (item_at all f value ≡ Some j)
  part-names false f pulse value width j h = absurd h
  part-names true f pulse value width j h = elim (in-either (feed_refs (pulse_at all f pulse)) (amount_refs (amount_at all f value width)) j h) [
    | inl x ↦ inl (pulse-names f pulse j x)
    | inr x ↦ inr (amount-names f value width j x)
  ]

  -- a property of a counter names it
  pub record Counts (f : Instance) (j : RefItem) : Type 0 where
    pub by : Prop
    pub one : In counts by
    pub named_ : item_at all f by ≡ Some j

  up-counts : (f : Instance) (j : RefItem) → (item_at all f prop.Incr ≡ Some j) ⊎ (item_at all f prop.Incrvalue ≡ Some j) → Counts f j
  up-counts f j (inl e) = record { by = prop.Incr; one = inl refl; named_ = e }
  up-counts f j (inr e) = record { by = prop.Incrvalue; one = inr (inr (inl refl)); named_ = e }

  down-counts : (f : Instance) (j : RefItem) → (item_at all f prop.Decr ≡ Some j) ⊎ (item_at all f prop.Decrvalue ≡ Some j) → Counts f j
  down-counts f j (inl e) = record { by = prop.Decr; one = inr (inl refl); named_ = e }
  down-counts f j (inr e) = record { by = prop.Decrvalue; one = inr (inr (inr (inl refl))); named_ = e }

  pub count-names : (f : Instance) (j : RefItem) → In (count_refs (when_some (is_counter f) (count_of all f))) j → Counts f j
  count-names f j h = go (is_counter f) h
    where
      go : (c : Bool) → In (count_refs (when_some c (count_of all f))) j → Counts f j
      go false x = absurd x
      go true x = elim (in-either (part_refs (count_of all f).up) (part_refs (count_of all f).down) j x) [
        | inl y ↦ up-counts f j (part-names (has_up f) f prop.Incr prop.Incrvalue prop.Incrwidth j y)
        | inr y ↦ down-counts f j (part-names (has_down f) f prop.Decr prop.Decrvalue prop.Decrwidth j y)
      ]

  -- Masks.

  abbrev mask-of : Option RefItem → Option RefItem → Mask
  mask-of (Some r) m = mask.Enable r
  mask-of None (Some r) = mask.Mask r
  mask-of None None = mask.Off

  pub mask-names : (f : Instance) (enable masked : Prop) (j : RefItem) → In (mask_refs (mask_at all f enable masked)) j → (item_at all f enable ≡ Some j) ⊎ (item_at all f masked ≡ Some j)
  mask-names f enable masked j h = go (item_at all f enable) (item_at all f masked) h
    where
      go : (o m : Option RefItem) → In (mask_refs (mask-of o m)) j → (o ≡ Some j) ⊎ (m ≡ Some j)
      go (Some r) m (inl q) = inl (ap Some q)
      go (Some r) m (inr x) = absurd x
      go None (Some r) (inl q) = inr (ap Some q)
      go None (Some r) (inr x) = absurd x
      go None None x = absurd x
