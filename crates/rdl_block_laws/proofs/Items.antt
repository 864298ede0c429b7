-- The items that settings name.
use Rattle.std.proofs.Common.{◌≡◌, ◌∙◌, inl, ℕ, ◌≤◌, Bool, true, false, cond, nat_lt, List, [], ◌∷◌, ◌++◌, Option, None, Some, Contains, refl, ap, subst}
use Rattle.std.proofs.lemmas.Bool.{eqb-true, ltb-false, not-true}
use Rattle.rdl_props.specs.declared.prop.Prop.{Prop}
use Rattle.rdl_props.specs.declared.prop.Prop.TheVariants as prop
use Rattle.rdl_tree.specs.declared.node.Elab.{Elab}
use Rattle.rdl_values.specs.Elaborated.{nodes_of, top_name}
use Rattle.rdl_values.specs.Instances.{Instance}
use Rattle.rdl_values.specs.Lineages.{Lineage, lineages_of}
use Rattle.rdl_values.specs.Verdict.{IsListOf}
use Rattle.rdl_layers.specs.Fields.{has, has_down, has_up, is_counter}
use Rattle.rdl_layers.specs.Forms.{Meaning, flag, number, reference}
use Rattle.rdl_layers.specs.Phase4.{width_of}
use Rattle.rdl_layers.specs.Settings.{setting}
use Rattle.rdl_nodes.proofs.Members.{In, in-from}
use Rattle.rdl_refs.specs.Items.{Item, target}
use Rattle.rb_model.specs.declared.block.Block.{Block}
use Rattle.rb_model.specs.declared.kinds.Amount.{Amount}
use Rattle.rb_model.specs.declared.kinds.Amount.TheVariants as amount
use Rattle.rb_model.specs.declared.kinds.Feed.{Feed}
use Rattle.rb_model.specs.declared.kinds.Feed.TheVariants as feed
use Rattle.rb_model.specs.declared.kinds.Gate.TheVariants as gate
use Rattle.rb_model.specs.declared.kinds.Level.{Level}
use Rattle.rb_model.specs.declared.kinds.Level.TheVariants as level
use Rattle.rb_model.specs.declared.kinds.Mask.{Mask}
use Rattle.rb_model.specs.declared.kinds.Mask.TheVariants as mask
use Rattle.rb_model.specs.declared.kinds.RefItem.{RefItem}
use Rattle.rb_model.specs.Items.{items}
use Rattle.rb_model.specs.References.{AreWide, AreWithin, WithSome, amount_refs, feed_refs, gate_refs, item_width, level_refs, mask_refs}
use Rattle.rb_model.specs.SoundField.{RefersWell}
use Rattle.rb_model.proofs.Eachs.{Each-append}
use Rattle.rdl_rules.specs.Answers.{meaning_fails}
use Rattle.rdl_rules.specs.Block.{IsBlockOf}
use Rattle.rdl_rules.specs.Feeds.{count_of, feed_at, gate_at, has_pin, item_at, level_at, level_or, mask_at, ones_of, part_at, ref_to, when_some}
use Rattle.rdl_rules.specs.Fields.{field_of}
use Rattle.rdl_rules.specs.Numbers.{Numbered, all_fields}
use Rattle.rdl_rules.specs.ReferenceRules.{Fit, fit_of, fits, single, whole, within}
use Rattle.rdl_sound_laws.specs.Standing.{HasItem}
use Rattle.rdl_sound_laws.proofs.Standing.{all-listed, all-wide}
use Rattle.rdl_block_laws.proofs.Having.{has-item}
use Rattle.rdl_sound_laws.proofs.Fed.{feed_of}
use Rattle.rdl_sound_laws.proofs.Faultless.{halts, meant}

-- An item, if there is one, is the block's, and as wide as is asked.
abbrev Fits : Block → Fit → ℕ → Option RefItem → Type 0
Fits b t w None = Unit {0}
Fits b t w (Some i) = Contains (items b) i × (fits t w (item_width b i) ≡ true)

-- What is made of an item refers to nothing else.

module _ (b : Block) (w : ℕ) where
  feed-bit : (m : Meaning) (o : Option RefItem) → Fits b single w o → AreWide b 1 (feed_refs (feed_of m o))
  feed-bit (flag true) o h = tt
  feed-bit m None h = tt
  feed-bit m (Some i) h = ((h.0, eqb-true (item_width b i) 1 h.1), tt)

  gate-bit : (h l : Bool) (x y : Feed) → AreWide b 1 (feed_refs x) → AreWide b 1 (feed_refs y) → AreWide b 1 (gate_refs (cond h (gate.High x) (cond l (gate.Low y) gate.Always)))
  gate-bit true l x y p q = p
  gate-bit false true x y p q = q
  gate-bit false false x y p q = tt

  abbrev mask_of : Option RefItem → Option RefItem → Mask
  mask_of (Some r) m = mask.Enable r
  mask_of None (Some r) = mask.Mask r
  mask_of None None = mask.Off

  mask-whole : (o m : Option RefItem) → Fits b whole w o → Fits b whole w m → AreWide b w (mask_refs (mask_of o m))
  mask-whole (Some i) m h g = ((h.0, eqb-true (item_width b i) w h.1), tt)
  mask-whole None (Some i) h g = ((g.0, eqb-true (item_width b i) w g.1), tt)
  mask-whole None None h g = tt

  abbrev source_from : Bool → Option RefItem → Feed
  source_from pin (Some r) = feed.Item r
  source_from pin None = cond pin feed.Pin feed.Off

  source-whole : (pin : Bool) (o : Option RefItem) → Fits b whole w o → AreWide b w (feed_refs (source_from pin o))
  source-whole pin (Some i) h = ((h.0, eqb-true (item_width b i) w h.1), tt)
  source-whole true None h = tt
  source-whole false None h = tt

  abbrev pulse_of : Option RefItem → Feed
  pulse_of (Some r) = feed.Item r
  pulse_of None = feed.Pin

  pulse-bit : (o : Option RefItem) → Fits b single w o → AreWide b 1 (feed_refs (pulse_of o))
  pulse-bit (Some i) h = ((h.0, eqb-true (item_width b i) 1 h.1), tt)
  pulse-bit None h = tt

  no-wider : (i : RefItem) → fits within w (item_width b i) ≡ true → item_width b i ≤ w
  no-wider i h = ltb-false w (item_width b i) (not-true (nat_lt w (item_width b i)) h)

  abbrev amount_of : Meaning → Option RefItem → Meaning → Amount
  amount_of (number n) r w = amount.Number n
  amount_of m (Some r) w = amount.Item r
  amount_of m None (number w) = amount.Pin w
  amount_of m None w = amount.Number 1

  amount-within : (m : Meaning) (o : Option RefItem) (x : Meaning) → Fits b within w o → AreWithin b w (amount_refs (amount_of m o x))
  amount-within (number n) o x h = tt
  amount-within m (Some i) x h = ((h.0, no-wider i h.1), tt)
  amount-within m None (number k) h = tt
  amount-within m None x h = tt

  abbrev level_of : ℕ → Meaning → Option RefItem → Option Level
  level_of plain (number n) r = Some (level.Number n)
  level_of plain (flag true) r = Some (level.Number plain)
  level_of plain m (Some r) = Some (level.Item r)
  level_of plain m None = None

  level-within : (plain : ℕ) (m : Meaning) (o : Option RefItem) → Fits b within w o → WithSome (level_of plain m o) (λ l. AreWithin b w (level_refs l))
  level-within plain (number n) o h = tt
  level-within plain (flag true) o h = tt
  level-within plain m (Some i) h = ((h.0, no-wider i h.1), tt)
  level-within plain m None h = tt

  or-within : (n : ℕ) (o : Option Level) → WithSome o (λ l. AreWithin b w (level_refs l)) → AreWithin b w (level_refs (level_or o n))
  or-within n None h = tt
  or-within n (Some l) h = h

-- what the first of some items stands for
abbrev first_of : List Lineage → List Item → Option RefItem
first_of all [] = None
first_of all (i ∷ is) = Some (ref_to all i)

when-with : {A : Type 0} (c : Bool) (x : A) (P : A → Type 0) → P x → WithSome (when_some c x) P
when-with true x P p = p
when-with false x P p = tt

module _ (e : Elab) (none : IsListOf (meaning_fails e) []) where
  -- the item that a setting names is one that its node has
  pub has-named : (n : Instance) → In (nodes_of e) n → (p : Prop) (i : Item) → In (target (lineages_of e) (setting n p)) i → HasItem (nodes_of e) i
  has-named n h p i t = by (setting n p) refl t
    where
      by : (m : Meaning) → setting n p ≡ m → In (target (lineages_of e) m) i → HasItem (nodes_of e) i
      by (reference path item scope place) q k = let m = meant e none n p i h t in has-item (Some (top_name e)) e.source.now (λ f c x. halts e none f (in-from (all_fields (nodes_of e)) f c) x) path item scope place i k m.there m.own
      by m q k = absurd k

  module _ (waits : ℕ) (b : Block) (block : IsBlockOf (Some (top_name e)) e.source.now waits b) where
    named-fits : (n : Instance) → In (nodes_of e) n → (p : Prop) (i : Item) → In (target (lineages_of e) (setting n p)) i → Contains (items b) (ref_to (lineages_of e) i) × (fits (fit_of p) (width_of n) (item_width b (ref_to (lineages_of e) i)) ≡ true)
    named-fits n h p i t =
        let has = has-named n h p i t in (
          all-listed (Some (top_name e)) e.source.now waits b i block has,
          ap (fits (fit_of p) (width_of n)) (all-wide (Some (top_name e)) e.source.now waits b i block has) ∙ (meant e none n p i h t).as_wide,
        )

    first-fits : (n : Instance) (p : Prop) (ts : List Item) → ((i : Item) → In ts i → Contains (items b) (ref_to (lineages_of e) i) × (fits (fit_of p) (width_of n) (item_width b (ref_to (lineages_of e) i)) ≡ true)) → Fits b (fit_of p) (width_of n) (first_of (lineages_of e) ts)
    first-fits n p [] f = tt
    first-fits n p (i ∷ is) f = f i (inl refl)

    item-fits : (n : Instance) → In (nodes_of e) n → (p : Prop) → Fits b (fit_of p) (width_of n) (item_at (lineages_of e) n p)
    item-fits n h p = first-fits n p (target (lineages_of e) (setting n p)) (λ i t. named-fits n h p i t)

    feed-at : (n : Instance) → In (nodes_of e) n → (p : Prop) → fit_of p ≡ single → AreWide b 1 (feed_refs (feed_at (lineages_of e) n p))
    feed-at n h p s = feed-bit b (width_of n) (setting n p) (item_at (lineages_of e) n p) (subst (λ t. Fits b t (width_of n) (item_at (lineages_of e) n p)) s (item-fits n h p))

    pub gate-at : (n : Instance) → In (nodes_of e) n → (high low : Prop) → fit_of high ≡ single → fit_of low ≡ single → AreWide b 1 (gate_refs (gate_at (lineages_of e) n high low))
    gate-at n h high low x y = gate-bit b (width_of n) (has high n) (has low n) (feed_at (lineages_of e) n high) (feed_at (lineages_of e) n low) (feed-at n h high x) (feed-at n h low y)

    mask-at : (n : Instance) → In (nodes_of e) n → (enable masked : Prop) → fit_of enable ≡ whole → fit_of masked ≡ whole → AreWide b (width_of n) (mask_refs (mask_at (lineages_of e) n enable masked))
    mask-at n h enable masked x y =
        mask-whole b (width_of n) (item_at (lineages_of e) n enable) (item_at (lineages_of e) n masked) (subst (λ t. Fits b t (width_of n) (item_at (lineages_of e) n enable)) x (item-fits n h enable)) (subst (λ t. Fits b t (width_of n) (item_at (lineages_of e) n masked)) y (item-fits n h masked))

    pulse-at : (n : Instance) → In (nodes_of e) n → (p v x : Prop) → fit_of p ≡ single → AreWide b 1 (feed_refs (part_at (lineages_of e) n p v x).pulse)
    pulse-at n h p v x s = pulse-bit b (width_of n) (item_at (lineages_of e) n p) (subst (λ t. Fits b t (width_of n) (item_at (lineages_of e) n p)) s (item-fits n h p))

    amount-at : (n : Instance) → In (nodes_of e) n → (p v x : Prop) → fit_of v ≡ within → AreWithin b (width_of n) (amount_refs (part_at (lineages_of e) n p v x).amount)
    amount-at n h p v x s = amount-within b (width_of n) (setting n v) (item_at (lineages_of e) n v) (setting n x) (subst (λ t. Fits b t (width_of n) (item_at (lineages_of e) n v)) s (item-fits n h v))

    level-at : (n : Instance) → In (nodes_of e) n → (p : Prop) (plain : ℕ) → fit_of p ≡ within → WithSome (level_at (lineages_of e) n p plain) (λ l. AreWithin b (width_of n) (level_refs l))
    level-at n h p plain s = level-within b (width_of n) plain (setting n p) (item_at (lineages_of e) n p) (subst (λ t. Fits b t (width_of n) (item_at (lineages_of e) n p)) s (item-fits n h p))

    -- What a field refers to.

    masks-fit : (n : Instance) → In (nodes_of e) n → AreWide b (width_of n) (mask_refs (mask_at (lineages_of e) n prop.Hwenable prop.Hwmask) ++ mask_refs (mask_at (lineages_of e) n prop.Enable prop.Mask) ++ mask_refs (mask_at (lineages_of e) n prop.Haltenable prop.Haltmask))
    masks-fit n h =
        let P = λ (i : RefItem). Contains (items b) i × (item_width b i ≡ width_of n) in
        let keep = mask_refs (mask_at (lineages_of e) n prop.Hwenable prop.Hwmask) in
        let counts = mask_refs (mask_at (lineages_of e) n prop.Enable prop.Mask) in
        let stops = mask_refs (mask_at (lineages_of e) n prop.Haltenable prop.Haltmask) in
        Each-append P (keep ++ counts) stops (Each-append P keep counts (mask-at n h prop.Hwenable prop.Hwmask refl refl) (mask-at n h prop.Enable prop.Mask refl refl)) (mask-at n h prop.Haltenable prop.Haltmask refl refl)

    bits-fit : (n : Instance) → In (nodes_of e) n → AreWide b 1 (gate_refs (gate_at (lineages_of e) n prop.We prop.Wel) ++ feed_refs (feed_at (lineages_of e) n prop.Hwset) ++ feed_refs (feed_at (lineages_of e) n prop.Hwclr))
    bits-fit n h =
        let P = λ (i : RefItem). Contains (items b) i × (item_width b i ≡ 1) in
        let gate_ = gate_refs (gate_at (lineages_of e) n prop.We prop.Wel) in
        let set_ = feed_refs (feed_at (lineages_of e) n prop.Hwset) in
        let clear_ = feed_refs (feed_at (lineages_of e) n prop.Hwclr) in
        Each-append P (gate_ ++ set_) clear_ (Each-append P gate_ set_ (gate-at n h prop.We prop.Wel refl refl) (feed-at n h prop.Hwset refl)) (feed-at n h prop.Hwclr refl)

    pulses-fit : (n : Instance) → In (nodes_of e) n → WithSome (when_some (is_counter n) (count_of (lineages_of e) n)) (λ c. WithSome c.up (λ p. AreWide b 1 (feed_refs p.pulse)) × WithSome c.down (λ p. AreWide b 1 (feed_refs p.pulse)))
    pulses-fit n h = when-with (is_counter n) (count_of (lineages_of e) n) (λ c. WithSome c.up (λ p. AreWide b 1 (feed_refs p.pulse)) × WithSome c.down (λ p. AreWide b 1 (feed_refs p.pulse))) (
      when-with (has_up n) (part_at (lineages_of e) n prop.Incr prop.Incrvalue prop.Incrwidth) (λ p. AreWide b 1 (feed_refs p.pulse)) (pulse-at n h prop.Incr prop.Incrvalue prop.Incrwidth refl),
      when-with (has_down n) (part_at (lineages_of e) n prop.Decr prop.Decrvalue prop.Decrwidth) (λ p. AreWide b 1 (feed_refs p.pulse)) (pulse-at n h prop.Decr prop.Decrvalue prop.Decrwidth refl),
    )

    amounts-fit : (n : Instance) → In (nodes_of e) n → WithSome (when_some (is_counter n) (count_of (lineages_of e) n)) (λ c. WithSome c.up (λ p. AreWithin b (width_of n) (amount_refs p.amount)) × WithSome c.down (λ p. AreWithin b (width_of n) (amount_refs p.amount)))
    amounts-fit n h = when-with (is_counter n) (count_of (lineages_of e) n) (λ c. WithSome c.up (λ p. AreWithin b (width_of n) (amount_refs p.amount)) × WithSome c.down (λ p. AreWithin b (width_of n) (amount_refs p.amount))) (
      when-with (has_up n) (part_at (lineages_of e) n prop.Incr prop.Incrvalue prop.Incrwidth) (λ p. AreWithin b (width_of n) (amount_refs p.amount)) (amount-at n h prop.Incr prop.Incrvalue prop.Incrwidth refl),
      when-with (has_down n) (part_at (lineages_of e) n prop.Decr prop.Decrvalue prop.Decrwidth) (λ p. AreWithin b (width_of n) (amount_refs p.amount)) (amount-at n h prop.Decr prop.Decrvalue prop.Decrwidth refl),
    )

    levels-fit : (n : Instance) → In (nodes_of e) n → WithSome (when_some (is_counter n) (count_of (lineages_of e) n)) (λ c. WithSome c.high (λ l. AreWithin b (width_of n) (level_refs l)) × WithSome c.low (λ l. AreWithin b (width_of n) (level_refs l)) × AreWithin b (width_of n) (level_refs c.above ++ level_refs c.below))
    levels-fit n h =
        let P = λ (i : RefItem). Contains (items b) i × (item_width b i ≤ width_of n) in
        let above = level_at (lineages_of e) n prop.Incrthreshold (ones_of n) in
        let below = level_at (lineages_of e) n prop.Decrthreshold 0 in
        when-with (is_counter n) (count_of (lineages_of e) n) (λ c. WithSome c.high (λ l. AreWithin b (width_of n) (level_refs l)) × WithSome c.low (λ l. AreWithin b (width_of n) (level_refs l)) × AreWithin b (width_of n) (level_refs c.above ++ level_refs c.below)) (
          level-at n h prop.Incrsaturate (ones_of n) refl,
          level-at n h prop.Decrsaturate 0 refl,
          Each-append P (level_refs (level_or above (ones_of n))) (level_refs (level_or below 0)) (or-within b (width_of n) (ones_of n) above (level-at n h prop.Incrthreshold (ones_of n) refl)) (or-within b (width_of n) 0 below (level-at n h prop.Decrthreshold 0 refl)),
        )

    pub refers : (r : Numbered Lineage) (n : Instance) → In (nodes_of e) n → RefersWell b (field_of e.source.now (lineages_of e) r n)
    refers r n h = record {
      source = source-whole b (width_of n) (has_pin n) (item_at (lineages_of e) n prop.Next) (item-fits n h prop.Next);
      masks = masks-fit n h;
      bits = bits-fit n h;
      pulses = pulses-fit n h;
      amounts = amounts-fit n h;
      levels = levels-fit n h;
    }
