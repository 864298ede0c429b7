-- What a source has in which no rule fails.
use Rattle.std.proofs.Common.{◌≡◌, ◌∙◌, ◌⊎◌, inl, inr, ℕ, Bool, true, false, not, ◌&&◌, ◌||◌, cond, List, [], ◌∷◌, ◌++◌, flat_map, filter, find, Option, None, Some, is_some, refl, sym, ap, subst}
use Rattle.std.specs.List.{AllByRecursion, list_any}
use Rattle.plain_lemmas.proofs.Bools.{and-left, true-of_not as not-false}
use Rattle.rdl_base.specs.declared.fault.Fault.{Fault}
use Rattle.rdl_base.specs.declared.rule.Rule.TheVariants as rules
use Rattle.rdl_tree.specs.Kinds.{same_kind}
use Rattle.rdl_props.specs.Same.{same_prop}
use Rattle.rdl_props.specs.Table.{group_of, props, reference_props, takes_of}
use Rattle.rdl_props.specs.declared.prop.Prop.{Prop}
use Rattle.rdl_props.specs.declared.prop.Prop.TheVariants as prop
use Rattle.rdl_tree.specs.declared.item.Kind.{Kind}
use Rattle.rdl_tree.specs.declared.item.Kind.TheVariants as kind
use Rattle.rdl_tree.specs.declared.item.Source.{Source}
use Rattle.rdl_tree.specs.declared.node.Elab.{Elab}
use Rattle.rdl_values.specs.Elaborated.{nodes_of, top_name}
use Rattle.rdl_values.specs.Faults.{at_, when}
use Rattle.rdl_values.specs.Instances.{Instance, children, is_empty, kind_of, nodes, signals, top_of}
use Rattle.rdl_values.specs.Lineages.{Lineage, lineages_of}
use Rattle.rdl_values.specs.Verdict.{IsListOf}
use Rattle.rdl_values.proofs.Sorted.{none_fails}
use Rattle.rdl_layers.specs.Answers.{IsSettled}
use Rattle.rdl_layers.specs.Fields.{fields_of, has, has_one_of, is_a, is_alias, is_given, is_interrupt, views}
use Rattle.rdl_layers.specs.Forms.{Meaning, reference}
use Rattle.rdl_layers.specs.Forms.{takes_reference, unset}
use Rattle.rdl_layers.specs.declared.rank.Rank.TheVariants as rank
use Rattle.rdl_layers.specs.Settings.{Applied, applied, applied_to, deciding_of, is_assigned, is_false, setting, setting_or, settled, settled_if}
use Rattle.rdl_layers.specs.Phase4.{width_of}
use Rattle.rdl_layers.proofs.Formed.{never_reference}
use Rattle.rdl_nodes.proofs.Members.{In, flat-in, in-either}
use Rattle.rdl_refs.specs.Answers.{IsBound}
use Rattle.rdl_refs.specs.Items.{Item, bad_reference, failures_r, is_wanted, target}
use Rattle.rdl_refs.specs.Leads.{led_to}
use Rattle.rdl_refs.proofs.Listed.{all_judged, no_target}
use Rattle.rdl_refs.specs.Follows.{is_in_alias, is_missing}
use Rattle.rdl_addr.specs.Bits.{bits_of}
use Rattle.rdl_rules.specs.Answers.{meaning_fails}
use Rattle.rdl_rules.specs.Feeds.{item_at}
use Rattle.rdl_rules.specs.FieldRules.{at_node, bad_pulse, interrupt_parts, not_interrupt, of_primary, of_view, too_wide, without_reset}
use Rattle.rdl_rules.specs.Numbers.{all_fields, primaries, registers}
use Rattle.rdl_rules.specs.Phase6.{failures6}
use Rattle.rdl_rules.specs.ReferenceRules.{bad_item, bad_target, fit_of, fits, item_width, of_references, second_reset}
use Rattle.rdl_rules.specs.RegisterRules.{empty_container, of_alias, of_fields, of_register, too_many_fields}
use Rattle.rdl_sound_laws.proofs.Found.{field-in, in-filter}
use Rattle.rdl_sizes.proofs.Settled.{field-width}
use Rattle.rdl_sound_laws.specs.Faultless.{IsFaultless, Leads}
use Rattle.rdl_sound_laws.specs.Meant.{IsMeant}
use Rattle.rdl_sound_laws.proofs.Listed.{in_props, nil-each, nil-left, nil-right, of_each}
use Rattle.rdl_sound_laws.proofs.Nothing.{nothing-fails}

when-nil : (b : Bool) (f : Fault) → when b f ≡ [] → b ≡ false
when-nil true f e = cc
when-nil false f e = refl

-- What is set to something is assigned.

any-in : {X : Type 0} (f : X → Bool) (xs : List X) (x : X) → In xs x → f x ≡ true → list_any f xs ≡ true
any-in f [] x h e = absurd h
any-in f (y ∷ ys) x (inl q) e = ap (λ z. f z || list_any f ys) q ∙ ap (λ b. b || list_any f ys) e
any-in f (y ∷ ys) x (inr h) e = or-more (f y) (list_any f ys) (any-in f ys x h e)
  where
    or-more : (a b : Bool) → b ≡ true → (a || b) ≡ true
    or-more true b q = refl
    or-more false b q = q

found-in : {X : Type 0} (f : X → Bool) (xs : List X) (x : X) → find f xs ≡ Some x → In xs x
found-in f [] x h = cc
found-in f (y ∷ ys) x h = go (f y) h (found-in f ys x)
  where
    go : (b : Bool) → cond b (Some y) (find f ys) ≡ Some x → (find f ys ≡ Some x → In ys x) → In (y ∷ ys) x
    go true q rest = inl (cc q)
    go false q rest = inr (rest q)

same-given : (p : Prop) (a : Applied) → is_given (settled p a) ≡ true → (same_prop p a.candidate.prop ≡ true) × (is_given a.value ≡ true)
same-given p a h = go (same_prop p a.candidate.prop && not (is_some (group_of p) && is_false a.value)) refl h
  where
    go : (b : Bool) → (same_prop p a.candidate.prop && not (is_some (group_of p) && is_false a.value)) ≡ b → is_given (cond b a.value unset) ≡ true → (same_prop p a.candidate.prop ≡ true) × (is_given a.value ≡ true)
    go true q g = (and-left (same_prop p a.candidate.prop) (not (is_some (group_of p) && is_false a.value)) q, g)
    go false q g = cc

given-assigned : (n : Instance) (p : Prop) (d : Meaning) → is_given d ≡ false → is_given (setting_or d n p) ≡ true → is_assigned n p ≡ true
given-assigned n p d none h = go (deciding_of p (applied_to n ++ (applied rank.Table p d ∷ []))) refl h
  where
    last : (a : Applied) → applied rank.Table p d ≡ a → is_given a.value ≡ true → is_assigned n p ≡ true
    last a q g = let no : true ≡ false = sym g ∙ ap (λ (x : Applied). is_given x.value) (sym q) ∙ none in cc

    either : (a : Applied) → In (applied_to n) a ⊎ In (applied rank.Table p d ∷ []) a → (same_prop p a.candidate.prop ≡ true) × (is_given a.value ≡ true) → is_assigned n p ≡ true
    either a (inl i) g = any-in (λ x. same_prop p x.candidate.prop) (applied_to n) a i g.0
    either a (inr (inl q)) g = last a q g.1
    either a (inr (inr x)) g = absurd x

    go : (o : Option Applied) → deciding_of p (applied_to n ++ (applied rank.Table p d ∷ [])) ≡ o → is_given (settled_if p o) ≡ true → is_assigned n p ≡ true
    go None q g = cc
    go (Some a) q g = either a (in-either (applied_to n) (applied rank.Table p d ∷ []) a (found-in _ (applied_to n ++ (applied rank.Table p d ∷ [])) a q)) (same-given p a g)

enables-assigned : (n : Instance) → has prop.Haltenable n ≡ true → is_assigned n prop.Haltenable ≡ true
unfolding setting
enables-assigned n h = given-assigned n prop.Haltenable unset refl h

masks-assigned : (n : Instance) → has prop.Haltmask n ≡ true → is_assigned n prop.Haltmask ≡ true
unfolding setting
masks-assigned n h = given-assigned n prop.Haltmask unset refl h

parts-assigned : (n : Instance) → has_one_of (prop.Haltenable ∷ prop.Haltmask ∷ []) n ≡ true → list_any (is_assigned n) interrupt_parts ≡ true
parts-assigned n h = go (has prop.Haltenable n) (has prop.Haltmask n) refl refl h
  where
    go : (a b : Bool) → has prop.Haltenable n ≡ a → has prop.Haltmask n ≡ b → (a || (b || false)) ≡ true → list_any (is_assigned n) interrupt_parts ≡ true
    go true b p q h = any-in (is_assigned n) interrupt_parts prop.Haltenable (inr (inr (inr (inr (inl refl))))) (enables-assigned n p)
    go false true p q h = any-in (is_assigned n) interrupt_parts prop.Haltmask (inr (inr (inr (inr (inr (inl refl)))))) (masks-assigned n q)
    go false false p q h = cc

by-rule : (f : Instance) → of_primary f ≡ [] → has_one_of (prop.Haltenable ∷ prop.Haltmask ∷ []) f ≡ true → is_interrupt f ≡ true
by-rule f none h = go (is_interrupt f) (list_any (is_assigned f) interrupt_parts) refl (parts-assigned f h) (or-left _ _ (or-left _ _ (when-nil (not_interrupt f) (at_ rules.F8 f.use_.name.place) (nil-right _ (at_node rules.F8 f (not_interrupt f)) (nil-left _ (at_node rules.F9 f (bad_pulse f)) (nil-left _ (at_node rules.F10 f (too_wide f)) none))))))
  where
    or-left : (a b : Bool) → (a || b) ≡ false → a ≡ false
    or-left true b q = cc
    or-left false b q = refl

    go : (i l : Bool) → is_interrupt f ≡ i → l ≡ true → (not i && l) ≡ false → i ≡ true
    go true l p q h = refl
    go false true p q h = cc
    go false false p q h = cc

-- References lead to items.

module _ (e : Elab) (bound : IsBound e) where
  no-bad : (n : Instance) → In (nodes_of e) n → (p : Prop) → bad_reference (lineages_of e) p (setting n p) ≡ []
  no-bad n i p =
      let none = none_fails (failures_r (Some (top_name e)) e.source.now) bound in
      let each : flat_map (λ m. flat_map (λ q. bad_reference (lineages_of e) q (setting m q)) props) (nodes_of e) ≡ [] = sym (all_judged (Some (top_name e)) e.source.now) ∙ none in
      nil-each (λ q. bad_reference (lineages_of e) q (setting n q)) props p (nil-each (λ m. flat_map (λ q. bad_reference (lineages_of e) q (setting m q)) props) (nodes_of e) n each i) (in_props p)

  some-item : (all : List Lineage) (n : Instance) (p : Prop) → (ts : List Item) → target all (setting n p) ≡ ts → list_any (is_wanted p) ts ≡ true → is_some (item_at all n p) ≡ true
  some-item all n p [] q h = cc
  some-item all n p (t ∷ ts) q h = rw q refl

  wanted-there : (l w : Bool) (f : Fault) (g : Fault) → when l f ++ when (not l && not w) g ≡ [] → w ≡ true
  wanted-there true w f g h = cc
  wanted-there false true f g h = refl
  wanted-there false false f g h = cc

  pub leads : (n : Instance) → In (nodes_of e) n → Leads (lineages_of e) n
  leads n i = record {
    to_item = λ p path item scope place s.
        let none : bad_reference (lineages_of e) p (reference path item scope place) ≡ [] = subst (λ m. bad_reference (lineages_of e) p m ≡ []) s (no-bad n i p) in
        let w = wanted-there (is_empty (led_to (lineages_of e) path scope)) (list_any (is_wanted p) (target (lineages_of e) (reference path item scope place))) (at_ rules.R1 place) (at_ rules.R2 place) none in
        some-item (lineages_of e) n p (target (lineages_of e) (setting n p)) refl (subst (λ m. list_any (is_wanted p) (target (lineages_of e) m) ≡ true) (sym s) w);
  }

the-field : (k : Kind) → same_kind kind.Field k ≡ true → k ≡ kind.Field
the-field kind.Field q = refl
the-field _ q = cc

pub field-kind : (cs : List Instance) (f : Instance) → In (filter (is_a kind.Field) cs) f → kind_of f ≡ kind.Field
field-kind [] f h = absurd h
field-kind (c ∷ cs) f h = go (is_a kind.Field c) refl h (field-kind cs f)
  where
    go : (b : Bool) → is_a kind.Field c ≡ b → In (cond b (c ∷ filter (is_a kind.Field) cs) (filter (is_a kind.Field) cs)) f → (In (filter (is_a kind.Field) cs) f → kind_of f ≡ kind.Field) → kind_of f ≡ kind.Field
    go true q (inl t) rest = subst (λ x. kind_of x ≡ kind.Field) t (the-field (kind_of c) q)
    go true q (inr t) rest = rest t
    go false q t rest = rest t

-- Failures of the phase, part by part.

module _ (e : Elab) (clean : IsListOf (meaning_fails e) []) where
  abbrev w : Option (List ℕ)
  w = Some (top_name e)

  abbrev s : Source
  s = e.source.now

  abbrev p1 : List Fault
  p1 = flat_map (of_register (nodes w s)) (registers (nodes w s))

  abbrev p2 : List Fault
  p2 = p1 ++ flat_map empty_container (nodes w s)

  abbrev p3 : List Fault
  p3 = p2 ++ too_many_fields (top_of w s) (nodes w s)

  abbrev p4 : List Fault
  p4 = p3 ++ flat_map (of_references (lineages_of e)) (nodes w s)

  abbrev p5 : List Fault
  p5 = p4 ++ flat_map (λ n. second_reset (children n)) (nodes w s)

  all-nil : p5 ++ second_reset (signals s) ≡ []
  unfolding failures6
  all-nil = nothing-fails e clean

  nil4 : p4 ≡ []
  nil4 = nil-left p4 (flat_map (λ n. second_reset (children n)) (nodes w s)) (nil-left p5 (second_reset (signals s)) all-nil)

  nil1 : p1 ≡ []
  nil1 = nil-left p1 (flat_map empty_container (nodes w s)) (nil-left p2 (too_many_fields (top_of w s) (nodes w s)) (nil-left p3 (flat_map (of_references (lineages_of e)) (nodes w s)) nil4))

  references-nil : (n : Instance) → In (nodes_of e) n → flat_map (bad_target (lineages_of e) n) reference_props ≡ []
  references-nil n i = nil-left (flat_map (bad_target (lineages_of e) n) reference_props) _ (nil-each (of_references (lineages_of e)) (nodes w s) n (nil-right p3 (flat_map (of_references (lineages_of e)) (nodes w s)) nil4) i)

  pub register-nil : (r : Instance) → In (registers (nodes_of e)) r → of_register (nodes_of e) r ≡ []
  register-nil r i = nil-each (of_register (nodes w s)) (registers (nodes w s)) r nil1 i

  -- References mean what they may.

  no-target-bad : (n : Instance) (p : Prop) → takes_reference (takes_of p) ≡ false → bad_target (lineages_of e) n p ≡ []
  no-target-bad n p t = ap (flat_map (bad_item n p (setting n p))) (no_target (lineages_of e) (setting n p) (λ q item scope place. never_reference n p q item scope place t))

  target-nil : (n : Instance) → In (nodes_of e) n → (p : Prop) → bad_target (lineages_of e) n p ≡ []
  target-nil n i p = of_each (bad_target (lineages_of e) n) (no-target-bad n) (references-nil n i) p

  is-meant : (n : Instance) (p : Prop) (i : Item) (m : Meaning) → setting n p ≡ m → In (target (lineages_of e) m) i → bad_item n p m i ≡ [] → IsMeant n p i
  is-meant n p i (reference path item scope place) q t h =
      let a = when (not (fits (fit_of p) (width_of n) (item_width i))) (at_ rules.R3 place) in
      let b = when (is_missing i) (at_ rules.R4 place) in
      let c = when (is_in_alias i) (at_ rules.R5 place) in
      record {
        as_wide = not-false _ (when-nil (not (fits (fit_of p) (width_of n) (item_width i))) (at_ rules.R3 place) (nil-left a b (nil-left (a ++ b) c h)));
        there = when-nil (is_missing i) (at_ rules.R4 place) (nil-right a b (nil-left (a ++ b) c h));
        own = when-nil (is_in_alias i) (at_ rules.R5 place) (nil-right (a ++ b) c h);
      }
  is-meant n p i m q t h = absurd t

  pub meant : (n : Instance) (p : Prop) (i : Item) → In (nodes_of e) n → In (target (lineages_of e) (setting n p)) i → IsMeant n p i
  meant n p i h t = is-meant n p i (setting n p) refl t (nil-each (bad_item n p (setting n p)) (target (lineages_of e) (setting n p)) i (target-nil n h p) t)

  -- Fields.

  own-field : (f : Instance) → In (all_fields (nodes_of e)) f → of_primary f ≡ []
  own-field f i =
      let r = flat-in fields_of (primaries (nodes_of e)) f i in
      let reg = in-filter (λ x. not (is_alias x)) (registers (nodes_of e)) r.0 r.1 in
      of-primary r.0 f (not-alias (registers (nodes_of e)) r.0 r.1) r.2 (register-nil r.0 reg)
    where
      not-alias : (rs : List Instance) (r : Instance) → In (filter (λ x. not (is_alias x)) rs) r → is_alias r ≡ false
      not-alias [] r h = absurd h
      not-alias (x ∷ xs) r h = go (is_alias x) refl h (not-alias xs r)
        where
          go : (b : Bool) → is_alias x ≡ b → In (cond (not b) (x ∷ filter (λ y. not (is_alias y)) xs) (filter (λ y. not (is_alias y)) xs)) r → (In (filter (λ y. not (is_alias y)) xs) r → is_alias r ≡ false) → is_alias r ≡ false
          go true q h rest = rest h
          go false q (inl t) rest = subst (λ y. is_alias y ≡ false) t q
          go false q (inr h) rest = rest h

      of-primary : (r g : Instance) → is_alias r ≡ false → In (fields_of r) g → of_register (nodes_of e) r ≡ [] → of_primary g ≡ []
      of-primary r g a h none =
          let views_ = flat_map (of_view r) (bits_of r) in
          let rest = cond (is_alias r) (of_alias (nodes_of e) r) (of_fields (nodes_of e) r) in
          let both = nil-left (views_ ++ rest) (at_node rules.F14 r (is_empty (fields_of r))) none in
          let mine : of_fields (nodes_of e) r ≡ [] = subst (λ b. cond b (of_alias (nodes_of e) r) (of_fields (nodes_of e) r) ≡ []) a (nil-right views_ rest both) in
          nil-left (of_primary g) (flat_map (without_reset g) (views (nodes_of e) r g)) (nil-each (λ f. of_primary f ++ flat_map (without_reset f) (views (nodes_of e) r f)) (fields_of r) g mine h)

  pub faultless : IsSettled e → IsBound e → AllByRecursion (IsFaultless (lineages_of e)) (all_fields (nodes_of e))
  faultless settled bound = all (all_fields (nodes_of e)) (λ f i. i)
    where
      kind-of-field : (f : Instance) → In (all_fields (nodes_of e)) f → kind_of f ≡ kind.Field
      kind-of-field f i = let r = flat-in fields_of (primaries (nodes_of e)) f i in field-kind (children r.0) f r.2

      all : (fs : List Instance) → ((f : Instance) → In fs f → In (all_fields (nodes_of e)) f) → AllByRecursion (IsFaultless (lineages_of e)) fs
      all [] h = tt
      all (f ∷ fs) h =
          let i = h f (inl refl) in
          let node = field-in w s f i in
          (record { rules = own-field f i; width = field-width e settled f node (kind-of-field f i); leads = leads e bound f node }, all fs (λ g j. h g (inr j)))

  pub halts : (f : Instance) → In (all_fields (nodes_of e)) f → has_one_of (prop.Haltenable ∷ prop.Haltmask ∷ []) f ≡ true → is_interrupt f ≡ true
  halts f i h = by-rule f (own-field f i) h
