-- The signals that reset fields.
use Rattle.std.proofs.Common.{◌≡◌, ◌∙◌, ◌⊎◌, inl, inr, ℕ, ◌==◌, Bool, true, false, not, ◌&&◌, List, [], ◌∷◌, ◌++◌, map, filter, flat_map, Option, None, Some, slice_get, Contains, refl, sym, ap, subst, arith}
use denote.Enum.Bare.{same_true}
use Rattle.std.specs.List.{AllByRecursion, list_any}
use Rattle.std.proofs.lemmas.Bool.{and_parts, eqb-true, not-false}
use Rattle.plain_lemmas.proofs.Bools.{or-false as or-no}
use Rattle.rdl_base.specs.declared.fault.Fault.{Fault}
use Rattle.rb_base.specs.declared.place.Place.{Place}
use Rattle.rdl_base.specs.declared.rule.Rule.TheVariants as rules
use Rattle.rdl_props.specs.Table.{reference_props}
use Rattle.rdl_props.specs.declared.prop.Prop.TheVariants as prop
use Rattle.rdl_tree.specs.contracts.item.Kind as of_kind
use Rattle.rdl_tree.specs.declared.item.Kind.TheVariants as kind
use Rattle.rdl_tree.specs.declared.item.Source.{Source}
use Rattle.rdl_tree.specs.declared.node.Elab.{Elab}
use Rattle.rdl_values.specs.Elaborated.{nodes_of, top_name}
use Rattle.rdl_values.specs.Faults.{at_, when}
use Rattle.rdl_values.specs.Instances.{Instance, children, is_empty, kind_of, most_names, nodes, signals, top_of, with_below}
use Rattle.rdl_values.specs.Lineages.{Lineage, child_of, lineages, lineages_of, nodes_in}
use Rattle.rdl_values.specs.Verdict.{IsListOf}
use Rattle.rdl_values.proofs.Sorted.{none_fails}
use Rattle.rdl_nodes.proofs.Lineages.{all_nodes}
use Rattle.rdl_layers.specs.Fields.{has, is_a}
use Rattle.rdl_layers.specs.Forms.{Meaning, reference}
use Rattle.rdl_layers.specs.Phase4.{width_of}
use Rattle.rdl_layers.specs.Settings.{setting}
use Rattle.rdl_nodes.proofs.Members.{In, each-in, flat-in, in-either, in-flat, in-left, in-map, in-place, in-right, in-to, map-in, place-in}
use Rattle.rdl_nodes.proofs.Order.{behind}
use Rattle.rdl_sound_laws.proofs.Closed.{all-closed}
use Rattle.rdl_refs.specs.Answers.{IsBound}
use Rattle.rdl_refs.specs.Items.{Item, bad_reference, failures_r, is_wanted, target}
use Rattle.rdl_refs.specs.Leads.{led_to}
use Rattle.rdl_refs.specs.declared.item.What.{What}
use Rattle.rdl_refs.specs.declared.item.What.TheVariants as what
use Rattle.rdl_refs.proofs.OneTarget.{AtMost, one_target}
use Rattle.rb_model.specs.declared.block.Block.{Block}
use Rattle.rb_model.specs.declared.block.Signal.{Signal}
use Rattle.rb_model.specs.declared.kinds.ResetBy.{ResetBy}
use Rattle.rb_model.specs.References.{WithSome}
use Rattle.rdl_rules.specs.Answers.{meaning_fails}
use Rattle.rdl_rules.specs.Block.{IsBlockOf, signal_of}
use Rattle.rdl_rules.specs.FieldRules.{at_node}
use Rattle.rdl_rules.specs.Fields.{is_field_reset, nodes_round, reset_by, reset_signals}
use Rattle.rdl_rules.specs.Numbers.{all_signals, number_of, registers}
use Rattle.rdl_rules.specs.Phase6.{failures6}
use Rattle.rdl_rules.specs.ReferenceRules.{bad_target, of_references, second_reset, wide_reset}
use Rattle.rdl_rules.specs.RegisterRules.{empty_container, of_register, too_many_fields}
use Rattle.rdl_fields.proofs.Lists.{filter-in, filter-true, in-filter}
use Rattle.rdl_sound_laws.specs.Standing.{NodeHas}
use Rattle.rdl_sound_laws.proofs.Found.{signal-at}
use Rattle.rdl_sound_laws.proofs.Fed.{none-both}
use Rattle.rdl_block_laws.proofs.Items.{has-named}

none-in : (f : Fault) → Contains [] f → ⊥
none-in f h = let l = h.1 in omega (arith, l)

-- what nothing of a list gives
nil-each : {X : Type 0} (f : X → List Fault) (xs : List X) (x : X) → flat_map f xs ≡ [] → In xs x → f x ≡ []
nil-each f [] x e h = absurd h
nil-each f (y ∷ ys) x e (inl s) = subst (λ z. f z ≡ []) s (none-both (f y) (flat_map f ys) e).0
nil-each f (y ∷ ys) x e (inr h) = nil-each f ys x (none-both (f y) (flat_map f ys) e).1 h

-- the one there is passes, if any does
only : {X : Type 0} (p : X → Bool) (ts : List X) → AtMost ts → list_any p ts ≡ true → (x : X) → In ts x → p x ≡ true
only p [] a h x i = absurd i
only p (t ∷ []) a h x (inl q) = ap p (sym q) ∙ (sym (or-no (p t)) ∙ h)
only p (t ∷ []) a h x (inr i) = absurd i
only p (t ∷ u ∷ ts) a h x i = absurd a

the-signal : (n : Instance) → is_a kind.Signal n ≡ true → kind_of n ≡ kind.Signal
the-signal n e = sym (same_true of_kind.the_type tt kind.Signal (kind_of n) e)

has-signal : (ns : List Instance) (n : Instance) (w : What) → NodeHas ns n kind.Signal w → Contains (all_signals ns) n
has-signal ns n what.Value h = h
has-signal ns n w h = absurd h

wanted-there : (l w : Bool) (f g : Fault) → when l f ++ when (not l && not w) g ≡ [] → w ≡ true
wanted-there true w f g h = cc
wanted-there false true f g h = refl
wanted-there false false f g h = cc

abbrev reset_from : Source → List Lineage → List Instance → ResetBy
reset_from s all (n ∷ ns) = record { signal = Some (number_of n (all_signals (nodes_in all))); low = has prop.Activelow n; sync = not (has prop.Async n) }
reset_from s all [] = record { signal = None; low = true; sync = false }

-- Where a field stands.

module _ (wanted : Option (List ℕ)) (s : Source) where
  in-nodes : (l : Lineage) → In (lineages wanted s) l → In (nodes wanted s) l.node
  in-nodes l i = subst (λ ns. In ns l.node) (all_nodes wanted s) (in-map (λ (x : Lineage). x.node) (lineages wanted s) l i)

  ancestors-in : (up : List Instance) (n : Instance) → In (lineages wanted s) (record { node = n; ancestors = up }) → AllByRecursion (In (nodes wanted s)) up
  ancestors-in [] n i = tt
  ancestors-in (a ∷ up) n i =
      let at = in-place (lineages wanted s) (record { node = n; ancestors = a ∷ up }) i in
      let above = behind wanted s at.0 (record { node = n; ancestors = a ∷ up }) a up at.2 refl in
      let here = place-in (lineages wanted s) above.0 (record { node = a; ancestors = up }) above.2 in
      (in-nodes (record { node = a; ancestors = up }) here, ancestors-in up a here)

  root-in : (n : Instance) → In (signals s) n → In (nodes wanted s) n
  unfolding nodes
  root-in n i = in-left (signals s) (flat_map (with_below most_names) (top_of wanted s)) n i

  -- what stands in the bodies round a field
  round-in : (l : Lineage) → In (lineages wanted s) l → (f n : Instance) → In (nodes_round s (child_of l f)) n → In (nodes wanted s) n
  round-in l i f n h = by (in-either (flat_map children (l.node ∷ l.ancestors)) (signals s) n h)
    where
      up : (a : Instance) → In (l.node ∷ l.ancestors) a → In (nodes wanted s) a
      up a (inl q) = subst (In (nodes wanted s)) q (in-nodes l i)
      up a (inr k) = each-in (In (nodes wanted s)) l.ancestors a (ancestors-in l.ancestors l.node i) k

      by : In (flat_map children (l.node ∷ l.ancestors)) n ⊎ In (signals s) n → In (nodes wanted s) n
      by (inl k) = let a = flat-in children (l.node ∷ l.ancestors) n k in each-in (In (nodes wanted s)) (children a.0) n (each-in (λ x. AllByRecursion (In (nodes wanted s)) (children x)) (nodes wanted s) a.0 (all-closed wanted s) (up a.0 a.1)) a.2
      by (inr k) = root-in n k

-- Reset signals are one bit wide.

module _ (e : Elab) (none : IsListOf (meaning_fails e) []) where
  never : (p : Place) → Contains (failures6 (Some (top_name e)) e.source.now) (at_ rules.R6 p) → ⊥
  never p c = none-in (at_ rules.R6 p) ((none.exact (at_ rules.R6 p)).1 c)

  among : (f : Fault) → In (flat_map (of_references (lineages_of e)) (nodes_of e)) f → Contains (failures6 (Some (top_name e)) e.source.now) f
  unfolding failures6
  among f h =
      let a = flat_map (of_register (nodes_of e)) (registers (nodes_of e)) in
      let b = flat_map empty_container (nodes_of e) in
      let c = too_many_fields (top_of (Some (top_name e)) e.source.now) (nodes_of e) in
      let d = flat_map (of_references (lineages_of e)) (nodes_of e) in
      let g = flat_map (λ n. second_reset (children n)) (nodes_of e) in
      let k = second_reset (signals e.source.now) in
      in-to (a ++ b ++ c ++ d ++ g ++ k) f (in-left (a ++ b ++ c ++ d ++ g) k f (in-left (a ++ b ++ c ++ d) g f (in-right (a ++ b ++ c) d f h)))

  -- nothing is too wide
  clear : (n : Instance) → In (nodes_of e) n → (m : Instance) (t : Bool) → ((f : Fault) → In (at_node rules.R6 m t) f → In (wide_reset (lineages_of e) n) f) → t ≡ false
  clear n h m false inside = refl
  clear n h m true inside =
      let f = at_ rules.R6 m.use_.name.place in
      let mine = in-right (flat_map (bad_target (lineages_of e) n) reference_props) (wide_reset (lineages_of e) n) f (inside f (inl refl)) in
      absurd (never m.use_.name.place (among f (in-flat (of_references (lineages_of e)) (nodes_of e) n f h mine)))

  abbrev own-test : Instance → Bool
  own-test n = is_field_reset n && not (width_of n == 1)

  abbrev named-fault : Item → List Fault
  named-fault i = at_node rules.R6 i.node (not (width_of i.node == 1))

  own-bit : (n : Instance) → In (nodes_of e) n → is_field_reset n ≡ true → width_of n ≡ 1
  own-bit n h r =
      let narrow = clear n h n (own-test n) (λ f i. in-left (at_node rules.R6 n (own-test n)) (flat_map named-fault (target (lineages_of e) (setting n prop.Resetsignal))) f i) in
      let test : not (width_of n == 1) ≡ false = sym (ap (λ x. x && not (width_of n == 1)) r) ∙ narrow in
      eqb-true (width_of n) 1 (not-false (width_of n == 1) test)

  named-bit : (n : Instance) → In (nodes_of e) n → (i : Item) → In (target (lineages_of e) (setting n prop.Resetsignal)) i → width_of i.node ≡ 1
  named-bit n h i t =
      let ts = target (lineages_of e) (setting n prop.Resetsignal) in
      let narrow = clear n h i.node (not (width_of i.node == 1)) (λ f k. in-right (at_node rules.R6 n (own-test n)) (flat_map named-fault ts) f (in-flat named-fault ts i f t k)) in
      eqb-true (width_of i.node) 1 (not-false (width_of i.node == 1) narrow)

  module _ (bound : IsBound e) where
    no-bad : (n : Instance) → In (nodes_of e) n → bad_reference (lineages_of e) prop.Resetsignal (setting n prop.Resetsignal) ≡ []
    unfolding failures_r reference_props
    no-bad n h =
        let each = nil-each (λ m. flat_map (λ p. bad_reference (lineages_of e) p (setting m p)) reference_props) (nodes_of e) n (none_fails (failures_r (Some (top_name e)) e.source.now) bound) h in
        nil-each (λ p. bad_reference (lineages_of e) p (setting n p)) reference_props prop.Resetsignal each (inl refl)

    -- what a setting of resetsignal names is a signal
    named-signal : (n : Instance) → In (nodes_of e) n → (i : Item) → In (target (lineages_of e) (setting n prop.Resetsignal)) i → is_a kind.Signal i.node ≡ true
    named-signal n h i t = by (setting n prop.Resetsignal) refl t
      where
        by : (m : Meaning) → setting n prop.Resetsignal ≡ m → In (target (lineages_of e) m) i → is_a kind.Signal i.node ≡ true
        by (reference path item scope place) q k =
            let ts = target (lineages_of e) (reference path item scope place) in
            let good : bad_reference (lineages_of e) prop.Resetsignal (reference path item scope place) ≡ [] = subst (λ m. bad_reference (lineages_of e) prop.Resetsignal m ≡ []) q (no-bad n h) in
            let any = wanted-there (is_empty (led_to (lineages_of e) path scope)) (list_any (is_wanted prop.Resetsignal) ts) (at_ rules.R1 place) (at_ rules.R2 place) good in
            only (is_wanted prop.Resetsignal) ts (one_target (Some (top_name e)) e.source.now (reference path item scope place)) any i k
        by m q k = absurd k

    -- each signal that may reset a field
    reset-signals : (l : Lineage) → In (lineages_of e) l → (f : Instance) → In (nodes_of e) f → (n : Instance) → In (reset_signals e.source.now (lineages_of e) (child_of l f)) n → Contains (all_signals (nodes_of e)) n × (width_of n ≡ 1)
    reset-signals l i f h n k = by (in-either (map (λ (x : Item). x.node) (target (lineages_of e) (setting f prop.Resetsignal))) (filter is_field_reset (nodes_round e.source.now (child_of l f))) n k)
      where
        by : In (map (λ (x : Item). x.node) (target (lineages_of e) (setting f prop.Resetsignal))) n ⊎ In (filter is_field_reset (nodes_round e.source.now (child_of l f))) n → Contains (all_signals (nodes_of e)) n × (width_of n ≡ 1)
        by (inl g) =
            let t = map-in (λ (x : Item). x.node) (target (lineages_of e) (setting f prop.Resetsignal)) n g in
            let has_ = has-named e none f h prop.Resetsignal t.0 t.1 in
            let signal = has-signal (nodes_of e) t.0.node t.0.what (subst (λ q. NodeHas (nodes_of e) t.0.node q t.0.what) (the-signal t.0.node (named-signal f h t.0 t.1)) has_) in
            subst (λ m. Contains (all_signals (nodes_of e)) m × (width_of m ≡ 1)) t.2 (signal, named-bit f h t.0 t.1)
        by (inr g) =
            let test = filter-true is_field_reset (nodes_round e.source.now (child_of l f)) n g in
            let node = round-in (Some (top_name e)) e.source.now l i f n (filter-in is_field_reset (nodes_round e.source.now (child_of l f)) n g) in
            let signal = in-filter (is_a kind.Signal) (nodes_of e) n node (and_parts (is_a kind.Signal n) (has prop.FieldReset n) test).0 in
            (in-to (all_signals (nodes_of e)) n signal, own-bit n node test)

    pub reset-in : (waits : ℕ) (b : Block) → IsBlockOf (Some (top_name e)) e.source.now waits b → (l : Lineage) → In (lineages_of e) l → (f : Instance) → In (nodes_of e) f
        → WithSome (reset_by e.source.now (lineages_of e) (child_of l f)).signal (λ k. (g : Signal) × (slice_get b.signals k ≡ Some g) × (g.width ≡ 1))
    reset-in waits b block l i f h = by (reset_signals e.source.now (lineages_of e) (child_of l f)) (reset-signals l i f h)
      where
        by : (ns : List Instance) → ((n : Instance) → In ns n → Contains (all_signals (nodes_of e)) n × (width_of n ≡ 1)) → WithSome (reset_from e.source.now (lineages_of e) ns).signal (λ k. (g : Signal) × (slice_get b.signals k ≡ Some g) × (g.width ≡ 1))
        by [] u = tt
        by (n ∷ ns) u =
            let is = u n (inl refl) in
            let number : number_of n (all_signals (nodes_in (lineages_of e))) ≡ number_of n (all_signals (nodes_of e)) = ap (λ ms. number_of n (all_signals ms)) (all_nodes (Some (top_name e)) e.source.now) in
            (signal_of n, ap (slice_get b.signals) number ∙ (ap (λ xs. slice_get xs (number_of n (all_signals (nodes_of e)))) block.signals ∙ signal-at (Some (top_name e)) e.source.now n is.0), is.1)
