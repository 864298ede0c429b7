-- The failures of meaning do not depend on addresses.
use Rattle.std.specs.List.{list_any}
use Rattle.std.proofs.Common.{◌≡◌, ℕ, ◌/◌, ◌^◌, ◌==◌, nat_lt, Bool, false, not, ◌&&◌, ◌||◌, cond, refl, sym, ap, ◌∙◌, List, [], ◌∷◌, ◌++◌, map, flat_map, filter, length, Option, option_to_list}
use Rattle.std.proofs.lemmas.List.{length-map}
use Rattle.rdl_base.specs.declared.fault.Fault.{Fault}
use Rattle.rdl_base.specs.declared.rule.Rule.TheVariants as rules
use Rattle.rdl_tree.specs.declared.item.Kind.TheVariants as kind
use Rattle.rdl_tree.specs.declared.item.Source.{Source}
use Rattle.rdl_verdict_laws.specs.Plain.{plain_source}
use Rattle.rdl_props.specs.declared.prop.Prop.{Prop}
use Rattle.rdl_props.specs.declared.prop.Prop.TheVariants as prop
use Rattle.rdl_props.specs.Table.{reference_props}
use Rattle.rdl_values.specs.Bodies.{around, standing}
use Rattle.rdl_values.specs.Faults.{at_, when}
use Rattle.rdl_values.specs.Instances.{Instance, children, signals, top_of, with_below, nodes, most_names, is_empty}
use Rattle.rdl_values.specs.Lineages.{Lineage, lineages}
use Rattle.rdl_values.specs.Values.{visible_enum}
use Rattle.rdl_verdict_laws.specs.PlainInstances.{plain_instance, plain_lineage}
use Rattle.rdl_verdict_laws.proofs.Lists.{flat_id, flat_same, filter_under, any_same, both, standing_under}
use Rattle.rdl_verdict_laws.proofs.Bodies.{around-plain}
use Rattle.rdl_verdict_laws.proofs.Uses.{empty-plain}
use Rattle.rdl_verdict_laws.proofs.Instances.{children-plain, signals-plain, top-plain, nodes-plain, below-plain, lineages-plain}
use Rattle.rdl_layers.specs.Fields.{is_a, is_container, fields_of, is_given, is_alias_of, views, is_counter, is_interrupt}
use Rattle.rdl_layers.specs.Forms.{Meaning, unset, flag, number, text, named, intr, hard, enum_of, reference}
use Rattle.rdl_layers.specs.Phase4.{width_of}
use Rattle.rdl_layers.specs.Settings.{setting}
use Rattle.rdl_verdict_laws.specs.PlainSettings.{plain_meaning}
use Rattle.rdl_verdict_laws.proofs.Meanings.{tested}
use Rattle.rdl_verdict_laws.proofs.Settings.{setting-plain, assigned-plain}
use Rattle.rdl_verdict_laws.proofs.Fields.{tests, fields-plain, has-plain, one_of-plain, reads-plain, writes-plain, once-plain, on_read-plain, on_write-plain, hardware_writes-plain, alias-plain, alias_of-plain, views-plain, number_at-plain, width-plain}
use Rattle.rdl_addr.specs.Bits.{Bits, bits_of}
use Rattle.rdl_verdict_laws.specs.PlainPlaces.{plain_bits}
use Rattle.rdl_verdict_laws.proofs.Placing.{bits-plain}
use Rattle.rdl_refs.specs.declared.item.What.{What}
use Rattle.rdl_refs.specs.declared.item.What.TheVariants as what
use Rattle.rdl_refs.specs.Items.{Item, target}
use Rattle.rdl_verdict_laws.specs.PlainItems.{plain_item}
use Rattle.rdl_verdict_laws.proofs.References.{target-plain, missing-plain, in_alias-plain}
use Rattle.rdl_rules.specs.FieldRules.{at_node, is_unread, spans_words, counter_parts, two_of, interrupt_parts, is_nonsticky, not_interrupt, is_zero, bad_pulse, is_above, bad_count_width, numbers, too_wide, has_wide_entry, encode_too_wide, of_view, of_primary, without_reset}
use Rattle.rdl_rules.specs.Fields.{is_field_reset, hardware_first}
use Rattle.rdl_rules.specs.Numbers.{registers}
use Rattle.rdl_rules.specs.Phase6.{failures6}
use Rattle.rdl_rules.specs.ReferenceRules.{item_width, fit_of, fits, bad_item, bad_target, wide_reset, second_reset, of_references}
use Rattle.rdl_rules.specs.RegisterRules.{is_same_bits, differs, against_primary, of_alias, of_fields, of_register, empty_container, most_fields, too_many_fields}
use Rattle.rdl_verdict_laws.proofs.Counted.{registers-plain}

-- Fields.

pub counter-plain : (f : Instance) → is_counter (plain_instance f) ≡ is_counter f
counter-plain f = has-plain prop.Counter f

pub interrupt-plain : (f : Instance) → is_interrupt (plain_instance f) ≡ is_interrupt f
interrupt-plain f = has-plain prop.Intr f

unread-plain : (f : Instance) (p : Prop) → is_unread (setting (plain_instance f) p) ≡ is_unread (setting f p)
unread-plain f p = tests is_unread (tested is_unread (λ n s. refl) (λ p n s q. refl)) f p

spans-plain : (r : Instance) (b : Bits) → spans_words (plain_instance r) (plain_bits b) ≡ spans_words r b
spans-plain r b = λ i. (writes-plain b.node i || on_read-plain b.node i) && not (b.high / number_at-plain r prop.Accesswidth i == b.low / number_at-plain r prop.Accesswidth i)

not_interrupt-plain : (f : Instance) → not_interrupt (plain_instance f) ≡ not_interrupt f
not_interrupt-plain f = λ i.
    (not (interrupt-plain f i) && list_any (λ p. assigned-plain f p i) interrupt_parts)
    || (tests is_nonsticky (tested is_nonsticky (λ n s. refl) (λ p n s q. refl)) f prop.Intr i && one_of-plain (prop.Sticky ∷ prop.Stickybit ∷ []) f i)
    || (interrupt-plain f i && one_of-plain (prop.We ∷ prop.Wel ∷ []) f i)

pub first-plain : (f : Instance) → hardware_first (setting (plain_instance f) prop.Precedence) ≡ hardware_first (setting f prop.Precedence)
first-plain f = tests hardware_first (tested hardware_first (λ n s. refl) (λ p n s q. refl)) f prop.Precedence

pulse-plain : (f : Instance) → bad_pulse (plain_instance f) ≡ bad_pulse f
pulse-plain f = λ i.
    has-plain prop.Singlepulse f i
    && (not (width-plain f i == 1) || not (tests is_zero (tested is_zero (λ n s. refl) (λ p n s q. refl)) f prop.Reset i) || hardware_writes-plain f i || first-plain f i || on_write-plain f i || on_read-plain f i || not (writes-plain f i) || once-plain f i)

above-plain : (f : Instance) (k : ℕ) (p : Prop) → is_above k (setting (plain_instance f) p) ≡ is_above k (setting f p)
above-plain f k p = tests (is_above k) (tested (is_above k) (λ n s. refl) (λ p n s q. refl)) f p

count-plain : (f : Instance) (w : ℕ) (p : Prop) → bad_count_width w (setting (plain_instance f) p) ≡ bad_count_width w (setting f p)
count-plain f w p = tests (bad_count_width w) (tested (bad_count_width w) (λ n s. refl) (λ p n s q. refl)) f p

wide-plain : (f : Instance) → too_wide (plain_instance f) ≡ too_wide f
wide-plain f =
    (λ i. list_any (λ p. is_above (2 ^ width-plain f i) (setting (plain_instance f) p)) numbers || list_any (λ p. bad_count_width (width-plain f i) (setting (plain_instance f) p)) (prop.Incrwidth ∷ prop.Decrwidth ∷ []))
    ∙ (λ i. list_any (λ p. above-plain f (2 ^ width_of f) p i) numbers || list_any (λ p. count-plain f (width_of f) p i) (prop.Incrwidth ∷ prop.Decrwidth ∷ []))

abbrev encode_by : ℕ → Meaning → Bool
encode_by w (enum_of n scope) = list_any (has_wide_entry w) (option_to_list (visible_enum (around scope) n))
encode_by w _ = false

is_encode_by : (f : Instance) → encode_too_wide f ≡ encode_by (width_of f) (setting f prop.Encode)
is_encode_by f = refl

encode-plain : (f : Instance) → encode_too_wide (plain_instance f) ≡ encode_too_wide f
encode-plain f =
    is_encode_by (plain_instance f) ∙ (λ i. encode_by (width-plain f i) (setting-plain f prop.Encode i))
    ∙ tested (encode_by (width_of f)) (λ n s. ap (λ r. list_any (has_wide_entry (width_of f)) (option_to_list (visible_enum r n))) (around-plain s)) (λ p n s q. refl) (setting f prop.Encode)
    ∙ sym (is_encode_by f)

view-plain : (r : Instance) (b : Bits) → of_view (plain_instance r) (plain_bits b) ≡ of_view r b
view-plain r b = λ i.
    at_node rules.F2 b.node (spans-plain r b i)
    ++ at_node rules.F3 b.node (on_write-plain b.node i && not (writes-plain b.node i))
    ++ at_node rules.F4 b.node (on_read-plain b.node i && not (reads-plain b.node i))
    ++ at_node rules.F13 b.node (encode-plain b.node i)

primary-plain : (f : Instance) → of_primary (plain_instance f) ≡ of_primary f
primary-plain f = λ i.
    at_node rules.F1 f (unread-plain f prop.Sw i && unread-plain f prop.Hw i)
    ++ at_node rules.F5 f (not (hardware_writes-plain f i) && one_of-plain (prop.Next ∷ prop.We ∷ prop.Wel ∷ prop.Intr ∷ []) f i)
    ++ at_node rules.F6 f (not (counter-plain f i) && one_of-plain counter_parts f i)
    ++ at_node rules.F7 f (two_of (counter-plain f i ∷ interrupt-plain f i ∷ has-plain prop.Singlepulse f i ∷ []))
    ++ at_node rules.F8 f (not_interrupt-plain f i)
    ++ at_node rules.F9 f (pulse-plain f i)
    ++ at_node rules.F10 f (wide-plain f i)

reset-plain : (f v : Instance) → without_reset (plain_instance f) (plain_instance v) ≡ without_reset f v
reset-plain f v = λ i. at_node rules.F11 v (once-plain v i && not (tests is_given (tested is_given (λ n s. refl) (λ p n s q. refl)) f prop.Reset i))

-- Registers.

differs-plain : (r a : Instance) (p : Prop) → differs (plain_instance r) (plain_instance a) p ≡ differs r a p
differs-plain r a p = λ i. not (number_at-plain r p i == number_at-plain a p i)

against-plain : (a r : Instance) → against_primary (plain_instance a) (plain_instance r) ≡ against_primary a r
against-plain a r =
    let f : Bits → List Fault = λ b. at_node rules.F12 b.node (not (list_any (is_same_bits b) (bits_of (plain_instance r)))) in
    let h : Bits → List Fault = λ b. at_node rules.F12 b.node (not (list_any (is_same_bits b) (bits_of r))) in
    λ i. at_node rules.F12 a (differs-plain r a prop.Regwidth i || differs-plain r a prop.Accesswidth i)
    ++ (ap (flat_map f) (bits-plain a) ∙ flat_same f h plain_bits (λ b. ap (λ t. at_node rules.F12 b.node (not t)) (ap (list_any (is_same_bits (plain_bits b))) (bits-plain r) ∙ any_same (is_same_bits (plain_bits b)) (is_same_bits b) plain_bits (λ c. refl) (bits_of r))) (bits_of a)) i

of_alias-plain : (all : List Instance) (a : Instance) → of_alias (map plain_instance all) (plain_instance a) ≡ of_alias all a
of_alias-plain all a =
    let p : Instance → Bool = λ r. is_alias_of r a in
    ap (λ rs. flat_map (against_primary (plain_instance a)) (filter (λ (r : Instance). is_alias_of r (plain_instance a)) rs)) (registers-plain all)
    ∙ ap (flat_map (against_primary (plain_instance a))) (filter_under (λ (r : Instance). is_alias_of r (plain_instance a)) p plain_instance (λ r. alias_of-plain r a) (registers all))
    ∙ flat_same (against_primary (plain_instance a)) (against_primary a) plain_instance (against-plain a) (filter p (registers all))

of_fields-plain : (all : List Instance) (r : Instance) → of_fields (map plain_instance all) (plain_instance r) ≡ of_fields all r
of_fields-plain all r =
    let f : Instance → List Fault = λ f. of_primary f ++ flat_map (without_reset f) (views (map plain_instance all) (plain_instance r) f) in
    let h : Instance → List Fault = λ f. of_primary f ++ flat_map (without_reset f) (views all r f) in
    ap (flat_map f) (fields-plain r)
    ∙ flat_same f h plain_instance (λ x i. primary-plain x i ++ (ap (flat_map (without_reset (plain_instance x))) (views-plain all r x) ∙ flat_same (without_reset (plain_instance x)) (without_reset x) plain_instance (reset-plain x) (views all r x)) i) (fields_of r)

register-plain : (all : List Instance) (r : Instance) → of_register (map plain_instance all) (plain_instance r) ≡ of_register all r
register-plain all r = λ i.
    (ap (flat_map (of_view (plain_instance r))) (bits-plain r) ∙ flat_same (of_view (plain_instance r)) (of_view r) plain_bits (view-plain r) (bits_of r)) i
    ++ cond (alias-plain r i) (of_alias-plain all r i) (of_fields-plain all r i)
    ++ at_node rules.F14 r ((ap is_empty (fields-plain r) ∙ empty-plain plain_instance (fields_of r)) i)

container-plain : (n : Instance) → empty_container (plain_instance n) ≡ empty_container n
container-plain n = ap (λ t. at_node rules.F14 n (is_container n && not t)) (ap (list_any (is_a kind.Reg)) (below-plain most_names n) ∙ any_same (is_a kind.Reg) (is_a kind.Reg) plain_instance (λ m. refl) (with_below most_names n))

many-plain : (top all : List Instance) → too_many_fields (map plain_instance top) (map plain_instance all) ≡ too_many_fields top all
many-plain top all =
    let f : ℕ → Instance → List Fault = λ k n. at_node rules.F15 n (nat_lt most_fields k) in
    let size : length (filter (is_a kind.Field) (map plain_instance all)) ≡ length (filter (is_a kind.Field) all) = ap length (filter_under (is_a kind.Field) (is_a kind.Field) plain_instance (λ n. refl) all) ∙ length-map (filter (is_a kind.Field) all) plain_instance in
    ap (λ k. flat_map (f k) (map plain_instance top)) size ∙ flat_id (f (length (filter (is_a kind.Field) all))) plain_instance (λ n. refl) top

-- References.

width_at : (n : Instance) (above : List Instance) (w : What) → item_width (plain_item (record { node = n; ancestors = above; what = w })) ≡ item_width (record { node = n; ancestors = above; what = w })
width_at n above what.Value = width-plain n
width_at n above _ = refl

bad_item-plain : (n : Instance) (p : Prop) (m : Meaning) (i : Item) → bad_item (plain_instance n) p (plain_meaning m) (plain_item i) ≡ bad_item n p m i
bad_item-plain n p (reference path item scope place) i = λ j.
    when (not (fits (fit_of p) (width-plain n j) (width_at i.node i.ancestors i.what j))) (at_ rules.R3 place)
    ++ when (missing-plain i j) (at_ rules.R4 place)
    ++ when (in_alias-plain i j) (at_ rules.R5 place)
bad_item-plain n p (enum_of m s) i = refl
bad_item-plain n p unset i = refl
bad_item-plain n p (flag b) i = refl
bad_item-plain n p (number k) i = refl
bad_item-plain n p (text s) i = refl
bad_item-plain n p (named w) i = refl
bad_item-plain n p (intr e) i = refl
bad_item-plain n p (hard b) i = refl

pub target_of-plain : (all : List Lineage) (n : Instance) (p : Prop) → target (map plain_lineage all) (setting (plain_instance n) p) ≡ map plain_item (target all (setting n p))
target_of-plain all n p = ap (target (map plain_lineage all)) (setting-plain n p) ∙ target-plain all (setting n p)

bad_target-plain : (all : List Lineage) (n : Instance) (p : Prop) → bad_target (map plain_lineage all) (plain_instance n) p ≡ bad_target all n p
bad_target-plain all n p =
    (λ i. flat_map (bad_item (plain_instance n) p (setting-plain n p i)) (target_of-plain all n p i))
    ∙ flat_same (bad_item (plain_instance n) p (plain_meaning (setting n p))) (bad_item n p (setting n p)) plain_item (bad_item-plain n p (setting n p)) (target all (setting n p))

pub resets-plain : (n : Instance) → is_field_reset (plain_instance n) ≡ is_field_reset n
resets-plain n = ap (λ t. is_a kind.Signal n && t) (has-plain prop.FieldReset n)

wide_reset-plain : (all : List Lineage) (n : Instance) → wide_reset (map plain_lineage all) (plain_instance n) ≡ wide_reset all n
wide_reset-plain all n =
    let f : Item → List Fault = λ i. at_node rules.R6 i.node (not (width_of i.node == 1)) in
    λ i. at_node rules.R6 n (resets-plain n i && not (width-plain n i == 1))
    ++ (ap (flat_map f) (target_of-plain all n prop.Resetsignal) ∙ flat_id f plain_item (λ x. ap (λ k. at_node rules.R6 x.node (not (k == 1))) (width-plain x.node)) (target all (setting n prop.Resetsignal))) i

second-plain : (ns : List Instance) → second_reset (map plain_instance ns) ≡ second_reset ns
second-plain ns =
    let f : List Instance × Instance → List Fault = λ n. at_node rules.R8 n.1 (list_any is_field_reset n.0 && is_field_reset n.1) in
    ap (flat_map f) (standing_under plain_instance ns)
    ∙ flat_id f (both plain_instance) (λ x i. at_node rules.R8 x.1 (any_same is_field_reset is_field_reset plain_instance resets-plain x.0 i && resets-plain x.1 i)) (standing ns)

references-plain : (all : List Lineage) (n : Instance) → of_references (map plain_lineage all) (plain_instance n) ≡ of_references all n
references-plain all n = λ i. flat_map (λ p. bad_target-plain all n p i) reference_props ++ wide_reset-plain all n i

pub failures6-plain : (w : Option (List ℕ)) (s : Source) → failures6 w (plain_source s) ≡ failures6 w s
unfolding failures6
failures6-plain w s =
    let f : Instance → List Fault = λ n. second_reset (children n) in
    λ i.
    ((λ j. flat_map (of_register (nodes-plain w s j)) (registers (nodes-plain w s j))) ∙ ap (flat_map (of_register (map plain_instance (nodes w s)))) (registers-plain (nodes w s))
    ∙ flat_same (of_register (map plain_instance (nodes w s))) (of_register (nodes w s)) plain_instance (register-plain (nodes w s)) (registers (nodes w s))) i
    ++ (ap (flat_map empty_container) (nodes-plain w s) ∙ flat_id empty_container plain_instance container-plain (nodes w s)) i
    ++ ((λ j. too_many_fields (top-plain w s j) (nodes-plain w s j)) ∙ many-plain (top_of w s) (nodes w s)) i
    ++ ((λ j. flat_map (of_references (lineages-plain w s j)) (nodes-plain w s j)) ∙ flat_same (of_references (map plain_lineage (lineages w s))) (of_references (lineages w s)) plain_instance (references-plain (lineages w s)) (nodes w s)) i
    ++ (ap (flat_map f) (nodes-plain w s) ∙ flat_id f plain_instance (λ n. ap second_reset (children-plain n) ∙ second-plain (children n)) (nodes w s)) i
    ++ (ap second_reset (signals-plain s) ∙ second-plain (signals s)) i
