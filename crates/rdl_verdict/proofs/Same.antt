-- The name of the top decides all phases of a tree.
use Rattle.std.proofs.Common.{◌≡◌, ◌∙◌, inl, inr, ℕ, List, [], ◌∷◌, ◌++◌, filter, flat_map, map, Option, Contains, option_to_list, refl, sym, ap, subst}
use Rattle.rdl_base.specs.declared.fault.Fault.{Fault}
use Rattle.rb_base.specs.declared.place.Place.{Place}
use Rattle.rdl_base.specs.declared.rule.Rule.{Rule}
use Rattle.rdl_base.specs.declared.rule.Rule.TheVariants as rules
use Rattle.rdl_tree.specs.declared.item.Kind.TheVariants as kind
use Rattle.rdl_tree.specs.declared.item.Source.{Source}
use Rattle.rdl_props.specs.Table.{reference_props}
use Rattle.rdl_values.specs.Bodies.{standing}
use Rattle.rdl_values.specs.Faults.{at_}
use Rattle.rdl_values.specs.Instances.{body, children, given_by, most_names, nodes, signals, top_of, with_below}
use Rattle.rdl_values.specs.Lineages.{Lineage, alone, lineages, lineages_below}
use Rattle.rdl_values.specs.Top.{root, top_seen, top_use_of}
use Rattle.rdl_values.specs.Verdict.{Fails, FirstOf, IsListOf, Phase}
use Rattle.rdl_verdict.specs.Verdict.{meanings, places, settings}
use Rattle.rb_model.specs.declared.block.Block.{Block}
use Rattle.rdl_layers.specs.Fields.{is_a}
use Rattle.rdl_layers.specs.Phase4.{failures4, fails4, of_body, of_locals, of_node}
use Rattle.rdl_layers.specs.Settings.{setting}
use Rattle.rdl_addr.specs.Bits.{bits_of}
use Rattle.rdl_addr.specs.Layout.{Placed, layout, placed_from, regalign}
use Rattle.rdl_addr.specs.Rules as addr
use Rattle.rdl_refs.specs.Follows.{FailsR7}
use Rattle.rdl_refs.specs.Items.{bad_reference, failures_r}
use Rattle.rdl_rules.specs.Phase5.{fails5}
use Rattle.rdl_rules.specs.Phase6.{failures6, fails6}
use Rattle.rdl_rules.specs.Phase7.{failures7, fails7, narrow_register}
use Rattle.rdl_rules.specs.ReferenceRules.{of_references, second_reset}
use Rattle.rdl_rules.specs.Block.{IsBlockOf, fields, reg_of, signal_of, views}
use Rattle.rdl_rules.specs.Numbers.{all_signals, registers}
use Rattle.rdl_rules.specs.Words.{AreByAddress, read_words, write_words}
use Rattle.rdl_rules.specs.RegisterRules.{empty_container, of_register, too_many_fields}

module _ (v w : Option (List ℕ)) (s : Source) (same : top_use_of v s ≡ top_use_of w s) where
  pub same-top : top_of v s ≡ top_of w s
  same-top = ap (λ o. flat_map (λ u. given_by (top_seen u)) (option_to_list o)) same

  pub same-nodes : nodes v s ≡ nodes w s
  unfolding nodes
  same-nodes = ap (λ t. signals s ++ flat_map (with_below most_names) t) same-top

  pub same-lineages : lineages v s ≡ lineages w s
  unfolding lineages
  same-lineages = ap (λ t. map alone (signals s) ++ flat_map (lineages_below most_names []) t) same-top

  same-layout : layout v s ≡ layout w s
  unfolding layout
  same-layout = ap (λ t. flat_map (placed_from most_names regalign 0) t) same-top

  pub same-registers : addr.registers v s ≡ addr.registers w s
  same-registers = ap (filter (λ (p : Placed). is_a kind.Reg p.node)) same-layout

  same-groups : addr.all_groups v s ≡ addr.all_groups w s
  unfolding addr.all_groups
  same-groups = ap (λ t. flat_map (addr.with_groups most_names regalign) t) same-top

  pub same4 : failures4 v s ≡ failures4 w s
  unfolding failures4
  same4 = ap (λ ns. of_body ([], root s) ++ flat_map (λ n. of_locals n ++ of_body (n.above, body n) ++ of_node n) ns) same-nodes

  pub same-ab : addr.failures_ab v s ≡ addr.failures_ab w s
  unfolding addr.failures_ab
  same-ab = λ j.
      flat_map addr.small_stride (same-groups j)
      ++ flat_map addr.no_alignment (same-nodes j)
      ++ flat_map addr.misaligned (same-registers j)
      ++ flat_map addr.too_large (same-registers j)
      ++ addr.overlaps (same-registers j)
      ++ addr.too_many (same-top j) (same-registers j)
      ++ flat_map (λ r. flat_map (addr.of_bits r) (standing (bits_of r))) (filter (is_a kind.Reg) (same-nodes j))

  pub same-r : failures_r v s ≡ failures_r w s
  unfolding failures_r
  same-r = λ j. flat_map (λ n. flat_map (λ p. bad_reference (same-lineages j) p (setting n p)) reference_props) (same-nodes j)

  pub same6 : failures6 v s ≡ failures6 w s
  unfolding failures6
  same6 = λ j.
      flat_map (of_register (same-nodes j)) (registers (same-nodes j))
      ++ flat_map empty_container (same-nodes j)
      ++ too_many_fields (same-top j) (same-nodes j)
      ++ flat_map (of_references (same-lineages j)) (same-nodes j)
      ++ flat_map (λ n. second_reset (children n)) (same-nodes j)
      ++ second_reset (signals s)

  same7 : failures7 v s ≡ failures7 w s
  unfolding failures7
  same7 = ap (flat_map narrow_register) same-nodes

  -- Phases.

  pub phase4 : (list : List Fault) → IsListOf (fails4 w s) list → IsListOf (fails4 v s) list
  phase4 list = subst (λ fs. IsListOf (λ r p. Contains fs (at_ r p)) list) (sym same4)

  pub phase5 : (list : List Fault) → IsListOf (fails5 w s) list → IsListOf (fails5 v s) list
  phase5 list h = subst (λ fs. IsListOf (λ r p. Contains (fs ++ failures_r v s) (at_ r p)) list) (sym same-ab) (subst (λ fs. IsListOf (λ r p. Contains (addr.failures_ab w s ++ fs) (at_ r p)) list) (sym same-r) h)

  -- where the last phase fails, by its failures and the nodes
  failing : List Fault → List Lineage → Fails
  failing fs all rules.R7 p = FailsR7 all p
  failing fs all r p = Contains fs (at_ r p)

  of-failing : (u : Option (List ℕ)) (r : Rule) (p : Place) → failing (failures6 u s) (lineages u s) r p ≡ fails6 u s r p
  unfolding failing
  of-failing u rules.R7 p = refl
  of-failing u r p = refl

  pub phase6 : (list : List Fault) → IsListOf (fails6 w s) list → IsListOf (fails6 v s) list
  phase6 list h = record {
    ordered = h.ordered;
    exact = λ f.
        let here = h.exact f in
        let there : fails6 w s f.rule f.place ≡ fails6 v s f.rule f.place = sym (of-failing w f.rule f.place) ∙ ap (λ fs. failing fs (lineages w s) f.rule f.place) (sym same6) ∙ ap (λ ls. failing (failures6 v s) ls f.rule f.place) (sym same-lineages) ∙ of-failing v f.rule f.place in
        (λ c. subst (λ X. X) there (here.0 c), λ x. here.1 (subst (λ X. X) (sym there) x));
  }

  pub phase7 : (list : List Fault) → IsListOf (fails7 w s) list → IsListOf (fails7 v s) list
  phase7 list = subst (λ fs. IsListOf (λ r p. Contains fs (at_ r p)) list) (sym same7)

  step : (P Q : Phase) (ps qs : List Phase) (list : List Fault) → ((l : List Fault) → P l → Q l) → (FirstOf ps list → FirstOf qs list) → FirstOf (P ∷ ps) list → FirstOf (Q ∷ qs) list
  step P Q ps qs list f g (inl h) = inl (f list h.0, h.1)
  step P Q ps qs list f g (inr h) = inr (f [] h.0, g h.1)

  pub later : (list : List Fault) → FirstOf (settings w s ∷ places w s ∷ meanings w s ∷ []) list → FirstOf (settings v s ∷ places v s ∷ meanings v s ∷ []) list
  later list = step (settings w s) (settings v s) (places w s ∷ meanings w s ∷ []) (places v s ∷ meanings v s ∷ []) list phase4 (step (places w s) (places v s) (meanings w s ∷ []) (meanings v s ∷ []) list phase5 (step (meanings w s) (meanings v s) [] [] list phase6 (λ e. e)))

  -- The block.

  pub same-block : (waits : ℕ) (b : Block) → IsBlockOf w s waits b → IsBlockOf v s waits b
  same-block waits b h = record {
    name = subst (λ t. map (λ n. n.use_.name.text.now) t ≡ b.name ∷ []) (sym same-top) h.name;
    signals = subst (λ ns. b.signals ≡ map signal_of (all_signals ns)) (sym same-nodes) h.signals;
    fields_ = subst (λ ls. b.fields ≡ fields s ls) (sym same-lineages) h.fields_;
    views_ = subst (λ ls. b.views ≡ views ls) (sym same-lineages) h.views_;
    regs = subst (λ ns. b.regs ≡ map reg_of (registers ns)) (sym same-nodes) h.regs;
    reads = subst (λ rs. AreByAddress (read_words rs) b.reads) (sym same-registers) h.reads;
    writes = subst (λ rs. AreByAddress (write_words rs) b.writes) (sym same-registers) h.writes;
    waits_ = h.waits_;
    each_item = h.each_item;
    ordered = h.ordered;
  }
