-- What is collected, and what the definitions list, fail alike.
use Rattle.std.proofs.Common.{◌≡◌, ◌↔◌, ◌⊎◌, inl, inr, true, List, [], ◌∷◌, ◌++◌, flat_map, filter, Option, Some, Contains, refl, sym, ap, subst}
use Rattle.std.specs.List.{AllByRecursion}
use Rattle.rdl_base.specs.declared.fault.Fault.{Fault}
use Rattle.rb_base.specs.declared.place.Place.{Place}
use Rattle.rdl_base.specs.declared.rule.Rule.{Rule}
use Rattle.rdl_base.specs.declared.rule.Rule.TheVariants as rules
use Rattle.rdl_tree.specs.declared.expr.Name.{Name}
use Rattle.rdl_tree.specs.declared.expr.Path.{Path}
use Rattle.rdl_tree.specs.declared.item.Kind.TheVariants as kind
use Rattle.rdl_tree.specs.declared.node.Elab.{Elab}
use Rattle.rdl_tree.specs.Kinds.{same_kind}
use Rattle.rdl_props.specs.Table.{reference_props}
use Rattle.rdl_props.specs.declared.prop.Prop.{Prop}
use Rattle.rdl_values.specs.Bodies.{Scope}
use Rattle.rdl_values.specs.Elaborated.{nodes_of, top_name}
use Rattle.rdl_values.specs.Faults.{at_}
use Rattle.rdl_values.specs.Instances.{Instance, children, kind_of}
use Rattle.rdl_values.specs.Lineages.{Lineage, lineages_of}
use Rattle.rdl_values.specs.Verdict.{IsListOf}
use Rattle.rdl_layers.specs.Fields.{is_a}
use Rattle.rdl_layers.specs.Settings.{Meaning, enum_of, flag, hard, intr, named, number, reference, setting, text, unset}
use Rattle.rdl_refs.specs.Answers.{AreCircling}
use Rattle.rdl_refs.specs.Follows.{FailsR7}
use Rattle.rdl_refs.specs.Items.{target}
use Rattle.rdl_rules.specs.Answers.{meaning_fails}
use Rattle.rdl_rules.specs.Numbers.{registers}
use Rattle.rdl_rules.specs.Phase6.{failures6}
use Rattle.rdl_rules.specs.ReferenceRules.{bad_item, bad_target, of_references, second_reset, wide_reset}
use Rattle.rdl_rules.specs.RegisterRules.{of_register}
use Rattle.rdl_nodes.proofs.Members.{In, flat-in, in-either, in-flat, in-from, in-left, in-right, in-to}
use Rattle.rdl_fields.proofs.Lists.{filter-in, in-filter}
use Rattle.rdl_meaning_rules.specs.Collected.{collected, of_containers, of_count, of_fields, of_registers, of_resets, of_roots}
use Rattle.rdl_sound_laws.proofs.Free.{all-free}

abbrev OnFields : Elab → Type 0
OnFields e = AllByRecursion (λ n. (p : Prop) (q : Path) (item : Option Name) (scope : Scope) (place : Place) → setting n p ≡ reference q item scope place → kind_of n ≡ kind.Field) (nodes_of e)

-- a failure of a setting's references needs a reference
refers : (all : List Lineage) (n : Instance) (p : Prop) (m : Meaning) (f : Fault) → In (flat_map (bad_item n p m) (target all m)) f → (q : Path) × (item : Option Name) × (scope : Scope) × (place : Place) × (m ≡ reference q item scope place)
refers all n p (reference q item scope place) f h = (q, item, scope, place, refl)
refers all n p unset f h = absurd h
refers all n p (flag b) f h = absurd h
refers all n p (number k) f h = absurd h
refers all n p (text s) f h = absurd h
refers all n p (named w) f h = absurd h
refers all n p (intr k) f h = absurd h
refers all n p (hard b) f h = absurd h
refers all n p (enum_of k scope) f h = absurd h

each-of : (P : Instance → Type 0) (ns : List Instance) (n : Instance) → AllByRecursion P ns → In ns n → P n
each-of P [] n h i = absurd i
each-of P (m ∷ ms) n h (inl e) = subst P e h.0
each-of P (m ∷ ms) n h (inr i) = each-of P ms n h.1 i

module _ (e : Elab) (agree : (f : Fault) → Contains (of_registers e) f ↔ Contains (flat_map (of_register (nodes_of e)) (registers (nodes_of e))) f) (on : OnFields e) where
  abbrev d1 : List Fault
  d1 = flat_map (of_register (nodes_of e)) (registers (nodes_of e))

  abbrev d4 : List Fault
  d4 = flat_map (of_references (lineages_of e)) (nodes_of e)

  abbrev d5 : List Fault
  d5 = flat_map (λ n. second_reset (children n)) (nodes_of e)

  abbrev defined : List Fault
  defined = d1 ++ of_containers e ++ of_count e ++ d4 ++ d5 ++ of_roots e

  -- where each part of the definitions' list is

  at1 : (f : Fault) → In d1 f → In defined f
  at1 f h = in-left (d1 ++ of_containers e ++ of_count e ++ d4 ++ d5) (of_roots e) f (in-left (d1 ++ of_containers e ++ of_count e ++ d4) d5 f (in-left (d1 ++ of_containers e ++ of_count e) d4 f (in-left (d1 ++ of_containers e) (of_count e) f (in-left d1 (of_containers e) f h))))

  at2 : (f : Fault) → In (of_containers e) f → In defined f
  at2 f h = in-left (d1 ++ of_containers e ++ of_count e ++ d4 ++ d5) (of_roots e) f (in-left (d1 ++ of_containers e ++ of_count e ++ d4) d5 f (in-left (d1 ++ of_containers e ++ of_count e) d4 f (in-left (d1 ++ of_containers e) (of_count e) f (in-right d1 (of_containers e) f h))))

  at3 : (f : Fault) → In (of_count e) f → In defined f
  at3 f h = in-left (d1 ++ of_containers e ++ of_count e ++ d4 ++ d5) (of_roots e) f (in-left (d1 ++ of_containers e ++ of_count e ++ d4) d5 f (in-left (d1 ++ of_containers e ++ of_count e) d4 f (in-right (d1 ++ of_containers e) (of_count e) f h)))

  at4 : (f : Fault) → In d4 f → In defined f
  at4 f h = in-left (d1 ++ of_containers e ++ of_count e ++ d4 ++ d5) (of_roots e) f (in-left (d1 ++ of_containers e ++ of_count e ++ d4) d5 f (in-right (d1 ++ of_containers e ++ of_count e) d4 f h))

  at5 : (f : Fault) → In d5 f → In defined f
  at5 f h = in-left (d1 ++ of_containers e ++ of_count e ++ d4 ++ d5) (of_roots e) f (in-right (d1 ++ of_containers e ++ of_count e ++ d4) d5 f h)

  at6 : (f : Fault) → In (of_roots e) f → In defined f
  at6 f h = in-right (d1 ++ of_containers e ++ of_count e ++ d4 ++ d5) (of_roots e) f h

  abbrev a3 : List Fault
  a3 = of_registers e ++ of_containers e ++ of_count e

  abbrev a5 : List Fault
  a5 = a3 ++ of_fields e ++ of_resets e

  from-resets : (f : Fault) → In (of_resets e) f → In defined f
  from-resets f h =
      let q = flat-in (λ n. wide_reset (lineages_of e) n ++ second_reset (children n)) (nodes_of e) f h in
      by q.0 q.1 (in-either (wide_reset (lineages_of e) q.0) (second_reset (children q.0)) f q.2)
    where
      by : (n : Instance) → In (nodes_of e) n → In (wide_reset (lineages_of e) n) f ⊎ In (second_reset (children n)) f → In defined f
      by n i (inl g) = at4 f (in-flat (of_references (lineages_of e)) (nodes_of e) n f i (in-right (flat_map (bad_target (lineages_of e) n) reference_props) (wide_reset (lineages_of e) n) f g))
      by n i (inr g) = at5 f (in-flat (λ m. second_reset (children m)) (nodes_of e) n f i g)

  from-fields : (f : Fault) → In (of_fields e) f → In defined f
  from-fields f h =
      let q = flat-in (λ n. flat_map (bad_target (lineages_of e) n) reference_props) (filter (is_a kind.Field) (nodes_of e)) f h in
      at4 f (in-flat (of_references (lineages_of e)) (nodes_of e) q.0 f (filter-in (is_a kind.Field) (nodes_of e) q.0 q.1) (in-left (flat_map (bad_target (lineages_of e) q.0) reference_props) (wide_reset (lineages_of e) q.0) f q.2))

  to-defined : (f : Fault) → In (collected e) f → In defined f
  to-defined f h = six (in-either a5 (of_roots e) f h)
    where
      two : In (of_registers e) f ⊎ In (of_containers e) f → In defined f
      two (inl g) = at1 f (in-from d1 f ((agree f).0 (in-to (of_registers e) f g)))
      two (inr g) = at2 f g

      three : In (of_registers e ++ of_containers e) f ⊎ In (of_count e) f → In defined f
      three (inl g) = two (in-either (of_registers e) (of_containers e) f g)
      three (inr g) = at3 f g

      four : In a3 f ⊎ In (of_fields e) f → In defined f
      four (inl g) = three (in-either (of_registers e ++ of_containers e) (of_count e) f g)
      four (inr g) = from-fields f g

      five : In (a3 ++ of_fields e) f ⊎ In (of_resets e) f → In defined f
      five (inl g) = four (in-either a3 (of_fields e) f g)
      five (inr g) = from-resets f g

      six : In a5 f ⊎ In (of_roots e) f → In defined f
      six (inl g) = five (in-either (a3 ++ of_fields e) (of_resets e) f g)
      six (inr g) = at6 f g

  -- and where each part of what is collected is

  on1 : (f : Fault) → In (of_registers e) f → In (collected e) f
  on1 f h = in-left a5 (of_roots e) f (in-left (a3 ++ of_fields e) (of_resets e) f (in-left a3 (of_fields e) f (in-left (of_registers e ++ of_containers e) (of_count e) f (in-left (of_registers e) (of_containers e) f h))))

  on2 : (f : Fault) → In (of_containers e) f → In (collected e) f
  on2 f h = in-left a5 (of_roots e) f (in-left (a3 ++ of_fields e) (of_resets e) f (in-left a3 (of_fields e) f (in-left (of_registers e ++ of_containers e) (of_count e) f (in-right (of_registers e) (of_containers e) f h))))

  on3 : (f : Fault) → In (of_count e) f → In (collected e) f
  on3 f h = in-left a5 (of_roots e) f (in-left (a3 ++ of_fields e) (of_resets e) f (in-left a3 (of_fields e) f (in-right (of_registers e ++ of_containers e) (of_count e) f h)))

  on4 : (f : Fault) → In (of_fields e) f → In (collected e) f
  on4 f h = in-left a5 (of_roots e) f (in-left (a3 ++ of_fields e) (of_resets e) f (in-right a3 (of_fields e) f h))

  on5 : (f : Fault) → In (of_resets e) f → In (collected e) f
  on5 f h = in-left a5 (of_roots e) f (in-right (a3 ++ of_fields e) (of_resets e) f h)

  on6 : (f : Fault) → In (of_roots e) f → In (collected e) f
  on6 f h = in-right a5 (of_roots e) f h

  is-field : (n : Instance) → kind_of n ≡ kind.Field → is_a kind.Field n ≡ true
  is-field n k = ap (same_kind kind.Field) k

  back-references : (f : Fault) → In d4 f → In (collected e) f
  back-references f h =
      let q = flat-in (of_references (lineages_of e)) (nodes_of e) f h in
      by q.0 q.1 (in-either (flat_map (bad_target (lineages_of e) q.0) reference_props) (wide_reset (lineages_of e) q.0) f q.2)
    where
      by : (n : Instance) → In (nodes_of e) n → In (flat_map (bad_target (lineages_of e) n) reference_props) f ⊎ In (wide_reset (lineages_of e) n) f → In (collected e) f
      by n i (inl g) =
          let p = flat-in (bad_target (lineages_of e) n) reference_props f g in
          let r = refers (lineages_of e) n p.0 (setting n p.0) f p.2 in
          let field = each-of (λ m. (p : Prop) (q : Path) (item : Option Name) (scope : Scope) (place : Place) → setting m p ≡ reference q item scope place → kind_of m ≡ kind.Field) (nodes_of e) n on i p.0 r.0 r.1 r.2 r.3 r.4 in
          on4 f (in-flat (λ m. flat_map (bad_target (lineages_of e) m) reference_props) (filter (is_a kind.Field) (nodes_of e)) n f (in-filter (is_a kind.Field) (nodes_of e) n i (is-field n field)) g)
      by n i (inr g) = on5 f (in-flat (λ m. wide_reset (lineages_of e) m ++ second_reset (children m)) (nodes_of e) n f i (in-left (wide_reset (lineages_of e) n) (second_reset (children n)) f g))

  back-seconds : (f : Fault) → In d5 f → In (collected e) f
  back-seconds f h =
      let q = flat-in (λ n. second_reset (children n)) (nodes_of e) f h in
      on5 f (in-flat (λ m. wide_reset (lineages_of e) m ++ second_reset (children m)) (nodes_of e) q.0 f q.1 (in-right (wide_reset (lineages_of e) q.0) (second_reset (children q.0)) f q.2))

  from-defined : (f : Fault) → In defined f → In (collected e) f
  from-defined f h = six (in-either (d1 ++ of_containers e ++ of_count e ++ d4 ++ d5) (of_roots e) f h)
    where
      two : In d1 f ⊎ In (of_containers e) f → In (collected e) f
      two (inl g) = on1 f (in-from (of_registers e) f ((agree f).1 (in-to d1 f g)))
      two (inr g) = on2 f g

      three : In (d1 ++ of_containers e) f ⊎ In (of_count e) f → In (collected e) f
      three (inl g) = two (in-either d1 (of_containers e) f g)
      three (inr g) = on3 f g

      four : In (d1 ++ of_containers e ++ of_count e) f ⊎ In d4 f → In (collected e) f
      four (inl g) = three (in-either (d1 ++ of_containers e) (of_count e) f g)
      four (inr g) = back-references f g

      five : In (d1 ++ of_containers e ++ of_count e ++ d4) f ⊎ In d5 f → In (collected e) f
      five (inl g) = four (in-either (d1 ++ of_containers e ++ of_count e) d4 f g)
      five (inr g) = back-seconds f g

      six : In (d1 ++ of_containers e ++ of_count e ++ d4 ++ d5) f ⊎ In (of_roots e) f → In (collected e) f
      six (inl g) = five (in-either (d1 ++ of_containers e ++ of_count e ++ d4) d5 f g)
      six (inr g) = on6 f g

  to-six : (f : Fault) → In defined f → In (failures6 (Some (top_name e)) e.source.now) f
  unfolding failures6
  to-six f h = h

  from-six : (f : Fault) → In (failures6 (Some (top_name e)) e.source.now) f → In defined f
  unfolding failures6
  from-six f h = h

  -- The rule of a failure.

  fails-by : (r : Rule) (p : Place) → (r ≡ rules.R7 → ⊥) → Contains (failures6 (Some (top_name e)) e.source.now) (at_ r p) → meaning_fails e r p
  fails-by rules.R7 p never h = absurd (never refl)
  fails-by _ p never h = h

  seven : (r : Rule) → (r ≡ rules.R7) ⊎ (r ≡ rules.R7 → ⊥)
  seven rules.R7 = inl refl
  seven _ = inr (λ q. cc)

  by-fails : (r : Rule) (p : Place) → (r ≡ rules.R7 → ⊥) → meaning_fails e r p → Contains (failures6 (Some (top_name e)) e.source.now) (at_ r p)
  by-fails rules.R7 p never h = absurd (never refl)
  by-fails _ p never h = h

  seven-fails : (r : Rule) (p : Place) → r ≡ rules.R7 → FailsR7 (lineages_of e) p → meaning_fails e r p
  seven-fails r p q h = subst (λ s. meaning_fails e s p) (sym q) h

  fails-seven : (r : Rule) (p : Place) → r ≡ rules.R7 → meaning_fails e r p → FailsR7 (lineages_of e) p
  fails-seven r p q h = subst (λ s. meaning_fails e s p) q h

  pub whole : (circles list : List Fault) → AreCircling e circles → IsListOf (λ r p. Contains (collected e ++ circles) (at_ r p)) list → IsListOf (meaning_fails e) list
  whole circles list circling is = record { ordered = is.ordered; exact = λ f. (to f, from f) }
    where
      to : (f : Fault) → Contains list f → meaning_fails e f.rule f.place
      to f h = by (in-either (collected e) circles f (in-from (collected e ++ circles) f ((is.exact f).0 h)))
        where
          by : In (collected e) f ⊎ In circles f → meaning_fails e f.rule f.place
          by (inl g) =
              let six = to-six f (to-defined f g) in
              fails-by f.rule f.place ((all-free (Some (top_name e)) e.source.now).free f six) (in-to (failures6 (Some (top_name e)) e.source.now) f six)
          by (inr g) = let r = (circling.exact f).0 (in-to circles f g) in seven-fails f.rule f.place r.0 r.1

      from : (f : Fault) → meaning_fails e f.rule f.place → Contains list f
      from f h = (is.exact f).1 (in-to (collected e ++ circles) f (by (seven f.rule)))
        where
          by : (f.rule ≡ rules.R7) ⊎ (f.rule ≡ rules.R7 → ⊥) → In (collected e ++ circles) f
          by (inl q) = in-right (collected e) circles f (in-from circles f ((circling.exact f).1 (q, fails-seven f.rule f.place q h)))
          by (inr never) = in-left (collected e) circles f (from-defined f (from-six f (in-from (failures6 (Some (top_name e)) e.source.now) f (by-fails f.rule f.place never h))))
