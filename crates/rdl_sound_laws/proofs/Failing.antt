-- What is known where no rule on meaning fails.
use Rattle.std.proofs.Common.{◌≡◌, ◌∙◌, inl, ℕ, ◌/◌, ◌==◌, ◌&&◌, ◌||◌, Bool, true, false, not, cond, [], ◌++◌, flat_map, Contains, Some, refl, sym, ap, subst, arith}
use Rattle.std.proofs.lemmas.Bool.Decides.{nat_tests}
use Rattle.rdl_base.specs.declared.fault.Fault.{Fault}
use Rattle.rb_base.specs.declared.place.Place.{Place}
use Rattle.rdl_base.specs.declared.rule.Rule.TheVariants as rules
use Rattle.rdl_tree.specs.declared.node.Elab.{Elab}
use Rattle.rdl_props.specs.declared.prop.Prop.TheVariants as prop
use Rattle.rdl_values.specs.Elaborated.{nodes_of, top_name}
use Rattle.rdl_values.specs.Faults.{at_}
use Rattle.rdl_values.specs.Instances.{Instance, children, is_empty, signals, top_of}
use Rattle.rdl_values.specs.Lineages.{lineages_of}
use Rattle.rdl_values.specs.Verdict.{IsListOf}
use Rattle.rdl_layers.specs.Fields.{fields_of, has, has_on_read, has_on_write, is_alias, is_given, reads, writes}
use Rattle.rdl_layers.specs.Forms.{Meaning, unset, flag, number, text, named, intr, hard, enum_of, reference}
use Rattle.rdl_layers.specs.Phase4.{number_at}
use Rattle.rdl_layers.specs.Settings.{setting}
use Rattle.rdl_nodes.proofs.Members.{In, in-flat, in-left, in-to}
use Rattle.rdl_addr.specs.Bits.{Bits, bits_of}
use Rattle.rb_model.specs.declared.kinds.OnRead.TheVariants as on_read
use Rattle.rb_model.specs.Effects.{has_read_effect}
use Rattle.rdl_rules.specs.Answers.{meaning_fails}
use Rattle.rdl_rules.specs.FieldRules.{at_node, encode_too_wide, of_view, spans_words}
use Rattle.rdl_rules.specs.Fields.{on_read_of}
use Rattle.rdl_rules.specs.Numbers.{registers}
use Rattle.rdl_rules.specs.Phase6.{failures6}
use Rattle.rdl_rules.specs.ReferenceRules.{of_references, second_reset}
use Rattle.rdl_rules.specs.RegisterRules.{empty_container, of_alias, of_fields, of_register, too_many_fields}

pub none-in : (f : Fault) → Contains [] f → ⊥
none-in f h = let l = h.1 in omega (arith, l)

module _ (e : Elab) (clean : IsListOf (meaning_fails e) []) where
  never : (p : Place) → Contains (failures6 (Some (top_name e)) e.source.now) (at_ rules.F2 p) → ⊥
  never p c = none-in (at_ rules.F2 p) ((clean.exact (at_ rules.F2 p)).1 c)

  pub among : (f : Fault) → In (flat_map (of_register (nodes_of e)) (registers (nodes_of e))) f → Contains (failures6 (Some (top_name e)) e.source.now) f
  unfolding failures6
  among f h =
      let a = flat_map (of_register (nodes_of e)) (registers (nodes_of e)) in
      let b = flat_map empty_container (nodes_of e) in
      let c = too_many_fields (top_of (Some (top_name e)) e.source.now) (nodes_of e) in
      let d = flat_map (of_references (lineages_of e)) (nodes_of e) in
      let g = flat_map (λ n. second_reset (children n)) (nodes_of e) in
      let k = second_reset (signals e.source.now) in
      in-to (a ++ b ++ c ++ d ++ g ++ k) f (in-left (a ++ b ++ c ++ d ++ g) k f (in-left (a ++ b ++ c ++ d) g f (in-left (a ++ b ++ c) d f (in-left (a ++ b) c f (in-left a b f h)))))

  -- a view through which software changes its field lies in one word
  pub in-one-word : (r : Instance) → In (registers (nodes_of e)) r → (b : Bits) → In (bits_of r) b → spans_words r b ≡ false
  in-one-word r i b h = by (spans_words r b) refl
    where
      by : (t : Bool) → spans_words r b ≡ t → spans_words r b ≡ false
      by false q = q
      by true q =
          let f = at_ rules.F2 b.node.use_.name.place in
          let first : In (at_node rules.F2 b.node (spans_words r b)) f = subst (λ t. In (at_node rules.F2 b.node t) f) (sym q) (inl refl) in
          let x = at_node rules.F2 b.node (spans_words r b) in
          let y = at_node rules.F3 b.node (has_on_write b.node && not (writes b.node)) in
          let z = at_node rules.F4 b.node (has_on_read b.node && not (reads b.node)) in
          let w = at_node rules.F13 b.node (encode_too_wide b.node) in
          let view : In (of_view r b) f = in-left (x ++ y ++ z) w f (in-left (x ++ y) z f (in-left x y f first)) in
          let bits = flat_map (of_view r) (bits_of r) in
          let own = cond (is_alias r) (of_alias (nodes_of e) r) (of_fields (nodes_of e) r) in
          let last = at_node rules.F14 r (is_empty (fields_of r)) in
          let register : In (of_register (nodes_of e) r) f = in-left (bits ++ own) last f (in-left bits own f (in-flat (of_view r) (bits_of r) b f h view)) in
          absurd (never b.node.use_.name.place (among f (in-flat (of_register (nodes_of e)) (registers (nodes_of e)) r f i register)))

-- A read that has an effect is set on the view.

or-last : (g c s : Bool) → has_read_effect (cond c on_read.RClr (cond s on_read.RSet on_read.Off)) ≡ true → (g || (c || (s || false))) ≡ true
or-last true c s e = refl
or-last false true s e = refl
or-last false false true e = refl
or-last false false false e = cc e

set-by : (v : Instance) → on_read_of v ≡ cond (has prop.Rclr v) on_read.RClr (cond (has prop.Rset v) on_read.RSet on_read.Off) → has_read_effect (on_read_of v) ≡ true → has_on_read v ≡ true
set-by v is e = or-last (has prop.Onread v) (has prop.Rclr v) (has prop.Rset v) (sym (ap has_read_effect is) ∙ e)

pub read-set : (v : Instance) → has_read_effect (on_read_of v) ≡ true → has_on_read v ≡ true
read-set v e = by (setting v prop.Onread) refl
  where
    by : (m : Meaning) → setting v prop.Onread ≡ m → has_on_read v ≡ true
    by (named w) q = ap (λ m. is_given m || (has prop.Rclr v || (has prop.Rset v || false))) q
    by unset q = set-by v (rw q refl) e
    by (flag b) q = set-by v (rw q refl) e
    by (number k) q = set-by v (rw q refl) e
    by (text t) q = set-by v (rw q refl) e
    by (intr x) q = set-by v (rw q refl) e
    by (hard b) q = set-by v (rw q refl) e
    by (enum_of x scope) q = set-by v (rw q refl) e
    by (reference path item scope place) q = set-by v (rw q refl) e

either-set : (w o s : Bool) → (o ≡ true → s ≡ true) → (w || o) ≡ true → (w || s) ≡ true
either-set true o s f e = refl
either-set false o s f e = f e

one-quotient : (t : Bool) (x y : ℕ) → t ≡ true → (t && not (x == y)) ≡ false → x ≡ y
one-quotient true x y e h = equal (x == y) refl h
  where
    equal : (b : Bool) → (x == y) ≡ b → not b ≡ false → x ≡ y
    equal true q f = grind (arith, nat_tests, q)
    equal false q f = cc f
one-quotient false x y e h = cc e

-- so its high and its low bit are of one word
pub same-word : (r : Instance) (b : Bits) → (writes b.node || has_read_effect (on_read_of b.node)) ≡ true → spans_words r b ≡ false → b.high / number_at r prop.Accesswidth ≡ b.low / number_at r prop.Accesswidth
same-word r b changes once = one-quotient (writes b.node || has_on_read b.node) (b.high / number_at r prop.Accesswidth) (b.low / number_at r prop.Accesswidth) (either-set (writes b.node) (has_read_effect (on_read_of b.node)) (has_on_read b.node) (read-set b.node) changes) once
