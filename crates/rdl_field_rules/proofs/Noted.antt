-- Failures of a field noted one after the other.
use Rattle.std.proofs.Common.{◌≡◌, ◌∙◌, ℕ, ◌/◌, ◌==◌, ◌&&◌, ◌||◌, Bool, not, List, [], ◌∷◌, ◌++◌, refl, sym, ap}
use Rattle.rdl_base.specs.declared.fault.Fault.{Fault}
use Rattle.rb_base.specs.declared.place.Place.{Place}
use Rattle.rdl_base.specs.declared.rule.Rule.TheVariants as rules
use Rattle.rdl_props.specs.declared.prop.Prop.TheVariants as prop
use Rattle.rdl_values.specs.Faults.{at_, when}
use Rattle.rdl_values.specs.Instances.{Instance}
use Rattle.rdl_failures.specs.Noted.{IsNoted, with_all}
use Rattle.rdl_failures.proofs.Noting.{both_noted}
use Rattle.rdl_layers.specs.Fields.{has, has_on_read, has_on_write, has_one_of, hardware_writes, is_counter, is_interrupt, is_once, reads, writes}
use Rattle.rdl_layers.specs.Phase4.{number_at}
use Rattle.rdl_layers.specs.Settings.{setting}
use Rattle.rdl_addr.specs.Bits.{Bits}
use Rattle.rdl_rules.specs.FieldRules.{bad_pulse, counter_parts, encode_too_wide, is_unread, not_interrupt, of_primary, of_view, too_wide, two_of, without_reset}

pub primary_noted : {b1 b2 b3 b4 b5 b6 b7 d1 d2 d3 d4 d5 d6 d7 : Bool} {s0 s1 s2 s3 s4 s5 s6 s7 : List Fault} (n : Instance) (at : Place) → n.use_.name.place ≡ at
    → b1 ≡ (is_unread (setting n prop.Sw) && is_unread (setting n prop.Hw))
    → b2 ≡ (not (hardware_writes n) && has_one_of (prop.Next ∷ prop.We ∷ prop.Wel ∷ prop.Intr ∷ []) n)
    → b3 ≡ (not (is_counter n) && has_one_of counter_parts n)
    → b4 ≡ two_of (is_counter n ∷ is_interrupt n ∷ has prop.Singlepulse n ∷ [])
    → b5 ≡ not_interrupt n
    → b6 ≡ bad_pulse n
    → b7 ≡ too_wide n
    → IsNoted (when b1 (at_ rules.F1 at)) d1 s0 s1 → IsNoted (when b2 (at_ rules.F5 at)) d2 s1 s2 → IsNoted (when b3 (at_ rules.F6 at)) d3 s2 s3 → IsNoted (when b4 (at_ rules.F7 at)) d4 s3 s4
    → IsNoted (when b5 (at_ rules.F8 at)) d5 s4 s5 → IsNoted (when b6 (at_ rules.F9 at)) d6 s5 s6 → IsNoted (when b7 (at_ rules.F10 at)) d7 s6 s7
    → s7 ≡ with_all (of_primary n) s0
primary_noted {b1} {b2} {b3} {b4} {b5} {b6} {b7} {d1} {d2} {d3} {d4} {d5} {d6} {d7} {s0} {s1} {s2} {s3} {s4} {s5} {s6} {s7} n at p e1 e2 e3 e4 e5 e6 e7 h1 h2 h3 h4 h5 h6 h7 =
    let g2 = both_noted _ _ d1 d2 s0 s1 s2 h1 h2 in
    let g3 = both_noted _ _ _ d3 s0 s2 s3 g2 h3 in
    let g4 = both_noted _ _ _ d4 s0 s3 s4 g3 h4 in
    let g5 = both_noted _ _ _ d5 s0 s4 s5 g4 h5 in
    let g6 = both_noted _ _ _ d6 s0 s5 s6 g5 h6 in
    let g7 = both_noted _ _ _ d7 s0 s6 s7 g6 h7 in
    g7.put
    ∙ (λ i. with_all (when (e1 i) (at_ rules.F1 (sym p i)) ++ when (e2 i) (at_ rules.F5 (sym p i)) ++ when (e3 i) (at_ rules.F6 (sym p i)) ++ when (e4 i) (at_ rules.F7 (sym p i)) ++ when (e5 i) (at_ rules.F8 (sym p i)) ++ when (e6 i) (at_ rules.F9 (sym p i)) ++ when (e7 i) (at_ rules.F10 (sym p i))) s0)

pub view_noted : {b2 b3 b4 w d2 d3 d4 d13 : Bool} {s0 s1 s2 s3 s4 : List Fault} (r : Instance) (b : Bits) (at : Place) (bits : ℕ × ℕ) (access : ℕ) → b.node.use_.name.place ≡ at → bits ≡ (b.high, b.low) → access ≡ number_at r prop.Accesswidth
    → b2 ≡ ((writes b.node || has_on_read b.node) && not (bits.0 / access == bits.1 / access))
    → b3 ≡ (has_on_write b.node && not (writes b.node))
    → b4 ≡ (has_on_read b.node && not (reads b.node))
    → w ≡ encode_too_wide b.node
    → IsNoted (when b2 (at_ rules.F2 at)) d2 s0 s1 → IsNoted (when b3 (at_ rules.F3 at)) d3 s1 s2 → IsNoted (when b4 (at_ rules.F4 at)) d4 s2 s3 → IsNoted (when w (at_ rules.F13 at)) d13 s3 s4
    → s4 ≡ with_all (of_view r b) s0
view_noted {b2} {b3} {b4} {w} {d2} {d3} {d4} {d13} {s0} {s1} {s2} {s3} {s4} r b at bits access p q a e2 e3 e4 e13 h2 h3 h4 h13 =
    let g3 = both_noted _ _ d2 d3 s0 s1 s2 h2 h3 in
    let g4 = both_noted _ _ _ d4 s0 s2 s3 g3 h4 in
    let g13 = both_noted _ _ _ d13 s0 s3 s4 g4 h13 in
    let split : b2 ≡ ((writes b.node || has_on_read b.node) && not (b.high / number_at r prop.Accesswidth == b.low / number_at r prop.Accesswidth)) = e2 ∙ (λ i. (writes b.node || has_on_read b.node) && not ((q i).0 / a i == (q i).1 / a i)) in
    g13.put ∙ (λ i. with_all (when (split i) (at_ rules.F2 (sym p i)) ++ when (e3 i) (at_ rules.F3 (sym p i)) ++ when (e4 i) (at_ rules.F4 (sym p i)) ++ when (e13 i) (at_ rules.F13 (sym p i))) s0)

pub once_noted : {b d : Bool} {s t : List Fault} (f v : Instance) (at : Place) → v.use_.name.place ≡ at → b ≡ (is_once v && not (has prop.Reset f)) → IsNoted (when b (at_ rules.F11 at)) d s t → t ≡ with_all (without_reset f v) s
once_noted {s = s} f v at p e h = h.put ∙ (λ i. with_all (when (e i) (at_ rules.F11 (sym p i))) s)
