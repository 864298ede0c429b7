-- The rules on what the settings of a field mean (this project's profile of SystemRDL 2.0, clause 9).
use Rattle.std.specs.Prelude.{ℕ, ◌/◌, ◌^◌, Bool, true, false, not, ◌&&◌, ◌||◌, List, [], ◌∷◌, ◌++◌, nat_lt, nat_le, ◌==◌, option_to_list}
use Rattle.std.specs.List.{list_any}
use Rattle.rb_base.specs.declared.trigger.Trigger.TheVariants as trigger
use Rattle.rdl_base.specs.declared.fault.Fault.{Fault}
use Rattle.rdl_base.specs.declared.keyword.Keyword.TheVariants as word
use Rattle.rdl_base.specs.declared.rule.Rule.{Rule}
use Rattle.rdl_base.specs.declared.rule.Rule.TheVariants as rules
use Rattle.rdl_props.specs.declared.prop.Prop.{Prop}
use Rattle.rdl_props.specs.declared.prop.Prop.TheVariants as prop
use Rattle.rdl_values.specs.Values.{EnumOf, visible_enum}
use Rattle.rdl_values.specs.Bodies.{around}
use Rattle.rdl_values.specs.Uses.{when, at_}
use Rattle.rdl_values.specs.Instances.{Instance}
use Rattle.rdl_layers.specs.Settings.{Meaning, number, named, intr, enum_of, setting, is_assigned}
use Rattle.rdl_layers.specs.Phase4.{number_at, width_of}
use Rattle.rdl_layers.specs.Fields.{is_given, has, has_one_of, reads, writes, is_once, has_on_read, has_on_write, hardware_writes, is_counter, is_interrupt}
use Rattle.rdl_addr.specs.Bits.{Bits}
use Rattle.rdl_rules.specs.Fields.{hardware_first}

abbrev pub at_node : Rule → Instance → Bool → List Fault
at_node r n t = when t (at_ r n.use_.name.place)

-- F1: neither software nor hardware reads it
abbrev pub is_unread : Meaning → Bool
is_unread (named word.W) = true
is_unread (named word.Na) = true
is_unread _ = false

-- F2: a view through which software changes it lies in two words
abbrev pub spans_words : Instance → Bits → Bool
spans_words r b = (writes b.node || has_on_read b.node) && not (b.high / number_at r prop.Accesswidth == b.low / number_at r prop.Accesswidth)

-- F6: what only a counter has
abbrev pub counter_parts : List Prop
counter_parts = prop.Overflow ∷ prop.Underflow ∷ prop.Incr ∷ prop.Decr ∷ prop.Incrvalue ∷ prop.Incrwidth ∷ prop.Decrvalue ∷ prop.Decrwidth ∷ prop.Incrsaturate ∷ prop.Decrsaturate ∷ prop.Incrthreshold ∷ prop.Decrthreshold ∷ []

-- F7: more than one kind
abbrev pub two_of : List Bool → Bool
two_of [] = false
two_of (true ∷ bs) = list_any (λ b. b) bs
two_of (false ∷ bs) = two_of bs

-- F8: what only an interrupt has, assigned in any layer, false or not
abbrev pub interrupt_parts : List Prop
interrupt_parts = prop.Sticky ∷ prop.Stickybit ∷ prop.Enable ∷ prop.Mask ∷ prop.Haltenable ∷ prop.Haltmask ∷ []

abbrev pub is_nonsticky : Meaning → Bool
is_nonsticky (intr trigger.Nonsticky) = true
is_nonsticky _ = false

abbrev pub not_interrupt : Instance → Bool
not_interrupt f =
    (not (is_interrupt f) && list_any (is_assigned f) interrupt_parts)
    || (is_nonsticky (setting f prop.Intr) && has_one_of (prop.Sticky ∷ prop.Stickybit ∷ []) f)
    || (is_interrupt f && has_one_of (prop.We ∷ prop.Wel ∷ []) f)

-- F9: a single pulse is one bit that software alone writes, and that is reset to 0
abbrev pub is_zero : Meaning → Bool
is_zero (number n) = n == 0
is_zero _ = false

abbrev pub bad_pulse : Instance → Bool
bad_pulse f =
    has prop.Singlepulse f
    && (not (width_of f == 1) || not (is_zero (setting f prop.Reset)) || hardware_writes f || hardware_first (setting f prop.Precedence) || has_on_write f || has_on_read f || not (writes f) || is_once f)

-- F10: a number that the field can't hold
abbrev pub is_above : ℕ → Meaning → Bool
is_above n (number k) = nat_le n k
is_above n _ = false

abbrev pub bad_count_width : ℕ → Meaning → Bool
bad_count_width w (number k) = (k == 0) || nat_lt w k
bad_count_width w _ = false

abbrev pub numbers : List Prop
numbers = prop.Reset ∷ prop.Incrvalue ∷ prop.Decrvalue ∷ prop.Incrsaturate ∷ prop.Decrsaturate ∷ prop.Incrthreshold ∷ prop.Decrthreshold ∷ []

abbrev pub too_wide : Instance → Bool
too_wide f = list_any (λ p. is_above (2 ^ width_of f) (setting f p)) numbers || list_any (λ p. bad_count_width (width_of f) (setting f p)) (prop.Incrwidth ∷ prop.Decrwidth ∷ [])

-- F13: an entry of its enum that the field can't hold
abbrev pub has_wide_entry : ℕ → EnumOf → Bool
has_wide_entry w e = list_any (λ entry. nat_le (2 ^ w) entry.1) e.entries

abbrev pub encode_too_wide : Instance → Bool
encode_too_wide f = go (setting f prop.Encode)
  where
    go : Meaning → Bool
    go (enum_of n scope) = list_any (has_wide_entry (width_of f)) (option_to_list (visible_enum (around scope) n))
    go _ = false

-- of every view, a field's in an alias too: F2 to F4, F13
abbrev pub of_view : Instance → Bits → List Fault
of_view r b =
    at_node rules.F2 b.node (spans_words r b)
    ++ at_node rules.F3 b.node (has_on_write b.node && not (writes b.node))
    ++ at_node rules.F4 b.node (has_on_read b.node && not (reads b.node))
    ++ at_node rules.F13 b.node (encode_too_wide b.node)

-- of a field that isn't in an alias: F1, F5 to F10
abbrev pub of_primary : Instance → List Fault
of_primary f =
    at_node rules.F1 f (is_unread (setting f prop.Sw) && is_unread (setting f prop.Hw))
    ++ at_node rules.F5 f (not (hardware_writes f) && has_one_of (prop.Next ∷ prop.We ∷ prop.Wel ∷ prop.Intr ∷ []) f)
    ++ at_node rules.F6 f (not (is_counter f) && has_one_of counter_parts f)
    ++ at_node rules.F7 f (two_of (is_counter f ∷ is_interrupt f ∷ has prop.Singlepulse f ∷ []))
    ++ at_node rules.F8 f (not_interrupt f)
    ++ at_node rules.F9 f (bad_pulse f)
    ++ at_node rules.F10 f (too_wide f)

-- F11: a view that is written once, of a field without a reset value
abbrev pub without_reset : Instance → Instance → List Fault
without_reset f v = at_node rules.F11 v (is_once v && not (is_given (setting f prop.Reset)))
