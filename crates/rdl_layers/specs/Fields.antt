-- What the settings make of a field, its views and its register.
use Rattle.std.specs.Prelude.{Bool, true, false, not, ◌&&◌, ◌||◌, List, [], ◌∷◌, flat_map, filter, Option, None, Some, is_some}
use Rattle.std.specs.List.{list_any}
use Rattle.rdl_tree.specs.declared.item.Kind.{Kind}
use Rattle.rdl_tree.specs.declared.item.Kind.TheVariants as kind
use Rattle.rdl_tree.specs.declared.expr.Name.{Name}
use Rattle.rb_base.specs.declared.trigger.Trigger.TheVariants as trigger
use Rattle.rdl_base.specs.declared.keyword.Keyword.TheVariants as word
use Rattle.rdl_tree.specs.Kinds.{same_kind}
use Rattle.rdl_props.specs.declared.prop.Prop.{Prop}
use Rattle.rdl_props.specs.declared.prop.Prop.TheVariants as prop
use Rattle.rdl_values.specs.Bodies.{Path, Step, of_signal, below_top}
use Rattle.rdl_values.specs.Uses.{same_name}
use Rattle.rdl_values.specs.Instances.{Instance, kind_of, children}
use Rattle.rdl_layers.specs.Forms.{Meaning, unset, flag, named, intr}
pub use Rattle.rdl_layers.specs.Assignments.{same_steps}
use Rattle.rdl_layers.specs.Settings.{setting}

-- the node is of this kind
abbrev pub is_a : Kind → Instance → Bool
is_a k n = same_kind k (kind_of n)

-- address maps and register files
abbrev pub is_container : Instance → Bool
is_container n = is_a kind.Addrmap n || is_a kind.Regfile n

-- the fields of a register, in text order
abbrev pub fields_of : Instance → List Instance
fields_of r = filter (is_a kind.Field) (children r)

-- set, and not to false
abbrev pub is_given : Meaning → Bool
is_given unset = false
is_given (flag b) = b
is_given _ = true

-- the node has the property
abbrev pub has : Prop → Instance → Bool
has p n = is_given (setting n p)

-- the node has one of these properties
abbrev pub has_one_of : List Prop → Instance → Bool
has_one_of ps n = list_any (λ p. has p n) ps

-- Access (SystemRDL 2.0, 9.4 and 9.6).

-- words by which a read gives the field's value
abbrev pub reads_word : Meaning → Bool
reads_word (named word.Rw) = true
reads_word (named word.R) = true
reads_word (named word.Rw1) = true
reads_word _ = false

-- words by which a write has an effect
abbrev pub writes_word : Meaning → Bool
writes_word (named word.Rw) = true
writes_word (named word.W) = true
writes_word (named word.Rw1) = true
writes_word (named word.W1) = true
writes_word _ = false

-- words by which only the first write after reset has one
abbrev pub once_word : Meaning → Bool
once_word (named word.Rw1) = true
once_word (named word.W1) = true
once_word _ = false

-- software reads through the view
abbrev pub reads : Instance → Bool
reads v = reads_word (setting v prop.Sw)

-- software writes through the view
abbrev pub writes : Instance → Bool
writes v = writes_word (setting v prop.Sw)

-- and only once
abbrev pub is_once : Instance → Bool
is_once v = once_word (setting v prop.Sw)

-- a read through the view changes the field
abbrev pub has_on_read : Instance → Bool
has_on_read v = has_one_of (prop.Onread ∷ prop.Rclr ∷ prop.Rset ∷ []) v

-- a write through the view does something else than to set the bits written
abbrev pub has_on_write : Instance → Bool
has_on_write v = has_one_of (prop.Onwrite ∷ prop.Woset ∷ prop.Woclr ∷ []) v

-- hardware writes the field
abbrev pub hardware_writes : Instance → Bool
hardware_writes f = writes_word (setting f prop.Hw)

-- hardware reads the field
abbrev pub hardware_reads : Instance → Bool
hardware_reads f = reads_word (setting f prop.Hw)

-- its hw is w
abbrev pub hardware_only_writes : Instance → Bool
hardware_only_writes f = hardware_writes f && not (hardware_reads f)

-- Aliases (SystemRDL 2.0, 10.5). A view of a field is the field itself, or the field of its name in an alias of its register.

-- the register is another view of an earlier one
abbrev pub is_alias : Instance → Bool
is_alias r = is_some r.use_.alias

-- the steps of a path but the last
abbrev pub all_but_last : List Step → List Step
all_but_last [] = []
all_but_last (s ∷ []) = []
all_but_last (s ∷ t ∷ ss) = s ∷ all_but_last (t ∷ ss)

-- the steps from the top to the node that it stands in
abbrev pub steps_up : Path → List Step
steps_up (of_signal s) = []
steps_up (below_top ss) = all_but_last ss

-- a is an alias of r: an instance of the same body, which names r
abbrev pub is_alias_of : Instance → Instance → Bool
is_alias_of r a = is_a kind.Reg a && go a.use_.alias && same_steps (steps_up r.path) (steps_up a.path)
  where
    go : Option Name → Bool
    go None = false
    go (Some n) = same_name n r.use_.name

-- the aliases of a register, in node order
abbrev pub aliases : List Instance → Instance → List Instance
aliases all r = filter (is_alias_of r) all

-- the views of a field of the register, itself first
abbrev pub views : List Instance → Instance → Instance → List Instance
views all r f = f ∷ flat_map (λ a. filter (λ g. same_name g.use_.name f.use_.name) (fields_of a)) (aliases all r)

-- Classes: a field is a wire, or storage, or else constant (this project's rule).

-- the setting is an interrupt that latches
abbrev pub latches : Meaning → Bool
latches (intr trigger.Nonsticky) = false
latches (intr e) = true
latches _ = false

-- software writes through one of the views, or changes the field by a read
abbrev pub is_touched : List Instance → Bool
is_touched vs = list_any (λ v. writes v || has_on_read v) vs

-- a field that passes on what hardware gives it
abbrev pub is_wire : List Instance → Instance → Bool
is_wire vs f =
    not (is_touched vs) && hardware_only_writes f
    && not (has_one_of (prop.We ∷ prop.Wel ∷ prop.Counter ∷ prop.Hwset ∷ prop.Hwclr ∷ prop.Hwenable ∷ prop.Hwmask ∷ []) f)
    && not (latches (setting f prop.Intr))

-- a field that keeps a value
abbrev pub is_storage : List Instance → Instance → Bool
is_storage vs f =
    is_touched vs || (hardware_writes f && not (is_wire vs f))
    || has_one_of (prop.Counter ∷ prop.Hwset ∷ prop.Hwclr ∷ prop.Singlepulse ∷ []) f

-- Counters and interrupts (SystemRDL 2.0, 9.8 and 9.9).

-- the field counts
abbrev pub is_counter : Instance → Bool
is_counter f = has prop.Counter f

-- the field is an interrupt
abbrev pub is_interrupt : Instance → Bool
is_interrupt f = has prop.Intr f

-- a counter counts down
abbrev pub has_down : Instance → Bool
has_down f = has_one_of (prop.Decr ∷ prop.Decrvalue ∷ prop.Decrwidth ∷ []) f

-- a counter counts up: also where it has no down part
abbrev pub has_up : Instance → Bool
has_up f = has_one_of (prop.Incr ∷ prop.Incrvalue ∷ prop.Incrwidth ∷ []) f || not (has_down f)
