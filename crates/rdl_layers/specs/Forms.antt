-- What a property is set to, and what a constant, a word or a name is in the form that its row takes.
use Rattle.std.specs.Prelude.{ℕ, Bool, true, false, cond, List, bytes_eq, Option, None, Some, option_map, option_and_then, codes}
use Rattle.rdl_tree.specs.declared.expr.Path.{Path}
use Rattle.rdl_tree.specs.declared.expr.Name.{Name}
use Rattle.rb_base.specs.declared.trigger.Trigger.{Trigger}
use Rattle.rb_base.specs.declared.trigger.Trigger.TheVariants as trigger
use Rattle.rdl_base.specs.declared.keyword.Keyword.{Keyword}
use Rattle.rdl_base.specs.declared.keyword.Keyword.TheVariants as word
use Rattle.rb_base.specs.declared.place.Place.{Place}
use Rattle.rdl_props.specs.declared.form.Form.{Form}
use Rattle.rdl_props.specs.declared.form.Form.TheVariants as form
use Rattle.rdl_values.specs.Values.{Val, as_flag, as_number, as_text}
use Rattle.rdl_values.specs.Values as val
use Rattle.rdl_values.specs.Bodies.{Scope}

-- What a property is set to. A reference and an enum's name keep the bodies round their text, in which they are looked up;
-- a reference also keeps the place of its assignment.
pub data Meaning : Type 0 where
  unset : Meaning
  flag : Bool → Meaning
  number : ℕ → Meaning
  text : List ℕ → Meaning
  named : Keyword → Meaning
  intr : Trigger → Meaning
  hard : Bool → Meaning
  enum_of : Name → Scope → Meaning
  reference : Path → Option Name → Scope → Place → Meaning

-- Constants. A row of booleans reads a number as true where it isn't 0, a row of numbers a boolean as 0 or 1.

-- true, and nothing else
abbrev pub only_true : Bool → Option Meaning
only_true true = Some (flag true)
only_true false = None

-- an interrupt without a trigger word is one of level
abbrev pub level_if : Bool → Meaning
level_if true = intr trigger.Level
level_if false = flag false

-- a boolean or a number, as it is
abbrev pub flag_or_number : Val → Option Meaning
flag_or_number (val.number n) = Some (number n)
flag_or_number (val.flag b) = Some (flag b)
flag_or_number (val.text s) = None

-- what a constant is in a row of this form, if the row takes it
abbrev pub from_value : Form → Val → Option Meaning
from_value form.Str v = option_map text (as_text v)
from_value form.Flag v = option_map flag (as_flag v)
from_value form.TrueOnly v = option_and_then only_true (as_flag v)
from_value form.Number v = option_map number (as_number v)
from_value form.FlagNumber v = flag_or_number v
from_value form.FlagRefer v = option_map flag (as_flag v)
from_value form.NumberRefer v = option_map number (as_number v)
from_value form.FlagNumberRefer v = flag_or_number v
from_value form.Intr v = option_map level_if (as_flag v)
from_value _ v = None

-- Words. wr is rw.

-- the modes of addressing
abbrev pub addressing_word : Keyword → Option Keyword
addressing_word word.Compact = Some word.Compact
addressing_word word.Regalign = Some word.Regalign
addressing_word word.Fullalign = Some word.Fullalign
addressing_word _ = None

-- what hardware may do
abbrev pub hw_word : Keyword → Option Keyword
hw_word word.Rw = Some word.Rw
hw_word word.Wr = Some word.Rw
hw_word word.R = Some word.R
hw_word word.W = Some word.W
hw_word word.Na = Some word.Na
hw_word _ = None

-- what software may do: once only, too
abbrev pub sw_word : Keyword → Option Keyword
sw_word word.Rw1 = Some word.Rw1
sw_word word.W1 = Some word.W1
sw_word w = hw_word w

-- the effects of a write
abbrev pub write_word : Keyword → Option Keyword
write_word word.Woset = Some word.Woset
write_word word.Woclr = Some word.Woclr
write_word word.Wot = Some word.Wot
write_word word.Wzs = Some word.Wzs
write_word word.Wzc = Some word.Wzc
write_word word.Wzt = Some word.Wzt
write_word word.Wclr = Some word.Wclr
write_word word.Wset = Some word.Wset
write_word _ = None

-- the effects of a read
abbrev pub read_word : Keyword → Option Keyword
read_word word.Rclr = Some word.Rclr
read_word word.Rset = Some word.Rset
read_word _ = None

-- what a word is in a row of this form, if the row takes it
abbrev pub from_word : Form → Keyword → Option Meaning
from_word form.AddressingWord w = option_map named (addressing_word w)
from_word form.SwWord w = option_map named (sw_word w)
from_word form.HwWord w = option_map named (hw_word w)
from_word form.WriteWord w = option_map named (write_word w)
from_word form.ReadWord w = option_map named (read_word w)
from_word _ w = None

-- References and sides.

-- rows that take references
abbrev pub takes_reference : Form → Bool
takes_reference form.Refer = true
takes_reference form.FlagRefer = true
takes_reference form.NumberRefer = true
takes_reference form.FlagNumberRefer = true
takes_reference _ = false

-- the side that a precedence names
abbrev pub side : Name → Option Meaning
side n = cond (bytes_eq n.text.now (codes "sw")) (Some (hard false)) (cond (bytes_eq n.text.now (codes "hw")) (Some (hard true)) None)
