-- The properties of a source: a row for each (SystemRDL 2.0, clauses 5 and 8 to 13; the selection is this project's).
use Rattle.std.specs.Prelude.{ℕ, Bool, false, true, List, [], ◌∷◌, bytes_eq, find, Option, None, Some, codes, if◌then◌else◌}
use Rattle.std.specs.List.{list_any}
use Rattle.rdl_props.specs.declared.prop.Prop.{Prop}
use Rattle.rdl_props.specs.declared.prop.Prop.TheVariants as prop
use Rattle.rdl_props.specs.declared.groups.Group.{Group}
use Rattle.rdl_props.specs.declared.groups.Group.TheVariants as groups
use Rattle.rdl_props.specs.declared.form.Form.{Form}
use Rattle.rdl_props.specs.declared.form.Form.TheVariants as form
use Rattle.rdl_tree.specs.Kinds.{same_kind}
use Rattle.rdl_props.specs.Same.{same_group}
use Rattle.rdl_tree.specs.declared.item.Kind.{Kind}
use Rattle.rdl_tree.specs.declared.item.Kind.TheVariants as kind
use Rattle.rdl_base.specs.declared.keyword.Keyword.{Keyword}
use Rattle.rdl_base.specs.declared.keyword.Keyword.TheVariants as word

-- what a property is where nothing assigns it: nothing, a boolean, a number, a word, or a precedence, which is true for hw
pub data Default : Type 0 where
  unset : Default
  flag : Bool → Default
  number : ℕ → Default
  named : Keyword → Default
  hard : Bool → Default

-- a row: the property's name, the kinds that it is legal on, what it takes, its default, and the group whose members exclude one another
pub record Row : Type 0 where
  pub name : List ℕ
  pub on : List Kind
  pub takes : Form
  pub default : Default
  pub group : Option Group

-- the row with these parts
abbrev pub entry : (name : List ℕ) (on : List Kind) → Form → Default → Option Group → Row
entry name on takes default group = record { name = name; on = on; takes = takes; default = default; group = group }

-- every kind
abbrev pub every : List Kind
every = kind.Addrmap ∷ kind.Regfile ∷ kind.Reg ∷ kind.Field ∷ kind.Signal ∷ []

-- every kind but a signal
abbrev pub all_but_signal : List Kind
all_but_signal = kind.Addrmap ∷ kind.Regfile ∷ kind.Reg ∷ kind.Field ∷ []

-- this kind alone
abbrev pub only : Kind → List Kind
only k = k ∷ []

-- The table. An entry of an enumeration takes name and desc as well. Two defaults are no constants: accesswidth is that of
-- the register's regwidth, and an interrupt with neither sticky nor stickybit is stickybit.
abbrev pub row : Prop → Row
row prop.Name = entry (codes "name") every form.Str unset None
row prop.Desc = entry (codes "desc") every form.Str unset None
row prop.DontTest = entry (codes "donttest") all_but_signal form.FlagNumber unset None
row prop.DontCompare = entry (codes "dontcompare") all_but_signal form.FlagNumber unset None
row prop.Addressing = entry (codes "addressing") (only kind.Addrmap) form.AddressingWord (named word.Regalign) None
row prop.Lsb0 = entry (codes "lsb0") (only kind.Addrmap) form.TrueOnly (flag true) None
row prop.Littleendian = entry (codes "littleendian") (only kind.Addrmap) form.TrueOnly (flag true) None
row prop.Regwidth = entry (codes "regwidth") (only kind.Reg) form.Number (number 32) None
row prop.Accesswidth = entry (codes "accesswidth") (only kind.Reg) form.Number unset None
row prop.Signalwidth = entry (codes "signalwidth") (only kind.Signal) form.Number (number 1) None
row prop.Sync = entry (codes "sync") (only kind.Signal) form.Flag (flag true) (Some groups.Synchrony)
row prop.Async = entry (codes "async") (only kind.Signal) form.Flag unset (Some groups.Synchrony)
row prop.Activehigh = entry (codes "activehigh") (only kind.Signal) form.Flag (flag true) (Some groups.Activity)
row prop.Activelow = entry (codes "activelow") (only kind.Signal) form.Flag unset (Some groups.Activity)
row prop.FieldReset = entry (codes "field_reset") (only kind.Signal) form.Flag (flag false) None
row prop.Fieldwidth = entry (codes "fieldwidth") (only kind.Field) form.Number (number 1) None
row prop.Sw = entry (codes "sw") (only kind.Field) form.SwWord (named word.Rw) None
row prop.Hw = entry (codes "hw") (only kind.Field) form.HwWord (named word.Rw) None
row prop.Reset = entry (codes "reset") (only kind.Field) form.Number unset None
row prop.Resetsignal = entry (codes "resetsignal") (only kind.Field) form.Refer unset None
row prop.Onwrite = entry (codes "onwrite") (only kind.Field) form.WriteWord unset (Some groups.OnWrite)
row prop.Woset = entry (codes "woset") (only kind.Field) form.Flag unset (Some groups.OnWrite)
row prop.Woclr = entry (codes "woclr") (only kind.Field) form.Flag unset (Some groups.OnWrite)
row prop.Onread = entry (codes "onread") (only kind.Field) form.ReadWord unset (Some groups.OnRead)
row prop.Rclr = entry (codes "rclr") (only kind.Field) form.Flag unset (Some groups.OnRead)
row prop.Rset = entry (codes "rset") (only kind.Field) form.Flag unset (Some groups.OnRead)
row prop.Swwe = entry (codes "swwe") (only kind.Field) form.FlagRefer unset (Some groups.SwEnable)
row prop.Swwel = entry (codes "swwel") (only kind.Field) form.FlagRefer unset (Some groups.SwEnable)
row prop.We = entry (codes "we") (only kind.Field) form.FlagRefer unset (Some groups.HwEnable)
row prop.Wel = entry (codes "wel") (only kind.Field) form.FlagRefer unset (Some groups.HwEnable)
row prop.Next = entry (codes "next") (only kind.Field) form.Refer unset None
row prop.Hwset = entry (codes "hwset") (only kind.Field) form.FlagRefer unset None
row prop.Hwclr = entry (codes "hwclr") (only kind.Field) form.FlagRefer unset None
row prop.Hwenable = entry (codes "hwenable") (only kind.Field) form.Refer unset (Some groups.HwMask)
row prop.Hwmask = entry (codes "hwmask") (only kind.Field) form.Refer unset (Some groups.HwMask)
row prop.Anded = entry (codes "anded") (only kind.Field) form.Flag (flag false) None
row prop.Ored = entry (codes "ored") (only kind.Field) form.Flag (flag false) None
row prop.Xored = entry (codes "xored") (only kind.Field) form.Flag (flag false) None
row prop.Swmod = entry (codes "swmod") (only kind.Field) form.Flag (flag false) None
row prop.Swacc = entry (codes "swacc") (only kind.Field) form.Flag (flag false) None
row prop.Singlepulse = entry (codes "singlepulse") (only kind.Field) form.Flag (flag false) None
row prop.Precedence = entry (codes "precedence") (only kind.Field) form.Side (hard false) None
row prop.Counter = entry (codes "counter") (only kind.Field) form.Flag (flag false) None
row prop.Overflow = entry (codes "overflow") (only kind.Field) form.Flag (flag false) None
row prop.Underflow = entry (codes "underflow") (only kind.Field) form.Flag (flag false) None
row prop.Incr = entry (codes "incr") (only kind.Field) form.Refer unset None
row prop.Decr = entry (codes "decr") (only kind.Field) form.Refer unset None
row prop.Incrvalue = entry (codes "incrvalue") (only kind.Field) form.NumberRefer unset (Some groups.Incr)
row prop.Incrwidth = entry (codes "incrwidth") (only kind.Field) form.Number unset (Some groups.Incr)
row prop.Decrvalue = entry (codes "decrvalue") (only kind.Field) form.NumberRefer unset (Some groups.Decr)
row prop.Decrwidth = entry (codes "decrwidth") (only kind.Field) form.Number unset (Some groups.Decr)
row prop.Incrsaturate = entry (codes "incrsaturate") (only kind.Field) form.FlagNumberRefer unset None
row prop.Decrsaturate = entry (codes "decrsaturate") (only kind.Field) form.FlagNumberRefer unset None
row prop.Incrthreshold = entry (codes "incrthreshold") (only kind.Field) form.FlagNumberRefer unset None
row prop.Decrthreshold = entry (codes "decrthreshold") (only kind.Field) form.FlagNumberRefer unset None
row prop.Intr = entry (codes "intr") (only kind.Field) form.Intr unset None
row prop.Sticky = entry (codes "sticky") (only kind.Field) form.Flag unset (Some groups.Stickiness)
row prop.Stickybit = entry (codes "stickybit") (only kind.Field) form.Flag unset (Some groups.Stickiness)
row prop.Enable = entry (codes "enable") (only kind.Field) form.Refer unset (Some groups.Enable)
row prop.Mask = entry (codes "mask") (only kind.Field) form.Refer unset (Some groups.Enable)
row prop.Haltenable = entry (codes "haltenable") (only kind.Field) form.Refer unset (Some groups.HaltEnable)
row prop.Haltmask = entry (codes "haltmask") (only kind.Field) form.Refer unset (Some groups.HaltEnable)
row prop.Encode = entry (codes "encode") (only kind.Field) form.EnumName unset None

-- all of them, in the order of the table
unfoldable pub props : List Prop
props = prop.Name ∷ prop.Desc ∷ prop.DontTest ∷ prop.DontCompare ∷ prop.Addressing ∷ prop.Lsb0 ∷ prop.Littleendian ∷ prop.Regwidth ∷ prop.Accesswidth ∷ prop.Signalwidth ∷ prop.Sync ∷ prop.Async ∷ prop.Activehigh ∷ prop.Activelow ∷ prop.FieldReset ∷ prop.Fieldwidth ∷ prop.Sw ∷ prop.Hw ∷ prop.Reset ∷ prop.Resetsignal ∷ prop.Onwrite ∷ prop.Woset ∷ prop.Woclr ∷ prop.Onread ∷ prop.Rclr ∷ prop.Rset ∷ prop.Swwe ∷ prop.Swwel ∷ prop.We ∷ prop.Wel ∷ prop.Next ∷ prop.Hwset ∷ prop.Hwclr ∷ prop.Hwenable ∷ prop.Hwmask ∷ prop.Anded ∷ prop.Ored ∷ prop.Xored ∷ prop.Swmod ∷ prop.Swacc ∷ prop.Singlepulse ∷ prop.Precedence ∷ prop.Counter ∷ prop.Overflow ∷ prop.Underflow ∷ prop.Incr ∷ prop.Decr ∷ prop.Incrvalue ∷ prop.Incrwidth ∷ prop.Decrvalue ∷ prop.Decrwidth ∷ prop.Incrsaturate ∷ prop.Decrsaturate ∷ prop.Incrthreshold ∷ prop.Decrthreshold ∷ prop.Intr ∷ prop.Sticky ∷ prop.Stickybit ∷ prop.Enable ∷ prop.Mask ∷ prop.Haltenable ∷ prop.Haltmask ∷ prop.Encode ∷ []

-- those that a reference may be assigned to, in the order of the table: all are a field's
unfoldable pub reference_props : List Prop
reference_props = prop.Resetsignal ∷ prop.Swwe ∷ prop.Swwel ∷ prop.We ∷ prop.Wel ∷ prop.Next ∷ prop.Hwset ∷ prop.Hwclr ∷ prop.Hwenable ∷ prop.Hwmask ∷ prop.Incr ∷ prop.Decr ∷ prop.Incrvalue ∷ prop.Decrvalue ∷ prop.Incrsaturate ∷ prop.Decrsaturate ∷ prop.Incrthreshold ∷ prop.Decrthreshold ∷ prop.Enable ∷ prop.Mask ∷ prop.Haltenable ∷ prop.Haltmask ∷ []

-- saturate and threshold are short for incrsaturate and incrthreshold (SystemRDL 2.0, 9.8.2)
abbrev pub in_full : List ℕ → List ℕ
in_full name =
    if bytes_eq name (codes "saturate") then codes "incrsaturate"
    else if bytes_eq name (codes "threshold") then codes "incrthreshold"
    else name

-- the property of this name
abbrev pub find_prop : List ℕ → Option Prop
find_prop name = find (λ p. bytes_eq (row p).name (in_full name)) props

-- the properties of the standard that this project leaves out
unfoldable pub left_out_names : List (List ℕ)
left_out_names = codes "alignment" ∷ codes "sharedextbus" ∷ codes "errextbus" ∷ codes "rsvdset" ∷ codes "rsvdsetX" ∷ codes "msb0" ∷ codes "bigendian" ∷ codes "bridge" ∷ codes "shared" ∷ codes "hdl_path" ∷ codes "hdl_path_slice" ∷ codes "hdl_path_gate" ∷ codes "hdl_path_gate_slice" ∷ codes "ispresent" ∷ codes "paritycheck" ∷ codes "cpuif_reset" ∷ codes "mementries" ∷ codes "memwidth" ∷ []

-- the name of one of these
abbrev pub is_left_out : List ℕ → Bool
is_left_out name = list_any (λ w. bytes_eq w name) left_out_names

-- the property may be assigned on a component of this kind
abbrev pub is_legal : Prop → Kind → Bool
is_legal p k = list_any (same_kind k) (row p).on

-- its group, if any other property excludes it
abbrev pub group_of : Prop → Option Group
group_of p = (row p).group

-- they are members of one group
abbrev pub share_group : Prop → Prop → Bool
share_group p q = go (group_of p) (group_of q)
  where
    go : Option Group → Option Group → Bool
    go (Some a) (Some b) = same_group a b
    go _ _ = false

-- what it takes
abbrev pub takes_of : Prop → Form
takes_of p = (row p).takes

-- what it is where nothing assigns it
abbrev pub default_of : Prop → Default
default_of p = (row p).default
