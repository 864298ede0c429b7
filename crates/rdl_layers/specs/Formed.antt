-- Which settings a row may give.
use Rattle.std.specs.Prelude.{◌≡◌, true, false, Some}
use Rattle.rdl_props.specs.declared.form.Form.{Form}
use Rattle.rdl_props.specs.declared.form.Form.TheVariants as form
use Rattle.rdl_layers.specs.Forms.{Meaning, unset, flag, number, text, named, intr, hard, enum_of, reference, addressing_word, sw_word, hw_word, write_word, read_word}

-- What a property is set to in a row of this form: nothing, or what the row takes. A word is one of the row's, wr being rw; a
-- flag of a row that takes true alone is true, and an interrupt that isn't set by a trigger is false.
abbrev pub IsOfForm : Form → Meaning → Type 0
IsOfForm f unset = Unit {0}
IsOfForm form.Str (text s) = Unit {0}
IsOfForm form.Flag (flag b) = Unit {0}
IsOfForm form.TrueOnly (flag b) = b ≡ true
IsOfForm form.Number (number n) = Unit {0}
IsOfForm form.FlagNumber (flag b) = Unit {0}
IsOfForm form.FlagNumber (number n) = Unit {0}
IsOfForm form.Refer (reference p item scope place) = Unit {0}
IsOfForm form.FlagRefer (flag b) = Unit {0}
IsOfForm form.FlagRefer (reference p item scope place) = Unit {0}
IsOfForm form.NumberRefer (number n) = Unit {0}
IsOfForm form.NumberRefer (reference p item scope place) = Unit {0}
IsOfForm form.FlagNumberRefer (flag b) = Unit {0}
IsOfForm form.FlagNumberRefer (number n) = Unit {0}
IsOfForm form.FlagNumberRefer (reference p item scope place) = Unit {0}
IsOfForm form.AddressingWord (named w) = addressing_word w ≡ Some w
IsOfForm form.SwWord (named w) = sw_word w ≡ Some w
IsOfForm form.HwWord (named w) = hw_word w ≡ Some w
IsOfForm form.WriteWord (named w) = write_word w ≡ Some w
IsOfForm form.ReadWord (named w) = read_word w ≡ Some w
IsOfForm form.Side (hard b) = Unit {0}
IsOfForm form.Intr (intr e) = Unit {0}
IsOfForm form.Intr (flag b) = b ≡ false
IsOfForm form.EnumName (enum_of n scope) = Unit {0}
IsOfForm _ _ = ⊥
