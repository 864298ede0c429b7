-- What a source says of the parts of its block: the strings of their `name` and `desc` (SystemRDL 2.0, 5.2.1).
use Rattle.std.specs.Prelude.{ℕ, Bool, not, ◌&&◌, List, [], ◌∷◌, filter, flat_map, map, Option, None, Some}
use Rattle.block_effects.specs.Notes.{AllSaid, Said, SaidGroup, is_said}
use Rattle.rdl_tree.specs.declared.item.Source.{Source}
use Rattle.rdl_props.specs.declared.prop.Prop.TheVariants as prop
use Rattle.rdl_values.specs.Instances.{Instance, is_empty, nodes, top_of}
use Rattle.rdl_values.specs.Uses.{path_text}
use Rattle.rdl_layers.specs.Fields.{fields_of, is_container}
use Rattle.rdl_layers.specs.Forms.{Meaning, text}
use Rattle.rdl_layers.specs.Settings.{setting}
use Rattle.rdl_encodings.specs.Encoded.{source_encodings}
use Rattle.rdl_rules.specs.Numbers.{all_signals, registers}
use Rattle.rdl_notes.specs.Entries.{entries_said}
use Rattle.rdl_notes.specs.Groups.{once}

-- the bytes between the quotes, of a property that is set to a string
abbrev pub text_of : Meaning → Option (List ℕ)
text_of (text t) = Some t
text_of _ = None

abbrev pub note_of : Instance → Said
note_of n = record { name = text_of (setting n prop.Name); desc = text_of (setting n prop.Desc) }

-- that of the top, which is one in each source that breaks no rule
abbrev pub note_of_top : List Instance → Said
note_of_top [] = record { name = None; desc = None }
note_of_top (n ∷ ns) = note_of n

-- Groups: the address maps and register files below the top, whose own path is empty, of which something is said.

abbrev pub is_group : Instance → Bool
is_group n = is_container n && (not (is_empty (path_text n.path)) && is_said (note_of n))

abbrev pub group_of : Instance → SaidGroup
group_of n = record { path = path_text n.path; said = note_of n }

-- elements of an array of which the same is said once
abbrev pub groups_of : List Instance → List SaidGroup
groups_of ns = once (map group_of (filter is_group ns))

-- Those of the parts of a source's block, where the definition of a name is wanted as the top: of its registers, of the fields of each,
-- and of its signals, as the lists of the block have them, of the groups that they stand in, and of the entries of the enumerations that
-- fields are encoded by.
abbrev pub notes_of : Option (List ℕ) → Source → AllSaid
notes_of wanted s = record {
  top = note_of_top (top_of wanted s);
  regs = map note_of (registers (nodes wanted s));
  views = flat_map (λ r. map note_of (fields_of r)) (registers (nodes wanted s));
  signals = map note_of (all_signals (nodes wanted s));
  groups = groups_of (nodes wanted s);
  enums = map (λ e. entries_said s e.place) (source_encodings wanted s).list;
}
