-- How the children of a container are placed.
use Rattle.rdl_base.specs.declared.keyword.Keyword.TheVariants as word
use Rattle.rdl_tree.specs.declared.item.Kind.{Kind}
use Rattle.rdl_tree.specs.declared.item.Kind.TheVariants as kind
use Rattle.rdl_layers.specs.Forms.{Meaning, named}
use Rattle.rdl_layout.specs.declared.part.Mode.{Mode}
use Rattle.rdl_layout.specs.declared.part.Mode.TheVariants.{Compact, Regalign, Fullalign}

-- the mode that a setting of 'addressing' names
abbrev pub mode_set : Meaning → Mode
mode_set (named word.Compact) = Compact
mode_set (named word.Fullalign) = Fullalign
mode_set _ = Regalign

-- the mode in the body of a node of a kind, outside which stands another, and of which 'addressing' is set so
abbrev pub mode_by : Mode → Kind → Meaning → Mode
mode_by outer kind.Addrmap m = mode_set m
mode_by outer _ m = outer
