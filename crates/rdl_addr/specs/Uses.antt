-- What software does with a field.
use Rattle.std.specs.Prelude.{Bool, not, ◌&&◌, ◌||◌, cond}
use Rattle.rdl_layout.specs.declared.extent.Side.{Side}
use Rattle.rdl_layout.specs.declared.extent.Side.TheVariants.{Reads, Writes, Other}
use Rattle.rdl_values.specs.Instances.{Instance}
use Rattle.rdl_layers.specs.Fields.{fields_of, has_on_read, reads, writes}
use Rattle.std.specs.List.{list_any}
use Rattle.rdl_addr.specs.declared.sharing.Use.{Use}
use Rattle.rdl_addr.specs.declared.sharing.Use.TheVariants.{Read, Written, ChangedByRead}

abbrev pub used : Use → Instance → Bool
used Read = reads
used Written = writes
used ChangedByRead = has_on_read

-- what software does with a register of which it reads some field, writes one, and changes one by a read
abbrev pub side_by : Bool → Bool → Bool → Side
side_by r w c = cond (r && not w) Reads (cond (w && not (r || c)) Writes Other)

-- a register, by its fields
abbrev pub register_side : Instance → Side
register_side n = side_by (list_any reads (fields_of n)) (list_any writes (fields_of n)) (list_any has_on_read (fields_of n))
