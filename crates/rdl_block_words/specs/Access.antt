-- What software does at an address.
use Rattle.std.specs.Prelude.{ℕ, Bool, true, false, ◌&&◌, ◌==◌, List}
use Rattle.std.specs.List.{list_any}
use Rattle.rdl_values.specs.Instances.{Instance}
use Rattle.rdl_layout.specs.declared.extent.Side.{Side}
use Rattle.rdl_layout.specs.declared.extent.Side.TheVariants as sides
use Rattle.rdl_addr.specs.Layout.{Placed}
use Rattle.rdl_addr.specs.Rules as rules
use Rattle.rb_model.specs.declared.block.Word.{Word}
use Rattle.rdl_rules.specs.Words.{read_words, write_words}
use Rattle.rdl_block_words.specs.declared.access.Access.{Access}
use Rattle.rdl_block_words.specs.declared.access.Access.TheVariants.{Reads, Writes}
use Rattle.rdl_block_words.specs.declared.entry.PlacedRegister.{PlacedRegister}

-- software only reads, or only writes
abbrev pub is_read : Side → Bool
is_read sides.Reads = true
is_read _ = false

abbrev pub is_written : Side → Bool
is_written sides.Writes = true
is_written _ = false

abbrev pub opposite : Access → Access
opposite Reads = Writes
opposite Writes = Reads

-- software does only this with the register of the code
abbrev pub is_only : Access → PlacedRegister → Bool
is_only Reads x = x.is_read_only
is_only Writes x = x.is_write_only

-- software does only this with the register
abbrev pub only : Access → Instance → Bool
only Reads = rules.is_read_only
only Writes = rules.is_write_only

-- the words that software reads or writes
abbrev pub words_for : Access → List Placed → List Word
words_for Reads = read_words
words_for Writes = write_words

-- one of the registers of the code stands at the address, and software does only this with it
abbrev pub is_taken : Access → List PlacedRegister → ℕ → Bool
is_taken access xs address = list_any (λ x. x.shape.address == address && is_only access x) xs
