use Rattle.std.proofs.Common.{◌≡◌, drop}
use Rattle.rb_edge.specs.Lookup.{lookup}
use Rattle.rb_edge.proofs.mem_shelf.find.Given as goal

abbrev pub invariant-loop-file : goal.invariant-loop-file
invariant-loop-file l = lookup l.files l.name ≡ lookup (drop l.file-index l.files) l.name
