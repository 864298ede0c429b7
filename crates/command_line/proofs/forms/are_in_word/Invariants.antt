use Rattle.std.proofs.Common.{◌≡◌, true, take}
use Rattle.std.specs.List.{list_all}
use Rattle.rdl_tree.specs.Words.{is_in_word}
use Rattle.command_line.proofs.forms.are_in_word.Given as goal

abbrev pub invariant-loop-byte : goal.invariant-loop-byte
invariant-loop-byte l = list_all is_in_word (take l.byte-index l.bytes) ≡ true
