use Rattle.std.proofs.Common.{◌≡◌, true, take}
use Rattle.std.specs.List.{list_all}
use Rattle.std.specs.String.{string_bytes}
use Rattle.command_line.specs.Found.{is_file}
use Rattle.command_line.proofs.forms.name_files.Given as goal

abbrev pub invariant-loop-word : goal.invariant-loop-word
invariant-loop-word l = list_all (λ word. is_file (string_bytes word)) (take l.word-index l.words) ≡ true
