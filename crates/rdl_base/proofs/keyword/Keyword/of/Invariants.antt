use Rattle.std.proofs.Common.{◌≡◌, drop}
use Rattle.std.specs.List.{list_any}
use Rattle.std.specs.Str.{bytes_eq}
use Rattle.rdl_base.specs.Keywords.{word}
use Rattle.rdl_base.proofs.keyword.Keyword.of.Given as goal

abbrev pub invariant-loop-keyword : goal.invariant-loop-keyword
invariant-loop-keyword l = list_any (λ keyword. bytes_eq (word keyword) l.text) l.keyword-items ≡ list_any (λ keyword. bytes_eq (word keyword) l.text) (drop l.keyword-index l.keyword-items)
