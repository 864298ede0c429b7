use Rattle.std.proofs.Common.{◌≡◌, ◌+◌, ◌≤◌, not, take, count_by}
use Rattle.std.specs.List.{suffix_len}
use Rattle.rb_base.specs.Lines.{is_line_feed}
use Rattle.rb_base.proofs.lines.line_column.Given as goal

abbrev pub invariant-loop-byte : goal.invariant-loop-byte
invariant-loop-byte l = record {
  line : l.line ≡ 1 + count_by is_line_feed (take l.byte-index l.byte-items);
  column : l.column ≡ 1 + suffix_len (λ byte. not (is_line_feed byte)) (take l.byte-index l.byte-items);
  within : l.column ≤ 1 + l.byte-index;
}
