-- Where a walk over a source has come.
use Rattle.std.specs.Prelude.{◌≡◌, ℕ, ◌≤◌, List, length}
use Rattle.rb_base.specs.Lines.{line_of, column_of}
use Rattle.verdict_text.specs.declared.line_column.LineColumn.{LineColumn}

-- The line and the column are those of the place, which is within the source.
pub record IsLineColumn (source : List ℕ) (s : LineColumn) : Type 0 where
  pub within : s.at ≤ length source
  pub line_ : s.line ≡ line_of source s.at
  pub column_ : s.column ≡ column_of source s.at
