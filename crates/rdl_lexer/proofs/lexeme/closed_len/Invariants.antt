use Rattle.std.proofs.Common.{◌≡◌, ℕ, ◌+◌, ◌≤◌, false, take, drop}
use Rattle.rdl_lexer.specs.Lexemes.{is_closed}
use Rattle.rdl_lexer.proofs.lexeme.closed_len.Given as goal

abbrev pub invariant-loop-i : goal.invariant-loop-i
invariant-loop-i l = record {
  open_so_far : (n : ℕ) → n ≤ l.i → is_closed false (take n l.text) ≡ false;
  goes_on : (n : ℕ) → is_closed false (take (l.i + n) l.text) ≡ is_closed l.taken (take n (drop l.i l.text));
}
