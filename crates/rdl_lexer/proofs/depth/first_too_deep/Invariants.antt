use Rattle.std.proofs.Common.{◌≡◌, ℕ, ◌≤◌, take}
use Rattle.rdl_lexer.specs.Depth.{depth_after, IsWithin}
use Rattle.rdl_lexer.proofs.depth.first_too_deep.Given as goal

abbrev pub invariant-loop-i : goal.invariant-loop-i
invariant-loop-i l = record {
  depth : l.nest ≡ depth_after (take l.i l.tokens);
  within : (k : ℕ) → k ≤ l.i → IsWithin (depth_after (take k l.tokens));
}
