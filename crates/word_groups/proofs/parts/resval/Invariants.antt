use Rattle.std.proofs.Common.{◌≡◌, true, bit_or, fold, is_some, take, unwrap_or}
use Rattle.std.specs.List.{list_all, list_any}
use Rattle.word_groups.proofs.parts.resval.Given as goal

abbrev pub invariant-loop-part : goal.invariant-loop-part
invariant-loop-part l = record {
  reads : l.reads ≡ list_any (λ p. p.reads) (take l.part-index l.parts);
  known : list_all (λ p. is_some p.shows) (take l.part-index l.parts) ≡ true;
  value : l.value ≡ fold (λ n p. bit_or n (unwrap_or p.shows 0)) 0 (take l.part-index l.parts);
}
