use Rattle.std.proofs.Common.{◌≡◌, map, take}
use Rattle.gen_ports.proofs.words.addresses.Given as goal

abbrev pub invariant-loop-word : goal.invariant-loop-word
invariant-loop-word l = l.all.items ≡ map (λ w. w.address) (take l.word-index l.words)
