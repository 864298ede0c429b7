use Rattle.std.proofs.Common.{◌≡◌, length}
use Rattle.manual_sections.specs.Sections.{part_at}
use Rattle.manual_sections.proofs.sections.part_at.Given as goal

abbrev pub invariant-loop-rest : goal.invariant-loop-rest
invariant-loop-rest l = part_at l.block l.write l.bit l.rest ≡ part_at l.block l.write l.bit l.fn.parts

abbrev pub decreases-loop-rest : goal.decreases-loop-rest
decreases-loop-rest l = length l.rest
