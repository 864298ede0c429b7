use Rattle.std.proofs.Common.{List, take}
use Rattle.rdl_values.specs.Uses.{Use}
use Rattle.rdl_uses.specs.Before.{AreEarlier}
use Rattle.rdl_uses.specs.Given.{IsType, TypeUsed}
use Rattle.rdl_uses.proofs.Seens.{Done}
use Rattle.rdl_uses.proofs.instances.judge_instances.Given as goal

abbrev pub invariant-loop-inst : goal.invariant-loop-inst
invariant-loop-inst l = (t : TypeUsed) (us : List Use) → IsType l.of l.parent l.visible l.initial.failures t → AreEarlier l.initial.earlier us → Done t us (take l.inst-index l.insts) l.earlier l.initial.failures l.failures l.list.items
