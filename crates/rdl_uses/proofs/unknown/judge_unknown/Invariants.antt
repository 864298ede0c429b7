use Rattle.std.proofs.Common.{◌≡◌, List, take}
use Rattle.rdl_values.specs.Uses.{Use}
use Rattle.rdl_uses.specs.Before.{AreEarlier}
use Rattle.rdl_uses.specs.Unknown.{UnknownType}
use Rattle.rdl_uses.proofs.Unseen.{DoneUnseen}
use Rattle.rdl_uses.proofs.unknown.judge_unknown.Given as goal

abbrev pub invariant-loop-inst : goal.invariant-loop-inst
invariant-loop-inst l = (t : UnknownType) (us : List Use) → t.place ≡ l.place → AreEarlier l.initial.earlier us → DoneUnseen t us (take l.inst-index l.insts) l.earlier l.initial.failures l.failures
