use Rattle.std.proofs.Common.{◌∙◌, sym}
use Rattle.std.specs.BTreeMap.{get}
use Rattle.std.specs.Ordering.{nat_cmp}
use Rattle.std.specs.Rc.{rc_value}
use Rattle.rdl_scopes.proofs.Defaulting.{known_is, none_is}
use Rattle.rdl_scopes.proofs.text_defaults.TextDefaults.at.Goals as goal

pub returns-then-is_empty : goal.returns-then-is_empty
returns-then-is_empty c = λ items i h at is. none_is c.args.self.now items i c.args.item c.args.def.now h at is (sym c.is_empty.ensures ∙ c.if-is_empty.true)

pub returns : goal.returns
returns c = λ items i h at is. known_is c.args.self.now items i c.args.item c.args.def.now h at is rc_value (get nat_cmp c.args.self.now.by_item c.args.item) (h.each c.args.item) c.get.result c.get.ensures.value
