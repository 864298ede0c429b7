use Rattle.std.proofs.Common.{map, refl}
use Rattle.rdl_values.specs.Seen.{listed_enum}
use Rattle.rdl_scopes.specs.Opened.{state_of}
use Rattle.rdl_scopes.proofs.ByItem.{adds_one}
use Rattle.rdl_scopes.proofs.enums.Opening.add.Goals as goal

pub returns : goal.returns
returns c = λ name es h. adds_one (state_of c.args.self.now) (record { table = c.add_enum.new.self; enums = map listed_enum c.push.new.self.items }) c.args.self.now.enums.items c.push.new.self.items c.args.of name es h c.in_ok-add_enum.ensures.bound c.in_ok-add_enum.ensures.added refl refl c.in_ok-push.ensures.items
