use Rattle.std.proofs.Common.{◌∙◌, ap}
use Rattle.std.specs.List.{list_any}
use Rattle.rdl_dynamic.specs.Known.{has_rival}
use Rattle.rdl_dynamic.proofs.Knowing.{rival-seen}
use Rattle.rdl_dynamic.proofs.known.Known.is_excluded.Goals as goal

pub returns-in-Some : goal.returns-in-Some
returns-in-Some c = λ e node rows b earlier h. rival-seen e node rows b c.args.self.now earlier c.args.path c.args.prop c.in-Some.excluded c.in-Some.ensures h

pub returns-in-None : goal.returns-in-None
returns-in-None c = λ e node rows b earlier h. c.is_excluded.ensures ∙ ap (list_any (has_rival c.args.self.now.marks c.args.prop)) c.nodes.ensures
