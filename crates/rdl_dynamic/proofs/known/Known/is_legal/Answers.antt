use Rattle.std.proofs.Common.{◌∙◌, ap}
use Rattle.std.specs.List.{list_all}
use Rattle.rdl_dynamic.specs.Known.{legal_at}
use Rattle.rdl_dynamic.proofs.Knowing.{legal-seen}
use Rattle.rdl_dynamic.proofs.known.Known.is_legal.Goals as goal

pub returns-in-Some : goal.returns-in-Some
returns-in-Some c = λ e node b earlier h. legal-seen e node c.args.rows.now b c.args.self.now earlier c.args.path c.args.prop c.in-Some.legal c.in-Some.ensures h

pub returns-in-None : goal.returns-in-None
returns-in-None c = λ e node b earlier h. c.are_legal.ensures ∙ ap (list_all (legal_at c.args.rows.now c.args.prop)) c.nodes.ensures
