use Rattle.std.proofs.Common.{refl, ap, Err, [], ◌∷◌}
use Rattle.rb_grammar.proofs.Following.{◌⟫◌, ◌⟫|◌, same}
use Rattle.rb_grammar.proofs.Steps.{taking, missing, calling, calling_stops, passed}
use Rattle.rb_grammar.specs.Forms.{Non, Many, ◌then◌}
use Rattle.v_syntax.specs.Grammar.{grammar, quoted}
use Rattle.v_syntax.specs.Grammar as rules
use Rattle.v_parser.specs.Reading.{after_ports, one_port}
use Rattle.v_parser.proofs.Firsts.{right}
use Rattle.v_parser.proofs.Loops.{ports_begun, ports_more, ports_done}
use Rattle.v_parser.proofs.cursor.Parser.more_ports.Goals as goal

pub more-init : goal.more-init
more-init c = record {
  tree = ports_begun c.args.self.now c.args.ports.now.items c.args.declared.now.items;
  reads = same grammar after_ports (Many (quoted "," then Non rules.Port) ∷ []) c.args.self.now;
}

pub returns-in_err-port-clause-stops : goal.returns-in_err-port-clause-stops
returns-in_err-port-clause-stops c = λ h. c.more.invariant.reads ⟫ taking right c.in-Some.ensures refl ⟫| calling_stops right (c.in_err-port.ensures.stops (ap Err (passed _ _ c.from_residual.ensures.1 h))) refl

pub more-preserved : goal.more-preserved
more-preserved c = record {
  tree = ports_more c.in_ok-port.port c.in_ok-port.place c.args.ports.now.items c.more.ports.items c.push.new.self.items c.args.declared.now.items c.more.declared.items c.push-in-Some.new.self.items c.in_ok-push.ensures.items c.in_ok-push-2.ensures.items c.more.invariant.tree
      (λ ws rs left r. one_port c.in-Some.ensures c.in_ok-port.ensures.tree r);
  reads = c.more.invariant.reads ⟫ taking right c.in-Some.ensures refl ⟫ calling right c.in_ok-port.ensures.reads refl;
}

pub returns-clause-tree : goal.returns-clause-tree
returns-clause-tree c = ports_done c.args.ports.now.items c.more.ports.items c.args.declared.now.items c.more.declared.items c.in_default.ensures.list c.more.invariant.tree

pub returns-clause-reads : goal.returns-clause-reads
returns-clause-reads c = c.more.invariant.reads ⟫ missing right c.in_default.ensures refl
