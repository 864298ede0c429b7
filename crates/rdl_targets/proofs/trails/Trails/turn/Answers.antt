use Rattle.std.proofs.Common.{◌∙◌, ◌==◌, ap, filter, flat_map, sym}
use Rattle.rdl_values.specs.Instances.{children}
use Rattle.rdl_targets.specs.Contents.{passes}
use Rattle.rdl_targets.proofs.Walking.{empty-length, now-at, still-at, turn-empty, turn-known, turn-pushed}
use Rattle.rdl_targets.proofs.trails.Trails.turn.Goals as goal

pub returns-then-is_some : goal.returns-then-is_some
returns-then-is_some c = λ e node before ms rows contents h was at. turn-known e node c.args.from c.args.name.now c.args.wanted.now c.first-known.result c.args.self.now before ms c.first-known.ensures (sym c.is_some.ensures ∙ c.if-is_some.true) h was at

pub returns-then-is_empty : goal.returns-then-is_empty
returns-then-is_empty c = λ e node before ms rows contents h was at.
    let may = c.in_ok-may_lead.ensures e node rows h in
    turn-empty e node c.args.from c.args.name.now c.args.wanted.now c.in_ok-may_lead.field-0 c.in_ok-nodes.nodes.items c.args.self.now c.may_lead.new.self (filter (passes c.args.wanted.now c.args.name.now) (flat_map children ms)) may
    (empty-length c.in_ok-nodes.nodes.items _ (ap (λ k. k == 0) (sym c.in_ok-nodes.nodes.ok.0) ∙ (sym c.is_empty.ensures ∙ c.if-is_empty.true)))
    (c.in_ok-nodes.ensures e ms contents (now-at e c.args.self.now c.may_lead.new.self c.args.from before c.set.result.now ms may.same_sets was c.set.ensures at))

pub returns : goal.returns
returns c = λ e node before ms rows contents h was at.
    let may = c.in_ok-may_lead.ensures e node rows h in
    let some = empty-length c.in_ok-nodes.nodes.items _ (ap (λ k. k == 0) (sym c.in_ok-nodes.nodes.ok.0) ∙ (sym c.is_empty.ensures ∙ c.if-is_empty.false)) in
    let put = c.in_ok-number.ensures e node before may.are (still-at c.args.self.now c.may_lead.new.self c.args.from before may.same_sets was) some
    (λ ns there. c.in_ok-nodes.ensures e ns contents (now-at e c.args.self.now c.may_lead.new.self c.args.from before c.set.result.now ns may.same_sets was c.set.ensures there)) in
    turn-pushed e node c.args.from c.in_ok-number.number c.args.name.now c.args.wanted.now c.in_ok-may_lead.field-0 c.in_ok-nodes.nodes.items c.args.self.now c.may_lead.new.self c.push.new.self (filter (passes c.args.wanted.now c.args.name.now) (flat_map children ms)) may put some
    (c.in_ok-nodes.ensures e ms contents (now-at e c.args.self.now c.may_lead.new.self c.args.from before c.set.result.now ms may.same_sets was c.set.ensures at))
