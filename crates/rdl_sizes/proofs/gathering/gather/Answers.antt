use Rattle.std.proofs.Common.{sym, ◌∙◌}
use Rattle.rdl_sizes.proofs.Gathered.{begun, left-out, one-more}
use Rattle.rdl_sizes.proofs.gathering.gather.Goals as goal

pub returns-clause-gathered : goal.returns-clause-gathered
returns-clause-gathered c = λ size access around beside n rs shown says text is g.
    begun size access c.args.child.now around c.args.measure c.args.run c.args.lots.now.items beside n rs says text is g c.with-more.result c.with-more.ensures
    (sym c.has_address.ensures ∙ c.if-not-has_address.false) (sym c.all_zero.ensures ∙ c.if-not-all_zero.false) c.lot_of.result c.push.new.self.items c.none.result c.none.ensures
    c.in_ok-push.ensures.items c.lot_of.ensures.place c.lot_of.ensures.count c.lot_of.ensures.bytes c.lot_of.ensures.width (λ i. c.lot_of.ensures.text around i shown)

pub returns-then-not-all_zero-clause-gathered : goal.returns-then-not-all_zero-clause-gathered
returns-then-not-all_zero-clause-gathered c = λ size access around beside n rs shown says text is g.
    one-more size access c.args.child.now around c.args.measure c.args.run c.args.lots.now.items beside n rs says text is g c.with-more.result c.with-more.ensures
    (sym c.has_address.ensures ∙ c.if-not-has_address.false) (sym c.all_zero.ensures ∙ c.if-not-all_zero.true)

pub returns-then-not-has_address-clause-gathered : goal.returns-then-not-has_address-clause-gathered
returns-then-not-has_address-clause-gathered c = λ size access around beside n rs shown says text is g.
    left-out size access c.args.child.now around c.args.measure c.args.run c.args.lots.now.items beside n rs says text is g
    (sym c.has_address.ensures ∙ c.if-not-has_address.true)
