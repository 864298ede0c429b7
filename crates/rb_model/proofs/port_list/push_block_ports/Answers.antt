use Rattle.std.proofs.Common.{ap, ◌∙◌}
use Rattle.rb_model.proofs.OwnViews.{views_in_range, one_own}
use Rattle.rb_model.proofs.port_list.push_block_ports.Goals as goal

pub own_views-requires-clause-in_range : goal.own_views-requires-clause-in_range
own_views-requires-clause-in_range c =
    let views = c.deref-views.ensures.value ∙ ap (λ b. b.views) c.block.view_is in
    let fields = c.deref-fields.ensures.value ∙ ap (λ b. b.fields) c.block.view_is in
    rw (views, fields) (views_in_range c.args.block.now c.requires)

pub own_views-requires-clause-one : goal.own_views-requires-clause-one
own_views-requires-clause-one c =
    let views = c.deref-views.ensures.value ∙ ap (λ b. b.views) c.block.view_is in
    let fields = c.deref-fields.ensures.value ∙ ap (λ b. b.fields) c.block.view_is in
    rw (views, fields) (one_own c.args.block.now c.requires)

pub push_fields-requires-clause-one : goal.push_fields-requires-clause-one
push_fields-requires-clause-one c =
    let views = c.deref-views.ensures.value ∙ ap (λ b. b.views) c.block.view_is in
    let fields = c.deref-fields.ensures.value ∙ ap (λ b. b.fields) c.block.view_is in
    rw (views, fields) (one_own c.args.block.now c.requires)
