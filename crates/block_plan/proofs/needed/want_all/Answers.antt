use Rattle.std.proofs.Common.{◌<◌, [], ◌∷◌, sym, subst}
use Rattle.rb_model.specs.References.{gate_refs}
use Rattle.block_plan.specs.Table.{item_place}
use Rattle.block_plan.specs.Needs.{field_needs}
use Rattle.block_plan.specs.Wanted.{IsMore}
use Rattle.block_plan.proofs.Needing.{IsMore-trans, still_in}
use Rattle.block_plan.proofs.Wanting.{all_wanted}
use Rattle.block_plan.proofs.needed.want_all.Goals as goal

pub close-requires-clause-room : goal.close-requires-clause-room
close-requires-clause-room c =
    let w0 = c.args.wanted.now in
    let w2 = c.want_fields.new.wanted in
    let w3 = c.want_views.new.wanted in
    let more : IsMore w0 w3 = IsMore-trans w0 w2 w3 (IsMore-trans w0 c.want_outlets.new.wanted w2 c.want_outlets.ensures.older c.in_ok-want_fields.ensures.older) c.want_views.ensures.older in
    λ k i here. subst (λ n. item_place i < n) (sym more.long) (c.requires.room k i here)

pub returns-clause-all : goal.returns-clause-all
returns-clause-all c =
    let w0 = c.args.wanted.now in
    let w1 = c.want_outlets.new.wanted in
    let w2 = c.want_fields.new.wanted in
    let w3 = c.want_views.new.wanted in
    let w4 = c.close.new.wanted in
    let last : IsMore w3 w4 = c.close.ensures.older in
    let later : IsMore w2 w4 = IsMore-trans w2 w3 w4 c.want_views.ensures.older last in
    let latest : IsMore w1 w4 = IsMore-trans w1 w2 w4 c.in_ok-want_fields.ensures.older later in
    let more : IsMore w0 w4 = IsMore-trans w0 w1 w4 c.want_outlets.ensures.older latest in
    all_wanted c.args.block.now c.args.plan.now w4 c.requires.sound c.requires.planned (λ k i here. subst (λ n. item_place i < n) (sym more.long) (c.requires.room k i here))
    (λ k o here. still_in w1 w4 (o.item ∷ []) latest (c.want_outlets.ensures.shown k o here))
    (λ k f here. still_in w2 w4 (field_needs k f) later (c.in_ok-want_fields.ensures.fields k f here))
    (λ k u here. still_in w3 w4 (gate_refs u.gate) last (c.want_views.ensures.views k u here))
