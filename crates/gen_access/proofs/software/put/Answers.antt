use Rattle.std.proofs.Common.{◌≡◌, Some, slice_get, sym, subst}
use Rattle.rtl_net.specs.Net.{Stands}
use Rattle.rtl_net.proofs.Nets.{Stands-has}
use Rattle.rb_model.specs.declared.block.Field.{Field}
use Rattle.gen_access.specs.Effects.{IsPut, width_of}
use Rattle.gen_access.proofs.Puts.{read_put}
use Rattle.gen_access.proofs.Turns.{field_there}
use Rattle.gen_access.proofs.software.put.Goals as goal

pub written-requires-clause-v : goal.written-requires-clause-v
written-requires-clause-v c = λ f h. subst (λ e. Stands c.args.net.now c.args.v (width_of e f)) c.in-Written.is (c.requires.v f h)

pub after_read-requires-clause-v : goal.after_read-requires-clause-v
after_read-requires-clause-v c =
    let f = field_there c.args.scene.now.base.now.block.now c.args.slot c.args.view.now c.requires.slot c.requires.view in
    Stands-has c.args.net.now c.args.v (width_of c.args.effect f.0) (c.requires.v f.0 f.1)

pub returns-in_ok-id-in-Read-clause-worth : goal.returns-in_ok-id-in-Read-clause-worth
returns-in_ok-id-in-Read-clause-worth c =
    let b = c.args.scene.now.base.now.block.now in
    let a = c.args.scene.now.base.now.inlet in
    let wide = λ (f : Field) (h : slice_get b.fields c.args.view.now.field ≡ Some f). subst (λ e. Stands c.args.net.now c.args.v (width_of e f)) c.in-Read.is (c.requires.v f h) in
    subst (λ e. IsPut b a c.args.net.now c.after_read.new.net e c.args.slot c.args.view.now.field c.args.hit c.args.v c.in_ok-id-in-Read.id) (sym c.in-Read.is)
    (read_put b a c.args.net.now c.after_read.new.net c.args.slot c.args.view.now c.args.hit c.args.v c.in_ok-id-in-Read.id c.requires.view c.in_ok-id-in-Read.ensures.older wide c.in_ok-id-in-Read.ensures.node)

pub used-requires-clause-v : goal.used-requires-clause-v
used-requires-clause-v c =
    let f = field_there c.args.scene.now.base.now.block.now c.args.slot c.args.view.now c.requires.slot c.requires.view in
    subst (λ e. Stands c.args.net.now c.args.v (width_of e f.0)) c.in-Used.is (c.requires.v f.0 f.1)
