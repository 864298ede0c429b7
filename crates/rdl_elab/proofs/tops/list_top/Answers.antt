use Rattle.std.proofs.Common.{◌∙◌, ap, refl, sym}
use Rattle.rdl_values.specs.Overlaid.{overlaid, plain_of}
use Rattle.rdl_elab.proofs.Listing.{alike, apart, bound_fails, bound_is, closure_of, defined, kept_put, none_listed, one_listed, root_is, round, use_of, valued}
use Rattle.rdl_elab.proofs.tops.list_top.Goals as goal

pub returns-in_default-2 : goal.returns-in_default-2
returns-in_default-2 c = λ w s r means.
    let t = c.args.bodies.now in
    let top = c.args.top.now in
    let y = c.in-Some.root in
    let open_ = root_is t s y (sym c.body.ensures ∙ c.in-Some.is) r in
    let same = alike t w s top y open_ means in
    let bound = c.in_ok-parameters.ensures (use_of t w s top y open_ means) (closure_of t w s top y open_ means) refl refl refl same same in
    none_listed t w s top y open_ means c.args.failures.now c.bind_top.new.failures c.in_ok-parameters.field-0 bound c.requires.kept (bound_fails top.def.now.params.now _ c.in_ok-parameters.field-0 bound.values c.in_default-2.is)

pub list-requires-clause-below : goal.list-requires-clause-below
list-requires-clause-below c = (c.requires.kept.bodies 0 c.in-Some.root (sym c.body.ensures ∙ c.in-Some.is)).below

pub list-requires-clause-defined : goal.list-requires-clause-defined
list-requires-clause-defined c =
    let t = c.args.bodies.now in
    let can = c.requires.some in
    let y = c.in-Some.root in
    defined t can.wanted can.source c.args.top.now y (root_is t can.source y (sym c.body.ensures ∙ c.in-Some.is) can.root_) can.means

pub list-requires-clause-apart : goal.list-requires-clause-apart
list-requires-clause-apart c =
    let t = c.args.bodies.now in
    let can = c.requires.some in
    let w = can.wanted in
    let s = can.source in
    let top = c.args.top.now in
    let y = c.in-Some.root in
    let open_ = root_is t s y (sym c.body.ensures ∙ c.in-Some.is) can.root_ in
    let same = alike t w s top y open_ can.means in
    let bound = c.in_ok-parameters.ensures (use_of t w s top y open_ can.means) (closure_of t w s top y open_ can.means) refl refl refl same same in
    apart t w s top y open_ can.means _ (bound_is top.def.now.params.now _ c.in_ok-parameters.field-0 c.in-Some-2.parameters bound.values c.in-Some-2.is).2

pub list-requires-clause-valued : goal.list-requires-clause-valued
list-requires-clause-valued c =
    let t = c.args.bodies.now in
    let can = c.requires.some in
    let w = can.wanted in
    let s = can.source in
    let top = c.args.top.now in
    let y = c.in-Some.root in
    let open_ = root_is t s y (sym c.body.ensures ∙ c.in-Some.is) can.root_ in
    let same = alike t w s top y open_ can.means in
    let plain = plain_of top.def.now.params.now in
    let bound = c.in_ok-parameters.ensures (use_of t w s top y open_ can.means) (closure_of t w s top y open_ can.means) refl refl refl same same in
    let values = bound_is top.def.now.params.now _ c.in_ok-parameters.field-0 c.in-Some-2.parameters bound.values c.in-Some-2.is in
    valued t w s top y open_ can.means (overlaid plain values.0) c.touched-touched.result.now values.2 (ap (overlaid plain) (sym (c.touched-touched.ensures _ _ values.0 values.1)))

pub returns : goal.returns
returns c = λ w s r means.
    let t = c.args.bodies.now in
    let top = c.args.top.now in
    let y = c.in-Some.root in
    let open_ = root_is t s y (sym c.body.ensures ∙ c.in-Some.is) r in
    let same = alike t w s top y open_ means in
    let closure = closure_of t w s top y open_ means in
    let bound = c.in_ok-parameters.ensures (use_of t w s top y open_ means) closure refl refl refl same same in
    let plain = plain_of top.def.now.params.now in
    let values = bound_is top.def.now.params.now _ c.in_ok-parameters.field-0 c.in-Some-2.parameters bound.values c.in-Some-2.is in
    let all = overlaid plain values.0 in
    one_listed t w s top y open_ means c.args.failures.now c.bind_top.new.failures c.in_ok-parameters.field-0 bound c.list.new.self c.in_ok-site.site all values.2
    (c.in_ok-site.ensures c.bind_top.new.failures closure all (kept_put t w s top y open_ means c.args.failures.now c.bind_top.new.failures c.in_ok-parameters.field-0 bound c.requires.kept) refl (round t w s top y open_ means)
    (ap (overlaid plain) (sym (c.touched-touched.ensures _ _ values.0 values.1))))
