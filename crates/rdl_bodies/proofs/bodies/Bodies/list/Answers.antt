use Rattle.std.proofs.Common.{ap, arith, map, refl}
use Rattle.rdl_values.specs.Seen.{bound_of}
use Rattle.rdl_bodies.proofs.Places.{listed_new}
use Rattle.rdl_bodies.proofs.bodies.Bodies.list.Goals as goal

pub returns : goal.returns
returns c = λ held k b inv def round bound.
    listed_new c.args.self.now c.push_site.new.self held c.len-number.result _ c.args.outer.now c.args.uptos.now c.args.def.now (map bound_of c.args.touched.now) b k inv
    c.in_ok-push_site.ensures.tables c.in_ok-push_site.ensures.components c.in_ok-push_site.ensures.list c.in_ok-push_site.ensures.sites c.in_ok-push_site.ensures.texts (omega (arith, c.len-number.ensures, c.args.self.now.sites.ok.0)) refl
    (record { outer_is = refl; uptos_are = c.in_ok-numbers_in.ensures; touched_are = ap (map bound_of) c.in_ok-bound_in.ensures }) c.requires.below c.requires.defined c.requires.apart c.requires.valued def round bound
