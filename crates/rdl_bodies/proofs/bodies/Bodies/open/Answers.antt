use Rattle.std.proofs.Common.{◌∙◌, sym}
use Rattle.rdl_values.specs.Instances.{body}
use Rattle.rdl_bodies.proofs.Adding.{open_again, opened_same}
use Rattle.rdl_bodies.proofs.Places.{found_text, site_in_order}
use Rattle.rdl_bodies.proofs.Finding.{placed_at, stands_at}
use Rattle.rdl_bodies.proofs.bodies.Bodies.open.Goals as goal

pub returns-in-Some : goal.returns-in-Some
returns-in-Some c = λ s n here at.
    let f = c.in-Some.ensures in
    open_again c.args.self.now c.args.failures.now c.in-Some.number c.args.site f.0 s n c.requires.kept f.1 f.2 here at

pub add-requires-clause-placed : goal.add-requires-clause-placed
add-requires-clause-placed c =
    let of = c.in-Some-site.of in
    placed_at c.args.self.now c.args.failures.now of c.text_place-place.result c.requires.kept (c.requires.kept.sites c.args.site of (sym c.site.ensures ∙ c.in-Some-site.is)) c.text_place-place.ensures

pub add-requires-clause-stands : goal.add-requires-clause-stands
add-requires-clause-stands c =
    let of = c.in-Some-site.of in
    stands_at c.args.self.now c.args.failures.now of c.text_place-place.result c.requires.kept (c.requires.kept.sites c.args.site of (sym c.site.ensures ∙ c.in-Some-site.is)) c.text_place-place.ensures

pub add-requires-clause-valued : goal.add-requires-clause-valued
add-requires-clause-valued c = (c.requires.kept.sites c.args.site c.in-Some-site.of (sym c.site.ensures ∙ c.in-Some-site.is)).valued

pub defaults_for-requires-clause-defined : goal.defaults_for-requires-clause-defined
defaults_for-requires-clause-defined c = (c.requires.kept.sites c.args.site c.in-Some-site.of (sym c.site.ensures ∙ c.in-Some-site.is)).defined

pub add-requires-clause-apart : goal.add-requires-clause-apart
add-requires-clause-apart c = (c.requires.kept.sites c.args.site c.in-Some-site.of (sym c.site.ensures ∙ c.in-Some-site.is)).apart

pub add-requires-clause-in_order : goal.add-requires-clause-in_order
add-requires-clause-in_order c =
    let of = c.in-Some-site.of in
    let h = c.requires.kept.sites c.args.site of (sym c.site.ensures ∙ c.in-Some-site.is) in
    site_in_order c.args.self.now c.args.failures.now of.outer.now of.uptos.now of.def.now c.requires.kept h.below h.defined

pub add-requires-clause-below : goal.add-requires-clause-below
add-requires-clause-below c = (c.requires.kept.sites c.args.site c.in-Some-site.of (sym c.site.ensures ∙ c.in-Some-site.is)).below

pub add-requires-clause-some : goal.add-requires-clause-some
add-requires-clause-some c =
    let some = c.requires.some in
    (body some.node, found_text c.args.self.now c.args.site some.site c.in-Some-site.of some.node some.here (sym c.site.ensures ∙ c.in-Some-site.is) some.at)

pub returns : goal.returns
returns c = λ s n here at.
    opened_same c.add.new.self c.note_open.new.self c.in_ok-note_open.ensures.tables c.in_ok-note_open.ensures.components c.in_ok-note_open.ensures.list c.in_ok-note_open.ensures.sites c.in_ok-note_open.ensures.texts c.args.self.now c.args.failures.now c.add.new.failures c.in_ok-number.number (body n)
    (c.in_ok-number.ensures.opened (body n) (found_text c.args.self.now c.args.site s c.in-Some-site.of n here (sym c.site.ensures ∙ c.in-Some-site.is) at))
