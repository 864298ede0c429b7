use Rattle.std.proofs.Common.{◌≡◌, IfOk, length, subst, sym}
use Rattle.plain_lemmas.proofs.Results.{if_ok-map as if_ok}
use Rattle.rdl_bodies.specs.Kept.{AreBelow, StandsIn}
use Rattle.rdl_bodies.specs.Texts.{HasText}
use Rattle.rdl_bodies.proofs.Adding.{for_same, text_same}
use Rattle.rdl_bodies.proofs.Finding.{opened_with}
use Rattle.rdl_bodies.proofs.bodies.Bodies.add.Goals as goal

pub add_body-requires-clause-kept : goal.add_body-requires-clause-kept
add_body-requires-clause-kept c = c.in_ok-of.ensures.kept

pub add_body-requires-clause-known : goal.add_body-requires-clause-known
add_body-requires-clause-known c =
    let h = c.in_ok-of.ensures in
    let outer = c.args.text.now.outer.now in
    record {
      text = h.text;
      here = h.here;
      stands = subst (StandsIn c.text_at.new.self.list.items outer) (sym h.place_is) (subst (λ bs. StandsIn bs.items outer c.args.place) (sym h.same.list) c.requires.stands);
      items_are = h.items_are;
      params_are = h.params_are;
    }

pub add_body-requires-clause-below : goal.add_body-requires-clause-below
add_body-requires-clause-below c = subst (λ ts. AreBelow (length ts.items) c.args.text.now.outer.now) (sym c.in_ok-of.ensures.same.tables) c.requires.below

pub add_body-requires-clause-of_site : goal.add_body-requires-clause-of_site
add_body-requires-clause-of_site c = let s = c.in_ok-of.ensures.same in for_same c.args.self.now c.text_at.new.self s.tables s.components s.list s.sites c.args.text.now c.args.text.now.site c.requires.of_site

pub add_body-requires-clause-some : goal.add_body-requires-clause-some
add_body-requires-clause-some c = let s = c.in_ok-of.ensures.same in (c.requires.some.0, text_same c.args.self.now c.text_at.new.self s.tables s.components s.list s.sites c.args.text.now c.requires.some.0 c.requires.some.1)

pub returns-clause-number : goal.returns-clause-number
returns-clause-number c = subst (λ ts. IfOk c.add_body.result (λ k. k ≡ length ts.items)) c.in_ok-of.ensures.same.tables c.add_body.ensures.number

pub returns-clause-opened : goal.returns-clause-opened
returns-clause-opened c =
    let t = c.args.self.now in
    let u = c.text_at.new.self in
    let s = c.in_ok-of.ensures.same in
    if_ok c.add_body.result _ _
    (λ k h b text. opened_with t u c.add_body.new.self c.args.failures.now c.text_at.new.failures c.add_body.new.failures c.args.place c.args.text.now.params.now c.in_ok-of.of k b
    (subst (λ is. HasText t u c.args.failures.now c.text_at.new.failures c.args.place is c.args.text.now.params.now c.in_ok-of.of) (sym text.items_are) c.in_ok-of.ensures)
    (h b (text_same t u s.tables s.components s.list s.sites c.args.text.now b text))) c.add_body.ensures.opened
