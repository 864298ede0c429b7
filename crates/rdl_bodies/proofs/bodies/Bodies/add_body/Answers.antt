use Rattle.std.proofs.Common.{◌≡◌, ◌∙◌, ◌∷◌, Some, ap, arith, length, option_map, refl, subst, sym}
use Rattle.std.proofs.lemmas.Option.{slice_get_read, slice_get_within}
use Rattle.rdl_values.specs.Bodies.{around}
use Rattle.rdl_values.specs.Chained.{chained}
use Rattle.rdl_values.specs.Enums.{names_of}
use Rattle.rdl_failures.specs.Shown.{IsAlike}
use Rattle.rdl_scopes.specs.Closed.{AreClosedOf}
use Rattle.rdl_scopes.specs.Named.{AreComponents}
use Rattle.rdl_bodies.specs.Kept.{IsTextOf}
use Rattle.rdl_bodies.specs.Sited.{AreValued, values_over}
use Rattle.rdl_bodies.proofs.Adding.{is_opened, names_bound, names_opened, round_alike}
use Rattle.rdl_bodies.proofs.bodies.Bodies.add_body.Goals as goal

pub names_of-requires-clause-closed : goal.names_of-requires-clause-closed
names_of-requires-clause-closed c =
    let known = c.requires.known in
    let texts = c.args.self.now.texts.items in
    let x = c.index.result.now in
    let here = slice_get_read texts (length texts) c.args.of x refl (slice_get_within texts c.args.of known.text known.here) c.index.ensures in
    let both : Some known.text ≡ Some x = sym known.here ∙ here in
    let same : known.text ≡ x = cc in
    subst (λ is. AreClosedOf x.closed is c.args.failures.now) (ap (λ y. y.items.now) (sym same) ∙ known.items_are) (c.requires.kept.texts c.args.of x here).closed

pub names_of-requires-clause-twice : goal.names_of-requires-clause-twice
names_of-requires-clause-twice c = λ b e.
    let known = c.requires.known in
    (c.requires.kept.texts c.args.of known.text known.here).twice b (e ∙ sym known.items_are)

pub returns-clause-opened : goal.returns-clause-opened
returns-clause-opened c = λ b h.
    let t = c.args.self.now in
    let u = c.push.new.self in
    let x = c.args.text.now in
    let r = c.in_ok-body.body in
    let o = c.in_ok-opened.opened in
    let known = c.requires.known in
    let texts = t.texts.items in
    let w = c.index-2.result.now in
    let here = slice_get_read texts (length texts) c.args.of w refl (slice_get_within texts c.args.of known.text known.here) c.index-2.ensures in
    let both : Some known.text ≡ Some w = sym known.here ∙ here in
    let same : known.text ≡ w = cc in
    let components = subst (AreComponents w.components) (ap (λ y. y.items.now) (sym same) ∙ known.items_are) (c.requires.kept.texts c.args.of w here).components in
    is_opened t u c.len-number.result x r (record {
      numbered = omega (arith, c.len-number.ensures, c.args.self.now.tables.ok.0);
      table = o.table;
      component = c.in_ok-components.components;
      tables = c.in_ok-push.ensures.tables;
      components = c.in_ok-push.ensures.components;
      list = c.in_ok-push.ensures.list;
      sites = c.in_ok-push.ensures.sites;
      texts = c.in_ok-push.ensures.texts;
      text_is = subst (λ k. IsTextOf t.list.items t.texts.items k x.outer.now x.items.now x.params.now) (sym c.in_ok-body.ensures.text_is) c.requires.known;
      is_of = c.in_ok-components.ensures x.items.now components;
      site_is = c.in_ok-body.ensures.site_is;
      items_are = c.in_ok-body.ensures.items_are;
      params_are = c.in_ok-body.ensures.params_are;
      valued = subst (λ ps. AreValued ps r.touched.now) (sym c.in_ok-body.ensures.params_are) (subst (AreValued x.params.now) (sym c.in_ok-body.ensures.touched_are) c.requires.valued);
      kind_is = c.in_ok-body.ensures.kind_is;
      numbers_are = c.in_ok-body.ensures.numbers_are;
      uptos_are = c.in_ok-body.ensures.uptos_are;
      names_are = λ ws a. names_opened r ws x o c.in_ok-body.ensures.params_are c.in_ok-body.ensures.touched_are c.in_ok-body.ensures.enums_are (c.in_ok-opened.ensures.opened.listed ws (subst (λ ts. IsAlike (chained ts x.outer.now) ws) (sym c.deref.ensures.value) a));
      alike = λ ws a. subst (λ ts. IsAlike (o.table ∷ chained ts x.outer.now) (names_of ws (values_over x.params.now x.touched.now) x.items.now ∷ ws)) c.deref.ensures.value (c.in_ok-opened.ensures.opened.alike ws (subst (λ ts. IsAlike (chained ts x.outer.now) ws) (sym c.deref.ensures.value) a));
    }) c.args.failures.now c.names_of.new.failures c.requires.kept c.requires.in_order c.requires.below c.requires.some
    (λ v g. c.in_ok-opened.ensures.noted v g.items_are (ap (λ n. n.bound) g.names_are ∙ names_bound (around v.outer) (values_over x.params.now x.touched.now) x.items.now) (subst (λ ts. IsAlike (chained ts x.outer.now) (around v.outer)) (sym c.deref.ensures.value) (round_alike t x.outer.now x.uptos.now v.outer g.round.shown)))
    c.requires.of_site b h
