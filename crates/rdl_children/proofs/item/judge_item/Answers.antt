use Rattle.std.proofs.Common.{◌∙◌, ◌++◌, ◌∷◌, map, flat_map, ap, sym, subst, refl, arith}
use Rattle.rdl_values.specs.Bodies.{standing_from}
use Rattle.rdl_values.specs.Instances.{given_by}
use Rattle.rdl_values.specs.Phase3.{of_use}
use Rattle.rdl_values.specs.Views.{item_is, item_is-Def}
use Rattle.rdl_failures.specs.Noted.{with_all}
use Rattle.rdl_scopes.specs.Scopes.{IsClosureAt}
use Rattle.rdl_uses.specs.Before.{AreEarlier}
use Rattle.rdl_uses.specs.Given.{given_in}
use Rattle.rdl_children.specs.ItemUses.{seen_in}
use Rattle.rdl_children.proofs.Using.{behind, def_stands, found_named, named, none_given, type_behind, type_named, unnamed, uses_behind, uses_named, uses_unnamed}
use Rattle.rdl_children.proofs.item.judge_item.Goals as goal

pub returns-in-Some-clause-earlier : goal.returns-in-Some-clause-earlier
returns-in-Some-clause-earlier c = λ p above scope us h old.
    let d = c.in-Def.def in
    let is = c.in-Some.insts in
    let item = ap item_is c.in-Def.is ∙ item_is-Def d in
    let all = uses_behind c.args.item.now d is p above scope item c.in-Some.is in
    subst (λ xs. AreEarlier c.judge_found.new.earlier (us ++ xs)) (sym all) (c.in_ok-judge_found-in-Some.ensures.earlier (behind d is p above scope) us (type_behind c.args.scene.now c.args.position p above scope h d is) old)

pub returns-in-Some-clause-noted : goal.returns-in-Some-clause-noted
returns-in-Some-clause-noted c = λ p above scope us h old.
    let d = c.in-Def.def in
    let is = c.in-Some.insts in
    let item = ap item_is c.in-Def.is ∙ item_is-Def d in
    let all = uses_behind c.args.item.now d is p above scope item c.in-Some.is in
    c.in_ok-judge_found-in-Some.ensures.noted (behind d is p above scope) us (type_behind c.args.scene.now c.args.position p above scope h d is) old ∙ ap (λ xs. with_all (flat_map of_use (map (seen_in p above) (standing_from us xs))) c.args.failures.now) (sym all)

pub returns-in-Some-clause-given : goal.returns-in-Some-clause-given
returns-in-Some-clause-given c = λ p above scope us h old.
    let d = c.in-Def.def in
    let is = c.in-Some.insts in
    let item = ap item_is c.in-Def.is ∙ item_is-Def d in
    let all = uses_behind c.args.item.now d is p above scope item c.in-Some.is in
    let t = behind d is p above scope in
    let ty = type_behind c.args.scene.now c.args.position p above scope h d is in
    let s = c.args.scene.now in
    let seen = ap (λ xs. map (seen_in p above) (standing_from us xs)) all in
    record {
      type = t;
      list = is.list.now;
      all_are = seen;
      alias_is = sym c.in_ok-judge_found-in-Some.ensures.alias;
      closure = subst (λ f. IsClosureAt s.tables.now s.components.now s.numbers.now (c.args.position ∷ s.outer.now) f t.closure) (sym c.in_ok-judge_found-in-Some.ensures.same) (record { def = refl; shown = h.shown });
      pairs = c.in_ok-judge_found-in-Some.ensures.given t us ty old ∙ ap (flat_map (given_in t)) (sym seen);
      values = c.in_ok-judge_found-in-Some.ensures.values t ty;
    }

pub judge_found-requires-clause-stands : goal.judge_found-requires-clause-stands
judge_found-requires-clause-stands c = def_stands c.args.scene.now.components.now c.args.scene.now.numbers.now _ c.args.item.now refl c.requires.stands (ap item_is c.in-Def.is ∙ item_is-Def c.in-Def.def)

pub judge_found-requires-in-Some-find_component-clause-level : goal.judge_found-requires-in-Some-find_component-clause-level
judge_found-requires-in-Some-find_component-clause-level c = omega (arith, c.in-Some-find_component.ensures.within)

pub returns-in-Some-find_component-clause-earlier : goal.returns-in-Some-find_component-clause-earlier
returns-in-Some-find_component-clause-earlier c = λ p above scope us h old.
    let s = c.args.scene.now in
    let alias = c.in-Made.alias in
    let of = c.in-Made.of in
    let is = c.in-Made.insts in
    let same = c.deref.ensures.value ∙ c.in_ok-uptos-in-Made.ensures in
    let shown = found_named s c.args.position p scope c.deref.result.now h same in
    let f = c.in-Some-find_component.ensures.found s.tables.now scope shown in
    let at = subst (λ us. IsClosureAt s.tables.now s.components.now s.numbers.now us c.in-Some-find_component.found f.0) same f.2 in
    let all = uses_named c.args.item.now alias of is f.0 p above scope (ap item_is c.in-Made.is) f.1 in
    let t = named alias of is f.0 p above scope in
    let ty = type_named s c.args.position p above scope h alias of is c.in-Some-find_component.found f.0 at in
    subst (λ xs. AreEarlier c.judge_found-in-Some-find_component.new.earlier (us ++ xs)) (sym all) (c.in_ok-judge_found-in-Some-find_component.ensures.earlier t us ty old)

pub returns-in-Some-find_component-clause-noted : goal.returns-in-Some-find_component-clause-noted
returns-in-Some-find_component-clause-noted c = λ p above scope us h old.
    let s = c.args.scene.now in
    let alias = c.in-Made.alias in
    let of = c.in-Made.of in
    let is = c.in-Made.insts in
    let same = c.deref.ensures.value ∙ c.in_ok-uptos-in-Made.ensures in
    let shown = found_named s c.args.position p scope c.deref.result.now h same in
    let f = c.in-Some-find_component.ensures.found s.tables.now scope shown in
    let at = subst (λ us. IsClosureAt s.tables.now s.components.now s.numbers.now us c.in-Some-find_component.found f.0) same f.2 in
    let all = uses_named c.args.item.now alias of is f.0 p above scope (ap item_is c.in-Made.is) f.1 in
    let t = named alias of is f.0 p above scope in
    let ty = type_named s c.args.position p above scope h alias of is c.in-Some-find_component.found f.0 at in
    c.in_ok-judge_found-in-Some-find_component.ensures.noted t us ty old ∙ ap (λ xs. with_all (flat_map of_use (map (seen_in p above) (standing_from us xs))) c.args.failures.now) (sym all)

pub returns-in-Some-find_component-clause-given : goal.returns-in-Some-find_component-clause-given
returns-in-Some-find_component-clause-given c = λ p above scope us h old.
    let s = c.args.scene.now in
    let alias = c.in-Made.alias in
    let of = c.in-Made.of in
    let is = c.in-Made.insts in
    let same = c.deref.ensures.value ∙ c.in_ok-uptos-in-Made.ensures in
    let shown = found_named s c.args.position p scope c.deref.result.now h same in
    let f = c.in-Some-find_component.ensures.found s.tables.now scope shown in
    let at = subst (λ us. IsClosureAt s.tables.now s.components.now s.numbers.now us c.in-Some-find_component.found f.0) same f.2 in
    let all = uses_named c.args.item.now alias of is f.0 p above scope (ap item_is c.in-Made.is) f.1 in
    let t = named alias of is f.0 p above scope in
    let ty = type_named s c.args.position p above scope h alias of is c.in-Some-find_component.found f.0 at in
    let seen = ap (λ xs. map (seen_in p above) (standing_from us xs)) all in
    record {
      type = t;
      list = is.list.now;
      all_are = seen;
      alias_is = sym c.in_ok-judge_found-in-Some-find_component.ensures.alias;
      closure = subst (λ f'. IsClosureAt s.tables.now s.components.now s.numbers.now (c.args.position ∷ s.outer.now) f' f.0) (sym c.in_ok-judge_found-in-Some-find_component.ensures.same) at;
      pairs = c.in_ok-judge_found-in-Some-find_component.ensures.given t us ty old ∙ ap (flat_map (given_in t)) (sym seen);
      values = c.in_ok-judge_found-in-Some-find_component.ensures.values t ty;
    }

pub returns-in-Made-clause-earlier : goal.returns-in-Made-clause-earlier
returns-in-Made-clause-earlier c = λ p above scope us h old.
    let s = c.args.scene.now in
    let alias = c.in-Made.alias in
    let of = c.in-Made.of in
    let is = c.in-Made.insts in
    let same = c.deref.ensures.value ∙ c.in_ok-uptos-in-Made.ensures in
    let shown = found_named s c.args.position p scope c.deref.result.now h same in
    let none = c.in-None-find_component.ensures.found s.tables.now scope shown in
    let all = uses_unnamed c.args.item.now alias of is p above scope (ap item_is c.in-Made.is) none in
    let t = unnamed alias of is p above scope in
    subst (λ xs. AreEarlier c.judge_unknown.new.earlier (us ++ xs)) (sym all) (c.in_ok-judge_unknown-in-None-find_component.ensures.earlier t us refl old)

pub returns-in-Made-clause-noted : goal.returns-in-Made-clause-noted
returns-in-Made-clause-noted c = λ p above scope us h old.
    let s = c.args.scene.now in
    let alias = c.in-Made.alias in
    let of = c.in-Made.of in
    let is = c.in-Made.insts in
    let same = c.deref.ensures.value ∙ c.in_ok-uptos-in-Made.ensures in
    let shown = found_named s c.args.position p scope c.deref.result.now h same in
    let none = c.in-None-find_component.ensures.found s.tables.now scope shown in
    let all = uses_unnamed c.args.item.now alias of is p above scope (ap item_is c.in-Made.is) none in
    let t = unnamed alias of is p above scope in
    c.in_ok-judge_unknown-in-None-find_component.ensures.noted t us refl old ∙ ap (λ xs. with_all (flat_map of_use (map (seen_in p above) (standing_from us xs))) c.args.failures.now) (sym all)

pub returns-in-Made-clause-given : goal.returns-in-Made-clause-given
returns-in-Made-clause-given c = λ p above scope us h old.
    let s = c.args.scene.now in
    let alias = c.in-Made.alias in
    let of = c.in-Made.of in
    let is = c.in-Made.insts in
    let same = c.deref.ensures.value ∙ c.in_ok-uptos-in-Made.ensures in
    let shown = found_named s c.args.position p scope c.deref.result.now h same in
    let none = c.in-None-find_component.ensures.found s.tables.now scope shown in
    let all = uses_unnamed c.args.item.now alias of is p above scope (ap item_is c.in-Made.is) none in
    let t = unnamed alias of is p above scope in
    ap (λ xs. flat_map given_by (map (seen_in p above) (standing_from us xs))) all ∙ none_given t us is.list.now
