use Rattle.std.specs.List.{list_all, list_any}
use Rattle.std.proofs.Common.{◌≡◌, ◌&&◌, ◌||◌, nat_lt, true, not, is_some, [], length, map, take, get_or, ap, sym, ◌∙◌, subst, add-one, arith}
use Rattle.plain_lemmas.proofs.Lists.{all-get, mapped-at}
use Rattle.v_design.proofs.Tests.{and-left, and-right}
use Rattle.v_design.specs.Expr.{nets_of}
use Rattle.v_design.specs.Lexemes.{among}
use Rattle.v_design.specs.WellFormed.{all_among, clock, drives_its_kind, drives_well, expr, names, used}
use Rattle.v_syntax.specs.Faulty.{all_driven, driven_by}
use Rattle.v_check.specs.Drivers.{AreDrivers, IsMisdriven, are_declared, driver_at, driver_of}
use Rattle.v_check.specs.Nets.{nets_seen, number_of}
use Rattle.v_check.specs.Sizes.{stmt_places}
use Rattle.v_check.specs.Uses.{stmt_reads}
use Rattle.v_check.proofs.Driving.{again-driven, all-more, any-driven, driven-statement, driver-put, drivers_more, kind-declared, nets-statement, reads-declared, statement-at, statement-within, take-whole, wrong-test}
use Rattle.v_check.proofs.Finding.{element-at, finds_next, finds_all, stmt-place, some-test}
use Rattle.v_check.proofs.drivers.drive_all.Goals as goal

pub loop-index-preserved : goal.loop-index-preserved
loop-index-preserved c =
    let nets = c.args.nets.now in
    let ns = nets_seen nets in
    let stmts = c.args.stmts.now in
    let events = c.args.events.now in
    let i = c.loop-index.index in
    let stmt = c.index-stmts-index.result in
    let old = c.loop-index.drivers in
    let new = c.add.new.self in
    let inv = c.loop-index.invariant in
    let at = element-at stmts i stmt c.loop-index-test.true c.index-stmts-index.is in
    let target : c.index-target.result.now ≡ number_of nets stmt.to
    = c.index-target.ensures ∙ (ap (λ l. get_or l i c.index-target.result.now) c.requires.uses.targets ∙ mapped-at (λ s. number_of nets s.to) stmts i stmt c.index-target.result.now at) in
    record {
      count = c.in_ok-add.ensures.count ∙ inv.count;
      drivers = λ ss are all.
          let (s, here, is) = statement-at stmts events ss i stmt _ are c.loop-index-test.true c.index-stmts-index.is in
          let known = all-get (λ t. all_among (names ns) (used t)) ss i s all here in
          subst (λ n. AreDrivers (driver_at nets new) (take n ss)) (sym (add-one i))
          (drivers_more (driver_at nets old) (driver_at nets new) ss i s _ here (driven-statement stmt _ s is) (inv.drivers ss are all)
          (driver-put nets old new stmt _ s i c.index-target.result.now c.last_target-last.result is known target c.last_target-last.ensures inv.count c.in_ok-add.ensures.put));
      found = λ once ss are all.
          let (s, here, is) = statement-at stmts events ss i stmt _ are c.loop-index-test.true c.index-stmts-index.is in
          let kind = c.drives_its_kind-kind.ensures once s is in
          let clocked = c.reads_clock.ensures ∙ ap (λ ms. among ms clock) (nets-statement stmt _ s is) in
          let again = c.has_driver-again.ensures
          ∙ (ap (λ k. is_some (driver_of old k) || is_some (driver_of old c.last_target-last.result)) target
          ∙ (ap (λ k. is_some (driver_at nets old stmt.to) || is_some (driver_of old k)) c.last_target-last.ensures
          ∙ (any-driven (λ n. is_some (driver_at nets old n)) stmt _
          ∙ again-driven (driver_at nets old) ss i s _ (driven-statement stmt _ s is) (inv.drivers ss are all)))) in
          finds_next (IsMisdriven ns ss) (stmt_places stmts) c.loop-index.misdriven c.note-misdriven.result c.is_misdriven-wrong.result stmt.place i
          c.note-misdriven.ensures (stmt-place stmts i stmt c.loop-index-test.true c.index-stmts-index.is)
          (some-test ss i s (λ t. drives_well ns t && not (list_any (among (all_driven (take i ss))) (driven_by t))) c.is_misdriven-wrong.result here
          (wrong-test c.is_misdriven-wrong.result c.drives_its_kind-kind.result c.reads_clock.result c.has_driver-again.result _ _ _ c.is_misdriven-wrong.ensures kind clocked again))
          (inv.found once ss are all);
      declared = λ yes once ss are.
          let (s, here, is) = statement-at stmts events ss i stmt _ are c.loop-index-test.true c.index-stmts-index.is in
          let d = c.loop-index.declared in
          let k = c.drives_its_kind-kind.result in
          let three : (d && k && c.are_numbers-read.result) ≡ true = sym c.all_three-declared.ensures ∙ yes in
          let two = and-left (d && k) c.are_numbers-read.result three in
          let kind : drives_its_kind ns s ≡ true = sym (c.drives_its_kind-kind.ensures once s is) ∙ and-right d k two in
          let list : c.get.result.now ≡ map (number_of nets) (nets_of (expr s))
          = c.get.ensures.list ∙ (ap (λ l. get_or l i []) c.requires.uses.reads ∙ (mapped-at (stmt_reads (number_of nets)) stmts i stmt [] at ∙ ap (map (number_of nets)) (nets-statement stmt _ s is))) in
          let read = ap (list_all (λ j. nat_lt j (length nets))) (sym list) ∙ (sym c.are_numbers-read.ensures ∙ and-right (d && k) c.are_numbers-read.result three) in
          subst (λ n. are_declared ns (take n ss) ≡ true) (sym (add-one i))
          (all-more (λ t. all_among (names ns) (used t)) ss i s here (inv.declared (and-left d k two) once ss are) (kind-declared ns s kind (reads-declared nets (nets_of (expr s)) read)));
    }

pub returns-clause-drivers : goal.returns-clause-drivers
returns-clause-drivers c = λ ss are all.
    subst (AreDrivers (driver_at c.args.nets.now c.loop-index.drivers)) (take-whole ss c.args.stmts.now c.args.events.now c.loop-index.index are c.loop-index-test.false) (c.loop-index.invariant.drivers ss are all)

pub returns-clause-found : goal.returns-clause-found
returns-clause-found c = λ once ss are all.
    finds_all (IsMisdriven (nets_seen c.args.nets.now) ss) (stmt_places c.args.stmts.now) c.loop-index.misdriven c.loop-index.index
    (λ i q. let l = statement-within c.args.stmts.now c.args.events.now ss i q.0 are q.1 in omega (arith, l)) (c.loop-index.invariant.found once ss are all)

pub returns-clause-declared : goal.returns-clause-declared
returns-clause-declared c = λ yes once ss are.
    subst (λ ts. are_declared (nets_seen c.args.nets.now) ts ≡ true) (take-whole ss c.args.stmts.now c.args.events.now c.loop-index.index are c.loop-index-test.false)
    (c.loop-index.invariant.declared yes once ss are)
