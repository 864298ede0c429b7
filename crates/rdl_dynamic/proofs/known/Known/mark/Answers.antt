use Rattle.std.proofs.Common.{◌∙◌, refl, sym}
use Rattle.plain_lemmas.proofs.Results.{on_ok-map as on_ok}
use Rattle.rdl_dynamic.proofs.Knowing.{mark-again, mark-first}
use Rattle.rdl_dynamic.proofs.known.Known.mark.Goals as goal

pub returns-then-is_some-clause-known : goal.returns-then-is_some-clause-known
returns-then-is_some-clause-known c = on_ok c.add.result _ _ (λ put e node rows b earlier d h led named is ruled.
    mark-again e node rows b c.args.self.now (record { trails = c.args.self.now.trails; marks = c.args.self.now.marks; seen = c.args.self.now.seen; rivals = c.add.new.self }) earlier d c.args.path c.args.prop c.args.excluded c.find.result refl refl refl put ruled c.find.ensures (sym c.is_some.ensures ∙ c.if-is_some.true) h led named) c.add.ensures

pub returns-clause-known : goal.returns-clause-known
returns-clause-known c = on_ok c.add-2.result _ _ (λ seen e node rows b earlier d h led named is ruled.
    mark-first e node rows b c.args.self.now (record { trails = c.args.self.now.trails; marks = c.add_all.new.self; seen = c.add-2.new.self; rivals = c.new.result }) earlier d c.args.path c.args.prop c.args.legal c.nodes.result.now refl c.nodes.ensures c.in_ok-add_all.ensures seen c.new.ensures h led named is) c.add-2.ensures
