use Rattle.std.proofs.Common.{◌≡◌, ◌∙◌, Some, option_map, slice_get, ap, refl, sym}
use Rattle.std.proofs.lemmas.Option.{slice_get_past, slice_get_read}
use Rattle.rdl_targets.proofs.Walking.{now-spread, spread-none}
use Rattle.rdl_targets.proofs.trails.Trails.spread.Goals as goal

pub returns-in_ok-insert-in-Some : goal.returns-in_ok-insert-in-Some
returns-in_ok-insert-in-Some c = λ e node rows h.
    let found = c.in-Some.ensures.lookup.3 in
    let here : option_map (λ v. v.items) (slice_get c.args.self.now.sets.items c.args.path) ≡ Some c.deref-in-Some.result.now =
    ap (λ s. option_map (λ v. v.items) (slice_get s c.args.path)) (sym c.deref.ensures.value)
    ∙ (ap (option_map (λ v. v.items)) (slice_get_read c.deref.result.now _ c.args.path c.in-Some.nodes.now refl found.0 (found.1 c.in-Some.nodes.now)) ∙ ap Some (sym c.deref-in-Some.ensures.value)) in
    now-spread e node c.args.path c.args.rows.now c.deref-in-Some.result.now c.args.self.now
    (record { sets = c.args.self.now.sets; steps = c.args.self.now.steps; inside = c.note_all.new.self; spread = c.insert.new.self })
    here refl refl c.in_ok-note_all-in-Some.ensures c.in_ok-insert-in-Some.ensures.updates.0 rows h

pub returns-in-None : goal.returns-in-None
returns-in-None c = λ e node rows h.
    spread-none e node c.args.path c.args.self.now (ap (λ s. slice_get s c.args.path) (sym c.deref.ensures.value) ∙ slice_get_past c.deref.result.now c.args.path c.in-None.ensures.lookup.3) h
