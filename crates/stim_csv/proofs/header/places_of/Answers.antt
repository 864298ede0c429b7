use Rattle.std.proofs.Common.{◌≡◌, ◌≢◌, ℕ, ◌+◌, ◌<◌, List, Option, Some, if◌then◌else◌, take, length, get_or, ap, ◌∙◌}
use Rattle.std.specs.List.{AllPairs}
use Rattle.std.specs.Str.{bytes_eq}
use Rattle.std.proofs.lemmas.Map.Text.{btree_map_updates_str}
use Rattle.rb_base.specs.declared.ports.Pin.{Pin}
use Rattle.stim_csv.specs.PinTable.{place_of}
use Rattle.stim_csv.proofs.Headers.{place-more}
use Rattle.stim_csv.proofs.header.places_of.Goals as goal

-- the look-up of a name after one pin more
step : (pins : List Pin) (i : ℕ) (d : Pin) (name text : List ℕ) (old new : Option ℕ) → AllPairs (λ p q. p.name ≢ q.name) pins → i < length pins
    → text ≡ (get_or pins i d).name → old ≡ place_of (take i pins) name → new ≡ (if bytes_eq text name then Some i else old) → new ≡ place_of (take (i + 1) pins) name
step pins i d name text old new apart l is was e =
    e ∙ (ap (λ t. if bytes_eq t name then Some i else old) is ∙ (ap (λ o. if bytes_eq (get_or pins i d).name name then Some i else o) was ∙ place-more pins i d name apart l))

pub loop-place-preserved : goal.loop-place-preserved
loop-place-preserved c = λ name.
    let updated = btree_map_updates_str c.as_slice.result.now c.loop-place.places c.insert.new.self _ c.in_ok-insert.ensures.updates name in
    let text = c.as_slice.ensures.value ∙ ap (λ p. p.name) c.pin.view_is in
    step c.args.pins.now c.loop-place.place c.index-pins-place.result name c.as_slice.result.now _ _ c.requires c.loop-place-test.true
    (text ∙ ap (λ p. p.name) c.index-pins-place.is) (c.loop-place.invariant name) updated
