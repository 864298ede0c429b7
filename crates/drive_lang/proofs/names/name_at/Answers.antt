use Rattle.std.proofs.Common.{◌≡◌, [], Some, slice_get, unwrap_or, ap, sym, subst, ◌∙◌}
use Rattle.std.proofs.lemmas.Option.{slice_get_within}
use Rattle.drive_lang.specs.declared.order.Line.{Line}
use Rattle.drive_lang.specs.Playing.{name_in}
use Rattle.drive_lang.specs.Rising.{number_in}
use Rattle.drive_lang.proofs.Found.{got, one_place}
use Rattle.drive_lang.proofs.names.name_at.Goals as goal

pub returns-in-Some : goal.returns-in-Some
returns-in-Some c = λ k l there is.
    let lines = c.args.lines.now in
    let place = c.in-Some.place in
    let found = c.in-Some.ensures.found in
    let same : k ≡ place = one_place lines c.requires c.args.number k place (slice_get_within lines k l there) found.0 (ap number_in there ∙ is) found.1 in
    let at : slice_get lines place ≡ Some l = subst (λ j. slice_get lines j ≡ Some l) same there in
    let read : c.index-lines-place.result ≡ l = got lines place l c.index-lines-place.result at c.index-lines-place.is in
    c.name_of.ensures ∙ ap (λ (m : Line). unwrap_or (name_in m.order) []) (sym c.index-lines-place.is ∙ read)

pub returns-in-None : goal.returns-in-None
returns-in-None c = λ k l there is. absurd (c.in-None.ensures.missing k (slice_get_within c.args.lines.now k l there) (ap number_in there ∙ is))
