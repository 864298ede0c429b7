use Rattle.std.proofs.Common.{◌≡◌, ◌∙◌, ℕ, List, ap, map, option_and_then, option_map, slice_get, sym}
use Rattle.rdl_values.specs.Seen.{bound_of, val_of}
use Rattle.rdl_values.specs.Values.{Val}
use Rattle.rdl_values.proofs.Fronts.{bound-at, whole-at}
use Rattle.rdl_values.proofs.Tables.{place_in}
use Rattle.rdl_values.proofs.parameters.Parameters.put_value.Goals as goal

pub returns-in_err-at : goal.returns-in_err-at
returns-in_err-at c = λ xs k t h.
    let n = c.args.name.now in
    let place : place_in n (map (λ b. b.0) t) ≡ c.find.result = sym (c.find.ensures ∙ h.places.at n) in
    ap (option_map val_of) c.from_residual.ensures ∙ sym (whole-at n t ∙ ap (option_and_then (λ k. option_map (λ (b : List ℕ × Val). b.1) (slice_get t k))) (place ∙ c.in_err-at.was))

pub returns : goal.returns
returns c = λ xs k t h.
    let n = c.args.name.now in
    let at = c.in_ok-at.at in
    let items = c.args.self.now.touched.items in
    let place : place_in n (map (λ b. b.0) t) ≡ c.find.result = sym (c.find.ensures ∙ h.places.at n) in
    c.value_at.ensures ∙ ap (λ l. option_map (λ (b : List ℕ × Val). b.1) (option_map bound_of (slice_get l at))) c.deref.ensures.value ∙ ap (option_map (λ (b : List ℕ × Val). b.1)) (sym (bound-at items at))
    ∙ ap (λ l. option_map (λ (b : List ℕ × Val). b.1) (slice_get l at)) h.touched_are ∙ sym (whole-at n t ∙ ap (option_and_then (λ k. option_map (λ (b : List ℕ × Val). b.1) (slice_get t k))) (place ∙ c.in_ok-at.was))
