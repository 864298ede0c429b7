use Rattle.std.proofs.Common.{◌≡◌, ◌∙◌, ◌<◌, ◌≤◌, ℕ, List, None, Some, Option, ap, length, map, option_and_then, option_map, slice_get, subst, sym}
use Rattle.std.specs.Option.{option_or}
use Rattle.std.proofs.lemmas.List.{length-map}
use Rattle.rdl_values.specs.Seen.{val_of}
use Rattle.rdl_values.specs.Values.{Val, entry_named}
use Rattle.rdl_values.specs.Kept.{AreDefaults}
use Rattle.rdl_values.proofs.Fronts.{is_seen, not_seen, not_there}
use Rattle.rdl_values.proofs.Tables.{place_in, place_within}
use Rattle.rdl_values.proofs.parameters.Parameters.value.Goals as goal

pub returns-in_err-at : goal.returns-in_err-at
returns-in_err-at c = λ xs k t h.
    let d = subst (λ d. AreDefaults d xs) (sym c.deref.ensures) h.defaults in
    ap (option_map val_of) c.from_residual.ensures ∙ sym (not_there c.args.name.now xs k t h.apart (sym c.in_err-at.was ∙ c.find.ensures xs d))

pub returns-then-at-self : goal.returns-then-at-self
returns-then-at-self c = λ xs k t h.
    let d = subst (λ d. AreDefaults d xs) (sym c.deref.ensures) h.defaults in
    sym (not_seen c.args.name.now xs k t h.apart c.in_ok-at.at (sym c.in_ok-at.was ∙ c.find.ensures xs d) (subst (λ u. u ≤ c.in_ok-at.at) h.upto_is c.if-at-self.true))

pub returns-in-Some : goal.returns-in-Some
returns-in-Some c = λ xs k t h.
    let n = c.args.name.now in
    let at = c.in_ok-at.at in
    let d = subst (λ d. AreDefaults d xs) (sym c.deref.ensures) h.defaults in
    let place : Some at ≡ place_in n (map (λ x. x.0) xs) = sym c.in_ok-at.was ∙ c.find.ensures xs d in
    let within : at < length xs = subst (λ m. at < m) (length-map xs (λ x. x.0)) (place_within n (map (λ x. x.0) xs) at (sym place)) in
    let put : entry_named n t ≡ Some (val_of c.in-Some.value) = sym (c.put_value.ensures xs k t h) ∙ ap (option_map val_of) c.in-Some.is in
    sym (is_seen n xs k t h.apart at place (subst (λ u. at < u) h.upto_is c.if-at-self.false) within ∙ ap (λ o. option_or o (option_and_then (λ (x : List ℕ × Option Val). x.1) (slice_get xs at))) put)

pub returns-in-None : goal.returns-in-None
returns-in-None c = λ xs k t h.
    let n = c.args.name.now in
    let at = c.in_ok-at.at in
    let d = subst (λ d. AreDefaults d xs) (sym c.deref.ensures) h.defaults in
    let e = subst (λ d. AreDefaults d xs) (sym c.deref-in-None.ensures) h.defaults in
    let place : Some at ≡ place_in n (map (λ x. x.0) xs) = sym c.in_ok-at.was ∙ c.find.ensures xs d in
    let within : at < length xs = subst (λ m. at < m) (length-map xs (λ x. x.0)) (place_within n (map (λ x. x.0) xs) at (sym place)) in
    let put : entry_named n t ≡ None = sym (c.put_value.ensures xs k t h) ∙ ap (option_map val_of) c.in-None.is in
    c.value.ensures xs e ∙ sym (is_seen n xs k t h.apart at place (subst (λ u. at < u) h.upto_is c.if-at-self.false) within ∙ ap (λ o. option_or o (option_and_then (λ (x : List ℕ × Option Val). x.1) (slice_get xs at))) put)
