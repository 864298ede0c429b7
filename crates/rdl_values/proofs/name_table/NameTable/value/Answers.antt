use Rattle.std.proofs.Common.{◌≡◌, ◌∙◌, MatchOption, None, Some, arith, subst, sym, ap}
use Rattle.std.proofs.lemmas.List.{length-map}
use Rattle.rdl_values.specs.Over.{shown_or_none}
use Rattle.rdl_values.specs.Seen.{val_of}
use Rattle.rdl_values.specs.Table.{bound_by, keys_of}
use Rattle.rdl_values.specs.Values.{entry_named}
use Rattle.rdl_values.proofs.Tables.{named-none, named-some, over-none, over-some, place_within}
use Rattle.rdl_values.proofs.name_table.NameTable.value.Goals as goal

pub returns-in-Some : goal.returns-in-Some
returns-in-Some c =
    let n = c.args.name.now in
    let found = over-some val_of n c.value_over.result (shown_or_none c.self.inside.over) (bound_by c.self.inside.bound.items) c.in-Some.value c.in-Some.is (c.value_over.ensures c.self.invariant.shown_are) in
    ap (λ t. entry_named n t.bound) (sym c.self.view_is) ∙ found

pub returns-in_err-at : goal.returns-in_err-at
returns-in_err-at c =
    let n = c.args.name.now in
    let es = c.self.inside.bound.items in
    let own = over-none val_of n c.value_over.result (shown_or_none c.self.inside.over) (bound_by es) c.in_default.is (c.value_over.ensures c.self.invariant.shown_are) in
    let none = own ∙ named-none val_of n es (sym (c.self.invariant.bound_at.at n) ∙ sym c.find.ensures ∙ c.in_err-at.was) in
    let seen = ap (λ t. entry_named n t.bound) (sym c.self.view_is) ∙ none in
    subst (λ o. MatchOption o (entry_named n c.args.self.now.bound ≡ None) (λ v. entry_named n c.args.self.now.bound ≡ Some (val_of v))) (sym c.from_residual.ensures) seen

pub index-requires : goal.index-requires
index-requires c =
    let n = c.args.name.now in
    let es = c.self.inside.bound.items in
    let within = place_within n (keys_of es) c.in_ok-at.at (sym (c.self.invariant.bound_at.at n) ∙ sym c.find.ensures ∙ c.in_ok-at.was) in
    let size = length-map es (λ e. e.0.now) in
    omega (arith, within, size, c.self.inside.bound.ok.0)

pub returns : goal.returns
returns c =
    let n = c.args.name.now in
    let es = c.self.inside.bound.items in
    let own = over-none val_of n c.value_over.result (shown_or_none c.self.inside.over) (bound_by es) c.in_default.is (c.value_over.ensures c.self.invariant.shown_are) in
    let found = named-some val_of n es c.index.result.now c.in_ok-at.at (sym (c.self.invariant.bound_at.at n) ∙ sym c.find.ensures ∙ c.in_ok-at.was) in
    ap (λ t. entry_named n t.bound) (sym c.self.view_is) ∙ own ∙ found ∙ ap (λ e. Some (val_of e.1)) (sym c.index.ensures)
