use Rattle.std.proofs.Common.{◌∙◌, Some, arith, sym, ap}
use Rattle.std.proofs.lemmas.List.{length-map}
use Rattle.rdl_values.specs.Table.{keys_of}
use Rattle.rdl_values.specs.Values.{entry_named}
use Rattle.rdl_values.proofs.Tables.{named-none, named-some, place_within}
use Rattle.rdl_values.proofs.table.EnumTable.number.Goals as goal

pub returns-in_err-at : goal.returns-in_err-at
returns-in_err-at c =
    let n = c.args.name.now in
    c.from_residual.ensures ∙ sym (named-none (λ k. k) n c.self.inside.entries.items (sym (c.self.invariant.at n) ∙ sym c.find.ensures ∙ c.in_err-at.was)) ∙ ap (λ e. entry_named n e.entries) c.self.view_is

pub index-requires : goal.index-requires
index-requires c =
    let n = c.args.name.now in
    let es = c.self.inside.entries.items in
    let within = place_within n (keys_of es) c.in_ok-at.at (sym (c.self.invariant.at n) ∙ sym c.find.ensures ∙ c.in_ok-at.was) in
    let size = length-map es (λ e. e.0.now) in
    omega (arith, within, size, c.self.inside.entries.ok.0)

pub returns : goal.returns
returns c =
    let n = c.args.name.now in
    let es = c.self.inside.entries.items in
    let found = named-some (λ k. k) n es c.index.result.now c.in_ok-at.at (sym (c.self.invariant.at n) ∙ sym c.find.ensures ∙ c.in_ok-at.was) in
    ap (λ e. Some e.1) c.index.ensures ∙ sym found ∙ ap (λ e. entry_named n e.entries) c.self.view_is
