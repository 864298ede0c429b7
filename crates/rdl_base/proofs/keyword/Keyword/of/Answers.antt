use Rattle.std.proofs.Common.{Bool, sym, ap, ◌∙◌}
use Rattle.std.proofs.lemmas.List.{at_drop_all}
use Rattle.std.proofs.lemmas.Slice.Eq.{bytes_eq-Decides}
use Rattle.std.specs.List.{list_any}
use Rattle.std.specs.Str.{bytes_eq}
use Rattle.rdl_base.specs.declared.keyword.Keyword.{Keyword}
use Rattle.rdl_base.specs.Keywords.{word, is_reserved}
use Rattle.rdl_base.proofs.Reserved.{is_reserved-word, is_reserved-of_length}
use Rattle.rdl_base.proofs.keyword.Keyword.of.Goals as goal

pub returns-then-eq-clause-reserved : goal.returns-then-eq-clause-reserved
returns-then-eq-clause-reserved c =
    let spelled = (bytes_eq-Decides c.as_bytes.result.now c.args.text.now).0 (sym c.if-eq.ensures) in
    is_reserved-word _ ∙ ap is_reserved (sym c.word.ensures ∙ sym c.as_bytes.ensures.value ∙ spelled)

pub returns-clause-reserved : goal.returns-clause-reserved
returns-clause-reserved c =
    let text = c.args.text.now in
    let test : Keyword → Bool = λ k. bytes_eq (word k) text in
    let none = at_drop_all (list_any test) c.of_length-keyword-items.result.now c.loop-keyword.keyword-index c.loop-keyword-test.false in
    sym none ∙ sym c.loop-keyword.invariant ∙ ap (list_any test) c.of_length-keyword-items.ensures ∙ is_reserved-of_length text
