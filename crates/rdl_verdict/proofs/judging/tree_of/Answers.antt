use Rattle.std.proofs.Common.{Some, option_copied, subst}
use Rattle.rdl_values.specs.Elaborated.{HasWords, top_name}
use Rattle.rdl_nodes.specs.Single.{AreSingle}
use Rattle.rdl_verdict.proofs.Later.{error-on, grown, here, refused3}
use Rattle.rdl_verdict.proofs.judging.tree_of.Goals as goal

pub returns-in_err-source-clause-error : goal.returns-in_err-source-clause-error
returns-in_err-source-clause-error c = error-on _ _ _ _ c.from_residual.ensures.1 (c.in_err-source.ensures.error (option_copied c.args.top))

pub returns-in_err-elab-clause-error : goal.returns-in_err-elab-clause-error
returns-in_err-elab-clause-error c = error-on _ _ _ _ c.from_residual-in_err-elab.ensures.1 (refused3 _ _ c.in_ok-source.source.now c.in_ok-source.ensures.tree _ c.in_err-elab.ensures.error)

pub returns-clause-grown : goal.returns-clause-grown
returns-clause-grown c =
    let top = option_copied c.args.top in
    let text = c.args.text.now in
    let s = c.in_ok-source.source.now in
    let e = c.in_ok-elab.elab in
    let reads = c.in_ok-source.ensures.tree in
    let h = c.in_ok-elab.ensures.tree in
    let single = subst (λ x. AreSingle x.items.now) (here top text s e h) (c.derived_forms_are_single.ensures reads.tokens _ reads.derived) in
    let words = subst (λ x. HasWords (Some (top_name e)) x) (here top text s e h) (c.names_are_words.ensures (Some (top_name e)) s (c.derived_in_order.ensures.words reads.tokens _ (c.spelled_in_order.ensures.words c.args.text.now reads.tokens reads.spelled) reads.derived)) in
    grown top text s e h reads (c.name_decides_the_top.ensures.top _ s e h) (c.name_decides_the_top.ensures.tree _ s e h)
    (c.derived_in_order.ensures.order reads.tokens _ (c.spelled_in_order.ensures.places text reads.tokens reads.spelled) reads.derived)
    words (c.forms_are_single.ensures (Some (top_name e)) e.source.now single)
