use Rattle.plain_lemmas.proofs.Results.{if_ok-map as if_ok}
use Rattle.rdl_dynamic.proofs.Knowing.{kinds-noted}
use Rattle.rdl_dynamic.proofs.targets.judge_kinds.Goals as goal

pub returns : goal.returns
returns c = if_ok c.note.result _ _ (λ ok noted e rows a p ks ns are named place there is. kinds-noted e rows a p ks ns c.args.place c.args.legal ok c.args.failures.now c.note.new.self noted are named place there is) c.note.ensures
