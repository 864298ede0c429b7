use Rattle.std.proofs.Common.{◌∙◌, ◌++◌, append-nil, sym, ap}
use Rattle.rdl_block_words.proofs.slot.add_slot.Goals as goal

pub returns-in_ok-push : goal.returns-in_ok-push
returns-in_ok-push c = λ n. c.in_ok-push.ensures.items ∙ ap (λ s. c.args.slots.now.items ++ s) (c.in-Some.ensures n)

pub returns-in_default : goal.returns-in_default
returns-in_default c = λ n. sym (append-nil c.args.slots.now.items) ∙ ap (λ s. c.args.slots.now.items ++ s) (c.in_default.ensures n)
