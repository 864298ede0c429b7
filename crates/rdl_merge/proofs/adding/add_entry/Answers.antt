use Rattle.std.proofs.Common.{◌∙◌, sym, ap}
use Rattle.std.specs.List.{list_any}
use Rattle.rdl_props.specs.Same.{same_prop}
use Rattle.rdl_merge.proofs.Found.{entry_again, entry_new}
use Rattle.rdl_merge.proofs.adding.add_entry.Goals as goal

pub returns-then-has_entry : goal.returns-then-has_entry
returns-then-has_entry c = λ all xs a h k. entry_again all c.args.entries.now.items xs c.args.entry a (ap (list_any (λ e. same_prop c.args.entry.prop e.prop)) (sym c.deref.ensures.value) ∙ sym c.has_entry.ensures ∙ c.if-has_entry.true) h k

pub returns : goal.returns
returns c = λ all xs a h k. entry_new all c.args.entries.now.items c.push.new.self.items xs c.args.entry a c.in_ok-push.ensures.items h k
