use Rattle.std.proofs.Common.{sym, ◌∙◌, arith}
use Rattle.rb_grammar.proofs.Scanning.{leads_blank, leads_line, leads_block, opens}
use Rattle.rb_grammar.proofs.separators.separator_len.Goals as goal

pub returns-in_err-body_len-in-47-2 : goal.returns-in_err-body_len-in-47-2
returns-in_err-body_len-in-47-2 c = rw c.from_residual.ensures (c.if-comments-2.true, opens c.args.text.now c.in-47-2.len_at_least (omega arith) (omega arith) c.in_err-body_len-in-47-2.ensures)

pub returns-in-len1-up : goal.returns-in-len1-up
returns-in-len1-up c = leads_blank c.args.comments c.args.text.now c.in-len1-up.len_at_least (sym c.is_blank.ensures ∙ c.if-is_blank.true)

pub returns-in-47 : goal.returns-in-47
returns-in-47 c = leads_line c.args.comments c.args.text.now c.line_len.result c.if-comments.true c.in-47.len_at_least (omega arith) (omega arith) c.line_len.ensures

pub returns-in_ok-body_len-in-47-2 : goal.returns-in_ok-body_len-in-47-2
returns-in_ok-body_len-in-47-2 c = leads_block c.args.comments c.args.text.now c.in_ok-body_len-in-47-2.field-0 c.if-comments-2.true c.in-47-2.len_at_least (omega arith) (omega arith) c.in_ok-body_len-in-47-2.ensures
