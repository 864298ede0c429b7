use Rattle.std.proofs.Common.{◌≡◌, ◌∙◌, ◌++◌, append_assoc, ap, arith, sym}
use Rattle.command_line.specs.Source.{first_line, last_line, register_line, register_lines}
use Rattle.command_line.proofs.Registers.{one_more, short-text}
use Rattle.command_line.proofs.lines.source.Goals as goal

pub loop-number-preserved : goal.loop-number-preserved
loop-number-preserved c =
    let n = c.loop-number.number in
    let first = first_line c.args.count in
    c.in_ok-push_register.ensures ∙ ap (λ t. t ++ register_line n) c.loop-number.invariant ∙ append_assoc first (register_lines n) (register_line n) ∙ ap (λ t. first ++ t) (sym (one_more n))

pub returns-clause-short : goal.returns-clause-short
returns-clause-short c =
    let first = first_line c.args.count in
    let all : c.loop-number.number ≡ c.args.count = omega arith in
    short-text c.extend_from_slice.new.self.items c.args.count c.requires
    (c.in_ok-extend_from_slice.ensures.items ∙ ap (λ t. t ++ last_line) (c.loop-number.invariant ∙ ap (λ n. first ++ register_lines n) all))
