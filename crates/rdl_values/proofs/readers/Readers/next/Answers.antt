use Rattle.std.proofs.Common.{subst, sym}
use Rattle.rdl_values.specs.Places.{IsNextPlace}
use Rattle.rdl_values.specs.Readers.{has_reader}
use Rattle.rdl_values.proofs.ReadBy.{first_of, is_next, no_next, none_next}
use Rattle.rdl_values.proofs.readers.Readers.next.Goals as goal

pub returns-in_err-at : goal.returns-in_err-at
returns-in_err-at c =
    let all = c.range.ensures.in_range tt in
    subst (IsNextPlace (has_reader c.args.self.now c.args.read) c.args.from) (sym c.from_residual.ensures) (none_next c.args.self.now c.args.read c.args.from (λ q l. all.5 c.in_err-at.ensures.steps.0 q (l, tt)))

pub returns-then-at-read : goal.returns-then-at-read
returns-then-at-read c =
    let all = c.range.ensures.in_range tt in
    let pair = c.in_ok-at.field-0.now in
    let here = first_of _ c.range.result pair c.next.new.self c.in_ok-at.ensures.steps all.1 in
    is_next c.args.self.now c.args.read c.args.from pair.0 pair.1 here.0.0 here.1 (λ q l t. first_of _ c.range.result pair c.next.new.self c.in_ok-at.ensures.steps (all.2 q (l, tt) t)) c.if-at-read.true

pub returns-else-at-read : goal.returns-else-at-read
returns-else-at-read c =
    let all = c.range.ensures.in_range tt in
    let pair = c.in_ok-at.field-0.now in
    let here = first_of _ c.range.result pair c.next.new.self c.in_ok-at.ensures.steps all.1 in
    no_next c.args.self.now c.args.read c.args.from pair.0 pair.1 here.0.0 here.1 (λ q l t. first_of _ c.range.result pair c.next.new.self c.in_ok-at.ensures.steps (all.2 q (l, tt) t)) c.if-at-read.false
