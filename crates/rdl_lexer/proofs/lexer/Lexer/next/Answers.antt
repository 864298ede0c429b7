use Rattle.std.proofs.Common.{◌+◌, length, drop, sym, ap, ◌∙◌, subst, true, List, ℕ}
use Rattle.rb_grammar.specs.Separators.{Skips, IsOpenComment}
use Rattle.rdl_lexer.specs.Reading.{Reading}
use Rattle.rdl_lexer.proofs.Steps.{open_fault, ends_here, starts_here, fault_here}
use Rattle.rdl_lexer.proofs.lexer.Lexer.next.Goals as goal

pub returns-in-Err-clause-fault : goal.returns-in-Err-clause-fault
returns-in-Err-clause-fault c = λ h.
    let rest = ap (λ (r : Reading). r.rest) c.self.view_is in
    let n = c.in-Err.unclosed.0 in
    open_fault c.args.self.now.size n c.args.self.now.rest c.fail.result
    (subst (λ (z : List ℕ). Skips true z (drop n z)) rest c.in-Err.ensures.err.1) (subst (λ (z : List ℕ). IsOpenComment (drop n z)) rest c.in-Err.ensures.err.2) c.fail.ensures.fault

pub returns-then-is_empty-clause-end : goal.returns-then-is_empty-clause-end
returns-then-is_empty-clause-end c =
    let rest = ap (λ (r : Reading). r.rest) c.self.view_is in
    let left = ap (λ (r : Reading). r.rest) c.self-2.view_is in
    let n = c.in-Ok.len in
    let p = ends_here n c.args.self.now.rest c.self-2.inside.rest.now (subst (λ (z : List ℕ). Skips true z (drop n z)) rest c.in-Ok.ensures.ok.0) (left ∙ c.advance.ensures.rest) c.if-is_empty.ensures in
    (p.0, sym left ∙ p.1)

pub returns-in-Ok-lexeme_at-clause-token : goal.returns-in-Ok-lexeme_at-clause-token
returns-in-Ok-lexeme_at-clause-token c =
    let rest = ap (λ (r : Reading). r.rest) c.self.view_is in
    let left = ap (λ (r : Reading). r.rest) c.self-2.view_is in
    let size = ap (λ (r : Reading). r.size) c.self-2.view_is in
    let n = c.in-Ok.len in
    let l = c.in-Ok-lexeme_at.lexeme in
    starts_here c.args.self.now.size n c.self-2.inside.place l.len c.args.self.now.rest c.self-2.inside.rest.now c.advance-in-Ok-lexeme_at.new.self.rest l.text.now l.kind
    (subst (λ (z : List ℕ). Skips true z (drop n z)) rest c.in-Ok.ensures.ok.0) (left ∙ c.advance.ensures.rest) (size ∙ c.advance.ensures.size) c.in-Ok-lexeme_at.ensures.ok
    (c.advance-in-Ok-lexeme_at.ensures.rest ∙ ap (drop l.len) (sym left))

pub returns-in-Err-lexeme_at-clause-fault : goal.returns-in-Err-lexeme_at-clause-fault
returns-in-Err-lexeme_at-clause-fault c = λ h.
    let rest = ap (λ (r : Reading). r.rest) c.self.view_is in
    let left = ap (λ (r : Reading). r.rest) c.self-2.view_is in
    let n = c.in-Ok.len in
    let f = c.fail-in-Err-lexeme_at.ensures.fault in
    fault_here c.args.self.now.size n c.args.self.now.rest c.self-2.inside.rest.now c.in-Err-lexeme_at.rule c.fail-in-Err-lexeme_at.result
    (subst (λ (z : List ℕ). Skips true z (drop n z)) rest c.in-Ok.ensures.ok.0) (left ∙ c.advance.ensures.rest) c.in-Err-lexeme_at.ensures.err
    (f.0, ap (λ (z : List ℕ). c.fail-in-Err-lexeme_at.result.place.0 + length z) left ∙ (f.1 ∙ c.advance.ensures.size))
