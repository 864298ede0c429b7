use Rattle.std.proofs.Common.{◌+◌, length, refl, drop, sym, ap, ◌∙◌, subst, true, List, ℕ}
use Rattle.rb_grammar.specs.Separators.{Skips, IsOpenComment}
use Rattle.v_lexer.specs.Reading.{Reading}
use Rattle.v_lexer.proofs.Steps.{open_fault, ends_here, starts_here, stands_here, fault_here}
use Rattle.v_lexer.proofs.lexer.VLexer.next.Goals as goal

pub returns-in-Err-clause-fault : goal.returns-in-Err-clause-fault
returns-in-Err-clause-fault c = λ h.
    let rest = ap (λ (r : Reading). r.rest) c.self.view_is in
    let n = c.in-Err.unclosed.0 in
    open_fault c.args.self.now.size n c.fail.result.place.0 c.args.self.now.rest
    (subst (λ (z : List ℕ). Skips true z (drop n z)) rest c.in-Err.ensures.err.1) (subst (λ (z : List ℕ). IsOpenComment (drop n z)) rest c.in-Err.ensures.err.2) c.fail.ensures.fault

pub returns-then-is_empty-clause-end : goal.returns-then-is_empty-clause-end
returns-then-is_empty-clause-end c =
    let rest = ap (λ (r : Reading). r.rest) c.self.view_is in
    let left = ap (λ (r : Reading). r.rest) c.self-2.view_is in
    let n = c.in-Ok.len in
    let p = ends_here n c.args.self.now.rest c.self-2.inside.rest.now (subst (λ (z : List ℕ). Skips true z (drop n z)) rest c.in-Ok.ensures.ok.0) (left ∙ c.advance.ensures.rest) c.if-is_empty.ensures in
    (p.0, sym left ∙ p.1)

pub returns-in-Some-lexeme_at-clause-token : goal.returns-in-Some-lexeme_at-clause-token
returns-in-Some-lexeme_at-clause-token c =
    let rest = ap (λ (r : Reading). r.rest) c.self.view_is in
    let left = ap (λ (r : Reading). r.rest) c.self-2.view_is in
    let size = ap (λ (r : Reading). r.size) c.self-2.view_is in
    let n = c.in-Ok.len in
    let l = c.in-Some-lexeme_at.lexeme in
    starts_here c.args.self.now.size n c.self-2.inside.place l.len c.args.self.now.rest c.self-2.inside.rest.now c.advance-in-Some-lexeme_at.new.self.rest _ l.kind
    (subst (λ (z : List ℕ). Skips true z (drop n z)) rest c.in-Ok.ensures.ok.0) (left ∙ c.advance.ensures.rest) (size ∙ c.advance.ensures.size) c.in-Some-lexeme_at.ensures.some
    (c.advance-in-Some-lexeme_at.ensures.rest ∙ ap (drop l.len) (sym left)) refl

pub returns-in-Some-lexeme_at-clause-text : goal.returns-in-Some-lexeme_at-clause-text
returns-in-Some-lexeme_at-clause-text c =
    let rest = ap (λ (r : Reading). r.rest) c.self.view_is in
    let left = ap (λ (r : Reading). r.rest) c.self-2.view_is in
    let size = ap (λ (r : Reading). r.size) c.self-2.view_is in
    let n = c.in-Ok.len in
    let l = c.in-Some-lexeme_at.lexeme in
    stands_here c.args.self.now.size n c.self-2.inside.place l.len c.args.self.now.rest c.self-2.inside.rest.now c.advance-in-Some-lexeme_at.new.self.rest _
    (subst (λ (z : List ℕ). Skips true z (drop n z)) rest c.in-Ok.ensures.ok.0) (left ∙ c.advance.ensures.rest) (size ∙ c.advance.ensures.size)
    (c.advance-in-Some-lexeme_at.ensures.rest ∙ ap (drop l.len) (sym left)) refl

pub returns-in-None-clause-fault : goal.returns-in-None-clause-fault
returns-in-None-clause-fault c = λ h.
    let rest = ap (λ (r : Reading). r.rest) c.self.view_is in
    let left = ap (λ (r : Reading). r.rest) c.self-2.view_is in
    let n = c.in-Ok.len in
    fault_here c.args.self.now.size n c.fail-in-None.result.place.0 c.args.self.now.rest c.self-2.inside.rest.now
    (subst (λ (z : List ℕ). Skips true z (drop n z)) rest c.in-Ok.ensures.ok.0) (left ∙ c.advance.ensures.rest) c.in-None.ensures.none
    (ap (λ (z : List ℕ). c.fail-in-None.result.place.0 + length z) left ∙ (c.fail-in-None.ensures.fault ∙ c.advance.ensures.size))
