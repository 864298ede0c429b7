use Rattle.std.proofs.Common.{◌≡◌, ◌++◌, ◌∷◌, [], OnErr, Result, Ok, Err, List, ℕ, length, take, ap, append-nil, subst, sym, ◌∙◌, arith}
use Rattle.rdl_block_numbers.specs.Ends.{Rises, start_at, cut}
use Rattle.rdl_block_numbers.proofs.Cuts.{cut-added, cut-kept, rise-added, rise-kept}
use Rattle.rdl_block_numbers.proofs.texts.PathTexts.add.Goals as goal

-- what is left in front of the new bytes
front-is : (ends bytes taken seen : List ℕ) (at start : ℕ) → seen ≡ ends → at ≡ length ends → start ≡ start_at 0 seen at → taken ≡ take start bytes → taken ≡ take (start_at 0 ends (length ends)) bytes
front-is ends bytes taken seen at start s a i t = t ∙ ap (λ n. take n bytes) (i ∙ (ap (λ es. start_at 0 es at) s ∙ ap (start_at 0 ends) a))

on_err : {T E P : Type 0} (r : Result T E) → P → OnErr r P
on_err (Ok x) p = tt
on_err (Err e) p = p

pub invariant_of-self : goal.invariant_of-self
invariant_of-self c =
    rise-kept c.self.inside.ends.items c.self.inside.bytes.items c.truncate.new.self.items [] c.extend_from_slice.new.self.items c.self.invariant
    (front-is c.self.inside.ends.items c.self.inside.bytes.items c.truncate.new.self.items c.deref.result.now c.len.result c.start_of-start.result c.deref.ensures.value (let d = c.self.inside.ends.ok.0 in omega (arith, d, c.len.ensures)) c.start_of-start.ensures c.truncate.ensures.items)
    (c.in_err-extend_from_slice.ensures.items ∙ sym (append-nil c.truncate.new.self.items))

pub returns-in_err-extend_from_slice-clause-err : goal.returns-in_err-extend_from_slice-clause-err
returns-in_err-extend_from_slice-clause-err c =
    on_err c.from_residual.result (cut-kept c.self.inside.ends.items c.self.inside.bytes.items c.truncate.new.self.items [] c.extend_from_slice.new.self.items c.self.invariant
    (front-is c.self.inside.ends.items c.self.inside.bytes.items c.truncate.new.self.items c.deref.result.now c.len.result c.start_of-start.result c.deref.ensures.value (let d = c.self.inside.ends.ok.0 in omega (arith, d, c.len.ensures)) c.start_of-start.ensures c.truncate.ensures.items)
    (c.in_err-extend_from_slice.ensures.items ∙ sym (append-nil c.truncate.new.self.items)) ∙ c.self.view_is)

pub invariant_of-self-in_default : goal.invariant_of-self-in_default
invariant_of-self-in_default c =
    rise-kept c.self.inside.ends.items c.self.inside.bytes.items c.truncate.new.self.items c.args.text.now c.extend_from_slice.new.self.items c.self.invariant
    (front-is c.self.inside.ends.items c.self.inside.bytes.items c.truncate.new.self.items c.deref.result.now c.len.result c.start_of-start.result c.deref.ensures.value (let d = c.self.inside.ends.ok.0 in omega (arith, d, c.len.ensures)) c.start_of-start.ensures c.truncate.ensures.items)
    c.in_ok-extend_from_slice.ensures.items

pub returns-in_default-clause-err : goal.returns-in_default-clause-err
returns-in_default-clause-err c =
    cut-kept c.self.inside.ends.items c.self.inside.bytes.items c.truncate.new.self.items c.args.text.now c.extend_from_slice.new.self.items c.self.invariant
    (front-is c.self.inside.ends.items c.self.inside.bytes.items c.truncate.new.self.items c.deref.result.now c.len.result c.start_of-start.result c.deref.ensures.value (let d = c.self.inside.ends.ok.0 in omega (arith, d, c.len.ensures)) c.start_of-start.ensures c.truncate.ensures.items)
    c.in_ok-extend_from_slice.ensures.items ∙ c.self.view_is

pub invariant_of-self-in_err-push : goal.invariant_of-self-in_err-push
invariant_of-self-in_err-push c =
    subst (λ es. Rises 0 es (length c.extend_from_slice.new.self.items)) (sym c.in_err-push.ensures.items) (rise-kept c.self.inside.ends.items c.self.inside.bytes.items c.truncate.new.self.items c.args.text.now c.extend_from_slice.new.self.items c.self.invariant
    (front-is c.self.inside.ends.items c.self.inside.bytes.items c.truncate.new.self.items c.deref.result.now c.len.result c.start_of-start.result c.deref.ensures.value (let d = c.self.inside.ends.ok.0 in omega (arith, d, c.len.ensures)) c.start_of-start.ensures c.truncate.ensures.items)
    c.in_ok-extend_from_slice.ensures.items)

pub returns-in_err-push-clause-err : goal.returns-in_err-push-clause-err
returns-in_err-push-clause-err c =
    on_err c.from_residual-in_err-push.result (ap (λ es. cut 0 es c.extend_from_slice.new.self.items) c.in_err-push.ensures.items ∙ (cut-kept c.self.inside.ends.items c.self.inside.bytes.items c.truncate.new.self.items c.args.text.now c.extend_from_slice.new.self.items c.self.invariant
    (front-is c.self.inside.ends.items c.self.inside.bytes.items c.truncate.new.self.items c.deref.result.now c.len.result c.start_of-start.result c.deref.ensures.value (let d = c.self.inside.ends.ok.0 in omega (arith, d, c.len.ensures)) c.start_of-start.ensures c.truncate.ensures.items)
    c.in_ok-extend_from_slice.ensures.items ∙ c.self.view_is))

pub invariant_of-self-2 : goal.invariant_of-self-2
invariant_of-self-2 c =
    subst (λ es. Rises 0 es (length c.extend_from_slice.new.self.items)) (sym c.in_ok-push.ensures.items) (rise-added c.self.inside.ends.items c.self.inside.bytes.items c.truncate.new.self.items c.args.text.now c.extend_from_slice.new.self.items c.self.invariant
    (front-is c.self.inside.ends.items c.self.inside.bytes.items c.truncate.new.self.items c.deref.result.now c.len.result c.start_of-start.result c.deref.ensures.value (let d = c.self.inside.ends.ok.0 in omega (arith, d, c.len.ensures)) c.start_of-start.ensures c.truncate.ensures.items)
    c.in_ok-extend_from_slice.ensures.items c.in-Ok.end (let a = c.in-Ok.ensures in let b = c.len-2.ensures in let d = c.extend_from_slice.new.self.ok.0 in omega (arith, a, b, d)))

pub returns-clause-ok : goal.returns-clause-ok
returns-clause-ok c =
    ap (λ es. cut 0 es c.extend_from_slice.new.self.items) c.in_ok-push.ensures.items ∙ (cut-added c.self.inside.ends.items c.self.inside.bytes.items c.truncate.new.self.items c.args.text.now c.extend_from_slice.new.self.items c.self.invariant
    (front-is c.self.inside.ends.items c.self.inside.bytes.items c.truncate.new.self.items c.deref.result.now c.len.result c.start_of-start.result c.deref.ensures.value (let d = c.self.inside.ends.ok.0 in omega (arith, d, c.len.ensures)) c.start_of-start.ensures c.truncate.ensures.items)
    c.in_ok-extend_from_slice.ensures.items c.in-Ok.end (let a = c.in-Ok.ensures in let b = c.len-2.ensures in let d = c.extend_from_slice.new.self.ok.0 in omega (arith, a, b, d))
    ∙ ap (λ ls. ls ++ c.args.text.now ∷ []) c.self.view_is)
