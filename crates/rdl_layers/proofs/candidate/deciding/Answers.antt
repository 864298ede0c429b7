use Rattle.std.proofs.Common.{◌≡◌, ℕ, ◌+◌, sym, subst, ◌∙◌, length, Option, None, arith}
use Rattle.rdl_layers.specs.declared.rank.Rank.{Rank}
use Rattle.rdl_layers.proofs.Least.{Among, Least, passed, kept, begun, replaced, found, found_none}
use Rattle.rdl_layers.proofs.candidate.deciding.Goals as goal
use Rattle.rdl_layers.proofs.candidate.deciding.Goals.{then-is_related+in-Some, then-is_related+in_default, in_default-via-in-Some+else-not-is_before, in_default-via-in_default, else-is_related}

pub loop-at-preserved : goal.loop-at-preserved
loop-at-preserved c =
    let p = c.args.prop in
    let cs = c.args.candidates.now in
    let n = c.loop-at.at in
    let At : ℕ → Option (ℕ × Rank) → Type 0 = λ k b. Among p cs k b in
    elim c.if-is_related.branch [
      | then-is_related+in-Some w ↦
          let best : ℕ × Rank = (w.in-Some.field-0-0, w.in-Some.rank) in
          subst (At (n + 1)) (sym (w.best-is ∙ w.in-Some.is)) (kept p cs n best (subst (At n) w.in-Some.is c.loop-at.invariant) (sym w.is_before.ensures ∙ w.if-not-is_before.true))
      | then-is_related+in_default w ↦ elim w.in_default.branch [
        | in_default-via-in-Some+else-not-is_before v ↦
            let best : ℕ × Rank = (v.in-Some.field-0-0, v.in-Some.rank) in
            subst (At (n + 1)) (sym w.best-is) (replaced p cs n best (subst (At n) v.in-Some.is c.loop-at.invariant) (sym c.is_related.ensures ∙ w.if-is_related.true) (sym v.is_before.ensures ∙ v.if-not-is_before.false))
        | in_default-via-in_default v ↦
            subst (At (n + 1)) (sym w.best-is) (begun p cs n (subst (At n) v.in_default.is c.loop-at.invariant) (sym c.is_related.ensures ∙ w.if-is_related.true))
      ]
      | else-is_related w ↦ subst (At (n + 1)) (sym w.best-is) (passed p cs n c.loop-at.best c.loop-at.invariant (sym c.is_related.ensures ∙ w.if-is_related.false))
    ]

pub returns : goal.returns
returns c =
    let p = c.args.prop in
    let cs = c.args.candidates.now in
    let best : ℕ × Rank = (c.in_ok-at.at, c.in_ok-at.field-0-1) in
    let all : c.loop-at.at ≡ length cs = omega (arith, c.loop-at.auto.at-end, c.loop-at-test.false) in
    let At : ℕ → Type 0 = λ n. Least p cs n best in
    let Some_at : Option (ℕ × Rank) → Type 0 = λ b. Among p cs c.loop-at.at b in
    found p cs best (subst At all (subst Some_at c.in_ok-at.was c.loop-at.invariant))

pub returns-in_err-at : goal.returns-in_err-at
returns-in_err-at c =
    let p = c.args.prop in
    let cs = c.args.candidates.now in
    let all : c.loop-at.at ≡ length cs = omega (arith, c.loop-at.auto.at-end, c.loop-at-test.false) in
    let At : ℕ → Type 0 = λ n. Among p cs n None in
    let Some_at : Option (ℕ × Rank) → Type 0 = λ b. Among p cs c.loop-at.at b in
    c.from_residual.ensures ∙ found_none p cs (subst At all (subst Some_at c.in_err-at.was c.loop-at.invariant))
