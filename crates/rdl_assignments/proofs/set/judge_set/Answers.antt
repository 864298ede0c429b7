use Rattle.std.proofs.Common.{Bool, sym, subst}
use Rattle.rdl_failures.specs.Noted.{IsNoted}
use Rattle.rdl_layers.specs.Judged.{failures_of}
use Rattle.rdl_assignments.specs.Allowed.{is_allowed}
use Rattle.rdl_assignments.proofs.Judging.{unknown_noted}
use Rattle.rdl_assignments.proofs.set.judge_set.Goals as goal

pub returns-in_default-clause-noted : goal.returns-in_default-clause-noted
returns-in_default-clause-noted c = λ earlier scope shown taken.
    let none = sym c.in_default.ensures in
    unknown_noted (is_allowed c.args.allowed) earlier (record { set_ = c.args.set.now; scope = scope }) c.in_ok-note_unknown.field-0 c.args.failures.now c.note_unknown.new.failures none (c.in_ok-note_unknown.ensures scope none)

pub returns-clause-noted : goal.returns-clause-noted
returns-clause-noted c = λ earlier scope shown taken.
    let P = λ (b : Bool). IsNoted (failures_of (is_allowed c.args.allowed) (earlier, record { set_ = c.args.set.now; scope = scope })) b c.args.failures.now c.judge_known.new.failures in
    subst P (sym c.given_by.ensures.some) (c.in_ok-setting.ensures.noted earlier scope (sym c.in-Some.ensures) shown taken)
