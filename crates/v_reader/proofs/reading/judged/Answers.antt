use Rattle.std.specs.Option.{option_map}
use Rattle.std.proofs.Common.{◌≡◌, ◌⊎◌, ap, subst, None}
use Rattle.v_design.specs.Tree.{Tree}
use Rattle.v_design.specs.WellFormed.{IsWellFormed}
use Rattle.v_syntax.specs.Tokens.{placed}
use Rattle.v_syntax.specs.Syntax.{IsSyntax}
use Rattle.v_syntax.specs.Failing.{FailsIn}
use Rattle.v_syntax.specs.declared.error.VError.TheVariants as error
use Rattle.v_reader.proofs.Answering.{checked, design_is}
use Rattle.v_reader.proofs.reading.judged.Goals as goal

pub returns-in-Err-clause-err : goal.returns-in-Err-clause-err
returns-in-Err-clause-err c =
    let told = subst (λ z. (c.in-Err.error ≡ error.NoMemory) ⊎ ((t : Tree) → IsSyntax (placed c.args.bytes.now z) c.in_ok-parsed.parsed t → FailsIn t (placed c.args.bytes.now z) c.in-Err.error)) c.deref.ensures.value c.in-Err.ensures.err in
    checked c.args.bytes.now (placed c.args.bytes.now c.in-Ok.scanned.tokens.items) _ c.in_ok-parsed.parsed c.in-Err.error c.in-Ok.ensures.scans (ap (option_map (λ f. f.place.0)) c.in_ok-parsed.ensures.whole) c.in_ok-parsed.ensures.good c.in_ok-parsed.ensures.syntax told

pub returns-in-Ok-design_of-clause-ok : goal.returns-in-Ok-design_of-clause-ok
returns-in-Ok-design_of-clause-ok c =
    let told = subst (λ z. (t : Tree) → IsSyntax (placed c.args.bytes.now z) c.in_ok-parsed.parsed t → IsWellFormed t) c.deref.ensures.value c.in_default-check.ensures.ok in
    design_is c.args.bytes.now (placed c.args.bytes.now c.in-Ok.scanned.tokens.items) _ c.in_ok-parsed.parsed c.in-Ok-design_of.design c.in-Ok.ensures.scans (ap (option_map (λ f. f.place.0)) c.in_ok-parsed.ensures.whole) c.in_ok-parsed.ensures.good c.in_ok-parsed.ensures.syntax told c.in-Ok-design_of.ensures
