use Rattle.std.proofs.Common.{refl}
use Rattle.std.specs.Option.{option_copied}
use Rattle.rdl_values.specs.Instances.{top_of}
use Rattle.rdl_elab.proofs.Staying.{top_stays}
use Rattle.rdl_elab.proofs.Totals.{surveyed}
use Rattle.rdl_elab.proofs.whole_survey.survey.Goals as goal

pub walk_top-requires-clause-some : goal.walk_top-requires-clause-some
walk_top-requires-clause-some c =
    let s = c.args.source.now in
    let w = option_copied c.args.wanted in
    let begun = c.in_ok-walk.ensures in
    let v = c.in_ok-walk.field-0 in
    let walked = c.in_ok-walk_root.ensures s begun.root_ in
    (top_of w s, top_stays v.walk.bodies c.walk_root.new.walk.bodies v.walk.failures v.top (top_of w s) begun.walking.kept walked.grown begun.top)

pub returns : goal.returns
returns c =
    let s = c.args.source.now in
    let w = option_copied c.args.wanted in
    let begun = c.in_ok-walk.ensures in
    let v = c.in_ok-walk.field-0 in
    let walked = c.in_ok-walk_root.ensures s begun.root_ in
    let top = top_stays v.walk.bodies c.walk_root.new.walk.bodies v.walk.failures v.top (top_of w s) begun.walking.kept walked.grown begun.top in
    surveyed w s v c.walk_root.new.walk c.walk_top.new.walk begun walked (c.in_ok-walk_top.ensures (top_of w s) top) _ refl refl
