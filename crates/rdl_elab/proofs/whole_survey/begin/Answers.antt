use Rattle.std.proofs.Common.{◌∙◌, ◌++◌, flat_map, map, option_to_list, refl, subst, sym}
use Rattle.std.specs.Option.{option_copied}
use Rattle.rdl_values.specs.Instances.{top_of}
use Rattle.rdl_values.specs.Phase3.{bare_assignments, no_top, of_use}
use Rattle.rdl_values.specs.Top.{root, top_seen, top_use_of}
use Rattle.rdl_bodies.specs.Kept.{of_names}
use Rattle.rdl_elab.specs.Topped.{IsRootAt, IsTopAt}
use Rattle.rdl_elab.proofs.Staying.{root_stays}
use Rattle.rdl_elab.proofs.Totals.{put_first, root_at}
use Rattle.rdl_elab.proofs.whole_survey.begin.Goals as goal

pub list_found-requires-clause-kept : goal.list_found-requires-clause-kept
list_found-requires-clause-kept c = (c.in_ok-bodies.ensures c.args.source.now refl).kept

pub list_found-requires-clause-some : goal.list_found-requires-clause-some
list_found-requires-clause-some c =
    let s = c.args.source.now in
    (option_copied c.args.wanted, s, root_at c.in_ok-bodies.bodies c.judge_text.new.failures c.open_root.new.failures s (c.in_ok-bodies.ensures s refl), c.in_ok-found.ensures.top s refl)

pub new-walk-requires : goal.new-walk-requires
new-walk-requires c =
    let s = c.args.source.now in
    let here = root_at c.in_ok-bodies.bodies c.judge_text.new.failures c.open_root.new.failures s (c.in_ok-bodies.ensures s refl) in
    (c.in_ok-top.ensures (option_copied c.args.wanted) s here (c.in_ok-found.ensures.top s refl)).kept

pub returns : goal.returns
returns c =
    let s = c.args.source.now in
    let w = option_copied c.args.wanted in
    let o = c.in_ok-bodies.ensures s refl in
    let here = root_at c.in_ok-bodies.bodies c.judge_text.new.failures c.open_root.new.failures s o in
    let listed = c.in_ok-top.ensures w s here (c.in_ok-found.ensures.top s refl) in
    let all = put_first (no_top (top_use_of w s) ++ bare_assignments s) (of_names (root s)) (flat_map of_use (map top_seen (option_to_list (top_use_of w s)))) c.new-failures.result c.judge_text.new.failures c.open_root.new.failures c.list_found.new.failures
    c.new-failures.ensures (c.in_ok-found.ensures.noted s refl) o.noted listed.noted in
    record {
      walking = c.new-walk.ensures.walking;
      noted = c.new-walk.ensures.failures ∙ all;
      counted = c.new-walk.ensures.count;
      root_ = subst (λ t. IsRootAt t s) (sym c.new-walk.ensures.bodies) (root_stays c.in_ok-bodies.bodies c.list_found.new.bodies c.open_root.new.failures s o.kept listed.grown here);
      top = subst (λ t. IsTopAt t c.in_ok-top.top (top_of w s)) (sym c.new-walk.ensures.bodies) listed.top;
    }
