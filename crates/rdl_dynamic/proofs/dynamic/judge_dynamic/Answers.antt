use Rattle.std.proofs.Common.{◌≡◌, ◌∙◌, is_some, Some, None, ap, refl, sym, subst}
use Rattle.std.specs.List.{list_all, list_any}
use Rattle.plain_lemmas.proofs.Options.{if_some-map as if-some}
use Rattle.rdl_props.specs.Same.{same_prop}
use Rattle.rdl_values.specs.Bodies.{around}
use Rattle.rdl_values.specs.Lineages.{lineages_of}
use Rattle.rdl_failures.specs.Noted.{IsNoted}
use Rattle.rdl_layers.specs.Assignments.{targets}
use Rattle.rdl_layers.specs.Judged.{failures_of_dynamic}
use Rattle.rdl_layers.specs.Meanings.{prop_of}
use Rattle.rdl_assignments.specs.Layers.{IsGiven}
use Rattle.rdl_targets.specs.At.{AreAt}
use Rattle.rdl_targets.specs.Trails.{nodes_of}
use Rattle.rdl_dynamic.specs.Known.{has_rival, legal_at}
use Rattle.rdl_dynamic.specs.Marks.{is_marked}
use Rattle.rdl_dynamic.specs.declared.known.Known.{Known}
use Rattle.rdl_dynamic.proofs.Knowing.{known-stays, led-nodes, led-to, taken-seen, walked-on}
use Rattle.rdl_dynamic.proofs.Taking.{both-parts, given-known, unknown-part}
use Rattle.rdl_dynamic.proofs.dynamic.judge_dynamic.Goals as goal

pub returns-in_default : goal.returns-in_default
returns-in_default c = λ e b earlier d can.
    let named : prop_of d.assigns ≡ c.find-found.result = ap (λ x. prop_of (record { set_ = x; scope = d.assigns.scope })) can.sets ∙ sym c.find-found.ensures in
    let none : prop_of d.assigns ≡ None = named ∙ c.in_default.is in
    let now : Known = record { trails = c.find.new.self; marks = c.args.known.now.marks; seen = c.args.known.now.seen; rivals = c.args.known.now.rivals } in
    let found = c.in_ok-path.ensures e c.args.body (around d.assigns.scope) can.of can.are_rows can.are_contents can.shown can.are_known.trails_ can.here in
    let led = led-to e c.find.new.self c.in_ok-path.path b d c.args.target.now can.of can.inside can.steps found.leads in
    let at : AreAt (lineages_of e) (nodes_of c.find.new.self c.in_ok-path.path) (targets b d) = led-nodes e c.find.new.self c.in_ok-path.path (targets b d) led in
    let path = c.in_ok-clean.ensures e b d can.steps can.sets (c.is_some.ensures ∙ ap is_some (sym named)) can.shown (subst (λ ks. AreAt (lineages_of e) ks (targets b d)) (sym c.nodes.ensures) at) in
    record {
      noted = unknown-part b earlier d c.in_ok-clean.clean c.args.failures.now c.judge_path.new.failures none path;
      are_known = known-stays e c.args.body c.args.rows.now b now earlier d none (walked-on e c.args.body c.args.rows.now b c.args.known.now now earlier c.in_ok-path.path _ refl refl refl found can.are_known);
      at = at;
      given_ = tt;
    }

pub returns : goal.returns
returns c = λ e b earlier d can.
    let named : prop_of d.assigns ≡ c.find-found.result = ap (λ x. prop_of (record { set_ = x; scope = d.assigns.scope })) can.sets ∙ sym c.find-found.ensures in
    let is : prop_of d.assigns ≡ Some c.in-Some.prop = named ∙ c.in-Some.is in
    let now : Known = record { trails = c.find.new.self; marks = c.args.known.now.marks; seen = c.args.known.now.seen; rivals = c.args.known.now.rivals } in
    let found = c.in_ok-path.ensures e c.args.body (around d.assigns.scope) can.of can.are_rows can.are_contents can.shown can.are_known.trails_ can.here in
    let led = led-to e c.find.new.self c.in_ok-path.path b d c.args.target.now can.of can.inside can.steps found.leads in
    let at : AreAt (lineages_of e) (nodes_of c.find.new.self c.in_ok-path.path) (targets b d) = led-nodes e c.find.new.self c.in_ok-path.path (targets b d) led in
    let there : AreAt (lineages_of e) c.nodes.result.now (targets b d) = subst (λ ks. AreAt (lineages_of e) ks (targets b d)) (sym c.nodes.ensures) at in
    let again_there : AreAt (lineages_of e) c.nodes-2.result.now (targets b d) = subst (λ ks. AreAt (lineages_of e) ks (targets b d)) (sym c.nodes-2.ensures) at in
    let walked = walked-on e c.args.body c.args.rows.now b c.args.known.now now earlier c.in_ok-path.path _ refl refl refl found can.are_known in
    let path = c.in_ok-clean.ensures e b d can.steps can.sets (c.is_some.ensures ∙ ap is_some (sym named)) can.shown there in
    let legal = c.is_legal-legal.ensures e c.args.body b earlier walked in
    let ruled = c.is_excluded-excluded.ensures e c.args.body c.args.rows.now b earlier walked in
    let known = c.in_ok-setting.ensures.noted e c.args.rows.now b d earlier can.are_rows walked.marks_ again_there can.sets is can.shown
    (legal ∙ ap (list_all (legal_at c.args.rows.now c.in-Some.prop)) (sym c.nodes-2.ensures))
    (λ again. ap (list_any (λ i. is_marked c.args.known.now.marks i (same_prop c.in-Some.prop))) c.nodes-2.ensures ∙ taken-seen e c.args.body c.args.rows.now b now earlier c.in_ok-path.path c.in-Some.prop c.find-2.result c.find-2.ensures walked (sym c.is_some-again.ensures ∙ again))
    (ruled ∙ ap (list_any (has_rival c.args.known.now.marks c.in-Some.prop)) (sym c.nodes-2.ensures)) in
    record {
      noted = subst (λ o. IsNoted (failures_of_dynamic b (earlier, d)) o c.args.failures.now c.judge_known.new.failures) (sym c.given_by.ensures.some)
          (both-parts b earlier d c.in_ok-clean.clean (is_some c.in_ok-setting.setting) c.args.failures.now c.judge_path.new.failures c.judge_known.new.failures path known);
      are_known = c.in_ok-mark.ensures.known e c.args.body c.args.rows.now b earlier d walked led is legal ruled;
      at = subst (λ t. AreAt (lineages_of e) (nodes_of t c.in_ok-path.path) (targets b d)) (sym c.mark.ensures.trails) at;
      given_ = given-known c.given_by.result c.in_ok-setting.setting c.in-Some.prop (λ g. IsGiven c.args.body g d.assigns) c.given_by.ensures.same
          (if-some c.in_ok-setting.setting _ _ (λ s h. h d.assigns can.sets is can.shown) c.in_ok-setting.ensures.given);
    }
