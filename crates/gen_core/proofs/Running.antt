-- A core's run, edge by edge.
use Rattle.std.proofs.Common.{◌≡◌, ◌∙◌, ℕ, zero, suc, ◌<◌, arith, length, get_or, subst, ◌&&◌, not, if◌then◌else◌, unwrap_or, List, [], ◌∷◌, Contains, refl, sym, ap}
use Rattle.std.specs.List.{AllByRecursion}
use Rattle.plain_lemmas.proofs.Lists.{map-alike as all_mapped}
use Rattle.rb_base.specs.declared.ports.Pin.{Pin}
use Rattle.rtl_net.specs.Value.{At}
use Rattle.rtl_net.specs.Net.{Net, Settles}
use Rattle.rtl_net.specs.Run.{SameAt, registers}
use Rattle.rtl_net.specs.declared.node.Id.{Id}
use Rattle.v_design.specs.Expr.{Values}
use Rattle.rb_model.specs.declared.block.Block.{Block}
use Rattle.rb_model.specs.Items.{Now, ItemValues, AreItemValues}
use Rattle.rb_model.specs.Kept.{Kept, Map, Val, Last, Done, Waited, Data, Error, of_field, register_name, field_kept, kept_pin}
use Rattle.rb_model.specs.Machine.{held, is_asserted}
use Rattle.rb_model.specs.Ports.{Outlet, outlets}
use Rattle.rb_model.specs.Sound.{IsSound}
use Rattle.rb_model.proofs.ItemValues.{item_value, are_values}
use Rattle.block_plan.specs.Behind.{IsThere, InnerEdge, found}
use Rattle.gen_scene.specs.Worth.{Finds, access_at}
use Rattle.gen_scene.specs.declared.base.Inlet.{Inlet}
use Rattle.gen_core.specs.Core.{IsCore}
use Rattle.gen_core.specs.Runs.{Goes, HoldsFields, InnerRun}

-- what is held of a kept value is made of that one alone
held_same : (b : Block) (p : Values) (m n : Map) (k : Kept) → m k ≡ n k → held b p m k ≡ held b p n k
held_same b p m n (Val k) e = ap (λ x. of_field b k x (λ f. if is_asserted b p f.reset_by && not f.reset_by.sync then unwrap_or f.reset x else x)) e
held_same b p m n (Last k) e = ap (λ x. of_field b k x (λ f. if is_asserted b p f.reset_by && not f.reset_by.sync then 0 else x)) e
held_same b p m n (Done k) e = ap (λ x. of_field b k x (λ f. if is_asserted b p f.reset_by && not f.reset_by.sync then 0 else x)) e
held_same b p m n Waited e = e
held_same b p m n Data e = e
held_same b p m n Error e = e

at_place : (v w : Values) (ps : List Pin) (k : ℕ) (p : Pin) → SameAt v w ps → k < length ps → get_or ps k p ≡ p → v p.name ≡ w p.name
at_place v w [] k p all l e = absurd (omega (arith, l))
at_place v w (q ∷ ps) zero p all l e = subst (λ r. v r.name ≡ w r.name) e all.0
at_place v w (q ∷ ps) (suc k) p all l e = at_place v w ps k p all.1 (omega (arith, l)) e

same_pin : (v w : Values) (ps : List Pin) (p : Pin) → SameAt v w ps → Contains ps p → v p.name ≡ w p.name
same_pin v w ps p all c = at_place v w ps c.0 p all c.1 c.2

module _ (b : Block) (a : Inlet) (net : Net) (answer : Id) (sound : IsSound b) (core : IsCore b a net answer) (stand : (k : Kept) → Contains (field_kept b) k → Contains (registers net) (kept_pin b k)) where
  finds : (m : Map) (contents : Values) (v : At) → HoldsFields b m contents → SameAt v.kept contents (registers net) → IsThere b (access_at a v) → Finds b a v (found b (access_at a v) v.ins m)
  finds m contents v holds same there = record {
    access = refl;
    there = there;
    pins = λ p c d. refl;
    kept = λ k c. held_same b v.ins m (λ j. v.kept (register_name b j)) k (sym (same_pin v.kept contents (registers net) (kept_pin b k) same (stand k c) ∙ holds k c));
  }

  pub runs : (m : Map) (contents : Values) (vs : List At) → HoldsFields b m contents → Goes net contents vs → AllByRecursion (λ v. IsThere b (access_at a v)) vs → InnerRun b a answer m vs
  runs m contents [] holds goes there = tt
  runs m contents (v ∷ vs) holds goes there =
      let n = found b (access_at a v) v.ins m in
      let f = finds m contents v holds goes.1 there.0 in
      let items = item_value b n in
      let valued = are_values b n sound in
      let after : Map = λ k. v.after (register_name b k) in (
        after,
        record {
          items = items;
          valued = valued;
          seen = all_mapped (λ o. v.outs o.name) (λ o. items o.item) (outlets b) (λ o c. core.shown v goes.0 n f items valued o c);
          answered = core.answered.value v goes.0 n f items valued;
          moved = λ k c. core.moved v goes.0 n f items valued k c;
        },
        runs after v.after vs (λ k c. refl) goes.2 there.1,
      )
