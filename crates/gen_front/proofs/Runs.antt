-- A netlist each of whose edges is one of a block's machine behind a bus runs as that machine.
use Rattle.std.proofs.Common.{◌≡◌, ℕ, zero, suc, ◌+◌, ◌<◌, ◌^◌, ◌==◌, Bool, true, false, if◌then◌else◌, Option, Some, None, List, [], ◌∷◌, ◌++◌, length, map, slice_get, get_or, refl, sym, ap, ◌∙◌, subst, arith}
use Rattle.std.specs.Prelude.{Contains}
use Rattle.std.specs.List.{AllByRecursion, AllZip}
use Rattle.std.proofs.lemmas.Option.{same_Some, slice_get_within, get_or_from_slice_get}
use Rattle.rb_base.specs.declared.ports.Pin.{Pin}
use Rattle.v_design.specs.Expr.{Values}
use Rattle.rtl_net.specs.Value.{At}
use Rattle.rtl_net.specs.Net.{Net, IsEdge, undriven}
use Rattle.rtl_net.specs.Made.{IsMade}
use Rattle.rtl_net.specs.Run.{NetEdge, NetRun, SameAt, inputs, outputs, registers, values_at}
use Rattle.rtl_net.specs.Fits.{AllFit, EdgeFits, FitsPins, ValuesFit}
use Rattle.rtl_net.proofs.HasRun.{is_edge}
use Rattle.rtl_net.proofs.OneRun.{same_refl}
use Rattle.rtl_net.proofs.ValuesFit.{edge_fits}
use Rattle.rb_model.specs.Items.{AreItemValues}
use Rattle.rb_model.proofs.Apart.{Apart}
use Rattle.rb_model.proofs.FieldNames.{pin_names}
use Rattle.rb_model.proofs.InputPins.{by_name-at}
use Rattle.rb_model.specs.Front.{Contain, Front, FrontEdge, FrontRun, IsWithin, Register, front_inputs, front_outputs, pins_at, register_pins}
use Rattle.gen_front.specs.Edges.{EdgesAre}
use Rattle.gen_front.proofs.Elements.{contains_at}

-- Vectors

values_back : (v : Values) (ps : List Pin) (x : List ℕ) → FitsPins ps x → ((k : ℕ) (p : Pin) → slice_get ps k ≡ Some p → v p.name ≡ get_or x k 0) → values_at v ps ≡ x
values_back v [] [] f h = refl
values_back v [] (y ∷ ys) f h = absurd f
values_back v (p ∷ ps) [] f h = absurd f
values_back v (p ∷ ps) (y ∷ ys) f h = (λ i. h 0 p refl i ∷ values_back v ps ys f.1 (λ k q e. h (suc k) q e) i)

-- Registers

each_from : {X : Type 0} (P : X → Type 0) (xs : List X) → ((x : X) → Contains xs x → P x) → AllByRecursion P xs
each_from P [] h = tt
each_from P (x ∷ xs) h = (h x (0, omega arith, refl), each_from P xs (λ y c. h y (suc c.0, omega (arith, c.1), c.2)))

-- a register's contents are within its width
within : {K : Type 0} (k : K) (contents : Values) (rs : List (Register K)) → AllByRecursion (λ (r : Register K). r.value k < 2 ^ r.width) rs → AllByRecursion (λ (r : Register K). contents r.name ≡ r.value k) rs
    → (p : Pin) (i : ℕ) → slice_get (map (λ (r : Register K). let q : Pin = record { name = r.name; width = r.width } in q) rs) i ≡ Some p → contents p.name < 2 ^ p.width
within k contents [] fits holds p i e = cc
within {K} k contents (r ∷ rs) fits holds p zero e =
    let is : (let q : Pin = record { name = r.name; width = r.width } in q) ≡ p = same_Some (record { name = r.name; width = r.width }) p e in
    subst (λ (q : Pin). contents q.name < 2 ^ q.width) is (subst (λ n. n < 2 ^ r.width) (sym holds.0) fits.0)
within k contents (r ∷ rs) fits holds p (suc i) e = within k contents rs fits.1 holds.1 p i e

-- Runs

module _ (F : Front) (MayBe : Values → Type 0) (net : Net) (made : IsMade net) (driven : undriven net.nodes ≡ 0)
    (inputs_are : inputs net ≡ front_inputs F) (outputs_are : outputs net ≡ front_outputs F) (apart : Apart (pin_names (front_inputs F)))
    (kept_are : (p : Pin) → Contains (registers net) p → Contains (register_pins F) p) (edges : EdgesAre F MayBe net) where
  -- an edge from these contents with this vector
  record EdgeOf (contents : Values) (x : List ℕ) : Type 0 where
    at : At
    edge : IsEdge net at
    given : at.ins ≡ pins_at F x
    held : at.kept ≡ contents

  edge_of : (contents : Values) (x : List ℕ) → EdgeOf contents x
  edge_of contents x = record { at = _; edge = is_edge net made (pins_at F x) contents; given = refl; held = refl }

  -- what the machine makes of the vector, the netlist makes of it
  record Goes (contents : Values) (x o : List ℕ) (after : F.Kept) : Type 0 where
    next : Values
    edge : NetEdge net contents x o next
    fits : ValuesFit next (registers net)
    holds : Contain F after next

  goes : (contents : Values) (k : F.Kept) (x o : List ℕ) (after : F.Kept) → Contain F k contents → ValuesFit contents (registers net) → FitsPins (front_inputs F) x → MayBe (pins_at F x) → FrontEdge F k x o after → Goes contents x o after
  goes contents k x o after holds fits pins may c =
      let e = edge_of contents x in
      let v = e.at in
      let back : values_at (pins_at F x) (front_inputs F) ≡ x = values_back (pins_at F x) (front_inputs F) x pins (λ i p h. by_name-at (front_inputs F) x i p apart h) in
      let given : values_at v.ins (inputs net) ≡ x = ap (values_at v.ins) inputs_are ∙ ap (λ (w : Values). values_at w (front_inputs F)) e.given ∙ back in
      let kept : SameAt v.kept contents (registers net) = subst (λ (w : Values). SameAt w contents (registers net)) (sym e.held) (same_refl contents (registers net)) in
      let first : NetEdge net contents x (values_at v.outs (outputs net)) v.after = record { at = v; edge = e.edge; given = given; kept = kept; seen = refl; moved = same_refl v.after (registers net) } in
      let inside : EdgeFits net v (values_at v.outs (outputs net)) v.after = edge_fits net made driven contents v.after x (values_at v.outs (outputs net)) fits (subst (λ ps. FitsPins ps x) (sym inputs_are) pins) first in
      let held : Contain F k v.kept = subst (Contain F k) (sym e.held) holds in
      let may_be : MayBe v.ins = subst MayBe (sym e.given) may in
      let valued = subst (λ (w : Values). AreItemValues F.block (F.found w k) c.items) (sym e.given) c.valued in
      let seen : values_at v.outs (outputs net) ≡ o = ap (values_at v.outs) outputs_are ∙ edges.shown v inside.settles k held may_be c.items valued ∙ ap (λ (w : Values). F.shown w k c.items) e.given ∙ sym c.seen in
      let moved : F.next v.ins k c.items ≡ after = ap (λ (w : Values). F.next w k c.items) e.given ∙ sym c.moved in
      record {
        next = v.after;
        edge = record { at = v; edge = e.edge; given = given; kept = kept; seen = seen; moved = same_refl v.after (registers net) };
        fits = inside.contents;
        holds = subst (λ (a : F.Kept). Contain F a v.after) moved (edges.kept v inside.settles k held may_be c.items valued);
      }

  run_from : (vectors results : List (List ℕ)) (k : F.Kept) (contents : Values) → Contain F k contents → ValuesFit contents (registers net) → AllFit (front_inputs F) vectors
      → AllByRecursion (λ x. MayBe (pins_at F x)) vectors → FrontRun F k vectors results → NetRun net contents vectors results
  run_from [] [] k contents holds fits pins may run = tt
  run_from [] (o ∷ os) k contents holds fits pins may run = absurd run
  run_from (x ∷ xs) [] k contents holds fits pins may run = absurd run
  run_from (x ∷ xs) (o ∷ os) k contents holds fits pins may run =
      let g = goes contents k x o run.0 holds fits pins.0 may.0 run.1 in
      (g.next, g.edge, run_from xs os run.0 g.next g.holds g.fits pins.1 may.1 run.2)

  contents_fit : (k : F.Kept) (contents : Values) → IsWithin F k → Contain F k contents → ValuesFit contents (registers net)
  contents_fit k contents fits holds = each_from (λ p. contents p.name < 2 ^ p.width) (registers net) (λ p c.
      let d = kept_are p c in
      within k contents F.registers fits holds p d.0 (contains_at (register_pins F) p d))

  pub runs : (k : F.Kept) (contents : Values) (vectors results : List (List ℕ)) → IsWithin F k → Contain F k contents → AllFit (front_inputs F) vectors
      → AllByRecursion (λ x. MayBe (pins_at F x)) vectors → FrontRun F k vectors results → NetRun net contents vectors results
  runs k contents vectors results fits holds pins may run = run_from vectors results k contents holds (contents_fit k contents fits holds) pins may run
