-- A compiled module gives what the module gives.
use Rattle.std.proofs.Common.{◌≡◌, ℕ, suc, ◌<◌, true, nat_lt, Some, List, [], ◌∷◌, ◌++◌, length, get_or, refl, ap, sym, subst, ◌∙◌}
use Rattle.rb_base.specs.declared.ports.Pin.{Pin}
use Rattle.v_design.specs.Expr.{Values}
use Rattle.v_design.specs.Design.{Module, inputs, outputs, registers}
use Rattle.v_design.specs.Run.{Edge, values_at}
use Rattle.v_design.specs.Fits.{FitsPins}
use Rattle.cyc_sim.specs.Operations.{values_after, values_in, are_places, are_within}
use Rattle.cyc_sim.specs.Compiled.{Known, known_at, AreBelow}
use Rattle.cyc_sim.specs.Accepted.{IsAccepted}
use Rattle.cyc_sim.specs.Preparing.{IsSettling, Prepared, Moving, ArePlacesOf}
use Rattle.cyc_sim.specs.Simulation.{StepsTo}
use Rattle.cyc_sim.specs.declared.listing.Wire.{Wire}
use Rattle.cyc_sim.specs.declared.listing.Listing.{Listing}
use Rattle.cyc_sim.specs.declared.operation.Operation.{Operation}
use Rattle.cyc_sim.proofs.Facts.{edge_of}
use Rattle.plain_lemmas.proofs.Numbers.{below-nat_lt as below_is}

pub places_length : (known : Known) (ps : List Pin) (places : List ℕ) → ArePlacesOf known ps places → length places ≡ length ps
places_length known [] [] h = refl
places_length known [] (q ∷ qs) h = absurd h
places_length known (p ∷ ps) [] h = absurd h
places_length known (p ∷ ps) (q ∷ qs) h = ap suc (places_length known ps qs h.1)

-- the places of names are below that of the end
pub places_below : (known : Known) (end : ℕ) (ps : List Pin) (places : List ℕ) → AreBelow known end → ArePlacesOf known ps places → are_places end places ≡ true
unfolding are_places
places_below known end [] [] low h = refl
places_below known end [] (q ∷ qs) low h = absurd h
places_below known end (p ∷ ps) [] low h = absurd h
places_below known end (p ∷ ps) (q ∷ qs) low h =
    let (w, at, is) = h.0 in
    let here : nat_lt q end ≡ true = below_is q end (subst (λ n. n < end) is (low.below p.name w at)) in
    rw (here, places_below known end ps qs low h.1) refl

-- the values at the places of names
places_are : (known : Known) (vs : List ℕ) (v : Values) (ps : List Pin) (places : List ℕ) → ((name : List ℕ) (w : Wire) → known_at known name ≡ Some w → get_or vs w.place 0 ≡ v name) → ArePlacesOf known ps places
    → values_in vs places ≡ values_at v ps
places_are known vs v [] [] has h = refl
places_are known vs v [] (q ∷ qs) has h = absurd h
places_are known vs v (p ∷ ps) [] has h = absurd h
places_are known vs v (p ∷ ps) (q ∷ qs) has h =
    let (w, at, is) = h.0 in
    let here : get_or vs q 0 ≡ v p.name = ap (λ n. get_or vs n 0) (sym is) ∙ has p.name w at in
    ap (λ x. x ∷ values_in vs qs) here ∙ ap (λ xs. v p.name ∷ xs) (places_are known vs v ps qs has h.1)

-- at each edge the compiled values are the module's
pub program_edges : (m : Module) → IsAccepted m → (known moves : Known) (l : Listing) (outs nexts : List ℕ) → Prepared m known l → Moving m moves l → ArePlacesOf known (outputs m) outs → ArePlacesOf moves (registers m) nexts
    → (pins numbers : List ℕ) (contents : Values) → FitsPins (inputs m) pins → FitsPins (registers m) numbers → values_at contents (registers m) ≡ numbers
    → StepsTo m contents pins (values_in (values_after l.operations.items (pins ++ numbers)) outs) (values_in (values_after l.operations.items (pins ++ numbers)) nexts)
program_edges m a known moves l outs nexts prepared moving are_outs are_nexts pins numbers contents fits held kept =
    let e = edge_of m a contents pins fits (subst (FitsPins (registers m)) (sym kept) held) in
    let v = e.edge.values in
    let base = pins ++ numbers in
    let z : IsSettling m base v e.after = record {
      contents = contents;
      pins = pins;
      numbers = numbers;
      is = refl;
      pins_fit = fits;
      numbers_fit = held;
      given = e.edge.given;
      kept = kept;
      settled = e.edge.settled;
      moved = e.edge.moved;
    } in
    let vs = values_after l.operations.items base in
    let given : values_in vs outs ≡ e.outs = places_are known vs v (outputs m) outs (λ name w at. (prepared.agrees base v e.after z).value name w at) are_outs ∙ e.edge.seen in
    let moved : values_in vs nexts ≡ values_at e.after (registers m) = places_are moves vs e.after (registers m) nexts (λ name w at. moving.value base v e.after z name w at) are_nexts in
    record {
      after = e.after;
      edge = subst (λ o. Edge m contents pins o e.after) (sym given) e.edge;
      kept = sym moved;
      fits = subst (FitsPins (registers m)) (sym moved) e.fits;
    }

pub places_up_to : (limit limit' : ℕ) (places : List ℕ) → limit' ≡ limit → are_places limit places ≡ true → are_places limit' places ≡ true
places_up_to limit limit' places is h = ap (λ n. are_places n places) is ∙ h

pub within_from : (first first' : ℕ) (os : List Operation) → first' ≡ first → are_within first os ≡ true → are_within first' os ≡ true
within_from first first' os is h = ap (λ n. are_within n os) is ∙ h
