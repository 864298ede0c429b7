-- What a step of a simulation does.
use Rattle.std.proofs.Common.{◌≡◌, ℕ, ◌+◌, ◌≤◌, List, ◌++◌, length, take, drop, ap, ◌∙◌}
use Rattle.v_design.specs.Expr.{Values}
use Rattle.v_design.specs.Design.{Module}
use Rattle.cyc_sim.specs.declared.operation.Operation.{Operation}
use Rattle.cyc_sim.specs.Operations.{values_after, values_in}
use Rattle.cyc_sim.specs.Simulation.{StepsTo}
use Rattle.cyc_sim.proofs.Places.{first_places, moved_places}

-- the values of all places, once the pins are written and the operations have computed theirs
pub settled_is : (operations ops : List Operation) (values v0 v1 v2 v3 pins : List ℕ) (inputs count first : ℕ) → v0 ≡ values → length pins ≡ inputs → v1 ≡ take 0 v0 ++ (pins ++ drop (0 + length pins) v0) → v2 ≡ v1
    → ops ≡ operations → first ≡ inputs + count → v3 ≡ values_after ops (take first v2) → v3 ≡ values_after operations (pins ++ take count (drop inputs values))
settled_is operations ops values v0 v1 v2 v3 pins inputs count first is long put put' same front settled =
    let written : take first v2 ≡ pins ++ take count (drop inputs values)
    = ap (λ n. take n v2) front ∙ (ap (take (inputs + count)) put' ∙ (first_places v0 pins v1 inputs count long put ∙ ap (λ vs. pins ++ take count (drop inputs vs)) is)) in
    settled ∙ (ap (λ os. values_after os (take first v2)) same ∙ ap (values_after operations) written)

pub read_is : (values vs places ps into : List ℕ) → vs ≡ values → ps ≡ places → into ≡ values_in vs ps → into ≡ values_in values places
read_is values vs places ps into p q is = is ∙ (ap (λ l. values_in l ps) p ∙ ap (values_in values) q)

pub moved_is : (values vs moved ms put rest : List ℕ) (inputs count : ℕ) → vs ≡ values → ms ≡ moved → length moved ≡ count → inputs ≤ length values → put ≡ take inputs vs ++ (ms ++ rest) → take count (drop inputs put) ≡ moved
moved_is values vs moved ms put rest inputs count p q long low is =
    moved_places values moved put rest inputs count long low (is ∙ (ap (λ l. take inputs l ++ (ms ++ rest)) p ∙ ap (λ l. take inputs values ++ (l ++ rest)) q))

pub steps_as : (m : Module) (contents : Values) (pins outs outs' moved moved' : List ℕ) → outs' ≡ outs → moved' ≡ moved → StepsTo m contents pins outs moved → StepsTo m contents pins outs' moved'
steps_as m contents pins outs outs' moved moved' p q h = rw (p, q) h
