use Rattle.std.proofs.Common.{◌≡◌, ℕ, ◌*◌, ◌<◌, List, [], length, take, drop, get_or, ap, sym, ◌∙◌, arith, length-take, length-drop}
use Rattle.stim_csv.specs.Vectors.{cut}
use Rattle.stim_csv.proofs.Cutting.{length-cut, get_or-cut, within}
use Rattle.vcd_reader.proofs.waves.Waves.rows.Goals as goal

pub returns-clause-rows : goal.returns-clause-rows
returns-clause-rows c = sym (length-cut (length c.self.inside.pins.items) c.self.inside.rows c.self.inside.values) ∙ ap (λ t. length t.rows) c.self.view_is

-- a row has as many numbers as each other one
as_wide : (long rows k : ℕ) (flat : List ℕ) (seen : List (List ℕ)) → cut long rows flat ≡ seen → length flat ≡ rows * long → k < length seen → length (get_or seen k []) ≡ long
as_wide long rows k flat seen is whole low =
    let below : k < rows = omega (arith, ap length is, length-cut long rows flat, low) in
    let row : get_or seen k [] ≡ take long (drop (k * long) flat) = ap (λ rs. get_or rs k []) (sym is) ∙ get_or-cut long rows flat k below in
    ap length row ∙ omega (arith, length-take long (drop (k * long) flat), length-drop (k * long) flat, within k rows long below, whole)

pub returns-clause-wide : goal.returns-clause-wide
returns-clause-wide c = λ k l. as_wide (length c.self.inside.pins.items) c.self.inside.rows k c.self.inside.values c.args.self.now.rows (ap (λ t. t.rows) c.self.view_is) c.self.invariant l ∙ ap (λ t. length t.pins) c.self.view_is
