use Rattle.std.proofs.Common.{◌≡◌, ℕ, ◌+◌, ◌*◌, ◌<◌, List, [], length, take, drop, get_or, ap, sym, ◌∙◌, arith}
use Rattle.std.proofs.lemmas.List.{get_or-take, get_or-drop}
use Rattle.stim_csv.specs.Vectors.{cut}
use Rattle.stim_csv.proofs.Cutting.{length-cut, get_or-cut, within}
use Rattle.vcd_reader.proofs.Lists.{vec_long}
use Rattle.vcd_reader.proofs.waves.Waves.value.Goals as goal

-- a value that is there is one of the numbers
inside : (width long rows at pin : ℕ) (flat : List ℕ) (seen : List (List ℕ)) → cut long rows flat ≡ seen → at < length seen → length flat ≡ rows * long → width ≡ long → pin < long → at * width + pin < length flat
inside width long rows at pin flat seen is low whole e p =
    let below : at < rows = omega (arith, ap length is, length-cut long rows flat, low) in
    rw e (omega (arith, within at rows long below, whole, p))

-- and stands there
stands : (width long rows at pin : ℕ) (flat : List ℕ) (seen : List (List ℕ)) → cut long rows flat ≡ seen → at < length seen → width ≡ long → pin < long → get_or flat (at * width + pin) 0 ≡ get_or (get_or seen at []) pin 0
stands width long rows at pin flat seen is low e p =
    let below : at < rows = omega (arith, ap length is, length-cut long rows flat, low) in
    let row : get_or seen at [] ≡ take long (drop (at * long) flat) = ap (λ rs. get_or rs at []) (sym is) ∙ get_or-cut long rows flat at below in
    ap (λ w. get_or flat (at * w + pin) 0) e ∙ sym (ap (λ l. get_or l pin 0) row ∙ (get_or-take long (drop (at * long) flat) pin 0 p ∙ get_or-drop (at * long) flat pin 0))

pub get-requires : goal.get-requires
get-requires c = inside c.len.result (length c.self.inside.pins.items) c.self.inside.rows c.args.at c.args.pin c.self.inside.values c.args.self.now.rows (ap (λ t. t.rows) c.self.view_is) c.requires.row c.self.invariant (vec_long c.len.result c.self.inside.pins c.len.ensures)
    (omega (arith, c.requires.pin, ap (λ t. length t.pins) c.self.view_is))

pub returns : goal.returns
returns c =
    c.get.ensures
    ∙ stands c.len.result (length c.self.inside.pins.items) c.self.inside.rows c.args.at c.args.pin c.self.inside.values c.args.self.now.rows (ap (λ t. t.rows) c.self.view_is) c.requires.row (vec_long c.len.result c.self.inside.pins c.len.ensures)
    (omega (arith, c.requires.pin, ap (λ t. length t.pins) c.self.view_is))
