-- The pins of a sound block have at most 64 bits.
use Rattle.std.proofs.Common.{◌≡◌, ℕ, zero, suc, ◌<◌, ◌≤◌, ◌^◌, ◌==◌, Bool, true, false, not, ◌&&◌, if◌then◌else◌, Option, Some, None, List, [], ◌∷◌, ◌++◌, codes, length, filter, get_or, refl, sym, subst, arith}
use Rattle.std.specs.List.{enumerate_from, flat_map}
use Rattle.std.proofs.Math.Nat.{pow-le-pow_right}
use Rattle.rb_base.specs.declared.ports.Pin.{Pin}
use Rattle.v_design.specs.Fits.{FitsPins}
use Rattle.rb_model.specs.declared.kinds.Gate.{Gate}
use Rattle.rb_model.specs.declared.kinds.Gate.TheVariants as gate
use Rattle.rb_model.specs.declared.kinds.Amount.{Amount}
use Rattle.rb_model.specs.declared.kinds.Amount.TheVariants as amount
use Rattle.rb_model.specs.declared.kinds.Part.{Part}
use Rattle.rb_model.specs.declared.kinds.Count.{Count}
use Rattle.rb_model.specs.declared.block.Block.{Block}
use Rattle.rb_model.specs.declared.block.Field.{Field}
use Rattle.rb_model.specs.declared.block.View.{View}
use Rattle.rb_model.specs.Kept.{when}
use Rattle.rb_model.specs.Ports.{amount_pins, count_pins, field_pins, gate_pins, input_pins, is_pin, part_pins, pin, signal_name, signal_pins, view_pins}
use Rattle.rb_model.specs.References.{Each, WithSome}
use Rattle.rb_model.specs.SoundField.{AmountFits, CountFits, FieldIsSoundIn, PartFits}
use Rattle.rb_model.specs.Sound.{IsSound}
use Rattle.rb_model.proofs.Eachs.{Each-always, Each-append, Each-at, Each-flat_map, Each-from_zero, Each-map, Each-numbered_all, Each-passing}
use Rattle.rb_model.proofs.InputPins.{bus_pins, input_pins_are}

abbrev IsNarrow : Pin → Type 0
IsNarrow p = p.width ≤ 64

when_narrow : (c : Bool) (name : List ℕ) (w : ℕ) → w ≤ 64 → Each IsNarrow (when c (pin name w))
when_narrow true name w h = (h, tt)
when_narrow false name w h = tt

one_bit : 1 ≤ 64
one_bit = omega arith

gate_narrow : (g : Gate) (high low path : List ℕ) → Each IsNarrow (gate_pins g high low path)
gate_narrow gate.Always high low path = tt
gate_narrow (gate.High from) high low path = when_narrow (is_pin from) (high ++ path) 1 one_bit
gate_narrow (gate.Low from) high low path = when_narrow (is_pin from) (low ++ path) 1 one_bit

amount_narrow : (w : ℕ) (a : Amount) (name : List ℕ) → w ≤ 64 → AmountFits w a → Each IsNarrow (amount_pins a name)
amount_narrow w (amount.Number x) name l h = tt
amount_narrow w (amount.Item i) name l h = tt
amount_narrow w (amount.Pin n) name l h = let le : n ≤ w = h.1 in (omega (arith, le, l), tt)

part_narrow : (w : ℕ) (p : Option Part) (pulse value : List ℕ) → w ≤ 64 → WithSome p (PartFits w) → Each IsNarrow (part_pins p pulse value)
part_narrow w None pulse value l h = tt
part_narrow w (Some p) pulse value l h = Each-append IsNarrow (when (is_pin p.pulse) (pin pulse 1)) (amount_pins p.amount value) (when_narrow (is_pin p.pulse) pulse 1 one_bit) (amount_narrow w p.amount value l h.1)

count_narrow : (w : ℕ) (c : Option Count) (path : List ℕ) → w ≤ 64 → WithSome c (CountFits w) → Each IsNarrow (count_pins c path)
count_narrow w None path l h = tt
count_narrow w (Some c) path l h = Each-append IsNarrow (part_pins c.up (codes "incr$" ++ path) (codes "incrvalue$" ++ path)) (part_pins c.down (codes "decr$" ++ path) (codes "decrvalue$" ++ path))
    (part_narrow w c.up (codes "incr$" ++ path) (codes "incrvalue$" ++ path) l h.up) (part_narrow w c.down (codes "decr$" ++ path) (codes "decrvalue$" ++ path) l h.down)

view_narrow : (v : View) → Each IsNarrow (view_pins v)
view_narrow v = gate_narrow v.gate (codes "swwe$") (codes "swwel$") v.path

views_narrow : (vs : List View) → Each IsNarrow (flat_map view_pins vs)
views_narrow vs = Each-flat_map IsNarrow view_pins vs (Each-always (λ v. Each IsNarrow (view_pins v)) view_narrow vs)

field_narrow : (b : Block) (k : ℕ) (f : Field) → FieldIsSoundIn b (k, f) → Each IsNarrow (field_pins b.views (k, f))
field_narrow b k f s =
    let w : f.width ≤ 64 = s.alone.wide.1 in
    let source = when (is_pin f.source) (pin (codes "in$" ++ f.path) f.width) in
    let gates = gate_pins f.gate (codes "we$") (codes "wel$") f.path in
    let views = flat_map view_pins (filter (λ v. v.field == k && not v.alias) b.views) in
    let set = when (is_pin f.set) (pin (codes "hwset$" ++ f.path) 1) in
    let clear = when (is_pin f.clear) (pin (codes "hwclr$" ++ f.path) 1) in
    Each-append IsNarrow (source ++ gates ++ views ++ set ++ clear) (count_pins f.count f.path)
    (Each-append IsNarrow (source ++ gates ++ views ++ set) clear
    (Each-append IsNarrow (source ++ gates ++ views) set
    (Each-append IsNarrow (source ++ gates) views
    (Each-append IsNarrow source gates (when_narrow (is_pin f.source) (codes "in$" ++ f.path) f.width w) (gate_narrow f.gate (codes "we$") (codes "wel$") f.path))
    (views_narrow (filter (λ v. v.field == k && not v.alias) b.views)))
    (when_narrow (is_pin f.set) (codes "hwset$" ++ f.path) 1 one_bit))
    (when_narrow (is_pin f.clear) (codes "hwclr$" ++ f.path) 1 one_bit))
    (count_narrow f.width f.count f.path w s.alone.count)

signals_narrow : (b : Block) → IsSound b → (root : Bool) → Each IsNarrow (signal_pins root b.signals)
signals_narrow b sound root = Each-map IsNarrow (λ s. pin (signal_name s) s.width) (filter (λ s. if root then s.root else not s.root) b.signals)
    (Each-passing (λ s. s.width ≤ 64) (λ s. if root then s.root else not s.root) b.signals (λ k s here passes. (Each-at (λ s. (0 < s.width) × (s.width ≤ 64) × _) b.signals k s sound.signals here).1))

bus_narrow : Each IsNarrow bus_pins
bus_narrow = (omega arith, (omega arith, (omega arith, (omega arith, (omega arith, (omega arith, tt))))))

pub all_narrow : (b : Block) → IsSound b → Each IsNarrow (input_pins b)
all_narrow b sound =
    let root = signal_pins true b.signals in
    let tree = signal_pins false b.signals in
    let fields = flat_map (field_pins b.views) (enumerate_from 0 b.fields) in
    let aliases = flat_map view_pins (filter (λ v. v.alias) b.views) in
    subst (Each IsNarrow) (sym (input_pins_are b sound))
    (Each-append IsNarrow (bus_pins ++ root ++ tree ++ fields) aliases
    (Each-append IsNarrow (bus_pins ++ root ++ tree) fields
    (Each-append IsNarrow (bus_pins ++ root) tree
    (Each-append IsNarrow bus_pins root bus_narrow (signals_narrow b sound true))
    (signals_narrow b sound false))
    (Each-flat_map IsNarrow (field_pins b.views) (enumerate_from 0 b.fields) (Each-numbered_all (λ e. Each IsNarrow (field_pins b.views e)) b.fields (λ k f here. field_narrow b k f (Each-from_zero (FieldIsSoundIn b) b.fields k f sound.fields here)))))
    (views_narrow (filter (λ v. v.alias) b.views)))

below_power : (x w : ℕ) → x < 2 ^ w → w ≤ 64 → x < 2 ^ 64
below_power x w h l = let m : 2 ^ w ≤ 2 ^ 64 = pow-le-pow_right (omega arith) l in omega (arith, h, m)

pins_below : (ps : List Pin) (xs : List ℕ) → Each IsNarrow ps → FitsPins ps xs → (k : ℕ) → get_or xs k 0 < 2 ^ 64
pins_below [] [] n h k = omega arith
pins_below [] (x ∷ xs) n h k = absurd h
pins_below (p ∷ ps) [] n h k = absurd h
pins_below (p ∷ ps) (x ∷ xs) n h zero = below_power x p.width h.0 n.0
pins_below (p ∷ ps) (x ∷ xs) n h (suc k) = pins_below ps xs n.1 h.1 k

-- each number of a vector that fits is below 2 ^ 64
pub narrow_pins : (b : Block) → IsSound b → (x : List ℕ) → FitsPins (input_pins b) x → (k : ℕ) → get_or x k 0 < 2 ^ 64
narrow_pins b sound x h k = pins_below (input_pins b) x (all_narrow b sound) h k

pub fits_length : (ps : List Pin) (xs : List ℕ) → FitsPins ps xs → length xs ≡ length ps
fits_length [] [] h = refl
fits_length [] (x ∷ xs) h = absurd h
fits_length (p ∷ ps) [] h = absurd h
fits_length (p ∷ ps) (x ∷ xs) h = let e : length xs ≡ length ps = fits_length ps xs h.1 in omega (arith, e)
