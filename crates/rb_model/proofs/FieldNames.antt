-- The names of a field's pins, outputs and registers, and of a view's and a register's.
use Rattle.std.proofs.Common.{◌≡◌, ℕ, zero, suc, ◌+◌, ◌<◌, ◌≤◌, Bool, true, false, not, ◌&&◌, if◌then◌else◌, Option, Some, None, List, [], ◌∷◌, ◌++◌, codes, length, slice_get, slice_index, map, refl, ap, sym, ◌∙◌, subst, arith}
use Rattle.std.specs.List.Sorted.{IsStrictlyIncreasing}
use Rattle.std.proofs.lemmas.List.{map-append}
use Rattle.rb_base.specs.declared.ports.Dir.TheVariants.{Out}
use Rattle.std.proofs.lemmas.Option.{same_Some}
use Rattle.rb_model.specs.declared.kinds.RefItem.TheVariants as item
use Rattle.rb_base.specs.declared.ports.Port.{Port}
use Rattle.rb_base.specs.declared.ports.Pin.{Pin}
use Rattle.rb_model.specs.declared.kinds.Feed.{Feed}
use Rattle.rb_model.specs.declared.kinds.Gate.{Gate}
use Rattle.rb_model.specs.declared.kinds.Gate.TheVariants as gate
use Rattle.rb_model.specs.declared.kinds.Amount.{Amount}
use Rattle.rb_model.specs.declared.kinds.Amount.TheVariants as amount
use Rattle.rb_model.specs.declared.kinds.Part.{Part}
use Rattle.rb_model.specs.declared.kinds.Count.{Count}
use Rattle.rb_model.specs.declared.kinds.Shown.{Shown}
use Rattle.rb_model.specs.declared.kinds.Shown.TheVariants as shown
use Rattle.rb_model.specs.declared.block.Field.{Field}
use Rattle.rb_model.specs.declared.block.View.{View}
use Rattle.rb_model.specs.declared.block.Reg.{Reg}
use Rattle.rb_model.specs.Kept.{when}
use Rattle.rb_model.specs.Ports.{pin, is_pin, input, output, outlet, gate_pins, amount_pins, part_pins, count_pins, view_pins, shown_word, reg_outlets}
use Rattle.rb_model.specs.Own.{own_pins, shown_ports, outlet_ports}
use Rattle.rb_model.specs.SoundField.{shown_place}
use Rattle.rb_model.proofs.Apart.{Name}
use Rattle.rb_model.proofs.KindWords.{words, Named, Rising, Rising-lower, Rising-higher, Rising-append}

abbrev pub pin_names : List Pin → List Name
pin_names ps = map (λ p. p.name) ps

abbrev pub port_names : List Port → List Name
port_names ps = map (λ p. p.name) ps

pub one : (c : Bool) (n : ℕ) (w path : Name) (width : ℕ) → slice_get words n ≡ Some w → Rising n (n + 1) path (pin_names (when c (pin (w ++ path) width)))
one true n w path width e = (n, (record { word = w; known = e; is = refl }, omega arith, omega arith))
one false n w path width e = omega arith

appended : (lo mid hi : ℕ) (path : Name) (xs ys : List Pin) → Rising lo mid path (pin_names xs) → Rising mid hi path (pin_names ys) → Rising lo hi path (pin_names (xs ++ ys))
appended lo mid hi path xs ys a b = rw (map-append {A = Pin} {B = Name} (λ p. p.name) xs ys) (Rising-append lo mid hi path (pin_names xs) (pin_names ys) a b)

gate_names : (g : Gate) (n : ℕ) (high low path : Name) → slice_get words n ≡ Some high → slice_get words (n + 1) ≡ Some low → Rising n (n + 2) path (pin_names (gate_pins g high low path))
gate_names gate.Always n high low path a b = omega arith
gate_names (gate.High from) n high low path a b = Rising-higher n (n + 1) (n + 2) path (pin_names (when (is_pin from) (pin (high ++ path) 1))) (omega arith) (one (is_pin from) n high path 1 a)
gate_names (gate.Low from) n high low path a b =
    let e : n + 1 + 1 ≡ n + 2 = omega arith in
    let P : ℕ → Type 0 = λ m. Rising (n + 1) m path (pin_names (when (is_pin from) (pin (low ++ path) 1))) in
    Rising-lower n (n + 1) (n + 2) path (pin_names (when (is_pin from) (pin (low ++ path) 1))) (omega arith) (subst P e (one (is_pin from) (n + 1) low path 1 b))

amount_names : (a : Amount) (n : ℕ) (w path : Name) → slice_get words n ≡ Some w → Rising n (n + 1) path (pin_names (amount_pins a (w ++ path)))
amount_names (amount.Number x) n w path e = omega arith
amount_names (amount.Item i) n w path e = omega arith
amount_names (amount.Pin width) n w path e = (n, (record { word = w; known = e; is = refl }, omega arith, omega arith))

part_names : (p : Option Part) (n : ℕ) (pulse value path : Name) → slice_get words n ≡ Some pulse → slice_get words (n + 1) ≡ Some value → Rising n (n + 2) path (pin_names (part_pins p (pulse ++ path) (value ++ path)))
part_names None n pulse value path a b = omega arith
part_names (Some p) n pulse value path a b =
    let e : n + 1 + 1 ≡ n + 2 = omega arith in
    let P : ℕ → Type 0 = λ m. Rising (n + 1) m path (pin_names (amount_pins p.amount (value ++ path))) in
    appended n (n + 1) (n + 2) path (when (is_pin p.pulse) (pin (pulse ++ path) 1)) (amount_pins p.amount (value ++ path)) (one (is_pin p.pulse) n pulse path 1 a) (subst P e (amount_names p.amount (n + 1) value path b))

count_names : (c : Option Count) (path : Name) → Rising 9 13 path (pin_names (count_pins c path))
count_names None path = omega arith
count_names (Some c) path = appended 9 11 13 path (part_pins c.up (codes "incr$" ++ path) (codes "incrvalue$" ++ path)) (part_pins c.down (codes "decr$" ++ path) (codes "decrvalue$" ++ path))
    (part_names c.up 9 (codes "incr$") (codes "incrvalue$") path refl refl) (part_names c.down 11 (codes "decr$") (codes "decrvalue$") path refl refl)

pub view_names : (v : View) → Rising 5 7 v.path (pin_names (view_pins v))
view_names v = gate_names v.gate 5 (codes "swwe$") (codes "swwel$") v.path refl refl

pub own_names : (f : Field) (v : View) → v.path ≡ f.path → Rising 2 13 f.path (pin_names (own_pins f v))
own_names f v e =
    let source = when (is_pin f.source) (pin (codes "in$" ++ f.path) f.width) in
    let gates = gate_pins f.gate (codes "we$") (codes "wel$") f.path in
    let set = when (is_pin f.set) (pin (codes "hwset$" ++ f.path) 1) in
    let clear = when (is_pin f.clear) (pin (codes "hwclr$" ++ f.path) 1) in
    let P : Name → Type 0 = λ path. Rising 5 7 path (pin_names (view_pins v)) in
    appended 2 9 13 f.path (source ++ gates ++ view_pins v ++ set ++ clear) (count_pins f.count f.path)
    (appended 2 8 9 f.path (source ++ gates ++ view_pins v ++ set) clear
    (appended 2 7 8 f.path (source ++ gates ++ view_pins v) set
    (appended 2 5 7 f.path (source ++ gates) (view_pins v)
    (appended 2 3 5 f.path source gates (one (is_pin f.source) 2 (codes "in$") f.path f.width refl) (gate_names f.gate 3 (codes "we$") (codes "wel$") f.path refl refl))
    (subst P e (view_names v)))
    (one (is_pin f.set) 7 (codes "hwset$") f.path 1 refl))
    (one (is_pin f.clear) 8 (codes "hwclr$") f.path 1 refl))
    (count_names f.count f.path)

shown_known : (s : Shown) → slice_get words (14 + shown_place s) ≡ Some (shown_word s)
shown_known shown.Anded = refl
shown_known shown.Ored = refl
shown_known shown.Xored = refl
shown_known shown.IncrThreshold = refl
shown_known shown.DecrThreshold = refl
shown_known shown.Overflow = refl
shown_known shown.Underflow = refl
shown_known shown.SwMod = refl
shown_known shown.SwAcc = refl

place_below : (s : Shown) → shown_place s < 9
place_below shown.Anded = omega arith
place_below shown.Ored = omega arith
place_below shown.Xored = omega arith
place_below shown.IncrThreshold = omega arith
place_below shown.DecrThreshold = omega arith
place_below shown.Overflow = omega arith
place_below shown.Underflow = omega arith
place_below shown.SwMod = omega arith
place_below shown.SwAcc = omega arith

rising_tail : (x : ℕ) (xs : List ℕ) → IsStrictlyIncreasing (x ∷ xs) → IsStrictlyIncreasing xs
rising_tail x xs h k below =
    let e : suc k + 1 ≡ suc (k + 1) = omega arith in
    let P : ℕ → Type 0 = λ m. slice_index (x ∷ xs) (suc k) < slice_index (x ∷ xs) m in
    subst P e (h (suc k) (omega arith))

shown_names : (lo : ℕ) (path : Name) (ss : List Shown) → IsStrictlyIncreasing (map shown_place ss) → lo ≤ 23
    → ((s : Shown) → slice_get ss 0 ≡ Some s → lo ≤ 14 + shown_place s) → Rising lo 23 path (port_names (shown_ports path ss))
shown_names lo path [] up l first = l
shown_names lo path (s ∷ ss) up l first =
    let below : shown_place s < 9 = place_below s in (
      14 + shown_place s,
      (
        record { word = shown_word s; known = shown_known s; is = refl },
        first s refl,
        shown_names (14 + shown_place s + 1) path ss (rising_tail (shown_place s) (map shown_place ss) up) (omega arith) (next ss up),
      ),
    )
  where
    next : (ts : List Shown) → IsStrictlyIncreasing (shown_place s ∷ map shown_place ts) → (t : Shown) → slice_get ts 0 ≡ Some t → 14 + shown_place s + 1 ≤ 14 + shown_place t
    next [] up2 t e = cc
    next (u ∷ ts) up2 t e = let less : shown_place s < shown_place u = up2 0 (omega arith) in let q : shown_place u ≡ shown_place t = ap shown_place (same_Some u t e) in omega arith

pub outlet_names : (f : Field) → IsStrictlyIncreasing (map shown_place f.shown) → Rising 13 23 f.path (port_names (outlet_ports f))
outlet_names f up = by f.hw_reads
  where
    rest : Rising 14 23 f.path (port_names (shown_ports f.path f.shown))
    rest = shown_names 14 f.path f.shown up (omega arith) (λ s e. omega arith)

    by : (c : Bool) → Rising 13 23 f.path (port_names (when c (record { dir = Out; name = codes "out$" ++ f.path; width = f.width }) ++ shown_ports f.path f.shown))
    by true = (13, (record { word = codes "out$"; known = refl; is = refl }, omega arith, rest))
    by false = Rising-lower 13 14 23 f.path (port_names (shown_ports f.path f.shown)) (omega arith) rest

pub reg_names : (k : ℕ) (r : Reg) → Rising 23 25 r.path (port_names (map output (reg_outlets (k, r))))
reg_names k r = by r.intr r.halt
  where
    by : (c d : Bool) → Rising 23 25 r.path (port_names (map output (when c (outlet (codes "intr$" ++ r.path) 1 (item.Intr k)) ++ when d (outlet (codes "halt$" ++ r.path) 1 (item.Halt k)))))
    by true true = (23, (record { word = codes "intr$"; known = refl; is = refl }, omega arith, (24, (record { word = codes "halt$"; known = refl; is = refl }, omega arith, omega arith))))
    by true false = (23, (record { word = codes "intr$"; known = refl; is = refl }, omega arith, omega arith))
    by false true = (24, (record { word = codes "halt$"; known = refl; is = refl }, omega arith, omega arith))
    by false false = omega arith
