-- The vectors of a script fit the block's pins, and there are no more of them than a script may have.
use Rattle.std.specs.List.{AllByRecursion}
use Rattle.std.proofs.Common.{◌≡◌, ⊎_elim, ℕ, zero, suc, ◌+◌, ◌-◌, ◌<◌, ◌≤◌, ◌^◌, Bool, true, false, nat_lt, cond, if◌then◌else◌, bytes_eq, List, [], ◌∷◌, ◌++◌, Some, Ok, Err, drop, length, map, replicate, set, slice_get, refl, sym, ap, subst, lit<, arith}
use Rattle.std.proofs.Math.Pow.{pow_mono}
use Rattle.std.proofs.lemmas.Nat.{pow_pos}
use Rattle.std.proofs.lemmas.Bool.Decides.{nat_tests}
use Rattle.std.proofs.lemmas.List.{length-append, map-append}
use Rattle.v_design.proofs.Names.{each_append}
use Rattle.rb_base.specs.declared.ports.Pin.{Pin}
use Rattle.v_design.specs.Fits.{AllFit, FitsPins}
use Rattle.rb_model.specs.declared.block.Block.{Block}
use Rattle.rb_model.specs.Ports.{input_pins}
use Rattle.rb_model.specs.Protocol.{Bus, idle}
use Rattle.rb_model.specs.Sound.{IsSound}
use Rattle.stim_csv.specs.Numeral.{fits}
use Rattle.drive_lang.specs.Lines.{words_of}
use Rattle.drive_names.specs.declared.table.Meaning.{Meaning}
use Rattle.drive_names.specs.Named.{meaning_of, named_pins, named_words}
use Rattle.drive_names.proofs.Narrow.{IsNarrow, narrow}
use Rattle.drive_lang.specs.declared.order.Order.{Order}
use Rattle.drive_lang.specs.declared.order.Order.TheVariants.{Poke, Peek, Expect, Set, See, Wait, Reset}
use Rattle.drive_lang.specs.declared.order.Line.{Line}
use Rattle.drive_lang.specs.Steps.{Nothing, Step, access, held_after, in_reset, numbers_of, played, setup, step, steps_of, vectors_of}
use Rattle.drive_lang.proofs.Passing.{length-steps_of}
use Rattle.drive_lang.specs.declared.error.DriveError.TheVariants.{Many}
use Rattle.drive_lang.specs.Orders.{Judged, order_of, spelled, within}
use Rattle.drive_lang.proofs.Holding.{of_order}
use Rattle.drive_lang.specs.Scripts.{lines_from}
use Rattle.drive_lang.proofs.Shape.{first}

-- What an order asks for fits the pins.

abbrev FitsAt : List Pin → ℕ → ℕ → Type 0
FitsAt ps k v = (p : Pin) × (slice_get ps k ≡ Some p) × (v < 2 ^ p.width)

abbrev FitsOrder : List Pin → Order → Type 0
FitsOrder ps (Poke a v) = (a < 2 ^ 32) × (v < 2 ^ 32)
FitsOrder ps (Peek a name) = a < 2 ^ 32
FitsOrder ps (Expect a v name) = a < 2 ^ 32
FitsOrder ps (Set k v) = FitsAt ps k v
FitsOrder ps _ = Unit {0}

below : (width v : ℕ) → fits width v ≡ true → v < 2 ^ width
below width v e = grind (arith, nat_tests, e)

pin_there : (k : ℕ) (ps : List Pin) (name : List ℕ) (m : Meaning) → meaning_of (named_pins k ps) name ≡ Some m → (i : ℕ) × (p : Pin) × (m.at ≡ k + i) × (slice_get ps i ≡ Some p) × (m.width ≡ p.width)
pin_there k [] name m e = cc e
pin_there k (p ∷ ps) name m e = go (bytes_eq p.name name) (pin_there (k + 1) ps name m) e
  where
    go : (c : Bool) → (meaning_of (named_pins (k + 1) ps) name ≡ Some m → (i : ℕ) × (q : Pin) × (m.at ≡ k + 1 + i) × (slice_get ps i ≡ Some q) × (m.width ≡ q.width))
        → cond c (Some (record { at = k; width = p.width })) (meaning_of (named_pins (k + 1) ps) name) ≡ Some m
        → (i : ℕ) × (q : Pin) × (m.at ≡ k + i) × (slice_get (p ∷ ps) i ≡ Some q) × (m.width ≡ q.width)
    go true rest e =
        let same : record { at = k; width = p.width } ≡ m = cc e in
        let at = ap (λ (x : Meaning). x.at) same in
        (0, p, omega (arith, at), refl, sym (ap (λ (x : Meaning). x.width) same))
    go false rest e = let r = rest e in let at = r.2 in (suc r.0, r.1, omega (arith, at), r.3, r.4)

order_fits : (b : Block) → IsSound b → AllByRecursion (λ w. w.address < 2 ^ 32) b.reads → (line room : ℕ) (ws : List (List ℕ)) (o : Order) → order_of b line room ws ≡ Ok o → FitsOrder (drop 6 (input_pins b)) o
order_fits b sound low line room ws o e =
    let N : (name : List ℕ) (m : Meaning) → meaning_of (named_words b) name ≡ Some m → IsNarrow m = narrow b sound low in
    of_order (FitsOrder (drop 6 (input_pins b))) b
    (λ name m v n f. let x = N name m n in let w = below m.width v f in let p = pow_mono x.1 in (x.0, omega (arith, w, p)))
    (λ name m n. (N name m n).0) (λ name m v n f. (N name m n).0)
    (λ name m v n f. set_fits (drop 6 (input_pins b)) name m v n f) (λ name m v n f. tt) (λ n. tt) (λ n. tt) line room ws o e
  where
    set_fits : (ps : List Pin) (name : List ℕ) (m : Meaning) (v : ℕ) → meaning_of (named_pins 0 ps) name ≡ Some m → fits m.width v ≡ true → FitsAt ps m.at v
    set_fits ps name m v n f =
        let r = pin_there 0 ps name m n in
        let place : r.0 ≡ m.at = let at = r.2 in omega (arith, at) in
        (r.1, subst (λ k. slice_get ps k ≡ Some r.1) place r.3, subst (λ w. v < 2 ^ w) r.4 (below m.width v f))

-- Vectors.

held_fits : (ps : List Pin) (held : List ℕ) (k v : ℕ) → FitsPins ps held → FitsAt ps k v → FitsPins ps (set held k v)
held_fits [] [] k v h at = cc (at.1)
held_fits [] (x ∷ xs) k v h at = absurd h
held_fits (p ∷ ps) [] k v h at = absurd h
held_fits (p ∷ ps) (x ∷ xs) zero v h at = (let same : p ≡ at.0 = (let e = at.1 in cc) in subst (λ q. v < 2 ^ q.width) (sym same) at.2, h.1)
held_fits (p ∷ ps) (x ∷ xs) (suc k) v h at = (h.0, held_fits ps xs k v h.1 (at.0, at.1, at.2))

after_fits : (ps : List Pin) (o : Order) (held : List ℕ) → FitsOrder ps o → FitsPins ps held → FitsPins ps (held_after o held)
after_fits ps (Poke a v) held o h = h
after_fits ps (Peek a name) held o h = h
after_fits ps (Expect a v name) held o h = h
after_fits ps (Set k v) held o h = held_fits ps held k v h o
after_fits ps (See k v name) held o h = h
after_fits ps (Wait n) held o h = h
after_fits ps (Reset n) held o h = h

abbrev Vectors : Block → List Step → Type 0
Vectors b ss = AllFit (input_pins b) (map (λ s. s.vector) ss)

bus_fits : (b : Block) (p : Bus) (held : List ℕ) → p.resetn < 2 → p.address < 2 ^ 32 → p.select < 2 → p.enable < 2 → p.write < 2 → p.data_in < 2 ^ 32 → FitsPins (drop 6 (input_pins b)) held → FitsPins (input_pins b) (numbers_of p ++ held)
bus_fits b p held a c d e f g h = (a, (c, (d, (e, (f, (g, h))))))

all_alike : (b : Block) (p : Bus) (held : List ℕ) (n : ℕ) → FitsPins (input_pins b) (numbers_of p ++ held) → Vectors b (replicate n (step p held Nothing))
all_alike b p held zero h = tt
all_alike b p held (suc n) h = (h, all_alike b p held n h)

line_fits : (b : Block) (line : ℕ) (o : Order) (held : List ℕ) → FitsOrder (drop 6 (input_pins b)) o → FitsPins (drop 6 (input_pins b)) held → Vectors b (steps_of line o held)
line_fits b line (Poke a v) held o h = (bus_fits b (setup a 1 v) held (lit< tt) o.0 (lit< tt) (lit< tt) (lit< tt) o.1 h, (bus_fits b (access a 1 v) held (lit< tt) o.0 (lit< tt) (lit< tt) (lit< tt) o.1 h, tt))
line_fits b line (Peek a name) held o h = (bus_fits b (setup a 0 0) held (lit< tt) o (lit< tt) (lit< tt) (lit< tt) (lit< tt) h, (bus_fits b (access a 0 0) held (lit< tt) o (lit< tt) (lit< tt) (lit< tt) (lit< tt) h, tt))
line_fits b line (Expect a v name) held o h = (bus_fits b (setup a 0 0) held (lit< tt) o (lit< tt) (lit< tt) (lit< tt) (lit< tt) h, (bus_fits b (access a 0 0) held (lit< tt) o (lit< tt) (lit< tt) (lit< tt) (lit< tt) h, tt))
line_fits b line (Set k v) held o h = tt
line_fits b line (See k v name) held o h = (bus_fits b idle held (lit< tt) (lit< tt) (lit< tt) (lit< tt) (lit< tt) (lit< tt) h, tt)
line_fits b line (Wait n) held o h = all_alike b idle held n (bus_fits b idle held (lit< tt) (lit< tt) (lit< tt) (lit< tt) (lit< tt) (lit< tt) h)
line_fits b line (Reset n) held o h = all_alike b in_reset held n (bus_fits b in_reset held (lit< tt) (lit< tt) (lit< tt) (lit< tt) (lit< tt) (lit< tt) h)

-- the vectors of all lines fit
pub fit : (b : Block) → IsSound b → AllByRecursion (λ w. w.address < 2 ^ 32) b.reads → (n room : ℕ) (texts : List (List ℕ)) (ls : List Line) (held : List ℕ) → lines_from b n room texts ≡ Ok ls
    → FitsPins (drop 6 (input_pins b)) held → AllFit (input_pins b) (map (λ s. s.vector) (played ls held))
fit b sound low n room [] [] held e h = tt
fit b sound low n room [] (l ∷ ls) held e h = cc e
fit b sound low n room (t ∷ ts) ls held e h = ⊎_elim
    (λ blank. fit b sound low (n + 1) room ts ls held blank h)
    (λ f. let o = order_fits b sound low n room (words_of t) f.order f.ordered_by in
    let own = line_fits b n f.order held o h in
    let rest = fit b sound low (n + 1) (room - vectors_of f.order) ts f.more (held_after f.order held) f.others (after_fits (drop 6 (input_pins b)) f.order held o h) in
    subst (λ xs. Vectors b (played xs held)) (sym f.is) (subst (AllFit (input_pins b)) (sym (map-append (λ s. s.vector) (steps_of n f.order held) (played f.more (held_after f.order held))))
    (each_append (FitsPins (input_pins b)) (map (λ s. s.vector) (steps_of n f.order held)) (map (λ s. s.vector) (played f.more (held_after f.order held))) own rest)))
    (first b n room t ts ls e)

-- all pins at 0
pub zeros_fit : (ps : List Pin) → FitsPins ps (replicate (length ps) 0)
zeros_fit [] = tt
zeros_fit (p ∷ ps) = (pow_pos p.width, zeros_fit ps)

-- How many vectors there are.

room_for : (line room : ℕ) (j : Judged) (o : Order) → within line room j ≡ Ok o → vectors_of o ≤ room
room_for line room (Err e) o h = cc h
room_for line room (Ok p) o h = go (nat_lt room (vectors_of p)) refl h
  where
    go : (c : Bool) → nat_lt room (vectors_of p) ≡ c → (if c then Err (Many line) else Ok p) ≡ Ok o → vectors_of o ≤ room
    go true t h = cc h
    go false t h = let same : p ≡ o = cc h in subst (λ q. vectors_of q ≤ room) same (grind (arith, nat_tests, t))

pub few : (b : Block) (n room : ℕ) (texts : List (List ℕ)) (ls : List Line) (held : List ℕ) → lines_from b n room texts ≡ Ok ls → length (played ls held) ≤ room
few b n room [] [] held e = omega arith
few b n room [] (l ∷ ls) held e = cc e
few b n room (t ∷ ts) ls held e = ⊎_elim
    (λ blank. few b (n + 1) room ts ls held blank)
    (λ f. let r = room_for n room (spelled b n (words_of t)) f.order f.ordered_by in
    let m = few b (n + 1) (room - vectors_of f.order) ts f.more (held_after f.order held) f.others in
    let own = length-steps_of n f.order held in
    let both = length-append (steps_of n f.order held) (played f.more (held_after f.order held)) in
    subst (λ xs. length (played xs held) ≤ room) (sym f.is) (omega (arith, r, m, own, both)))
    (first b n room t ts ls e)
