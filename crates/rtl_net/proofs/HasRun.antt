-- A netlist has a run from any contents over any vectors that fit its inputs.
use Rattle.std.specs.List.{slice_get, AllByRecursion, IsDistinct}
use Rattle.std.specs.Str.{bytes_eq}
use Rattle.std.proofs.Common.{zero, suc, ℕ, ◌≡◌, ◌<◌, Bool, true, false, if◌then◌else◌, List, [], ◌∷◌, map, filter, length, Option, Some, None, refl, ap, sym, ◌∙◌, subst, arith}
use Rattle.rb_base.specs.declared.ports.Pin.{Pin}
use Rattle.rtl_net.specs.Value.{At, Values, node_value, under, operands}
use Rattle.rtl_net.specs.Net.{Net, IsEdge, widths, registers_of}
use Rattle.rtl_net.specs.Ports.{seat_names}
use Rattle.rtl_net.specs.Made.{IsMade, IsNodeMade}
use Rattle.rtl_net.specs.Run.{is_data_input, seat_pin, inputs, outputs, registers, values_at, SameAt, NetEdge, NetRun}
use Rattle.rtl_net.specs.Fits.{FitsPins, AllFit}
use Rattle.rtl_net.specs.declared.node.Id.{Id}
use Rattle.rtl_net.specs.declared.node.NetNode.{NetNode}
use Rattle.rtl_net.specs.declared.node.NetNode.TheVariants.{Input, Register, Wire}
use Rattle.rtl_net.specs.declared.node.NetReset.{NetReset}
use Rattle.rtl_net.specs.declared.node.Seat.{Seat}
use Rattle.rtl_net.specs.declared.node.Occupant.{Occupant}
use Rattle.rtl_net.specs.declared.node.Occupant.TheVariants as takes
use Rattle.rtl_net.proofs.Places.{slice_get-within}
use Rattle.rtl_net.proofs.Values.{expr_value-same}
use Rattle.rtl_net.proofs.Pins.{values_of_same}
use Rattle.plain_lemmas.proofs.Lists.{bytes_eq-itself as same_name, each-imp as each_one}
use Rattle.rtl_net.proofs.OneRun.{under_same, reset_below, same_refl}

if-true : (b : Bool) (x y : ℕ) → b ≡ true → (if b then x else y) ≡ x
if-true true x y h = refl
if-true false x y h = cc

if-false : (b : Bool) (x y : ℕ) → b ≡ false → (if b then x else y) ≡ y
if-false true x y h = cc
if-false false x y h = refl

-- the number of the first item with the name
module _ {X : Type 0} (name : X → List ℕ) (number : X → ℕ) where
  abbrev pub look : List X → Values
  look [] n = 0
  look (x ∷ xs) n = if bytes_eq (name x) n then number x else look xs n

  apart_at : (n : List ℕ) (xs : List X) (i : ℕ) (x : X) → AllByRecursion (λ m. bytes_eq n m ≡ false) (map name xs) → slice_get xs i ≡ Some x → bytes_eq n (name x) ≡ false
  apart_at n [] i x d h = absurd (let q : None ≡ Some x = h in cc)
  apart_at n (y ∷ xs) zero x d h = let q : y ≡ x = cc in ap (λ z. bytes_eq n (name z)) (sym q) ∙ d.0
  apart_at n (y ∷ xs) (suc i) x d h = apart_at n xs i x d.1 h

  pub look_at : (xs : List X) → IsDistinct bytes_eq (map name xs) → (i : ℕ) (x : X) → slice_get xs i ≡ Some x → look xs (name x) ≡ number x
  unfolding IsDistinct
  look_at [] d i x h = absurd (let q : None ≡ Some x = h in cc)
  look_at (y ∷ xs) d zero x h =
      let q : y ≡ x = cc in
      subst (λ z. (if bytes_eq (name y) (name z) then number y else look xs (name z)) ≡ number z) q (if-true (bytes_eq (name y) (name y)) (number y) (look xs (name y)) (same_name (name y)))
  look_at (y ∷ xs) d (suc i) x h = if-false (bytes_eq (name y) (name x)) (number y) (look xs (name x)) (apart_at (name y) xs i x d.0 h) ∙ look_at xs d.1 i x h

-- the numbers of a vector by name
abbrev by_name : List Pin → List ℕ → Values
by_name [] xs n = 0
by_name (p ∷ ps) [] n = 0
by_name (p ∷ ps) (x ∷ xs) n = if bytes_eq p.name n then x else by_name ps xs n

abbrev pin_names : List Pin → List (List ℕ)
pin_names ps = map (λ p. p.name) ps

values_of_vector : (ps : List Pin) (xs : List ℕ) → IsDistinct bytes_eq (pin_names ps) → FitsPins ps xs → values_at (by_name ps xs) ps ≡ xs
unfolding IsDistinct
values_of_vector [] [] d f = refl
values_of_vector [] (x ∷ xs) d f = absurd f
values_of_vector (p ∷ ps) [] d f = absurd f
values_of_vector (p ∷ ps) (x ∷ xs) d f =
    let all = by_name (p ∷ ps) (x ∷ xs) in
    let here : all p.name ≡ x = if-true (bytes_eq p.name p.name) x (by_name ps xs p.name) (same_name p.name) in
    let there : values_at all ps ≡ xs = values_of_same all (by_name ps xs) ps (others p x ps (by_name ps xs) d.0) ∙ values_of_vector ps xs d.1 f.1 in
    ap (λ a. a ∷ values_at all ps) here ∙ ap (λ b. x ∷ b) there
  where
    others : (p : Pin) (x : ℕ) (ps : List Pin) (v : Values) → AllByRecursion (λ m. bytes_eq p.name m ≡ false) (pin_names ps) → SameAt (λ n. if bytes_eq p.name n then x else v n) v ps
    others p x [] v d = tt
    others p x (q ∷ ps) v d = (if-false (bytes_eq p.name q.name) x (v q.name) d.0, others p x ps v d.1)

-- what is kept of names that differ
kept_all : (P : List ℕ → Type 0) (keep : Seat → Bool) (ss : List Seat) → AllByRecursion P (seat_names ss) → AllByRecursion P (pin_names (map seat_pin (filter keep ss)))
kept_all P keep [] h = tt
kept_all P keep (s ∷ ss) h = go (keep s) (filter keep ss) h.0 (kept_all P keep ss h.1)
  where
    go : (b : Bool) (rest : List Seat) → P s.name → AllByRecursion P (pin_names (map seat_pin rest)) → AllByRecursion P (pin_names (map seat_pin (if b then s ∷ rest else rest)))
    go true rest a h = (a, h)
    go false rest a h = h

kept_differ : (keep : Seat → Bool) (ss : List Seat) → IsDistinct bytes_eq (seat_names ss) → IsDistinct bytes_eq (pin_names (map seat_pin (filter keep ss)))
unfolding IsDistinct
kept_differ keep [] d = tt
kept_differ keep (s ∷ ss) d = elim (keep s) as (λ (b : Bool). IsDistinct bytes_eq (pin_names (map seat_pin (if b then s ∷ filter keep ss else filter keep ss)))) [
  | true ↦ (kept_all (λ m. bytes_eq s.name m ≡ false) keep ss d.0, kept_differ keep ss d.1)
  | false ↦ kept_differ keep ss d.1
]

-- the value that a seat shows
abbrev shown : (ℕ → ℕ) → Seat → ℕ
shown f s = shown_by s.taken
  where
    shown_by : Option Occupant → ℕ
    shown_by None = 0
    shown_by (Some (takes.Input id)) = 0
    shown_by (Some (takes.Output from)) = f from.0

-- the registers' names and what they take
abbrev taken_next : (ℕ → ℕ) → NetReset → Option Id → ℕ
taken_next f reset None = 0
taken_next f reset (Some next) = under f reset (f next.0)

abbrev nexts : (ℕ → ℕ) → List NetNode → List (List ℕ × ℕ)
nexts f [] = []
nexts f (Input name w ∷ ns) = nexts f ns
nexts f (Register name w reset next ∷ ns) = (name, taken_next f reset next) ∷ nexts f ns
nexts f (Wire e ∷ ns) = nexts f ns

nexts_names : (f : ℕ → ℕ) (ns : List NetNode) → map (λ (x : List ℕ × ℕ). x.0) (nexts f ns) ≡ map (λ r. r.name) (registers_of ns)
nexts_names f [] = refl
nexts_names f (Input name w ∷ ns) = nexts_names f ns
nexts_names f (Register name w reset next ∷ ns) = ap (λ l. name ∷ l) (nexts_names f ns)
nexts_names f (Wire e ∷ ns) = nexts_names f ns

next_at : (f : ℕ → ℕ) (ns : List NetNode) (i : ℕ) (name : List ℕ) (w : ℕ) (reset : NetReset) (next : Option Id) → slice_get ns i ≡ Some (Register name w reset next)
    → (j : ℕ) × (slice_get (nexts f ns) j ≡ Some (name, taken_next f reset next))
next_at f [] i name w reset next h = absurd (let q : None ≡ Some (Register name w reset next) = h in cc)
next_at f (Input n u ∷ ns) zero name w reset next h = absurd (let q : Some (Input n u) ≡ Some (Register name w reset next) = h in cc)
next_at f (Wire e ∷ ns) zero name w reset next h = absurd (let q : Some (Wire e) ≡ Some (Register name w reset next) = h in cc)
next_at f (Register n u r t ∷ ns) zero name w reset next h =
    let p : n ≡ name = cc in
    let q : r ≡ reset = cc in
    let s : t ≡ next = cc in
    (0, ap (λ x. Some (x, taken_next f r t)) p ∙ ap (λ x. Some (name, taken_next f x t)) q ∙ ap (λ x. Some (name, taken_next f reset x)) s)
next_at f (Input n u ∷ ns) (suc i) name w reset next h = next_at f ns i name w reset next h
next_at f (Wire e ∷ ns) (suc i) name w reset next h = next_at f ns i name w reset next h
next_at f (Register n u r t ∷ ns) (suc i) name w reset next h = let a = next_at f ns i name w reset next h in (suc a.0, a.1)

module _ (net : Net) (made : IsMade net) (given contents : Values) where
  -- what is seen where the nodes have these values
  abbrev seen : (ℕ → ℕ) → At
  seen f = record {
    ins = given;
    kept = contents;
    node = f;
    outs = look (λ (s : Seat). s.name) (shown f) net.seats;
    after = look (λ (x : List ℕ × ℕ). x.0) (λ (x : List ℕ × ℕ). x.1) (nexts f net.nodes);
  }

  abbrev place_value : (ℕ → ℕ) → Option NetNode → ℕ
  place_value f None = 0
  place_value f (Some n) = node_value (seen f) (widths net) n

  -- the values once the nodes have acted so many times
  abbrev settle : ℕ → ℕ → ℕ
  settle zero i = 0
  settle (suc k) i = place_value (settle k) (slice_get net.nodes i)

  node_same : (f g : ℕ → ℕ) (i : ℕ) (n : NetNode) → IsNodeMade net i n → ((j : ℕ) → j < i → f j ≡ g j) → node_value (seen f) (widths net) n ≡ node_value (seen g) (widths net) n
  node_same f g i (Input name w) m h = refl
  node_same f g i (Register name w reset next) m h = under_same f g reset (contents name) (contents name) (λ pin low value e. h pin.0 (reset_below net made i reset m.2 pin low value e)) refl
  node_same f g i (Wire e) m h = expr_value-same (widths net) f g e (each_one (λ a. a.0 < i) (λ a. f a.0 ≡ g a.0) (operands e) (λ a l. h a.0 l) m.1)

  place_same : (f g : ℕ → ℕ) (i : ℕ) (o : Option NetNode) → slice_get net.nodes i ≡ o → ((j : ℕ) → j < i → f j ≡ g j) → place_value f o ≡ place_value g o
  place_same f g i None e h = refl
  place_same f g i (Some n) e h = node_same f g i n (made.nodes i n e) h

  -- a node's value stands still
  stable : (k i : ℕ) → i < k → settle k i ≡ settle (suc k) i
  stable zero i h = absurd (omega arith)
  stable (suc k) i h = place_same (settle k) (settle (suc k)) i (slice_get net.nodes i) refl (λ j l. stable k j (omega arith))

  abbrev settled : ℕ → ℕ
  settled = settle (suc (length net.nodes))

  pub is_edge : IsEdge net (seen settled)
  is_edge = record {
    nodes = λ i n h.
        let l : i < length net.nodes = slice_get-within net.nodes i n h in
        ap (place_value (settle (length net.nodes))) h ∙ node_same (settle (length net.nodes)) settled i n (made.nodes i n h) (λ j b. stable (length net.nodes) j (omega arith));
    nexts = λ i name w reset next h.
        let a = next_at settled net.nodes i name w reset (Some next) h in
        look_at (λ (x : List ℕ × ℕ). x.0) (λ (x : List ℕ × ℕ). x.1) (nexts settled net.nodes) (subst (IsDistinct bytes_eq) (sym (nexts_names settled net.nodes)) made.names.registers_differ) a.0 _ a.1;
    outs = λ i name w from h. look_at (λ (s : Seat). s.name) (shown settled) net.seats made.names.seats_differ i _ h;
  }

module _ (net : Net) (made : IsMade net) where
  has_edge : (contents : Values) (ins : List ℕ) → FitsPins (inputs net) ins → (outs : List ℕ) × (after : Values) × NetEdge net contents ins outs after
  has_edge contents ins fits =
      let given = by_name (inputs net) ins in
      let at = seen net made given contents (settled net made given contents) in (
        values_at at.outs (outputs net),
        at.after,
        record {
          at = at;
          edge = is_edge net made given contents;
          given = values_of_vector (inputs net) ins (kept_differ is_data_input net.seats made.names.seats_differ) fits;
          kept = same_refl contents (registers net);
          seen = refl;
          moved = same_refl at.after (registers net);
        },
      )

  -- A netlist has a run from any contents over any vectors that fit its inputs.
  pub has_run : (contents : Values) (vectors : List (List ℕ)) → AllFit (inputs net) vectors → (outputs : List (List ℕ)) × NetRun net contents vectors outputs
  has_run contents [] fits = ([], tt)
  has_run contents (x ∷ xs) fits =
      let e = has_edge contents x fits.0 in
      let r = has_run e.1 xs fits.1 in
      (e.0 ∷ r.0, (e.1, e.2, r.1))
