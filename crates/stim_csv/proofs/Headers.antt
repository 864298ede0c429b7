-- How the header of a table is judged, column by column and pin by pin.
use Rattle.std.proofs.Common.{◌≡◌, ◌≢◌, ℕ, zero, suc, ◌+◌, ◌<◌, Bool, true, false, if◌then◌else◌, Option, Some, None, List, [], ◌∷◌, ◌++◌, length, get_or, take, map, refl, ap, sym, subst, ◌∙◌, arith, inl, inr, replicate}
use Rattle.std.specs.Option.{option_or, is_some, is_none}
use Rattle.std.specs.List.{AllPairs, position_from}
use Rattle.std.specs.Str.{bytes_eq}
use Rattle.std.proofs.Math.ListN.{set}
use Rattle.std.proofs.lemmas.List.{take_more, map-append}
use Rattle.std.proofs.lemmas.Bool.{false≢true, cases_lt}
use Rattle.plain_lemmas.proofs.Lists.{bytes_eq-itself as bytes_same, bytes_eq-same as same_bytes, differ_by as other_bytes}
use Rattle.rb_base.specs.declared.ports.Pin.{Pin}
use Rattle.stim_csv.specs.PinTable.{Cells, place_of, column_of, column_problem, pin_problem, first_problem, width_of}
use Rattle.stim_csv.specs.Columns.{unfound_problem}
use Rattle.stim_csv.specs.declared.error.StimError.TheVariants.{UnknownPin, TwicePin, MissingPin}
use Rattle.stim_csv.proofs.Positions.{place_below, place_before, position-more, set-map}

pub unknown_pin : (pins : List Pin) (header : Cells) (c : ℕ) (name : List ℕ) → place_of pins name ≡ None → column_problem pins header c name ≡ Some (UnknownPin c)
unfolding column_problem
unknown_pin pins header c name h = rw h refl

pub twice_pin : (pins : List Pin) (header : Cells) (c : ℕ) (name : List ℕ) (place : ℕ) → place_of pins name ≡ Some place → is_some (column_of (take c header) name) ≡ true
    → column_problem pins header c name ≡ Some (TwicePin c)
unfolding column_problem
twice_pin pins header c name place h k = rw (h, k) refl

pub new_pin : (pins : List Pin) (header : Cells) (c : ℕ) (name : List ℕ) (place : ℕ) → place_of pins name ≡ Some place → is_some (column_of (take c header) name) ≡ false
    → column_problem pins header c name ≡ None
unfolding column_problem
new_pin pins header c name place h k = rw (h, k) refl

-- the place of a name among one pin more
pub place-more : (pins : List Pin) (i : ℕ) (d : Pin) (name : List ℕ) → AllPairs (λ p q. p.name ≢ q.name) pins → i < length pins
    → (if bytes_eq (get_or pins i d).name name then Some i else place_of (take i pins) name) ≡ place_of (take (i + 1) pins) name
place-more pins i d name apart l = go (bytes_eq (get_or pins i d).name name) refl ∙ sym (position-more (λ p. bytes_eq name p.name) pins i d l)
  where
    kept : (o : Option ℕ) → o ≡ option_or o None
    kept None = refl
    kept (Some x) = refl

    go : (b : Bool) → bytes_eq (get_or pins i d).name name ≡ b
        → (if b then Some i else place_of (take i pins) name) ≡ option_or (place_of (take i pins) name) (if bytes_eq name (get_or pins i d).name then Some i else None)
    go true e =
        let is : (get_or pins i d).name ≡ name = same_bytes (get_or pins i d).name name e in
        let none : place_of (take i pins) name ≡ None = subst (λ n. place_of (take i pins) n ≡ None) is (place_before pins i d apart l) in
        let same : bytes_eq name (get_or pins i d).name ≡ true = subst (λ n. bytes_eq name n ≡ true) (sym is) (bytes_same name) in
        rw (none, same) refl
    go false e =
        let other : bytes_eq name (get_or pins i d).name ≡ false = other_bytes name (get_or pins i d).name (λ q. false≢true (sym e ∙ subst (λ n. bytes_eq (get_or pins i d).name n ≡ true) (sym q) (bytes_same (get_or pins i d).name))) in
        rw other (kept (place_of (take i pins) name))

-- an element of a list of what f says
pub get_or-mapped : {A B : Type 0} (f : A → B) (xs : List A) (i : ℕ) (d : A) (y : B) → i < length xs → get_or (map f xs) i y ≡ f (get_or xs i d)
get_or-mapped f [] i d y l = absurd (omega arith)
get_or-mapped f (x ∷ xs) zero d y l = refl
get_or-mapped f (x ∷ xs) (suc i) d y l = get_or-mapped f xs i d y (omega (arith, l))

-- the columns of the pins in one column more
pub columns-more : (pins : List Pin) (names : Cells) (c place : ℕ) (d : Pin) → AllPairs (λ p q. p.name ≢ q.name) pins → c < length names
    → place_of pins (get_or names c []) ≡ Some place → is_some (column_of (take c names) (get_or pins place d).name) ≡ false
    → set (map (λ p. column_of (take c names) p.name) pins) place (Some c) ≡ map (λ p. column_of (take (c + 1) names) p.name) pins
columns-more pins names c place d apart l at new =
    let found = place_below pins (get_or names c []) place d at in
    set-map (λ p. column_of (take c names) p.name) (λ p. column_of (take (c + 1) names) p.name) pins place d (Some c) found.0
    (more (get_or pins place d).name ∙ here found.1)
    (λ k low other. sym (more (get_or pins k d).name ∙ there k low other found))
  where
    more : (pin : List ℕ) → column_of (take (c + 1) names) pin ≡ option_or (column_of (take c names) pin) (if bytes_eq (get_or names c []) pin then Some c else None)
    more pin = position-more (λ name. bytes_eq name pin) names c [] l

    none_of : (o : Option ℕ) → is_some o ≡ false → o ≡ None
    none_of None e = refl
    none_of (Some x) e = cc e

    here : get_or names c [] ≡ (get_or pins place d).name
        → option_or (column_of (take c names) (get_or pins place d).name) (if bytes_eq (get_or names c []) (get_or pins place d).name then Some c else None) ≡ Some c
    here is =
        let same : bytes_eq (get_or names c []) (get_or pins place d).name ≡ true = subst (λ n. bytes_eq (get_or names c []) n ≡ true) is (bytes_same (get_or names c [])) in
        rw (none_of (column_of (take c names) (get_or pins place d).name) new, same) refl

    kept : (o : Option ℕ) → option_or o None ≡ o
    kept None = refl
    kept (Some x) = refl

    apart_from : (k : ℕ) → k < length pins → k ≢ place → place < length pins → (get_or pins place d).name ≡ (get_or pins k d).name → ⊥
    apart_from k low other at_place e = elim (cases_lt k place) [
      | inl before ↦ apart k place d before at_place (sym e)
      | inr after ↦ apart place k d (omega (arith, after, other)) low e
    ]

    there : (k : ℕ) → k < length pins → k ≢ place → (place < length pins) × (get_or names c [] ≡ (get_or pins place d).name)
        → option_or (column_of (take c names) (get_or pins k d).name) (if bytes_eq (get_or names c []) (get_or pins k d).name then Some c else None) ≡ column_of (take c names) (get_or pins k d).name
    there k low other found =
        let differs : bytes_eq (get_or names c []) (get_or pins k d).name ≡ false = other_bytes (get_or names c []) (get_or pins k d).name (λ e. apart_from k low other found.0 (sym found.1 ∙ e)) in
        rw differs (kept (column_of (take c names) (get_or pins k d).name))

unfound : (header : Cells) (place : ℕ) (pin : Pin) → pin_problem header place pin ≡ unfound_problem place (column_of header pin.name)
unfolding pin_problem
unfound header place pin = go (column_of header pin.name)
  where
    go : (o : Option ℕ) → (if is_none o then Some (MissingPin place) else None) ≡ unfound_problem place o
    go None = refl
    go (Some c) = refl

-- the first pin without a column
pub pins_unfound : (header : Cells) (k : ℕ) (pins : List Pin) → first_problem (pin_problem header) k pins ≡ first_problem unfound_problem k (map (λ p. column_of header p.name) pins)
unfolding first_problem
pins_unfound header k [] = refl
pins_unfound header k (p ∷ ps) =
    ap (λ o. option_or o (first_problem (pin_problem header) (k + 1) ps)) (unfound header k p)
    ∙ ap (λ o. option_or (unfound_problem k (column_of header p.name)) o) (pins_unfound header (k + 1) ps)

-- the width at a place that is found
width_found : (pins : List Pin) (name : List ℕ) (k i : ℕ) (d : Pin) → position_from (λ p. bytes_eq name p.name) k pins ≡ Some i → (n : ℕ) × (i ≡ k + n) × (width_of pins name ≡ (get_or pins n d).width)
unfolding width_of
width_found [] name k i d h = cc h
width_found (p ∷ ps) name k i d h = go (bytes_eq name p.name) (width_found ps name (k + 1) i d) h
  where
    go : (b : Bool) → (position_from (λ p. bytes_eq name p.name) (k + 1) ps ≡ Some i → (n : ℕ) × (i ≡ k + 1 + n) × (width_of ps name ≡ (get_or ps n d).width))
        → (if b then Some k else position_from (λ p. bytes_eq name p.name) (k + 1) ps) ≡ Some i
        → (n : ℕ) × (i ≡ k + n) × ((if b then p.width else width_of ps name) ≡ (get_or (p ∷ ps) n d).width)
    go true ih h = let same : k ≡ i = cc in (0, omega (arith, same), refl)
    go false ih h = let (n, at, is) = ih h in (suc n, omega (arith, at), is)

pub width_at : (pins : List Pin) (name : List ℕ) (place : ℕ) (d : Pin) → place_of pins name ≡ Some place → width_of pins name ≡ (get_or pins place d).width
width_at pins name place d h =
    let (n, at, is) = width_found pins name 0 place d h in
    let same : n ≡ place = omega (arith, at) in
    rw (← same) is

-- before the first column no pin has one
pub no-columns : (pins : List Pin) → replicate (length pins) None ≡ map (λ p. column_of [] p.name) pins
no-columns [] = refl
no-columns (p ∷ ps) = ap (λ os. None ∷ os) (no-columns ps)

-- a name's place, as a look-up gives it
pub placed : (pins : List Pin) (name name' : List ℕ) (o o' : Option ℕ) → name' ≡ name → o ≡ place_of pins name' → o ≡ o' → place_of pins name ≡ o'
placed pins name name' o o' e is found = ap (place_of pins) (sym e) ∙ (sym is ∙ found)

pub nowhere : (o : Option ℕ) → ((x : ℕ) → o ≡ Some x → ⊥) → o ≡ None
nowhere None h = refl
nowhere (Some x) h = absurd (h x refl)

abbrev pub no_pin : Pin
no_pin = record { name = []; width = 0 }

-- whether an earlier column is of a pin, by the columns that are found so far
pub seen_before : (pins : List Pin) (names : Cells) (c place : ℕ) (d : Pin) (columns : List (Option ℕ)) (x : Option ℕ) (b b' : Bool)
    → columns ≡ map (λ p. column_of (take c names) p.name) pins → place_of pins (get_or names c []) ≡ Some place
    → x ≡ get_or columns place x → b ≡ is_some x → b ≡ b'
    → (is_some (column_of (take c names) (get_or names c [])) ≡ b') × (is_some (column_of (take c names) (get_or pins place d).name) ≡ b')
seen_before pins names c place d columns x b b' all at is tells e =
    let found = place_below pins (get_or names c []) place d at in
    let held : x ≡ column_of (take c names) (get_or pins place d).name = is ∙ (ap (λ l. get_or l place x) all ∙ get_or-mapped (λ p. column_of (take c names) p.name) pins place d x found.0) in
    let pin : is_some (column_of (take c names) (get_or pins place d).name) ≡ b' = ap is_some (sym held) ∙ (sym tells ∙ e) in
    (ap (λ n. is_some (column_of (take c names) n)) found.1 ∙ pin, pin)

-- the columns of the pins after one more column
pub columns-after : (pins : List Pin) (names : Cells) (c place : ℕ) (d : Pin) (columns : List (Option ℕ)) → AllPairs (λ p q. p.name ≢ q.name) pins → c < length names
    → columns ≡ map (λ p. column_of (take c names) p.name) pins
    → place_of pins (get_or names c []) ≡ Some place → is_some (column_of (take c names) (get_or pins place d).name) ≡ false
    → set columns place (Some c) ≡ map (λ p. column_of (take (c + 1) names) p.name) pins
columns-after pins names c place d columns apart l all at new = ap (λ os. set os place (Some c)) all ∙ columns-more pins names c place d apart l at new

-- the widths of the columns after one more
pub widths-after : (pins : List Pin) (names : Cells) (c place : ℕ) (d : Pin) (widths widths' : List ℕ) → c < length names
    → widths ≡ map (width_of pins) (take c names) → place_of pins (get_or names c []) ≡ Some place → widths' ≡ widths ++ ((get_or pins place d).width ∷ [])
    → widths' ≡ map (width_of pins) (take (c + 1) names)
widths-after pins names c place d widths widths' l all at pushed =
    let width : width_of pins (get_or names c []) ≡ (get_or pins place d).width = width_at pins (get_or names c []) place d at in
    pushed ∙ (rw (take_more names c [] l, map-append (width_of pins) (take c names) (get_or names c [] ∷ []), width, all) refl)

-- the columns before the first
pub columns-start : (pins : List Pin) (columns : List (Option ℕ)) → columns ≡ replicate (length pins) None → columns ≡ map (λ p. column_of [] p.name) pins
columns-start pins columns e = e ∙ no-columns pins
