-- The declared nets of a module, and the pins of a run among them.
use Rattle.std.specs.List.{AllByRecursion}
use Rattle.std.specs.Str.{bytes_eq}
use Rattle.std.proofs.Common.{◌≡◌, ℕ, ◌==◌, Bool, true, false, not, ◌&&◌, ◌||◌, if◌then◌else◌, List, [], ◌∷◌, ◌++◌, map, filter, refl, ap, sym, ◌∙◌, subst, inl, inr}
use Rattle.v_design.specs.Lexemes.{among}
use Rattle.v_design.specs.Tree.{Tree}
use Rattle.v_design.specs.Design.{module_of, widths, width_among, inputs, outputs, registers, is_data_input, is_output, is_input, port_pin, decl_pin}
use Rattle.v_design.specs.WellFormed.{IsWellFormed, Net, Kind, Given, Wired, Kept, port_kind, decl_kind, port_net, decl_net, nets, names, distinct, same_kind, has, is_pin, clock}
use Rattle.rb_base.specs.declared.ports.Dir.{Dir}
use Rattle.rb_base.specs.declared.ports.Dir.TheVariants.{In, Out}
use Rattle.rb_base.specs.declared.ports.Port.{Port}
use Rattle.rb_base.specs.declared.ports.Pin.{Pin}
use Rattle.v_design.specs.declared.design.Decl.{Decl}
use Rattle.v_design.proofs.Tests.{and-left, and-right, same-refl, same-true}
use Rattle.std.proofs.lemmas.Bool.{false≢true, or_cases}
use Rattle.v_design.proofs.Names.{or-left, or-right, both, not-flip, not-true-false, apart-absurd, apart, each_one, each_two, each_left, each_right, among_names, filter_distinct, each_kept}

-- a net of a kind is declared
pub has_declared : (ds : List Net) (k : Kind) (n : List ℕ) → has ds k n ≡ true → among (names ds) n ≡ true
has_declared [] k n h = h
has_declared (d ∷ ds) k n h = elim (or_cases (bytes_eq d.name n && same_kind d.kind k) (has ds k n) h) [
  | inl here ↦ or-left (bytes_eq d.name n) (among (names ds) n) (and-left (bytes_eq d.name n) (same_kind d.kind k) here)
  | inr there ↦ or-right (bytes_eq d.name n) (among (names ds) n) (has_declared ds k n there)
]

-- both kinds fit one only where they are the same
one_kind : (j k l : Kind) → same_kind j k ≡ true → same_kind j l ≡ true → same_kind k l ≡ true
one_kind Given Given l p q = q
one_kind Given Wired l p q = absurd (false≢true p)
one_kind Given Kept l p q = absurd (false≢true p)
one_kind Wired Wired l p q = q
one_kind Wired Given l p q = absurd (false≢true p)
one_kind Wired Kept l p q = absurd (false≢true p)
one_kind Kept Kept l p q = q
one_kind Kept Given l p q = absurd (false≢true p)
one_kind Kept Wired l p q = absurd (false≢true p)

-- a net has no other kind
pub has_one : (ds : List Net) (k l : Kind) (n : List ℕ) → distinct (names ds) ≡ true → has ds k n ≡ true → has ds l n ≡ true → same_kind k l ≡ true
has_one [] k l n d p q = absurd (false≢true p)
has_one (x ∷ ds) k l n d p q = elim (or_cases (bytes_eq x.name n && same_kind x.kind k) (has ds k n) p) [
  | inl a ↦ elim (or_cases (bytes_eq x.name n && same_kind x.kind l) (has ds l n) q) [
    | inl b ↦ one_kind x.kind k l (and-right (bytes_eq x.name n) (same_kind x.kind k) a) (and-right (bytes_eq x.name n) (same_kind x.kind l) b)
    | inr b ↦ absurd (away (and-left (bytes_eq x.name n) (same_kind x.kind k) a) (has_declared ds l n b))
  ]
  | inr a ↦ elim (or_cases (bytes_eq x.name n && same_kind x.kind l) (has ds l n) q) [
    | inl b ↦ absurd (away (and-left (bytes_eq x.name n) (same_kind x.kind l) b) (has_declared ds k n a))
    | inr b ↦ has_one ds k l n (and-right (not (among (names ds) x.name)) (distinct (names ds)) d) a b
  ]
]
  where
    away : bytes_eq x.name n ≡ true → among (names ds) n ≡ true → ⊥
    away e a = apart-absurd (bytes_eq x.name n) e (apart (names ds) x.name n (not-flip (among (names ds) x.name) (and-left (not (among (names ds) x.name)) (distinct (names ds)) d)) a)

-- a one-bit input is an input
pub pin_given : (ds : List Net) (n : List ℕ) → is_pin ds n ≡ true → has ds Given n ≡ true
pin_given [] n h = h
pin_given (d ∷ ds) n h = elim (or_cases (bytes_eq d.name n && same_kind d.kind Given && d.width == 1) (is_pin ds n) h) [
  | inl here ↦ or-left (bytes_eq d.name n && same_kind d.kind Given) (has ds Given n) (and-left (bytes_eq d.name n && same_kind d.kind Given) (d.width == 1) here)
  | inr there ↦ or-right (bytes_eq d.name n && same_kind d.kind Given) (has ds Given n) (pin_given ds n there)
]

-- the names of pins
abbrev pub pin_names : List Pin → List (List ℕ)
pin_names ps = map (λ p. p.name) ps

pin_names-ports : (ps : List Port) → pin_names (map port_pin ps) ≡ map (λ p. p.name) ps
pin_names-ports [] = refl
pin_names-ports (p ∷ ps) = ap (λ ns. p.name ∷ ns) (pin_names-ports ps)

pin_names-decls : (ds : List Decl) → pin_names (map decl_pin ds) ≡ names (map decl_net ds)
pin_names-decls [] = refl
pin_names-decls (d ∷ ds) = ap (λ ns. d.name ∷ ns) (pin_names-decls ds)

pin_names-nets : (ps : List Port) (ds : List Decl) → pin_names (map port_pin ps ++ map decl_pin ds) ≡ names (map port_net ps ++ map decl_net ds)
pin_names-nets [] ds = pin_names-decls ds
pin_names-nets (p ∷ ps) ds = ap (λ ns. p.name ∷ ns) (pin_names-nets ps ds)

ports_declared : (ps : List Port) (ds : List Net) (n : List ℕ) → among (map (λ p. p.name) ps) n ≡ true → among (names (map port_net ps ++ ds)) n ≡ true
ports_declared [] ds n h = absurd (false≢true h)
ports_declared (p ∷ ps) ds n h = elim (or_cases (bytes_eq p.name n) (among (map (λ p. p.name) ps) n) h) [
  | inl here ↦ or-left (bytes_eq p.name n) (among (names (map port_net ps ++ ds)) n) here
  | inr there ↦ or-right (bytes_eq p.name n) (among (names (map port_net ps ++ ds)) n) (ports_declared ps ds n there)
]

ports_distinct : (ps : List Port) (ds : List Net) → distinct (names (map port_net ps ++ ds)) ≡ true → distinct (map (λ p. p.name) ps) ≡ true
ports_distinct [] ds h = refl
ports_distinct (p ∷ ps) ds h =
    let A = among (names (map port_net ps ++ ds)) p.name in
    let once : among (map (λ p. p.name) ps) p.name ≡ false
    = not-true-false (among (map (λ p. p.name) ps) p.name) (λ q. apart-absurd A (ports_declared ps ds p.name q) (not-flip A (and-left (not A) (distinct (names (map port_net ps ++ ds))) h))) in
    both (not (among (map (λ p. p.name) ps) p.name)) (distinct (map (λ p. p.name) ps)) (rw once refl) (ports_distinct ps ds (and-right (not A) (distinct (names (map port_net ps ++ ds))) h))

pub inputs_distinct : (t : Tree) → IsWellFormed t → distinct (pin_names (inputs (module_of t))) ≡ true
inputs_distinct t f = rw (pin_names-ports (filter is_data_input t.ports)) (filter_distinct (λ p. p.name) is_data_input t.ports (ports_distinct t.ports (map decl_net t.decls) f.once))

-- the inputs of a run are the inputs but the clock
given_has : (ps : List Port) (ds : List Net) (n : List ℕ) → among (pin_names (map port_pin (filter is_data_input ps))) n ≡ true → has (map port_net ps ++ ds) Given n ≡ true
given_has [] ds n h = absurd (false≢true h)
given_has (p ∷ ps) ds n h = go p.dir (not (bytes_eq p.name clock)) (filter is_data_input ps) (given_has ps ds n) h
  where
    go : (d : Dir) (b : Bool) (qs : List Port) → (among (pin_names (map port_pin qs)) n ≡ true → has (map port_net ps ++ ds) Given n ≡ true)
        → among (pin_names (map port_pin (if is_input d && b then p ∷ qs else qs))) n ≡ true → (bytes_eq p.name n && same_kind (port_kind d) Given || has (map port_net ps ++ ds) Given n) ≡ true
    go In true qs ih h = elim (or_cases (bytes_eq p.name n) (among (pin_names (map port_pin qs)) n) h) [
      | inl here ↦ or-left (bytes_eq p.name n && true) (has (map port_net ps ++ ds) Given n) (both (bytes_eq p.name n) true here refl)
      | inr there ↦ or-right (bytes_eq p.name n && true) (has (map port_net ps ++ ds) Given n) (ih there)
    ]
    go In false qs ih h = or-right (bytes_eq p.name n && true) (has (map port_net ps ++ ds) Given n) (ih h)
    go Out b qs ih h = or-right (bytes_eq p.name n && false) (has (map port_net ps ++ ds) Given n) (ih h)

no_decl : (ds : List Decl) (n : List ℕ) → has (map decl_net ds) Given n ≡ true → ⊥
no_decl [] n h = false≢true h
no_decl (d ∷ ds) n h = elim (or_cases (bytes_eq d.name n && same_kind (decl_kind d.reg) Given) (has (map decl_net ds) Given n) h) [
  | inl here ↦ go d.reg (and-right (bytes_eq d.name n) (same_kind (decl_kind d.reg) Given) here)
  | inr there ↦ no_decl ds n there
]
  where
    go : (r : Bool) → same_kind (decl_kind r) Given ≡ true → ⊥
    go true h = false≢true h
    go false h = false≢true h

has_given : (ps : List Port) (ds : List Decl) (n : List ℕ) → bytes_eq n clock ≡ false → has (map port_net ps ++ map decl_net ds) Given n ≡ true → among (pin_names (map port_pin (filter is_data_input ps))) n ≡ true
has_given [] ds n other h = absurd (no_decl ds n h)
has_given (p ∷ ps) ds n other h = go p.dir (not (bytes_eq p.name clock)) (filter is_data_input ps) clocked (has_given ps ds n other) h
  where
    clocked : bytes_eq p.name n ≡ true → not (bytes_eq p.name clock) ≡ true
    clocked e = let P : List ℕ → Type 0 = λ x. not (bytes_eq x clock) ≡ true in subst P (sym (same-true p.name n e)) (rw other refl)

    go : (d : Dir) (b : Bool) (qs : List Port) → (bytes_eq p.name n ≡ true → b ≡ true) → (has (map port_net ps ++ map decl_net ds) Given n ≡ true → among (pin_names (map port_pin qs)) n ≡ true)
        → (bytes_eq p.name n && same_kind (port_kind d) Given || has (map port_net ps ++ map decl_net ds) Given n) ≡ true → among (pin_names (map port_pin (if is_input d && b then p ∷ qs else qs))) n ≡ true
    go In true qs c ih h = elim (or_cases (bytes_eq p.name n && true) (has (map port_net ps ++ map decl_net ds) Given n) h) [
      | inl here ↦ or-left (bytes_eq p.name n) (among (pin_names (map port_pin qs)) n) (and-left (bytes_eq p.name n) true here)
      | inr there ↦ or-right (bytes_eq p.name n) (among (pin_names (map port_pin qs)) n) (ih there)
    ]
    go In false qs c ih h = elim (or_cases (bytes_eq p.name n && true) (has (map port_net ps ++ map decl_net ds) Given n) h) [
      | inl here ↦ absurd (false≢true (c (and-left (bytes_eq p.name n) true here)))
      | inr there ↦ ih there
    ]
    go Out b qs c ih h = elim (or_cases (bytes_eq p.name n && false) (has (map port_net ps ++ map decl_net ds) Given n) h) [
      | inl here ↦ absurd (false≢true (and-right (bytes_eq p.name n) false here))
      | inr there ↦ ih there
    ]

module _ (t : Tree) (f : IsWellFormed t) where
  pub input_given : (n : List ℕ) → among (pin_names (inputs (module_of t))) n ≡ true → has (nets t) Given n ≡ true
  input_given n h = given_has t.ports (map decl_net t.decls) n h

  pub given_input : (n : List ℕ) → has (nets t) Given n ≡ true → bytes_eq n clock ≡ false → among (pin_names (inputs (module_of t))) n ≡ true
  given_input n h other = has_given t.ports t.decls n other h

width_each : (ps : List Pin) → distinct (pin_names ps) ≡ true → AllByRecursion (λ p. width_among ps p.name ≡ p.width) ps
width_each [] d = tt
width_each (p ∷ ps) d =
    let A = among (pin_names ps) p.name in (
      first (bytes_eq p.name p.name) (same-refl p.name) p.width (width_among ps p.name),
      each_two (λ q. among (pin_names ps) q.name ≡ true) (λ q. width_among ps q.name ≡ q.width) (λ q. width_among (p ∷ ps) q.name ≡ q.width) ps
          (λ q a h. other (bytes_eq p.name q.name) (apart (pin_names ps) p.name q.name (not-flip A (and-left (not A) (distinct (pin_names ps)) d)) a) p.width (width_among ps q.name) ∙ h)
          (among_names (λ q. q.name) ps) (width_each ps (and-right (not A) (distinct (pin_names ps)) d)),
    )
  where
    first : (b : Bool) → b ≡ true → (x y : ℕ) → (if b then x else y) ≡ x
    first true h x y = refl
    first false h x y = absurd (false≢true h)

    other : (b : Bool) → b ≡ false → (x y : ℕ) → (if b then x else y) ≡ y
    other true h x y = absurd (false≢true (sym h))
    other false h x y = refl

-- a net has the width that it is declared with
module _ (t : Tree) (f : IsWellFormed t) where
  abbrev HasWidth : Pin → Type 0
  HasWidth p = widths (module_of t) p.name ≡ p.width

  pins_wide : AllByRecursion HasWidth (map port_pin t.ports ++ map decl_pin t.decls)
  pins_wide = width_each (map port_pin t.ports ++ map decl_pin t.decls) (rw (pin_names-nets t.ports t.decls) f.once)

  pub inputs_wide : AllByRecursion HasWidth (inputs (module_of t))
  inputs_wide = each_kept HasWidth port_pin is_data_input t.ports (each_left HasWidth (map port_pin t.ports) (map decl_pin t.decls) pins_wide)

  pub outputs_wide : AllByRecursion HasWidth (outputs (module_of t))
  outputs_wide = each_kept HasWidth port_pin is_output t.ports (each_left HasWidth (map port_pin t.ports) (map decl_pin t.decls) pins_wide)

  pub decls_wide : AllByRecursion HasWidth (map decl_pin t.decls)
  decls_wide = each_right HasWidth (map port_pin t.ports) (map decl_pin t.decls) pins_wide

  pub registers_wide : AllByRecursion HasWidth (registers (module_of t))
  registers_wide = each_kept HasWidth decl_pin (λ d. d.reg) t.decls decls_wide

kept_registers : (ds : List Decl) (n : List ℕ) → has (map decl_net ds) Kept n ≡ true → among (pin_names (map decl_pin (filter (λ d. d.reg) ds))) n ≡ true
kept_registers [] n h = h
kept_registers (d ∷ ds) n h = go d.reg (filter (λ d. d.reg) ds) (kept_registers ds n) h
  where
    go : (r : Bool) (bs : List Decl) → (has (map decl_net ds) Kept n ≡ true → among (pin_names (map decl_pin bs)) n ≡ true)
        → (bytes_eq d.name n && same_kind (decl_kind r) Kept || has (map decl_net ds) Kept n) ≡ true → among (pin_names (map decl_pin (if r then d ∷ bs else bs))) n ≡ true
    go true bs ih h = elim (or_cases (bytes_eq d.name n && true) (has (map decl_net ds) Kept n) h) [
      | inl here ↦ or-left (bytes_eq d.name n) (among (pin_names (map decl_pin bs)) n) (and-left (bytes_eq d.name n) true here)
      | inr there ↦ or-right (bytes_eq d.name n) (among (pin_names (map decl_pin bs)) n) (ih there)
    ]
    go false bs ih h = elim (or_cases (bytes_eq d.name n && false) (has (map decl_net ds) Kept n) h) [
      | inl here ↦ absurd (false≢true (and-right (bytes_eq d.name n) false here))
      | inr there ↦ ih there
    ]

kept_decls : (ps : List Port) (ds : List Net) (n : List ℕ) → has (map port_net ps ++ ds) Kept n ≡ true → has ds Kept n ≡ true
kept_decls [] ds n h = h
kept_decls (p ∷ ps) ds n h = elim (or_cases (bytes_eq p.name n && same_kind (port_kind p.dir) Kept) (has (map port_net ps ++ ds) Kept n) h) [
  | inl here ↦ absurd (go p.dir (and-right (bytes_eq p.name n) (same_kind (port_kind p.dir) Kept) here))
  | inr there ↦ kept_decls ps ds n there
]
  where
    go : (d : Dir) → same_kind (port_kind d) Kept ≡ true → ⊥
    go In h = false≢true h
    go Out h = false≢true h

pub kept_register : (t : Tree) (n : List ℕ) → has (nets t) Kept n ≡ true → among (pin_names (registers (module_of t))) n ≡ true
kept_register t n h = kept_registers t.decls n (kept_decls t.ports (map decl_net t.decls) n h)

-- a register is declared as one
registers_kept_in : (ds : List Decl) → AllByRecursion (λ p. has (map decl_net ds) Kept p.name ≡ true) (map decl_pin (filter (λ d. d.reg) ds))
registers_kept_in [] = tt
registers_kept_in (d ∷ ds) = go d.reg (filter (λ d. d.reg) ds)
    (each_one (λ p. has (map decl_net ds) Kept p.name ≡ true) (λ p. (bytes_eq d.name p.name && same_kind (decl_kind d.reg) Kept || has (map decl_net ds) Kept p.name) ≡ true) (map decl_pin (filter (λ d. d.reg) ds))
    (λ p h. or-right (bytes_eq d.name p.name && same_kind (decl_kind d.reg) Kept) (has (map decl_net ds) Kept p.name) h) (registers_kept_in ds))
  where
    go : (r : Bool) (bs : List Decl) → AllByRecursion (λ p. (bytes_eq d.name p.name && same_kind (decl_kind r) Kept || has (map decl_net ds) Kept p.name) ≡ true) (map decl_pin bs)
        → AllByRecursion (λ p. (bytes_eq d.name p.name && same_kind (decl_kind r) Kept || has (map decl_net ds) Kept p.name) ≡ true) (map decl_pin (if r then d ∷ bs else bs))
    go true bs h = (or-left (bytes_eq d.name d.name && true) (has (map decl_net ds) Kept d.name) (both (bytes_eq d.name d.name) true (same-refl d.name) refl), h)
    go false bs h = h

has-right : (ns ds : List Net) (k : Kind) (n : List ℕ) → has ds k n ≡ true → has (ns ++ ds) k n ≡ true
has-right [] ds k n h = h
has-right (x ∷ ns) ds k n h = or-right (bytes_eq x.name n && same_kind x.kind k) (has (ns ++ ds) k n) (has-right ns ds k n h)

pub registers_kept : (t : Tree) → AllByRecursion (λ p. has (nets t) Kept p.name ≡ true) (registers (module_of t))
registers_kept t = each_one (λ p. has (map decl_net t.decls) Kept p.name ≡ true) (λ p. has (nets t) Kept p.name ≡ true) (registers (module_of t))
    (λ p h. has-right (map port_net t.ports) (map decl_net t.decls) Kept p.name h) (registers_kept_in t.decls)
