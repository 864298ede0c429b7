-- What well-formedness says of an accepted module's names: which of them are driven, and by what.
use Rattle.std.specs.List.{AllByRecursion, slice_get}
use Rattle.std.specs.Str.{bytes_eq}
use Rattle.std.proofs.Common.{◌≡◌, ℕ, suc, ◌+◌, ◌<◌, ◌≤◌, Bool, true, false, not, nat_le, if◌then◌else◌, Option, Some, None, IsSome, List, [], ◌∷◌, ◌++◌, length, map, refl, ap, sym, subst, ◌∙◌, ◌⊎◌, inl, inr, arith}
use Rattle.std.proofs.lemmas.Bool.{cases_eq, or_cases}
use Rattle.std.proofs.lemmas.Bool.Decides.{nat_tests}
use Rattle.rb_base.specs.declared.ports.Pin.{Pin}
use Rattle.rb_base.specs.declared.ports.Port.{Port}
use Rattle.v_design.specs.declared.design.Decl.{Decl}
use Rattle.v_design.specs.Lexemes.{among}
use Rattle.v_design.specs.Expr.{nets_of}
use Rattle.v_design.specs.Tree.{Tree, IsTree, is_width, port_widths, decl_widths}
use Rattle.v_design.specs.Design.{Module, Step, Reset, module_of, inputs, outputs, registers, widths, width_among, port_pin, decl_pin}
use Rattle.v_design.specs.WellFormed.{IsWellFormed, AllBelow, Kept, Wired, has, is_pin, nets, clock}
use Rattle.v_design.proofs.Tests.{and-left, and-right, same-refl}
use Rattle.v_design.proofs.Names.{among_names, each_one, each_two, not-flip, or-left, or-right}
use Rattle.v_design.proofs.Nets.{given_input, has_one, kept_register, pin_given, pin_names, registers_kept}
use Rattle.v_design.proofs.Steps.{IsSound, ResetIsGiven, holds_at_read, outputs_driven, registers_driven, steps_sound, tos}
use Rattle.cyc_sim.specs.declared.listing.Wire.{Wire}
use Rattle.cyc_sim.specs.Accepted.{IsAccepted}
use Rattle.cyc_sim.specs.Compiled.{Known, known_at, AreWidths, IsReady}
use Rattle.cyc_sim.specs.Order.{IsAcyclic, IsSettlingOrder}
use Rattle.cyc_sim.specs.Preparing.{KnowsNets, KnowsPins, KnowsRegisters, KnowsReset}
use Rattle.cyc_sim.proofs.Facts.{IsSoundStep, sound_steps}
use Rattle.plain_lemmas.proofs.Lists.{bytes_eq-same as same_bytes, each-get as each_got, get-within as got_within}

-- a name is that of an input, or a step drives it
abbrev pub IsDriven : Module → List ℕ → Type 0
IsDriven m n = (among (pin_names (inputs m)) n ≡ true) ⊎ (among (tos m.steps) n ≡ true)

abbrev pub ResetIsInput : Module → Option Reset → Type 0
ResetIsInput m None = Unit {0}
ResetIsInput m (Some r) = among (pin_names (inputs m)) r.pin ≡ true

-- the names in a step
pub record Stands (m : Module) (s : Step) : Type 0 where
  pub reads : AllByRecursion (IsDriven m) (nets_of s.expr)
  pub reset : ResetIsInput m s.reset
  pub register : s.clocked ≡ true → among (pin_names (registers m)) s.to ≡ true

module _ (t : Tree) (f : IsWellFormed t) where
  acts : AllByRecursion (λ s. (s.clocked ≡ false → AllByRecursion (IsDriven (module_of t)) (nets_of s.expr)) → IsDriven (module_of t) s.to) (module_of t).steps
  acts = each_one (λ s. among (tos (module_of t).steps) s.to ≡ true) (λ s. (s.clocked ≡ false → AllByRecursion (IsDriven (module_of t)) (nets_of s.expr)) → IsDriven (module_of t) s.to) (module_of t).steps
      (λ s a reads. inr a) (among_names (λ s. s.to) (module_of t).steps)

  reset_input : (r : Option Reset) → ResetIsGiven (nets t) r → ResetIsInput (module_of t) r
  reset_input None h = tt
  reset_input (Some r) h =
      given_input t f r.pin (pin_given (nets t) r.pin (and-left (is_pin (nets t) r.pin) (not (bytes_eq r.pin clock)) h)) (not-flip (bytes_eq r.pin clock) (and-right (is_pin (nets t) r.pin) (not (bytes_eq r.pin clock)) h))

  stands_tree : AllByRecursion (Stands (module_of t)) (module_of t).steps
  stands_tree = each_one (IsSound (nets t) (widths (module_of t)) f.rank) (Stands (module_of t)) (module_of t).steps (λ s sound. record {
    reads = holds_at_read t f (IsDriven (module_of t)) (λ n given other. inl (given_input t f n given other)) acts s sound;
    reset = reset_input s.reset sound.reset;
    register = λ c. kept_register t s.to (sound.kept c);
  }) (steps_sound t f)

  acyclic_tree : IsAcyclic (module_of t).steps
  acyclic_tree = record {
    rank = f.rank;
    rises = each_one (IsSound (nets t) (widths (module_of t)) f.rank) (λ s. s.clocked ≡ false → AllBelow f.rank (nets_of s.expr) (f.rank s.to)) (module_of t).steps (λ s sound. sound.rises) (steps_sound t f);
  }

-- a name among those of a list
pub among-index : {X : Type 0} (name : X → List ℕ) (xs : List X) (n : List ℕ) → among (map name xs) n ≡ true → (i : ℕ) × (x : X) × (slice_get xs i ≡ Some x) × (name x ≡ n)
among-index name [] n h = cc h
among-index name (x ∷ xs) n h = elim (or_cases (bytes_eq (name x) n) (among (map name xs) n) h) [
  | inl here ↦ (0, x, refl, same_bytes (name x) n here)
  | inr there ↦ let (i, y, at, e) = among-index name xs n there in (suc i, y, at, e)
]

-- a block at the clock drives the register
abbrev pub IsClocked : Module → Pin → Type 0
IsClocked m p = (i : ℕ) × (s : Step) × (slice_get m.steps i ≡ Some s) × (s.clocked ≡ true) × (s.to ≡ p.name)

clocked_tree : (t : Tree) → IsWellFormed t → AllByRecursion (IsClocked (module_of t)) (registers (module_of t))
clocked_tree t f = each_two (λ p. has (nets t) Kept p.name ≡ true) (λ p. among (tos (module_of t).steps) p.name ≡ true) (IsClocked (module_of t)) (registers (module_of t)) one (registers_kept t) (registers_driven t f)
  where
    one : (p : Pin) → has (nets t) Kept p.name ≡ true → among (tos (module_of t).steps) p.name ≡ true → IsClocked (module_of t) p
    one p kept driven =
        let (i, s, at, e) = among-index (λ s. s.to) (module_of t).steps p.name driven in
        let sound = each_got (IsSound (nets t) (widths (module_of t)) f.rank) (module_of t).steps i s (steps_sound t f) at in
        (i, s, at, go s sound e s.clocked refl, e)
      where
        go : (s : Step) → IsSound (nets t) (widths (module_of t)) f.rank s → s.to ≡ p.name → (b : Bool) → s.clocked ≡ b → s.clocked ≡ true
        go s sound e true c = c
        go s sound e false c = absurd (
            let kept' : has (nets t) Kept s.to ≡ true = ap (has (nets t) Kept) e ∙ kept in
            let g : false ≡ true = has_one (nets t) Wired Kept s.to f.once (sound.wired c) kept' in cc
            )

-- no net has more than 128 bits
width-narrow : (n : ℕ) → is_width n ≡ true → n ≤ 128
width-narrow n h = let k = and-right (nat_le 1 n) (nat_le n 128) h in grind (arith, nat_tests)

among-narrow : (ps : List Pin) → AllByRecursion (λ p. p.width ≤ 128) ps → (n : List ℕ) → width_among ps n ≤ 128
among-narrow [] h n = omega arith
among-narrow (p ∷ ps) h n = go (bytes_eq p.name n) (among-narrow ps h.1 n)
  where
    go : (b : Bool) → width_among ps n ≤ 128 → (if b then p.width else width_among ps n) ≤ 128
    go true r = h.0
    go false r = r

narrow-pins : (ps : List Port) (ds : List Decl) → port_widths ps ≡ true → decl_widths ds ≡ true → AllByRecursion (λ p. p.width ≤ 128) (map port_pin ps ++ map decl_pin ds)
narrow-pins [] [] p q = tt
narrow-pins [] (d ∷ ds) p q = (width-narrow d.width (and-left (is_width d.width) (decl_widths ds) q), narrow-pins [] ds p (and-right (is_width d.width) (decl_widths ds) q))
narrow-pins (x ∷ xs) ds p q = (width-narrow x.width (and-left (is_width x.width) (port_widths xs) p), narrow-pins xs ds (and-right (is_width x.width) (port_widths xs) p) q)

narrow-tree : (bytes : List ℕ) (t : Tree) → IsTree bytes t → (n : List ℕ) → widths (module_of t) n ≤ 128
narrow-tree bytes t tree = among-narrow (map port_pin t.ports ++ map decl_pin t.decls)
    (narrow-pins t.ports t.decls (and-left (port_widths t.ports) (decl_widths t.decls) tree.ranges) (and-right (port_widths t.ports) (decl_widths t.decls) tree.ranges))

module _ (m : Module) (a : IsAccepted m) where
  stands : AllByRecursion (Stands m) m.steps
  stands = let P : Module → Type 0 = λ k. AllByRecursion (Stands k) k.steps in subst P (sym a.is) (stands_tree a.tree a.formed)

  pub acyclic : IsAcyclic m.steps
  acyclic = let P : Module → Type 0 = λ k. IsAcyclic k.steps in subst P (sym a.is) (acyclic_tree a.tree a.formed)

  narrow : (n : List ℕ) → widths m n ≤ 128
  narrow = let P : Module → Type 0 = λ k. (n : List ℕ) → widths k n ≤ 128 in subst P (sym a.is) (narrow-tree a.bytes a.tree a.spelled)

  driven_outputs : AllByRecursion (λ p. among (tos m.steps) p.name ≡ true) (outputs m)
  driven_outputs = let P : Module → Type 0 = λ k. AllByRecursion (λ p. among (tos k.steps) p.name ≡ true) (outputs k) in subst P (sym a.is) (outputs_driven a.tree a.formed)

  clocked_registers : AllByRecursion (IsClocked m) (registers m)
  clocked_registers = let P : Module → Type 0 = λ k. AllByRecursion (IsClocked k) (registers k) in subst P (sym a.is) (clocked_tree a.tree a.formed)

  pub pin-known : (known : Known) (ps : List Pin) (n : List ℕ) → KnowsPins known ps → among (pin_names ps) n ≡ true → IsSome (known_at known n)
  pin-known known ps n h driven = let (i, p, at, e) = among-index (λ p. p.name) ps n driven in let P : List ℕ → Type 0 = λ k. IsSome (known_at known k) in subst P e (h i p at)

  pub reset-known : (known : Known) (i : ℕ) (s : Step) → KnowsPins known (inputs m) → slice_get m.steps i ≡ Some s → KnowsReset known s.reset
  reset-known known i s h at = go s.reset (each_got (Stands m) m.steps i s stands at).reset
    where
      go : (r : Option Reset) → ResetIsInput m r → KnowsReset known r
      go None k = tt
      go (Some r) k = pin-known known (inputs m) r.pin h k

  pub register-known : (kept : Known) (i : ℕ) (s : Step) → KnowsPins kept (registers m) → slice_get m.steps i ≡ Some s → s.clocked ≡ true → IsSome (known_at kept s.to)
  register-known kept i s h at c = pin-known kept (registers m) s.to h ((each_got (Stands m) m.steps i s stands at).register c)

  pub outputs-known : (known : Known) → KnowsNets known m.steps → KnowsPins known (outputs m)
  outputs-known known h i p at =
      let (j, s, there, e) = among-index (λ s. s.to) m.steps p.name (each_got (λ p. among (tos m.steps) p.name ≡ true) (outputs m) i p driven_outputs at) in
      let P : List ℕ → Type 0 = λ k. IsSome (known_at known k) in subst P e (h j s there)

  pub moves-known : (moves : Known) → KnowsRegisters moves m.steps → KnowsPins moves (registers m)
  moves-known moves h i p at =
      let (j, s, there, c, e) = each_got (IsClocked m) (registers m) i p clocked_registers at in
      let P : List ℕ → Type 0 = λ k. IsSome (known_at moves k) in subst P e (h j s there c)

  -- a step over nets that have places, where each step to a net that it reads has one
  ready-where : (known : Known) (i : ℕ) (s : Step) → AreWidths known (widths m) → KnowsPins known (inputs m) → slice_get m.steps i ≡ Some s
      → ((n : List ℕ) (j : ℕ) (t : Step) → among (nets_of s.expr) n ≡ true → slice_get m.steps j ≡ Some t → t.to ≡ n → IsSome (known_at known n)) → IsReady known s.expr
  ready-where known i s wide pins at driven =
      let sound = each_got (IsSoundStep m) m.steps i s (sound_steps m a) at in
      record {
        nets = all (nets_of s.expr) (λ n h. h) (each_got (Stands m) m.steps i s stands at).reads;
        widths = widths m;
        wide = wide;
        narrow = narrow;
        sized = sound.sized;
        constants = sound.constants;
      }
    where
      one : (n : List ℕ) → among (nets_of s.expr) n ≡ true → IsDriven m n → IsSome (known_at known n)
      one n h (inl input) = pin-known known (inputs m) n pins input
      one n h (inr target) = let (j, t, there, e) = among-index (λ s. s.to) m.steps n target in driven n j t h there e

      all : (ns : List (List ℕ)) → ((n : List ℕ) → among ns n ≡ true → among (nets_of s.expr) n ≡ true) → AllByRecursion (IsDriven m) ns → AllByRecursion (λ n. IsSome (known_at known n)) ns
      all [] in_all h = tt
      all (n ∷ ns) in_all h = (one n (in_all n (first n ns)) h.0, all ns (λ k l. in_all k (later n ns k l)) h.1)
        where
          first : (n : List ℕ) (ns : List (List ℕ)) → among (n ∷ ns) n ≡ true
          first n ns = or-left (bytes_eq n n) (among ns n) (same-refl n)

          later : (n : List ℕ) (ns : List (List ℕ)) (k : List ℕ) → among ns k ≡ true → among (n ∷ ns) k ≡ true
          later n ns k l = or-right (bytes_eq n k) (among ns k) l

  -- where all nets have places
  pub ready-all : (known : Known) (i : ℕ) (s : Step) → AreWidths known (widths m) → KnowsPins known (inputs m) → KnowsNets known m.steps → slice_get m.steps i ≡ Some s → IsReady known s.expr
  ready-all known i s wide pins all at =
      ready-where known i s wide pins at (λ n j t reads there e. let P : List ℕ → Type 0 = λ k. IsSome (known_at known k) in subst P e (all j t there))

-- the registers have places, and the nets of the assignments that come first in the order
pub record KnowsBefore (known : Known) (ss : List Step) (order : List ℕ) (end : ℕ) : Type 0 where
  pub registers : KnowsRegisters known ss
  pub assigned : (p i : ℕ) (s : Step) → p < end → slice_get order p ≡ Some i → slice_get ss i ≡ Some s → s.clocked ≡ false → IsSome (known_at known s.to)

-- one net more has a place
module _ (known known' : Known) (to : List ℕ) (w : Wire) (updated : (name : List ℕ) → known_at known' name ≡ (if bytes_eq to name then Some w else known_at known name)) where
  pub still-known : (n : List ℕ) → IsSome (known_at known n) → IsSome (known_at known' n)
  still-known n h = subst IsSome (sym (updated n)) (go (bytes_eq to n))
    where
      go : (b : Bool) → IsSome (if b then Some w else known_at known n)
      go true = refl
      go false = h

  pub now-known : IsSome (known_at known' to)
  now-known = let e = updated to ∙ ap (λ b. if b then Some w else known_at known to) (same-refl to) in rw e refl

  pub pins-still : (ps : List Pin) → KnowsPins known ps → KnowsPins known' ps
  pins-still ps h i p at = still-known p.name (h i p at)

-- the registers of the first steps have places
abbrev pub RegistersBelow : Known → List Step → ℕ → Type 0
RegistersBelow known ss end = (i : ℕ) (s : Step) → i < end → slice_get ss i ≡ Some s → s.clocked ≡ true → IsSome (known_at known s.to)

pub registers-skip : (known : Known) (ss : List Step) (i : ℕ) (s : Step) → slice_get ss i ≡ Some s → s.clocked ≡ false → RegistersBelow known ss i → RegistersBelow known ss (i + 1)
registers-skip known ss i s at other h j t l there c = elim (cases_eq j i) [
  | inl e ↦ absurd (let f : Some t ≡ Some s = sym there ∙ (ap (slice_get ss) e ∙ at) in let f' : t ≡ s = cc in let g : true ≡ false = sym c ∙ (ap (λ x. x.clocked) f' ∙ other) in cc)
  | inr ne ↦ h j t (omega (arith, l, ne)) there c
]

pub registers-more : (known known' : Known) (ss : List Step) (i : ℕ) (s : Step) (w : Wire) → slice_get ss i ≡ Some s → ((name : List ℕ) → known_at known' name ≡ (if bytes_eq s.to name then Some w else known_at known name))
    → RegistersBelow known ss i → RegistersBelow known' ss (i + 1)
registers-more known known' ss i s w at updated h j t l there c = elim (cases_eq j i) [
  | inl e ↦
      let f : Some t ≡ Some s = sym there ∙ (ap (slice_get ss) e ∙ at) in let f' : t ≡ s = cc in
      let P : Step → Type 0 = λ x. IsSome (known_at known' x.to) in subst P (sym f') (now-known known known' s.to w updated)
  | inr ne ↦ still-known known known' s.to w updated t.to (h j t (omega (arith, l, ne)) there c)
]

pub registers-all : (known : Known) (ss : List Step) (end : ℕ) → length ss ≤ end → RegistersBelow known ss end → KnowsRegisters known ss
registers-all known ss end past h i s at c = h i s (let l = got_within ss i s at in omega (arith, l, past)) at c

-- the nets of an order, one by one
pub before-none : (known : Known) (ss : List Step) (order : List ℕ) → KnowsRegisters known ss → KnowsBefore known ss order 0
before-none known ss order h = record { registers = h; assigned = λ p i s l here at c. absurd (omega (arith, l)) }

pub before-skip : (known : Known) (ss : List Step) (order : List ℕ) (p i : ℕ) (s : Step) → slice_get order p ≡ Some i → slice_get ss i ≡ Some s → s.clocked ≡ true → KnowsBefore known ss order p → KnowsBefore known ss order (p + 1)
before-skip known ss order p i s here at kept h = record {
  registers = h.registers;
  assigned = λ q j t l there at' c. elim (cases_eq q p) [
    | inl e ↦ absurd (
        let f : Some j ≡ Some i = sym there ∙ (ap (slice_get order) e ∙ here) in let f' : j ≡ i = cc in
        let g : Some t ≡ Some s = sym at' ∙ (ap (slice_get ss) f' ∙ at) in let g' : t ≡ s = cc in
        let z : true ≡ false = sym kept ∙ (ap (λ x. x.clocked) (sym g') ∙ c) in cc
        )
    | inr ne ↦ h.assigned q j t (omega (arith, l, ne)) there at' c
  ];
}

pub before-more : (known known' : Known) (ss : List Step) (order : List ℕ) (p i : ℕ) (s : Step) (w : Wire) → slice_get order p ≡ Some i → slice_get ss i ≡ Some s
    → ((name : List ℕ) → known_at known' name ≡ (if bytes_eq s.to name then Some w else known_at known name)) → KnowsBefore known ss order p → KnowsBefore known' ss order (p + 1)
before-more known known' ss order p i s w here at updated h = record {
  registers = λ j t there c. still-known known known' s.to w updated t.to (h.registers j t there c);
  assigned = λ q j t l there at' c. elim (cases_eq q p) [
    | inl e ↦
        let f : Some j ≡ Some i = sym there ∙ (ap (slice_get order) e ∙ here) in let f' : j ≡ i = cc in
        let g : Some t ≡ Some s = sym at' ∙ (ap (slice_get ss) f' ∙ at) in let g' : t ≡ s = cc in
        let P : Step → Type 0 = λ x. IsSome (known_at known' x.to) in subst P (sym g') (now-known known known' s.to w updated)
    | inr ne ↦ still-known known known' s.to w updated t.to (h.assigned q j t (omega (arith, l, ne)) there at' c)
  ];
}

module _ (m : Module) (a : IsAccepted m) (order : List ℕ) (o : IsSettlingOrder m.steps order) where
  -- the next assignment of the order
  pub ready-next : (known : Known) (p i : ℕ) (s : Step) → AreWidths known (widths m) → KnowsPins known (inputs m) → KnowsBefore known m.steps order p → slice_get order p ≡ Some i → slice_get m.steps i ≡ Some s → s.clocked ≡ false → IsReady known s.expr
  ready-next known p i s wide pins before here at c =
      ready-where m a known i s wide pins at (λ n j t reads there e. go n j t reads there e t.clocked refl)
    where
      go : (n : List ℕ) (j : ℕ) (t : Step) → among (nets_of s.expr) n ≡ true → slice_get m.steps j ≡ Some t → t.to ≡ n → (b : Bool) → t.clocked ≡ b → IsSome (known_at known n)
      go n j t reads there e true k = let P : List ℕ → Type 0 = λ x. IsSome (known_at known x) in subst P e (before.registers j t there k)
      go n j t reads there e false k =
          let (q, l, less, first, assigns) = o.behind p i j s n here at c reads (record { step = t; at = there; acts = k; to = e }) in
          let P : List ℕ → Type 0 = λ x. IsSome (known_at known x) in subst P assigns.to (before.assigned q l assigns.step less first assigns.at assigns.acts)

  pub knows-all : (known : Known) (end : ℕ) → length order ≤ end → KnowsBefore known m.steps order end → KnowsNets known m.steps
  knows-all known end past before i s at = go s.clocked refl
    where
      go : (b : Bool) → s.clocked ≡ b → IsSome (known_at known s.to)
      go true c = before.registers i s at c
      go false c =
          let (p, here) = o.each i (got_within m.steps i s at) in let l = got_within order p i here in
          before.assigned p i s (omega (arith, l, past)) here at c
