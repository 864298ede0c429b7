-- The registers of a tree where no rule on settings or addresses fails.
use Rattle.std.proofs.Common.{◌≡◌, ◌∙◌, ◌⊎◌, inl, inr, ℕ, zero, suc, ◌+◌, ◌/◌, ◌≤◌, ◌^◌, ◌==◌, ◌||◌, Bool, true, false, not, cond, List, [], ◌∷◌, ◌++◌, map, filter, flat_map, nat_lt, Option, Some, refl, sym, ap, subst, arith}
use Rattle.std.specs.List.{list_any}
use Rattle.std.proofs.lemmas.Bool.Decides.{nat_tests}
use denote.Enum.Bare.{same_true}
use Rattle.plain_lemmas.proofs.Numbers.{nat_lt-word_false as not-above}
use Rattle.rdl_base.specs.declared.fault.Fault.{Fault}
use Rattle.rdl_base.specs.declared.rule.Rule.TheVariants as rules
use Rattle.rdl_tree.specs.contracts.item.Kind as of_kind
use Rattle.rdl_tree.specs.declared.item.Kind.TheVariants as kind
use Rattle.rdl_tree.specs.declared.item.Source.{Source}
use Rattle.rdl_tree.specs.declared.node.Elab.{Elab}
use Rattle.rdl_props.specs.declared.prop.Prop.TheVariants as prop
use Rattle.rdl_values.specs.Bodies.{standing}
use Rattle.rdl_values.specs.Elaborated.{nodes_of, top_name}
use Rattle.rdl_values.specs.Faults.{at_, when}
use Rattle.rdl_values.specs.Instances.{Instance, kind_of, nodes, top_of, most_names}
use Rattle.rdl_values.proofs.Sorted.{none_fails}
use Rattle.rdl_layers.specs.Answers.{IsSettled}
use Rattle.rdl_layers.specs.Fields.{is_a}
use Rattle.rdl_layers.specs.Phase4.{bad_accesswidth, bad_regwidth, number_at, of_node}
use Rattle.rdl_nodes.proofs.Members.{In, flat-in, in-map}
use Rattle.rdl_sizes.proofs.Settled.{settled-node}
use Rattle.rdl_addr.specs.Answers.{IsPlaced}
use Rattle.rdl_addr.specs.Bits.{bits_of}
use Rattle.rdl_addr.specs.Layout.{Mode, Placed, groups, has_address, layout, mode_in, offsets, placed_from}
use Rattle.rdl_addr.specs.Rules.{all_groups, failures_ab, misaligned, no_alignment, of_bits, overlaps, registers, small_stride, too_large, too_many}
use Rattle.rdl_addr.proofs.Covers.{address_by_kind, covers}
use Rattle.rdl_fields.proofs.Lists.{filter-in, filter-true}

-- Lists of failures that are empty.

pub nil-left : {X : Type 0} (xs ys : List X) → xs ++ ys ≡ [] → xs ≡ []
nil-left [] ys e = refl
nil-left (x ∷ xs) ys e = cc e

pub nil-right : {X : Type 0} (xs ys : List X) → xs ++ ys ≡ [] → ys ≡ []
nil-right [] ys e = e
nil-right (x ∷ xs) ys e = cc e

pub nil-in : {X Y : Type 0} (f : X → List Y) (xs : List X) (x : X) → flat_map f xs ≡ [] → In xs x → f x ≡ []
nil-in f [] x e h = absurd h
nil-in f (y ∷ ys) x e (inl s) = ap f (sym s) ∙ nil-left (f y) (flat_map f ys) e
nil-in f (y ∷ ys) x e (inr h) = nil-in f ys x (nil-right (f y) (flat_map f ys) e) h

pub when-nil : (t : Bool) (f : Fault) → when t f ≡ [] → t ≡ false
when-nil false f e = refl
when-nil true f e = cc e

-- What is known of a register's numbers.

abbrev pub access : Instance → ℕ
access n = number_at n prop.Accesswidth

abbrev pub width : Instance → ℕ
width n = number_at n prop.Regwidth

pub record Widths (n : Instance) : Type 0 where
  pub wide : (access n ≡ 8) ⊎ (access n ≡ 16) ⊎ (access n ≡ 32)
  pub most : width n ≤ 64
  pub fits : access n ≤ width n

some-width : (a w : ℕ) → not (list_any (λ m. m == a) (8 ∷ 16 ∷ 32 ∷ [])) || nat_lt w a ≡ false → (a ≡ 8) ⊎ (a ≡ 16) ⊎ (a ≡ 32)
some-width a w e = first (8 == a) refl e
  where
    third : (b : Bool) → (32 == a) ≡ b → not (b || false) || nat_lt w a ≡ false → (a ≡ 8) ⊎ (a ≡ 16) ⊎ (a ≡ 32)
    third true q h = inr (inr (grind (arith, nat_tests, q)))
    third false q h = cc h

    second : (b : Bool) → (16 == a) ≡ b → not (b || ((32 == a) || false)) || nat_lt w a ≡ false → (a ≡ 8) ⊎ (a ≡ 16) ⊎ (a ≡ 32)
    second true q h = inr (inl (grind (arith, nat_tests, q)))
    second false q h = third (32 == a) refl h

    first : (b : Bool) → (8 == a) ≡ b → not (b || ((16 == a) || ((32 == a) || false))) || nat_lt w a ≡ false → (a ≡ 8) ⊎ (a ≡ 16) ⊎ (a ≡ 32)
    first true q h = inl (grind (arith, nat_tests, q))
    first false q h = second (16 == a) refl h

less-wide : (a w : ℕ) → not (list_any (λ m. m == a) (8 ∷ 16 ∷ 32 ∷ [])) || nat_lt w a ≡ false → a ≤ w
less-wide a w e = grind (arith, nat_tests)

most-wide : (w : ℕ) → not (list_any (λ m. m == w) (8 ∷ 16 ∷ 32 ∷ 64 ∷ [])) ≡ false → w ≤ 64
most-wide w e = grind (arith, nat_tests)

of-reg : (n : Instance) → kind_of n ≡ kind.Reg → of_node n ≡ when (bad_regwidth n) (at_ rules.P9 n.use_.name.place) ++ when (bad_accesswidth n) (at_ rules.P10 n.use_.name.place)
of-reg n e = rw e refl

pub reg-kind : (n : Instance) → is_a kind.Reg n ≡ true → kind_of n ≡ kind.Reg
reg-kind n e = sym (same_true of_kind.the_type tt kind.Reg (kind_of n) e)

pub widths : (e : Elab) → IsSettled e → (n : Instance) → In (nodes_of e) n → is_a kind.Reg n ≡ true → Widths n
widths e settled n i reg =
    let none = sym (of-reg n (reg-kind n reg)) ∙ settled-node e settled n i in
    let first = when (bad_regwidth n) (at_ rules.P9 n.use_.name.place) in
    let second = when (bad_accesswidth n) (at_ rules.P10 n.use_.name.place) in
    let whole = when-nil (bad_regwidth n) (at_ rules.P9 n.use_.name.place) (nil-left first second none) in
    let part = when-nil (bad_accesswidth n) (at_ rules.P10 n.use_.name.place) (nil-right first second none) in
    record {
      wide = some-width (access n) (width n) part;
      most = most-wide (width n) whole;
      fits = less-wide (access n) (width n) part;
    }

-- A register is as large as it is wide.
size-from : (k : ℕ) (mode : Mode) (at : ℕ) (n : Instance) (p : Placed) → In (placed_from k mode at n) p → is_a kind.Reg p.node ≡ true → p.size ≡ width p.node / 8
size-from zero mode at n p h reg = absurd h
size-from (suc k) mode at n p (inl e) reg =
    let own : is_a kind.Reg n ≡ true = ap (λ (x : Placed). is_a kind.Reg x.node) e ∙ reg in
    subst (λ (x : Placed). x.size ≡ width x.node / 8) e (rw own refl)
size-from (suc k) mode at n p (inr h) reg = go (is_a kind.Reg n) h (λ m a c g. size-from k m a c p g reg)
  where
    go : (b : Bool) → In (cond b [] (flat_map (λ c. placed_from k (mode_in mode n) (at + c.1) c.0) (offsets (mode_in mode n) (groups k mode n)))) p
        → ((m : Mode) (a : ℕ) (c : Instance) → In (placed_from k m a c) p → p.size ≡ width p.node / 8) → p.size ≡ width p.node / 8
    go true g deeper = absurd g
    go false g deeper =
        let c = flat-in (λ (x : Instance × ℕ). placed_from k (mode_in mode n) (at + x.1) x.0) (offsets (mode_in mode n) (groups k mode n)) p g in
        deeper (mode_in mode n) (at + c.0.1) c.0.0 c.2

-- The registers of the layout are those among the nodes.

reg-addressed : (n : Instance) → is_a kind.Reg n ≡ true → has_address n ≡ true
reg-addressed n reg = address_by_kind n kind.Reg (reg-kind n reg)

pub map-kept : {X : Type 0} (f : X → Instance) (ys : List X) → map f (filter (λ y. is_a kind.Reg (f y)) ys) ≡ filter (is_a kind.Reg) (map f ys)
map-kept f [] = refl
map-kept f (y ∷ ys) = go (is_a kind.Reg (f y)) (map-kept f ys)
  where
    go : (b : Bool) → map f (filter (λ z. is_a kind.Reg (f z)) ys) ≡ filter (is_a kind.Reg) (map f ys) → map f (cond b (y ∷ filter (λ z. is_a kind.Reg (f z)) ys) (filter (λ z. is_a kind.Reg (f z)) ys)) ≡ cond b (f y ∷ filter (is_a kind.Reg) (map f ys)) (filter (is_a kind.Reg) (map f ys))
    go true q = ap (λ zs. f y ∷ zs) q
    go false q = q

twice : (ns : List Instance) → filter (is_a kind.Reg) (filter has_address ns) ≡ filter (is_a kind.Reg) ns
twice [] = refl
twice (n ∷ ns) = go (has_address n) refl (twice ns)
  where
    none : (b : Bool) → is_a kind.Reg n ≡ b → has_address n ≡ false → filter (is_a kind.Reg) ns ≡ cond b (n ∷ filter (is_a kind.Reg) ns) (filter (is_a kind.Reg) ns)
    none true q f = let two : true ≡ false = sym (reg-addressed n q) ∙ f in cc two
    none false q f = refl

    go : (b : Bool) → has_address n ≡ b → filter (is_a kind.Reg) (filter has_address ns) ≡ filter (is_a kind.Reg) ns → filter (is_a kind.Reg) (cond b (n ∷ filter has_address ns) (filter has_address ns)) ≡ cond (is_a kind.Reg n) (n ∷ filter (is_a kind.Reg) ns) (filter (is_a kind.Reg) ns)
    go true q more = ap (λ ys. cond (is_a kind.Reg n) (n ∷ ys) ys) more
    go false q more = more ∙ none (is_a kind.Reg n) refl q

pub same-registers : (wanted : Option (List ℕ)) (s : Source) → map (λ p. p.node) (registers wanted s) ≡ filter (is_a kind.Reg) (nodes wanted s)
same-registers wanted s = map-kept (λ (p : Placed). p.node) (layout wanted s) ∙ (ap (filter (is_a kind.Reg)) (covers wanted s) ∙ twice (nodes wanted s))

-- Where a register stands.
pub record Stands (p : Placed) : Type 0 where
  pub widths_ : Widths p.node
  pub sized : p.size ≡ width p.node / 8
  pub low : p.address + p.size ≤ 4294967296

pub in-nodes : (e : Elab) (p : Placed) → In (layout (Some (top_name e)) e.source.now) p → In (nodes_of e) p.node
in-nodes e p h =
    let all = layout (Some (top_name e)) e.source.now in
    filter-in has_address (nodes_of e) p.node (subst (λ ns. In ns p.node) (covers (Some (top_name e)) e.source.now) (in-map (λ x. x.node) all p h))

pub layout-size : (wanted : Option (List ℕ)) (s : Source) (p : Placed) → In (layout wanted s) p → is_a kind.Reg p.node ≡ true → p.size ≡ width p.node / 8
unfolding layout
layout-size wanted s p h reg = let t = flat-in (placed_from most_names _ 0) (top_of wanted s) p h in size-from most_names _ 0 t.0 p t.2 reg

module _ (e : Elab) (settled : IsSettled e) (placed : IsPlaced e) where
  abbrev pub all_registers : List Placed
  all_registers = registers (Some (top_name e)) e.source.now

  abbrev strides : List Fault
  strides = flat_map small_stride (all_groups (Some (top_name e)) e.source.now)

  abbrev alignments : List Fault
  alignments = flat_map no_alignment (nodes_of e)

  abbrev odd : List Fault
  odd = flat_map misaligned all_registers

  abbrev far : List Fault
  far = flat_map too_large all_registers

  abbrev many : List Fault
  many = too_many (top_of (Some (top_name e)) e.source.now) all_registers

  abbrev of_fields : List Fault
  of_fields = flat_map (λ r. flat_map (of_bits r) (standing (bits_of r))) (filter (is_a kind.Reg) (nodes_of e))

  nothing : strides ++ alignments ++ odd ++ far ++ overlaps all_registers ++ many ++ of_fields ≡ []
  unfolding failures_ab
  nothing = none_fails (failures_ab (Some (top_name e)) e.source.now) placed

  until-many : strides ++ alignments ++ odd ++ far ++ overlaps all_registers ++ many ≡ []
  until-many = nil-left (strides ++ alignments ++ odd ++ far ++ overlaps all_registers ++ many) of_fields nothing

  until-shared : strides ++ alignments ++ odd ++ far ++ overlaps all_registers ≡ []
  until-shared = nil-left (strides ++ alignments ++ odd ++ far ++ overlaps all_registers) many until-many

  pub none-shared : overlaps (registers (Some (top_name e)) e.source.now) ≡ []
  none-shared = nil-right (strides ++ alignments ++ odd ++ far) (overlaps all_registers) until-shared

  pub none-many : too_many (top_of (Some (top_name e)) e.source.now) (registers (Some (top_name e)) e.source.now) ≡ []
  none-many = nil-right (strides ++ alignments ++ odd ++ far ++ overlaps all_registers) many until-many

  pub none-outside : flat_map (λ r. flat_map (of_bits r) (standing (bits_of r))) (filter (is_a kind.Reg) (nodes_of e)) ≡ []
  none-outside = nil-right (strides ++ alignments ++ odd ++ far ++ overlaps all_registers ++ many) of_fields nothing

  none-far : flat_map too_large (registers (Some (top_name e)) e.source.now) ≡ []
  none-far = nil-right (strides ++ alignments ++ odd) far (nil-left (strides ++ alignments ++ odd ++ far) (overlaps all_registers) until-shared)

  pub stands : (p : Placed) → In (registers (Some (top_name e)) e.source.now) p → Stands p
  stands p h =
      let all = layout (Some (top_name e)) e.source.now in
      let reg = filter-true (λ (x : Placed). is_a kind.Reg x.node) all p h in
      let among = filter-in (λ (x : Placed). is_a kind.Reg x.node) all p h in
      record {
        widths_ = widths e settled p.node (in-nodes e p among) reg;
        sized = layout-size (Some (top_name e)) e.source.now p among reg;
        low = not-above (p.address + p.size) (when-nil (nat_lt (2 ^ 32) (p.address + p.size)) (at_ rules.A4 p.node.use_.name.place) (nil-in too_large all_registers p none-far h));
      }
