-- What references lead to has what they mean.
use Rattle.std.proofs.Common.{◌≡◌, ◌∙◌, ◌⊎◌, inl, inr, ℕ, Bool, true, false, not, ◌&&◌, ◌||◌, cond, bytes_eq, codes, List, [], ◌∷◌, map, flat_map, filter, take, Option, None, Some, option_to_list, Contains, refl, sym, ap, subst}
use Rattle.std.specs.List.{AllByRecursion, list_any}
use Rattle.plain_lemmas.proofs.Lists.{each-filter, each-flat_map, each-imp}
use Rattle.plain_lemmas.proofs.Bools.{or-neither as or-none, or-true_right as or-more, true-of_not as not-false}
use Rattle.rb_base.specs.declared.place.Place.{Place}
use Rattle.rdl_tree.specs.Kinds.{same_kind}
use Rattle.rdl_props.specs.Table.{find_prop}
use Rattle.rdl_props.specs.declared.prop.Prop.{Prop}
use Rattle.rdl_props.specs.declared.prop.Prop.TheVariants as prop
use Rattle.rdl_tree.specs.declared.expr.Name.{Name}
use Rattle.rdl_tree.specs.declared.expr.Path.{Path}
use Rattle.rdl_tree.specs.declared.expr.Step as tree
use Rattle.rdl_tree.specs.declared.item.Kind.{Kind}
use Rattle.rdl_tree.specs.declared.item.Kind.TheVariants as kind
use Rattle.rdl_tree.specs.declared.item.Source.{Source}
use Rattle.rdl_values.specs.Bodies as bodies
use Rattle.rdl_values.specs.Bodies.{Layer, Scope, around}
use Rattle.rdl_values.specs.Instances.{Instance, children, kind_of, nodes, signals, top_of}
use Rattle.rdl_values.specs.Lineages.{Lineage, child_of, children_in, lineages}
use Rattle.rdl_values.specs.NoNode.{holds, is_signal, may_hold}
use Rattle.rdl_values.specs.Views.{steps_of}
use Rattle.rdl_values.proofs.Given.{IsChildOf, IsAtRoot, children-given, held, signals-given}
use Rattle.rdl_nodes.proofs.Lineages.{all_nodes}
use Rattle.rdl_nodes.proofs.Members.{In, each-in, flat-in, in-flat, in-map, in-to, map-in, place-in, in-place}
use Rattle.rdl_nodes.proofs.Order.{behind}
use Rattle.rdl_layers.specs.Assignments.{is_step_exactly, led_down, same_path}
use Rattle.rdl_layers.specs.Fields.{fields_of, has_one_of, is_a, is_alias, is_counter, is_interrupt}
use Rattle.rdl_layers.specs.Forms.{reference}
use Rattle.rdl_bits.proofs.Descending.{at-top, listed-down, top-placed}
use Rattle.rdl_addr.specs.Layout.{has_address}
use Rattle.rdl_refs.specs.Follows.{is_in_alias, is_missing}
use Rattle.rdl_refs.specs.Items.{Item, field_what, item_named, item_of, target, what_named}
use Rattle.rdl_refs.specs.Leads.{is_at_root, led_in, led_to, members_of, nearest_with}
use Rattle.rdl_refs.specs.declared.item.What.{What}
use Rattle.rdl_refs.specs.declared.item.What.TheVariants as what
use Rattle.rdl_rules.specs.Block.{halts}
use Rattle.rdl_rules.specs.Numbers.{all_fields, all_signals, primaries, registers}
use Rattle.rdl_sound_laws.specs.Standing.{FieldHas, HasItem, NodeHas}

-- A reference leads to nodes of the source.

module _ (all : List Lineage) (down : (l : Lineage) → In all l → (c : Instance) → In (children l.node) c → In all (child_of l c)) where
  inside : (l : Lineage) → In all l → AllByRecursion (In all) (children_in l)
  inside l i = go (children l.node) (λ c k. down l i c k)
    where
      go : (cs : List Instance) → ((c : Instance) → In cs c → In all (child_of l c)) → AllByRecursion (In all) (map (child_of l) cs)
      go [] f = tt
      go (c ∷ cs) f = (f c (inl refl), go cs (λ d k. f d (inr k)))

  itself : (xs : List Lineage) → ((l : Lineage) → In xs l → In all l) → AllByRecursion (In all) xs
  itself [] f = tt
  itself (x ∷ xs) f = (f x (inl refl), itself xs (λ l k. f l (inr k)))

  members-in : (o : Option bodies.Path) → AllByRecursion (In all) (members_of all o)
  members-in None = each-filter (In all) (λ n. is_at_root n.node.path) all (itself all (λ l k. k))
  members-in (Some p) = each-flat_map (In all) children_in (filter (λ n. same_path n.node.path p) all) (each-imp (In all) (λ l. AllByRecursion (In all) (children_in l)) (filter (λ n. same_path n.node.path p) all) inside (each-filter (In all) (λ n. same_path n.node.path p) all (itself all (λ l k. k))))

  down-in : (test : tree.Step → Lineage → Bool) (ls : List Lineage) (ts : List tree.Step) → AllByRecursion (In all) ls → AllByRecursion (In all) (led_down children_in test ls ts)
  down-in test ls [] h = tt
  down-in test ls (t ∷ []) h = each-filter (In all) (test t) ls h
  down-in test ls (t ∷ u ∷ ts) h = down-in test (flat_map children_in (filter (test t) ls)) (u ∷ ts) (each-flat_map (In all) children_in (filter (test t) ls) (each-imp (In all) (λ l. AllByRecursion (In all) (children_in l)) (filter (test t) ls) inside (each-filter (In all) (test t) ls h)))

  led-in-all : (p : Path) (scope : Scope) → AllByRecursion (In all) (led_to all p scope)
  unfolding led_to
  led-in-all p scope = go (nearest_with all (steps_of p) scope)
    where
      go : (o : Option Layer) → AllByRecursion (In all) (led_in all (steps_of p) scope o)
      go None = tt
      go (Some l) = down-in (λ t n. is_step_exactly (around scope) t n.node) (members_of all l.node) (steps_of p) (members-in l.node)

-- Kinds.

is-kind : (k : Kind) (n : Instance) → kind_of n ≡ k → is_a k n ≡ true
is-kind kind.Addrmap n e = ap (same_kind kind.Addrmap) e
is-kind kind.Regfile n e = ap (same_kind kind.Regfile) e
is-kind kind.Reg n e = ap (same_kind kind.Reg) e
is-kind kind.Field n e = ap (same_kind kind.Field) e
is-kind kind.Signal n e = ap (same_kind kind.Signal) e

pub in-back : {X : Type 0} (p : X → Bool) (xs : List X) (x : X) → In xs x → p x ≡ true → In (filter p xs) x
in-back p [] x h e = absurd h
in-back p (y ∷ ys) x h e = go (p y) refl h (λ k. in-back p ys x k e)
  where
    go : (b : Bool) → p y ≡ b → (y ≡ x) ⊎ In ys x → (In ys x → In (filter p ys) x) → In (cond b (y ∷ filter p ys) (filter p ys)) x
    go true q (inl s) rest = inl s
    go true q (inr k) rest = inr (rest k)
    go false q (inl s) rest = let yes : p y ≡ true = ap p s ∙ e in let bad : true ≡ false = sym yes ∙ q in cc
    go false q (inr k) rest = rest k

holds-field : (k : Kind) → holds k kind.Field ≡ true → k ≡ kind.Reg
holds-field kind.Addrmap e = cc
holds-field kind.Regfile e = cc
holds-field kind.Reg e = refl
holds-field kind.Field e = cc
holds-field kind.Signal e = cc

-- no property of a field is named as an item of a register is
abbrev is-of-register : What → Bool
is-of-register what.Intr = true
is-of-register what.Halt = true
is-of-register _ = false

of-fields : (p : Prop) → AllByRecursion (λ w. is-of-register w ≡ false) (field_what p)
of-fields prop.Anded = (refl, tt)
of-fields prop.Ored = (refl, tt)
of-fields prop.Xored = (refl, tt)
of-fields prop.Incrthreshold = (refl, tt)
of-fields prop.Decrthreshold = (refl, tt)
of-fields prop.Overflow = (refl, tt)
of-fields prop.Underflow = (refl, tt)
of-fields prop.Swmod = (refl, tt)
of-fields prop.Swacc = (refl, tt)
of-fields _ = tt

of-no-register : {X : Type 0} (p : Prop) (w : What) → is-of-register w ≡ true → In (field_what p) w → X
of-no-register p w r h = let no = each-in (λ v. is-of-register v ≡ false) (field_what p) w (of-fields p) h in let bad : true ≡ false = sym r ∙ no in cc

both : {a b : Bool} → a ≡ false → b ≡ true → (not a && b) ≡ true
both {a} {b} x y = rw x rw y refl

no-signal : is_signal kind.Field ≡ true → ⊥
no-signal e = cc

first : (a b c : Bool) → a ≡ true → b ≡ true → ((a && b) || c) ≡ true
first true true c x y = refl
first true false c x y = cc
first false b c x y = cc

-- Nodes of a source that have what is asked.

module _ (wanted : Option (List ℕ)) (s : Source) (halting : (f : Instance) → Contains (all_fields (nodes wanted s)) f → has_one_of (prop.Haltenable ∷ prop.Haltmask ∷ []) f ≡ true → is_interrupt f ≡ true) where
  pub in-nodes : (l : Lineage) → In (lineages wanted s) l → In (nodes wanted s) l.node
  in-nodes l i = subst (λ ns. In ns l.node) (all_nodes wanted s) (in-map (λ x. x.node) (lineages wanted s) l i)

  -- a field stands in a register
  pub register-of : (l : Lineage) → In (lineages wanted s) l → kind_of l.node ≡ kind.Field → (r : Instance) × (up : List Instance) × (l.ancestors ≡ r ∷ up) × In (nodes wanted s) r × In (children r) l.node × (kind_of r ≡ kind.Reg)
  register-of l i e = go l.ancestors refl
    where
      top-no : In (top_of wanted s) l.node → ⊥
      top-no t = let placed = top-placed wanted s l.node t in let none : has_address l.node ≡ false = no-field (kind_of l.node) refl e in let bad : true ≡ false = sym placed ∙ none in cc
        where
          no-field : (k : Kind) → kind_of l.node ≡ k → k ≡ kind.Field → has_address l.node ≡ false
          no-field kind.Field q x = rw q refl
          no-field kind.Addrmap q x = cc
          no-field kind.Regfile q x = cc
          no-field kind.Reg q x = cc
          no-field kind.Signal q x = cc

      signal-no : In (signals s) l.node → ⊥
      signal-no t =
          let h = each-in IsAtRoot (signals s) l.node (signals-given s) t in
          let yes : is_signal (kind_of l.node) ≡ true = subst (λ p. may_hold p (kind_of l.node) ≡ true) h.in_body (held h.by l.node h.given_) in
          let no' : is_signal kind.Field ≡ true = subst (λ k. is_signal k ≡ true) e yes in
          absurd (no-signal no')

      go : (as' : List Instance) → l.ancestors ≡ as' → (r : Instance) × (up : List Instance) × (l.ancestors ≡ r ∷ up) × In (nodes wanted s) r × In (children r) l.node × (kind_of r ≡ kind.Reg)
      go [] q = elim (at-top wanted s l i q) [
        | inl t ↦ absurd (signal-no t)
        | inr t ↦ absurd (top-no t)
      ]
      go (r ∷ up) q =
          let place = in-place (lineages wanted s) l i in
          let b = behind wanted s place.0 l r up place.2 q in
          let here : In (lineages wanted s) (record { node = r; ancestors = up }) = place-in (lineages wanted s) b.0 (record { node = r; ancestors = up }) b.2 in
          let child = each-in (IsChildOf r) (children r) l.node (children-given r) b.3 in
          let may : holds (kind_of r) (kind_of l.node) ≡ true = subst (λ p. may_hold p (kind_of l.node) ≡ true) child.in_body (held child.by l.node child.given_) in
          (r, up, q, in-nodes (record { node = r; ancestors = up }) here, b.3, holds-field (kind_of r) (subst (λ k. holds (kind_of r) k ≡ true) e may))

  pub field-listed : (l : Lineage) → In (lineages wanted s) l → kind_of l.node ≡ kind.Field → (is_alias l.node || (is_a kind.Field l.node && list_any is_alias (take 1 l.ancestors))) ≡ false → In (all_fields (nodes wanted s)) l.node
  field-listed l i e own =
      let r = register-of l i e in
      let parts = or-none (is_alias l.node) (is_a kind.Field l.node && list_any is_alias (take 1 l.ancestors)) own in
      let plain : (is_alias r.0 || false) ≡ false = sym (ap (λ as'. list_any is_alias (take 1 as')) r.2) ∙ in-and (is_a kind.Field l.node) (list_any is_alias (take 1 l.ancestors)) (is-kind kind.Field l.node e) parts.1 in
      let reg : In (registers (nodes wanted s)) r.0 = in-back (is_a kind.Reg) (nodes wanted s) r.0 r.3 (is-kind kind.Reg r.0 r.5) in
      let primary : In (primaries (nodes wanted s)) r.0 = in-back (λ x. not (is_alias x)) (registers (nodes wanted s)) r.0 reg (ap not (or-none (is_alias r.0) false plain).0) in
      in-flat fields_of (primaries (nodes wanted s)) r.0 l.node primary (in-back (is_a kind.Field) (children r.0) l.node r.4 (is-kind kind.Field l.node e))
    where
      in-and : (a b : Bool) → a ≡ true → (a && b) ≡ false → b ≡ false
      in-and true b x y = y
      in-and false b x y = cc

  pub own-register : (l : Lineage) → In (lineages wanted s) l → kind_of l.node ≡ kind.Reg → In (registers (nodes wanted s)) l.node
  own-register l i e = in-back (is_a kind.Reg) (nodes wanted s) l.node (in-nodes l i) (is-kind kind.Reg l.node e)

  field-own : (l : Lineage) → In (lineages wanted s) l → kind_of l.node ≡ kind.Reg → is_alias l.node ≡ false → (f : Instance) → In (fields_of l.node) f → Contains (all_fields (nodes wanted s)) f
  field-own l i e own f h =
      let primary : In (primaries (nodes wanted s)) l.node = in-back (λ x. not (is_alias x)) (registers (nodes wanted s)) l.node (own-register l i e) (ap not own) in
      in-to (all_fields (nodes wanted s)) f (in-flat fields_of (primaries (nodes wanted s)) l.node f primary h)

  -- where one of the fields is enabled or masked for halt, it halts
  halting-too : (l : Lineage) → In (lineages wanted s) l → kind_of l.node ≡ kind.Reg → is_alias l.node ≡ false → list_any (has_one_of (prop.Haltenable ∷ prop.Haltmask ∷ [])) (fields_of l.node) ≡ true → list_any halts (fields_of l.node) ≡ true
  halting-too l i e own = go (fields_of l.node) (field-own l i e own)
    where
      go : (fs : List Instance) → ((f : Instance) → In fs f → Contains (all_fields (nodes wanted s)) f) → list_any (has_one_of (prop.Haltenable ∷ prop.Haltmask ∷ [])) fs ≡ true → list_any halts fs ≡ true
      go [] h e = e
      go (f ∷ fs) h e = by (has_one_of (prop.Haltenable ∷ prop.Haltmask ∷ []) f) refl e (go fs (λ g k. h g (inr k)))
        where
          by : (b : Bool) → has_one_of (prop.Haltenable ∷ prop.Haltmask ∷ []) f ≡ b → (b || list_any (has_one_of (prop.Haltenable ∷ prop.Haltmask ∷ [])) fs) ≡ true → (list_any (has_one_of (prop.Haltenable ∷ prop.Haltmask ∷ [])) fs ≡ true → list_any halts fs ≡ true) → ((is_interrupt f && has_one_of (prop.Haltenable ∷ prop.Haltmask ∷ []) f) || list_any halts fs) ≡ true
          by true q x rest = first (is_interrupt f) (has_one_of (prop.Haltenable ∷ prop.Haltmask ∷ []) f) (list_any halts fs) (halting f (h f (inl refl)) q) q
          by false q x rest = or-more (is_interrupt f && has_one_of (prop.Haltenable ∷ prop.Haltmask ∷ []) f) (list_any halts fs) (rest x)

  -- what a field has
  field-has : (n : Instance) (up : List Instance) (p : Prop) (w : What) → In (field_what p) w → is_missing (record { node = n; ancestors = up; what = w }) ≡ false → FieldHas n w
  field-has n up p what.Value h m = tt
  field-has n up p what.Anded h m = tt
  field-has n up p what.Ored h m = tt
  field-has n up p what.Xored h m = tt
  field-has n up p what.IncrThreshold h m = not-false (is_counter n) m
  field-has n up p what.DecrThreshold h m = not-false (is_counter n) m
  field-has n up p what.Overflow h m = not-false (is_counter n) m
  field-has n up p what.Underflow h m = not-false (is_counter n) m
  field-has n up p what.SwMod h m = tt
  field-has n up p what.SwAcc h m = tt
  field-has n up p what.Intr h m = of-no-register p what.Intr refl h
  field-has n up p what.Halt h m = of-no-register p what.Halt refl h

  what-of-field : (n : Instance) (up : List Instance) (ps : List Prop) (w : What) → In (flat_map field_what ps) w → is_missing (record { node = n; ancestors = up; what = w }) ≡ false → FieldHas n w
  what-of-field n up ps w h m = let q = flat-in field_what ps w h in field-has n up q.0 w q.2 m

  -- what a register has
  reg-has : (l : Lineage) → In (lineages wanted s) l → kind_of l.node ≡ kind.Reg → (b c : Bool) (w : What) → In (cond b (what.Intr ∷ []) (cond c (what.Halt ∷ []) [])) w → is_missing (item_of l w) ≡ false → is_alias l.node ≡ false → NodeHas (nodes wanted s) l.node kind.Reg w
  reg-has l i e true c w (inl q) m own = subst (NodeHas (nodes wanted s) l.node kind.Reg) q (in-to (registers (nodes wanted s)) l.node (own-register l i e), both own (not-false (list_any is_interrupt (fields_of l.node)) (subst (λ x. is_missing (item_of l x) ≡ false) (sym q) m)))
  reg-has l i e true c w (inr q) m own = absurd q
  reg-has l i e false true w (inl q) m own = subst (NodeHas (nodes wanted s) l.node kind.Reg) q (in-to (registers (nodes wanted s)) l.node (own-register l i e), both own (halting-too l i e own (not-false (list_any (has_one_of (prop.Haltenable ∷ prop.Haltmask ∷ [])) (fields_of l.node)) (subst (λ x. is_missing (item_of l x) ≡ false) (sym q) m))))
  reg-has l i e false true w (inr q) m own = absurd q
  reg-has l i e false false w q m own = absurd q

  named-has : (l : Lineage) → In (lineages wanted s) l → (item : Option Name) (w : What) (k : Kind) → kind_of l.node ≡ k → In (what_named k item) w → is_missing (item_of l w) ≡ false → is_in_alias (item_of l w) ≡ false → NodeHas (nodes wanted s) l.node k w
  named-has l i None w kind.Signal e (inl q) m own = subst (NodeHas (nodes wanted s) l.node kind.Signal) q (in-to (all_signals (nodes wanted s)) l.node (in-back (is_a kind.Signal) (nodes wanted s) l.node (in-nodes l i) (is-kind kind.Signal l.node e)))
  named-has l i None w kind.Signal e (inr q) m own = absurd q
  named-has l i (Some n) w kind.Signal e q m own = absurd q
  named-has l i None w kind.Field e (inl q) m own = (in-to (all_fields (nodes wanted s)) l.node (field-listed l i e own), subst (FieldHas l.node) q tt)
  named-has l i None w kind.Field e (inr q) m own = absurd q
  named-has l i (Some n) w kind.Field e q m own = (in-to (all_fields (nodes wanted s)) l.node (field-listed l i e own), what-of-field l.node l.ancestors (option_to_list (find_prop n.text.now)) w q m)
  named-has l i None w kind.Reg e q m own = absurd q
  named-has l i (Some n) w kind.Reg e q m own = reg-has l i e (bytes_eq n.text.now (codes "intr")) (bytes_eq n.text.now (codes "halt")) w q m (or-none (is_alias l.node) (is_a kind.Field l.node && list_any is_alias (take 1 l.ancestors)) own).0
  named-has l i item w kind.Addrmap e q m own = absurd q
  named-has l i item w kind.Regfile e q m own = absurd q

  -- the nodes that a reference leads to are nodes with their ancestors
  led : (p : Path) (scope : Scope) → AllByRecursion (In (lineages wanted s)) (led_to (lineages wanted s) p scope)
  led p scope = led-in-all (lineages wanted s) (λ l h c k. down l h c k) p scope
    where
      down : (l : Lineage) → In (lineages wanted s) l → (c : Instance) → In (children l.node) c → In (lineages wanted s) (child_of l c)
      down l h c k = listed-down wanted s l h c k

  pub has-item : (p : Path) (item : Option Name) (scope : Scope) (place : Place) (i : Item) → In (target (lineages wanted s) (reference p item scope place)) i → is_missing i ≡ false → is_in_alias i ≡ false → HasItem (nodes wanted s) i
  has-item p item scope place i h m own =
      let q = flat-in (item_named item) (led_to (lineages wanted s) p scope) i h in
      let l = q.0 in
      let w = map-in (item_of l) (what_named (kind_of l.node) item) i q.2 in
      let here = each-in (In (lineages wanted s)) (led_to (lineages wanted s) p scope) l (led p scope) q.1 in
      subst (HasItem (nodes wanted s)) w.2 (named-has l here item w.0 (kind_of l.node) refl w.1 (subst (λ x. is_missing x ≡ false) (sym w.2) m) (subst (λ x. is_in_alias x ≡ false) (sym w.2) own))
