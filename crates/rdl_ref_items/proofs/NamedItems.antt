-- The item that a reference means stands among all items, at its number.
use Rattle.std.proofs.Common.{◌≡◌, ◌∙◌, ◌≢◌, ◌⊎◌, inl, inr, ℕ, zero, suc, ◌<◌, ◌≤◌, Bool, true, false, ◌&&◌, cond, List, [], ◌∷◌, length, find, flat_map, get_or, map, bytes_eq, codes, slice_get, Option, None, Some, option_to_list, refl, sym, ap, subst, arith}
use Rattle.std.specs.List.{position_or_len}
use Rattle.std.proofs.lemmas.Bool.{and_parts}
use Rattle.std.proofs.lemmas.List.Folds.{find_at}
use Rattle.rdl_tree.specs.declared.expr.Name.{Name}
use Rattle.rdl_tree.specs.declared.item.Kind.{Kind}
use Rattle.rdl_tree.specs.declared.item.Kind.TheVariants as kind
use Rattle.rdl_tree.specs.declared.item.Source.{Source}
use Rattle.rdl_tree.specs.declared.node.Elab.{Elab}
use Rattle.rdl_props.specs.declared.prop.Prop.{Prop}
use Rattle.rdl_props.specs.declared.prop.Prop.TheVariants as prop
use Rattle.rdl_props.specs.Table.{find_prop}
use Rattle.rdl_values.specs.Elaborated.{nodes_of, top_name}
use Rattle.rdl_values.specs.Instances.{Instance, kind_of}
use Rattle.rdl_values.specs.Lineages.{Lineage, lineages, lineages_of}
use Rattle.rdl_values.specs.Parts.{is_unit}
use Rattle.rdl_layers.specs.Assignments.{same_path}
use Rattle.rdl_layers.specs.Settings.{Meaning, enum_of, flag, hard, intr, named, number, reference, text, unset}
use Rattle.rdl_refs.specs.declared.item.ItemOf.{ItemOf}
use Rattle.rdl_refs.specs.declared.item.What.{What}
use Rattle.rdl_refs.specs.declared.item.What.TheVariants as what
use Rattle.rdl_refs.specs.Answers.{AreItems, AreItemsOf, IsItemOf, IsNumberOf}
use Rattle.rdl_refs.specs.Follows.{is_item, item_number}
use Rattle.rdl_refs.specs.Items.{Item, field_what, item_named, item_of, items, items_of, of_field, reg_what, same_what, target, what_named, whats}
use Rattle.rdl_refs.specs.Leads.{led_to}
use Rattle.rdl_nodes.proofs.Apart.{Apart}
use Rattle.rdl_nodes.proofs.Paths.{nodes_apart}
use Rattle.rdl_nodes.proofs.Members.{In, each-in, flat-in, get-read, get-within, in-flat, in-map, in-place, map-in, place-in}
use Rattle.rdl_nodes.proofs.Order.{once}
use Rattle.rdl_fields.proofs.Lists.{only-one}
use Rattle.rdl_fields.proofs.Steps.{is-same-path, path-refl}
use Rattle.rdl_sizes.proofs.Facts.{lineage-at, node-at}
use Rattle.rdl_ref_items.specs.Named.{IsItemAt, Names}
use Rattle.rdl_ref_items.proofs.Closed.{leads-among}

-- Which items there are.

field-has : (p : Prop) (x : What) → In (field_what p) x → In of_field x
field-has prop.Anded x (inl e) = inr (inl e)
field-has prop.Ored x (inl e) = inr (inr (inl e))
field-has prop.Xored x (inl e) = inr (inr (inr (inl e)))
field-has prop.Incrthreshold x (inl e) = inr (inr (inr (inr (inl e))))
field-has prop.Decrthreshold x (inl e) = inr (inr (inr (inr (inr (inl e)))))
field-has prop.Overflow x (inl e) = inr (inr (inr (inr (inr (inr (inl e))))))
field-has prop.Underflow x (inl e) = inr (inr (inr (inr (inr (inr (inr (inl e)))))))
field-has prop.Swmod x (inl e) = inr (inr (inr (inr (inr (inr (inr (inr (inl e))))))))
field-has prop.Swacc x (inl e) = inr (inr (inr (inr (inr (inr (inr (inr (inr (inl e)))))))))
field-has prop.Anded x (inr h) = absurd h
field-has prop.Ored x (inr h) = absurd h
field-has prop.Xored x (inr h) = absurd h
field-has prop.Incrthreshold x (inr h) = absurd h
field-has prop.Decrthreshold x (inr h) = absurd h
field-has prop.Overflow x (inr h) = absurd h
field-has prop.Underflow x (inr h) = absurd h
field-has prop.Swmod x (inr h) = absurd h
field-has prop.Swacc x (inr h) = absurd h
field-has _ x h = absurd h

reg-cases : (a b : Bool) (x : What) → In (cond a (what.Intr ∷ []) (cond b (what.Halt ∷ []) [])) x → (what.Intr ≡ x) ⊎ (what.Halt ≡ x)
reg-cases true b x (inl e) = inl e
reg-cases true b x (inr h) = absurd h
reg-cases false true x (inl e) = inr e
reg-cases false true x (inr h) = absurd h
reg-cases false false x h = absurd h

reg-is : (n : List ℕ) (x : What) → In (reg_what n) x → (what.Intr ≡ x) ⊎ (what.Halt ≡ x)
reg-is n x h = reg-cases (bytes_eq n (codes "intr")) (bytes_eq n (codes "halt")) x h

reg-has : (x : What) → (what.Intr ≡ x) ⊎ (what.Halt ≡ x) → In (what.Intr ∷ what.Halt ∷ []) x
reg-has x (inl e) = inl e
reg-has x (inr e) = inr (inl e)

field-named : (n : Name) (x : What) → In (flat_map field_what (option_to_list (find_prop n.text.now))) x → In of_field x
field-named n x h = let q = flat-in field_what (option_to_list (find_prop n.text.now)) x h in field-has q.0 x q.2

whats-has : (k : Kind) (o : Option Name) (x : What) → In (what_named k o) x → In (whats k) x
whats-has kind.Signal None x h = h
whats-has kind.Signal (Some n) x h = absurd h
whats-has kind.Field None x (inl e) = inl e
whats-has kind.Field None x (inr h) = absurd h
whats-has kind.Field (Some n) x h = field-named n x h
whats-has kind.Reg None x h = absurd h
whats-has kind.Reg (Some n) x h = reg-has x (reg-is n.text.now x h)
whats-has kind.Addrmap o x h = absurd h
whats-has kind.Regfile o x h = absurd h

no-value : (what.Intr ≡ what.Value) ⊎ (what.Halt ≡ what.Value) → ⊥
no-value (inl e) = cc
no-value (inr e) = cc

value-unit : (k : Kind) (o : Option Name) → In (what_named k o) what.Value → is_unit k ≡ true
value-unit kind.Signal o h = refl
value-unit kind.Field o h = refl
value-unit kind.Reg None h = absurd h
value-unit kind.Reg (Some n) h = absurd (no-value (reg-is n.text.now what.Value h))
value-unit kind.Addrmap o h = absurd h
value-unit kind.Regfile o h = absurd h

pub what-refl : (a : What) → same_what a a ≡ true
what-refl what.Value = refl
what-refl what.Anded = refl
what-refl what.Ored = refl
what-refl what.Xored = refl
what-refl what.IncrThreshold = refl
what-refl what.DecrThreshold = refl
what-refl what.Overflow = refl
what-refl what.Underflow = refl
what-refl what.SwMod = refl
what-refl what.SwAcc = refl
what-refl what.Intr = refl
what-refl what.Halt = refl

pub is-what : (a b : What) → same_what a b ≡ true → a ≡ b
is-what what.Value what.Value e = refl
is-what what.Anded what.Anded e = refl
is-what what.Ored what.Ored e = refl
is-what what.Xored what.Xored e = refl
is-what what.IncrThreshold what.IncrThreshold e = refl
is-what what.DecrThreshold what.DecrThreshold e = refl
is-what what.Overflow what.Overflow e = refl
is-what what.Underflow what.Underflow e = refl
is-what what.SwMod what.SwMod e = refl
is-what what.SwAcc what.SwAcc e = refl
is-what what.Intr what.Intr e = refl
is-what what.Halt what.Halt e = refl
is-what _ _ e = cc

-- What a reference means.

abbrev pub lineage_of : Item → Lineage
lineage_of i = record { node = i.node; ancestors = i.ancestors }

pub record IsMeant (w : Option (List ℕ)) (s : Source) (i : Item) : Type 0 where
  pub among : In (items (lineages w s)) i
  pub stands : In (lineages w s) (lineage_of i)
  pub value : i.what ≡ what.Value → is_unit (kind_of i.node) ≡ true

-- what a setting names is one of all items
pub meant : (w : Option (List ℕ)) (s : Source) (m : Meaning) (i : Item) → In (target (lineages w s) m) i → IsMeant w s i
unfolding items
meant w s (reference p item scope place) i h =
    let q = flat-in (item_named item) (led_to (lineages w s) p scope) i h in
    let l = q.0 in
    let here : In (lineages w s) l = leads-among w s p scope l q.1 in
    let r = map-in (item_of l) (what_named (kind_of l.node) item) i q.2 in
    record {
      among = in-flat items_of (lineages w s) l i here (subst (In (items_of l)) r.2 (in-map (item_of l) (whats (kind_of l.node)) r.0 (whats-has (kind_of l.node) item r.0 r.1)));
      stands = subst (λ (j : Item). In (lineages w s) (lineage_of j)) r.2 here;
      value = λ v. let is : r.0 ≡ what.Value = ap (λ (j : Item). j.what) r.2 ∙ v in subst (λ (j : Item). is_unit (kind_of j.node) ≡ true) r.2 (value-unit (kind_of l.node) item (subst (In (what_named (kind_of l.node) item)) is r.1));
    }
meant w s unset i h = absurd h
meant w s (flag b) i h = absurd h
meant w s (number n) i h = absurd h
meant w s (text t) i h = absurd h
meant w s (named k) i h = absurd h
meant w s (intr e) i h = absurd h
meant w s (hard b) i h = absurd h
meant w s (enum_of n scope) i h = absurd h

-- Numbers.

finds : {X : Type 0} (p : X → Bool) (xs : List X) (x : X) → In xs x → p x ≡ true → (y : X) × (find p xs ≡ Some y) × (p y ≡ true) × In xs y
finds p [] x h t = absurd h
finds p (z ∷ zs) x h t = go (p z) refl h (λ i. finds p zs x i t)
  where
    go : (b : Bool) → p z ≡ b → In (z ∷ zs) x → (In zs x → (y : _) × (find p zs ≡ Some y) × (p y ≡ true) × In zs y) → (y : _) × (find p (z ∷ zs) ≡ Some y) × (p y ≡ true) × In (z ∷ zs) y
    go true e i more = (z, ap (λ b. cond b (Some z) (find p zs)) e, e, inl refl)
    go false e (inl q) more = absurd (let s : true ≡ false = sym t ∙ (ap p (sym q) ∙ e) in cc s)
    go false e (inr i) more = let m = more i in (m.0, ap (λ b. cond b (Some z) (find p zs)) e ∙ m.1, m.2, inr m.3)

item-at : (all : List Instance) (xs : List ItemOf) (is : List Item) → AreItemsOf all xs is → (k : ℕ) (i : Item) → slice_get is k ≡ Some i → (x : ItemOf) × (slice_get xs k ≡ Some x) × IsItemOf all x i
item-at all [] [] h k i e = cc e
item-at all [] (j ∷ js) h k i e = absurd h
item-at all (x ∷ xs) [] h k i e = absurd h
item-at all (x ∷ xs) (j ∷ js) h zero i e = let s : j ≡ i = cc e in (x, refl, subst (IsItemOf all x) s h.0)
item-at all (x ∷ xs) (j ∷ js) h (suc k) i e = item-at all xs js h.1 k i e

apart-index : {X Y : Type 0} (f : X → Y) (xs : List X) → Apart (λ a b. f a ≢ f b) xs → (i j : ℕ) (a b : X) → slice_get xs i ≡ Some a → slice_get xs j ≡ Some b → f a ≡ f b → i ≡ j
apart-index f [] h i j a b p q e = cc p
apart-index f (x ∷ xs) h zero zero a b p q e = refl
apart-index f (x ∷ xs) h zero (suc j) a b p q e = let s : x ≡ a = cc p in absurd (each-in (λ y. f x ≢ f y) xs b h.0 (place-in xs j b q) (ap f s ∙ e))
apart-index f (x ∷ xs) h (suc i) zero a b p q e = let s : x ≡ b = cc q in absurd (each-in (λ y. f x ≢ f y) xs a h.0 (place-in xs i a p) (ap f s ∙ sym e))
apart-index f (x ∷ xs) h (suc i) (suc j) a b p q e = ap suc (apart-index f xs h.1 i j a b p q e)

item-refl : (i : Item) → is_item i i ≡ true
item-refl i = ap (λ b. b && same_what i.what i.what) (path-refl i.node.path) ∙ what-refl i.what

module _ (e : Elab) where
  abbrev w : Option (List ℕ)
  w = Some (top_name e)

  abbrev s : Source
  s = e.source.now

  same-lineage : (l m : Lineage) → In (lineages_of e) l → In (lineages_of e) m → l.node ≡ m.node → l ≡ m
  same-lineage l m h g q =
      let a = in-place (lineages_of e) l h in
      let b = in-place (lineages_of e) m g in
      let index = apart-index (λ (n : Instance). n.path) (nodes_of e) (nodes_apart w s) a.0 b.0 l.node m.node (node-at e a.0 l a.2) (node-at e b.0 m b.2) (ap (λ (n : Instance). n.path) q) in
      let one : Some l ≡ Some m = sym a.2 ∙ (ap (slice_get (lineages_of e)) index ∙ b.2) in cc one

  -- the item of the number
  pub numbered-item : (m : Meaning) (xs : List ItemOf) → AreItems e xs → (i : Item) → In (target (lineages_of e) m) i → (x : ItemOf) × (slice_get xs (item_number (lineages_of e) i) ≡ Some x) × IsItemAt e i x
  numbered-item m xs are i h =
      let is = meant w s m i h in
      let f = finds (is_item i) (items (lineages_of e)) i is.among (item-refl i) in
      let j = f.0 in
      let at : slice_get (items (lineages_of e)) (item_number (lineages_of e) i) ≡ Some j = sym (find_at (is_item i) (items (lineages_of e))) ∙ f.1 in
      let it = item-at (nodes_of e) xs (items (lineages_of e)) are (item_number (lineages_of e) i) j at in
      let parts = and_parts (same_path i.node.path j.node.path) (same_what i.what j.what) f.2 in
      let stands = in-place (lineages_of e) (lineage_of i) is.stands in
      let node_in : In (nodes_of e) i.node = place-in (nodes_of e) stands.0 i.node (node-at e stands.0 (lineage_of i) stands.2) in
      let other_in : In (nodes_of e) j.node = place-in (nodes_of e) it.0.node j.node it.2.0 in
      let same : i.node ≡ j.node = only-one (λ (n : Instance). n.path) (nodes_of e) (nodes_apart w s) i.node j.node node_in other_in (is-same-path i.node.path j.node.path parts.0) in
      let l = lineage-at e it.0.node j.node it.2.0 in
      let lin : l.0 ≡ lineage_of i = same-lineage l.0 (lineage_of i) (place-in (lineages_of e) it.0.node l.0 l.1) is.stands (l.2 ∙ sym same) in
      (it.0, it.1, record { here = l.1 ∙ ap Some lin; what_ = it.2.1 ∙ sym (is-what i.what j.what parts.1); value = is.value })

  pub named-by : (m : Meaning) (xs : List ItemOf) → AreItems e xs → length (target (lineages_of e) m) ≤ 1 → (k : ℕ) → IsNumberOf (lineages_of e) (target (lineages_of e) m) (Some k) → (d : ItemOf) → (k < length xs) × Names e (target (lineages_of e) m) (Some (get_or xs k d))
  named-by m xs are few k is d = go (target (lineages_of e) m) refl
    where
      go : (t : List Item) → target (lineages_of e) m ≡ t → (k < length xs) × Names e (target (lineages_of e) m) (Some (get_or xs k d))
      go [] q = absurd (let p : Some k ≡ None = subst (λ t. IsNumberOf (lineages_of e) t (Some k)) q is in cc p)
      go (i ∷ []) q =
          let p : Some k ≡ Some (item_number (lineages_of e) i) = subst (λ t. IsNumberOf (lineages_of e) t (Some k)) q is in
          let same : k ≡ item_number (lineages_of e) i = cc p in
          let f = numbered-item m xs are i (subst (λ t. In t i) (sym q) (inl refl)) in
          let at : slice_get xs k ≡ Some f.0 = ap (slice_get xs) same ∙ f.1 in
          (get-within xs k f.0 at, subst (λ t. Names e t (Some (get_or xs k d))) (sym q) (refl, subst (IsItemAt e i) (sym (get-read xs k d f.0 at)) f.2))
      go (i ∷ j ∷ more) q = absurd (let l = ap length q in omega (arith, few, l))
