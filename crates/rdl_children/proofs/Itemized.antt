-- The uses of a body, item by item.
use Rattle.std.proofs.Common.{◌≡◌, ◌≢◌, ◌∙◌, ℕ, suc, ◌+◌, List, [], ◌∷◌, ◌++◌, drop, length, take, flat_map, slice_get, Some, refl, sym, ap, subst, append_assoc, append-nil, arith}
use Rattle.std.specs.List.{AllByRecursion}
use Rattle.std.proofs.lemmas.Grind.{flat_map-append}
use Rattle.std.proofs.lemmas.List.{take_all}
use Rattle.plain_lemmas.proofs.Lists.{each-left as all_left, each-right as all_right}
use Rattle.rdl_base.specs.declared.fault.Fault.{Fault}
use Rattle.rdl_tree.specs.declared.item.Inst.{Inst}
use Rattle.rdl_values.specs.Bodies as values
use Rattle.rdl_values.specs.Bodies.{Closure, around, scope_at}
use Rattle.rdl_values.specs.Instances.{given_by}
use Rattle.rdl_values.specs.Uses.{Seen, Use, parent_of}
use Rattle.rdl_scopes.specs.Scopes.{IsClosureAt, Shows, items_at}
use Rattle.rdl_scopes.specs.declared.scopes.Found.{Found}
use Rattle.rdl_uses.specs.Given.{TypeUsed, seens}
use Rattle.rdl_uses.specs.Placed.{IsParent}
use Rattle.rdl_uses.specs.declared.holder.Parent.{Parent as PlacedParent}
use Rattle.rdl_children.specs.ItemUses.{GivesAll, GivesUses, IsBodyScene, nearest_items, none, without, with_}
use Rattle.rdl_children.specs.declared.item.ItemUses.{ItemUses}
use Rattle.rdl_children.specs.declared.item.Surroundings.{Surroundings}
use Rattle.rdl_bodies.specs.Kept.{AreBelow, AreKept, Grows}
use Rattle.rdl_bodies.specs.Sited.{HaveNames, IsOpenAs}
use Rattle.rdl_bodies.specs.declared.bodies.Bodies.{Bodies}
use Rattle.rdl_bodies.specs.declared.bodies.Body.{Body}
use Rattle.rdl_bodies.proofs.Growing.{AllSame, at_same, begins_get, def_same, round_same, same_below}
use Rattle.rdl_children.specs.Children.{AreChildren, CanJudge, IsChild}
use Rattle.rdl_children.specs.Children as children
use Rattle.rdl_children.specs.Items.{AreItems, IsItem, IsPlaced, outer_of, uptos_at}
use Rattle.rdl_children.specs.declared.child.Child.{Child}
use Rattle.rdl_children.proofs.Reached.{Reached, SeenReaches, below_drop, found_at, names_drop}

-- Parts of lists.

none-both : (ss rs : List Seen) → flat_map given_by ss ≡ [] → flat_map given_by rs ≡ [] → flat_map given_by (ss ++ rs) ≡ []
none-both ss rs a b = flat_map-append given_by ss rs ∙ ap (λ xs. xs ++ flat_map given_by rs) a ∙ b

-- Items behind others.

pub items_push : (t : Bodies) (y : Body) (rs : List ItemUses) (r : ItemUses) (us : List Use) (ss all : List Seen) → AreItems t y rs ss → IsItem t y r us all → AreItems t y (rs ++ (r ∷ [])) (ss ++ all)
items_push t y [] r us ss all h i = (ss, us, all, [], sym (append-nil (ss ++ all)), h, i, refl)
items_push t y (q ∷ rs) r us ss all h i =
    (h.0, h.1, h.2, h.3 ++ all, ap (λ xs. xs ++ all) h.4 ∙ append_assoc (h.0 ++ h.2) h.3 all, h.5, h.6, items_push t y rs r us h.3 all h.7 i)

pub items_none : (t : Bodies) (y : Body) (rs : List ItemUses) (ss failed : List Seen) → AreItems t y rs ss → flat_map given_by failed ≡ [] → AreItems t y rs (ss ++ failed)
items_none t y [] ss failed h f = none-both ss failed h f
items_none t y (q ∷ rs) ss failed h f =
    (h.0, h.1, h.2, h.3 ++ failed, ap (λ xs. xs ++ failed) h.4 ∙ append_assoc (h.0 ++ h.2) h.3 failed, h.5, h.6, items_none t y rs h.3 failed h.7 f)

-- The items of the nearest of the bodies that an open body shows are its own.

module _ (t : Bodies) (y : Body) (b : values.Body) (open_ : IsOpenAs t y b) where
  own-items : (ks : List ℕ) → y.numbers.now ≡ ks → nearest_items t.components.items ks ≡ y.items.now
  own-items [] e = absurd (subst (λ ks. Shows t.tables.items t.components.items ks (0 ∷ y.uptos.now) (scope_at b (take 0 y.items.now))) e (open_.shown 0))
  own-items (k ∷ ks) e =
      let there = items_at t.components.items k in
      let n = length y.items.now + length there in
      let h = subst (λ ks. Shows t.tables.items t.components.items ks (n ∷ y.uptos.now) (scope_at b (take n y.items.now))) e (open_.shown n) in
      sym (take_all n there (omega arith)) ∙ sym h.0 ∙ take_all n y.items.now (omega arith)

  pub items_own : nearest_items t.components.items y.numbers.now ≡ y.items.now
  items_own = own-items y.numbers.now refl

pub items_known : (t : Bodies) (number : ℕ) (y : Body) (parent : PlacedParent) → slice_get t.list.items number ≡ Some y → CanJudge t number parent → nearest_items t.components.items y.numbers.now ≡ y.items.now
items_known t number y parent here can =
    let both : Some can.body ≡ Some y = sym can.here ∙ here in
    let same : can.body ≡ y = cc in
    items_own t y can.shown (subst (λ x. IsOpenAs t x can.shown) same can.open_)

-- From the uses that were judged.

module _ (t : Bodies) (y : Body) (b : values.Body) (open_ : IsOpenAs t y b) (s : Surroundings) (tables : s.tables.now ≡ t.tables.items) (components : s.components.now ≡ t.components.items) (numbers : s.numbers ≡ y.numbers) (outer : s.outer ≡ y.uptos) where
  all-shown : Shows t.tables.items t.components.items y.numbers.now (length y.items.now ∷ y.uptos.now) (scope_at b b.items)
  all-shown =
      let whole : take (length y.items.now) y.items.now ≡ b.items = take_all (length y.items.now) y.items.now (omega arith) ∙ sym open_.items_are in
      subst (λ is. Shows t.tables.items t.components.items y.numbers.now (length y.items.now ∷ y.uptos.now) (scope_at b is)) whole (open_.shown (length y.items.now))

  pub body_scene : IsParent s.parent (parent_of b) → IsBodyScene s y.items.now b
  body_scene p = record {
    items_are = open_.items_are;
    scenes = λ i. record {
      shown =
          subst (λ ts. Shows ts s.components.now s.numbers.now (i ∷ s.outer.now) (scope_at b (take i y.items.now))) (sym tables)
          (subst (λ cs. Shows t.tables.items cs s.numbers.now (i ∷ s.outer.now) (scope_at b (take i y.items.now))) (sym components)
          (subst (λ ks. Shows t.tables.items t.components.items ks.now (i ∷ s.outer.now) (scope_at b (take i y.items.now))) (sym numbers)
          (subst (λ us. Shows t.tables.items t.components.items y.numbers.now (i ∷ us.now) (scope_at b (take i y.items.now))) (sym outer) (open_.shown i))));
      parent_is = p;
    };
  }

  placed : (f : Found) (position : ℕ) (c : Closure) → IsClosureAt s.tables.now s.components.now s.numbers.now (position ∷ s.outer.now) f c → Reached (scope_at b b.items) c → IsPlaced t y f c
  placed f position c at reached =
      let level : drop (f.level + 1) (position ∷ y.uptos.now) ≡ drop f.level y.uptos.now = let e : f.level + 1 ≡ suc f.level = omega arith in ap (λ n. drop n (position ∷ y.uptos.now)) e in
      let here : Shows t.tables.items t.components.items (outer_of y f) (uptos_at y f) c.scope =
      subst (λ us. Shows t.tables.items t.components.items (outer_of y f) (f.position ∷ us) c.scope) level
      (subst (λ us. Shows t.tables.items t.components.items (drop f.level y.numbers.now) (f.position ∷ drop (f.level + 1) (position ∷ us.now)) c.scope) outer
      (subst (λ ks. Shows t.tables.items t.components.items (drop f.level ks.now) (f.position ∷ drop (f.level + 1) (position ∷ s.outer.now)) c.scope) numbers
      (subst (λ cs. Shows t.tables.items cs (drop f.level s.numbers.now) (f.position ∷ drop (f.level + 1) (position ∷ s.outer.now)) c.scope) components
      (subst (λ ts. Shows ts s.components.now (drop f.level s.numbers.now) (f.position ∷ drop (f.level + 1) (position ∷ s.outer.now)) c.scope) tables at.shown)))) in
      let found = found_at t.tables.items t.components.items y.numbers.now (length y.items.now ∷ y.uptos.now) (scope_at b b.items) c f.level f.position (drop f.level y.uptos.now) reached all-shown here in
      record {
        def = at.def;
        round = record { shown = here; names = subst (HaveNames t.list.items (outer_of y f)) (sym found.round) (names_drop t.list.items f.level y.numbers.now (b.names ∷ around b.outer) open_.names) };
        defined = found.defined;
      }

  first-reached : (type : TypeUsed) (us : List Use) (list : List Inst) → list ≢ [] → AllByRecursion (SeenReaches (scope_at b b.items)) (seens type us list) → Reached (scope_at b b.items) type.closure
  first-reached type us [] some h = absurd (some refl)
  first-reached type us (i ∷ is) some h = h.0

  item-of : (position : ℕ) (r : ItemUses) (us : List Use) (all : List Seen) → GivesUses s position r us all → AllByRecursion (SeenReaches (scope_at b b.items)) all → IsItem t y r us all
  item-of position r us all g reach = record {
    type = g.type;
    list = g.list;
    all_are = g.all_are;
    alias_is = g.alias_is;
    placed = λ some. placed r.found position g.type.closure g.closure (first-reached g.type us g.list some (subst (AllByRecursion (SeenReaches (scope_at b b.items))) g.all_are reach));
    pairs = g.pairs;
    values = g.values;
  }

  pub items_of : (rs : List ItemUses) (ss : List Seen) → GivesAll s rs ss → AllByRecursion (SeenReaches (scope_at b b.items)) ss → AreItems t y rs ss
  items_of _ _ none h = refl
  items_of _ _ (without {rs = rs} {ss = ss} failed g f) h = items_none t y rs ss failed (items_of rs ss g (all_left (SeenReaches (scope_at b b.items)) ss failed h)) f
  items_of _ _ (with_ {rs = rs} {ss = ss} r position us all g u) h =
      items_push t y rs r us ss all (items_of rs ss g (all_left (SeenReaches (scope_at b b.items)) ss all h)) (item-of position r us all u (all_right (SeenReaches (scope_at b b.items)) ss all h))

-- Where more is open.

module _ (t u : Bodies) (held : List Fault) (kept : AreKept t held) (grown : Grows t u) where
  abbrev pub child_stays : (x : Child) (s : Seen) → IsChild t x s → IsChild u x s
  child_stays x s h =
      let low = (kept.sites x.site h.site h.site_is).below in
      record {
        closure = h.closure;
        closure_is = h.closure_is;
        bound = h.bound;
        bound_is = h.bound_is;
        site = h.site;
        site_is = begins_get t.sites.items u.sites.items x.site h.site grown.sites h.site_is;
        at = at_same t u h.site h.closure h.bound (same_below t u h.site.outer.now kept.components kept.list grown low) h.at;
        dims_are = h.dims_are;
        clean = h.clean;
        inst_is = h.inst_is;
        name_is = h.name_is;
        alias_is = h.alias_is;
      }

  pub children_stay : (xs : List Child) (ss : List Seen) → AreChildren t xs ss → AreChildren u xs ss
  children_stay _ _ children.none = children.none
  children_stay _ _ (children.without {xs = xs} {ss = ss} n h) = children.without n (children_stay xs ss h)
  children_stay _ _ (children.with_ {x = x} {xs = xs} {s = s} {ss = ss} c h) = children.with_ (child_stays x s c) (children_stay xs ss h)

  module _ (y : Body) (below : AreBelow (length t.tables.items) y.numbers.now) where
    item-stays : (r : ItemUses) (us : List Use) (all : List Seen) → IsItem t y r us all → IsItem u y r us all
    item-stays r us all i =
        let ks = outer_of y r.found in
        let same : AllSame t u ks = same_below t u ks kept.components kept.list grown (below_drop (length t.tables.items) r.found.level y.numbers.now below) in
        record {
          type = i.type;
          list = i.list;
          all_are = i.all_are;
          alias_is = i.alias_is;
          placed = λ some. record {
            def = (i.placed some).def;
            round = round_same t u ks (uptos_at y r.found) i.type.closure.scope same (i.placed some).round;
            defined = sym (def_same t u ks (uptos_at y r.found) same) ∙ (i.placed some).defined;
          };
          pairs = i.pairs;
          values = i.values;
        }

    pub items_stay : (rs : List ItemUses) (ss : List Seen) → AreItems t y rs ss → AreItems u y rs ss
    items_stay [] ss h = h
    items_stay (r ∷ rs) ss h = (h.0, h.1, h.2, h.3, h.4, h.5, item-stays r h.1 h.2 h.6, items_stay rs h.3 h.7)

-- Children behind others.
pub children_append : (t : Bodies) (xs ys : List Child) (ss rs : List Seen) → AreChildren t xs ss → AreChildren t ys rs → AreChildren t (xs ++ ys) (ss ++ rs)
children_append t _ ys _ rs children.none g = g
children_append t _ ys _ rs (children.without {xs = xs} {ss = ss} n h) g = children.without n (children_append t xs ys ss rs h g)
children_append t _ ys _ rs (children.with_ {xs = xs} {ss = ss} c h) g = children.with_ c (children_append t xs ys ss rs h g)
