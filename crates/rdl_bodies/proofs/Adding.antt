-- What holds where one body more is open, or one site more is listed.
use Rattle.std.proofs.Common.{◌≡◌, ◌∙◌, ℕ, ◌+◌, ◌<◌, ◌≤◌, true, List, [], ◌∷◌, ◌++◌, length, map, take, slice_get, Option, None, Some, option_to_list, refl, sym, ap, subst, arith, append-nil, ◌⊎◌, inl, inr}
use Rattle.std.proofs.lemmas.List.{length-append}
use Rattle.std.proofs.lemmas.Option.{slice_get_within}
use Rattle.plain_lemmas.proofs.Lists.{get-last as get_next}
use Rattle.rdl_base.specs.declared.fault.Fault.{Fault}
use Rattle.rdl_tree.specs.InOrder.{IsInOrder}
use Rattle.rdl_tree.specs.declared.item.Item.{Item}
use Rattle.rdl_tree.specs.declared.item.Param.{Param}
use Rattle.rdl_values.specs.Bodies as values
use Rattle.rdl_values.specs.Bodies.{around, scope_at}
use Rattle.rdl_values.specs.Chained.{chained}
use Rattle.rdl_values.specs.Enums.{names_of, with_item, with_items}
use Rattle.rdl_values.specs.Instances.{Instance, body}
use Rattle.rdl_values.specs.Phase3.{twice_defined}
use Rattle.rdl_values.specs.Seen.{listed_enum}
use Rattle.rdl_values.specs.Values.{Around, EnumOf, Names, Val}
use Rattle.rdl_values.specs.Views as view
use Rattle.rdl_values.specs.Views.{ItemIs, item_is}
use Rattle.rdl_failures.specs.Noted.{Holds, with_all}
use Rattle.rdl_failures.specs.Shown.{IsAlike}
use Rattle.rdl_failures.proofs.Around.{alike_same}
use Rattle.rdl_failures.proofs.Sets.{again, held, kept}
use Rattle.rdl_scopes.specs.Named.{AreComponents}
use Rattle.rdl_scopes.specs.declared.components.Components.{Components}
use Rattle.rdl_scopes.specs.declared.enums.Opened.{Opened}
use Rattle.rdl_scopes.proofs.Closing.{closed_stays}
use Rattle.rdl_scopes.specs.Scopes.{AreOpen, Shows, items_at, items_in}
use Rattle.rdl_bodies.specs.Kept.{AreBelow, AreKept, Begins, Grows, IsBody, IsOpenFor, IsPlacedIn, IsSite, IsTextIn, IsTextOf, StandsIn, of_names}
use Rattle.rdl_bodies.specs.Opened.{IsOpened, IsText, IsTextFor}
use Rattle.rdl_bodies.specs.Sited.{AreValued, HaveNames, IsAt, IsOpenAs, own_names, values_over}
use Rattle.rdl_bodies.specs.Steady.{AreFixed}
use Rattle.rdl_bodies.specs.declared.bodies.Bodies.{Bodies}
use Rattle.rdl_bodies.specs.declared.bodies.Body.{Body}
use Rattle.rdl_bodies.specs.declared.bodies.Site.{Site}
use Rattle.rdl_bodies.specs.declared.bodies.Text.{Text}
use Rattle.rdl_bodies.specs.declared.bodies.TextPlace.{TextPlace}
use Rattle.rdl_bodies.specs.declared.opening.BodyText.{BodyText}
use Rattle.rdl_bodies.proofs.Growing.{AllSame, at_same, begins_get, begins_length, begins_same, chained_same, below_more, def_same, get_either, get_front, grows_on, grows_same, open_same, round_same, same_below, names_same, shows_same, turned}
use Rattle.rdl_bodies.proofs.Fixed.{fixed_enums}

-- The names of a body.

item-bound : (outer : Around) (n : Names) (v : ItemIs) → (with_item outer n v).bound ≡ n.bound
item-bound outer n (view.definition d) = refl
item-bound outer n (view.enumeration m es) = refl
item-bound outer n (view.made a of is) = refl
item-bound outer n (view.default_ s) = refl
item-bound outer n (view.local s) = refl
item-bound outer n (view.dynamic p s) = refl

items-bound : (outer : Around) (n : Names) (is : List Item) → (with_items outer n is).bound ≡ n.bound
items-bound outer n [] = refl
items-bound outer n (i ∷ is) = items-bound outer (with_item outer n (item_is i)) is ∙ item-bound outer n (item_is i)

pub names_bound : (outer : Around) (bound : List (List ℕ × Val)) (is : List Item) → (names_of outer bound is).bound ≡ bound
names_bound outer bound is = items-bound outer (record { bound = bound; enums = [] }) is

same-names : (m : Names) (bound : List (List ℕ × Val)) (enums : List EnumOf) → bound ≡ m.bound → enums ≡ m.enums → record { bound = bound; enums = enums } ≡ m
same-names m bound enums p q = ap (λ b. record { bound = b; enums = enums }) p ∙ ap (λ e. record { bound = m.bound; enums = e }) q

-- the bodies round a text are seen in the code's way
pub round_alike : (t : Bodies) (ks ps : List ℕ) (scope : values.Scope) → Shows t.tables.items t.components.items ks ps scope → IsAlike (chained t.tables.items ks) (around scope)
round_alike t [] [] [] h = alike_same []
round_alike t [] [] (l ∷ ls) h = absurd h
round_alike t [] (p ∷ ps) ls h = absurd h
round_alike t (k ∷ ks) [] ls h = absurd h
round_alike t (k ∷ ks) (p ∷ ps) [] h = absurd h
round_alike t (k ∷ ks) (p ∷ ps) (l ∷ ls) h = h.1

-- Texts that were there stay what they are.

stands-on : (these those : List Body) → Begins these those → (ks : List ℕ) (o : Option TextPlace) → StandsIn these ks o → StandsIn those ks o
stands-on these those more [] None h = tt
stands-on these those more [] (Some p) h = absurd h
stands-on these those more (k ∷ ks) None h = absurd h
stands-on these those more (k ∷ ks) (Some p) h = (h.0, begins_get these those k h.0 more h.1, h.2)

pub placed_stays : (these those : List Text) → Begins these those → (o : Option TextPlace) (items : List Item) (params : List Param) → IsPlacedIn these o items params → IsPlacedIn those o items params
placed_stays these those more None items params h = tt
placed_stays these those more (Some p) items params h = (h.0, begins_get these those p.outer h.0 more h.1, h.2)

pub text_stays : (these those : List Text) → Begins these those → (held gs : List Fault) (x : Text) → IsTextIn these held x → IsTextIn those (with_all gs held) x
text_stays these those more held gs x h = record { closed = closed_stays x.closed x.items.now gs held h.closed; components = h.components; twice = λ b e. kept (twice_defined b) gs held (h.twice b e); placed = placed_stays these those more x.place x.items.now x.params.now h.placed; steady = h.steady }

-- Bodies and sites that were there stay what they are.
module _ (t u : Bodies) (grown : Grows t u) (texts : Begins t.texts.items u.texts.items) (before gs : List Fault) (inv : AreKept t before) where
  abbrev after : List Fault
  after = with_all gs before

  here : (ks : List ℕ) → AreBelow (length t.tables.items) ks → AllSame t u ks
  here ks low = same_below t u ks inv.components inv.list grown low

  longer : length t.tables.items ≤ length u.tables.items
  longer = begins_length t.tables.items u.tables.items grown.tables

  pub site_stays : (s : Site) → IsSite t s → IsSite u s
  site_stays s h = record {
    below = below_more (length t.tables.items) (length u.tables.items) s.outer.now longer h.below;
    defined = sym (def_same t u s.outer.now s.uptos.now (here s.outer.now h.below)) ∙ h.defined;
    apart = h.apart;
    valued = h.valued;
  }

  open-for : (x : Body) (o : Option ℕ) → AreBelow (length t.tables.items) x.numbers.now → IsOpenFor t before x o → IsOpenFor u after x o
  open-for x None low h = tt
  open-for x (Some number) low h =
      let s = h.0 in
      let old = inv.sites number s h.1 in (
        s,
        begins_get t.sites.items u.sites.items number s grown.sites h.1,
        λ n at.
            let was = h.2 n (at_same u t s n.closure n.bound (turned t u s.outer.now (here s.outer.now old.below)) at) in
            (open_same t u x (body n) (here x.numbers.now low) was.0, kept (of_names (body n)) gs before was.1),
      )

  pub body_stays : (k : ℕ) (x : Body) → slice_get t.list.items k ≡ Some x → IsBody u after k x
  body_stays k x e =
      let old = inv.bodies k x e in
      let low : k < length t.components.items = let l = slice_get_within t.list.items k x e in let c = inv.components in let b = inv.list in omega (arith, l, c, b) in
      record {
        below = below_more (length t.tables.items) (length u.tables.items) x.numbers.now longer old.below;
        items_are = ap (λ cs. items_at cs k) grown.components.1 ∙ ap items_in (get_front t.components.items grown.components.0 k low) ∙ old.items_are;
        in_order = old.in_order;
        of_site = open-for x x.site old.below old.of_site;
        valued = old.valued;
        outer = old.outer;
        numbers_are = old.numbers_are;
        text_is = record {
          text = old.text_is.text;
          here = begins_get t.texts.items u.texts.items x.text old.text_is.text texts old.text_is.here;
          stands = stands-on t.list.items u.list.items grown.list old.outer old.text_is.text.place old.text_is.stands;
          items_are = old.text_is.items_are;
          params_are = old.text_is.params_are;
        };
        enums_are = old.enums_are;
      }

  pub texts_stay : (k : ℕ) (x : Text) → slice_get t.texts.items k ≡ Some x → IsTextIn u.texts.items after x
  texts_stay k x e = text_stays t.texts.items u.texts.items texts before gs x (inv.texts k x e)

-- One body more.

-- the names of a body that were opened
pub names_opened : (r : Body) (ws : Around) (x : BodyText) (o : Opened) → r.params.now ≡ x.params.now → r.touched.now ≡ x.touched.now → r.enums.now ≡ o.enums.now → map listed_enum o.enums.now ≡ (names_of ws (values_over x.params.now x.touched.now) x.items.now).enums
    → own_names r ≡ names_of ws (values_over x.params.now x.touched.now) x.items.now
names_opened r ws x o params touched enums listed =
    let bound = values_over x.params.now x.touched.now in
    let values : values_over r.params.now r.touched.now ≡ bound = ap (λ ps. values_over ps r.touched.now) params ∙ ap (values_over x.params.now) touched in
    same-names (names_of ws bound x.items.now) (values_over r.params.now r.touched.now) (map listed_enum r.enums.now) (values ∙ sym (names_bound ws bound x.items.now)) (ap (map listed_enum) enums ∙ listed)

-- What is known of a body that is put behind the others.
pub record IsNext (t u : Bodies) (number : ℕ) (x : BodyText) (r : Body) : Type 0 where
  pub numbered : number ≡ length t.tables.items
  pub table : Names
  pub component : Components
  pub tables : u.tables.items ≡ t.tables.items ++ (table ∷ [])
  pub components : u.components.items ≡ t.components.items ++ (component ∷ [])
  pub list : u.list.items ≡ t.list.items ++ (r ∷ [])
  pub sites : u.sites.items ≡ t.sites.items
  pub texts : u.texts.items ≡ t.texts.items
  pub text_is : IsTextOf t.list.items t.texts.items r.text x.outer.now x.items.now x.params.now
  pub is_of : AreComponents component x.items.now
  pub site_is : r.site ≡ x.site
  pub items_are : r.items.now ≡ x.items.now
  pub params_are : r.params.now ≡ x.params.now
  pub valued : AreValued r.params.now r.touched.now
  pub kind_is : r.kind ≡ x.kind
  pub numbers_are : r.numbers.now ≡ number ∷ x.outer.now
  pub uptos_are : r.uptos.now ≡ x.uptos.now
  pub names_are : (ws : Around) → IsAlike (chained t.tables.items x.outer.now) ws → own_names r ≡ names_of ws (values_over x.params.now x.touched.now) x.items.now
  pub alike : (ws : Around) → IsAlike (chained t.tables.items x.outer.now) ws → IsAlike (table ∷ chained t.tables.items x.outer.now) (names_of ws (values_over x.params.now x.touched.now) x.items.now ∷ ws)

module _ (t u : Bodies) (number : ℕ) (x : BodyText) (r : Body) (new : IsNext t u number x r) where
  pub grown_by : Grows t u
  grown_by = record { tables = (new.table ∷ [], new.tables); components = (new.component ∷ [], new.components); list = (r ∷ [], new.list); sites = begins_same t.sites.items u.sites.items new.sites }

  module _ (c : length t.components.items ≡ length t.tables.items) (b : length t.list.items ≡ length t.tables.items) (below : AreBelow (length t.tables.items) x.outer.now) where
    rounds : AllSame t u x.outer.now
    rounds = same_below t u x.outer.now c b grown_by below

    own-items : items_at u.components.items number ≡ x.items.now
    own-items =
        let e : number ≡ length t.components.items = let n = new.numbered in omega (arith, n, c) in
        ap (λ k. items_at u.components.items k) e ∙ ap (λ cs. items_at cs (length t.components.items)) new.components ∙ ap items_in (get_next t.components.items new.component) ∙ new.is_of.same

    own-chain : chained u.tables.items (number ∷ x.outer.now) ≡ new.table ∷ chained t.tables.items x.outer.now
    own-chain =
        ap (λ k. option_to_list (slice_get u.tables.items k) ++ chained u.tables.items x.outer.now) new.numbered
        ∙ ap (λ ts. option_to_list (slice_get ts (length t.tables.items)) ++ chained u.tables.items x.outer.now) new.tables
        ∙ ap (λ o. option_to_list o ++ chained u.tables.items x.outer.now) (get_next t.tables.items new.table)
        ∙ ap (λ ws. new.table ∷ ws) (sym (chained_same t u x.outer.now rounds))

    pub own_body : slice_get u.list.items number ≡ Some r
    own_body =
        let e : number ≡ length t.list.items = let n = new.numbered in omega (arith, n, b) in
        ap (λ k. slice_get u.list.items k) e ∙ ap (λ xs. slice_get xs (length t.list.items)) new.list ∙ get_next t.list.items r

    module _ (v : values.Body) (h : IsText t x v) where
      alike : IsAlike (chained u.tables.items (number ∷ x.outer.now)) (v.names ∷ around v.outer)
      alike =
          subst (λ ws. IsAlike ws (v.names ∷ around v.outer)) (sym own-chain)
          (subst (λ n. IsAlike (new.table ∷ chained t.tables.items x.outer.now) (n ∷ around v.outer)) (sym h.names_are) (new.alike (around v.outer) (round_alike t x.outer.now x.uptos.now v.outer h.round.shown)))

      shown : (i : ℕ) → Shows u.tables.items u.components.items (number ∷ x.outer.now) (i ∷ x.uptos.now) (scope_at v (take i x.items.now))
      shown i = (ap (take i) (sym own-items), alike, shows_same t u x.outer.now x.uptos.now v.outer rounds h.round.shown)

      shown-here : (i : ℕ) → Shows u.tables.items u.components.items r.numbers.now (i ∷ r.uptos.now) (scope_at v (take i r.items.now))
      shown-here i =
          subst (λ is. Shows u.tables.items u.components.items r.numbers.now (i ∷ r.uptos.now) (scope_at v (take i is))) (sym new.items_are)
          (subst (λ us. Shows u.tables.items u.components.items r.numbers.now (i ∷ us) (scope_at v (take i x.items.now))) (sym new.uptos_are)
          (subst (λ ns. Shows u.tables.items u.components.items ns (i ∷ x.uptos.now) (scope_at v (take i x.items.now))) (sym new.numbers_are) (shown i)))

      own : own_names r ≡ v.names
      own = new.names_are (around v.outer) (round_alike t x.outer.now x.uptos.now v.outer h.round.shown) ∙ sym h.names_are

      pub opened_as : IsOpenAs u r v
      opened_as = record {
        items_are = h.items_are ∙ sym new.items_are;
        kind_is = h.kind_is ∙ sym new.kind_is;
        shown = shown-here;
        names = subst (λ ns. HaveNames u.list.items ns (v.names ∷ around v.outer)) (sym new.numbers_are)
            (record { body = r; here = own_body; numbers_are = new.numbers_are; behind = subst (λ k. AreBelow k x.outer.now) (sym new.numbered) below; names_are = own }, names_same t u x.outer.now (around v.outer) rounds h.round.names);
      }

  -- All is kept where the failures of the names were put in.
  module _ (before after : List Fault) (inv : AreKept t before) (in_order : IsInOrder x.items.now) (below : AreBelow (length t.tables.items) x.outer.now) (some : (v : values.Body) × IsText t x v) (put : (v : values.Body) → IsText t x v → after ≡ with_all (of_names v) before)
      (of_site : IsTextFor t x x.site) where
    abbrev fails : List Fault
    fails = of_names some.0

    is-after : after ≡ with_all fails before
    is-after = put some.0 some.1

    new-for : (o : Option ℕ) → IsTextFor t x o → IsOpenFor u after r o
    new-for None h = tt
    new-for (Some k) h = (
      h.0,
      ap (λ ss. slice_get ss k) new.sites ∙ h.1,
      λ n at.
          let back = at_same u t h.0 n.closure n.bound (turned t u h.0.outer.now (same_below t u h.0.outer.now inv.components inv.list grown_by (inv.sites k h.0 h.1).below)) at in
          let text = h.2 n back in
          (opened_as inv.components inv.list below (body n) text, subst (λ fs. Holds fs (of_names (body n))) (sym (put (body n) text)) (held (of_names (body n)) before)),
    )

    one-more : length u.tables.items ≡ length t.tables.items + 1
    one-more = ap length new.tables ∙ length-append t.tables.items (new.table ∷ [])

    -- the names are those that it has in any bodies round it
    own-enums : new.text_is.text.steady ≡ true → map listed_enum r.enums.now ≡ (names_of [] [] r.items.now).enums
    own-enums s =
        let round = chained t.tables.items x.outer.now in
        let fixed : AreFixed x.items.now = subst AreFixed new.text_is.items_are ((inv.texts r.text new.text_is.text new.text_is.here).steady s) in
        ap (λ n. n.enums) (new.names_are round (alike_same round)) ∙ fixed_enums round [] (values_over x.params.now x.touched.now) [] x.items.now fixed ∙ ap (λ is. (names_of [] [] is).enums) (sym new.items_are)

    new-body : IsBody u after number r
    new-body = record {
      below = subst (AreBelow (length u.tables.items)) (sym new.numbers_are) (let n = new.numbered in omega (arith, n, one-more), below_more (length t.tables.items) (length u.tables.items) x.outer.now (omega (arith, one-more)) below);
      items_are = own-items inv.components inv.list below ∙ sym new.items_are;
      in_order = subst IsInOrder (sym new.items_are) in_order;
      of_site = subst (IsOpenFor u after r) (sym new.site_is) (new-for x.site of_site);
      valued = new.valued;
      outer = x.outer.now;
      numbers_are = new.numbers_are;
      text_is = record {
        text = new.text_is.text;
        here = ap (λ xs. slice_get xs r.text) new.texts ∙ new.text_is.here;
        stands = stands-on t.list.items u.list.items (r ∷ [], new.list) x.outer.now new.text_is.text.place new.text_is.stands;
        items_are = new.text_is.items_are ∙ sym new.items_are;
        params_are = new.text_is.params_are ∙ sym new.params_are;
      };
      enums_are = own-enums;
    }

    texts-begin : Begins t.texts.items u.texts.items
    texts-begin = begins_same t.texts.items u.texts.items new.texts

    bodies-kept : (k : ℕ) (y : Body) → slice_get u.list.items k ≡ Some y → IsBody u after k y
    bodies-kept k y e = go (get_either t.list.items r y k (sym (ap (λ xs. slice_get xs k) new.list) ∙ e))
      where
        go : (slice_get t.list.items k ≡ Some y) ⊎ ((k ≡ length t.list.items) × (r ≡ y)) → IsBody u after k y
        go (inl h) = subst (λ fs. IsBody u fs k y) (sym is-after) (body_stays t u grown_by texts-begin before fails inv k y h)
        go (inr h) =
            let at : number ≡ k = let n = new.numbered in let l = inv.list in let i = h.0 in omega (arith, n, l, i) in
            subst (λ z. IsBody u after k z) h.1 (subst (λ m. IsBody u after m r) at new-body)

    components-open : AreOpen u.components.items
    components-open = subst AreOpen (sym new.components) (push t.components.items inv.open_)
      where
        own : AreComponents new.component new.component.items.now
        own = subst (AreComponents new.component) (sym new.is_of.same) new.is_of

        push : (cs : List Components) → AreOpen cs → AreOpen (cs ++ (new.component ∷ []))
        push [] all = (own, tt)
        push (d ∷ cs) all = (all.0, push cs all.1)

    pub all_kept : AreKept u after
    all_kept = record {
      components = let c = ap length new.components ∙ length-append t.components.items (new.component ∷ []) in let i = inv.components in omega (arith, c, i, one-more);
      list = let l = ap length new.list ∙ length-append t.list.items (r ∷ []) in let i = inv.list in omega (arith, l, i, one-more);
      open_ = components-open;
      sites = λ k s e. site_stays t u grown_by texts-begin before fails inv s (inv.sites k s (sym (ap (λ ss. slice_get ss k) new.sites) ∙ e));
      bodies = bodies-kept;
      texts = λ k y e. subst (λ fs. IsTextIn u.texts.items fs y) (sym is-after) (texts_stay t u grown_by texts-begin before fails inv k y (sym (ap (λ ys. slice_get ys k) new.texts) ∙ e));
    }

    pub is_opened : (v : values.Body) → IsText t x v → IsOpened t u before after number v
    is_opened v h = record {
      kept = all_kept;
      grown = grown_by;
      noted = put v h;
      body = r;
      here = own_body inv.components inv.list below;
      open_ = opened_as inv.components inv.list below v h;
    }

-- All is kept where failures were put in.
pub kept_more : (t : Bodies) (before gs : List Fault) → AreKept t before → AreKept t (with_all gs before)
kept_more t before gs inv = record {
  components = inv.components;
  list = inv.list;
  open_ = inv.open_;
  sites = inv.sites;
  bodies = λ k x e. body_stays t t (grows_same t t refl refl refl ([], sym (append-nil t.sites.items))) (begins_same t.texts.items t.texts.items refl) before gs inv k x e;
  texts = λ k x e. text_stays t.texts.items t.texts.items (begins_same t.texts.items t.texts.items refl) before gs x (inv.texts k x e);
}

-- All is kept where a site was put behind the others.
module _ (t u : Bodies) (s : Site) (tables : u.tables ≡ t.tables) (components : u.components ≡ t.components) (list : u.list ≡ t.list) (sites : u.sites.items ≡ t.sites.items ++ (s ∷ [])) (texts : u.texts ≡ t.texts) where
  pub grown_listed : Grows t u
  grown_listed = grows_same t u (ap (λ v. v.items) tables) (ap (λ v. v.items) components) (ap (λ v. v.items) list) (s ∷ [], sites)

  texts-same : Begins t.texts.items u.texts.items
  texts-same = begins_same t.texts.items u.texts.items (ap (λ v. v.items) texts)

  pub kept_listed : (before : List Fault) → AreKept t before → IsSite t s → AreKept u before
  kept_listed before inv new = record {
    components = ap (λ v. length v.items) components ∙ inv.components ∙ sym (ap (λ v. length v.items) tables);
    list = ap (λ v. length v.items) list ∙ inv.list ∙ sym (ap (λ v. length v.items) tables);
    open_ = subst (λ v. AreOpen v.items) (sym components) inv.open_;
    sites = λ k x e. go x (get_either t.sites.items s x k (sym (ap (λ ss. slice_get ss k) sites) ∙ e)) k;
    bodies = λ k x e. body_stays t u grown_listed texts-same before [] inv k x (sym (ap (λ v. slice_get v.items k) list) ∙ e);
    texts = λ k x e. texts_stay t u grown_listed texts-same before [] inv k x (sym (ap (λ v. slice_get v.items k) texts) ∙ e);
  }
    where
      go : (x : Site) {k : ℕ} → (slice_get t.sites.items k ≡ Some x) ⊎ ((k ≡ length t.sites.items) × (s ≡ x)) → (j : ℕ) → IsSite u x
      go x (inl h) j = site_stays t u grown_listed texts-same before [] inv x (inv.sites _ x h)
      go x (inr h) j = subst (IsSite u) h.1 (site_stays t u grown_listed texts-same before [] inv s new)

-- A body that is open for a site already.
pub open_again : (t : Bodies) (before : List Fault) (k number : ℕ) (x : Body) (s : Site) (n : Instance) → AreKept t before → slice_get t.list.items k ≡ Some x → x.site ≡ Some number → slice_get t.sites.items number ≡ Some s → IsAt t s n.closure n.bound → IsOpened t t before before k (body n)
open_again t before k number x s n inv e of here at =
    let site = subst (IsOpenFor t before x) of (inv.bodies k x e).of_site in
    let same : site.0 ≡ s = let both : Some site.0 ≡ Some s = sym site.1 ∙ here in cc in
    let found = site.2 n (subst (λ y. IsAt t y n.closure n.bound) (sym same) at) in
    record {
      kept = inv;
      grown = grows_same t t refl refl refl ([], sym (append-nil t.sites.items));
      noted = sym (again (of_names (body n)) before found.1);
      body = x;
      here = e;
      open_ = found.0;
    }

-- Where the lists are the same, all is.
module _ (u v : Bodies) (tables : v.tables ≡ u.tables) (components : v.components ≡ u.components) (list : v.list ≡ u.list) (sites : v.sites ≡ u.sites) where
  pub grown_same : Grows u v
  grown_same = grows_same u v (ap (λ x. x.items) tables) (ap (λ x. x.items) components) (ap (λ x. x.items) list) (begins_same u.sites.items v.sites.items (ap (λ x. x.items) sites))

  pub every : (ks : List ℕ) → AllSame u v ks
  every [] = tt
  every (k ∷ ks) = (record { table = ap (λ x. slice_get x.items k) (sym tables); component = ap (λ x. slice_get x.items k) (sym components); body = ap (λ x. slice_get x.items k) (sym list) }, every ks)

  -- all is kept where texts more are kept
  pub kept_same : (before gs : List Fault) → Begins u.texts.items v.texts.items → ((k : ℕ) (x : Text) → slice_get v.texts.items k ≡ Some x → IsTextIn v.texts.items (with_all gs before) x) → AreKept u before → AreKept v (with_all gs before)
  kept_same before gs more texts inv = record {
    components = ap (λ x. length x.items) components ∙ inv.components ∙ sym (ap (λ x. length x.items) tables);
    list = ap (λ x. length x.items) list ∙ inv.list ∙ sym (ap (λ x. length x.items) tables);
    open_ = subst (λ x. AreOpen x.items) (sym components) inv.open_;
    sites = λ k x e. site_stays u v grown_same more before gs inv x (inv.sites k x (sym (ap (λ ss. slice_get ss.items k) sites) ∙ e));
    bodies = λ k x e. body_stays u v grown_same more before gs inv k x (sym (ap (λ bs. slice_get bs.items k) list) ∙ e);
    texts = texts;
  }

  pub kept_as : v.texts ≡ u.texts → (held : List Fault) → AreKept u held → AreKept v held
  kept_as texts held inv = kept_same held [] (begins_same u.texts.items v.texts.items (ap (λ x. x.items) texts)) (λ j x e. subst (λ xs. IsTextIn xs held x) (sym (ap (λ ts. ts.items) texts)) (inv.texts j x (sym (ap (λ ts. slice_get ts.items j) texts) ∙ e))) inv

  pub opened_same : v.texts ≡ u.texts → (t : Bodies) (before after : List Fault) (k : ℕ) (b : values.Body) → IsOpened t u before after k b → IsOpened t v before after k b
  opened_same texts t before after k b h = record {
    kept = kept_as texts after h.kept;
    grown = grows_on t u v h.grown grown_same;
    noted = h.noted;
    body = h.body;
    here = ap (λ bs. slice_get bs.items k) list ∙ h.here;
    open_ = open_same u v h.body b (every h.body.numbers.now) h.open_;
  }

  -- what a text is, it stays
  pub text_same : (x : BodyText) (b : values.Body) → IsText u x b → IsText v x b
  text_same x b h = record { items_are = h.items_are; kind_is = h.kind_is; round = round_same u v x.outer.now x.uptos.now b.outer (every x.outer.now) h.round; names_are = h.names_are }

  pub for_same : (x : BodyText) (o : Option ℕ) → IsTextFor u x o → IsTextFor v x o
  for_same x None h = tt
  for_same x (Some k) h = (h.0, ap (λ ss. slice_get ss.items k) sites ∙ h.1, λ n at. text_same x (body n) (h.2 n (at_same v u h.0 n.closure n.bound (turned u v h.0.outer.now (every h.0.outer.now)) at)))
