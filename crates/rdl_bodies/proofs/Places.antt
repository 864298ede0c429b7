-- Definitions in the bodies of definitions, and the root.
use Rattle.std.proofs.Common.{◌≡◌, ◌∙◌, ℕ, zero, suc, ◌+◌, List, [], ◌∷◌, ◌++◌, length, map, slice_get, unwrap_or, Option, None, Some, option_and_then, refl, sym, ap, subst, append-nil, arith}
use Rattle.plain_lemmas.proofs.Lists.{get-last as get_next, get-not_none as within-some}
use Rattle.rdl_base.specs.declared.fault.Fault.{Fault}
use Rattle.rdl_tree.specs.InOrder.{IsInOrder, RiseFrom, IsInOrderInside, none, more, place_of}
use Rattle.rdl_tree.specs.InOrder as tree
use Rattle.rdl_tree.specs.declared.item.Def.{Def}
use Rattle.rdl_tree.specs.declared.item.Item.{Item}
use Rattle.rdl_tree.specs.declared.item.Source.{Source}
use Rattle.rdl_values.specs.Bodies.{Closure, around, component_of}
use Rattle.rdl_values.specs.Enums.{names_of}
use Rattle.rdl_values.specs.Instances.{Instance, body}
use Rattle.rdl_values.specs.Parameters.{Bound}
use Rattle.rdl_values.specs.Seen.{bound_of}
use Rattle.rdl_values.specs.Top.{root}
use Rattle.rdl_values.specs.Views as view
use Rattle.rdl_values.specs.Views.{ItemIs, item_is, item_is-Def}
use Rattle.rdl_scopes.specs.Scopes.{AreOpen, Stands, items_at}
use Rattle.rdl_values.specs.Overlaid.{AreApart, overlaid, plain_of}
use Rattle.rdl_bodies.specs.Kept.{AreBelow, AreKept, IsSite}
use Rattle.rdl_bodies.specs.Opened.{IsListed, IsSame, IsText}
use Rattle.rdl_scopes.specs.declared.components.Components.{Components}
use Rattle.rdl_scopes.specs.declared.scopes.Found.{Found}
use Rattle.rdl_bodies.specs.Sited.{AreRound, IsAt, component_at, def_at, values_over}
use Rattle.rdl_bodies.specs.declared.bodies.Bodies.{Bodies}
use Rattle.rdl_bodies.specs.declared.bodies.Body.{Body}
use Rattle.rdl_bodies.specs.declared.bodies.Site.{Site}
use Rattle.rdl_bodies.specs.declared.opening.BodyText.{BodyText}
use Rattle.rdl_bodies.proofs.Adding.{grown_listed, kept_listed}
use Rattle.rdl_bodies.proofs.Growing.{grows_same, round_same, same_below}

-- no body is open yet
pub none_kept : (t : Bodies) (held : List Fault) → t.tables.items ≡ [] → t.components.items ≡ [] → t.list.items ≡ [] → t.sites.items ≡ [] → t.texts.items ≡ [] → AreKept t held
none_kept t held a b c d f = record {
  components = ap length b ∙ sym (ap length a);
  list = ap length c ∙ sym (ap length a);
  open_ = subst AreOpen (sym b) tt;
  sites = λ k s e. cc;
  bodies = λ k x e. cc;
  texts = λ k x e. cc;
}

-- A definition in order.

abbrev InOrderOf : ItemIs → Type 0
InOrderOf (view.definition d) = IsInOrder d.items.now
InOrderOf (view.enumeration n es) = Unit {0}
InOrderOf (view.made a of is) = Unit {0}
InOrderOf (view.default_ x) = Unit {0}
InOrderOf (view.local x) = Unit {0}
InOrderOf (view.dynamic p x) = Unit {0}

inside-of : (i : Item) → IsInOrderInside i → InOrderOf (item_is i)
inside-of _ (tree.definition {d = d} h) = subst InOrderOf (sym (item_is-Def d)) h
inside-of _ tree.enumeration = tt
inside-of _ tree.made = tt
inside-of _ tree.default = tt
inside-of _ tree.local = tt
inside-of _ tree.dynamic = tt

component-inside : (v : ItemIs) (d : Def) → InOrderOf v → component_of v ≡ Some d → IsInOrder d.items.now
component-inside (view.definition e) d h q = let same : e ≡ d = cc in subst (λ x. IsInOrder x.items.now) same h
component-inside (view.enumeration n es) d h q = cc
component-inside (view.made a of is) d h q = cc
component-inside (view.default_ x) d h q = cc
component-inside (view.local x) d h q = cc
component-inside (view.dynamic p x) d h q = cc

pub inside_at : (k : ℕ) (is : List Item) (p : ℕ) (d : Def) → RiseFrom k is → component_at is p ≡ Some d → IsInOrder d.items.now
inside_at k [] p d r e = cc
inside_at k (i ∷ is) zero d (more low inside rest) e = component-inside (item_is i) d (inside-of i inside) e
inside_at k (i ∷ is) (suc p) d (more low inside rest) e = inside_at ((place_of i).0 + 1) is p d rest e

-- the definition of a site stands in order
pub site_in_order : (t : Bodies) (held : List Fault) (ks ps : List ℕ) (d : Def) → AreKept t held → AreBelow (length t.tables.items) ks → def_at t.components.items ks ps ≡ Some d → IsInOrder d.items.now
site_in_order t held [] ps d inv low e = cc
site_in_order t held (k ∷ ks) [] d inv low e = cc
site_in_order t held (k ∷ ks) (p ∷ ps) d inv low e = go (slice_get t.list.items k) refl
  where
    go : (o : Option Body) → slice_get t.list.items k ≡ o → IsInOrder d.items.now
    go (Some x) q =
        let b = inv.bodies k x q in
        inside_at 0 x.items.now p d b.in_order (ap (λ is. component_at is p) (sym b.items_are) ∙ e)
    go None q = let l = low.0 in let n = inv.list in absurd (within-some t.list.items k (omega (arith, l, n)) q)

-- the root's body has the root's text
pub root_text : (t : Bodies) (x : BodyText) (s : Source) → x.items.now ≡ s.items.now → x.kind ≡ None → x.outer.now ≡ [] → x.uptos.now ≡ [] → x.params.now ≡ [] → IsText t x (root s)
root_text t x s i k o u p = record {
  items_are = sym i;
  kind_is = sym k;
  round = subst (λ ks. AreRound t ks x.uptos.now []) (sym o) (subst (λ ps. AreRound t [] ps []) (sym u) (record { shown = tt; names = tt }));
  names_are = ap (λ ps. names_of [] (values_over ps x.touched.now) s.items.now) (sym p) ∙ ap (λ is. names_of [] (values_over x.params.now x.touched.now) is) (sym i);
}

-- the bodies of a site's nodes have its text
pub site_text : (t : Bodies) (number : ℕ) (s : Site) (n : Instance) → IsAt t s n.closure n.bound
    → IsText t (record { site = Some number; items = s.def.now.items; kind = Some s.def.now.kind; outer = s.outer; uptos = s.uptos; params = s.def.now.params; touched = s.touched }) (body n)
site_text t number s n at = record {
  items_are = ap (λ d. d.items.now) at.def;
  kind_is = ap (λ d. Some d.kind) at.def;
  round = at.round;
  names_are = ap (λ b. names_of (around n.closure.scope) b n.closure.def.items.now) at.bound_is ∙ ap (λ d. names_of (around n.closure.scope) (values_over s.def.now.params.now s.touched.now) d.items.now) at.def;
}

-- the definition at a place stands there
stands-as : (i : Item) (v : ItemIs) (d : Def) → item_is i ≡ v → component_of v ≡ Some d → item_is i ≡ view.definition d
stands-as i (view.definition e) d is h = let same : e ≡ d = cc in is ∙ ap view.definition same
stands-as i (view.enumeration m es) d is h = cc
stands-as i (view.made a of is) d e h = cc
stands-as i (view.default_ s) d is h = cc
stands-as i (view.local s) d is h = cc
stands-as i (view.dynamic p s) d is h = cc

pub stands_there : (cs : List Components) (ks ps : List ℕ) (d : Def) (f : Found) → def_at cs ks ps ≡ Some d → f.level ≡ 0 → unwrap_or (slice_get ps 0) 0 ≡ f.position → f.def.now ≡ d → Stands cs ks f
stands_there cs [] ps d f e level position def = cc
stands_there cs (k ∷ ks) [] d f e level position def = cc
stands_there cs (k ∷ ks) (p ∷ ps) d f e level position def = go (slice_get (items_at cs k) p) refl
  where
    go : (o : Option Item) → slice_get (items_at cs k) p ≡ o → Stands cs (k ∷ ks) f
    go None q = let no = sym (ap (λ o. option_and_then (λ i. component_of (item_is i)) o) q) ∙ e in cc
    go (Some i) q = record {
      number = k;
      item = i;
      body = ap (slice_get (k ∷ ks)) level;
      there = ap (slice_get (items_at cs k)) (sym position) ∙ q;
      is = stands-as i (item_is i) d refl (sym (ap (λ o. option_and_then (λ j. component_of (item_is j)) o) q) ∙ e) ∙ ap view.definition (sym def);
    }

-- the values of a site's parameters, as those of the definition
put : (s : Site) (d : Def) (bs : Bound) → d ≡ s.def.now → map bound_of s.touched.now ≡ bs → overlaid (plain_of d.params.now) bs ≡ values_over s.def.now.params.now s.touched.now
put s d bs is touched = ap (λ e. overlaid (plain_of e.params.now) bs) is ∙ ap (overlaid (plain_of s.def.now.params.now)) (sym touched)

-- a site that is listed already is that of a definition at the same place
pub listed_at : (t : Bodies) (held : List Fault) (number : ℕ) (s : Site) (outer uptos : List ℕ) (d : Def) (bs b : Bound) (c : Closure) → AreKept t held → slice_get t.sites.items number ≡ Some s → IsSame s outer uptos bs → def_at t.components.items outer uptos ≡ Some d
    → c.def ≡ d → AreRound t outer uptos c.scope → b ≡ overlaid (plain_of d.params.now) bs → IsListed t t held number c b
listed_at t held number s outer uptos d bs b c inv here same defined def round bound =
    let at = (inv.sites number s here).defined in
    let other : Some s.def.now ≡ Some d = sym at ∙ ap (λ ks. def_at t.components.items ks s.uptos.now) same.outer_is ∙ ap (λ ps. def_at t.components.items outer ps) same.uptos_are ∙ defined in
    let is : s.def.now ≡ d = cc in
    record {
      kept = inv;
      grown = grows_same t t refl refl refl ([], sym (append-nil t.sites.items));
      site = s;
      here = here;
      at = record {
        def = def ∙ sym is;
        round = subst (λ ks. AreRound t ks s.uptos.now c.scope) (sym same.outer_is) (subst (λ ps. AreRound t outer ps c.scope) (sym same.uptos_are) round);
        bound_is = bound ∙ put s d bs (sym is) same.touched_are;
      };
    }

-- a new site is that of the definition
pub listed_new : (t u : Bodies) (held : List Fault) (number : ℕ) (s : Site) (outer uptos : List ℕ) (d : Def) (bs b : Bound) (c : Closure) → AreKept t held → u.tables ≡ t.tables → u.components ≡ t.components → u.list ≡ t.list → u.sites.items ≡ t.sites.items ++ (s ∷ []) → u.texts ≡ t.texts
    → number ≡ length t.sites.items → s.def.now ≡ d → IsSame s outer uptos bs → AreBelow (length t.tables.items) outer → def_at t.components.items outer uptos ≡ Some d → AreApart (plain_of d.params.now) → map (λ x. x.0) (plain_of d.params.now) ≡ map (λ x. x.0) (overlaid (plain_of d.params.now) bs)
    → c.def ≡ d → AreRound t outer uptos c.scope → b ≡ overlaid (plain_of d.params.now) bs → IsListed t u held number c b
listed_new t u held number s outer uptos d bs b c inv tables components list sites texts at of same below defined apart valued def round bound =
    let site : IsSite t s = record {
      below = subst (AreBelow (length t.tables.items)) (sym same.outer_is) below;
      defined = ap (λ ks. def_at t.components.items ks s.uptos.now) same.outer_is ∙ ap (λ ps. def_at t.components.items outer ps) same.uptos_are ∙ defined ∙ ap Some (sym of);
      apart = subst (λ e. AreApart (plain_of e.params.now)) (sym of) apart;
      valued = ap (λ e. map (λ x. x.0) (plain_of e.params.now)) of ∙ valued ∙ ap (map (λ x. x.0)) (put s d bs (sym of) same.touched_are);
    } in
    let grown = grown_listed t u s tables components list sites texts in
    let all = same_below t u outer inv.components inv.list grown below in
    record {
      kept = kept_listed t u s tables components list sites texts held inv site;
      grown = grown;
      site = s;
      here = ap (λ k. slice_get u.sites.items k) at ∙ ap (λ ss. slice_get ss (length t.sites.items)) sites ∙ get_next t.sites.items s;
      at = record {
        def = def ∙ sym of;
        round = subst (λ ks. AreRound u ks s.uptos.now c.scope) (sym same.outer_is) (subst (λ ps. AreRound u outer ps c.scope) (sym same.uptos_are) (round_same t u outer uptos c.scope all round));
        bound_is = bound ∙ put s d bs (sym of) same.touched_are;
      };
    }

-- a site's text is that of the site that is found
pub found_text : (t : Bodies) (number : ℕ) (s r : Site) (n : Instance) → slice_get t.sites.items number ≡ Some s → slice_get t.sites.items number ≡ Some r → IsAt t s n.closure n.bound
    → IsText t (record { site = Some number; items = r.def.now.items; kind = Some r.def.now.kind; outer = r.outer; uptos = r.uptos; params = r.def.now.params; touched = r.touched }) (body n)
found_text t number s r n e f at = let both : Some s ≡ Some r = sym e ∙ f in let same : s ≡ r = cc in site_text t number r n (subst (λ x. IsAt t x n.closure n.bound) same at)
