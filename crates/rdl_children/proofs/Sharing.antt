-- What the uses of an item share, and items one after the other.
use Rattle.std.proofs.Common.{◌≡◌, ◌≢◌, ◌∙◌, ℕ, ◌+◌, ◌<◌, ◌≤◌, ◌==◌, true, eqb-true, List, [], ◌∷◌, ◌++◌, length, get_or, drop, flat_map, map, take, Option, None, Some, slice_get, Ok, refl, sym, ap, subst, arith, append_assoc, append-nil}
use Rattle.std.specs.List.{AllByRecursion}
use Rattle.std.proofs.lemmas.List.{at_drop_all, at_drop_more, map-append, take_all, take_more}
use Rattle.rdl_base.specs.declared.fault.Fault.{Fault}
use Rattle.rdl_tree.specs.declared.expr.Name.{Name}
use Rattle.rdl_tree.specs.declared.item.Def.{Def}
use Rattle.rdl_tree.specs.declared.item.Inst.{Inst}
use Rattle.rdl_values.specs.Bodies as values
use Rattle.rdl_values.specs.Bodies.{Closure}
use Rattle.rdl_values.specs.Parameters as parameters
use Rattle.rdl_tree.specs.declared.item.Param.{Param}
use Rattle.rdl_tree.specs.declared.value.Bound.{Bound}
use Rattle.rdl_values.specs.Over.{IsOver}
use Rattle.rdl_values.specs.Overlaid.{AreApart, Plain, overlaid, plain_of}
use Rattle.rdl_values.specs.Seen.{bound_of}
use Rattle.rdl_values.specs.Values.{Outcome}
use Rattle.rdl_values.specs.declared.parameters.Parameters.{Parameters}
use Rattle.rdl_values.specs.Phase3.{of_use}
use Rattle.rdl_values.specs.Uses.{Seen, Use, parent_of, seen}
use Rattle.rdl_values.proofs.Plains.{plain-length}
use Rattle.rdl_uses.specs.Binding.{AreValues}
use Rattle.rdl_uses.specs.Given.{TypeUsed, given_in, pair_of, seens, use_by}
use Rattle.rdl_uses.specs.Placed.{IsParent}
use Rattle.rdl_uses.specs.declared.holder.Parent.{Parent}
use Rattle.rdl_uses.specs.declared.instances.SizedInst.{SizedInst}
use Rattle.rdl_children.specs.declared.item.ItemUses.{ItemUses}
use Rattle.rdl_bodies.specs.Kept.{AreBelow, AreKept}
use Rattle.rdl_bodies.specs.Opened.{IsListed}
use Rattle.rdl_bodies.specs.Sited.{AreRound, AreValued, IsOpenAs, def_at, values_over}
use Rattle.rdl_bodies.specs.declared.bodies.Bodies.{Bodies}
use Rattle.rdl_bodies.specs.declared.bodies.Body.{Body}
use Rattle.rdl_bodies.proofs.Adding.{kept_more}
use Rattle.rdl_bodies.proofs.Growing.{begins_length, below_more, grows_on, grows_same}
use Rattle.rdl_children.specs.Children.{AddsGiven, AddsOne, AreChildren, CanJudge, IsJudged, pair_in}
use Rattle.rdl_children.specs.Items.{AddsUses, AreItems, CanAdd, CanList, Extends, Gives, IsItem, Lists, outer_of, uptos_at}
use Rattle.rdl_children.specs.declared.child.Child.{Child}
use Rattle.rdl_children.proofs.Bounds.{bound_names}
use Rattle.rdl_children.proofs.Flat.{IsShared, all_children, none_bound, none_given, none_given_in}
use Rattle.rdl_children.proofs.Itemized.{children_append, children_stay, items_stay}
use Rattle.rdl_children.proofs.Reached.{below_drop}

-- Instances one after the other.

own-push : (P : Child → Type 0) (xs : List Child) (x : Child) → AllByRecursion P xs → P x → AllByRecursion P (xs ++ (x ∷ []))
own-push P [] x h p = (p, tt)
own-push P (y ∷ xs) x h p = (h.0, own-push P xs x h.1 p)

pub given_none : (site : ℕ) (alias : Option Name) (given : List SizedInst) (old : List Child) → AddsGiven site alias (take 0 given) old old
given_none site alias given old = ([], sym (append-nil old), record { pairs = none given; own = tt })
  where
    none : (gs : List SizedInst) → [] ≡ map pair_of (take 0 gs)
    none [] = refl
    none (g ∷ gs) = refl

pub given_more : (site : ℕ) (alias : Option Name) (given : List SizedInst) (k : ℕ) (g : SizedInst) (old now new : List Child) → k < length given → g ≡ get_or given k g → AddsGiven site alias (take k given) old now → AddsOne site alias g now new → AddsGiven site alias (take (k + 1) given) old new
given_more site alias given k g old now new l at h one =
    let next : take (k + 1) given ≡ take k given ++ (g ∷ []) = take_more given k g l ∙ ap (λ y. take k given ++ (y ∷ [])) (sym at) in (
      h.0 ++ (one.0 ∷ []),
      one.1 ∙ ap (λ xs. xs ++ (one.0 ∷ [])) h.1 ∙ append_assoc old h.0 (one.0 ∷ []),
      record {
        pairs = map-append pair_in h.0 (one.0 ∷ []) ∙ ap (λ xs. xs ++ (pair_in one.0 ∷ [])) h.2.pairs ∙ ap (λ p. map pair_of (take k given) ++ (p ∷ [])) one.2 ∙ sym (map-append pair_of (take k given) (g ∷ [])) ∙ ap (map pair_of) (sym next);
        own = own-push (λ x. (x.site ≡ site) × (x.alias ≡ alias)) h.0 one.0 h.2.own (one.3, one.4);
      },
    )

-- The uses of an item.

pub some_list : (t : Bodies) (y : Body) (r : ItemUses) (us : List Use) (all : List Seen) (i : IsItem t y r us all) → r.uses.given.items ≢ [] → i.list ≢ []
some_list t y r us all i some e = some (nothing r.uses.given.items (i.pairs ∙ ap (flat_map (given_in i.type)) (i.all_are ∙ ap (seens i.type us) e)))
  where
    nothing : (gs : List SizedInst) → map pair_of gs ≡ [] → gs ≡ []
    nothing [] q = refl
    nothing (g ∷ gs) q = cc

-- these are the values that are put over those that a definition's parameters have at all uses
abbrev pub ArePut : Parameters → List Bound → Type 0
ArePut p touched = (xs : Plain) (k : ℕ) (t : parameters.Bound) → IsOver p xs k t → map bound_of touched ≡ t

values-of : (ps : List Param) (o : Outcome parameters.Bound) (r : Option Parameters) (p : Parameters) (touched : List Bound) → AreValues ps o r → r ≡ Some p → ArePut p touched → o ≡ Ok (values_over ps touched)
values-of ps o r p touched h e put = let v = subst (AreValues ps o) e h in v.2 ∙ ap (λ t. Ok (overlaid (plain_of ps) t)) (sym (put (plain_of ps) (length ps) v.0 v.1))

apart-of : (ps : List Param) (o : Outcome parameters.Bound) (r : Option Parameters) (p : Parameters) → AreValues ps o r → r ≡ Some p → AreApart (plain_of ps)
apart-of ps o r p h e =
    let v = subst (AreValues ps o) e h in
    let size = plain-length ps in
    subst AreApart (take_all (length ps) (plain_of ps) (omega (arith, size))) v.1.apart

pub all_values : (t : Bodies) (y : Body) (r : ItemUses) (us : List Use) (all : List Seen) (i : IsItem t y r us all) (p : Parameters) (touched : List Bound) → i.list ≢ [] → r.uses.parameters ≡ Some p → ArePut p touched → (j : Inst) → parameters.bound_of (use_by i.type j) i.type.closure ≡ Ok (values_over r.found.def.now.params.now touched)
all_values t y r us all i p touched some e put j = values-of r.found.def.now.params.now (parameters.bound_of (use_by i.type j) i.type.closure) r.uses.parameters p touched (i.values some j) e put

pub apart_values : (t : Bodies) (y : Body) (r : ItemUses) (us : List Use) (all : List Seen) (i : IsItem t y r us all) (p : Parameters) → i.list ≢ [] → r.uses.parameters ≡ Some p → AreApart (plain_of r.found.def.now.params.now)
apart_values t y r us all i p some e = go i.list refl
  where
    go : (list : List Inst) → i.list ≡ list → AreApart (plain_of r.found.def.now.params.now)
    go [] q = absurd (some q)
    go (j ∷ js) q = apart-of r.found.def.now.params.now (parameters.bound_of (use_by i.type j) i.type.closure) r.uses.parameters p (i.values some j) e

pub valued_values : (t : Bodies) (y : Body) (r : ItemUses) (us : List Use) (all : List Seen) (i : IsItem t y r us all) (p : Parameters) (touched : List Bound) → i.list ≢ [] → r.uses.parameters ≡ Some p → ArePut p touched → AreValued r.found.def.now.params.now touched
valued_values t y r us all i p touched some e put = go i.list refl
  where
    of : Def → Type 0
    of d = map (λ x. x.0) (plain_of d.params.now) ≡ map (λ b. b.0) (values_over r.found.def.now.params.now touched)

    go : (list : List Inst) → i.list ≡ list → AreValued r.found.def.now.params.now touched
    go [] q = absurd (some q)
    go (j ∷ js) q = subst of (i.placed some).def (bound_names (use_by i.type j) i.type.closure (values_over r.found.def.now.params.now touched) (all_values t y r us all i p touched some e put j))

pub extends_same : (t : Bodies) → Extends t t
extends_same t = record { grown = grows_same t t refl refl refl ([], sym (append-nil t.sites.items)); kept = λ held k. k }

pub extends_on : (t u v : Bodies) → Extends t u → Extends u v → Extends t v
extends_on t u v f g = record { grown = grows_on t u v f.grown g.grown; kept = λ held k. g.kept held (f.kept held k) }

module _ (t u : Bodies) (y : Body) (r : ItemUses) (q : Parameters) (touched : List Bound) (put : ArePut q touched) (outer uptos : List ℕ) (site : ℕ) (old new : List Child) (o : outer ≡ outer_of y r.found) (p : uptos ≡ uptos_at y r.found) (can : CanAdd t y r) (some : r.uses.given.items ≢ []) (bound : r.uses.parameters ≡ Some q)
    (listed : (held : List Fault) (c : Closure) (bs : parameters.Bound) → AreKept t held → c.def ≡ r.found.def.now → AreRound t outer uptos c.scope → bs ≡ values_over r.found.def.now.params.now touched → IsListed t u held site c bs) (added : AddsGiven site r.alias r.uses.given.items old new) where
  listed-for : (us : List Use) (all : List Seen) (i : IsItem t y r us all) (held : List Fault) → AreKept t held → IsListed t u held site i.type.closure (values_over r.found.def.now.params.now touched)
  listed-for us all i held k =
      let placed = i.placed (some_list t y r us all i some) in
      listed held i.type.closure (values_over r.found.def.now.params.now touched) k placed.def (subst (λ ks. AreRound t ks uptos i.type.closure.scope) (sym o) (subst (λ ps. AreRound t (outer_of y r.found) ps i.type.closure.scope) (sym p) placed.round)) refl

  shared : (us : List Use) (all : List Seen) (i : IsItem t y r us all) → IsShared u i.type site r.alias
  shared us all i =
      let at = listed-for us all i can.held can.kept in
      record {
        bound = values_over r.found.def.now.params.now touched;
        values = all_values t y r us all i q touched (some_list t y r us all i some) bound put;
        of = at.site;
        here = at.here;
        at = at.at;
        alias_is = i.alias_is;
      }

  pub uses_added : AddsUses t u y r old new
  uses_added = record {
    more = record { grown = (listed-for can.us can.all can.item can.held can.kept).grown; kept = λ held k. (listed-for can.us can.all can.item held k).kept };
    added = added.0;
    new_is = added.1;
    children = λ us all i. subst (AreChildren u added.0) (sym i.all_are) (all_children u i.type site r.alias (shared us all i) us i.list added.0 (added.2.pairs ∙ i.pairs ∙ ap (flat_map (given_in i.type)) i.all_are) added.2.own);
  }

-- an item of which no use gives a node
pub uses_none : (t : Bodies) (y : Body) (r : ItemUses) (old : List Child) → r.uses.given.items ≡ [] → AddsUses t t y r old old
uses_none t y r old e = record {
  more = extends_same t;
  added = [];
  new_is = sym (append-nil old);
  children = λ us all i. subst (AreChildren t []) (sym i.all_are) (none_given_in t i.type us i.list (ap (map pair_of) (sym e) ∙ i.pairs ∙ ap (flat_map (given_in i.type)) i.all_are));
}

-- nor where the parameters have no values
pub uses_unbound : (t : Bodies) (y : Body) (r : ItemUses) (old : List Child) → r.uses.parameters ≡ None → AddsUses t t y r old old
uses_unbound t y r old e = record {
  more = extends_same t;
  added = [];
  new_is = sym (append-nil old);
  children = λ us all i. subst (AreChildren t []) (sym i.all_are) (of us i.type i.list i.values);
}
  where
    of : (us : List Use) (type : TypeUsed) (list : List Inst) → (list ≢ [] → (j : Inst) → AreValues r.found.def.now.params.now (parameters.bound_of (use_by type j) type.closure) r.uses.parameters) → AreChildren t [] (seens type us list)
    of us type [] h = none_bound_nil
      where
        none_bound_nil : AreChildren t [] []
        none_bound_nil = none_given t [] refl
    of us type (i ∷ is) h = none_bound type us (i ∷ is) t (λ j. subst (AreValues r.found.def.now.params.now (parameters.bound_of (use_by type j) type.closure)) e (h (λ q. cc) j))

-- Items one after the other.

-- Of the uses some are listed, and these items are left.
pub record AreListed (t : Bodies) (y : Body) (rs : List ItemUses) (xs : List Child) (ss : List Seen) : Type 0 where
  pub done : List Seen
  pub rest : List Seen
  pub split : ss ≡ done ++ rest
  pub children : AreChildren t xs done
  pub left : AreItems t y rs rest

pub listed_none : (t : Bodies) (y : Body) (rs : List ItemUses) (ss : List Seen) → AreItems t y rs ss → AreListed t y rs [] ss
listed_none t y rs ss h = record { done = []; rest = ss; split = refl; children = none_given t [] refl; left = h }

pub listed_more : (t u : Bodies) (held : List Fault) (y : Body) (r : ItemUses) (rs : List ItemUses) (xs ys : List Child) (ss : List Seen) → AreKept t held → AreBelow (length t.tables.items) y.numbers.now → AreListed t y (r ∷ rs) xs ss → AddsUses t u y r xs ys → AreListed u y rs ys ss
listed_more t u held y r rs xs ys ss kept below h adds =
    let i = h.left in
    let grown = adds.more.grown in
    let part = h.done ++ (i.0 ++ i.2) in
    record {
      done = part;
      rest = i.3;
      split = h.split ∙ ap (λ xs. h.done ++ xs) i.4 ∙ sym (append_assoc h.done (i.0 ++ i.2) i.3);
      children = subst (λ zs. AreChildren u zs part) (sym adds.new_is) (children_append u xs adds.added h.done (i.0 ++ i.2) (children_stay t u held kept grown xs h.done h.children) (children_append u [] adds.added i.0 i.2 (none_given u i.0 i.5) (adds.children i.1 i.2 i.6)));
      left = items_stay t u held kept grown y below rs i.3 i.7;
    }

pub listed_all : (t : Bodies) (y : Body) (xs : List Child) (ss : List Seen) → AreListed t y [] xs ss → AreChildren t xs ss
listed_all t y xs ss h = subst (λ zs. AreChildren t zs ss) (append-nil xs) (subst (AreChildren t (xs ++ [])) (sym h.split) (children_append t xs [] h.done h.rest h.children (none_given t h.rest h.left)))

-- What the loop over the items keeps.
pub record DoneUses (t u : Bodies) (y : Body) (rs : List ItemUses) (k : ℕ) (xs : List Child) : Type 0 where
  pub more : Extends t u
  pub listed : (ss : List Seen) → AreItems t y rs ss → AreListed u y (drop k rs) xs ss

pub done_none : (t : Bodies) (y : Body) (rs : List ItemUses) (xs : List Child) → xs ≡ [] → DoneUses t t y rs 0 xs
done_none t y rs xs e = record { more = extends_same t; listed = λ ss h. subst (λ zs. AreListed t y rs zs ss) (sym e) (listed_none t y rs ss h) }

module _ (t u : Bodies) (y : Body) (rs : List ItemUses) (k : ℕ) (r : ItemUses) (xs : List Child) (can : CanList t y rs) (l : k < length rs) (at : r ≡ get_or rs k r) (h : DoneUses t u y rs k xs) where
  kept-now : AreKept u can.held
  kept-now = h.more.kept can.held can.kept

  below-now : AreBelow (length u.tables.items) y.numbers.now
  below-now = below_more (length t.tables.items) (length u.tables.items) y.numbers.now (begins_length t.tables.items u.tables.items h.more.grown.tables) can.below

  next : (ss : List Seen) → AreItems t y rs ss → AreListed u y (r ∷ drop (k + 1) rs) xs ss
  next ss i = subst (λ zs. AreListed u y zs xs ss) (at_drop_more (λ zs. zs) rs k r l ∙ ap (λ x. x ∷ drop (k + 1) rs) (sym at)) (h.listed ss i)

  pub can_next : CanAdd u y r
  can_next =
      let n = (next can.all can.items).left in
      record { held = can.held; kept = kept-now; below = below-now; us = n.1; all = n.2; item = n.6 }

  pub done_more : (v : Bodies) (ys : List Child) → AddsUses u v y r xs ys → DoneUses t v y rs (k + 1) ys
  done_more v ys adds = record {
    more = extends_on t u v h.more adds.more;
    listed = λ ss i. listed_more u v can.held y r (drop (k + 1) rs) xs ys ss kept-now below-now (next ss i) adds;
  }

pub done_all : (t u : Bodies) (y : Body) (rs : List ItemUses) (k : ℕ) (xs ys : List Child) → length rs ≤ k → ys ≡ xs → DoneUses t u y rs k xs → Lists t u y rs ys
done_all t u y rs k xs ys l e h = record {
  more = h.more;
  children = λ ss i. subst (λ zs. AreChildren u zs ss) (sym e) (listed_all u y xs ss (subst (λ zs. AreListed u y zs xs ss) (at_drop_all (λ zs. zs) rs k l) (h.listed ss i)));
}

pub empty_list : {X : Type 0} (xs : List X) (n : ℕ) → n ≡ length xs → (n == 0) ≡ true → xs ≡ []
empty_list [] n e z = refl
empty_list (x ∷ xs) n e z = let none = eqb-true n 0 z in absurd (omega (arith, e, none))

-- What may be asked for an item that may be added.
module _ (t : Bodies) (y : Body) (r : ItemUses) (can : CanAdd t y r) (some : r.uses.given.items ≢ []) (outer uptos : List ℕ) (o : outer ≡ outer_of y r.found) (p : uptos ≡ uptos_at y r.found) where
  pub can_below : AreBelow (length t.tables.items) outer
  can_below = subst (AreBelow (length t.tables.items)) (sym o) (below_drop (length t.tables.items) r.found.level y.numbers.now can.below)

  pub can_defined : def_at t.components.items outer uptos ≡ Some r.found.def.now
  can_defined =
      let placed = can.item.placed (some_list t y r can.us can.all can.item some) in
      ap (λ ks. def_at t.components.items ks uptos) o ∙ ap (λ ps. def_at t.components.items (outer_of y r.found) ps) p ∙ placed.defined ∙ ap Some placed.def

pub can_apart : (t : Bodies) (y : Body) (r : ItemUses) (can : CanAdd t y r) (p : Parameters) → r.uses.given.items ≢ [] → r.uses.parameters ≡ Some p → AreApart (plain_of r.found.def.now.params.now)
can_apart t y r can p some e = apart_values t y r can.us can.all can.item p (some_list t y r can.us can.all can.item some) e

pub can_valued : (t : Bodies) (y : Body) (r : ItemUses) (can : CanAdd t y r) (p : Parameters) (touched : List Bound) → r.uses.given.items ≢ [] → r.uses.parameters ≡ Some p → ArePut p touched → AreValued r.found.def.now.params.now touched
can_valued t y r can p touched some e put = valued_values t y r can.us can.all can.item p touched (some_list t y r can.us can.all can.item some) e put

-- A whole body.
module _ (t : Bodies) (before after : List Fault) (number : ℕ) (y : Body) (parent : Parent) (rs : List ItemUses) (inv : AreKept t before) (here : slice_get t.list.items number ≡ Some y)
    (gives : (above : List values.Body) (b : values.Body) → IsOpenAs t y b → IsParent parent (parent_of b) → Gives t y before after rs (seen above b)) where
  same-body : (x : Body) → slice_get t.list.items number ≡ Some x → x ≡ y
  same-body x e = let both : Some x ≡ Some y = sym e ∙ here in cc

  pub can_list : CanJudge t number parent → CanList t y rs
  can_list can =
      let g = gives [] can.shown (subst (λ x. IsOpenAs t x can.shown) (same-body can.body can.here) can.open_) can.stands in
      record { held = before; kept = inv; below = (inv.bodies number y here).below; all = seen [] can.shown; items = g.items }

  pub judged_all : (u : Bodies) (xs : List Child) → Lists t u y rs xs → (above : List values.Body) (x : Body) (b : values.Body) → slice_get t.list.items number ≡ Some x → IsOpenAs t x b → IsParent parent (parent_of b) → IsJudged t u before after xs (seen above b)
  judged_all u xs l above x b e open_ stands =
      let g = gives above b (subst (λ z. IsOpenAs t z b) (same-body x e) open_) stands in
      record {
        kept = l.more.kept after (subst (AreKept t) (sym g.noted) (kept_more t before (flat_map of_use (seen above b)) inv));
        grown = l.more.grown;
        noted = g.noted;
        children = l.children (seen above b) g.items;
      }
