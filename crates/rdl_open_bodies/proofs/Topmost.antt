-- The signals at the root, and the top.
use Rattle.std.proofs.Common.{◌≡◌, ◌∙◌, ℕ, ◌+◌, ◌≤◌, Bool, true, false, ◌&&◌, cond, List, [], ◌∷◌, ◌++◌, length, take, map, flat_map, slice_get, Option, None, Some, option_and_then, option_to_list, MatchOption, Ok, refl, sym, ap, subst, arith, append_assoc, append-nil, inl, inr}
use Rattle.std.specs.List.{AllByRecursion}
use Rattle.std.proofs.lemmas.List.{length-append, take_all}
use Rattle.rdl_base.specs.declared.fault.Fault.{Fault}
use Rattle.rdl_tree.specs.declared.expr.Name.{Name}
use Rattle.rdl_tree.specs.declared.item.Def.{Def}
use Rattle.rdl_tree.specs.declared.item.Kind.{Kind}
use Rattle.rdl_tree.specs.declared.item.Kind.TheVariants as kind
use Rattle.std.specs.Borrow.{Bor}
use Rattle.rdl_tree.specs.declared.item.Item.{Item}
use Rattle.rdl_tree.specs.declared.item.Param.{Param}
use Rattle.rdl_tree.specs.declared.item.Source.{Source}
use Rattle.rdl_tree.specs.declared.node.Elab.{Elab}
use Rattle.rdl_tree.specs.declared.node.Node.{Node, out-Node}
use Rattle.rdl_tree.specs.declared.value.Env.{Env, Env', out-Env}
use Rattle.rdl_values.specs.Bodies.{Closure, around, component_of, of_signal, below_top, scope_at, standing, standing_from}
use Rattle.rdl_values.specs.Elaborated.{AreTreesOf, IsElab, Says, more, node, nodes_of, none, top_name}
use Rattle.rdl_values.specs.Elaboration.{IsClean}
use Rattle.rdl_values.specs.Given.{IsGivenBy}
use Rattle.rdl_values.specs.Instances.{Instance, body, children, given_by, kind_of, most_names, nodes, signals, top_of, with_below}
use Rattle.rdl_values.specs.NoNode.{is_signal, may_hold}
use Rattle.rdl_values.specs.Paths.{at_root, in_node, path_in}
use Rattle.rdl_values.specs.Seen.{around_of, bound_of}
use Rattle.rdl_values.specs.Top.{is_addrmap, is_wanted, root, top_at, top_named, top_seen, top_use, top_use_of}
use Rattle.rdl_values.specs.Uses.{Seen, Use, form_of, seen}
use Rattle.rdl_values.specs.Overlaid.{AreApart, overlaid, plain_of}
use Rattle.rdl_values.specs.Parameters as parameters
use Rattle.rdl_values.specs.Parameters.{Bound}
use Rattle.rdl_values.specs.Values.{Around, Names, Val}
use Rattle.rdl_values.specs.Views.{item_is}
use Rattle.rdl_values.proofs.Clean.{Somewhere, nearest_is}
use Rattle.rdl_values.proofs.Given.{IsAtRoot, given-all, held, signals-given}
use Rattle.rdl_values.proofs.Touched.{overlaid_all}
use Rattle.plain_lemmas.proofs.Lists.{each-imp}
use Rattle.rdl_values.proofs.Numbered.{At, Deep, bottom}
use Rattle.rdl_uses.specs.Parts.{StandsAt}
use Rattle.rdl_bodies.specs.Kept.{AreKept}
use Rattle.rdl_bodies.specs.Opened.{IsListed}
use Rattle.rdl_bodies.specs.Sited.{AreRound, AreValued, HaveNames, IsOpenAs, def_at, values_over}
use Rattle.rdl_bodies.specs.declared.bodies.Bodies.{Bodies}
use Rattle.rdl_bodies.specs.declared.bodies.Body.{Body}
use Rattle.rdl_bodies.proofs.Adding.{names_bound}
use Rattle.rdl_children.specs.Children.{AreChildren}
use Rattle.rdl_children.specs.declared.child.Child.{Child}
use Rattle.rdl_children.proofs.Bounds.{bound_apart, bound_names}
use Rattle.rdl_children.proofs.Reached.{Reached, found_at, here}
use Rattle.rdl_top.specs.declared.top.Top.{Top}
use Rattle.rdl_scopes.specs.Scopes.{Shows}
use Rattle.rdl_uses.specs.Placed.{IsParent}
use Rattle.rdl_walk.specs.Walked.{FitsNode}
use Rattle.rdl_walk.specs.Walking.{AreWalking, CanAsk, IsAsked, parent_at}
use Rattle.rdl_walk.specs.declared.walk.Walk.{Walk}
use Rattle.rdl_walk.proofs.Steps.{walking_more}
use Rattle.rdl_targets.specs.At as targets
use Rattle.rdl_targets.specs.At.{AreAt, id_of}
use Rattle.rdl_values.specs.Lineages.{lineages_of}
use Rattle.rdl_open_bodies.specs.Spots.{AreSpots, HasParts, IsOpenAt, Sees}
use Rattle.rdl_open_bodies.specs.Starts.{AreBodiesAt, AreInside, AreNodesOpen, AreStarts, AreUsesIn, CanOpenNode, IsRoundOf, IsStart, IsTopStart, below_top_of}
use Rattle.rdl_open_bodies.specs.declared.spots.Round.{Round}
use Rattle.rdl_open_bodies.specs.declared.spots.Spot.{Spot}
use Rattle.rdl_open_bodies.specs.declared.spots.Start.{Start}
use Rattle.rdl_open_bodies.proofs.Cuts.{reached_cut}
use Rattle.rdl_open_bodies.proofs.Growing.{at_node, inside_none, nodes_length, nodes_on}
use Rattle.rdl_open_bodies.proofs.Staying.{open_alike, sees_stay}
use Rattle.rdl_open_bodies.proofs.Uses.{uses_in}

-- Numbers of the signals and of the top.

no-trees : {beside rs : List Node} {at after : ℕ} (ns : List Instance) → ns ≡ [] → AreTreesOf beside at rs ns after → at ≡ after
no-trees [] e none = refl
no-trees (n ∷ ns) e ts = cc

signals-deep : (s : Source) → AllByRecursion (Deep 0) (signals s)
signals-deep s = each-imp IsAtRoot (Deep 0) (signals s) (λ n h. of n h) (signals-given s)
  where
    of : (n : Instance) → IsAtRoot n → Deep 0 n
    of n h =
        let path : n.path ≡ of_signal (record { name = h.by.use_.name.text.now; index = h.given_.index }) = h.given_.path_is ∙ ap (λ p. path_in p (record { name = h.by.use_.name.text.now; index = h.given_.index })) h.in_body in
        let kind : is_signal (kind_of n) ≡ true = subst (λ p. may_hold p (kind_of n) ≡ true) h.in_body (held h.by n h.given_) in
        subst (λ p. At p 0 n) (sym path) kind

-- nodes stand at their numbers, one by one
abbrev StandAt : List Instance → List Node → List Instance → Type 0
StandAt all [] [] = Unit {0}
StandAt all (r ∷ rs) (n ∷ ns) = (slice_get all (out-Node r).id ≡ Some n) × StandAt all rs ns
StandAt all _ _ = ⊥

get-behind : (xs ys : List Instance) (n : Instance) → slice_get (xs ++ (n ∷ ys)) (length xs) ≡ Some n
get-behind [] ys n = refl
get-behind (x ∷ xs) ys n = get-behind xs ys n

signals-stand : {beside rs : List Node} {at after : ℕ} {ns : List Instance} (before rest : List Instance) → AllByRecursion (Deep 0) ns → AreTreesOf beside at rs ns after → length before ≡ at → StandAt (before ++ (ns ++ rest)) rs ns × (after ≡ at + length ns)
signals-stand before rest d none size = (tt, omega arith)
signals-stand before rest d (more {r = r} {n = n} {rs = rs} {ns = ns} {at = at} (node i s ts) us) size =
    let next = no-trees (children n) (bottom n d.0) ts in
    let long = length-append before (n ∷ []) in
    let rec = signals-stand (before ++ (n ∷ [])) rest d.1 us (omega (arith, long, size, next)) in
    let here_ = ap (slice_get (before ++ (n ∷ (ns ++ rest)))) (i ∙ sym size) ∙ get-behind before (ns ++ rest) n in
    ((here_, subst (λ all. StandAt all rs ns) (append_assoc before (n ∷ []) (ns ++ rest)) rec.0), (let l = rec.1 in omega (arith, l, next)))

to-at : (e : Elab) (rs : List Node) (ns : List Instance) → StandAt (nodes_of e) rs ns → AreAt (lineages_of e) (map id_of rs) ns
to-at e [] [] h = tt
to-at e [] (n ∷ ns) h = absurd h
to-at e (r ∷ rs) [] h = absurd h
to-at e (r ∷ rs) (n ∷ ns) h = (at_node e (out-Node r).id n h.0, to-at e rs ns h.1)

module _ (e : Elab) (clean : IsClean e) where
  abbrev pub s : Source
  s = e.source.now

  abbrev pub w : Option (List ℕ)
  w = Some (top_name e)

  abbrev pub tree : IsElab w s e
  tree = clean.elaborated.tree

  signals-here : StandAt (nodes w s) e.signals.now (signals s) × (tree.between ≡ 0 + length (signals s))
  unfolding nodes
  signals-here = signals-stand [] (flat_map (with_below most_names) (top_of w s)) (signals-deep s) tree.signals_ refl

  pub signals_at : AreAt (lineages_of e) (map id_of e.signals.now) (signals s)
  signals_at = to-at e e.signals.now (signals s) signals-here.0

  -- the top, as a node and as an instance
  pub record IsTop : Type 0 where
    pub n : Instance
    pub top_is : top_of w s ≡ n ∷ []
    pub number_is : (out-Node e.top.now).id ≡ tree.between
    pub says : Says [] e.top.now n

  pub top_here : IsTop
  top_here = go (top_of w s) refl tree.top
    where
      go : (ns : List Instance) → top_of w s ≡ ns → AreTreesOf [] tree.between (e.top.now ∷ []) ns e.count → IsTop
      go [] q t = elim t [ ]
      go (n ∷ []) q (more (node i h ts) us) = record { n = n; top_is = q; number_is = i; says = h }
      go (n ∷ m ∷ ns) q (more t us) = elim us [ ]

  pub top_at_number : targets.IsAt (lineages_of e) (out-Node e.top.now).id top_here.n
  unfolding nodes
  top_at_number =
      let t = top_here in
      let size = signals-here.1 in
      let first : flat_map (with_below most_names) (top_of w s) ≡ t.n ∷ (flat_map (with_below 31) (children t.n) ++ []) = ap (flat_map (with_below most_names)) t.top_is in
      at_node e (out-Node e.top.now).id t.n (ap (slice_get (nodes w s)) (t.number_is ∙ omega (arith, size)) ∙ ap (λ ns. slice_get (signals s ++ ns) (length (signals s))) first ∙ get-behind (signals s) (flat_map (with_below 31) (children t.n) ++ []) t.n)

-- The root's body.

pub root_bodies : (e : Elab) → AreBodiesAt e (None ∷ []) (scope_at (root e.source.now) (root e.source.now).items)
root_bodies e = (record { of = root e.source.now; body_is = refl; node_is = refl; names_are = refl; outer_is = refl; front = ([], append-nil e.source.now.items.now) }, tt)

pub root_sees : (e : Elab) (t : Bodies) → IsOpenAt t 0 (root e.source.now) → Sees t 0 (around (scope_at (root e.source.now) (root e.source.now).items))
root_sees e t h = record { open_ = h.open_; here = h.here; alike = open_alike t h.open_ (root e.source.now) h.is }

pub stands_at_root : StandsAt (record { depth = 1; prefix = 0 }) at_root
stands_at_root = record { depth = refl; prefix = λ s. omega arith }

-- The signals.

pub root_stands : (e : Elab) (t : Bodies) (h : IsOpenAt t 0 (root e.source.now)) → IsParent (parent_at h.open_.kind (record { depth = 1; prefix = 0 })) at_root
root_stands e t h = holds_root h.open_.kind h.is.kind_is
  where
    holds_root : (k : Option Kind) → None ≡ k → IsParent (parent_at k (record { depth = 1; prefix = 0 })) at_root
    holds_root None q = record { holder = tt; standing = stands_at_root }
    holds_root (Some k) q = cc

pub can_ask_root : (e : Elab) (t : Bodies) → IsOpenAt t 0 (root e.source.now) → CanAsk t 0 (record { depth = 1; prefix = 0 })
can_ask_root e t h = record { body = h.open_; here = h.here; shown = root e.source.now; open_ = h.is; stands = root_stands e t h }

pub signals_inside : (e : Elab) (clean : IsClean e) (w u : Walk) (xs : List Child) (round : Round) (starts : List Start) (most : ℕ) → AreWalking w → IsOpenAt w.bodies 0 (root e.source.now) → IsAsked w u xs (seen [] (root e.source.now))
    → round.within ≡ 0 → round.standing ≡ record { depth = 1; prefix = 0 } → round.chain.now ≡ None ∷ [] → most ≡ length e.signals.now
    → ((ss : List Seen) → AreChildren u.bodies xs ss → AreUsesIn at_root (scope_at (root e.source.now) (root e.source.now).items) ss → IsRoundOf e u.bodies round at_root 0 (scope_at (root e.source.now) (root e.source.now).items) → length (flat_map given_by ss) ≤ most → AreStarts e u.bodies starts 0 (flat_map given_by ss))
    → AreInside e w u starts 0 (signals e.source.now)
signals_inside e clean w u xs round starts most inv open_ h within standing chain size starts_of =
    let long = nodes_length e e.signals.now (signals e.source.now) (signals_at e clean) in
    record {
      walking = h.walking;
      grown = h.grown;
      starts = starts_of (seen [] (root e.source.now)) h.children (uses_in [] (root e.source.now)) (record {
        stands = subst (λ a. StandsAt a at_root) (sym standing) stands_at_root;
        fits = refl;
        sees = subst (λ k. Sees u.bodies k (around (scope_at (root e.source.now) (root e.source.now).items))) (sym within) (sees_stay w.bodies u.bodies w.failures inv.kept h.grown 0 _ (root_sees e w.bodies open_));
        bodies = subst (λ ks. AreBodiesAt e ks (scope_at (root e.source.now) (root e.source.now).items)) (sym chain) (root_bodies e);
      }) (omega (arith, long, size));
    }

-- The top.

bound-in : (env : Env) (names : Names) (ws : Around) → around_of env ≡ names ∷ ws → map bound_of (out-Env env).bound.now ≡ names.bound
unfolding out-Env denote.Hole.Carrier.out
bound-in (Env' bs es outer) names ws q = ap (λ xs. first-bound xs) q
  where
    first-bound : Around → List (List ℕ × Val)
    first-bound [] = []
    first-bound (n ∷ xs) = n.bound

some-is : {X : Type 0} (x y : X) → Some x ≡ Some y → x ≡ y
some-is x y q = cc

chosen : (b : Bool) (x u : Use) → cond b (Some x) None ≡ Some u → x ≡ u
chosen true x u q = some-is x u q
chosen false x u q = cc

module _ (s : Source) (w : List ℕ) (u : Use) where
  by-name : (before : List Item) (d : Def) (o : Option Name) → top_named (Some w) (scope_at (root s) before) d o ≡ Some u → u.closure ≡ Some (record { def = d; scope = scope_at (root s) before })
  by-name before d None q = cc
  by-name before d (Some n) q = sym (ap (λ x. x.closure) (chosen (is_addrmap d.kind && is_wanted (Some w) n) (top_use (scope_at (root s) before) d n) u q))

  top-from : (before is : List Item) → before ++ is ≡ s.items.now → Somewhere (λ i. top_at (Some w) s i ≡ Some u) (standing_from before is) → (c : Closure) → u.closure ≡ Some c → Reached (scope_at (root s) s.items.now) c
  top-from before [] q f c at = absurd f
  top-from before (i ∷ is) q (inl f) c at = go (component_of (item_is i)) refl f
    where
      go : (o : Option Def) → component_of (item_is i) ≡ o → option_and_then (λ d. top_named (Some w) (scope_at (root s) before) d d.name) o ≡ Some u → Reached (scope_at (root s) s.items.now) c
      go None r g = cc
      go (Some d) r g =
          let same : record { def = d; scope = scope_at (root s) before } ≡ c = some-is _ c (sym (by-name before d d.name g) ∙ at) in
          subst (Reached (scope_at (root s) s.items.now)) same (here before refl (record { item = i; rest = is; split = sym q; is = r }))
  top-from before (i ∷ is) q (inr f) c at = top-from (before ++ (i ∷ [])) is (append_assoc before (i ∷ []) is ∙ q) f c at

  pub top_reached : top_use_of (Some w) s ≡ Some u → (c : Closure) → u.closure ≡ Some c → Reached (scope_at (root s) s.items.now) c
  top_reached q c at = top-from [] s.items.now refl (nearest_is (top_at (Some w) s) (standing s.items.now) u q) c at

-- and the definition is an address map
module _ (s : Source) (w : List ℕ) (u : Use) where
  both-hold : (a b : Bool) (x : Use) → cond (a && b) (Some x) None ≡ Some u → a ≡ true
  both-hold true b x q = refl
  both-hold false b x q = cc

  kind-named : (before : List Item) (d : Def) (o : Option Name) → top_named (Some w) (scope_at (root s) before) d o ≡ Some u → (c : Closure) → u.closure ≡ Some c → is_addrmap c.def.kind ≡ true
  kind-named before d None q c at = cc
  kind-named before d (Some n) q c at =
      let same : record { def = d; scope = scope_at (root s) before } ≡ c = some-is _ c (sym (by-name s w u before d (Some n) q) ∙ at) in
      subst (λ x. is_addrmap x.def.kind ≡ true) same (both-hold (is_addrmap d.kind) (is_wanted (Some w) n) (top_use (scope_at (root s) before) d n) q)

  kind-from : (is : List (List Item × Item)) → Somewhere (λ i. top_at (Some w) s i ≡ Some u) is → (c : Closure) → u.closure ≡ Some c → is_addrmap c.def.kind ≡ true
  kind-from [] f c at = absurd f
  kind-from (i ∷ is) (inl f) c at = go (component_of (item_is i.1)) f
    where
      go : (o : Option Def) → option_and_then (λ d. top_named (Some w) (scope_at (root s) i.0) d d.name) o ≡ Some u → is_addrmap c.def.kind ≡ true
      go None g = cc
      go (Some d) g = kind-named i.0 d d.name g c at
  kind-from (i ∷ is) (inr f) c at = kind-from is f c at

  pub top_kind : top_use_of (Some w) s ≡ Some u → (c : Closure) → u.closure ≡ Some c → is_addrmap c.def.kind ≡ true
  top_kind q c at = kind-from (standing s.items.now) (nearest_is (top_at (Some w) s) (standing s.items.now) u q) c at

is-addrmap : (k : Kind) → is_addrmap k ≡ true → k ≡ kind.Addrmap
is-addrmap kind.Addrmap q = refl
is-addrmap _ q = cc

pub given_top : (s : Source) (w : List ℕ) (n : Instance) → top_of (Some w) s ≡ n ∷ [] → (u : Use) × (top_use_of (Some w) s ≡ Some u) × IsGivenBy (top_seen u) n
given_top s w n q = go (top_use_of (Some w) s) refl q
  where
    first : (ns : List Instance) (u : Use) → AllByRecursion (IsGivenBy (top_seen u)) ns → ns ++ [] ≡ n ∷ [] → IsGivenBy (top_seen u) n
    first [] u h r = cc
    first (m ∷ ns) u h r = let same : m ≡ n = cc in subst (IsGivenBy (top_seen u)) same h.0

    go : (o : Option Use) → top_use_of (Some w) s ≡ o → flat_map (λ u. given_by (top_seen u)) (option_to_list o) ≡ n ∷ [] → (u : Use) × (top_use_of (Some w) s ≡ Some u) × IsGivenBy (top_seen u) n
    go None r g = cc
    go (Some u) r g = (u, r, first (given_by (top_seen u)) u (given-all (top_seen u)) g)

-- all values of a use, put over those of the text, are the same
over-itself : (u : Use) (c : Closure) (b : Bound) → parameters.bound_of u c ≡ Ok b → b ≡ overlaid (plain_of c.def.params.now) b
over-itself u c b h = overlaid_all u c b b h (record { same = λ n v q. q; all = λ k p e. inl refl })

-- what was found is the top
module _ (e : Elab) (clean : IsClean e) (t : Top) (means : top_use_of (Some (top_name e)) e.source.now ≡ Some (top_use (scope_at (root e.source.now) (take t.position e.source.now.items.now)) t.def.now t.name)) where
  abbrev n : Instance
  n = (top_here e clean).n

  abbrev u : Use
  u = top_use (scope_at (root e.source.now) (take t.position e.source.now.items.now)) t.def.now t.name

  pub given : IsGivenBy (top_seen u) n
  given =
      let g = given_top e.source.now (top_name e) n (top_here e clean).top_is in
      subst (λ x. IsGivenBy (top_seen x) n) (some-is g.0 u (sym g.1 ∙ means)) g.2

  pub closure_is : record { def = t.def.now; scope = scope_at (root e.source.now) (take t.position e.source.now.items.now) } ≡ n.closure
  closure_is = some-is _ n.closure given.closure_is

  pub reached : Reached (scope_at (root e.source.now) e.source.now.items.now) n.closure
  reached = top_reached e.source.now (top_name e) u means n.closure given.closure_is

  bound_is : n.bound ≡ map bound_of (out-Env (out-Node e.top.now).env.now).bound.now
  bound_is = sym (bound-in (out-Node e.top.now).env.now (body n).names (around n.closure.scope) (top_here e clean).says.env ∙ names_bound (around n.closure.scope) n.bound n.closure.def.items.now)

  pub values_are : n.bound ≡ values_over t.def.now.params.now (out-Env (out-Node e.top.now).env.now).bound.now
  values_are = over-itself (top_seen u).use_ n.closure n.bound given.bound_is ∙ ap (λ c. overlaid (plain_of c.def.params.now) n.bound) (sym closure_is) ∙ ap (overlaid (plain_of t.def.now.params.now)) bound_is

  pub top_apart : AreApart (plain_of t.def.now.params.now)
  top_apart = subst (λ c. AreApart (plain_of c.def.params.now)) (sym closure_is) (bound_apart (top_seen u).use_ n.closure n.bound given.bound_is)

  pub top_valued : AreValued t.def.now.params.now (out-Env (out-Node e.top.now).env.now).bound.now
  top_valued = ap (λ c. map (λ x. x.0) (plain_of c.def.params.now)) closure_is ∙ bound_names (top_seen u).use_ n.closure n.bound given.bound_is ∙ ap (map (λ b. b.0)) values_are

  module _ (b : Bodies) (x : Body) (open_ : IsOpenAs b x (root e.source.now)) (uptos : List ℕ) (ups : uptos ≡ t.position ∷ x.uptos.now) where
    shown-all : Shows b.tables.items b.components.items x.numbers.now (length x.items.now ∷ x.uptos.now) (scope_at (root e.source.now) e.source.now.items.now)
    shown-all =
        let whole : take (length x.items.now) x.items.now ≡ e.source.now.items.now = take_all (length x.items.now) x.items.now (omega arith) ∙ sym open_.items_are in
        subst (λ is. Shows b.tables.items b.components.items x.numbers.now (length x.items.now ∷ x.uptos.now) (scope_at (root e.source.now) is)) whole (open_.shown (length x.items.now))

    shown-top : Shows b.tables.items b.components.items x.numbers.now (t.position ∷ x.uptos.now) n.closure.scope
    shown-top =
        subst (λ c. Shows b.tables.items b.components.items x.numbers.now (t.position ∷ x.uptos.now) c.scope) closure_is
        (subst (λ is. Shows b.tables.items b.components.items x.numbers.now (t.position ∷ x.uptos.now) (scope_at (root e.source.now) (take t.position is))) (sym open_.items_are) (open_.shown t.position))

    pub top_round : AreRound b x.numbers.now uptos n.closure.scope
    top_round = subst (λ us. AreRound b x.numbers.now us n.closure.scope) (sym ups) (record {
      shown = shown-top;
      names = subst (λ c. HaveNames b.list.items x.numbers.now (around c.scope)) closure_is open_.names;
    })

    pub top_defined : def_at b.components.items x.numbers.now uptos ≡ Some t.def.now
    top_defined =
        ap (def_at b.components.items x.numbers.now) ups
        ∙ (found_at b.tables.items b.components.items x.numbers.now (length x.items.now ∷ x.uptos.now) (scope_at (root e.source.now) e.source.now.items.now) n.closure 0 t.position x.uptos.now reached shown-all shown-top).defined
        ∙ ap (λ c. Some c.def) (sym closure_is)

  kind-is : kind_of n ≡ kind.Addrmap
  kind-is = ap (λ c. c.def.kind) (sym closure_is) ∙ is-addrmap t.def.now.kind (top_kind e.source.now (top_name e) u means (record { def = t.def.now; scope = scope_at (root e.source.now) (take t.position e.source.now.items.now) }) refl)

  pub top_parts : HasParts n
  top_parts = subst (λ us. MatchOption us.inst ((kind_of n ≡ kind.Addrmap) × (us.dims ≡ []) × (us.form.range ≡ None) × (us.form.reset ≡ None)) (λ i. (us.dims ≡ i.dims.now) × (us.form ≡ form_of i))) (sym given.use_is) (kind-is, refl, refl, refl)

pub top_started : (e : Elab) (clean : IsClean e) (w v : Walk) (t : Top) (means : top_use_of (Some (top_name e)) e.source.now ≡ Some (top_use (scope_at (root e.source.now) (take t.position e.source.now.items.now)) t.def.now t.name)) (x : Body) (uptos : List ℕ) (site : ℕ) (chain : Bor (List (Option ℕ)))
    → AreWalking w → IsOpenAt w.bodies 0 (root e.source.now) → slice_get w.bodies.list.items 0 ≡ Some x → uptos ≡ t.position ∷ x.uptos.now → chain.now ≡ None ∷ []
    → ((held : List Fault) (c : Closure) (b : Bound) → AreKept w.bodies held → c.def ≡ t.def.now → AreRound w.bodies x.numbers.now uptos c.scope → b ≡ values_over t.def.now.params.now (out-Env (out-Node e.top.now).env.now).bound.now → IsListed w.bodies v.bodies held site c b)
    → v.judgements ≡ w.judgements → v.failures ≡ w.failures → v.count ≡ w.count
    → IsTopStart e w v (Some (record { site = site; within = 0; standing = record { depth = 2; prefix = 0 }; chain = chain }))
top_started e clean w v t means x uptos site chain inv open_ is ups root_ listed js fs count =
    let n = (top_here e clean).n in
    let same : open_.open_ ≡ x = some-is open_.open_ x (sym open_.here ∙ is) in
    let root_open = subst (λ y. IsOpenAs w.bodies y (root e.source.now)) same open_.is in
    let l = listed w.failures n.closure n.bound inv.kept (ap (λ c. c.def) (sym (closure_is e clean t means))) (top_round e clean t means w.bodies x root_open uptos ups) (values_are e clean t means) in
    let low = inv.counted in
    let path : n.path ≡ below_top [] = (given e clean t means).path_is in
    record {
      walking = walking_more w v [] inv (subst (AreKept v.bodies) (sym fs) l.kept) l.grown (ap (λ z. z.items) js) fs (omega (arith, low, count));
      grown = l.grown;
      x = record { site = site; within = 0; standing = record { depth = 2; prefix = 0 }; chain = chain };
      is = refl;
      node = n;
      top_is = (top_here e clean).top_is;
      start = record {
        of = l.site;
        here = l.here;
        at = l.at;
        stands = subst (λ p. StandsAt (record { depth = 2; prefix = 0 }) (in_node p (kind_of n))) (sym path) (record { depth = refl; prefix = λ st. omega arith });
        fits = subst (λ p. FitsNode p most_names) (sym path) tt;
        use_ = subst (λ us. Sees v.bodies 0 (around us.scope)) (sym (given e clean t means).use_is) (sees_stay w.bodies v.bodies w.failures inv.kept l.grown 0 _ (root_sees e w.bodies open_));
        parts = top_parts e clean t means;
        deep = omega arith;
        scope = scope_at (root e.source.now) e.source.now.items.now;
        bodies = subst (λ ks. AreBodiesAt e ks (scope_at (root e.source.now) e.source.now.items.now)) (sym root_) (root_bodies e);
        cut = reached_cut (scope_at (root e.source.now) e.source.now.items.now) n.closure (reached e clean t means);
      };
    }

-- one is found
pub top_found : (e : Elab) (clean : IsClean e) → top_use_of (Some (top_name e)) e.source.now ≡ None → ⊥
top_found e clean q =
    let g = given_top e.source.now (top_name e) (top_here e clean).n (top_here e clean).top_is in
    let both : Some g.0 ≡ None = sym g.1 ∙ q in cc

-- All nodes.

alone : (ns : List Instance) → flat_map (with_below 0) ns ≡ ns
alone [] = refl
alone (n ∷ ns) = ap (λ xs. n ∷ xs) (alone ns)

pub signals_open : (e : Elab) (w v u : Walk) (a b : List Spot) (xs : List Start) → AreInside e w v xs 0 (signals e.source.now) → AreNodesOpen e v u a b (flat_map (with_below 0) (signals e.source.now)) → AreNodesOpen e w u a b (signals e.source.now)
signals_open e w v u a b xs h g = nodes_on e w v u a a b [] (signals e.source.now) (inside_none e w v a xs 0 (signals e.source.now) h) (subst (AreNodesOpen e v u a b) (alone (signals e.source.now)) g)

pub root_is : (e : Elab) (t : Bodies) (x : Body) → IsOpenAt t 0 (root e.source.now) → slice_get t.list.items 0 ≡ Some x → IsOpenAs t x (root e.source.now)
root_is e t x h at = subst (λ y. IsOpenAs t y (root e.source.now)) (some-is h.open_ x (sym h.here ∙ at)) h.is

-- the top, from its start
module _ (e : Elab) (clean : IsClean e) (w v : Walk) (o : Option Start) (x : Start) (h : IsTopStart e w v o) (is : o ≡ Some x) where
  same-node : h.node ≡ (top_here e clean).n
  same-node = first (sym h.top_is ∙ (top_here e clean).top_is)
    where
      first : h.node ∷ [] ≡ (top_here e clean).n ∷ [] → h.node ≡ (top_here e clean).n
      first q = cc

  pub top_there : targets.IsAt (lineages_of e) (out-Node e.top.now).id h.node
  top_there = subst (targets.IsAt (lineages_of e) (out-Node e.top.now).id) (sym same-node) (top_at_number e clean)

  pub can_top : CanOpenNode e v.bodies (out-Node e.top.now).id x most_names
  can_top = record {
    node = h.node;
    here = top_there;
    start = subst (λ y. IsStart e v.bodies y most_names h.node) (some-is h.x x (sym h.is ∙ is)) h.start;
  }

  pub top_open : (u : Walk) (a b : List Spot) → ((n : Instance) → targets.IsAt (lineages_of e) (out-Node e.top.now).id n → AreNodesOpen e v u a b (with_below most_names n)) → AreNodesOpen e w u a b (below_top_of e)
  top_open u a b rec =
      let own = rec h.node top_there in
      let all : below_top_of e ≡ with_below most_names h.node = ap (flat_map (with_below most_names)) h.top_is ∙ append-nil (with_below most_names h.node) in
      subst (AreNodesOpen e w u a b) (sym all) (nodes_on e w v u a a b [] (with_below most_names h.node) (record { walking = h.walking; grown = h.grown; added = []; put = sym (append-nil a); spots = tt }) own)

pub nodes_open : (e : Elab) (w v u : Walk) (a b c : List Spot) → a ≡ [] → AreNodesOpen e w v a b (signals e.source.now) → AreNodesOpen e v u b c (below_top_of e) → AreSpots e u.bodies c (nodes_of e)
unfolding nodes
nodes_open e w v u a b c empty f g =
    let all = nodes_on e w v u a b c (signals e.source.now) (below_top_of e) f g in
    subst (λ os. AreSpots e u.bodies os (signals e.source.now ++ below_top_of e)) (sym (all.put ∙ ap (λ os. os ++ all.added) empty)) all.spots
