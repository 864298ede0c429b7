-- One node, with those below it.
use Rattle.std.proofs.Common.{◌≡◌, ◌≢◌, ◌∙◌, ℕ, ◌+◌, ◌-◌, List, [], ◌∷◌, ◌++◌, flat_map, slice_get, Option, Some, option_and_then, IsSome, refl, sym, ap, subst, arith}
use Rattle.std.specs.Borrow.{Bor}
use Rattle.rdl_tree.specs.declared.node.Node.{Node}
use Rattle.rdl_tree.specs.declared.value.Env.{Env}
use Rattle.rdl_values.specs.Bodies as values
use Rattle.rdl_values.specs.Bodies.{Path, Step, below_top, of_signal, around}
use Rattle.rdl_values.specs.Elaborated.{AreTreesOf, IsTreeOf, around_body, index_of, last_index, node, none, number_named}
use Rattle.rdl_values.specs.Instances.{Instance, body, children, given_by, kind_of, seen_in}
use Rattle.rdl_values.specs.Paths.{Parent, nowhere, at_root, in_node, path_in}
use Rattle.rdl_values.specs.Seen.{around_of}
use Rattle.rdl_values.specs.Uses.{parent_of, seen}
use Rattle.rdl_uses.specs.Parts.{StandsAt}
use Rattle.rdl_uses.specs.declared.standing.Standing.{Standing}
use Rattle.rdl_uses.specs.Placed.{IsParent}
use Rattle.rdl_bodies.specs.Kept.{Grows}
use Rattle.rdl_bodies.specs.Opened.{CanOpen, IsOpened}
use Rattle.rdl_bodies.specs.Sited.{IsAt, IsOpenAs}
use Rattle.rdl_bodies.specs.declared.bodies.Bodies.{Bodies}
use Rattle.rdl_bodies.specs.declared.bodies.Body.{Body}
use Rattle.rdl_bodies.specs.declared.bodies.Site.{Site}
use Rattle.rdl_bodies.proofs.Growing.{begins_get, grows_on}
use Rattle.rdl_children.specs.Children.{AreChildren}
use Rattle.rdl_children.specs.declared.child.Child.{Child}
use Rattle.rdl_walk.specs.Walking.{AreWalking, CanAsk, IsAsked, parent_at}
use Rattle.rdl_walk.specs.Walked.{CanVisit, Fits, FitsNode}
use Rattle.rdl_walk.specs.declared.walk.Walk.{Walk}
use Rattle.rdl_walk.proofs.Asking.{one_less, stands_here}
use Rattle.rdl_walk.proofs.Elements.{fits_body}
use Rattle.rdl_walk.proofs.Steps.{walking_open}
use Rattle.rb_base.specs.declared.place.Place.{Place}
use Rattle.rdl_elab.specs.Envs.{AreEnvs}
use Rattle.rdl_elab.specs.Grown.{AreAllWhole, CanGrowAll, CanGrowBelow, IsHeadOf, IsWhole}
use Rattle.rdl_elab.specs.Nodes.{CanShow, IsMadeOf, IsShown}
use Rattle.rdl_elab.specs.declared.heads.Head.{Head}
use Rattle.rdl_elab.specs.declared.opening.Opened.{Opened}
use Rattle.rdl_elab.proofs.Environments.{envs_stay}

-- A body that is opened.

pub can_open_of : (t : Bodies) (site : ℕ) (p : Place) (at : Standing) (levels : ℕ) → CanVisit t site p at levels → CanOpen t site
can_open_of t site p at levels can = record { site = can.site; here = can.here; node = can.node; at = can.at }

pub some_site : (t u : Bodies) (site : ℕ) (s : Site) → Grows t u → slice_get t.sites.items site ≡ Some s → slice_get u.sites.items site ≡ Some s
some_site t u site s grown e = begins_get t.sites.items u.sites.items site s grown.sites e

pub is_some_as : {X : Type 0} (o : Option X) (x : X) → o ≡ Some x → IsSome o
is_some_as o x e = subst IsSome (sym e) refl

pub can_show : (w u : Walk) (k : ℕ) (n : Instance) → IsOpened w.bodies u.bodies w.failures u.failures k (body n) → CanShow u.bodies k
can_show w u k n h = record { opened = h.body; here = h.here; shown = body n; open_ = h.open_ }

pub is_shown : (w u : Walk) (o : Opened) (site : ℕ) (s : Site) (n : Instance) → AreWalking w → u.judgements ≡ w.judgements → u.count ≡ w.count → IsAt w.bodies s n.closure n.bound → slice_get w.bodies.sites.items site ≡ Some s → IsOpened w.bodies u.bodies w.failures u.failures o.number (body n)
    → ((x : Site) → slice_get u.bodies.sites.items site ≡ Some x → o.def ≡ x.def) → ((x : Body) (b : values.Body) → slice_get u.bodies.list.items o.number ≡ Some x → IsOpenAs u.bodies x b → around_of o.env.now ≡ b.names ∷ around b.outer) → IsShown w u o n
is_shown w u o site s n inv js cs at e h def env =
    let c = inv.counted in
    record {
      walking = walking_open w u o.number (body n) inv h (ap (λ x. x.items) js) (omega (arith, c, cs));
      grown = h.grown;
      def_is = ap (λ d. d.now) (def s (some_site w.bodies u.bodies site s h.grown e)) ∙ sym at.def;
      env_is = env h.body (body n) h.here h.open_;
      opened = h.body;
      here = h.here;
      open_ = h.open_;
    }

pub can_ask_of : (old w : Walk) (o : Opened) (n : Instance) (at : Standing) → IsShown old w o n → StandsAt at (in_node n.path (kind_of n)) → CanAsk w.bodies o.number at
can_ask_of old w o n at h stands = record { body = h.opened; here = h.here; shown = body n; open_ = h.open_; stands = stands_here w.bodies h.opened n at h.open_ stands }

pub asked_of : (old w v : Walk) (o : Opened) (n : Instance) (at : Standing) (xs : List Child) → IsShown old w o n → StandsAt at (in_node n.path (kind_of n))
    → ((above : List values.Body) (x : Body) (b : values.Body) → slice_get w.bodies.list.items o.number ≡ Some x → IsOpenAs w.bodies x b → IsParent (parent_at x.kind at) (parent_of b) → IsAsked w v xs (seen above b)) → IsAsked w v xs (seen_in n)
asked_of old w v o n at xs h stands asked = asked (n.above ++ (body n ∷ [])) h.opened (body n) h.here h.open_ (stands_here w.bodies h.opened n at h.open_ stands)

-- A node whose body is opened and asked for its uses.
module _ (w0 w1 w2 w3 : Walk) (o : Opened) (site : ℕ) (p : Place) (at : Standing) (levels : ℕ) (xs : List Child) (same : w1 ≡ w0) (shown : (s : Site) (n : Instance) → slice_get w1.bodies.sites.items site ≡ Some s → IsAt w1.bodies s n.closure n.bound → IsShown w1 w2 o n)
    (asked : (above : List values.Body) (x : Body) (b : values.Body) → slice_get w2.bodies.list.items o.number ≡ Some x → IsOpenAs w2.bodies x b → IsParent (parent_at x.kind at) (parent_of b) → IsAsked w2 w3 xs (seen above b)) where
  pub shown_at : (s : Site) (n : Instance) → slice_get w0.bodies.sites.items site ≡ Some s → IsAt w0.bodies s n.closure n.bound → IsShown w0 w2 o n
  shown_at s n e h = subst (λ w. IsShown w w2 o n) same (shown s n (subst (λ w. slice_get w.bodies.sites.items site ≡ Some s) (sym same) e) (subst (λ w. IsAt w.bodies s n.closure n.bound) (sym same) h))

  pub asked_at : (s : Site) (n : Instance) → slice_get w0.bodies.sites.items site ≡ Some s → IsAt w0.bodies s n.closure n.bound → StandsAt at (in_node n.path (kind_of n)) → IsAsked w2 w3 xs (seen_in n)
  asked_at s n e h stands = asked_of w0 w2 w3 o n at xs (shown_at s n e h) stands asked

  pub walking_asked : CanVisit w0.bodies site p at levels → AreWalking w3
  walking_asked can = (asked_at can.site can.node can.here can.at can.stands).walking

  pub envs_asked : (envs : List (Bor Env)) → AreEnvs w2.bodies.list.items envs → CanVisit w0.bodies site p at levels → AreEnvs w3.bodies.list.items envs
  envs_asked envs known can =
      envs_stay w2.bodies w3.bodies w2.failures envs (shown_at can.site can.node can.here can.at).walking.kept (asked_at can.site can.node can.here can.at can.stands).grown known

  pub grown_asked : CanVisit w0.bodies site p at levels → Grows w0.bodies w3.bodies
  grown_asked can = grows_on w0.bodies w2.bodies w3.bodies (shown_at can.site can.node can.here can.at).grown (asked_at can.site can.node can.here can.at can.stands).grown

  pub can_below : CanVisit w0.bodies site p at levels → CanGrowBelow w3.bodies xs at levels
  can_below can = record {
    node = can.node;
    children_are = (asked_at can.site can.node can.here can.at can.stands).children;
    stands = can.stands;
    fits = can.fits;
  }

-- Its body's nodes.

pub can_all : (t : Bodies) (xs : List Child) (at : Standing) (levels : ℕ) → levels ≢ 0 → CanGrowBelow t xs at levels → CanGrowAll t xs at (levels - 1)
can_all t xs at levels some can = record {
  above = can.node.above ++ (body can.node ∷ []);
  text = body can.node;
  children_are = can.children_are;
  stands = can.stands;
  fits = fits_body can.node.path (kind_of can.node) (levels - 1) (subst (FitsNode can.node.path) (sym (one_less levels some)) can.fits);
}

pub none_below : (levels : ℕ) (n : Instance) (at : ℕ) (rs : List Node) → levels ≡ 0 → rs ≡ [] → IsWhole levels n → AreTreesOf rs at rs (children n) at
none_below levels n at rs e r w =
    let nothing : children n ≡ [] = subst (λ l. IsWhole l n) e w in
    subst (λ qs. AreTreesOf qs at qs (children n) at) (sym r) (subst (λ ns. AreTreesOf [] at [] ns at) (sym nothing) none)

pub all_below : (levels : ℕ) (n : Instance) (at after : ℕ) (standing : Standing) (t : Bodies) (xs : List Child) (rs : List Node) → levels ≢ 0
    → ((above : List values.Body) (b : values.Body) → AreChildren t xs (seen above b) → StandsAt standing (parent_of b) → Fits (parent_of b) (levels - 1) → AreAllWhole (levels - 1) (seen above b) → AreTreesOf rs at rs (flat_map given_by (seen above b)) after)
    → AreChildren t xs (seen_in n) → StandsAt standing (in_node n.path (kind_of n)) → FitsNode n.path levels → IsWhole levels n → AreTreesOf rs at rs (children n) after
all_below levels n at after standing t xs rs some grown c stands fits w =
    let less = one_less levels some in
    grown (n.above ++ (body n ∷ [])) (body n) c stands (fits_body n.path (kind_of n) (levels - 1) (subst (FitsNode n.path) (sym less) fits)) (subst (λ l. IsWhole l n) (sym less) w)

-- The node.
pub made_tree : (beside : List Node) (at after : ℕ) (r : Node) (n : Instance) (h : Head) (o : Opened) (below : List Node) → IsMadeOf at h o below r → IsHeadOf h n → o.def.now ≡ n.closure.def → around_of o.env.now ≡ around_body n → h.alias ≡ option_and_then (number_named beside) n.use_.alias
    → AreTreesOf below (at + 1) below (children n) after → IsTreeOf beside at r n after
made_tree beside at after r n h o below m own def env alias trees =
    node m.number_is (record {
      name = m.name_is ∙ ap (λ x. x.text.now) (sym own.name_is);
      index = m.index_is ∙ own.index_is;
      kind = m.kind_is ∙ ap (λ d. d.kind) def;
      def = m.def_is ∙ def;
      inst = m.inst_is ∙ own.inst_is;
      alias = m.alias_is ∙ alias;
      env = m.env_is ∙ env;
      place = m.place_is ∙ ap (λ x. x.place) (sym own.name_is);
    }) (subst (λ cs. AreTreesOf cs (at + 1) cs (children n) after) (sym m.children_are) trees)

-- the indices of an element
pub index_in : (p : Parent) (levels : ℕ) (s : Step) → Fits p levels → index_of (path_in p s) ≡ s.index
index_in nowhere levels s f = absurd f
index_in at_root levels s f = refl
index_in (in_node (of_signal t) k) levels s f = absurd f
index_in (in_node (below_top ss) k) levels s f = last ss
  where
    last : (ss : List Step) → last_index (ss ++ (s ∷ [])) ≡ s.index
    last [] = refl
    last (t ∷ []) = refl
    last (t ∷ u ∷ ss) = last (u ∷ ss)
