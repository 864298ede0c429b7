-- Bodies that are judged once, and nodes whose bodies are.
use Rattle.std.proofs.Common.{◌≡◌, ◌≢◌, ◌∙◌, ℕ, zero, suc, ◌+◌, ◌-◌, ◌<◌, ◌≤◌, Bool, true, false, cond, nat_lt, List, [], ◌∷◌, ◌++◌, length, flat_map, map, slice_get, Option, None, Some, refl, sym, ap, subst, arith, append-nil, ◌⊎◌, inl, inr}
use Rattle.std.specs.List.{AllByRecursion}
use Rattle.std.proofs.lemmas.Bool.{ltb-true}
use Rattle.rdl_base.specs.declared.fault.Fault.{Fault}
use Rattle.rb_base.specs.declared.place.Place.{Place}
use Rattle.rdl_tree.specs.declared.item.Kind.{Kind}
use Rattle.rdl_values.specs.Bodies as values
use Rattle.rdl_values.specs.Bodies.{Path, standing, standing_from}
use Rattle.rdl_values.specs.Instances.{Instance, body, given_by, kind_of, most_nodes, seen_in, with_below}
use Rattle.rdl_values.specs.Paths.{Parent, in_node}
use Rattle.rdl_values.specs.Phase3.{of_use}
use Rattle.rdl_values.specs.Uses.{Seen, Use, parent_of, seen, uses}
use Rattle.rdl_failures.specs.Noted.{Holds, with_all}
use Rattle.rdl_failures.proofs.Sets.{again, held, kept}
use Rattle.rdl_uses.specs.Parts.{StandsAt}
use Rattle.rdl_uses.specs.declared.standing.Standing.{Standing}
use Rattle.rdl_uses.specs.Placed.{IsParent}
use Rattle.rdl_uses.specs.declared.holder.Holder.{Holder}
use Rattle.rdl_uses.specs.declared.holder.Holder.TheVariants as holder
use Rattle.rdl_bodies.specs.Kept.{AreKept, Grows}
use Rattle.rdl_bodies.specs.Opened.{CanOpen, IsOpened}
use Rattle.rdl_bodies.specs.Sited.{IsAt, IsOpenAs}
use Rattle.rdl_bodies.specs.declared.bodies.Bodies.{Bodies}
use Rattle.rdl_bodies.specs.declared.bodies.Body.{Body}
use Rattle.rdl_bodies.specs.declared.bodies.Site.{Site}
use Rattle.rdl_bodies.proofs.Adding.{kept_more}
use Rattle.rdl_bodies.proofs.Growing.{begins_get, get_either, grows_same, open_same, same_below, turned}
use Rattle.rdl_children.specs.Children.{AreChildren, CanJudge, IsJudged}
use Rattle.rdl_children.specs.declared.child.Child.{Child}
use Rattle.rdl_walk.specs.Walking.{AreWalking, CanAsk, IsAsked, IsKnown, holder_for, parent_at}
use Rattle.rdl_walk.specs.Walked.{CanVisit, CanVisitAll, Fits, FitsNode, IsCounted, IsWalked, StandIn, capped, over}
use Rattle.rdl_walk.specs.declared.walk.Judgement.{Judgement}
use Rattle.rdl_walk.specs.declared.walk.Walk.{Walk}
use Rattle.rdl_walk.proofs.Counting.{capped_most}
use Rattle.rdl_walk.proofs.Elements.{fits_body}
use Rattle.rdl_walk.proofs.Steps.{known_stays, node_judged, walked_on, walking_more, walking_open}

-- A body that is judged.

pub can_judge : (t : Bodies) (number : ℕ) (at : Standing) (y : Body) (h : Holder) → CanAsk t number at → slice_get t.list.items number ≡ Some y → h ≡ holder_for y.kind → CanJudge t number (record { holder = h; standing = at })
can_judge t number at y h can here e =
    let both : Some can.body ≡ Some y = sym can.here ∙ here in
    let same : can.body ≡ y = cc in
    record {
      body = can.body;
      here = can.here;
      shown = can.shown;
      open_ = can.open_;
      stands = subst (λ g. IsParent (record { holder = g; standing = at }) (parent_of can.shown)) (ap (λ z. holder_for z.kind) same ∙ sym e) can.stands;
    }

module _ (w v : Walk) (j : Judgement) (inv : AreWalking w) (number : ℕ) (at : Standing) (y : Body) (here : slice_get w.bodies.list.items number ≡ Some y) (own : j.body ≡ number) (stands : j.standing ≡ at)
    (count : v.count ≡ w.count) (judgements : v.judgements.items ≡ w.judgements.items ++ (j ∷ []))
    (judged : (above : List values.Body) (b : values.Body) → IsOpenAs w.bodies y b → IsParent (parent_at y.kind at) (parent_of b) → IsJudged w.bodies v.bodies w.failures v.failures j.children.now (seen above b)) where
  new-known : (grown : Grows w.bodies v.bodies) → IsKnown v.bodies v.failures j
  new-known grown =
      let low = (inv.kept.bodies number y here).below in
      let same = same_below w.bodies v.bodies y.numbers.now inv.kept.components inv.kept.list grown low in
      record {
        body = y;
        here = ap (λ k. slice_get v.bodies.list.items k) own ∙ begins_get w.bodies.list.items v.bodies.list.items number y grown.list here;
        judged = λ above b open_ p.
            let g = judged above b (open_same v.bodies w.bodies y b (turned w.bodies v.bodies y.numbers.now same) open_) (subst (λ a. IsParent (parent_at y.kind a) (parent_of b)) stands p) in
            (subst (λ fs. Holds fs (flat_map of_use (seen above b))) (sym g.noted) (held (flat_map of_use (seen above b)) w.failures), g.children);
      }

  all-known : (gs : List Fault) → v.failures ≡ with_all gs w.failures → Grows w.bodies v.bodies → (k : ℕ) (i : Judgement) → slice_get v.judgements.items k ≡ Some i → IsKnown v.bodies v.failures i
  all-known gs put grown k i e = go (get_either w.judgements.items j i k (sym (ap (λ xs. slice_get xs k) judgements) ∙ e))
    where
      go : (slice_get w.judgements.items k ≡ Some i) ⊎ ((k ≡ length w.judgements.items) × (j ≡ i)) → IsKnown v.bodies v.failures i
      go (inl h) = subst (λ fs. IsKnown v.bodies fs i) (sym put) (known_stays w.bodies v.bodies w.failures gs i inv.kept grown (inv.known k i h))
      go (inr h) = subst (IsKnown v.bodies v.failures) h.1 (new-known grown)

  pub asked_new : (above : List values.Body) (x : Body) (b : values.Body) → slice_get w.bodies.list.items number ≡ Some x → IsOpenAs w.bodies x b → IsParent (parent_at x.kind at) (parent_of b) → IsAsked w v j.children.now (seen above b)
  asked_new above x b e open_ p =
      let both : Some x ≡ Some y = sym e ∙ here in
      let same : x ≡ y = cc in
      let g = judged above b (subst (λ z. IsOpenAs w.bodies z b) same open_) (subst (λ z. IsParent (parent_at z.kind at) (parent_of b)) same p) in
      record {
        walking = record { kept = g.kept; known = all-known (flat_map of_use (seen above b)) g.noted g.grown; counted = let c = inv.counted in omega (arith, c, count) };
        grown = g.grown;
        count = count;
        noted = g.noted;
        children = g.children;
      }

-- one that was judged before
pub asked_again : (w : Walk) (k : ℕ) (j : Judgement) (number : ℕ) (at : Standing) → AreWalking w → slice_get w.judgements.items k ≡ Some j → j.body ≡ number → j.standing ≡ at
    → (above : List values.Body) (x : Body) (b : values.Body) → slice_get w.bodies.list.items number ≡ Some x → IsOpenAs w.bodies x b → IsParent (parent_at x.kind at) (parent_of b) → IsAsked w w j.children.now (seen above b)
asked_again w k j number at inv e own stands above x b here open_ p =
    let known = inv.known k j e in
    let both : Some known.body ≡ Some x = sym known.here ∙ ap (λ n. slice_get w.bodies.list.items n) own ∙ here in
    let same : known.body ≡ x = cc in
    let g = known.judged above b (subst (λ z. IsOpenAs w.bodies z b) (sym same) open_) (subst (λ a. IsParent (parent_at known.body.kind a) (parent_of b)) (sym stands) (subst (λ z. IsParent (parent_at z.kind at) (parent_of b)) (sym same) p)) in
    record {
      walking = inv;
      grown = grows_same w.bodies w.bodies refl refl refl ([], sym (append-nil w.bodies.sites.items));
      count = refl;
      noted = sym (again (flat_map of_use (seen above b)) w.failures g.0);
      children = g.1;
    }

-- A node.

pub counted_walking : (w v : Walk) (p : Place) (judged : Bool) → AreWalking w → v.bodies ≡ w.bodies → v.judgements ≡ w.judgements → IsCounted p judged w.count v.count w.failures v.failures → AreWalking v
counted_walking w v p judged inv bodies judgements c =
    let gs = cond judged [] (over w.count p) in
    let all = subst (λ b. AreKept b v.failures) (sym bodies) (subst (AreKept w.bodies) (sym c.noted) (kept_more w.bodies w.failures gs inv.kept)) in
    let grown = grows_same w.bodies v.bodies (ap (λ b. b.tables.items) bodies) (ap (λ b. b.components.items) bodies) (ap (λ b. b.list.items) bodies) ([], ap (λ b. b.sites.items) bodies ∙ sym (append-nil w.bodies.sites.items)) in
    let most = capped_most (w.count + 1) in
    walking_more w v gs inv all grown (ap (λ js. js.items) judgements) c.noted (let n = c.counted in omega (arith, n, most))

-- nothing was put in where it is judged
pub judged_same : (w v : Walk) (p : Place) (judged : Bool) → IsCounted p judged w.count v.count w.failures v.failures → judged ≡ true → v.failures ≡ w.failures
judged_same w v p judged c e = c.noted ∙ ap (λ b. with_all (cond b [] (over w.count p)) w.failures) e

pub can_open : (w v : Walk) (number : ℕ) (p : Place) (at : Standing) (levels : ℕ) → v.bodies ≡ w.bodies → CanVisit w.bodies number p at levels → CanOpen v.bodies number
can_open w v number p at levels e can = subst (λ b. CanOpen b number) (sym e) (record { site = can.site; here = can.here; node = can.node; at = can.at })

parent-here : (k : Option Kind) (at : Standing) (p : Path) (l : Kind) → Some l ≡ k → StandsAt at (in_node p l) → IsParent (parent_at k at) (in_node p l)
parent-here k at p l e h = subst (λ o. IsParent (parent_at o at) (in_node p l)) e (record { holder = refl; standing = h })

pub stands_here : (t : Bodies) (x : Body) (n : Instance) (at : Standing) → IsOpenAs t x (body n) → StandsAt at (in_node n.path (kind_of n)) → IsParent (parent_at x.kind at) (parent_of (body n))
stands_here t x n at open_ h = parent-here x.kind at n.path (kind_of n) open_.kind_is h

pub can_ask : (t u : Bodies) (before after : List Fault) (k : ℕ) (n : Instance) (at : Standing) → IsOpened t u before after k (body n) → StandsAt at (in_node n.path (kind_of n)) → CanAsk u k at
can_ask t u before after k n at h stands = record { body = h.body; here = h.here; shown = body n; open_ = h.open_; stands = stands_here u h.body n at h.open_ stands }

pub seen_stand : (above : List values.Body) (b : values.Body) → StandIn (parent_of b) (seen above b)
seen_stand above b = go (standing (uses b))
  where
    go : (us : List (List Use × Use)) → StandIn (parent_of b) (map (λ u. record { parent = parent_of b; above = above; earlier = u.0; use_ = u.1 }) us)
    go [] = tt
    go (u ∷ us) = (refl, go us)

pub can_visit_all : (t : Bodies) (n : Instance) (xs : List Child) (at : Standing) (levels : ℕ) → AreChildren t xs (seen_in n) → StandsAt at (in_node n.path (kind_of n)) → FitsNode n.path (suc levels) → CanVisitAll t xs at levels
can_visit_all t n xs at levels h stands fits = record {
  parent = in_node n.path (kind_of n);
  uses = seen_in n;
  children = h;
  stand = seen_stand (n.above ++ (body n ∷ [])) (body n);
  stands = stands;
  fits = fits_body n.path (kind_of n) levels fits;
}

-- A node whose body is opened and judged.
module _ (w v u z : Walk) (p : Place) (judged : Bool) (number site : ℕ) (at : Standing) (xs : List Child) (inv : AreWalking w) (bodies : v.bodies ≡ w.bodies) (judgements : v.judgements ≡ w.judgements) (counted : IsCounted p judged w.count v.count w.failures v.failures) (yes : judged ≡ true)
    (opened : (s : Site) (n : Instance) → slice_get v.bodies.sites.items site ≡ Some s → IsAt v.bodies s n.closure n.bound → IsOpened v.bodies u.bodies v.failures u.failures number (body n)) (js : u.judgements ≡ v.judgements) (cs : u.count ≡ v.count) where
  opened-at : (s : Site) (n : Instance) → slice_get w.bodies.sites.items site ≡ Some s → IsAt w.bodies s n.closure n.bound → IsOpened w.bodies u.bodies w.failures u.failures number (body n)
  opened-at s n here a =
      subst (λ fs. IsOpened w.bodies u.bodies fs u.failures number (body n)) (judged_same w v p judged counted yes)
      (subst (λ t. IsOpened t u.bodies v.failures u.failures number (body n)) bodies (opened s n (subst (λ t. slice_get t.sites.items site ≡ Some s) (sym bodies) here) (subst (λ t. IsAt t s n.closure n.bound) (sym bodies) a)))

  pub walking_u : (levels : ℕ) → CanVisit w.bodies site p at levels → AreWalking u
  walking_u levels can =
      let o = opened-at can.site can.node can.here can.at in
      let most = capped_most (w.count + 1) in
      let c = counted.counted in
      walking_open w u number (body can.node) inv o (ap (λ x. x.items) (js ∙ judgements)) (omega (arith, cs, c, most))

  pub can_ask_u : (levels : ℕ) → CanVisit w.bodies site p at levels → CanAsk u.bodies number at
  can_ask_u levels can = can_ask w.bodies u.bodies w.failures u.failures number can.node at (opened-at can.site can.node can.here can.at) can.stands

  module _ (asked : (above : List values.Body) (x : Body) (b : values.Body) → slice_get u.bodies.list.items number ≡ Some x → IsOpenAs u.bodies x b → IsParent (parent_at x.kind at) (parent_of b) → IsAsked u z xs (seen above b)) where
    asked-at : (s : Site) (n : Instance) → slice_get w.bodies.sites.items site ≡ Some s → IsAt w.bodies s n.closure n.bound → StandsAt at (in_node n.path (kind_of n)) → IsAsked u z xs (seen_in n)
    asked-at s n here a stands =
        let o = opened-at s n here a in
        asked (n.above ++ (body n ∷ [])) o.body (body n) o.here o.open_ (stands_here u.bodies o.body n at o.open_ stands)

    pub walking_z : (levels : ℕ) → CanVisit w.bodies site p at levels → AreWalking z
    walking_z levels can = (asked-at can.site can.node can.here can.at can.stands).walking

    pub can_all : (levels : ℕ) → CanVisit w.bodies site p at (suc levels) → CanVisitAll z.bodies xs at levels
    can_all levels can = can_visit_all z.bodies can.node xs at levels (asked-at can.site can.node can.here can.at can.stands).children can.stands can.fits

    pub node_walked : (s : Site) (n : Instance) → slice_get w.bodies.sites.items site ≡ Some s → IsAt w.bodies s n.closure n.bound → StandsAt at (in_node n.path (kind_of n)) → IsWalked w z (n ∷ [])
    node_walked s n here a stands = node_judged w u z n number xs v.count inv (ltb-true w.count most_nodes (sym counted.is_judged ∙ yes)) counted.counted cs (opened-at s n here a) (asked-at s n here a stands)

    pub all_walked : (q : Walk) (levels : ℕ) → ((r : Parent) (ss : List Seen) → AreChildren z.bodies xs ss → StandIn r ss → StandsAt at r → Fits r levels → IsWalked z q (flat_map (with_below levels) (flat_map given_by ss)))
        → (s : Site) (n : Instance) → slice_get w.bodies.sites.items site ≡ Some s → IsAt w.bodies s n.closure n.bound → StandsAt at (in_node n.path (kind_of n)) → FitsNode n.path (suc levels) → IsWalked w q (with_below (suc levels) n)
    all_walked q levels walked s n here a stands fits =
        walked_on w z q (n ∷ []) (flat_map (with_below levels) (flat_map given_by (seen_in n))) (node_walked s n here a stands)
        (walked (in_node n.path (kind_of n)) (seen_in n) (asked-at s n here a stands).children (seen_stand (n.above ++ (body n ∷ [])) (body n)) stands (fits_body n.path (kind_of n) levels fits))

pub one_less : (levels : ℕ) → levels ≢ 0 → suc (levels - 1) ≡ levels
one_less zero h = absurd (h refl)
one_less (suc levels) h = omega arith
