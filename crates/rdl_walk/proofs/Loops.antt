-- The uses of a body one after the other, and the elements of a use.
use Rattle.std.proofs.Common.{◌≡◌, ◌∙◌, ℕ, zero, suc, ◌+◌, ◌-◌, ◌<◌, ◌≤◌, Bool, true, false, nat_lt, List, [], ◌∷◌, ◌++◌, length, get_or, drop, flat_map, map, min, refl, sym, ap, subst, arith, append_assoc, append-nil}
use Rattle.std.specs.List.{AllByRecursion}
use Rattle.std.proofs.Math.Nat.{min-eq_left}
use Rattle.std.proofs.lemmas.Bool.{ltb-false, ltb-true}
use Rattle.std.proofs.lemmas.Grind.{flat_map-append}
use Rattle.std.proofs.lemmas.List.{at_drop_all, at_drop_more}
use Rattle.plain_lemmas.proofs.Lists.{cons-head as same-head, cons-tail as same-tail, nil-cons as not-empty}
use Rattle.rb_base.specs.declared.place.Place.{Place}
use Rattle.rdl_values.specs.Instances.{Instance, given_by, kind_of, most_nodes, rows, upto, with_below}
use Rattle.rdl_values.specs.Paths.{Parent, Step, in_node, joined}
use Rattle.rdl_uses.specs.Parts.{StandsAt}
use Rattle.rdl_uses.specs.declared.standing.Standing.{Standing}
use Rattle.rdl_values.specs.Rows.{product, row}
use Rattle.rdl_values.specs.Uses.{Seen}
use Rattle.rdl_bodies.specs.Kept.{Grows}
use Rattle.rdl_bodies.specs.declared.bodies.Bodies.{Bodies}
use Rattle.rdl_children.specs.Children.{AreChildren, IsChild, none, without, with_}
use Rattle.rdl_children.specs.declared.child.Child.{Child}
use Rattle.rdl_children.proofs.Itemized.{child_stays, children_stay}
use Rattle.rdl_walk.specs.Walking.{AreWalking}
use Rattle.rdl_walk.specs.Walked.{CanVisitAll, CanVisitChild, Fits, FitsNode, IsWalked, StandIn, element_of}
use Rattle.rdl_walk.specs.declared.walk.Walk.{Walk}
use Rattle.rdl_walk.proofs.Counting.{capped_many}
use Rattle.rdl_walk.proofs.Elements.{fits_in, given_elements, stands_in, text_fits, visited, visited_length, visited_more, visited_rest}
use Rattle.rdl_walk.proofs.Steps.{walked_as, walked_none, walked_on, walked_over}

-- The next of some uses that give nodes, and those before it that give none.
pub record IsNextUse (t : Bodies) (x : Child) (xs : List Child) (ss : List Seen) : Type 0 where
  pub failed : List Seen
  pub use_ : Seen
  pub rest : List Seen
  pub split : ss ≡ failed ++ (use_ ∷ rest)
  pub no_nodes : flat_map given_by failed ≡ []
  pub child : IsChild t x use_
  pub children : AreChildren t xs rest

pub next-use : (t : Bodies) (ys : List Child) (ss : List Seen) (x : Child) (xs : List Child) → AreChildren t ys ss → ys ≡ x ∷ xs → IsNextUse t x xs ss
next-use t _ _ x xs none e = absurd (not-empty x xs e)
next-use t _ _ x xs (without {xs = ys} {s = s} {ss = ss} n h) e =
    let rec = next-use t ys ss x xs h e in
    record {
      failed = s ∷ rec.failed;
      use_ = rec.use_;
      rest = rec.rest;
      split = ap (λ us. s ∷ us) rec.split;
      no_nodes = ap (λ ns. ns ++ flat_map given_by rec.failed) n ∙ rec.no_nodes;
      child = rec.child;
      children = rec.children;
    }
next-use t _ _ x xs (with_ {x = y} {xs = ys} {s = s} {ss = ss} c h) e =
    let same = same-head y x ys xs e in
    let others = same-tail y x ys xs e in
    record {
      failed = [];
      use_ = s;
      rest = ss;
      split = refl;
      no_nodes = refl;
      child = subst (λ z. IsChild t z s) same c;
      children = subst (λ zs. AreChildren t zs ss) others h;
    }

pub no-more : (t : Bodies) (ys : List Child) (ss : List Seen) → AreChildren t ys ss → ys ≡ [] → flat_map given_by ss ≡ []
no-more t _ _ none e = refl
no-more t _ _ (without {xs = ys} {s = s} {ss = ss} n h) e = ap (λ ns. ns ++ flat_map given_by ss) n ∙ no-more t ys ss h e
no-more t _ _ (with_ {x = y} {xs = ys} c h) e = absurd (not-empty y ys (sym e))

pub stand-left : (p : Parent) (xs ys : List Seen) → StandIn p (xs ++ ys) → StandIn p xs
stand-left p [] ys h = tt
stand-left p (x ∷ xs) ys h = (h.0, stand-left p xs ys h.1)

pub stand-right : (p : Parent) (xs ys : List Seen) → StandIn p (xs ++ ys) → StandIn p ys
stand-right p [] ys h = h
stand-right p (x ∷ xs) ys h = stand-right p xs ys h.1

-- Some uses are done, and these are left.
pub record AreDone (w v : Walk) (levels : ℕ) (p : Parent) (xs : List Child) (ss : List Seen) : Type 0 where
  pub done : List Seen
  pub rest : List Seen
  pub split : ss ≡ done ++ rest
  pub children : AreChildren v.bodies xs rest
  pub stand : StandIn p rest
  pub walked : IsWalked w v (flat_map (with_below levels) (flat_map given_by done))

pub done_none : (w : Walk) (levels : ℕ) (p : Parent) (xs : List Child) (ss : List Seen) → AreWalking w → AreChildren w.bodies xs ss → StandIn p ss → AreDone w w levels p xs ss
done_none w levels p xs ss inv h s = record { done = []; rest = ss; split = refl; children = h; stand = s; walked = walked_none w inv }

module _ (w v : Walk) (levels : ℕ) (p : Parent) (x : Child) (xs : List Child) (ss : List Seen) (h : AreDone w v levels p (x ∷ xs) ss) where
  pub next : IsNextUse v.bodies x xs h.rest
  next = next-use v.bodies (x ∷ xs) h.rest x xs h.children refl

  pub next_stands : next.use_.parent ≡ p
  next_stands = (stand-right p next.failed (next.use_ ∷ next.rest) (subst (StandIn p) next.split h.stand)).0

  pub done_more : (u : Walk) → IsWalked v u (flat_map (with_below levels) (given_by next.use_)) → AreDone w u levels p xs ss
  done_more u g =
      let all = h.done ++ (next.failed ++ (next.use_ ∷ [])) in
      let here : flat_map given_by (next.failed ++ (next.use_ ∷ [])) ≡ given_by next.use_ = flat_map-append given_by next.failed (next.use_ ∷ []) ∙ ap (λ ns. ns ++ (given_by next.use_ ++ [])) next.no_nodes ∙ append-nil (given_by next.use_) in
      let nodes : flat_map (with_below levels) (flat_map given_by h.done) ++ flat_map (with_below levels) (given_by next.use_) ≡ flat_map (with_below levels) (flat_map given_by all) =
      sym (flat_map-append (with_below levels) (flat_map given_by h.done) (given_by next.use_)) ∙ ap (λ ns. flat_map (with_below levels) (flat_map given_by h.done ++ ns)) (sym here) ∙ ap (flat_map (with_below levels)) (sym (flat_map-append given_by h.done (next.failed ++ (next.use_ ∷ [])))) in
      record {
        done = all;
        rest = next.rest;
        split = h.split ∙ ap (λ us. h.done ++ us) next.split ∙ ap (λ us. h.done ++ us) (sym (append_assoc next.failed (next.use_ ∷ []) next.rest)) ∙ sym (append_assoc h.done (next.failed ++ (next.use_ ∷ [])) next.rest);
        children = children_stay v.bodies u.bodies v.failures h.walked.walking.kept g.grown xs next.rest next.children;
        stand = (stand-right p next.failed (next.use_ ∷ next.rest) (subst (StandIn p) next.split h.stand)).1;
        walked = walked_as w u _ _ nodes (walked_on w v u _ _ h.walked g);
      }

pub done_all : (w v : Walk) (levels : ℕ) (p : Parent) (ss : List Seen) → AreDone w v levels p [] ss → IsWalked w v (flat_map (with_below levels) (flat_map given_by ss))
done_all w v levels p ss h =
    let none = no-more v.bodies [] h.rest h.children refl in
    let nodes : flat_map given_by h.done ≡ flat_map given_by ss = sym (append-nil (flat_map given_by h.done)) ∙ ap (λ ns. flat_map given_by h.done ++ ns) (sym none) ∙ sym (flat_map-append given_by h.done h.rest) ∙ ap (flat_map given_by) (sym h.split) in
    walked_as w v _ _ (ap (flat_map (with_below levels)) nodes) h.walked

-- Elements one after the other.

module _ (t : Bodies) (x : Child) (s : Seen) (h : IsChild t x s) where
  abbrev pub element : ℕ → Instance
  element k = element_of s h.closure h.bound (row x.dims.now k)

  pub all_elements : (levels : ℕ) → rows x.dims.now ≡ map (row x.dims.now) (upto (product x.dims.now)) → visited levels element (product x.dims.now) ≡ flat_map (with_below levels) (given_by s)
  all_elements levels by_number = ap (flat_map (with_below levels)) (sym (given_elements s h.closure h.bound x.dims.now h.clean h.closure_is h.bound_is h.dims_are by_number))

-- nothing is done for the elements that are left where the count has gone too far
pub elements_left : (w v : Walk) (levels : ℕ) (f : ℕ → Instance) (k n : ℕ) → k ≤ n → most_nodes + 1 ≤ v.count → IsWalked w v (visited levels f k) → IsWalked w v (visited levels f n)
elements_left w v levels f k n l many h =
    let e : k + (n - k) ≡ n = omega (arith, l) in
    subst (λ m. IsWalked w v (visited levels f m)) e (walked_as w v _ _ (sym (visited_rest levels f k (n - k))) (walked_on w v v _ _ h (walked_over v (flat_map (with_below levels) (map f (map (λ j. k + j) (upto (n - k))))) h.walking many)))

pub elements_done : (w v : Walk) (levels : ℕ) (f : ℕ → Instance) (k n : ℕ) → k ≡ min n (most_nodes + 1) → IsWalked w v (visited levels f k) → IsWalked w v (visited levels f n)
elements_done w v levels f k n e h = go (nat_lt (most_nodes + 1) n) refl
  where
    go : (b : Bool) → nat_lt (most_nodes + 1) n ≡ b → IsWalked w v (visited levels f n)
    go false q = let l = ltb-false (most_nodes + 1) n q in subst (λ m. IsWalked w v (visited levels f m)) (e ∙ min-eq_left l) h
    go true q =
        let l = ltb-true (most_nodes + 1) n q in
        let most : min n (most_nodes + 1) ≡ most_nodes + 1 = grind (arith, l) in
        let at : k ≡ most_nodes + 1 = e ∙ most in
        let long = visited_length levels f k in
        let many : most_nodes + 1 ≤ w.count + length (visited levels f k) = omega (arith, at, long) in
        let counted : v.count ≡ most_nodes + 1 = h.counted ∙ capped_many (w.count + length (visited levels f k)) many in
        elements_left w v levels f k n (omega (arith, at, l)) (omega (arith, counted)) h

-- What the loop over the uses keeps.
pub record DoneChildren (w v : Walk) (at : Standing) (levels : ℕ) (xs : List Child) (k : ℕ) : Type 0 where
  pub walking : AreWalking v
  pub done : (p : Parent) (ss : List Seen) → AreChildren w.bodies xs ss → StandIn p ss → StandsAt at p → Fits p levels → AreDone w v levels p (drop k xs) ss

pub children_none : (w : Walk) (at : Standing) (levels : ℕ) (xs : List Child) → AreWalking w → DoneChildren w w at levels xs 0
children_none w at levels xs inv = record { walking = inv; done = λ p ss h s a f. done_none w levels p xs ss inv h s }

module _ (w v : Walk) (at : Standing) (levels : ℕ) (xs : List Child) (k : ℕ) (d : Child) (l : k < length xs) (h : DoneChildren w v at levels xs k) where
  here : (p : Parent) (ss : List Seen) → AreChildren w.bodies xs ss → StandIn p ss → StandsAt at p → Fits p levels → AreDone w v levels p (get_or xs k d ∷ drop (k + 1) xs) ss
  here p ss c s a f = subst (λ ys. AreDone w v levels p ys ss) (at_drop_more (λ ys. ys) xs k d l) (h.done p ss c s a f)

  pub can_child : CanVisitAll w.bodies xs at levels → CanVisitChild v.bodies (get_or xs k d) at levels
  can_child can =
      let done = here can.parent can.uses can.children can.stand can.stands can.fits in
      let n = next w v levels can.parent (get_or xs k d) (drop (k + 1) xs) can.uses done in
      let p = next_stands w v levels can.parent (get_or xs k d) (drop (k + 1) xs) can.uses done in
      record { use_ = n.use_; child = n.child; stands = subst (StandsAt at) (sym p) can.stands; fits = subst (λ q. Fits q levels) (sym p) can.fits }

  pub children_more : (u : Walk) → CanVisitAll w.bodies xs at levels → ((s : Seen) → IsChild v.bodies (get_or xs k d) s → StandsAt at s.parent → Fits s.parent levels → IsWalked v u (flat_map (with_below levels) (given_by s))) → DoneChildren w u at levels xs (k + 1)
  children_more u can walked =
      let all = λ (p : Parent) (ss : List Seen) (c : AreChildren w.bodies xs ss) (s : StandIn p ss) (a : StandsAt at p) (f : Fits p levels).
      (let done = here p ss c s a f in
      let n = next w v levels p (get_or xs k d) (drop (k + 1) xs) ss done in
      let e = next_stands w v levels p (get_or xs k d) (drop (k + 1) xs) ss done in
      done_more w v levels p (get_or xs k d) (drop (k + 1) xs) ss done u (walked n.use_ n.child (subst (StandsAt at) (sym e) a) (subst (λ q. Fits q levels) (sym e) f))) in
      record { walking = (all can.parent can.uses can.children can.stand can.stands can.fits).walked.walking; done = all }

pub children_all : (w v : Walk) (at : Standing) (levels : ℕ) (xs : List Child) (k : ℕ) → length xs ≤ k → DoneChildren w v at levels xs k
    → (p : Parent) (ss : List Seen) → AreChildren w.bodies xs ss → StandIn p ss → StandsAt at p → Fits p levels → IsWalked w v (flat_map (with_below levels) (flat_map given_by ss))
children_all w v at levels xs k l h p ss c s a f = done_all w v levels p ss (subst (λ ys. AreDone w v levels p ys ss) (at_drop_all (λ ys. ys) xs k l) (h.done p ss c s a f))

-- What the loop over the elements keeps.
pub record DoneElements (w v : Walk) (at : Standing) (levels : ℕ) (x : Child) (k : ℕ) : Type 0 where
  pub walking : AreWalking v
  pub grown : Grows w.bodies v.bodies
  pub done : (s : Seen) (h : IsChild w.bodies x s) → StandsAt at s.parent → Fits s.parent levels → IsWalked w v (visited levels (element w.bodies x s h) k)

pub elements_none : (w : Walk) (at : Standing) (levels : ℕ) (x : Child) → AreWalking w → DoneElements w w at levels x 0
elements_none w at levels x inv = record { walking = inv; grown = (walked_none w inv).grown; done = λ s h a f. walked_none w inv }

pub can_element : (w v : Walk) (at : Standing) (levels : ℕ) (x : Child) (k : ℕ) → AreWalking w → DoneElements w v at levels x k → CanVisitChild w.bodies x at levels → CanVisitChild v.bodies x at levels
can_element w v at levels x k inv h can = record { use_ = can.use_; child = child_stays w.bodies v.bodies w.failures inv.kept h.grown x can.use_ can.child; stands = can.stands; fits = can.fits }

pub elements_more : (w v u : Walk) (at : Standing) (levels : ℕ) (x : Child) (k : ℕ) → AreWalking w → DoneElements w v at levels x k → CanVisitChild w.bodies x at levels
    → ((s : Seen) (h : IsChild v.bodies x s) → StandsAt at s.parent → Fits s.parent levels → IsWalked v u (with_below levels (element_of s h.closure h.bound (row x.dims.now k)))) → DoneElements w u at levels x (k + 1)
elements_more w v u at levels x k inv h can walked =
    let one = λ (s : Seen) (c : IsChild w.bodies x s) (a : StandsAt at s.parent) (f : Fits s.parent levels).
    (let e : suc k ≡ k + 1 = omega arith in
    let more = walked_on w v u (visited levels (element w.bodies x s c) k) (with_below levels (element w.bodies x s c k)) (h.done s c a f) (walked s (child_stays w.bodies v.bodies w.failures inv.kept h.grown x s c) a f) in
    subst (λ n. IsWalked w u (visited levels (element w.bodies x s c) n)) e (walked_as w u _ _ (sym (visited_more levels (element w.bodies x s c) k)) more)) in
    let some = one can.use_ can.child can.stands can.fits in
    record { walking = some.walking; grown = some.grown; done = one }

pub elements_stop : (w v : Walk) (at : Standing) (levels : ℕ) (x : Child) (k : ℕ) → rows x.dims.now ≡ map (row x.dims.now) (upto (product x.dims.now)) → DoneElements w v at levels x k → k ≤ product x.dims.now → most_nodes + 1 ≤ v.count
    → (s : Seen) → IsChild w.bodies x s → StandsAt at s.parent → Fits s.parent levels → IsWalked w v (flat_map (with_below levels) (given_by s))
elements_stop w v at levels x k by_number h l many s c a f = walked_as w v _ _ (all_elements w.bodies x s c levels by_number) (elements_left w v levels (element w.bodies x s c) k (product x.dims.now) l many (h.done s c a f))

pub elements_end : (w v : Walk) (at : Standing) (levels : ℕ) (x : Child) (k : ℕ) → rows x.dims.now ≡ map (row x.dims.now) (upto (product x.dims.now)) → DoneElements w v at levels x k → k ≡ min (product x.dims.now) (most_nodes + 1)
    → (s : Seen) → IsChild w.bodies x s → StandsAt at s.parent → Fits s.parent levels → IsWalked w v (flat_map (with_below levels) (given_by s))
elements_end w v at levels x k by_number h e s c a f = walked_as w v _ _ (all_elements w.bodies x s c levels by_number) (elements_done w v levels (element w.bodies x s c) k (product x.dims.now) e (h.done s c a f))

-- An element, as a node that is visited.
pub record IsElement (below : Standing) (levels : ℕ) (place : Place) (n : Instance) : Type 0 where
  pub stands : StandsAt below (in_node n.path (kind_of n))
  pub fits : FitsNode n.path levels
  pub place_is : n.use_.name.place ≡ place

pub is_element : (t : Bodies) (x : Child) (s : Seen) (h : IsChild t x s) (at below : Standing) (levels number : ℕ) (r : List ℕ) → r ≡ row x.dims.now number → StandsAt at s.parent → Fits s.parent levels → below.depth ≡ at.depth + 1
    → below.prefix ≡ at.prefix + length (joined (record { name = x.inst.now.name.text.now; index = r } ∷ [])) + 1 → IsElement below levels x.inst.now.name.place (element_of s h.closure h.bound (row x.dims.now number))
is_element t x s h at below levels number r e a f d p =
    let step : Step = record { name = s.use_.name.text.now; index = row x.dims.now number } in
    let same : length (joined (record { name = x.inst.now.name.text.now; index = r } ∷ [])) ≡ length (joined (step ∷ [])) = ap (λ is. length (joined (record { name = x.inst.now.name.text.now; index = is } ∷ []))) e ∙ ap (λ n. length (joined (record { name = n.text.now; index = row x.dims.now number } ∷ []))) (sym h.name_is) in
    let q : below.prefix ≡ at.prefix + length (joined (step ∷ [])) + 1 = omega (arith, p, same) in
    record {
      stands = stands_in at below s.parent levels step h.closure.def.kind a f d q;
      fits = fits_in s.parent levels step f;
      place_is = ap (λ n. n.place) h.name_is;
    }

-- the text of an element isn't long
pub element_fits : (t : Bodies) (x : Child) (s : Seen) (h : IsChild t x s) (at : Standing) (number : ℕ) (r : List ℕ) → StandsAt at s.parent → number < product x.dims.now
    → ((name : List ℕ) → length (joined (record { name = name; index = r } ∷ [])) ≤ length (joined (record { name = name; index = map (λ d. d - 1) x.dims.now } ∷ []))) → at.prefix + length (joined (record { name = x.inst.now.name.text.now; index = r } ∷ [])) ≤ 900
element_fits t x s h at number r a l short =
    let few = text_fits s h.closure at x.dims.now r number h.closure_is h.clean h.dims_are a l short in
    let same : length (joined (record { name = s.use_.name.text.now; index = r } ∷ [])) ≡ length (joined (record { name = x.inst.now.name.text.now; index = r } ∷ [])) = ap (λ n. length (joined (record { name = n.text.now; index = r } ∷ []))) h.name_is in
    omega (arith, few, same)
