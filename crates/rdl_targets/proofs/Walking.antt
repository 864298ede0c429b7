-- Paths that were walked.
use Rattle.std.proofs.Common.{◌≡◌, ◌∙◌, ℕ, suc, ◌==◌, Bool, true, false, ◌&&◌, cond, List, [], ◌∷◌, ◌++◌, length, filter, flat_map, Option, None, Some, is_some, option_map, slice_get, Vec, refl, sym, ap, subst, arith}
use Rattle.std.specs.Global.{Global}
use Rattle.std.specs.BTreeMap.{is_at}
use Rattle.std.specs.BTreeSet.{contains}
use Rattle.std.specs.Cmp.{unsigned_ties}
use Rattle.std.specs.Ordering.{nat_cmp}
use Rattle.std.proofs.lemmas.Bool.Decides.{nat_tests}
use Rattle.plain_lemmas.proofs.Bools.{and-both}
use Rattle.plain_lemmas.proofs.Lists.{get-end, get-front_of}
use Rattle.plain_lemmas.proofs.Numbers.{eq-itself, eq-same}
use Rattle.rdl_tree.specs.declared.expr.Step.{Step}
use Rattle.rdl_tree.specs.declared.node.Elab.{Elab}
use Rattle.rdl_values.specs.Instances.{Instance, children}
use Rattle.rdl_values.specs.Lineages.{lineages_of}
use Rattle.rdl_values.specs.Parts.{is_empty}
use Rattle.rdl_nodes.specs.Keyed.{Key, nodes_under}
use Rattle.rdl_nodes.specs.Rows.{AreRows}
use Rattle.rdl_nodes.specs.declared.table.Row.{Row}
use Rattle.rdl_targets.specs.At.{AreAt, IsAt}
use Rattle.rdl_targets.specs.Contents.{passes}
use Rattle.rdl_targets.specs.Noted.{NotesAll, inside, same_turn, under_wanted}
use Rattle.rdl_targets.specs.Steps.{further}
use Rattle.rdl_targets.specs.Trails.{AreTrails, Finds, IsSpread, IsTurn, Keeps, LeadsTo, MayLead, Pushes, Spreads, listed, nodes_of, set_at}
use Rattle.rdl_targets.specs.declared.notes.Notes.{Notes}
use Rattle.rdl_targets.specs.declared.matching.Wanted.{Wanted}
use Rattle.rdl_targets.specs.declared.matching.Wanted.TheVariants as wants
use Rattle.rdl_targets.specs.declared.trails.Trails.{Trails}
use Rattle.rdl_targets.proofs.Leading.{turn-same}
use Rattle.rdl_targets.proofs.Listing.{still-listed, tells-all}

-- No path but that without steps.

none-under : (c : Notes) → ((k : Key) → nodes_under c.names k ≡ []) → ((k : Key) → nodes_under c.elements k ≡ []) → (b : ℕ) (name : List ℕ) (w : Wanted) → under_wanted c b name w ≡ []
none-under c names elements b name wants.Any = names (record { body = b; name = name; index = [] })
none-under c names elements b name wants.None = refl
none-under c names elements b name (wants.These v) = elements (record { body = b; name = name; index = v.items })

pub no-trails : (e : Elab) (node : ℕ) (t : Trails) → set_at t 0 ≡ Some (node ∷ []) → ((k : Key) → nodes_under t.steps.names k ≡ []) → ((k : Key) → nodes_under t.steps.elements k ≡ []) → t.spread.keys ≡ [] → AreTrails e node t
no-trails e node t first names elements none = record {
  root = first;
  turns = λ k name w u h. absurd (nothing k name w u h);
  spread_ = λ u h. absurd (not-spread u h);
}
  where
    nothing : (k : ℕ) (name : List ℕ) (w : Wanted) (u : ℕ) → slice_get (under_wanted t.steps k name w) 0 ≡ Some u → ⊥
    nothing k name w u h = let q : None ≡ Some u = sym (ap (λ (xs : List ℕ). slice_get xs 0) (none-under t.steps names elements k name w)) ∙ h in cc q

    not-spread : (u : ℕ) → contains nat_cmp t.spread u ≡ true → ⊥
    not-spread u h = let q : false ≡ true = sym (has none) ∙ h in cc q
      where
        has : t.spread.keys ≡ [] → contains nat_cmp t.spread u ≡ false
        has z = ap (λ ks. contains nat_cmp (record { keys = ks }) u) z

-- Paths stay what they are.

pub kept-turn : (e : Elab) (old new : Trails) (from : ℕ) (test : Instance → Bool) (to : ℕ) → Keeps old new → IsTurn e old from test to → IsTurn e new from test to
kept-turn e old new from test to keeps h = record { before = h.before; after = h.after; was = keeps from h.before h.was; is = keeps to h.after h.is; some = h.some; leads = h.leads }

same-keeps : (old new : Trails) → new.sets ≡ old.sets → Keeps old new
same-keeps old new same u ks h = ap (λ (s : Vec (Vec ℕ Global) Global). option_map (λ v. v.items) (slice_get s.items u)) same ∙ h

some-one : {A : Type 0} (o : Option A) (x y : A) → o ≡ Some x → o ≡ Some y → x ≡ y
some-one o x y p q = let s : Some x ≡ Some y = sym p ∙ q in cc

-- Names and indices of a path's nodes are listed.
pub now-spread : (e : Elab) (node u : ℕ) (rows : List Row) (ks : List ℕ) (old new : Trails) → set_at old u ≡ Some ks → new.sets ≡ old.sets → new.steps ≡ old.steps → NotesAll u rows ks old.inside new.inside
    → ((q : ℕ) → contains nat_cmp new.spread q ≡ cond (is_at (nat_cmp u) q) true (contains nat_cmp old.spread q)) → AreRows e rows → AreTrails e node old → Spreads e node u old new
now-spread e node u rows ks old new here sets steps noted put rows-are h = record {
  are = record {
    root = keeps 0 (node ∷ []) h.root;
    turns = λ k name w x at. kept-turn e old new k (passes w name) x keeps (h.turns k name w x (subst (λ c. slice_get (under_wanted c k name w) 0 ≡ Some x) steps at));
    spread_ = λ x has. by x (u == x) refl (sym (put-at x) ∙ has);
  };
  same_sets = sets;
  listed_ = λ js is. put-at u ∙ ap (λ b. cond b true (contains nat_cmp old.spread u)) (itself u);
}
  where
    keeps : Keeps old new
    keeps = same-keeps old new sets

    itself : (n : ℕ) → (n == n) ≡ true
    itself n = eq-itself n

    put-at : (x : ℕ) → contains nat_cmp new.spread x ≡ cond (u == x) true (contains nat_cmp old.spread x)
    put-at x = put x ∙ ap (λ b. cond b true (contains nat_cmp old.spread x)) (sym (unsigned_ties u x))

    by : (x : ℕ) (b : Bool) → (u == x) ≡ b → cond b true (contains nat_cmp old.spread x) ≡ true → IsSpread e new x
    by x true same has = subst (IsSpread e new) (eq-same u x same) (record { before = ks; was = keeps u ks here; tells = λ name w ms none at. tells-all e rows u ks old.inside new.inside name w ms rows-are noted none at })
    by x false other has =
        let before = h.spread_ x has in
        record { before = before.before; was = keeps x before.before before.was; tells = λ name w ms none at. before.tells name w ms (still-listed u (flat_map (inside rows) ks) old.inside new.inside x name w noted none) at }

pub spread-already : (e : Elab) (node u : ℕ) (t : Trails) → contains nat_cmp t.spread u ≡ true → AreTrails e node t → Spreads e node u t t
spread-already e node u t has h = record { are = h; same_sets = refl; listed_ = λ ks is. has }

pub spread-none : (e : Elab) (node u : ℕ) (t : Trails) → slice_get t.sets.items u ≡ None → AreTrails e node t → Spreads e node u t t
spread-none e node u t none h = record { are = h; same_sets = refl; listed_ = λ ks is. absurd (no ks (sym (ap (option_map (λ v. v.items)) none) ∙ is)) }
  where
    no : (ks : List ℕ) → option_map (λ (v : Vec ℕ Global). v.items) None ≡ Some ks → ⊥
    no ks q = cc q

-- Whether a step may lead on.

pub may-at_all : (e : Elab) (node u : ℕ) (name : List ℕ) (w : Wanted) (t : Trails) → AreTrails e node t → MayLead e node u name w true t t
may-at_all e node u name w t h = record { are = h; same_sets = refl; nowhere = λ no. cc no }

pub may-listed : (e : Elab) (node u : ℕ) (name : List ℕ) (w : Wanted) (may : Bool) (old new : Trails) → may ≡ is_some (slice_get (under_wanted new.inside u name w) 0) → Spreads e node u old new → MayLead e node u name w may old new
may-listed e node u name w may old new em h = record {
  are = h.are;
  same_sets = h.same_sets;
  nowhere = λ no ks ms is at.
      let listed = h.are.spread_ u (h.listed_ ks is) in
      let same = some-one (set_at new u) ks listed.before (same-keeps old new h.same_sets u ks is) listed.was in
      listed.tells name w ms (none (slice_get (under_wanted new.inside u name w) 0) (sym em ∙ no)) (subst (λ js. AreAt (lineages_of e) js ms) same at);
}
  where
    none : (o : Option ℕ) → is_some o ≡ false → o ≡ None
    none None e = refl
    none (Some x) e = cc e

-- A path more.

pub pushed : (e : Elab) (node u from : ℕ) (name : List ℕ) (w : Wanted) (put : Bool) (before : List ℕ) (nodes : Vec ℕ Global) (old new : Trails) → u ≡ length old.sets.items → new.sets.items ≡ old.sets.items ++ (nodes ∷ [])
    → ((k : ℕ) (n : List ℕ) (v : Wanted) → under_wanted new.steps k n v ≡ under_wanted old.steps k n v ++ cond (put && same_turn from name w k n v) (u ∷ []) []) → new.inside ≡ old.inside → new.spread ≡ old.spread
    → AreTrails e node old → set_at old from ≡ Some before → is_empty nodes.items ≡ false → ((ms : List Instance) → AreAt (lineages_of e) before ms → AreAt (lineages_of e) nodes.items (filter (passes w name) (flat_map children ms)))
    → Pushes e node u nodes.items old new
pushed e node u from name w put before nodes old new last longer kept inside-same spread-same h was some leads = record {
  are = record {
    root = keeps 0 (node ∷ []) h.root;
    turns = λ k n v x at. by k n v x (under_wanted old.steps k n v) refl (sym (ap (λ xs. slice_get xs 0) (kept k n v)) ∙ at);
    spread_ = λ x has. let s = h.spread_ x (subst (λ t. contains nat_cmp t x ≡ true) spread-same has) in record { before = s.before; was = keeps x s.before s.was; tells = λ n v ms none at. s.tells n v ms (subst (λ c. slice_get (under_wanted c x n v) 0 ≡ None) inside-same none) at };
  };
  keeps = keeps;
  is = here;
}
  where
    keeps : Keeps old new
    keeps x ks is = go (slice_get old.sets.items x) refl is
      where
        go : (o : Option (Vec ℕ Global)) → slice_get old.sets.items x ≡ o → option_map (λ v. v.items) o ≡ Some ks → set_at new x ≡ Some ks
        go None q i = cc i
        go (Some v) q i = ap (λ s. option_map (λ v. v.items) (slice_get s x)) longer ∙ (ap (option_map (λ v. v.items)) (get-front_of old.sets.items (nodes ∷ []) v x q) ∙ i)

    here : set_at new u ≡ Some nodes.items
    here = ap (λ s. option_map (λ v. v.items) (slice_get s u)) longer ∙ ap (option_map (λ v. v.items)) (get-end old.sets.items nodes u last)

    new-turn : IsTurn e new from (passes w name) u
    new-turn = record { before = before; after = nodes.items; was = keeps from before was; is = here; some = some; leads = leads }

    by : (k : ℕ) (n : List ℕ) (v : Wanted) (x : ℕ) (xs : List ℕ) → under_wanted old.steps k n v ≡ xs → slice_get (under_wanted old.steps k n v ++ cond (put && same_turn from name w k n v) (u ∷ []) []) 0 ≡ Some x → IsTurn e new k (passes v n) x
    by k n v x (y ∷ ys) q at =
        let first : Some y ≡ Some x = sym (ap (λ zs. slice_get (zs ++ cond (put && same_turn from name w k n v) (u ∷ []) []) 0) q) ∙ at in
        kept-turn e old new k (passes v n) x keeps (h.turns k n v x (ap (λ zs. slice_get zs 0) q ∙ first))
    by k n v x [] q at = added (put && same_turn from name w k n v) refl (sym (ap (λ zs. slice_get (zs ++ cond (put && same_turn from name w k n v) (u ∷ []) []) 0) q) ∙ at)
      where
        added : (b : Bool) → (put && same_turn from name w k n v) ≡ b → slice_get (cond b (u ∷ []) []) 0 ≡ Some x → IsTurn e new k (passes v n) x
        added true t f =
            let same = turn-same from name w k n v (and-both put (same_turn from name w k n v) t).1 in
            let it : u ≡ x = (let P : Some u ≡ Some x = f in cc) in
            subst (IsTurn e new k (passes v n)) it (subst (λ p. IsTurn e new k p u) same.test (subst (λ j. IsTurn e new j (passes w name) u) same.body new-turn))
        added false t f = cc f

-- A step.

pub turn-known : (e : Elab) (node from : ℕ) (name : List ℕ) (w : Wanted) (r : Option ℕ) (t : Trails) (before : List ℕ) (ms : List Instance) → r ≡ slice_get (under_wanted t.steps from name w) 0 → is_some r ≡ true → AreTrails e node t → set_at t from ≡ Some before → AreAt (lineages_of e) before ms
    → Finds e node t t r (filter (passes w name) (flat_map children ms))
turn-known e node from name w None t before ms found some h was at = cc some
turn-known e node from name w (Some u) t before ms found some h was at =
    let turn = h.turns from name w u (sym found) in
    let same = some-one (set_at t from) before turn.before was turn.was in
    record { are = h; keeps = λ x ks is. is; leads = (turn.after, turn.is, turn.some, turn.leads ms (subst (λ ks. AreAt (lineages_of e) ks ms) same at)) }

pub turn-nowhere : (e : Elab) (node from : ℕ) (name : List ℕ) (w : Wanted) (old new : Trails) (before : List ℕ) (ms : List Instance) → MayLead e node from name w false old new → set_at old from ≡ Some before → AreAt (lineages_of e) before ms
    → Finds e node old new None (filter (passes w name) (flat_map children ms))
turn-nowhere e node from name w old new before ms h was at = record { are = h.are; keeps = same-keeps old new h.same_sets; leads = h.nowhere refl before ms was at }

none-at : (e : Elab) (ks : List ℕ) (ns : List Instance) → is_empty ks ≡ true → AreAt (lineages_of e) ks ns → [] ≡ ns
none-at e [] [] z h = refl
none-at e (k ∷ ks) ns z h = cc z
none-at e [] (n ∷ ns) z h = absurd h

pub turn-empty : (e : Elab) (node from : ℕ) (name : List ℕ) (w : Wanted) (may : Bool) (nodes : List ℕ) (old new : Trails) (ns : List Instance) → MayLead e node from name w may old new → is_empty nodes ≡ true → AreAt (lineages_of e) nodes ns → Finds e node old new None ns
turn-empty e node from name w may nodes old new ns h z at = record { are = h.are; keeps = same-keeps old new h.same_sets; leads = none-at e nodes ns z at }

pub turn-pushed : (e : Elab) (node from u : ℕ) (name : List ℕ) (w : Wanted) (may : Bool) (nodes : List ℕ) (old between new : Trails) (ns : List Instance) → MayLead e node from name w may old between → Pushes e node u nodes between new → is_empty nodes ≡ false → AreAt (lineages_of e) nodes ns
    → Finds e node old new (Some u) ns
turn-pushed e node from u name w may nodes old between new ns h put some at = record { are = put.are; keeps = λ x ks is. put.keeps x ks (same-keeps old between h.same_sets x ks is); leads = (nodes, put.is, some, at) }

pub still-at : (old new : Trails) (u : ℕ) (ks : List ℕ) → new.sets ≡ old.sets → set_at old u ≡ Some ks → set_at new u ≡ Some ks
still-at old new u ks same h = same-keeps old new same u ks h

-- Step by step.

pub first-path : (e : Elab) (node : ℕ) (t : Trails) (n : Instance) → AreTrails e node t → IsAt (lineages_of e) node n → Finds e node t t (Some 0) (n ∷ [])
first-path e node t n h at = record { are = h; keeps = λ x ks is. is; leads = (node ∷ [], h.root, refl, (at, tt)) }

pub then-finds : (e : Elab) (node : ℕ) (old between new : Trails) (p q r : Option ℕ) (ns ms : List Instance) → q ≡ r → Finds e node old between p ns → Finds e node between new q ms → Finds e node old new r ms
then-finds e node old between new p q r ns ms same h g = record { are = g.are; keeps = λ x ks is. g.keeps x ks (h.keeps x ks is); leads = subst (λ o. LeadsTo e new o ms) same g.leads }

nothing-further : (is : Step → Instance → Bool) (ts : List Step) → further is [] ts ≡ []
nothing-further is [] = refl
nothing-further is (t ∷ ts) = nothing-further is ts

-- where a step leads nowhere, so do those behind it
pub finds-nothing : (e : Elab) (node : ℕ) (old new : Trails) (is : Step → Instance → Bool) (ns : List Instance) (ts : List Step) → Finds e node old new None ns → Finds e node old new None (further is ns ts)
finds-nothing e node old new is ns ts h = record { are = h.are; keeps = h.keeps; leads = sym (ap (λ ms. further is ms ts) (sym h.leads) ∙ nothing-further is ts) }

pub now-at : (e : Elab) (old new : Trails) (from : ℕ) (before ks : List ℕ) (ms : List Instance) → new.sets ≡ old.sets → set_at old from ≡ Some before → ks ≡ nodes_of new (Some from) → AreAt (lineages_of e) before ms → AreAt (lineages_of e) ks ms
now-at e old new from before ks ms same was is at = subst (λ js. AreAt (lineages_of e) js ms) (sym (is ∙ ap listed (still-at old new from before same was))) at

pub empty-length : (ks : List ℕ) (b : Bool) → (length ks == 0) ≡ b → is_empty ks ≡ b
empty-length [] b e = e
empty-length (k ∷ ks) b e = some (length ks) b e
  where
    some : (n : ℕ) (c : Bool) → (suc n == 0) ≡ c → false ≡ c
    some n c q = grind (arith, nat_tests)
