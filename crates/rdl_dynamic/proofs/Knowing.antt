-- What is known of a body.
use Rattle.std.proofs.Common.{◌≡◌, ◌∙◌, ℕ, ◌==◌, Bool, true, false, not, ◌&&◌, ◌||◌, List, [], ◌∷◌, ◌++◌, append_assoc, append-nil, flat_map, is_some, IfSome, Option, None, Some, option_to_list, slice_get, Vec, refl, sym, ap, subst}
use Rattle.std.specs.Global.{Global}
use Rattle.std.specs.HashMap.{get_by}
use Rattle.std.specs.List.{list_all, list_any}
use Rattle.std.proofs.lemmas.List.Folds.{list_any-append}
use denote.Enum.Bare.{true_same}
use Rattle.plain_lemmas.proofs.Bools.{and-both, or-false, or-true, or-true_right}
use Rattle.plain_lemmas.proofs.Numbers.{eq-itself, eq-same}
use Rattle.rdl_base.specs.declared.fault.Fault.{Fault}
use Rattle.rb_base.specs.declared.place.Place.{Place}
use Rattle.rdl_base.specs.declared.rule.Rule.TheVariants as rules
use Rattle.rdl_tree.specs.declared.expr.Path.{Path as Code}
use Rattle.rdl_tree.specs.declared.node.Elab.{Elab}
use Rattle.rdl_props.specs.Same.{same_prop}
use Rattle.rdl_props.specs.Table.{group_of, is_legal, share_group}
use Rattle.rdl_props.specs.contracts.prop.Prop as of_prop
use Rattle.rdl_props.specs.declared.prop.Prop.{Prop}
use Rattle.rdl_values.specs.Bodies.{around}
use Rattle.rdl_values.specs.Faults.{at_, when}
use Rattle.rdl_values.specs.Instances.{Instance, children}
use Rattle.rdl_values.specs.Lineages.{lineages_of}
use Rattle.rdl_values.specs.Parts.{is_empty}
use Rattle.rdl_values.specs.Views.{steps_of}
use Rattle.rdl_nodes.specs.Rows.{AreRows}
use Rattle.rdl_nodes.specs.declared.table.Row.{Row}
use Rattle.rdl_failures.specs.Noted.{IsNoted, with_all}
use Rattle.rdl_failures.proofs.Sets.{held}
use Rattle.rdl_layers.specs.Assignments.{Dynamic, Nested, is_step, led_down, members, targets}
use Rattle.rdl_layers.specs.Judged.{illegal, legal_on}
use Rattle.rdl_layers.specs.Meanings.{Assignment, prop_of}
use Rattle.rdl_layers.specs.Ranks.{is_related}
use Rattle.rdl_targets.specs.At.{AreAt}
use Rattle.rdl_targets.specs.Trails.{AreTrails, Finds, LeadsTo, listed, nodes_of}
use Rattle.rdl_targets.specs.declared.trails.Trails.{Trails}
use Rattle.rdl_targets.proofs.Numbered.{no_row, row_says}
use Rattle.rdl_dynamic.specs.Known.{AreKnown, AreSeen, IsRivalled, IsSeen, has_rival, legal_at}
use Rattle.rdl_dynamic.specs.Marks.{AreMarks, any_of, is_marked}
use Rattle.rdl_dynamic.specs.Seen.{is_number, marks_of, same_bool}
use Rattle.rdl_dynamic.specs.declared.known.Known.{Known}
use Rattle.rdl_dynamic.specs.declared.marks.Marks.{Marks}
use Rattle.rdl_dynamic.specs.declared.seen.Seen.{Seen}
use Rattle.rdl_dynamic.proofs.Marking.{marked_again, same_prop-is}
use Rattle.rdl_dynamic.proofs.Taking.{marks-push, marks-stay}

-- Kinds.

pub legal-numbers : (e : Elab) (rows : List Row) (p : Prop) (ks : List ℕ) (ns : List Instance) → AreRows e rows → AreAt (lineages_of e) ks ns → list_all (legal_at rows p) ks ≡ list_all (λ n. legal_on n p) ns
legal-numbers e rows p [] [] are at = refl
legal-numbers e rows p (k ∷ ks) (n ∷ ns) are at = (λ i. one (slice_get rows k) refl i && legal-numbers e rows p ks ns are at.1 i)
  where
    one : (o : Option Row) → slice_get rows k ≡ o → legal_at rows p k ≡ legal_on n p
    one None here = absurd (no_row e rows k n are here at.0)
    one (Some x) here = rw here (ap (is_legal p) (row_says e rows k x n are here at.0).1.kind)
legal-numbers e rows p [] (n ∷ ns) are at = absurd at
legal-numbers e rows p (k ∷ ks) [] are at = absurd at

module _ {X : Type 0} (b : X → Bool) (f : Fault) where
  fails-once : (xs : List X) (s : List Fault) → with_all (when (not (list_all b xs)) f) s ≡ with_all (flat_map (λ x. when (not (b x)) f) xs) s
  fails-once [] s = refl
  fails-once (x ∷ xs) s = go (b x) (fails-once xs)
    where
      twice : (c : Bool) → with_all (f ∷ []) s ≡ with_all (when (not c) f) (with_all (f ∷ []) s)
      twice true = refl
      twice false = sym (held (f ∷ []) s).0

      go : (c : Bool) → ((l : List Fault) → with_all (when (not (list_all b xs)) f) l ≡ with_all (flat_map (λ y. when (not (b y)) f) xs) l) → with_all (when (not (c && list_all b xs)) f) s ≡ with_all (when (not c) f ++ flat_map (λ y. when (not (b y)) f) xs) s
      go true ih = ih s
      go false ih = twice (list_all b xs) ∙ ih (with_all (f ∷ []) s)

  none-fails : (xs : List X) → list_all b xs ≡ is_empty (flat_map (λ x. when (not (b x)) f) xs)
  none-fails [] = refl
  none-fails (x ∷ xs) = go (b x) (none-fails xs)
    where
      go : (c : Bool) → list_all b xs ≡ is_empty (flat_map (λ y. when (not (b y)) f) xs) → (c && list_all b xs) ≡ is_empty (when (not c) f ++ flat_map (λ y. when (not (b y)) f) xs)
      go true ih = ih
      go false ih = refl

pub kinds-noted : (e : Elab) (rows : List Row) (a : Assignment) (p : Prop) (ks : List ℕ) (ns : List Instance) (at : Place) (legal ok : Bool) (s t : List Fault) → IsNoted (when (not legal) (at_ rules.P3 at)) ok s t → AreRows e rows → prop_of a ≡ Some p → a.set_.place ≡ at → AreAt (lineages_of e) ks ns
    → legal ≡ list_all (legal_at rows p) ks → IsNoted (flat_map (λ n. illegal (legal_on n) a) ns) ok s t
kinds-noted e rows a p ks ns at legal ok s t noted are named place there is =
    subst (λ fs. IsNoted fs ok s t) (λ i. flat_map (λ n. sym (one n) i) ns) (record { none = noted.none ∙ (alone legal ∙ (all ∙ none-fails (λ n. legal_on n p) (at_ rules.P3 at) ns)); put = noted.put ∙ (ap (λ c. with_all (when (not c) (at_ rules.P3 at)) s) all ∙ fails-once (λ n. legal_on n p) (at_ rules.P3 at) ns s) })
  where
    all : legal ≡ list_all (λ n. legal_on n p) ns
    all = is ∙ legal-numbers e rows p ks ns are there

    alone : (c : Bool) → is_empty (when (not c) (at_ rules.P3 at)) ≡ c
    alone true = refl
    alone false = refl

    one : (n : Instance) → illegal (legal_on n) a ≡ when (not (legal_on n p)) (at_ rules.P3 at)
    one n = ap (λ o. flat_map (λ q. when (not (legal_on n q)) (at_ rules.P3 a.set_.place)) (option_to_list o)) named ∙ (append-nil (when (not (legal_on n p)) (at_ rules.P3 a.set_.place)) ∙ ap (λ x. when (not (legal_on n p)) (at_ rules.P3 x)) place)

-- A property of no group has no rivals.

share-none : (p q : Prop) → group_of p ≡ None → share_group p q ≡ false
share-none p q e = rw e refl

pub no-rivals : (m : Marks) (p : Prop) (ks : List ℕ) → group_of p ≡ None → false ≡ list_any (λ k. is_marked m k (λ q. is_related p q && not (same_prop p q))) ks
no-rivals m p [] e = refl
no-rivals m p (k ∷ ks) e = no-rivals m p ks e ∙ ap (λ c. c || list_any (λ i. is_marked m i (λ q. is_related p q && not (same_prop p q))) ks) (sym (at-none (get_by (λ i. k == i) m.at)))
  where
    rival : (q : Prop) → (is_related p q && not (same_prop p q)) ≡ false
    rival q = ap (λ c. (same_prop p q || c) && not (same_prop p q)) (share-none p q e) ∙ by (same_prop p q)
      where
        by : (c : Bool) → ((c || false) && not c) ≡ false
        by true = refl
        by false = refl

    none : (qs : List Prop) → list_any (λ q. is_related p q && not (same_prop p q)) qs ≡ false
    none [] = refl
    none (q ∷ qs) = (λ i. rival q i || none qs i)

    at-none : (o : Option (Vec Prop Global)) → any_of (λ q. is_related p q && not (same_prop p q)) o ≡ false
    at-none None = refl
    at-none (Some v) = none v.items

-- Lists of numbers.

module _ (f : ℕ → Bool) where
  member : (ks : List ℕ) (j : ℕ) → list_all f ks ≡ true → list_any (λ k. k == j) ks ≡ true → f j ≡ true
  member [] j all any = cc any
  member (k ∷ ks) j all any =
      let both = and-both (f k) (list_all f ks) all in
      by (k == j) refl any both.0 (λ some. member ks j both.1 some)
    where
      by : (b : Bool) → (k == j) ≡ b → (b || list_any (λ i. i == j) ks) ≡ true → f k ≡ true → (list_any (λ i. i == j) ks ≡ true → f j ≡ true) → f j ≡ true
      by true same some one ih = subst (λ i. f i ≡ true) (eq-same k j same) one
      by false same some one ih = ih some

  some-passes : (ks : List ℕ) → is_empty ks ≡ false → list_all f ks ≡ true → list_any f ks ≡ true
  some-passes [] some all = cc some
  some-passes (k ∷ ks) some all = ap (λ b. b || list_any f ks) (and-both (f k) (list_all f ks) all).0

all-imp : (f g : ℕ → Bool) (ks : List ℕ) → ((k : ℕ) → f k ≡ true → g k ≡ true) → list_all f ks ≡ true → list_all g ks ≡ true
all-imp f g [] imp all = refl
all-imp f g (k ∷ ks) imp all =
    let both = and-both (f k) (list_all f ks) all in
    (λ i. imp k both.0 i && all-imp f g ks imp both.1 i)

each-among : (ys xs : List ℕ) → list_all (λ k. list_any (λ i. i == k) (ys ++ xs)) xs ≡ true
each-among ys [] = refl
each-among ys (x ∷ xs) =
    let here : list_any (λ i. i == x) (ys ++ (x ∷ xs)) ≡ true = list_any-append (λ i. i == x) ys (x ∷ xs) ∙ (ap (λ b. list_any (λ i. i == x) ys || (b || list_any (λ i. i == x) xs)) (eq-itself x) ∙ or-true (list_any (λ i. i == x) ys)) in
    let rest : list_all (λ k. list_any (λ i. i == k) (ys ++ (x ∷ xs))) xs ≡ true = ap (λ zs. list_all (λ k. list_any (λ i. i == k) zs) xs) (sym (append_assoc ys (x ∷ []) xs)) ∙ each-among (ys ++ (x ∷ [])) xs in
    (λ i. here i && rest i)

-- The nodes of a path.

pub led-nodes : (e : Elab) (t : Trails) (path : Option ℕ) (ns : List Instance) → LeadsTo e t path ns → AreAt (lineages_of e) (nodes_of t path) ns
led-nodes e t None ns h = subst (AreAt (lineages_of e) []) h tt
led-nodes e t (Some u) ns h = subst (λ o. AreAt (lineages_of e) (listed o) ns) (sym h.1) h.3

pub led-to : (e : Elab) (t : Trails) (r : Option ℕ) (b : Nested) (d : Dynamic) (path : Code) (n : Instance) → members b ≡ children n → d.steps ≡ steps_of path → LeadsTo e t r (led_down children (is_step (around d.assigns.scope)) (children n) (steps_of path)) → LeadsTo e t r (targets b d)
led-to e t r b d path n inside steps h = subst (LeadsTo e t r) (λ i. led_down children (is_step (around d.assigns.scope)) (sym inside i) (sym steps i)) h

seen-nodes : (rows : List Row) (t : Trails) (m : Marks) (path : Option ℕ) (u : ℕ) (p : Prop) (ok : Bool) → path ≡ Some u → (s : IsSeen rows t m u p ok) → nodes_of t path ≡ s.ks
seen-nodes rows t m path u p ok e s = ap (nodes_of t) e ∙ ap listed s.is

-- What was found of a path and a property.
abbrev pub WasSeen : Seen → Option ℕ → Prop → Bool → Type 0
WasSeen s path p ok = (u : ℕ) × (path ≡ Some u) × (is_marked (marks_of ok s) u (same_prop p) ≡ true)

pub legal-seen : (e : Elab) (node : ℕ) (rows : List Row) (b : Nested) (k : Known) (earlier : List Dynamic) (path : Option ℕ) (p : Prop) (ok : Bool) → WasSeen k.seen path p ok → AreKnown e node rows b k earlier → ok ≡ list_all (legal_at rows p) (nodes_of k.trails path)
legal-seen e node rows b k earlier path p ok w h =
    let s = h.seen_ ok w.0 p w.2 in
    sym (ap (list_all (legal_at rows p)) (seen-nodes rows k.trails k.marks path w.0 p ok w.1 s) ∙ s.kinds)

-- a property that was assigned to a path is assigned at one of its nodes
pub taken-seen : (e : Elab) (node : ℕ) (rows : List Row) (b : Nested) (k : Known) (earlier : List Dynamic) (path : Option ℕ) (p : Prop) (o : Option Bool) → IfSome o (WasSeen k.seen path p) → AreKnown e node rows b k earlier → is_some o ≡ true
    → list_any (λ i. is_marked k.marks i (same_prop p)) (nodes_of k.trails path) ≡ true
taken-seen e node rows b k earlier path p None w h some = cc some
taken-seen e node rows b k earlier path p (Some ok) w h some =
    let s = h.seen_ ok w.0 p w.2 in
    ap (list_any (λ i. is_marked k.marks i (same_prop p))) (seen-nodes rows k.trails k.marks path w.0 p ok w.1 s) ∙ some-passes (λ i. is_marked k.marks i (same_prop p)) s.ks s.some s.marked

pub rival-seen : (e : Elab) (node : ℕ) (rows : List Row) (b : Nested) (k : Known) (earlier : List Dynamic) (path : Option ℕ) (p : Prop) (ok : Bool) → WasSeen k.rivals path p ok → AreKnown e node rows b k earlier → ok ≡ list_any (has_rival k.marks p) (nodes_of k.trails path)
rival-seen e node rows b k earlier path p ok w h =
    let s = h.rivals_ ok w.0 p w.2 in
    sym (ap (list_any (has_rival k.marks p)) (ap (nodes_of k.trails) w.1 ∙ ap listed s.is) ∙ s.any)

-- Nothing yet, and a path more.

no-mark : (s : Seen) → ((ok : Bool) (i : ℕ) (f : Prop → Bool) → is_marked (marks_of ok s) i f ≡ false) → (ok : Bool) (u : ℕ) (p : Prop) → is_marked (marks_of ok s) u (same_prop p) ≡ true → ⊥
no-mark s none ok u p h = let q : false ≡ true = sym (none ok u (same_prop p)) ∙ h in cc q

pub nothing-known : (e : Elab) (node : ℕ) (rows : List Row) (b : Nested) (k : Known) → AreTrails e node k.trails → ((i : ℕ) (f : Prop → Bool) → is_marked k.marks i f ≡ false) → ((ok : Bool) (i : ℕ) (f : Prop → Bool) → is_marked (marks_of ok k.seen) i f ≡ false) → ((ok : Bool) (i : ℕ) (f : Prop → Bool) → is_marked (marks_of ok k.rivals) i f ≡ false) → AreKnown e node rows b k []
nothing-known e node rows b k trails marks seen rivals = record { trails_ = trails; marks_ = record { at = λ i n is f. marks i f }; seen_ = λ ok u p h. absurd (no-mark k.seen seen ok u p h); rivals_ = λ ok u p h. absurd (no-mark k.rivals rivals ok u p h) }

pub walked-on : (e : Elab) (node : ℕ) (rows : List Row) (b : Nested) (old new : Known) (earlier : List Dynamic) (r : Option ℕ) (ns : List Instance) → new.marks ≡ old.marks → new.seen ≡ old.seen → new.rivals ≡ old.rivals → Finds e node old.trails new.trails r ns → AreKnown e node rows b old earlier → AreKnown e node rows b new earlier
walked-on e node rows b old new earlier r ns marks seen rivals f h = record {
  trails_ = f.are;
  marks_ = subst (λ m. AreMarks (lineages_of e) b m earlier) (sym marks) h.marks_;
  seen_ = λ ok u p is.
      let s = h.seen_ ok u p (subst (λ x. is_marked (marks_of ok x) u (same_prop p) ≡ true) seen is) in
      record { ks = s.ks; is = f.keeps u s.ks s.is; some = s.some; marked = subst (λ m. list_all (λ k. is_marked m k (same_prop p)) s.ks ≡ true) (sym marks) s.marked; kinds = s.kinds };
  rivals_ = λ ok u p is.
      let s = h.rivals_ ok u p (subst (λ x. is_marked (marks_of ok x) u (same_prop p) ≡ true) rivals is) in
      record { ks = s.ks; is = f.keeps u s.ks s.is; any = subst (λ m. list_any (has_rival m p) s.ks ≡ ok) (sym marks) s.any };
}

-- One assignment more.

pub known-stays : (e : Elab) (node : ℕ) (rows : List Row) (b : Nested) (k : Known) (earlier : List Dynamic) (d : Dynamic) → prop_of d.assigns ≡ None → AreKnown e node rows b k earlier → AreKnown e node rows b k (earlier ++ (d ∷ []))
known-stays e node rows b k earlier d none h = record { trails_ = h.trails_; marks_ = marks-stay (lineages_of e) b k.marks earlier d h.marks_ none; seen_ = h.seen_; rivals_ = h.rivals_ }

marked-all : (m : Marks) (p : Prop) (ks : List ℕ) → list_all (λ k. is_marked m k (same_prop p)) ks ≡ true → (j : ℕ) (f : Prop → Bool) → is_marked m j f ≡ (is_marked m j f || (list_any (λ k. k == j) ks && f p))
marked-all m p ks all j f = go (list_any (λ k. k == j) ks) refl
  where
    go : (b : Bool) → list_any (λ k. k == j) ks ≡ b → is_marked m j f ≡ (is_marked m j f || (b && f p))
    go false e = sym (or-false (is_marked m j f))
    go true e = marked_again m j p (member (λ k. is_marked m k (same_prop p)) ks j all e) j f ∙ ap (λ c. is_marked m j f || (c && f p)) (eq-itself j)

bool-same : (a b : Bool) → same_bool a b ≡ true → a ≡ b
bool-same true b e = sym e
bool-same false true e = cc e
bool-same false false e = refl

number-is : (path : Option ℕ) (u : ℕ) → is_number path u ≡ true → path ≡ Some u
number-is None u e = cc e
number-is (Some n) u e = ap Some (eq-same n u e)

pub mark-again : (e : Elab) (node : ℕ) (rows : List Row) (b : Nested) (k new : Known) (earlier : List Dynamic) (d : Dynamic) (path : Option ℕ) (p : Prop) (x : Bool) (o : Option Bool) → new.trails ≡ k.trails → new.marks ≡ k.marks → new.seen ≡ k.seen
    → ((ok : Bool) (u : ℕ) (f : Prop → Bool) → is_marked (marks_of ok new.rivals) u f ≡ (is_marked (marks_of ok k.rivals) u f || (same_bool ok x && (is_number path u && f p)))) → x ≡ list_any (has_rival k.marks p) (nodes_of k.trails path)
    → IfSome o (WasSeen k.seen path p) → is_some o ≡ true → AreKnown e node rows b k earlier → LeadsTo e k.trails path (targets b d) → prop_of d.assigns ≡ Some p → AreKnown e node rows b new (earlier ++ (d ∷ []))
mark-again e node rows b k new earlier d path p x None ts ms ss put right w some h led named = cc some
mark-again e node rows b k new earlier d path p x (Some y) ts ms ss put right w some h led named = record {
  trails_ = subst (AreTrails e node) (sym ts) h.trails_;
  marks_ = subst (λ m. AreMarks (lineages_of e) b m (earlier ++ (d ∷ []))) (sym ms) (marks-push e b k.marks k.marks earlier d p s.ks h.marks_ at named (marked-all k.marks p s.ks s.marked));
  seen_ = subst (λ t. AreSeen rows t new.marks new.seen) (sym ts) (subst (λ m. AreSeen rows k.trails m new.seen) (sym ms) (subst (AreSeen rows k.trails k.marks) (sym ss) h.seen_));
  rivals_ = λ ok u q marked. subst (λ t. IsRivalled t new.marks u q ok) (sym ts) (subst (λ m. IsRivalled k.trails m u q ok) (sym ms) (by ok u q (is_marked (marks_of ok k.rivals) u (same_prop q)) refl (sym (put ok u (same_prop q)) ∙ marked)));
}
  where
    s : IsSeen rows k.trails k.marks w.0 p y
    s = h.seen_ y w.0 p w.2

    at : AreAt (lineages_of e) s.ks (targets b d)
    at = subst (λ js. AreAt (lineages_of e) js (targets b d)) (seen-nodes rows k.trails k.marks path w.0 p y w.1 s) (led-nodes e k.trails path (targets b d) led)

    fresh : (u : ℕ) (ok : Bool) → path ≡ Some u → ok ≡ x → IsRivalled k.trails k.marks u p ok
    fresh u ok here same =
        let l : LeadsTo e k.trails (Some u) (targets b d) = subst (λ r. LeadsTo e k.trails r (targets b d)) here led in
        record { ks = l.0; is = l.1; any = sym (same ∙ (right ∙ ap (list_any (has_rival k.marks p)) (ap (nodes_of k.trails) here ∙ ap listed l.1))) }

    by : (ok : Bool) (u : ℕ) (q : Prop) (c : Bool) → is_marked (marks_of ok k.rivals) u (same_prop q) ≡ c → (c || (same_bool ok x && (is_number path u && same_prop q p))) ≡ true → IsRivalled k.trails k.marks u q ok
    by ok u q true was some = h.rivals_ ok u q was
    by ok u q false was some =
        let outer = and-both (same_bool ok x) (is_number path u && same_prop q p) some in
        let inner = and-both (is_number path u) (same_prop q p) outer.1 in
        subst (λ z. IsRivalled k.trails k.marks u z ok) (sym (same_prop-is q p inner.1)) (fresh u ok (number-is path u inner.0) (bool-same ok x outer.0))

pub mark-first : (e : Elab) (node : ℕ) (rows : List Row) (b : Nested) (old new : Known) (earlier : List Dynamic) (d : Dynamic) (path : Option ℕ) (p : Prop) (legal : Bool) (js : List ℕ) → new.trails ≡ old.trails → js ≡ nodes_of old.trails path
    → ((j : ℕ) (f : Prop → Bool) → is_marked new.marks j f ≡ (is_marked old.marks j f || (list_any (λ k. k == j) js && f p)))
    → ((ok : Bool) (u : ℕ) (f : Prop → Bool) → is_marked (marks_of ok new.seen) u f ≡ (is_marked (marks_of ok old.seen) u f || (same_bool ok legal && (is_number path u && f p))))
    → ((ok : Bool) (u : ℕ) (f : Prop → Bool) → is_marked (marks_of ok new.rivals) u f ≡ false) → AreKnown e node rows b old earlier → LeadsTo e old.trails path (targets b d) → prop_of d.assigns ≡ Some p → legal ≡ list_all (legal_at rows p) (nodes_of old.trails path) → AreKnown e node rows b new (earlier ++ (d ∷ []))
mark-first e node rows b old new earlier d path p legal js same_trails nodes put seen rivals h led named is = record {
  trails_ = subst (AreTrails e node) (sym same_trails) h.trails_;
  marks_ = marks-push e b old.marks new.marks earlier d p js h.marks_ (subst (λ ks. AreAt (lineages_of e) ks (targets b d)) (sym nodes) (led-nodes e old.trails path (targets b d) led)) named put;
  seen_ = λ ok u q marked. subst (λ t. IsSeen rows t new.marks u q ok) (sym same_trails) (by ok u q (is_marked (marks_of ok old.seen) u (same_prop q)) refl (sym (seen ok u (same_prop q)) ∙ marked));
  rivals_ = λ ok u q marked. absurd (no-mark new.rivals rivals ok u q marked);
}
  where
    more : (k : ℕ) (f : Prop → Bool) → is_marked old.marks k f ≡ true → is_marked new.marks k f ≡ true
    more k f t = put k f ∙ ap (λ c. c || (list_any (λ i. i == k) js && f p)) t

    fresh : (u : ℕ) (ok : Bool) → path ≡ Some u → ok ≡ legal → IsSeen rows old.trails new.marks u p ok
    fresh u ok at right =
        let l : LeadsTo e old.trails (Some u) (targets b d) = subst (λ r. LeadsTo e old.trails r (targets b d)) at led in
        let these : js ≡ l.0 = nodes ∙ (ap (nodes_of old.trails) at ∙ ap listed l.1) in
        let each : (k : ℕ) → list_any (λ i. i == k) js ≡ true → is_marked new.marks k (same_prop p) ≡ true =
        λ k among. put k (same_prop p) ∙ or-true_right (is_marked old.marks k (same_prop p)) (list_any (λ i. i == k) js && same_prop p p) (λ i. among i && true_same of_prop.the_type p p refl i) in
        record {
          ks = l.0;
          is = l.1;
          some = l.2;
          marked = subst (λ ks. list_all (λ k. is_marked new.marks k (same_prop p)) ks ≡ true) these (all-imp (λ k. list_any (λ i. i == k) js) (λ k. is_marked new.marks k (same_prop p)) js each (each-among [] js));
          kinds = sym (right ∙ (is ∙ ap (list_all (legal_at rows p)) (sym nodes ∙ these)));
        }

    by : (ok : Bool) (u : ℕ) (q : Prop) (c : Bool) → is_marked (marks_of ok old.seen) u (same_prop q) ≡ c → (c || (same_bool ok legal && (is_number path u && same_prop q p))) ≡ true → IsSeen rows old.trails new.marks u q ok
    by ok u q true was some =
        let s = h.seen_ ok u q was in
        record { ks = s.ks; is = s.is; some = s.some; marked = all-imp (λ k. is_marked old.marks k (same_prop q)) (λ k. is_marked new.marks k (same_prop q)) s.ks (λ k t. more k (same_prop q) t) s.marked; kinds = s.kinds }
    by ok u q false was some =
        let outer = and-both (same_bool ok legal) (is_number path u && same_prop q p) some in
        let inner = and-both (is_number path u) (same_prop q p) outer.1 in
        subst (λ x. IsSeen rows old.trails new.marks u x ok) (sym (same_prop-is q p inner.1)) (fresh u ok (number-is path u inner.0) (bool-same ok legal outer.0))
