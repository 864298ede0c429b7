-- The fields of a register, judged one by one.
use Rattle.std.proofs.Common.{◌≡◌, ◌∙◌, ℕ, zero, suc, ◌+◌, ◌<◌, ◌≤◌, Bool, false, ◌||◌, List, [], ◌∷◌, ◌++◌, length, flat_map, take, get_or, slice_get, true, Some, append-nil, refl, sym, ap, subst, arith}
use Rattle.std.specs.List.{list_any}
use Rattle.std.proofs.lemmas.Grind.{flat_map-append}
use Rattle.std.proofs.lemmas.List.{take_all, take_more}
use Rattle.std.proofs.lemmas.List.Folds.{list_any_at, list_any_more}
use Rattle.rdl_base.specs.declared.fault.Fault.{Fault}
use denote.Enum.Bare.{same_true}
use Rattle.rdl_tree.specs.contracts.item.Kind as of_kind
use Rattle.rdl_tree.specs.declared.item.Kind.TheVariants as kind
use Rattle.rdl_tree.specs.declared.node.Elab.{Elab}
use Rattle.rdl_tree.specs.declared.node.Node.{out-Node}
use Rattle.rdl_values.specs.Elaborated.{nodes_of}
use Rattle.rdl_values.specs.Elaboration.{IsClean}
use Rattle.rdl_values.specs.Instances.{Instance, kind_of}
use Rattle.rdl_values.specs.Parts.{is_unit}
use Rattle.rdl_layers.specs.Fields.{is_a}
use Rattle.rdl_failures.specs.Noted.{with_all}
use Rattle.rdl_failures.proofs.Sets.{with_all-append}
use Rattle.rdl_addr.specs.Bits.{Bits}
use Rattle.rdl_nodes.proofs.Members.{get-read, get-within}
use Rattle.rdl_sizes.proofs.Facts.{count-is, nodes-many}
use Rattle.rdl_sizes.proofs.Turns.{read-at}
use Rattle.rdl_rules.specs.declared.fact.Fact.{Fact}
use Rattle.rdl_rules.specs.Facts.{AreFacts, IsFact, fact_at}
use Rattle.rdl_fields.specs.declared.view.View.{View}
use Rattle.rdl_fields.specs.Views.{AreViewsOf, IsViewOf}

pub view-at : (e : Elab) (vs : List View) (bs : List Bits) → AreViewsOf e vs bs → (i : ℕ) (v : View) → slice_get vs i ≡ Some v → (b : Bits) × (slice_get bs i ≡ Some b) × IsViewOf e v b
view-at e [] bs h i v q = cc q
view-at e (w ∷ vs) [] h i v q = absurd h
view-at e (w ∷ vs) (b ∷ bs) h zero v q = let s : w ≡ v = cc q in (b, refl, subst (λ x. IsViewOf e x b) s h.0)
view-at e (w ∷ vs) (b ∷ bs) h (suc i) v q = view-at e vs bs h.1 i v q

pub as-many : (e : Elab) (vs : List View) (bs : List Bits) → AreViewsOf e vs bs → length vs ≡ length bs
as-many e [] [] h = refl
as-many e [] (b ∷ bs) h = absurd h
as-many e (v ∷ vs) [] h = absurd h
as-many e (v ∷ vs) (b ∷ bs) h = ap suc (as-many e vs bs h.1)

-- one more
pub one-more : {X : Type 0} (f : X → List Fault) (xs : List X) (i : ℕ) (x : X) (s t u : List Fault) → slice_get xs i ≡ Some x → t ≡ with_all (flat_map f (take i xs)) s → u ≡ with_all (f x) t → u ≡ with_all (flat_map f (take (i + 1) xs)) s
one-more f xs i x s t u at before put =
    let low = get-within xs i x at in
    let last : take (i + 1) xs ≡ take i xs ++ (x ∷ []) = take_more xs i x low ∙ ap (λ y. take i xs ++ (y ∷ [])) (get-read xs i x x at) in
    put ∙ (ap (with_all (f x)) before
    ∙ (sym (with_all-append (flat_map f (take i xs)) (f x) s)
    ∙ ap (λ fs. with_all fs s) (ap (λ fs. flat_map f (take i xs) ++ fs) (sym (append-nil (f x))) ∙ (sym (flat_map-append f (take i xs) (x ∷ [])) ∙ ap (flat_map f) (sym last)))))

pub all-put : {X : Type 0} (f : X → List Fault) (xs : List X) (i : ℕ) (s t : List Fault) → length xs ≤ i → t ≡ with_all (flat_map f (take i xs)) s → t ≡ with_all (flat_map f xs) s
all-put f xs i s t l h = h ∙ ap (λ ys. with_all (flat_map f ys) s) (take_all i xs l)

-- What is known of one view.

pub id-below : (e : Elab) → IsClean e → (v : View) (b : Bits) → IsViewOf e v b → (out-Node v.node.now).id < e.count
id-below e clean v b h = let low = get-within (nodes_of e) (out-Node v.node.now).id b.node h.here in let n = count-is e clean in let m = nodes-many e in omega (arith, low, n, m)

pub fact-below : (e : Elab) → IsClean e → (fs : List Fact) → AreFacts e fs → (v : View) (b : Bits) → IsViewOf e v b → (out-Node v.node.now).id < length fs
fact-below e clean fs facts v b h = let low = id-below e clean v b h in let all = facts.all_nodes in omega (arith, low, all)

unit-kind : (n : Instance) → kind.Field ≡ kind_of n → is_unit (kind_of n) ≡ true
unit-kind n e = ap is_unit (sym e)

pub its-fact : (e : Elab) (fs : List Fact) → AreFacts e fs → (v : View) (b : Bits) → IsViewOf e v b → IsFact (fact_at fs (out-Node v.node.now).id) b.node
its-fact e fs facts v b h = facts.of_each (out-Node v.node.now).id b.node h.here (unit-kind b.node (same_true of_kind.the_type tt kind.Field (kind_of b.node) h.field))

-- of the view at a place
pub read-view : (v : View) (e : Elab) (vs : List View) (bs : List Bits) → AreViewsOf e vs bs → (i : ℕ) → i < length vs → v ≡ get_or vs i v → (b : Bits) × IsViewOf e v b
read-view v e vs bs h i low is = let q = view-at e vs bs h i v (read-at vs i v low is) in (q.0, q.2)

-- one of the views settles an answer
pub any-read : (v : View) (e : Elab) (vs : List View) (bs : List Bits) → AreViewsOf e vs bs → (p : Bits → Bool) (i : ℕ) → i < length vs → v ≡ get_or vs i v → ((b : Bits) → IsViewOf e v b → p b ≡ true) → true ≡ list_any p bs
any-read v e vs bs h p i low is t =
    let q = view-at e vs bs h i v (read-at vs i v low is) in
    sym (list_any_at p bs i q.0 (get-within bs i q.0 q.1) (ap p (get-read bs i q.0 q.0 q.1) ∙ t q.0 q.2))

-- none of the views so far, and not this one
pub none-read : (v : View) (e : Elab) (vs : List View) (bs : List Bits) → AreViewsOf e vs bs → (p : Bits → Bool) (i : ℕ) → i < length vs → v ≡ get_or vs i v → list_any p (take i bs) ≡ false → ((b : Bits) → IsViewOf e v b → p b ≡ false) → list_any p (take (i + 1) bs) ≡ false
none-read v e vs bs h p i low is before t =
    let q = view-at e vs bs h i v (read-at vs i v low is) in
    list_any_more p bs i q.0 (get-within bs i q.0 q.1) ∙ (λ j. before j || (ap p (get-read bs i q.0 q.0 q.1) ∙ t q.0 q.2) j)

pub none-any : (e : Elab) (vs : List View) (bs : List Bits) → AreViewsOf e vs bs → (p : Bits → Bool) (i : ℕ) → length vs ≤ i → list_any p (take i bs) ≡ false → false ≡ list_any p bs
none-any e vs bs h p i past before = let many = as-many e vs bs h in sym before ∙ ap (list_any p) (take_all i bs (omega (arith, many, past)))

-- a view judged behind the others
pub turn : (v : View) (e : Elab) (vs : List View) (bs : List Bits) → AreViewsOf e vs bs → (f : Bits → List Fault) (i : ℕ) → i < length vs → v ≡ get_or vs i v → (s t u : List Fault) → t ≡ with_all (flat_map f (take i bs)) s → ((b : Bits) → IsViewOf e v b → u ≡ with_all (f b) t)
    → u ≡ with_all (flat_map f (take (i + 1) bs)) s
turn v e vs bs h f i low is s t u before put = let q = view-at e vs bs h i v (read-at vs i v low is) in one-more f bs i q.0 s t u q.1 before (put q.0 q.2)

pub ended : (e : Elab) (vs : List View) (bs : List Bits) → AreViewsOf e vs bs → (f : Bits → List Fault) (i : ℕ) → length vs ≤ i → (s t : List Fault) → t ≡ with_all (flat_map f (take i bs)) s → t ≡ with_all (flat_map f bs) s
ended e vs bs h f i past s t before = let many = as-many e vs bs h in all-put f bs i s t (omega (arith, many, past)) before

-- Steps in turn.

pub three-put : (fs gs hs s t u v : List Fault) → t ≡ with_all fs s → u ≡ with_all gs t → v ≡ with_all hs u → v ≡ with_all (fs ++ gs ++ hs) s
three-put fs gs hs s t u v a b c = c ∙ (ap (with_all hs) (b ∙ (ap (with_all gs) a ∙ sym (with_all-append fs gs s))) ∙ sym (with_all-append (fs ++ gs) hs s))

pub number-below : (e : Elab) → IsClean e → (k : ℕ) (n : Instance) → slice_get (nodes_of e) k ≡ Some n → k < e.count
number-below e clean k n at = let low = get-within (nodes_of e) k n at in let c = count-is e clean in let m = nodes-many e in omega (arith, low, c, m)
