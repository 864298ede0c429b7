-- What a step leads to in a body.
use Rattle.std.proofs.Common.{◌≡◌, ◌∙◌, ℕ, Bool, true, false, ◌&&◌, ◌==◌, cond, bytes_eq, List, [], ◌∷◌, ◌++◌, append-nil, filter, Vec, refl, sym, ap, subst}
use Rattle.std.specs.Global.{Global}
use Rattle.plain_lemmas.proofs.Bools.{and-both, and-false, and_true-is}
use Rattle.plain_lemmas.proofs.Lists.{bytes_eq-same}
use Rattle.plain_lemmas.proofs.Numbers.{eq-same}
use Rattle.rdl_tree.specs.declared.expr.Step.{Step}
use Rattle.rdl_tree.specs.declared.node.Elab.{Elab}
use Rattle.rdl_values.specs.Elaborated.{index_of}
use Rattle.rdl_values.specs.Instances.{Instance, children}
use Rattle.rdl_values.specs.Lineages.{lineages_of}
use Rattle.rdl_values.specs.Values.{Around}
use Rattle.rdl_nodes.specs.Keyed.{Key, nodes_under, same_key}
use Rattle.rdl_layers.specs.Assignments.{is_index_or_none, is_step}
use Rattle.rdl_targets.specs.At.{AreAt, IsAt}
use Rattle.rdl_targets.specs.Contents.{AreContents, found_wanted, is_element, is_named, passes}
use Rattle.rdl_targets.specs.Noted.{same_turn, same_wanted, under_wanted}
use Rattle.rdl_targets.specs.Steps.{Wants}
use Rattle.rdl_targets.specs.declared.contents.Contents.{Contents}
use Rattle.rdl_targets.specs.declared.notes.Notes.{Notes}
use Rattle.rdl_targets.specs.declared.matching.Wanted.{Wanted}
use Rattle.rdl_targets.specs.declared.matching.Wanted.TheVariants as wants
use Rattle.rdl_targets.proofs.Wants.{wants_none, wants_these}

pub filter-same : (p q : Instance → Bool) → ((n : Instance) → p n ≡ q n) → (ns : List Instance) → filter p ns ≡ filter q ns
filter-same p q same [] = refl
filter-same p q same (n ∷ ns) = (λ i. cond (same n i) (n ∷ filter-same p q same ns i) (filter-same p q same ns i))

pub filter-none : (ns : List Instance) → filter (λ n. false) ns ≡ []
filter-none [] = refl
filter-none (n ∷ ns) = filter-none ns

pub under-are : (e : Elab) (c : Contents) (k : ℕ) (n : Instance) (name : List ℕ) (w : Wanted) → AreContents e c → IsAt (lineages_of e) k n → AreAt (lineages_of e) (found_wanted c k name w) (filter (passes w name) (children n))
under-are e c k n name wants.Any are at = are.named k n name at
under-are e c k n name wants.None are at = subst (AreAt (lineages_of e) []) (sym (filter-none (children n))) tt
under-are e c k n name (wants.These v) are at = are.indexed k n name v.items at

-- the test of a step
pub passes-step : (env : Around) (t : Step) (w : Wanted) → Wants w env t.index.now → (n : Instance) → passes w t.name.text.now n ≡ is_step env t n
passes-step env t wants.Any none n = and_true-is (is_named t.name.text.now n) ∙ ap (λ es. is_named t.name.text.now n && is_index_or_none env es (index_of n.path)) (sym none)
passes-step env t wants.None w n = sym (ap (λ b. is_named t.name.text.now n && b) (sym (wants_none env t.index.now (index_of n.path) w.0 w.1)) ∙ and-false (is_named t.name.text.now n))
passes-step env t (wants.These v) w n = ap (λ b. is_named t.name.text.now n && b) (wants_these env t.index.now v.items (index_of n.path) w.0 w.1)

-- A number more under a body, a name and indices.

none-under : (b : Bool) (x : ℕ) (xs : List ℕ) → xs ≡ xs ++ cond (b && false) (x ∷ []) []
none-under b x xs = sym (ap (λ c. xs ++ cond c (x ∷ []) []) (and-false b) ∙ append-nil xs)

pub kept-none : (c : Notes) (b x : ℕ) (name : List ℕ) (w : Wanted) (k : ℕ) (n : List ℕ) (v : Wanted) → under_wanted c k n v ≡ under_wanted c k n v ++ cond (false && same_turn b name w k n v) (x ∷ []) []
kept-none c b x name w k n v = sym (append-nil (under_wanted c k n v))

pub kept-any : (old new : Notes) (b x : ℕ) (name : List ℕ) → new.elements ≡ old.elements → ((k : Key) → nodes_under new.names k ≡ nodes_under old.names k ++ cond (same_key (record { body = b; name = name; index = [] }) k) (x ∷ []) [])
    → (k : ℕ) (n : List ℕ) (v : Wanted) → under_wanted new k n v ≡ under_wanted old k n v ++ cond (true && same_turn b name wants.Any k n v) (x ∷ []) []
kept-any old new b x name rest put k n wants.Any = put (record { body = k; name = n; index = [] })
kept-any old new b x name rest put k n wants.None = none-under (b == k && bytes_eq name n) x []
kept-any old new b x name rest put k n (wants.These v) = ap (λ t. nodes_under t (record { body = k; name = n; index = v.items })) rest ∙ none-under (b == k && bytes_eq name n) x (nodes_under old.elements (record { body = k; name = n; index = v.items }))

pub kept-these : (old new : Notes) (b x : ℕ) (name index : List ℕ) (w : Vec ℕ Global) → new.names ≡ old.names → index ≡ w.items → ((k : Key) → nodes_under new.elements k ≡ nodes_under old.elements k ++ cond (same_key (record { body = b; name = name; index = index }) k) (x ∷ []) [])
    → (k : ℕ) (n : List ℕ) (v : Wanted) → under_wanted new k n v ≡ under_wanted old k n v ++ cond (true && same_turn b name (wants.These w) k n v) (x ∷ []) []
kept-these old new b x name index w rest same put k n wants.Any = ap (λ t. nodes_under t (record { body = k; name = n; index = [] })) rest ∙ none-under (b == k && bytes_eq name n) x (nodes_under old.names (record { body = k; name = n; index = [] }))
kept-these old new b x name index w rest same put k n wants.None = none-under (b == k && bytes_eq name n) x []
kept-these old new b x name index w rest same put k n (wants.These v) = put (record { body = k; name = n; index = v.items }) ∙ ap (λ i. nodes_under old.elements (record { body = k; name = n; index = v.items }) ++ cond ((b == k && bytes_eq name n) && bytes_eq i v.items) (x ∷ []) []) same

-- the same body, name and indices
pub record IsSameTurn (b : ℕ) (name : List ℕ) (w : Wanted) (k : ℕ) (n : List ℕ) (v : Wanted) : Type 0 where
  pub body : b ≡ k
  pub test : passes w name ≡ passes v n

pub turn-same : (b : ℕ) (name : List ℕ) (w : Wanted) (k : ℕ) (n : List ℕ) (v : Wanted) → same_turn b name w k n v ≡ true → IsSameTurn b name w k n v
turn-same b name w k n v same =
    let outer = and-both (b == k && bytes_eq name n) (same_wanted w v) same in
    let inner = and-both (b == k) (bytes_eq name n) outer.0 in
    record { body = eq-same b k inner.0; test = ap (passes w) (bytes_eq-same name n inner.1) ∙ by w v outer.1 }
  where
    by : (x y : Wanted) → same_wanted x y ≡ true → passes x n ≡ passes y n
    by wants.Any wants.Any e = refl
    by (wants.These x) (wants.These y) e = ap (is_element n) (bytes_eq-same x.items y.items e)
    by x y e = cc e
