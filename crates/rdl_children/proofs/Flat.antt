-- The uses of one item, one by one.
use Rattle.std.proofs.Common.{◌≡◌, ◌∙◌, ℕ, Bool, true, false, cond, List, [], ◌∷◌, ◌++◌, map, flat_map, Option, Some, option_to_list, slice_get, Ok, Err, IsErr, refl, sym, ap}
use Rattle.std.specs.List.{AllByRecursion}
use Rattle.std.specs.Result.{result_ok}
use Rattle.plain_lemmas.proofs.Lists.{cons-head as same-head, cons-tail as same-tail, nil-cons as not-empty}
use Rattle.rdl_tree.specs.declared.expr.Name.{Name}
use Rattle.rdl_tree.specs.declared.item.Inst.{Inst}
use Rattle.rdl_values.specs.Instances.{Instance, elements, given_by}
use Rattle.rdl_values.specs.NoNode.{no_node}
use Rattle.rdl_values.specs.Parameters.{Bound, bound_of}
use Rattle.rdl_values.specs.Parts.{dims_of, is_empty}
use Rattle.rdl_values.specs.Uses.{Seen, Use}
use Rattle.rdl_values.specs.Values.{Outcome}
use Rattle.rdl_uses.specs.Given.{TypeUsed, given_in, seen_behind, seens, use_by}
use Rattle.rdl_bodies.specs.Sited.{IsAt}
use Rattle.rdl_bodies.specs.declared.bodies.Bodies.{Bodies}
use Rattle.rdl_bodies.specs.declared.bodies.Site.{Site}
use Rattle.rdl_children.specs.Children.{AreChildren, IsChild, none, without, with_, pair_in}
use Rattle.rdl_children.specs.declared.child.Child.{Child}

-- what a use that has a type gives
abbrev gives : Seen → TypeUsed → Outcome Bound → Outcome (List ℕ) → List Instance
gives s type b d = elements s type.closure b d ++ []

given-clean : (s : Seen) (type : TypeUsed) (t : Bool) → is_empty (no_node s) ≡ t → s.use_.closure ≡ Some type.closure → given_by s ≡ cond t (gives s type (bound_of s.use_ type.closure) (dims_of s.use_ type.closure.def.kind)) []
given-clean s type t q c =
    ap (λ b. cond b (flat_map (λ c. elements s c (bound_of s.use_ c) (dims_of s.use_ c.def.kind)) (option_to_list s.use_.closure)) []) q
    ∙ ap (λ o. cond t (flat_map (λ c. elements s c (bound_of s.use_ c) (dims_of s.use_ c.def.kind)) (option_to_list o)) []) c

no-elements : (s : Seen) (type : TypeUsed) (b : Outcome Bound) (d : Outcome (List ℕ)) → IsErr d → gives s type b d ≡ []
no-elements s type (Ok b) (Err f) h = refl
no-elements s type (Err g) (Err f) h = refl
no-elements s type (Ok b) (Ok d) h = cc
no-elements s type (Err g) (Ok d) h = cc

no-values : (s : Seen) (type : TypeUsed) (b : Outcome Bound) (d : Outcome (List ℕ)) → IsErr b → gives s type b d ≡ []
no-values s type (Err f) d h = refl
no-values s type (Ok b) d h = cc

empty-cond : (t : Bool) (xs : List Instance) → xs ≡ [] → cond t xs [] ≡ []
empty-cond true xs e = e
empty-cond false xs e = refl

-- where the parameters have no values, no use gives nodes
pub none_bound : (type : TypeUsed) (us : List Use) (is : List Inst) (t : Bodies) → ((i : Inst) → IsErr (bound_of (use_by type i) type.closure)) → AreChildren t [] (seens type us is)
none_bound type us [] t h = none
none_bound type us (i ∷ is) t h =
    let s : Seen = seen_behind type (us, use_by type i) in
    let no = given-clean s type (is_empty (no_node s)) refl refl ∙ empty-cond (is_empty (no_node s)) (gives s type (bound_of (use_by type i) type.closure) (dims_of (use_by type i) type.closure.def.kind)) (no-values s type (bound_of (use_by type i) type.closure) (dims_of (use_by type i) type.closure.def.kind) (h i)) in
    without no (none_bound type (us ++ (use_by type i ∷ [])) is t h)

-- where none of the uses gives a node
pub none_given : (t : Bodies) (ss : List Seen) → flat_map given_by ss ≡ [] → AreChildren t [] ss
none_given t [] e = none
none_given t (s ∷ ss) e = go (given_by s) refl (λ q. none_given t ss q)
  where
    go : (ns : List Instance) → given_by s ≡ ns → (flat_map given_by ss ≡ [] → AreChildren t [] ss) → AreChildren t [] (s ∷ ss)
    go [] q rec = without q (rec (sym (ap (λ ns. ns ++ flat_map given_by ss) q) ∙ e))
    go (n ∷ ns) q rec = absurd (some (sym (ap (λ ms. ms ++ flat_map given_by ss) q) ∙ e))
      where
        some : n ∷ (ns ++ flat_map given_by ss) ≡ [] → ⊥
        some r = cc

-- What the uses of a type share where their parameters have values.
pub record IsShared (t : Bodies) (type : TypeUsed) (site : ℕ) (alias : Option Name) : Type 0 where
  pub bound : Bound
  pub values : (i : Inst) → bound_of (use_by type i) type.closure ≡ Ok bound
  pub of : Site
  pub here : slice_get t.sites.items site ≡ Some of
  pub at : IsAt t of type.closure bound
  pub alias_is : type.alias ≡ alias

module _ (t : Bodies) (type : TypeUsed) (site : ℕ) (alias : Option Name) (h : IsShared t type site alias) where
  abbrev Own : Child → Type 0
  Own x = (x.site ≡ site) × (x.alias ≡ alias)

  child : (us : List Use) (i : Inst) (x : Child) → is_empty (no_node (seen_behind type (us, use_by type i))) ≡ true → dims_of (use_by type i) type.closure.def.kind ≡ Ok x.dims.now → x.inst.now ≡ i → Own x → IsChild t x (seen_behind type (us, use_by type i))
  child us i x clean dims inst own = record {
    closure = type.closure;
    closure_is = refl;
    bound = h.bound;
    bound_is = h.values i;
    site = h.of;
    site_is = ap (λ k. slice_get t.sites.items k) own.0 ∙ h.here;
    at = h.at;
    dims_are = dims;
    clean = clean;
    inst_is = ap Some (sym inst);
    name_is = ap (λ j. j.name) (sym inst);
    alias_is = h.alias_is ∙ sym own.1;
  }

  -- one use and the others
  abbrev pairs : Bool → Inst → Outcome (List ℕ) → List (Inst × List ℕ)
  pairs b i o = cond b (map (λ ds. (i, ds)) (option_to_list (result_ok o)) ++ []) []

  one : (us : List Use) (i : Inst) (xs : List Child) (rest : List (Inst × List ℕ)) (ss : List Seen) (b : Bool) (o : Outcome (List ℕ)) → is_empty (no_node (seen_behind type (us, use_by type i))) ≡ b → dims_of (use_by type i) type.closure.def.kind ≡ o
      → map pair_in xs ≡ pairs b i o ++ rest → AllByRecursion Own xs → ((ys : List Child) → map pair_in ys ≡ rest → AllByRecursion Own ys → AreChildren t ys ss) → AreChildren t xs (seen_behind type (us, use_by type i) ∷ ss)
  one us i xs rest ss false o clean dims e own rec = without (given-clean (seen_behind type (us, use_by type i)) type false clean refl) (rec xs e own)
  one us i xs rest ss true (Err f) clean dims e own rec =
      let s : Seen = seen_behind type (us, use_by type i) in
      let no = given-clean s type true clean refl ∙ ap (gives s type (bound_of (use_by type i) type.closure)) dims ∙ no-elements s type (bound_of (use_by type i) type.closure) (Err f) refl in
      without no (rec xs e own)
  one us i [] rest ss true (Ok ds) clean dims e own rec = absurd (not-empty (i, ds) rest e)
  one us i (x ∷ xs) rest ss true (Ok ds) clean dims e own rec =
      let pair = same-head (pair_in x) (i, ds) (map pair_in xs) rest e in
      let inst : x.inst.now ≡ i = ap (λ p. p.0) pair in
      let numbers : x.dims.now ≡ ds = ap (λ p. p.1) pair in
      let others = same-tail (pair_in x) (i, ds) (map pair_in xs) rest e in
      with_ (child us i x clean (dims ∙ ap Ok (sym numbers)) inst own.0) (rec xs others own.1)

  pub all_children : (us : List Use) (is : List Inst) (xs : List Child) → map pair_in xs ≡ flat_map (given_in type) (seens type us is) → AllByRecursion Own xs → AreChildren t xs (seens type us is)
  all_children us [] [] e own = none
  all_children us [] (x ∷ xs) e own = absurd (not-empty (pair_in x) (map pair_in xs) (sym e))
  all_children us (i ∷ is) xs e own =
      let s : Seen = seen_behind type (us, use_by type i) in
      one us i xs (flat_map (given_in type) (seens type (us ++ (use_by type i ∷ [])) is)) (seens type (us ++ (use_by type i ∷ [])) is) (is_empty (no_node s)) (dims_of (use_by type i) type.closure.def.kind) refl refl e own
      (λ ys q o. all_children (us ++ (use_by type i ∷ [])) is ys q o)

-- where no instance is given, no use gives a node
pub none_given_in : (t : Bodies) (type : TypeUsed) (us : List Use) (is : List Inst) → [] ≡ flat_map (given_in type) (seens type us is) → AreChildren t [] (seens type us is)
none_given_in t type us [] e = none
none_given_in t type us (i ∷ is) e = one (is_empty (no_node s)) (dims_of (use_by type i) type.closure.def.kind) refl refl e (λ q. none_given_in t type (us ++ (use_by type i ∷ [])) is q)
  where
    s : Seen
    s = seen_behind type (us, use_by type i)

    others : List (Inst × List ℕ)
    others = flat_map (given_in type) (seens type (us ++ (use_by type i ∷ [])) is)

    one : (b : Bool) (o : Outcome (List ℕ)) → is_empty (no_node s) ≡ b → dims_of (use_by type i) type.closure.def.kind ≡ o → [] ≡ cond b (map (λ ds. (i, ds)) (option_to_list (result_ok o)) ++ []) [] ++ others → ([] ≡ others → AreChildren t [] (seens type (us ++ (use_by type i ∷ [])) is)) → AreChildren t [] (seens type us (i ∷ is))
    one false o clean dims e rec = without (given-clean s type false clean refl) (rec e)
    one true (Err f) clean dims e rec = without (given-clean s type true clean refl ∙ ap (gives s type (bound_of (use_by type i) type.closure)) dims ∙ no-elements s type (bound_of (use_by type i) type.closure) (Err f) refl) (rec e)
    one true (Ok ds) clean dims e rec = absurd (not-empty (i, ds) others e)
