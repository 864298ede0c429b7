-- The site of the top.
use Rattle.std.proofs.Common.{◌≡◌, ◌∙◌, ℕ, List, [], ◌∷◌, ◌++◌, length, map, flat_map, take, option_to_list, slice_get, Option, None, Some, Ok, Err, refl, sym, ap, subst, arith, append-nil}
use Rattle.std.specs.Prelude.{IsErr}
use Rattle.std.proofs.lemmas.List.{take_all}
use Rattle.rdl_base.specs.declared.fault.Fault.{Fault}
use Rattle.rdl_tree.specs.declared.item.Def.{Def}
use Rattle.rdl_tree.specs.declared.item.Item.{Item}
use Rattle.rdl_tree.specs.declared.item.Param.{Param}
use Rattle.rdl_tree.specs.declared.item.Source.{Source}
use Rattle.rdl_tree.specs.declared.value.Bound.{Bound as BoundParameter}
use Rattle.rdl_values.specs.Bodies.{Closure, Scope, Layer, around, scope_at}
use Rattle.rdl_values.specs.Chained.{chained}
use Rattle.rdl_values.specs.Faults.{failures}
use Rattle.rdl_values.specs.Instances.{top_of}
use Rattle.rdl_values.specs.Over.{IsOver}
use Rattle.rdl_values.specs.Overlaid.{AreApart, overlaid, plain_of}
use Rattle.rdl_values.specs.Parameters as parameters
use Rattle.rdl_values.specs.Parameters.{Bound}
use Rattle.rdl_values.specs.Phase3.{many_parameters, of_use}
use Rattle.rdl_values.specs.Top.{root, top_seen, top_use, top_use_of}
use Rattle.rdl_values.specs.Uses.{Use}
use Rattle.rdl_values.specs.Values.{Names, Outcome}
use Rattle.rdl_values.specs.declared.parameters.Parameters.{Parameters}
use Rattle.rdl_failures.specs.Noted.{with_all}
use Rattle.rdl_failures.specs.Shown.{IsAlike}
use Rattle.rdl_scopes.specs.declared.components.Components.{Components}
use Rattle.rdl_scopes.specs.Scopes.{Shows}
use Rattle.rdl_uses.specs.Binding.{AreValues}
use Rattle.rdl_top.specs.declared.top.Top.{Top}
use Rattle.rdl_bodies.specs.Kept.{AreKept}
use Rattle.rdl_bodies.specs.Opened.{IsListed}
use Rattle.rdl_bodies.specs.Sited.{AreRound, AreValued, IsOpenAs, def_at, values_over}
use Rattle.rdl_bodies.specs.declared.bodies.Bodies.{Bodies}
use Rattle.rdl_bodies.specs.declared.bodies.Body.{Body}
use Rattle.rdl_bodies.proofs.Adding.{kept_more, round_alike}
use Rattle.rdl_bodies.proofs.Growing.{grows_same}
use Rattle.rdl_children.proofs.Bounds.{bound_apart, bound_names}
use Rattle.rdl_children.proofs.Reached.{Holds, here, found_at}
use Rattle.rdl_elab.specs.Topped.{IsRootAt, IsTopBound, IsTopListed}
use Rattle.rdl_elab.proofs.TopUses.{closure_at, node_at, top_given, top_held, top_not_given, top_use_fails, tops_fail, tops_given, use_at}

-- one body is shown alone
one-alone : (ts : List Names) (cs : List Components) (ks : List ℕ) (p : ℕ) (ps : List ℕ) (l : Layer) → Shows ts cs ks (p ∷ ps) (l ∷ []) → ps ≡ []
one-alone ts cs [] p ps l h = absurd h
one-alone ts cs (k ∷ ks) p ps l h = rest ks ps h.2
  where
    rest : (ks ps : List ℕ) → Shows ts cs ks ps [] → ps ≡ []
    rest [] [] h = refl
    rest [] (q ∷ ps) h = absurd h
    rest (k ∷ ks) [] h = absurd h
    rest (k ∷ ks) (q ∷ ps) h = absurd h

-- the values of parameters that the code has

pub bound_is : (ps : List Param) (o : Outcome Bound) (r : Option Parameters) (p : Parameters) → AreValues ps o r → r ≡ Some p → (t : Bound) × IsOver p (plain_of ps) (length ps) t × (o ≡ Ok (overlaid (plain_of ps) t))
bound_is ps o r p h e = subst (AreValues ps o) e h

pub bound_fails : (ps : List Param) (o : Outcome Bound) (r : Option Parameters) → AreValues ps o r → r ≡ None → IsErr o
bound_fails ps o r h e = subst (AreValues ps o) e h

-- the body of a number
pub root_is : (t : Bodies) (s : Source) (y : Body) → slice_get t.list.items 0 ≡ Some y → IsRootAt t s → IsOpenAs t y (root s)
root_is t s y found r =
    let both : Some r.body ≡ Some y = sym r.here ∙ found in
    let same : r.body ≡ y = cc in
    subst (λ z. IsOpenAs t z (root s)) same r.open_

pub no_root : (t : Bodies) (s : Source) → slice_get t.list.items 0 ≡ None → IsRootAt t s → ⊥
no_root t s none r = let both : Some r.body ≡ None = sym r.here ∙ none in cc

module _ (t : Bodies) (w : Option (List ℕ)) (s : Source) (top : Top) (y : Body) (open_ : IsOpenAs t y (root s)) (means : top_use_of w s ≡ Some (top_use (scope_at (root s) (take top.position s.items.now)) top.def.now top.name)) where
  abbrev pub scope_of : Scope
  scope_of = scope_at (root s) (take top.position s.items.now)

  abbrev pub use_of : Use
  use_of = use_at scope_of top.def.now top.name

  abbrev pub closure_of : Closure
  closure_of = closure_at scope_of top.def.now top.name

  same-items : y.items.now ≡ s.items.now
  same-items = sym open_.items_are

  shown_at : (i : ℕ) → Shows t.tables.items t.components.items y.numbers.now (i ∷ y.uptos.now) (scope_at (root s) (take i s.items.now))
  shown_at i = subst (λ is. Shows t.tables.items t.components.items y.numbers.now (i ∷ y.uptos.now) (scope_at (root s) (take i is))) same-items (open_.shown i)

  alone : y.uptos.now ≡ []
  alone = one-alone t.tables.items t.components.items y.numbers.now top.position y.uptos.now (record { node = None; before = take top.position s.items.now; names = (root s).names }) (shown_at top.position)

  shown : Shows t.tables.items t.components.items y.numbers.now (top.position ∷ []) scope_of
  shown = subst (λ ps. Shows t.tables.items t.components.items y.numbers.now (top.position ∷ ps) scope_of) alone (shown_at top.position)

  pub alike : IsAlike (chained t.tables.items y.numbers.now) (around scope_of)
  alike = round_alike t y.numbers.now (top.position ∷ []) scope_of shown

  pub round : AreRound t y.numbers.now (top.position ∷ []) scope_of
  round = record { shown = shown; names = open_.names }

  holds : Holds s.items.now (take top.position s.items.now) top.def.now
  holds =
      let h = top_held w s use_of means in
      let d = ap (λ u. def_or u.closure) h.use_is in
      let b = ap (λ u. before_or u.closure) h.use_is in
      subst (λ e. Holds s.items.now (take top.position s.items.now) e) (sym d) (subst (λ is. Holds s.items.now is h.def) (sym b) h.holds)
    where
      def_or : Option Closure → Def
      def_or None = top.def.now
      def_or (Some c) = c.def

      first_or : Scope → List Item
      first_or [] = []
      first_or (l ∷ ls) = l.before

      before_or : Option Closure → List Item
      before_or None = []
      before_or (Some c) = first_or c.scope

  whole : Shows t.tables.items t.components.items y.numbers.now (length s.items.now ∷ []) (scope_at (root s) s.items.now)
  whole = subst (λ is. Shows t.tables.items t.components.items y.numbers.now (length s.items.now ∷ []) (scope_at (root s) is)) (take_all (length s.items.now) s.items.now (omega arith))
      (subst (λ ps. Shows t.tables.items t.components.items y.numbers.now (length s.items.now ∷ ps) (scope_at (root s) (take (length s.items.now) s.items.now))) alone (shown_at (length s.items.now)))

  pub defined : def_at t.components.items y.numbers.now (top.position ∷ []) ≡ Some top.def.now
  defined = (found_at t.tables.items t.components.items y.numbers.now (length s.items.now ∷ []) (scope_at (root s) s.items.now) closure_of 0 top.position [] (here (take top.position s.items.now) refl holds) whole shown).defined

  pub apart : (b : Bound) → parameters.bound_of use_of closure_of ≡ Ok b → AreApart (plain_of top.def.now.params.now)
  apart b e = bound_apart use_of closure_of b e

  pub valued : (b : Bound) (touched : List BoundParameter) → parameters.bound_of use_of closure_of ≡ Ok b → b ≡ values_over top.def.now.params.now touched → AreValued top.def.now.params.now touched
  valued b touched e is = bound_names use_of closure_of b e ∙ ap (map (λ x. x.0)) is

  module _ (before after : List Fault) (r : Option Parameters) (bound : IsTopBound use_of closure_of r before after) where
    put : after ≡ with_all (flat_map of_use (map top_seen (option_to_list (top_use_of w s)))) before
    put = bound.noted ∙ ap (λ fs. with_all fs before) (sym (tops_fail w s use_of means ∙ top_use_fails scope_of top.def.now top.name))

    pub kept_put : AreKept t before → AreKept t after
    kept_put inv = subst (AreKept t) (sym bound.noted) (kept_more t before (failures (parameters.bound_of use_of closure_of) ++ many_parameters closure_of) inv)

    no_top : IsErr (parameters.bound_of use_of closure_of) → top_of w s ≡ []
    no_top = go (parameters.bound_of use_of closure_of) refl
      where
        go : (o : Outcome Bound) → parameters.bound_of use_of closure_of ≡ o → IsErr o → top_of w s ≡ []
        go (Ok b) e h = cc
        go (Err f) e h = tops_given w s use_of means ∙ top_not_given scope_of top.def.now top.name f e

    pub none_listed : AreKept t before → IsErr (parameters.bound_of use_of closure_of) → IsTopListed t t before after None w s
    none_listed inv h = record {
      kept = kept_put inv;
      grown = grows_same t t refl refl refl ([], sym (append-nil t.sites.items));
      noted = put;
      top = no_top h;
    }

    pub one_listed : (u : Bodies) (site : ℕ) (b : Bound) → parameters.bound_of use_of closure_of ≡ Ok b → IsListed t u after site closure_of b → IsTopListed t u before after (Some (record { site = site; name = top.name })) w s
    one_listed u site b e h = record {
      kept = h.kept;
      grown = h.grown;
      noted = put;
      top = (
        node_at scope_of top.def.now top.name b,
        tops_given w s use_of means ∙ top_given scope_of top.def.now top.name b e,
        record { path_is = refl; inst_is = refl; alias_is = refl; name_is = refl; site = h.site; here = h.here; at = h.at },
      );
    }
