-- Bodies of one text are alike.
use Rattle.std.proofs.Common.{◌≡◌, ◌∙◌, ℕ, true, List, [], ◌∷◌, map, slice_get, Option, None, Some, refl, sym, ap, subst}
use Rattle.std.specs.List.{AllByRecursion}
use Rattle.rdl_base.specs.declared.fault.Fault.{Fault}
use Rattle.rdl_values.specs.Bodies.{around}
use Rattle.rdl_values.specs.Enums.{names_of}
use Rattle.rdl_values.specs.Overlaid.{plain_of}
use Rattle.rdl_values.specs.Values.{Around, Names}
use Rattle.rdl_bodies.specs.Alike.{IsSteady, ShareTexts}
use Rattle.rdl_bodies.specs.Kept.{AreKept, IsBody, StandsIn}
use Rattle.rdl_bodies.specs.Sited.{HaveNames, own_names}
use Rattle.rdl_bodies.specs.declared.bodies.Bodies.{Bodies}
use Rattle.rdl_bodies.specs.declared.bodies.Body.{Body}
use Rattle.rdl_bodies.specs.declared.bodies.TextPlace.{TextPlace}

same-tail : (j : ℕ) (ns js ks : List ℕ) → ns ≡ j ∷ js → ns ≡ j ∷ ks → js ≡ ks
same-tail j ns js ks p q = let both : j ∷ js ≡ j ∷ ks = sym p ∙ q in cc

same-body : (bodies : List Body) (k : ℕ) (x y : Body) → slice_get bodies k ≡ Some x → slice_get bodies k ≡ Some y → x ≡ y
same-body bodies k x y p q = let both : Some x ≡ Some y = sym p ∙ q in cc

each-level : {A : Type 0} (f : Names → A) (v w : Names) (vs ws : Around) → f v ≡ f w → map f vs ≡ map f ws → map f (v ∷ vs) ≡ map f (w ∷ ws)
each-level f v w vs ws p q = ap (λ a. a ∷ map f vs) p ∙ ap (λ rest. f w ∷ rest) q

always : (ks : List ℕ) → AllByRecursion (λ k. Unit {0}) ks
always [] = tt
always (k ∷ ks) = (tt, always ks)

module _ (t : Bodies) (held : List Fault) (kept : AreKept t held) where
  module _ (j k : ℕ) (x y : Body) (at_x : slice_get t.list.items j ≡ Some x) (at_y : slice_get t.list.items k ≡ Some y) (e : x.text ≡ y.text) where
    abbrev a : IsBody t held j x
    a = kept.bodies j x at_x

    abbrev b : IsBody t held k y
    b = kept.bodies k y at_y

    one_text : a.text_is.text ≡ b.text_is.text
    one_text = let both : Some a.text_is.text ≡ Some b.text_is.text = sym a.text_is.here ∙ ap (slice_get t.texts.items) e ∙ b.text_is.here in cc

    same_items : x.items.now ≡ y.items.now
    same_items = sym a.text_is.items_are ∙ ap (λ w. w.items.now) one_text ∙ b.text_is.items_are

    same_params : x.params.now ≡ y.params.now
    same_params = sym a.text_is.params_are ∙ ap (λ w. w.params.now) one_text ∙ b.text_is.params_are

    same_names : map (λ p. p.0) (own_names x).bound ≡ map (λ p. p.0) (own_names y).bound
    same_names = sym a.valued ∙ ap (λ ps. map (λ p. p.0) (plain_of ps)) same_params ∙ b.valued

    same_enums : IsSteady t j → (own_names x).enums ≡ (own_names y).enums
    same_enums steady =
        let s = steady x a.text_is.text at_x a.text_is.here in
        a.enums_are s ∙ ap (λ is. (names_of [] [] is).enums) same_items ∙ sym (b.enums_are (subst (λ w. w.steady ≡ true) one_text s))

  -- What two bodies of one text have in common, all those round them have in common, level by level.
  module _ {A : Type 0} (f : Names → A) (P : ℕ → Type 0) (one : (j k : ℕ) (x y : Body) → slice_get t.list.items j ≡ Some x → slice_get t.list.items k ≡ Some y → x.text ≡ y.text → P j → f (own_names x) ≡ f (own_names y)) where
    levels : (js ks : List ℕ) (o : Option TextPlace) (vs ws : Around) → StandsIn t.list.items js o → StandsIn t.list.items ks o → AllByRecursion P js → HaveNames t.list.items js vs → HaveNames t.list.items ks ws → map f vs ≡ map f ws
    levels [] [] None [] [] s z all h g = refl
    levels [] [] None [] (w ∷ ws) s z all h g = absurd g
    levels [] [] None (v ∷ vs) ws s z all h g = absurd h
    levels [] [] (Some p) vs ws s z all h g = absurd s
    levels [] (k ∷ ks) None vs ws s z all h g = absurd z
    levels [] (k ∷ ks) (Some p) vs ws s z all h g = absurd s
    levels (j ∷ js) ks None vs ws s z all h g = absurd s
    levels (j ∷ js) [] (Some p) vs ws s z all h g = absurd z
    levels (j ∷ js) (k ∷ ks) (Some p) [] ws s z all h g = absurd h
    levels (j ∷ js) (k ∷ ks) (Some p) (v ∷ vs) [] s z all h g = absurd g
    levels (j ∷ js) (k ∷ ks) (Some p) (v ∷ vs) (w ∷ ws) s z all h g =
        let x = h.0.body in
        let y = g.0.body in
        let at_x = h.0.here in
        let at_y = g.0.here in
        let e : x.text ≡ y.text = ap (λ b. b.text) (same-body t.list.items j x s.0 at_x s.1) ∙ sym s.2 ∙ z.2 ∙ ap (λ b. b.text) (same-body t.list.items k z.0 y z.1 at_y) in
        let a = kept.bodies j x at_x in
        let b = kept.bodies k y at_y in
        let round_x : StandsIn t.list.items js a.text_is.text.place = subst (λ ns. StandsIn t.list.items ns a.text_is.text.place) (same-tail j x.numbers.now a.outer js a.numbers_are h.0.numbers_are) a.text_is.stands in
        let round_y : StandsIn t.list.items ks b.text_is.text.place = subst (λ ns. StandsIn t.list.items ns b.text_is.text.place) (same-tail k y.numbers.now b.outer ks b.numbers_are g.0.numbers_are) b.text_is.stands in
        let here : f v ≡ f w = sym (ap f h.0.names_are) ∙ one j k x y at_x at_y e all.0 ∙ ap f g.0.names_are in
        each-level f v w vs ws here (levels js ks a.text_is.text.place vs ws round_x (subst (λ w. StandsIn t.list.items ks w.place) (sym (one_text j k x y at_x at_y e)) round_y) all.1 h.1 g.1)

    all_levels : (j k : ℕ) (x y : Body) (vs ws : Around) → slice_get t.list.items j ≡ Some x → slice_get t.list.items k ≡ Some y → x.text ≡ y.text → AllByRecursion P x.numbers.now → HaveNames t.list.items x.numbers.now vs → HaveNames t.list.items y.numbers.now ws → map f vs ≡ map f ws
    all_levels j k x y vs ws at_x at_y e all h g =
        let a = kept.bodies j x at_x in
        let b = kept.bodies k y at_y in
        let p : TextPlace = record { outer = x.text; upto = 0 } in
        levels (j ∷ a.outer) (k ∷ b.outer) (Some p) vs ws (x, at_x, refl) (y, at_y, e) (subst (AllByRecursion P) a.numbers_are all) (subst (λ ns. HaveNames t.list.items ns vs) a.numbers_are h) (subst (λ ns. HaveNames t.list.items ns ws) b.numbers_are g)

  -- All bodies of one text are alike.
  pub share_texts : ShareTexts t
  share_texts j k x y at_x at_y e = record {
    items = same_items j k x y at_x at_y e;
    parameters = λ b c p q. all_levels (λ w. map (λ x. x.0) w.bound) (λ k. Unit {0}) (λ i l v w at_v at_w d u. same_names i l v w at_v at_w d) j k x y (b.names ∷ around b.outer) (c.names ∷ around c.outer) at_x at_y e (always x.numbers.now) p.names q.names;
    enums = λ steady b c p q. all_levels (λ w. w.enums) (IsSteady t) same_enums j k x y (b.names ∷ around b.outer) (c.names ∷ around c.outer) at_x at_y e steady p.names q.names;
  }
