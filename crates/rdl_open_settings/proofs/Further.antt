-- Further bodies of a text, judged by what is live.
use Rattle.std.proofs.Common.{◌≡◌, ◌∙◌, ℕ, false, true, nat_eq, Bool, List, [], ◌++◌, Option, None, Some, slice_get, arith, refl, sym, ap, subst}
use Rattle.std.specs.Prelude.{IfSome}
use Rattle.std.specs.HashMap.{Updates, get}
use Rattle.std.proofs.lemmas.Bool.Decides.{nat_tests}
use Rattle.rdl_base.specs.declared.fault.Fault.{Fault}
use Rattle.rdl_props.specs.Table.{is_legal}
use Rattle.rdl_tree.specs.declared.item.Kind.{Kind}
use Rattle.rdl_values.specs.Bodies as values
use Rattle.rdl_values.specs.Values.{Around}
use Rattle.rdl_failures.specs.Noted.{Holds, with_all}
use Rattle.rdl_failures.proofs.Sets.{held, holds-left, holds-right, kept}
use Rattle.rdl_layers.specs.Assignments.{defaults}
use Rattle.rdl_layers.specs.Judged.{all_failures, anywhere, failures_of}
use Rattle.rdl_layers.specs.Phase4.{of_enums}
use Rattle.rdl_assignments.specs.Live.{AreThinned, default_set, visible_in}
use Rattle.rdl_assignments.specs.Steady.{AreNamedAs}
use Rattle.rdl_bodies.specs.Alike.{AreSteady}
use Rattle.rdl_bodies.specs.Sited.{IsOpenAs}
use Rattle.rdl_bodies.specs.declared.bodies.Bodies.{Bodies}
use Rattle.rdl_bodies.specs.declared.bodies.Body.{Body}
use Rattle.rdl_dynamic.specs.Written.{AreWritten}
use Rattle.rdl_dynamic.specs.declared.written.Written.{Written}
use Rattle.rdl_open_settings.specs.Layered.{CanRead, of_kind, of_layers}
use Rattle.rdl_open_settings.specs.Texts.{AreTexts, AreThinnedLocals, IsJudged, IsLiveOf, IsLiveText, known_at, live_at}
use Rattle.rdl_open_settings.specs.declared.live.LiveText.{LiveText}
use Rattle.rdl_open_settings.specs.declared.texts.JudgedText.{JudgedText}
use Rattle.rdl_open_settings.specs.declared.texts.JudgedTexts.{JudgedTexts}

-- What is held of the body that was judged, and of a further one.
module _ (t : Bodies) (start : List Fault) (k : ℕ) (kind : Option Kind) (dynamics : List Written) (l : LiveText) (h : IsJudged t start k kind dynamics) (live : IsLiveOf t k l) where
  all : Holds start (of_kind kind h.shown ++ all_failures (failures_of anywhere) (defaults h.shown) ++ of_enums h.shown)
  all = subst (λ q. Holds start (of_kind q h.shown ++ all_failures (failures_of anywhere) (defaults h.shown) ++ of_enums h.shown)) h.kind_is h.fails

  front : Holds start (of_kind kind h.shown ++ all_failures (failures_of anywhere) (defaults h.shown))
  front = holds-left (of_kind kind h.shown ++ all_failures (failures_of anywhere) (defaults h.shown)) (of_enums h.shown) start all

  own-held : Holds start (of_kind kind h.shown)
  own-held = holds-left (of_kind kind h.shown) (all_failures (failures_of anywhere) (defaults h.shown)) start front

  defaults-held : Holds start (all_failures (failures_of anywhere) (defaults h.shown))
  defaults-held = holds-right (of_kind kind h.shown) (all_failures (failures_of anywhere) (defaults h.shown)) start front

  enums-held : Holds start (of_enums h.shown)
  enums-held = holds-right (of_kind kind h.shown ++ all_failures (failures_of anywhere) (defaults h.shown)) (of_enums h.shown) start all

  first-items : h.shown.items ≡ live.items
  first-items = h.open_.items_are ∙ live.have h.number h.body h.listed h.text_is

  first-named : AreNamedAs live.same live.visible (visible_in h.shown)
  first-named = live.named h.number h.body h.listed h.text_is h.shown h.open_

  module _ (j : ℕ) (x : Body) (here : slice_get t.list.items j ≡ Some x) (text : x.text ≡ k) (b : values.Body) (open_ : IsOpenAs t x b) where
    items : b.items ≡ live.items
    items = open_.items_are ∙ live.have j x here text

    named : AreNamedAs live.same live.visible (visible_in b)
    named = live.named j x here text b open_

    pub thinned_locals : AreThinnedLocals kind start b l.locals.items
    thinned_locals = go kind own-held
      where
        go : (q : Option Kind) → Holds start (of_kind q h.shown) → AreThinnedLocals q start b l.locals.items
        go None g = tt
        go (Some q) g = live.live.locals (λ p. is_legal p q) start h.shown b first-items items first-named named g

    pub thinned_defaults : (fs : List Fault) → AreThinned default_set anywhere (with_all fs start) b [] b.items l.defaults.items
    thinned_defaults fs = live.live.defaults anywhere (with_all fs start) h.shown b first-items items first-named named (kept (all_failures (failures_of anywhere) (defaults h.shown)) fs start defaults-held)

    pub same_enums : (fs : List Fault) → l.entries_vary ≡ false → Holds (with_all fs start) (of_enums b)
    same_enums fs q = kept (of_enums b) fs start (subst (Holds start) (live.live.entries q h.shown b first-items items first-named named) enums-held)

    pub same_dynamics : AreWritten dynamics b.items
    same_dynamics = subst (AreWritten dynamics) (live.have h.number h.body h.listed h.text_is ∙ sym items) h.dynamics_are

-- What is known stays so where more failures are held.

judged-on : (t : Bodies) (start fs : List Fault) (k : ℕ) (kind : Option Kind) (dynamics : List Written) → IsJudged t start k kind dynamics → IsJudged t (with_all fs start) k kind dynamics
judged-on t start fs k kind dynamics h = record {
  number = h.number;
  body = h.body;
  listed = h.listed;
  text_is = h.text_is;
  shown = h.shown;
  open_ = h.open_;
  kind_is = h.kind_is;
  fails = kept (of_layers h.shown) fs start h.fails;
  dynamics_are = h.dynamics_are;
}

pub texts_on : (t : Bodies) (start after fs : List Fault) (x : JudgedTexts) → after ≡ with_all fs start → AreTexts t start x → AreTexts t after x
texts_on t start after fs x e h = record {
  known = λ k w at. subst (λ gs. IsJudged t gs k w.kind w.dynamics.value.items) (sym e) (judged-on t start fs k w.kind w.dynamics.value.items (h.known k w at));
  live = h.live;
}

-- what holds of something that there is
pub some_is : {A : Type 0} (o : Option A) (x : A) (P : A → Type 0) → o ≡ Some x → IfSome o P → P x
some_is o x P e h = subst (λ q. IfSome q P) e h

-- a text that is known
pub judged_known : (t : Bodies) (start : List Fault) (x : JudgedTexts) (k : ℕ) (w : JudgedText) (kind : Option Kind) (dynamics : List Written) → AreTexts t start x → known_at x k ≡ Some w → w.kind ≡ kind → w.dynamics.value.items ≡ dynamics → IsJudged t start k kind dynamics
judged_known t start x k w kind dynamics h at same d = subst (IsJudged t start k kind) d (subst (λ q. IsJudged t start k q w.dynamics.value.items) same (h.known k w at))

pub no_texts : (t : Bodies) (start : List Fault) (x : JudgedTexts) → ((k : ℕ) → known_at x k ≡ None) → ((k : ℕ) → live_at x k ≡ None) → AreTexts t start x
no_texts t start x a b = record { known = λ k w at. absurd (none w (sym (a k) ∙ at)); live = λ k l at. absurd (none l (sym (b k) ∙ at)) }
  where
    none : {A : Type 0} (y : A) → None ≡ Some y → ⊥
    none y e = cc

-- What is live of a text by one of its bodies.
pub live_by : (t : Bodies) (x : Body) (l : LiveText) (same : Bool) → CanRead t x → (same ≡ true → AreSteady t x.numbers.now) → ((b : values.Body) → IsOpenAs t x b → IsLiveText l same (visible_in b) x.items.now) → IsLiveOf t x.text l
live_by t x l same can steady live = record {
  same = same;
  visible = visible_in can.shown;
  items = x.items.now;
  live = live can.shown can.open_;
  have = λ j y here text. (can.texts j can.number y x here can.listed text).items;
  named = λ j y here text b open_. record {
    parameters = sym ((can.texts can.number j x y can.listed here (sym text)).parameters can.shown b can.open_ open_);
    enums = λ q. sym ((can.texts can.number j x y can.listed here (sym text)).enums (steady q) can.shown b can.open_ open_);
  };
}

same-number : (j k : ℕ) → nat_eq k j ≡ true → j ≡ k
same-number j k e = grind (arith, e, nat_tests)

-- what is live of a text was noted
pub live_noted : (t : Bodies) (start : List Fault) (x y : JudgedTexts) (k : ℕ) (l : LiveText) → y.known ≡ x.known → Updates nat_eq x.live y.live k (Some l) → IsLiveOf t k l → AreTexts t start x → AreTexts t start y
live_noted t start x y k l same put is h = record {
  known = λ j w at. h.known j w (ap (λ m. get nat_eq m j) (sym same) ∙ at);
  live = λ j m at. go j m at (nat_eq k j) refl;
}
  where
    go : (j : ℕ) (m : LiveText) → live_at y j ≡ Some m → (q : Bool) → nat_eq k j ≡ q → IsLiveOf t j m
    go j m at false q = h.live j m (sym (put.2 j q) ∙ at)
    go j m at true q =
        let at_k : j ≡ k = same-number j k q in
        let both : Some l ≡ Some m = sym put.1 ∙ ap (live_at y) (sym at_k) ∙ at in
        let one : l ≡ m = cc in
        subst (λ i. IsLiveOf t i m) (sym at_k) (subst (IsLiveOf t k) one is)

-- the first body of a text was judged
pub first_judged : (t : Bodies) (start after : List Fault) (x y : JudgedTexts) (b : Body) (shown : values.Body) (w : JudgedText) → CanRead t b → y.live ≡ x.live → Updates nat_eq x.known y.known b.text (Some w)
    → w.kind ≡ b.kind → AreWritten w.dynamics.value.items b.items.now → IsOpenAs t b shown → after ≡ with_all (of_layers shown) start → AreTexts t start x → AreTexts t after y
first_judged t start after x y b shown w can same put kind dynamics open_ e h =
    let on = texts_on t start after (of_layers shown) x e h in
    record {
      known = λ j v at. go on j v at (nat_eq b.text j) refl;
      live = λ j l at. on.live j l (ap (λ m. get nat_eq m j) (sym same) ∙ at);
    }
  where
    own : IsJudged t after b.text w.kind w.dynamics.value.items
    own = record {
      number = can.number;
      body = b;
      listed = can.listed;
      text_is = refl;
      shown = shown;
      open_ = open_;
      kind_is = open_.kind_is ∙ sym kind;
      fails = subst (λ gs. Holds gs (of_layers shown)) (sym e) (held (of_layers shown) start);
      dynamics_are = dynamics;
    }

    go : AreTexts t after x → (j : ℕ) (v : JudgedText) → known_at y j ≡ Some v → (q : Bool) → nat_eq b.text j ≡ q → IsJudged t after j v.kind v.dynamics.value.items
    go on j v at false q = on.known j v (sym (put.2 j q) ∙ at)
    go on j v at true q =
        let at_k : j ≡ b.text = same-number j b.text q in
        let both : Some w ≡ Some v = sym put.1 ∙ ap (known_at y) (sym at_k) ∙ at in
        let one : w ≡ v = cc in
        subst (λ i. IsJudged t after i v.kind v.dynamics.value.items) (sym at_k) (subst (λ z. IsJudged t after b.text z.kind z.dynamics.value.items) one own)
