-- What the parameters of a text's definitions have, item by item.
use Rattle.std.proofs.Common.{◌≡◌, ◌∙◌, ℕ, ◌<◌, ◌⊎◌, inl, inr, Bool, true, false, cond, ◌==◌, suc, Bor, List, [], ◌∷◌, get_or, length, slice_get, option_copied, option_map, Option, None, Some, IfSome, refl, sym, ap, subst, arith}
use Rattle.std.proofs.lemmas.Bool.{eqb-true}
use Rattle.std.proofs.lemmas.Option.{slice_get_read}
use Rattle.rdl_tree.specs.declared.item.Def.{Def}
use Rattle.rdl_tree.specs.declared.item.Item.{Item}
use Rattle.rdl_tree.specs.declared.item.Param.{Param}
use Rattle.rdl_values.specs.Bodies.{is_component, is_named}
use Rattle.rdl_values.specs.Kept.{AreDefaultsOf}
use Rattle.rdl_values.specs.Views as view
use Rattle.rdl_values.specs.Views.{ItemIs, item_is}
use Rattle.rdl_values.specs.declared.defaults.Defaults.{Defaults}
use Rattle.rdl_scopes.specs.Defaulted.{AreOfAs, AreOfItem, AreTextDefaults, defaults_at}
use Rattle.rdl_scopes.specs.declared.text_defaults.TextDefaults.{TextDefaults}

pub text_none : (t : TextDefaults) (items : List Item) → AreDefaultsOf t.none.value [] → ((k : ℕ) → defaults_at t k ≡ None) → AreTextDefaults t items
text_none t items none empty = record {
  none = none;
  each = λ k d e. let both : Some d ≡ None = sym e ∙ empty k in cc;
}

pub text_more : (items : List Item) (i : ℕ) (x : Item) (old new : TextDefaults) → i < length items → x ≡ get_or items i x → new.none ≡ old.none
    → ((k : ℕ) (d : Defaults) → defaults_at new k ≡ Some d → (defaults_at old k ≡ Some d) ⊎ ((k ≡ i) × AreOfAs d (item_is x))) → AreTextDefaults old items → AreTextDefaults new items
text_more items i x old new l at none each h = record {
  none = subst (λ d. AreDefaultsOf d []) (λ j. (sym none j).value) h.none;
  each = λ k d e. go k d (each k d e);
}
  where
    here : slice_get items i ≡ Some x
    here = slice_get_read items (length items) i x refl l at

    go : (k : ℕ) (d : Defaults) → (defaults_at old k ≡ Some d) ⊎ ((k ≡ i) × AreOfAs d (item_is x)) → AreOfItem d (slice_get items k)
    go k d (inl e) = h.each k d e
    go k d (inr q) = subst (λ j. AreOfItem d (slice_get items j)) (sym q.0) (subst (AreOfItem d) (sym here) q.1)

pub no_params : (ps : List Param) → (length ps == 0) ≡ true → ps ≡ []
no_params [] e = refl
no_params (p ∷ ps) e = let no : suc (length ps) ≡ 0 = eqb-true (suc (length ps)) 0 e in absurd (omega (arith, no))

-- What is known of an item that is a definition.
module _ (t : TextDefaults) (items : List Item) (i : Item) (k : ℕ) (def : Def) (h : AreTextDefaults t items) (at : slice_get items k ≡ Some i) (is : item_is i ≡ view.definition def) where
  pub none_is : (length def.params.now == 0) ≡ true → AreDefaultsOf t.none.value def.params.now
  none_is e = subst (AreDefaultsOf t.none.value) (sym (no_params def.params.now e)) h.none

  pub known_is : {R : Type 0} (value : R → Defaults) (w : Option R) → ((d : Defaults) → option_map value w ≡ Some d → AreOfItem d (slice_get items k)) → (o : Option (Bor R)) → option_copied o ≡ w → IfSome o (λ d. AreDefaultsOf (value d.now) def.params.now)
  known_is value w each None e = tt
  known_is value w each (Some d) e =
      let there : AreOfItem (value d.now) (slice_get items k) = each (value d.now) (ap (option_map value) (sym e)) in
      subst (AreOfAs (value d.now)) is (subst (AreOfItem (value d.now)) at there)

-- a component of a name is the definition that is found
pub component-is : (n : List ℕ) (x : ItemIs) (d : Def) → is_component n x ≡ Some d → x ≡ view.definition d
component-is n (view.definition c) d e = go (is_named n c.name) e
  where
    go : (b : Bool) → cond b (Some c) None ≡ Some d → view.definition c ≡ view.definition d
    go true q = let same : c ≡ d = cc in ap view.definition same
    go false q = cc
component-is n (view.enumeration m es) d e = cc
component-is n (view.made a m is) d e = cc
component-is n (view.default_ s) d e = cc
component-is n (view.local s) d e = cc
component-is n (view.dynamic p s) d e = cc
