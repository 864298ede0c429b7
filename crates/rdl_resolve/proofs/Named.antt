-- What a reference names where it leads.
use Rattle.std.proofs.Common.{◌≡◌, ◌∙◌, ℕ, zero, suc, ◌<◌, ◌||◌, Bool, true, false, not, ◌&&◌, List, [], ◌∷◌, ◌++◌, flat_map, length, map, option_to_list, Option, None, Some, is_some, slice_get, refl, sym, ap, subst, arith}
use Rattle.std.specs.Borrow.{Bor}
use Rattle.std.specs.List.{list_any}
use Rattle.plain_lemmas.proofs.Lists.{append-none as nothing-behind}
use Rattle.rb_base.specs.declared.place.Place.{Place}
use Rattle.rdl_base.specs.declared.rule.Rule.TheVariants as rules
use Rattle.rdl_props.specs.declared.prop.Prop.{Prop}
use Rattle.rdl_tree.specs.Kinds.{same_kind}
use Rattle.rdl_tree.specs.declared.expr.Name.{Name}
use Rattle.rdl_tree.specs.declared.expr.Path as code
use Rattle.rdl_tree.specs.declared.item.Kind.{Kind}
use Rattle.rdl_tree.specs.declared.item.Kind.TheVariants as kind
use Rattle.rdl_tree.specs.declared.node.Elab.{Elab}
use Rattle.rdl_tree.specs.declared.node.Node.{out-Node}
use Rattle.rdl_values.specs.Bodies.{Scope}
use Rattle.rdl_values.specs.Elaborated.{nodes_of}
use Rattle.rdl_values.specs.Elaboration.{IsClean}
use Rattle.rdl_values.specs.Faults.{at_, when}
use Rattle.rdl_values.specs.Instances.{Instance, is_empty, kind_of}
use Rattle.rdl_values.specs.Lineages.{Lineage, lineages_of}
use Rattle.rdl_layers.specs.Settings.{Meaning, reference}
use Rattle.rdl_layers.specs.Says.{IsScopeNumber, Says}
use Rattle.rdl_layers.specs.declared.setting.Setting.TheVariants as set
use Rattle.rdl_nodes.specs.declared.table.Row.{Row}
use Rattle.rdl_nodes.specs.Rows.{AreRows}
use Rattle.rdl_refs.specs.declared.item.What.{What}
use Rattle.rdl_refs.specs.Answers.{AreItemsOf}
use Rattle.rdl_refs.specs.Items.{is_resetsignal, is_wanted, item_named, item_of, what_named}
use Rattle.rdl_refs.specs.Leads.{led_to}
use Rattle.rdl_sizes.proofs.Facts.{count-is, node-at, row-at, rows-many}
use Rattle.rdl_resolve.specs.Led.{IsLed}
use Rattle.rdl_resolve.specs.Aimed.{IsAim}
use Rattle.rdl_resolve.specs.declared.aims.Aim.{Aim}

-- Lists of one, or none.

pub any-some : (o : Option What) (t : Bool) → is_some o && t ≡ list_any (λ w. t) (option_to_list o)
any-some None t = refl
any-some (Some w) true = refl
any-some (Some w) false = refl

any-map : {X Y : Type 0} (f : X → Y) (p : Y → Bool) (xs : List X) → list_any p (map f xs) ≡ list_any (λ x. p (f x)) xs
any-map f p [] = refl
any-map f p (x ∷ xs) = ap (λ b. p (f x) || b) (any-map f p xs)

are-items : (ns : List Instance) (k : ℕ) (l : Lineage) (ws : List What) → slice_get ns k ≡ Some l.node → AreItemsOf ns (map (λ w. record { node = k; what = w }) ws) (map (item_of l) ws)
are-items ns k l [] here = tt
are-items ns k l (w ∷ ws) here = ((here, refl), are-items ns k l ws here)

module _ (e : Elab) (p : Prop) (path : code.Path) (item : Option Name) (scope : Scope) (place : Place) where
  abbrev meant : Meaning
  meant = reference path item scope place

  pub leads-nowhere : (a : Aim) → led_to (lineages_of e) path scope ≡ [] → a.target ≡ None → option_to_list a.fault ≡ at_ rules.R1 place ∷ [] → IsAim e p (reference path item scope place) a
  leads-nowhere a none nothing fault = record {
    target_ = subst (λ o. AreItemsOf (nodes_of e) (option_to_list o) (flat_map (item_named item) (led_to (lineages_of e) path scope))) (sym nothing) (subst (λ ls. AreItemsOf (nodes_of e) [] (flat_map (item_named item) ls)) (sym none) tt);
    fault_ =
        fault
        ∙ ap (λ ls. when (is_empty ls) (at_ rules.R1 place) ++ when (not (is_empty ls) && not (list_any (is_wanted p) (flat_map (item_named item) ls))) (at_ rules.R2 place)) (sym none);
  }

  pub leads-somewhere : (a : Aim) (k : ℕ) (l : Lineage) (of : Kind) → of ≡ kind_of l.node → slice_get (nodes_of e) k ≡ Some l.node → led_to (lineages_of e) path scope ≡ l ∷ []
      → option_to_list a.target ≡ map (λ w. record { node = k; what = w }) (what_named of item)
      → option_to_list a.fault ≡ when (not (list_any (λ w. not (is_resetsignal p) || same_kind kind.Signal of) (what_named of item))) (at_ rules.R2 place) → IsAim e p (reference path item scope place) a
  leads-somewhere a k l of is here one targets fault = record {
    target_ =
        subst (λ os. AreItemsOf (nodes_of e) os (flat_map (item_named item) (led_to (lineages_of e) path scope))) (sym (targets ∙ ap (λ q. map (λ w. record { node = k; what = w }) (what_named q item)) is))
        (subst (λ ls. AreItemsOf (nodes_of e) (map (λ w. record { node = k; what = w }) (what_named (kind_of l.node) item)) (flat_map (item_named item) ls)) (sym one)
        (subst (AreItemsOf (nodes_of e) (map (λ w. record { node = k; what = w }) (what_named (kind_of l.node) item))) (sym (nothing-behind (item_named item l))) (are-items (nodes_of e) k l (what_named (kind_of l.node) item) here)));
    fault_ =
        fault
        ∙ (ap (λ q. when (not (list_any (λ w. not (is_resetsignal p) || same_kind kind.Signal q) (what_named q item))) (at_ rules.R2 place)) is
        ∙ (ap (λ b. when (not b) (at_ rules.R2 place)) (sym (any-map (item_of l) (is_wanted p) (what_named (kind_of l.node) item)) ∙ ap (list_any (is_wanted p)) (sym (nothing-behind (item_named item l))))
        ∙ ap (λ ls. when (is_empty ls) (at_ rules.R1 place) ++ when (not (is_empty ls) && not (list_any (is_wanted p) (flat_map (item_named item) ls))) (at_ rules.R2 place)) (sym one)));
  }

-- the node that a number leads to
pub one-led : (e : Elab) (rows : List Row) → AreRows e rows → (k : ℕ) (x : Row) (ls : List Lineage) → slice_get rows k ≡ Some x → IsLed e (Some k) ls → (l : Lineage) × ((out-Node x.node.now).kind ≡ kind_of l.node) × (slice_get (nodes_of e) k ≡ Some l.node) × (ls ≡ l ∷ [])
one-led e rows are k x ls at led =
    let r = row-at e rows are k x at in
    (r.0, r.2.says.kind, node-at e k r.0 r.1, sym led.node_ ∙ ap option_to_list r.1)

pub always-row : (e : Elab) → IsClean e → (rows : List Row) → AreRows e rows → (k : ℕ) (ls : List Lineage) → IsLed e (Some k) ls → slice_get rows k ≡ None → ⊥
always-row e clean rows are k ls led none = has rows k (let low = led.stands k refl in let c = count-is e clean in let m = rows-many e rows are in omega (arith, low, c, m)) none
  where
    has : {X : Type 0} (xs : List X) (k : ℕ) → k < length xs → slice_get xs k ≡ None → ⊥
    has [] k l q = omega (arith, l)
    has (x ∷ xs) zero l q = cc q
    has (x ∷ xs) (suc k) l q = has xs k (omega (arith, l)) q

-- a setting that refers says that its meaning does
pub says-ref : (ns : List Instance) (path : Bor code.Path) (item : Bor (Option Name)) (k : ℕ) (place : Place) (m : Meaning) → Says ns (set.Ref path item k place) m → (scope : Scope) × (m ≡ reference path.now item.now scope place) × IsScopeNumber ns scope k
says-ref ns path item k place (reference p i scope at) h = (scope, (λ j. reference (sym h.0 j) (sym h.1 j) scope (sym h.3 j)), h.2)
says-ref ns path item k place _ h = absurd h
