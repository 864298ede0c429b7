-- Nodes and the instances that they say, one by one.
use Rattle.std.proofs.Common.{◌≡◌, ◌∙◌, ℕ, zero, suc, ◌+◌, Bool, true, false, not, ◌&&◌, ◌||◌, ◌==◌, List, [], ◌∷◌, ◌++◌, length, flat_map, take, slice_get, append-nil, Some, refl, sym, ap, subst}
use Rattle.std.specs.List.{list_any}
use Rattle.std.proofs.lemmas.Grind.{flat_map-append}
use Rattle.std.proofs.lemmas.List.{take_more}
use Rattle.std.proofs.lemmas.List.Folds.{list_any_more}
use denote.Enum.Bare.{same_true}
use Rattle.rdl_base.specs.declared.fault.Fault.{Fault}
use Rattle.rdl_tree.specs.contracts.item.Kind as of_kind
use Rattle.rdl_tree.specs.declared.item.Kind.TheVariants as kinds
use Rattle.rdl_tree.specs.declared.node.Elab.{Elab}
use Rattle.rdl_tree.specs.declared.node.Node.{Node, out-Node}
use Rattle.rdl_props.specs.declared.prop.Prop.TheVariants as prop
use Rattle.rdl_values.specs.Bodies.{standing}
use Rattle.rdl_values.specs.Instances.{Instance, kind_of}
use Rattle.rdl_values.specs.Parts.{is_unit}
use Rattle.rdl_failures.specs.Noted.{with_all}
use Rattle.rdl_failures.proofs.Noting.{standing-push}
use Rattle.rdl_failures.proofs.Sets.{with_all-append}
use Rattle.rdl_layers.specs.Fields.{has, is_a}
use Rattle.rdl_layers.specs.Phase4.{width_of}
use Rattle.rdl_rules.specs.declared.fact.Fact.{Fact}
use Rattle.rdl_rules.specs.Facts.{AreFacts, fact_at}
use Rattle.rdl_rules.specs.Fields.{is_field_reset}
use Rattle.rdl_nodes.proofs.Members.{get-read, get-within}
use Rattle.rdl_reset_rules.specs.Said.{AreSaid, IsSaid}

pub said-at : (e : Elab) (rs : List Node) (ns : List Instance) → AreSaid e rs ns → (i : ℕ) (r : Node) → slice_get rs i ≡ Some r → (n : Instance) × (slice_get ns i ≡ Some n) × IsSaid e r n
said-at e [] ns h i r q = cc q
said-at e (x ∷ xs) [] h i r q = absurd h
said-at e (x ∷ xs) (n ∷ ns) h zero r q = let s : x ≡ r = cc q in (n, refl, subst (λ y. IsSaid e y n) s h.0)
said-at e (x ∷ xs) (n ∷ ns) h (suc i) r q = said-at e xs ns h.1 i r q

pub as-many : (e : Elab) (rs : List Node) (ns : List Instance) → AreSaid e rs ns → length rs ≡ length ns
as-many e [] [] h = refl
as-many e [] (n ∷ ns) h = absurd h
as-many e (r ∷ rs) [] h = absurd h
as-many e (r ∷ rs) (n ∷ ns) h = ap suc (as-many e rs ns h.1)

-- one more, judged by those before it
pub standing-more : (f : List Instance × Instance → List Fault) (ns : List Instance) (i : ℕ) (n : Instance) (s t u : List Fault) → slice_get ns i ≡ Some n → t ≡ with_all (flat_map f (standing (take i ns))) s → u ≡ with_all (f (take i ns, n)) t → u ≡ with_all (flat_map f (standing (take (i + 1) ns))) s
standing-more f ns i n s t u at before put =
    let low = get-within ns i n at in
    let last : take (i + 1) ns ≡ take i ns ++ (n ∷ []) = take_more ns i n low ∙ ap (λ y. take i ns ++ (y ∷ [])) (get-read ns i n n at) in
    let pushed : standing (take (i + 1) ns) ≡ standing (take i ns) ++ ((take i ns, n) ∷ []) = ap standing last ∙ standing-push (take i ns) n in
    put ∙ (ap (with_all (f (take i ns, n))) before
    ∙ (sym (with_all-append (flat_map f (standing (take i ns))) (f (take i ns, n)) s)
    ∙ ap (λ fs. with_all fs s) (ap (λ fs. flat_map f (standing (take i ns)) ++ fs) (sym (append-nil (f (take i ns, n)))) ∙ (sym (flat_map-append f (standing (take i ns)) ((take i ns, n) ∷ [])) ∙ ap (flat_map f) (sym pushed)))))

pub any-more : (p : Instance → Bool) (ns : List Instance) (i : ℕ) (n : Instance) → slice_get ns i ≡ Some n → list_any p (take (i + 1) ns) ≡ (list_any p (take i ns) || p n)
any-more p ns i n at = list_any_more p ns i n (get-within ns i n at) ∙ ap (λ m. list_any p (take i ns) || p m) (get-read ns i n n at)

-- a reset signal of more than one bit

pub signal-unit : (n : Instance) → is_a kinds.Signal n ≡ true → is_unit (kind_of n) ≡ true
signal-unit n e = ap is_unit (sym (same_true of_kind.the_type tt kinds.Signal (kind_of n) e))

pub own-fails : (e : Elab) (fs : List Fact) → AreFacts e fs → (r : Node) (n : Instance) → IsSaid e r n → (b : Bool) → b ≡ is_field_reset n → (b && not ((fact_at fs (out-Node r).id).width == 1)) ≡ (is_field_reset n && not (width_of n == 1))
own-fails e fs facts r n said b is = go (is_a kinds.Signal n) refl
  where
    go : (t : Bool) → is_a kinds.Signal n ≡ t → (b && not ((fact_at fs (out-Node r).id).width == 1)) ≡ (is_field_reset n && not (width_of n == 1))
    go true q = let w = (facts.of_each (out-Node r).id n said.here (signal-unit n q)).width_ in (λ i. is i && not (w i == 1))
    go false q =
        let none : is_field_reset n ≡ false = ap (λ t. t && has prop.FieldReset n) q in
        (λ i. (is ∙ none) i && not ((fact_at fs (out-Node r).id).width == 1)) ∙ sym (λ i. none i && not (width_of n == 1))
