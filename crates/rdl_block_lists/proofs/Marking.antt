-- What the marks of registers say.
use Rattle.std.proofs.Common.{◌≡◌, ◌∙◌, ◌⊎◌, inl, inr, ℕ, ◌+◌, Bool, true, false, not, ◌&&◌, ◌||◌, cond, List, [], ◌∷◌, ◌++◌, filter, map, take, Option, None, Some, is_some, slice_get, refl, sym, ap}
use Rattle.std.specs.List.{list_any}
use Rattle.std.proofs.lemmas.List.{map-append}
use Rattle.rdl_tree.specs.declared.item.Kind.TheVariants as kind
use Rattle.rdl_tree.specs.declared.node.Elab.{Elab}
use Rattle.rdl_props.specs.declared.prop.Prop.TheVariants as prop
use Rattle.rdl_values.specs.Elaborated.{nodes_of}
use Rattle.rdl_values.specs.Instances.{Instance}
use Rattle.rdl_layers.specs.Fields.{fields_of, has_one_of, is_a, is_alias, is_interrupt}
use Rattle.rdl_nodes.proofs.Members.{In, in-flat, in-to, place-in}
use Rattle.rdl_fields.specs.Primary.{TellsPrimary}
use Rattle.rdl_fields.proofs.Lists.{filter-next}
use Rattle.rb_model.specs.declared.block.Reg.{Reg}
use Rattle.rdl_rules.specs.Block.{halts, reg_of}
use Rattle.rdl_rules.specs.Numbers.{all_fields, primaries, registers}
use Rattle.rdl_block_lists.specs.Halting.{DoHalt}

in-kept : {X : Type 0} (p : X → Bool) (xs : List X) (x : X) → In xs x → p x ≡ true → In (filter p xs) x
in-kept p [] x h q = absurd h
in-kept p (y ∷ ys) x h q = go (p y) refl h (λ i. in-kept p ys x i q)
  where
    go : (b : Bool) → p y ≡ b → (y ≡ x) ⊎ In ys x → (In ys x → In (filter p ys) x) → In (cond b (y ∷ filter p ys) (filter p ys)) x
    go true e (inl s) more = inl s
    go true e (inr i) more = inr (more i)
    go false e (inl s) more = absurd (let clash : true ≡ false = sym q ∙ (ap p (sym s) ∙ e) in cc clash)
    go false e (inr i) more = more i

-- a test that is implied where another holds
both-any : (p q : Instance → Bool) (fs : List Instance) → ((f : Instance) → In fs f → q f ≡ true → p f ≡ true) → list_any (λ f. p f && q f) fs ≡ list_any q fs
both-any p q [] h = refl
both-any p q (f ∷ fs) h = (λ i. one (p f) (q f) (h f (inl refl)) i || both-any p q fs (λ g k. h g (inr k)) i)
  where
    one : (a b : Bool) → (b ≡ true → a ≡ true) → a && b ≡ b
    one true b k = refl
    one false true k = k refl
    one false false k = refl

pub halting : (e : Elab) → DoHalt e → (k : ℕ) (n : Instance) → slice_get (nodes_of e) k ≡ Some n → is_a kind.Reg n ≡ true → is_alias n ≡ false → list_any halts (fields_of n) ≡ list_any (has_one_of (prop.Haltenable ∷ prop.Haltmask ∷ [])) (fields_of n)
halting e dohalt k n here reg none = both-any is_interrupt (has_one_of (prop.Haltenable ∷ prop.Haltmask ∷ [])) (fields_of n) (λ f i q. dohalt f (in-to (all_fields (nodes_of e)) f (in-flat fields_of (primaries (nodes_of e)) n f own i)) q)
  where
    own : In (primaries (nodes_of e)) n
    own = in-kept (λ r. not (is_alias r)) (registers (nodes_of e)) n (in-kept (is_a kind.Reg) (nodes_of e) n (place-in (nodes_of e) k n here) reg) (ap not none)

pub only-own : (a : Bool) (x y : Bool) → (a ≡ false → x ≡ y) → not a && x ≡ not a && y
only-own true x y h = refl
only-own false x y h = h refl

pub one-register : (ns : List Instance) (at : ℕ) (n : Instance) → slice_get ns at ≡ Some n → (b : Bool) → b ≡ is_a kind.Reg n → (s : Reg) → (b ≡ true → s ≡ reg_of n) → (old new : List Reg) → old ≡ map reg_of (filter (is_a kind.Reg) (take at ns)) → new ≡ old ++ cond b (s ∷ []) []
    → new ≡ map reg_of (filter (is_a kind.Reg) (take (at + 1) ns))
one-register ns at n here b is s same old new before put =
    put ∙ ((λ i. before i ++ added i)
    ∙ (sym (map-append reg_of (filter (is_a kind.Reg) (take at ns)) (cond (is_a kind.Reg n) (n ∷ []) [])) ∙ ap (map reg_of) (sym (filter-next (is_a kind.Reg) ns at n here))))
  where
    by : (t : Bool) → (t ≡ true → s ≡ reg_of n) → cond t (s ∷ []) [] ≡ map reg_of (cond t (n ∷ []) [])
    by true f = ap (λ x. x ∷ []) (f refl)
    by false f = refl

    added : cond b (s ∷ []) [] ≡ map reg_of (cond (is_a kind.Reg n) (n ∷ []) [])
    added = by b same ∙ ap (λ t. map reg_of (cond t (n ∷ []) [])) is

pub tells-alias : (e : Elab) (n : Instance) (o : Option ℕ) → TellsPrimary e n o → is_some o ≡ is_alias n
tells-alias e n None h = sym h
tells-alias e n (Some k) h = sym h.0
