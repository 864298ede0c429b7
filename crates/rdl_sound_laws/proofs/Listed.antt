-- Every property is listed.
use Rattle.std.proofs.Common.{◌≡◌, ◌∙◌, inl, inr, Bool, true, false, ◌||◌, List, [], ◌∷◌, ◌++◌, flat_map, refl, sym, subst}
use denote.Enum.Bare.{same_true}
use Rattle.std.specs.List.{list_any}
use Rattle.rdl_base.specs.declared.fault.Fault.{Fault}
use Rattle.rdl_props.specs.Same.{same_prop}
use Rattle.rdl_props.specs.Table.{props, reference_props, takes_of}
use Rattle.rdl_props.specs.declared.prop.Prop.{Prop}
use Rattle.rdl_props.specs.declared.prop.Prop.TheVariants as prop
use Rattle.rdl_props.specs.contracts.prop.Prop as of_prop
use Rattle.rdl_layers.specs.Forms.{takes_reference}
use Rattle.rdl_refs.proofs.Listed.{over_all}
use Rattle.rdl_nodes.proofs.Members.{In}

listed : (p : Prop) → list_any (same_prop p) props ≡ true
unfolding props
listed prop.Name = refl
listed prop.Desc = refl
listed prop.DontTest = refl
listed prop.DontCompare = refl
listed prop.Addressing = refl
listed prop.Lsb0 = refl
listed prop.Littleendian = refl
listed prop.Regwidth = refl
listed prop.Accesswidth = refl
listed prop.Signalwidth = refl
listed prop.Sync = refl
listed prop.Async = refl
listed prop.Activehigh = refl
listed prop.Activelow = refl
listed prop.FieldReset = refl
listed prop.Fieldwidth = refl
listed prop.Sw = refl
listed prop.Hw = refl
listed prop.Reset = refl
listed prop.Resetsignal = refl
listed prop.Onwrite = refl
listed prop.Woset = refl
listed prop.Woclr = refl
listed prop.Onread = refl
listed prop.Rclr = refl
listed prop.Rset = refl
listed prop.Swwe = refl
listed prop.Swwel = refl
listed prop.We = refl
listed prop.Wel = refl
listed prop.Next = refl
listed prop.Hwset = refl
listed prop.Hwclr = refl
listed prop.Hwenable = refl
listed prop.Hwmask = refl
listed prop.Anded = refl
listed prop.Ored = refl
listed prop.Xored = refl
listed prop.Swmod = refl
listed prop.Swacc = refl
listed prop.Singlepulse = refl
listed prop.Precedence = refl
listed prop.Counter = refl
listed prop.Overflow = refl
listed prop.Underflow = refl
listed prop.Incr = refl
listed prop.Decr = refl
listed prop.Incrvalue = refl
listed prop.Incrwidth = refl
listed prop.Decrvalue = refl
listed prop.Decrwidth = refl
listed prop.Incrsaturate = refl
listed prop.Decrsaturate = refl
listed prop.Incrthreshold = refl
listed prop.Decrthreshold = refl
listed prop.Intr = refl
listed prop.Sticky = refl
listed prop.Stickybit = refl
listed prop.Enable = refl
listed prop.Mask = refl
listed prop.Haltenable = refl
listed prop.Haltmask = refl
listed prop.Encode = refl

here : (p : Prop) (ps : List Prop) → list_any (same_prop p) ps ≡ true → In ps p
here p [] h = cc
here p (q ∷ qs) h = go (same_prop p q) refl h (here p qs)
  where
    go : (b : Bool) → same_prop p q ≡ b → (b || list_any (same_prop p) qs) ≡ true → (list_any (same_prop p) qs ≡ true → In qs p) → In (q ∷ qs) p
    go true e h rest = inl (sym (same_true of_prop.the_type tt p q e))
    go false e h rest = inr (rest h)

pub nil-left : (xs ys : List Fault) → xs ++ ys ≡ [] → xs ≡ []
nil-left [] ys e = refl
nil-left (x ∷ xs) ys e = cc

pub nil-right : (xs ys : List Fault) → xs ++ ys ≡ [] → ys ≡ []
nil-right [] ys e = e
nil-right (x ∷ xs) ys e = cc

pub nil-each : {X : Type 0} (f : X → List Fault) (xs : List X) (x : X) → flat_map f xs ≡ [] → In xs x → f x ≡ []
nil-each f [] x e h = absurd h
nil-each f (y ∷ ys) x e (inl s) = subst (λ z. f z ≡ []) s (nil-left (f y) (flat_map f ys) e)
nil-each f (y ∷ ys) x e (inr h) = nil-each f ys x (nil-right (f y) (flat_map f ys) e) h

pub in_props : (p : Prop) → In props p
in_props p = here p props (listed p)

-- what fails of no property that takes references fails of none
pub of_each : (f : Prop → List Fault) → ((p : Prop) → takes_reference (takes_of p) ≡ false → f p ≡ []) → flat_map f reference_props ≡ [] → (p : Prop) → f p ≡ []
of_each f none e p = nil-each f props p (sym (over_all f none) ∙ e) (in_props p)
