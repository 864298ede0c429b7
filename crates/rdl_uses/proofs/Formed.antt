-- The form of a use, from the parts that its instance has.
use Rattle.std.proofs.Common.{◌≡◌, ◌∙◌, Bool, List, [], ◌∷◌, length, not, ◌&&◌, ◌||◌, ◌==◌, is_some, refl, arith}
use Rattle.std.proofs.lemmas.Bool.Decides.{nat_tests}
use denote.Enum.Bare.{sameb}
use Rattle.rdl_tree.specs.contracts.item.Kind as of_kind
use Rattle.rdl_tree.specs.declared.expr.Expr.{Expr}
use Rattle.rdl_tree.specs.declared.item.Inst.{Inst}
use Rattle.rdl_tree.specs.declared.item.Kind.{Kind}
use Rattle.rdl_tree.specs.declared.item.Kind.TheVariants as kinds
use Rattle.rdl_values.specs.Parts.{is_empty, is_unit}
use Rattle.rdl_values.specs.Phase3.{is_bad_form, is_field}
use Rattle.rdl_values.specs.Uses.{Use, form_of}
use Rattle.plain_lemmas.proofs.Options.{some_copied}

pub same_field : (k : Kind) → sameb of_kind.the_type k kinds.Field ≡ is_field k
same_field kinds.Addrmap = refl
same_field kinds.Regfile = refl
same_field kinds.Reg = refl
same_field kinds.Field = refl
same_field kinds.Signal = refl

pub none_left : (es : List Expr) → (length es == 0) ≡ is_empty es
none_left [] = refl
none_left (e ∷ es) = grind (arith, nat_tests)

abbrev bad_by : Kind → Bool → Bool → Bool → Bool → Bool → Bool → Bool
bad_by k range reset at stride align bare = (not (is_field k) && (range || reset)) || (is_unit k && (at || stride || align)) || (at && align) || (stride && bare)

pub bad_as_read : (u : Use) (i : Inst) (k : Kind) → u.form ≡ form_of i → u.dims ≡ i.dims.now
    → is_bad_form u k ≡ ((not (is_field k) && (is_some i.range || is_some i.reset)) || (is_unit k && (is_some i.at || is_some i.stride || is_some i.align)) || (is_some i.at && is_some i.align) || (is_some i.stride && is_empty i.dims.now))
bad_as_read u i k form dims =
    (λ j. bad_by k (is_some (form j).range) (is_some (form j).reset) (is_some (form j).at) (is_some (form j).stride) (is_some (form j).align) (is_empty (dims j)))
    ∙ (λ j. bad_by k (some_copied i.range j) (some_copied i.reset j) (some_copied i.at j) (some_copied i.stride j) (some_copied i.align j) (is_empty i.dims.now))
