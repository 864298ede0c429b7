-- The failures of a use's parts, part by part.
use Rattle.std.proofs.Common.{◌≡◌, ◌∙◌, Bool, ◌&&◌, ◌||◌, cond, nat_lt, List, ◌++◌, length, flat_map, sym, ap, subst, append_assoc}
use Rattle.std.specs.List.{list_any}
use Rattle.rdl_base.specs.declared.fault.Fault.{Fault}
use Rattle.rdl_base.specs.declared.rule.Rule.TheVariants as rules
use Rattle.rdl_tree.specs.declared.expr.Expr.{Expr}
use Rattle.rdl_tree.specs.declared.item.Inst.{Inst}
use Rattle.rdl_tree.specs.declared.item.Kind.{Kind}
use Rattle.rdl_values.specs.Bodies.{around}
use Rattle.rdl_values.specs.Faults.{at_, when}
use Rattle.rdl_values.specs.Parts.{bad_array, bad_parts, dims_of, has_zero, is_long, is_unit, is_zero, long_path}
use Rattle.rdl_values.specs.Paths.{Parent, depth_in}
use Rattle.rdl_values.specs.Uses.{Use, form_of}
use Rattle.rdl_values.specs.Values.{number_of}
use Rattle.rdl_values.specs.declared.chain.Chain.{Chain}
use Rattle.rdl_failures.specs.Noted.{IsNoted}
use Rattle.rdl_failures.proofs.Noting.{each_noted}
use Rattle.rdl_uses.specs.Parts.{AreDims, IsUseOf, StandsAt, fails_of, other_parts}
use Rattle.rdl_uses.specs.declared.dims.Dims.{Dims}
use Rattle.rdl_uses.specs.declared.standing.Standing.{Standing}

grouped : (a b c d e f : List Expr) → a ++ b ++ c ++ d ++ e ++ f ≡ a ++ (b ++ c ++ d ++ e ++ f)
grouped a b c d e f = simp append_assoc

noted_as : (fs gs : List Fault) (b : Bool) (s t : List Fault) → fs ≡ gs → IsNoted fs b s t → IsNoted gs b s t
noted_as fs gs b s t e h = subst (λ xs. IsNoted xs b s t) e h

module _ (p : Parent) (u : Use) (k : Kind) (i : Inst) (v : Chain) (at : Standing) (d : Dims) (stands : StandsAt at p) (is : IsUseOf i v u) where
  abbrev fails : Expr → List Fault
  fails = fails_of (around u.scope)

  parts-are : flat_map fails (i.dims.now ++ other_parts (form_of i)) ≡ bad_parts u
  parts-are = sym (ap (flat_map fails) (grouped u.dims _ _ _ _ _ ∙ (λ j. is.dims j ++ other_parts (is.form j))))

  pub parts_noted : (a b : Bool) (s t r : List Fault) → IsNoted (flat_map fails i.dims.now) a s t → IsNoted (flat_map fails (other_parts (form_of i))) b t r → IsNoted (bad_parts u) (a && b) s r
  parts_noted a b s t r h l = noted_as _ (bad_parts u) (a && b) s r parts-are (each_noted fails i.dims.now (other_parts (form_of i)) a b s t r h l)

  pub deep_noted : (b : Bool) (s t : List Fault) → IsNoted (when (nat_lt 32 at.depth) (at_ rules.E8 i.name.place)) b s t → IsNoted (when (nat_lt 32 (depth_in p)) (at_ rules.E8 u.name.place)) b s t
  deep_noted b s t h = noted_as _ _ b s t (λ j. when (nat_lt 32 (stands.depth j)) (at_ rules.E8 (sym is.name j).place)) h

  pub array_noted : AreDims (around u.scope) i.dims.now d → (x b : Bool) (s t : List Fault) → x ≡ cond (is_unit k) (nat_lt 1 (length i.dims.now)) (nat_lt 8 (length i.dims.now) || d.zero)
      → IsNoted (when x (at_ rules.E10 i.name.place)) b s t → IsNoted (bad_array u k) b s t
  array_noted h x b s t e n =
      let zero = ap (λ z. cond (is_unit k) (nat_lt 1 (length i.dims.now)) (nat_lt 8 (length i.dims.now) || z)) h.zero in
      let named = ap (λ es. cond (is_unit k) (nat_lt 1 (length es)) (nat_lt 8 (length es) || list_any (λ e. is_zero (number_of (around u.scope) e)) es)) (sym is.dims) in
      let all : x ≡ cond (is_unit k) (nat_lt 1 (length u.dims)) (nat_lt 8 (length u.dims) || has_zero u) = e ∙ zero ∙ named in
      noted_as _ (bad_array u k) b s t (λ j. when (all j) (at_ rules.E10 (sym is.name j).place)) n

  pub long_noted : (x b : Bool) (s t : List Fault) → x ≡ is_long p u (dims_of u k) → IsNoted (when x (at_ rules.E11 i.name.place)) b s t → IsNoted (long_path p u k) b s t
  long_noted x b s t e n = noted_as _ (long_path p u k) b s t (λ j. when (e j) (at_ rules.E11 (sym is.name j).place)) n
