-- A field is as wide as its bits.
use Rattle.std.proofs.Common.{◌≡◌, ◌∙◌, inl, inr, ℕ, ◌+◌, ◌-◌, ◌==◌, ◌||◌, true, false, not, List, [], ◌∷◌, ◌++◌, map, nat_lt, Option, None, Some, is_some, refl, sym, ap, subst, arith}
use Rattle.std.specs.List.{list_any}
use Rattle.std.proofs.lemmas.Bool.Decides.{nat_tests}
use denote.Enum.Bare.{same_true}
use Rattle.plain_lemmas.proofs.Bools.{or-left_false as or-left}
use Rattle.rdl_tree.specs.contracts.item.Kind as of_kind
use Rattle.rdl_tree.specs.declared.expr.Expr.{Expr}
use Rattle.rdl_tree.specs.declared.item.Kind.TheVariants as kind
use Rattle.rdl_tree.specs.declared.node.Elab.{Elab}
use Rattle.rdl_values.specs.Elaborated.{nodes_of}
use Rattle.rdl_values.specs.Instances.{Instance, kind_of}
use Rattle.rdl_layers.specs.Answers.{IsSettled}
use Rattle.rdl_layers.specs.Fields.{fields_of, is_a}
use Rattle.rdl_layers.specs.Phase4.{assigned_widths, bad_width, first_or, form_widths, numbers_of, range_of, width_of}
use Rattle.rdl_nodes.proofs.Members.{In}
use Rattle.rdl_sizes.proofs.Settled.{field-width}
use Rattle.rdl_addr.specs.Bits.{Bits, bits_at, bits_from, bits_of}
use Rattle.rdl_sound_laws.specs.Fielded.{HasOneForm}

some-wide : (n : Instance) → bad_width n ≡ false → (width_of n == 0) ≡ false
some-wide n good = or-left (width_of n == 0) (nat_lt 64 (width_of n)) (or-left ((width_of n == 0) || nat_lt 64 (width_of n)) (list_any (λ (r : ℕ × ℕ). nat_lt r.0 r.1) (range_of n)) (or-left ((width_of n == 0) || nat_lt 64 (width_of n) || list_any (λ (r : ℕ × ℕ). nat_lt r.0 r.1) (range_of n)) (list_any (λ f. list_any (λ a. not (f == a)) (assigned_widths n)) (form_widths n)) good))

has-range : (n : Instance) (r : ℕ × ℕ) (rs : List (ℕ × ℕ)) → range_of n ≡ r ∷ rs → is_some n.use_.form.range ≡ true
has-range n r rs e = by n.use_.form.range refl
  where
    by : (o : Option (Expr × Expr)) → n.use_.form.range ≡ o → is_some n.use_.form.range ≡ true
    by (Some x) q = ap is_some q
    by None q = let none : range_of n ≡ [] = rw q refl in let two : [] ≡ r ∷ rs = sym none ∙ e in cc two

as-wide : (next : ℕ) (n : Instance) → bad_width n ≡ false → HasOneForm n → width_of n ≡ (bits_at next n).high + 1 - (bits_at next n).low
as-wide next n good one = by (range_of n) refl
  where
    plain : (w : ℕ) → (w == 0) ≡ false → w ≡ next + w - 1 + 1 - next
    plain w e = grind (arith, nat_tests, e)

    behind : (w : ℕ) → width_of n ≡ w → range_of n ≡ [] → (bits_at next n).high + 1 - (bits_at next n).low ≡ next + w - 1 + 1 - next
    behind w q e = rw e (ap (λ x. next + x - 1 + 1 - next) q)

    by : (rs : List (ℕ × ℕ)) → range_of n ≡ rs → width_of n ≡ (bits_at next n).high + 1 - (bits_at next n).low
    by [] e = plain (width_of n) (some-wide n good) ∙ sym (behind (width_of n) refl e)
    by (r ∷ rs) e =
        let none = one (has-range n r rs e) in
        let is : width_of n ≡ r.0 + 1 - r.1 = (λ i. first_or (numbers_of n (none i) ++ map (λ (x : ℕ × ℕ). x.0 + 1 - x.1) (e i) ++ assigned_widths n) 1) in
        let bits : (bits_at next n).high + 1 - (bits_at next n).low ≡ r.0 + 1 - r.1 = rw e refl in
        is ∙ sym bits

each-from : (next : ℕ) (ns : List Instance) → ((n : Instance) → In ns n → (bad_width n ≡ false) × HasOneForm n) → (b : Bits) → In (bits_from next ns) b → width_of b.node ≡ b.high + 1 - b.low
each-from next [] good b h = absurd h
each-from next (n ∷ ns) good b (inl e) = let g = good n (inl refl) in subst (λ (x : Bits). width_of x.node ≡ x.high + 1 - x.low) e (node-is n (as-wide next n g.0 g.1))
  where
    node-is : (n : Instance) → width_of n ≡ (bits_at next n).high + 1 - (bits_at next n).low → width_of (bits_at next n).node ≡ (bits_at next n).high + 1 - (bits_at next n).low
    node-is n q = ap width_of (same (range_of n) refl) ∙ q
      where
        same : (rs : List (ℕ × ℕ)) → range_of n ≡ rs → (bits_at next n).node ≡ n
        same [] e = rw e refl
        same (r ∷ rs) e = rw e refl
each-from next (n ∷ ns) good b (inr h) = each-from ((bits_at next n).high + 1) ns (λ m i. good m (inr i)) b h

pub field-wide : (e : Elab) → IsSettled e → (r : Instance) → ((n : Instance) → In (fields_of r) n → (In (nodes_of e) n × (is_a kind.Field n ≡ true)) × HasOneForm n) → (b : Bits) → In (bits_of r) b → width_of b.node ≡ b.high + 1 - b.low
field-wide e settled r among b h = each-from 0 (fields_of r) (λ n i. let a = among n i in (field-width e settled n a.0.0 (sym (same_true of_kind.the_type tt kind.Field (kind_of n) a.0.1)), a.1)) b h
