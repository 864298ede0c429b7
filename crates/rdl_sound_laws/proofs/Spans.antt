-- The bits of fields where no rule on settings fails.
use Rattle.std.proofs.Common.{◌≡◌, ◌∙◌, inl, inr, ℕ, ◌+◌, ◌-◌, ◌≤◌, ◌==◌, ◌||◌, true, false, not, List, [], ◌∷◌, nat_lt, refl, sym, ap, subst, arith}
use Rattle.std.specs.List.{list_any}
use Rattle.std.proofs.lemmas.Bool.Decides.{nat_tests}
use denote.Enum.Bare.{same_true}
use Rattle.plain_lemmas.proofs.Bools.{or-left_false as or-left, or-right_false as or-right}
use Rattle.rdl_tree.specs.contracts.item.Kind as of_kind
use Rattle.rdl_tree.specs.declared.item.Kind.TheVariants as kind
use Rattle.rdl_tree.specs.declared.node.Elab.{Elab}
use Rattle.rdl_values.specs.Elaborated.{nodes_of}
use Rattle.rdl_values.specs.Instances.{Instance, kind_of}
use Rattle.rdl_layers.specs.Answers.{IsSettled}
use Rattle.rdl_layers.specs.Fields.{fields_of, is_a}
use Rattle.rdl_layers.specs.Phase4.{assigned_widths, bad_width, form_widths, range_of, width_of}
use Rattle.rdl_nodes.proofs.Members.{In}
use Rattle.rdl_sizes.proofs.Settled.{field-width}
use Rattle.rdl_addr.specs.Bits.{Bits, bits_at, bits_from, bits_of}

-- low bit first
rises : (next : ℕ) (n : Instance) → bad_width n ≡ false → (bits_at next n).low ≤ (bits_at next n).high
rises next n good = by (range_of n) refl
  where
    parts : list_any (λ r. nat_lt r.0 r.1) (range_of n) ≡ false
    parts = or-right ((width_of n == 0) || nat_lt 64 (width_of n)) (list_any (λ (r : ℕ × ℕ). nat_lt r.0 r.1) (range_of n)) (or-left ((width_of n == 0) || nat_lt 64 (width_of n) || list_any (λ (r : ℕ × ℕ). nat_lt r.0 r.1) (range_of n)) (list_any (λ f. list_any (λ a. not (f == a)) (assigned_widths n)) (form_widths n)) good)

    some : (width_of n == 0) ≡ false
    some = or-left (width_of n == 0) (nat_lt 64 (width_of n)) (or-left ((width_of n == 0) || nat_lt 64 (width_of n)) (list_any (λ (r : ℕ × ℕ). nat_lt r.0 r.1) (range_of n)) (or-left ((width_of n == 0) || nat_lt 64 (width_of n) || list_any (λ (r : ℕ × ℕ). nat_lt r.0 r.1) (range_of n)) (list_any (λ f. list_any (λ a. not (f == a)) (assigned_widths n)) (form_widths n)) good))

    in-range : (h l : ℕ) → nat_lt h l ≡ false → l ≤ h
    in-range h l e = grind (arith, nat_tests, e)

    wide : (w : ℕ) → (w == 0) ≡ false → next ≤ next + w - 1
    wide w e = grind (arith, nat_tests, e)

    first : (r : ℕ × ℕ) (rs : List (ℕ × ℕ)) → range_of n ≡ r ∷ rs → list_any (λ (x : ℕ × ℕ). nat_lt x.0 x.1) (range_of n) ≡ false → nat_lt r.0 r.1 ≡ false
    first r rs e p = or-left (nat_lt r.0 r.1) (list_any (λ (x : ℕ × ℕ). nat_lt x.0 x.1) rs) (sym (ap (list_any (λ (x : ℕ × ℕ). nat_lt x.0 x.1)) e) ∙ p)

    by : (rs : List (ℕ × ℕ)) → range_of n ≡ rs → (bits_at next n).low ≤ (bits_at next n).high
    by [] e = rw e (wide (width_of n) some)
    by (r ∷ rs) e = rw e (in-range r.0 r.1 (first r rs e parts))

each-from : (next : ℕ) (ns : List Instance) → ((n : Instance) → In ns n → bad_width n ≡ false) → (b : Bits) → In (bits_from next ns) b → b.low ≤ b.high
each-from next [] good b h = absurd h
each-from next (n ∷ ns) good b (inl e) = subst (λ (x : Bits). x.low ≤ x.high) e (rises next n (good n (inl refl)))
each-from next (n ∷ ns) good b (inr h) = each-from ((bits_at next n).high + 1) ns (λ m i. good m (inr i)) b h

pub low-first : (e : Elab) → IsSettled e → (r : Instance) → ((n : Instance) → In (fields_of r) n → In (nodes_of e) n × (is_a kind.Field n ≡ true)) → (b : Bits) → In (bits_of r) b → b.low ≤ b.high
low-first e settled r among b h = each-from 0 (fields_of r) (λ n i. let a = among n i in field-width e settled n a.0 (sym (same_true of_kind.the_type tt kind.Field (kind_of n) a.1))) b h
