-- The fields of a register, one by one, and what a field's text and settings say.
use Rattle.std.proofs.Common.{◌≡◌, ◌∙◌, ℕ, ◌+◌, ◌-◌, ◌||◌, Bool, true, false, cond, List, [], ◌∷◌, ◌++◌, map, flat_map, find, option_copied, option_to_list, unwrap_or, Option, None, Some, refl, sym, ap, append_assoc}
use Rattle.std.specs.List.{list_any}
use denote.Enum.Bare.{same_true}
use Rattle.rdl_tree.specs.contracts.item.Kind as of_kind
use Rattle.rdl_tree.specs.declared.item.Inst.{Inst}
use Rattle.rdl_tree.specs.declared.item.Kind.TheVariants as kinds
use Rattle.rdl_tree.specs.Kinds.{same_kind}
use Rattle.rdl_props.specs.Same.{same_prop}
use Rattle.rdl_props.specs.declared.prop.Prop.{Prop}
use Rattle.rdl_props.specs.declared.prop.Prop.TheVariants as prop
use Rattle.rdl_props.specs.Table.{share_group}
use Rattle.rdl_values.specs.Instances.{Instance, kind_of}
use Rattle.rdl_values.specs.Values.{Around}
use Rattle.rdl_layers.specs.Fields.{is_a}
use Rattle.rdl_layers.specs.Forms.{Meaning, number}
use Rattle.rdl_layers.specs.Phase4.{assigned_widths, first_or, number_at, number_in, numbers_of, range_of, width_of}
use Rattle.rdl_layers.specs.Ranks.{is_related}
use Rattle.rdl_layers.specs.Settings.{Applied, applied, applied_to, deciding_of, is_assigned, setting, settled_if}
use Rattle.rdl_layers.specs.declared.rank.Rank.TheVariants as rank
use Rattle.rdl_addr.specs.TextReadings.{as_range, numbers_in, range_in}
use Rattle.rdl_addr.specs.Fields.{AreFieldsOf, IsFieldOf}
use Rattle.rdl_addr.specs.Texts.{IsText}
use Rattle.rdl_layout.specs.declared.bits.Field.{Field}
use Rattle.rdl_bits.specs.Widths.{width_by}

pub same_field : (n : Instance) → is_a kinds.Field n ≡ same_kind kinds.Field (kind_of n)
same_field n = refl

pub field-kind : (n : Instance) → is_a kinds.Field n ≡ true → kind_of n ≡ kinds.Field
field-kind n e = sym (same_true of_kind.the_type tt kinds.Field (kind_of n) e)

pub fields-push : (fs : List Field) (ns : List Instance) (f : Field) (n : Instance) → AreFieldsOf fs ns → IsFieldOf f n → AreFieldsOf (fs ++ (f ∷ [])) (ns ++ (n ∷ []))
fields-push [] [] f n h is = (is, tt)
fields-push [] (m ∷ ms) f n h is = absurd h
fields-push (g ∷ gs) [] f n h is = absurd h
fields-push (g ∷ gs) (m ∷ ms) f n h is = (h.0, fields-push gs ms f n h.1 is)

-- What a text says.

ranged : (n : Instance) (xs : List ℕ) → numbers_of n (flat_map (λ r. r.0 ∷ r.1 ∷ []) (option_to_list n.use_.form.range)) ≡ xs → range_of n ≡ as_range xs
ranged n [] e = rw e refl
ranged n (x ∷ []) e = rw e refl
ranged n (x ∷ y ∷ []) e = rw e refl
ranged n (x ∷ y ∷ z ∷ zs) e = rw e refl

pub range-is : (i : Inst) (env : Around) (n : Instance) → IsText i env n → range_of n ≡ range_in env (option_copied i.range)
range-is i env n is = ranged n _ refl ∙ (λ j. as_range (numbers_in (is.visible j) (flat_map (λ r. r.0 ∷ r.1 ∷ []) (option_to_list (is.form j).range))))

pub dims-are : (i : Inst) (env : Around) (n : Instance) → IsText i env n → numbers_of n n.use_.dims ≡ numbers_in env i.dims.now
dims-are i env n is = λ j. numbers_in (is.visible j) (is.dims j)

-- What a property says of the width.

none-shared : (q : Prop) → share_group prop.Fieldwidth q ≡ false
none-shared q = refl

not-found : (xs : List Applied) (t : Applied) → list_any (λ a. same_prop prop.Fieldwidth a.candidate.prop) xs ≡ false → is_related prop.Fieldwidth t.candidate.prop ≡ true → find (λ a. is_related prop.Fieldwidth a.candidate.prop) (xs ++ (t ∷ [])) ≡ Some t
not-found [] t e r = ap (λ b. cond b (Some t) None) r
not-found (x ∷ xs) t e r = go (same_prop prop.Fieldwidth x.candidate.prop) refl e (λ q. not-found xs t q r)
  where
    go : (b : Bool) → same_prop prop.Fieldwidth x.candidate.prop ≡ b → b || list_any (λ a. same_prop prop.Fieldwidth a.candidate.prop) xs ≡ false
        → (list_any (λ a. same_prop prop.Fieldwidth a.candidate.prop) xs ≡ false → find (λ a. is_related prop.Fieldwidth a.candidate.prop) (xs ++ (t ∷ [])) ≡ Some t)
        → cond (is_related prop.Fieldwidth x.candidate.prop) (Some x) (find (λ a. is_related prop.Fieldwidth a.candidate.prop) (xs ++ (t ∷ []))) ≡ Some t
    go true q f more = cc f
    go false q f more = (λ i. cond (q i || none-shared x.candidate.prop i) (Some x) (find (λ a. is_related prop.Fieldwidth a.candidate.prop) (xs ++ (t ∷ [])))) ∙ more f

unassigned : (n : Instance) → ((p : Prop) (default : Meaning) → deciding_of p (applied_to n ++ (applied rank.Table p default ∷ [])) ≡ find (λ a. is_related p a.candidate.prop) (applied_to n ++ (applied rank.Table p default ∷ []))) → is_assigned n prop.Fieldwidth ≡ false → number_at n prop.Fieldwidth ≡ 1
unfolding setting
unassigned n decides e = ap (λ o. number_in (settled_if prop.Fieldwidth o)) (decides prop.Fieldwidth (number 1) ∙ not-found (applied_to n) (applied rank.Table prop.Fieldwidth (number 1)) e refl)

assigned-is : (n : Instance) → kind_of n ≡ kinds.Field → assigned_widths n ≡ cond (is_assigned n prop.Fieldwidth) (number_at n prop.Fieldwidth ∷ []) []
assigned-is n e = rw e refl

first-append : (xs ys : List ℕ) (d : ℕ) → first_or (xs ++ ys) d ≡ first_or xs (first_or ys d)
first-append [] ys d = refl
first-append (x ∷ xs) ys d = refl

pub set-is : (n : Instance) → kind_of n ≡ kinds.Field → ((p : Prop) (default : Meaning) → deciding_of p (applied_to n ++ (applied rank.Table p default ∷ [])) ≡ find (λ a. is_related p a.candidate.prop) (applied_to n ++ (applied rank.Table p default ∷ [])))
    → first_or (assigned_widths n) 1 ≡ number_at n prop.Fieldwidth
set-is n e decides = ap (λ l. first_or l 1) (assigned-is n e) ∙ go (is_assigned n prop.Fieldwidth) refl
  where
    go : (b : Bool) → is_assigned n prop.Fieldwidth ≡ b → first_or (cond b (number_at n prop.Fieldwidth ∷ []) []) 1 ≡ number_at n prop.Fieldwidth
    go true q = refl
    go false q = sym (unassigned n decides q)

width-in : (dims range : Option ℕ) (s : ℕ) → unwrap_or dims (unwrap_or range s) ≡ first_or (option_to_list dims) (first_or (option_to_list range) s)
width-in (Some d) r s = refl
width-in None (Some r) s = refl
width-in None None s = refl

by-range : (range : Option (ℕ × ℕ)) (s : ℕ) → width_by None range s ≡ first_or (map (λ r. r.0 + 1 - r.1) (option_to_list range)) s
by-range None s = refl
by-range (Some r) s = refl

by-dims : (dims : Option ℕ) (range : Option (ℕ × ℕ)) (s : ℕ) → width_by dims range s ≡ unwrap_or dims (width_by None range s)
by-dims None range s = refl
by-dims (Some d) range s = refl

-- the width, from the bracket, the range and the property
pub width-is : (n : Instance) (dims : Option ℕ) (range : Option (ℕ × ℕ)) (s : ℕ) → ((d : ℕ) → first_or (numbers_of n n.use_.dims) d ≡ unwrap_or dims d) → option_to_list range ≡ range_of n → first_or (assigned_widths n) 1 ≡ s → width_by dims range s ≡ width_of n
width-is n dims range s d r a =
    by-dims dims range s
    ∙ (sym (d (width_by None range s))
    ∙ (ap (first_or (numbers_of n n.use_.dims)) (by-range range s ∙ (λ i. first_or (map (λ r. r.0 + 1 - r.1) (r i)) (sym a i)))
    ∙ (ap (first_or (numbers_of n n.use_.dims)) (sym (first-append (map (λ r. r.0 + 1 - r.1) (range_of n)) (assigned_widths n) 1))
    ∙ (sym (first-append (numbers_of n n.use_.dims) (map (λ r. r.0 + 1 - r.1) (range_of n) ++ assigned_widths n) 1)
    ∙ ap (λ l. first_or l 1) (sym (append_assoc (numbers_of n n.use_.dims) (map (λ r. r.0 + 1 - r.1) (range_of n)) (assigned_widths n)))))))
