-- The enumerations by which a source's fields are encoded: each has entries of different names, which are words, and no two have one first field.
use Rattle.std.proofs.Common.{◌≡◌, ◌∙◌, ◌⊎◌, inl, inr, ℕ, zero, suc, ◌+◌, ◌<◌, ◌≤◌, Bool, true, false, not, List, [], ◌∷◌, ◌++◌, drop, flat_map, length, map, Option, None, Some, slice_get, take, refl, sym, ap, subst, arith}
use Rattle.std.specs.List.{AllByRecursion, list_any}
use Rattle.plain_lemmas.proofs.Lists.{each-flat_map, each-imp, get-mapped, length-append, length-map}
use Rattle.encodings.specs.Encodings.{Enumeration}
use Rattle.rb_model.specs.declared.block.Block.{Block}
use Rattle.rb_model.specs.References.{Each}
use Rattle.rdl_tree.specs.declared.item.Kind.TheVariants as kind
use Rattle.rdl_tree.specs.declared.item.Source.{Source}
use Rattle.rdl_props.specs.declared.prop.Prop.TheVariants as prop
use Rattle.rdl_values.specs.Bodies.{Body, around, standing_from}
use Rattle.rdl_values.specs.Elaboration.{instances}
use Rattle.rdl_values.specs.Instances.{Instance, body, most_nodes, nodes, seen_in}
use Rattle.rdl_values.specs.Lineages.{Lineage, lineages}
use Rattle.rdl_values.specs.Phase3.{failures3, first_over, of_enums, of_judged, of_node, of_use, twice_defined}
use Rattle.rdl_values.specs.Top.{root}
use Rattle.rdl_values.specs.Uses.{Seen, seen}
use Rattle.rdl_values.specs.Values.{EnumOf, visible_enum}
use Rattle.rdl_values.proofs.Clean.{nodes_nil, none_over, root_nil}
use Rattle.rdl_values.proofs.Sorted.{none_fails}
use Rattle.rdl_nodes.proofs.Lineages.{all_nodes}
use Rattle.rdl_nodes.proofs.Members.{In, each-in}
use Rattle.rdl_layers.specs.Fields.{fields_of, is_a, is_alias}
use Rattle.rdl_layers.specs.Forms.{Meaning, enum_of}
use Rattle.rdl_layers.specs.Settings.{setting}
use Rattle.rdl_fields.proofs.Lists.{filter-in}
use Rattle.rdl_rules.specs.Block.{fields}
use Rattle.rdl_rules.specs.Fields.{field_of}
use Rattle.rdl_rules.specs.Numbers.{Numbered, all_fields, primaries, registers}
use Rattle.rdl_sound_laws.proofs.Found.{own, own-fields, pairs, with-registers}
use Rattle.rdl_sound_laws.proofs.RegisterNames.{field-in-nodes}
use Rattle.rdl_encodings.specs.Encoded.{encoded_by, first_by, firsts, is_encoded_by, source_encodings}
use Rattle.rdl_encodings.specs.Same.{shown}
use Rattle.c_header.specs.Laws.{AreApart, IsEnumerated}
use Rattle.rdl_verdict_laws.proofs.EntryNames.{IsPlainEnum, nil-left, nil-right}
use Rattle.rdl_verdict_laws.proofs.EntryTokens.{HaveWordEntries}
use Rattle.rdl_verdict_laws.proofs.EnumScopes.{IsClean, IsPlainNode, nodes-plain}
use Rattle.rdl_verdict_laws.proofs.EnumSettings.{IsPlainMeaning, encode-plain, visible-plain}

-- The enumeration of a field.

abbrev named-by : Meaning → Option EnumOf
named-by (enum_of n scope) = visible_enum (around scope) n
named-by _ = None

by-setting : (n : Instance) → named-by (setting n prop.Encode) ≡ encoded_by n
by-setting n = refl

named-plain : (m : Meaning) (e : EnumOf) → IsPlainMeaning m → named-by m ≡ Some e → IsPlainEnum e
named-plain (enum_of n scope) e h q = visible-plain scope n e h q
named-plain _ e h q = cc

encoded-plain : (n : Instance) (e : EnumOf) → IsPlainNode n → encoded_by n ≡ Some e → IsPlainEnum e
encoded-plain n e h q = named-plain (setting n prop.Encode) e (encode-plain n h) (by-setting n ∙ q)

-- First fields.

-- the numbers rise, from this one on
abbrev RiseFrom : ℕ → List (ℕ × EnumOf) → Type 0
RiseFrom k [] = Unit {0}
RiseFrom k (x ∷ xs) = (k ≤ x.0) × RiseFrom (suc x.0) xs

lower : (j k : ℕ) (xs : List (ℕ × EnumOf)) → j ≤ k → RiseFrom k xs → RiseFrom j xs
lower j k [] l h = tt
lower j k (x ∷ xs) l h = let first : k ≤ x.0 = h.0 in (omega (arith, l, first), h.1)

at-least : (k : ℕ) (xs : List (ℕ × EnumOf)) (j : ℕ) (x : ℕ × EnumOf) → RiseFrom k xs → slice_get xs j ≡ Some x → k ≤ x.0
at-least k [] j x h e = cc e
at-least k (y ∷ ys) zero x h e = let same : y ≡ x = cc e in subst (λ z. k ≤ z.0) same h.0
at-least k (y ∷ ys) (suc j) x h e = let first : k ≤ y.0 = h.0 in let later = at-least (suc y.0) ys j x h.1 e in omega (arith, first, later)

one-place : (m : ℕ) (xs : List (ℕ × EnumOf)) (j k : ℕ) (x y : ℕ × EnumOf) → RiseFrom m xs → slice_get xs j ≡ Some x → slice_get xs k ≡ Some y → x.0 ≡ y.0 → j ≡ k
one-place m [] j k x y h p q e = cc p
one-place m (z ∷ zs) zero zero x y h p q e = refl
one-place m (z ∷ zs) zero (suc k) x y h p q e =
    let same : z ≡ x = cc p in
    let number = ap (λ (a : ℕ × EnumOf). a.0) same in
    let later = at-least (suc z.0) zs k y h.1 q in
    absurd (omega (arith, number, later, e))
one-place m (z ∷ zs) (suc j) zero x y h p q e =
    let same : z ≡ y = cc q in
    let number = ap (λ (a : ℕ × EnumOf). a.0) same in
    let later = at-least (suc z.0) zs j x h.1 p in
    absurd (omega (arith, number, later, e))
one-place m (z ∷ zs) (suc j) (suc k) x y h p q e = ap suc (one-place (suc z.0) zs j k x y h.1 p q e)

-- a field has none or its own enumeration
pub record IsOne (b : List Instance) (f : Instance) : Type 0 where
  pub enum : EnumOf
  pub first : first_by (b, f) ≡ (length b, enum) ∷ []
  pub encoded : encoded_by f ≡ Some enum

at-most-one : (b : List Instance) (f : Instance) → (first_by (b, f) ≡ []) ⊎ IsOne b f
at-most-one b f = go (encoded_by f) refl
  where
    chosen : (e : EnumOf) (t : Bool) → list_any (is_encoded_by e) b ≡ t → encoded_by f ≡ Some e → (first_by (b, f) ≡ []) ⊎ IsOne b f
    chosen e true q p = inl (rw p (rw q refl))
    chosen e false q p = inr (record { enum = e; first = rw p (rw q refl); encoded = p })

    go : (o : Option EnumOf) → encoded_by f ≡ o → (first_by (b, f) ≡ []) ⊎ IsOne b f
    go None p = inl (rw p refl)
    go (Some e) p = chosen e (list_any (is_encoded_by e) b) refl p

-- a number of one of the fields, and a plain enumeration
pub record IsFirst (most : ℕ) (x : ℕ × EnumOf) : Type 0 where
  pub below : x.0 < most
  pub plain : IsPlainEnum x.1

rising : (b fs : List Instance) → AllByRecursion IsPlainNode fs → RiseFrom (length b) (flat_map first_by (standing_from b fs)) × AllByRecursion (IsFirst (length b + length fs)) (flat_map first_by (standing_from b fs))
rising b [] h = (tt, tt)
rising b (f ∷ fs) h =
    let next = length-append b (f ∷ []) in
    let rest = rising (b ++ (f ∷ [])) fs h.1 in
    let more : RiseFrom (suc (length b)) (flat_map first_by (standing_from (b ++ (f ∷ [])) fs)) = lower (suc (length b)) (length (b ++ (f ∷ []))) _ (omega (arith, next)) rest.0 in
    let most : length (b ++ (f ∷ [])) + length fs ≡ length b + suc (length fs) = omega (arith, next) in
    go (at-most-one b f) more (subst (λ m. AllByRecursion (IsFirst m) (flat_map first_by (standing_from (b ++ (f ∷ [])) fs))) most rest.1)
  where
    rest : List (ℕ × EnumOf)
    rest = flat_map first_by (standing_from (b ++ (f ∷ [])) fs)

    go : (first_by (b, f) ≡ []) ⊎ IsOne b f → RiseFrom (suc (length b)) rest → AllByRecursion (IsFirst (length b + suc (length fs))) rest → RiseFrom (length b) (first_by (b, f) ++ rest) × AllByRecursion (IsFirst (length b + suc (length fs))) (first_by (b, f) ++ rest)
    go (inl q) rise each = subst (λ xs. RiseFrom (length b) (xs ++ rest) × AllByRecursion (IsFirst (length b + suc (length fs))) (xs ++ rest)) (sym q) (lower (length b) (suc (length b)) rest (omega arith) rise, each)
    go (inr one) rise each = subst (λ xs. RiseFrom (length b) (xs ++ rest) × AllByRecursion (IsFirst (length b + suc (length fs))) (xs ++ rest)) (sym one.first) ((omega arith, rise), (record { below = omega arith; plain = encoded-plain f one.enum h.0 one.encoded }, each))

shown-each : (b : Block) (most : ℕ) (xs : List (ℕ × EnumOf)) → most ≡ length b.fields → AllByRecursion (IsFirst most) xs → Each (IsEnumerated b) (map shown xs)
shown-each b most [] e h = tt
shown-each b most (x ∷ xs) e h = (record { field = subst (λ m. x.0 < m) e h.0.below; names = h.0.plain.names; plain = h.0.plain.plain }, shown-each b most xs e h.1)

encodings-apart : (b : Block) (fs : List Instance) → length fs ≡ length b.fields → AllByRecursion IsPlainNode fs → AreApart b (map shown (firsts fs))
encodings-apart b fs e h =
    let all = rising [] fs h in
    let none : length {A = Instance} [] + length fs ≡ length fs = omega arith in
    record {
      each = shown-each b (length fs) (firsts fs) e (subst (λ m. AllByRecursion (IsFirst m) (firsts fs)) none all.1);
      fields = λ j k c d p q same.
          let x = get-mapped shown (firsts fs) j c p in
          let y = get-mapped shown (firsts fs) k d q in
          one-place 0 (firsts fs) j k x.0 y.0 all.0 x.1 y.1 (ap (λ (a : Enumeration). a.field) x.2 ∙ (same ∙ sym (ap (λ (a : Enumeration). a.field) y.2)));
    }

-- The fields of a source.

module _ (wanted : Option (List ℕ)) (s : Source) where
  many-fields : (b : Block) → b.fields ≡ fields s (lineages wanted s) → length (all_fields (nodes wanted s)) ≡ length b.fields
  many-fields b is =
      let ls = lineages wanted s in
      ap (λ ns. length (all_fields ns)) (sym (all_nodes wanted s))
      ∙ (ap length (sym (own-fields ls))
      ∙ (length-map (λ (p : Numbered Lineage × Instance). p.1) (pairs (own ls))
      ∙ (sym (length-map (λ (p : Numbered Lineage × Instance). field_of s ls p.0 p.1) (pairs (own ls)))
      ∙ (ap length (with-registers s ls (own ls)) ∙ ap length (sym is)))))

  fields-plain : AllByRecursion IsPlainNode (nodes wanted s) → AllByRecursion IsPlainNode (all_fields (nodes wanted s))
  fields-plain h = each-flat_map IsPlainNode fields_of (primaries (nodes wanted s)) (registers-in (primaries (nodes wanted s)) (λ r i. i))
    where
      fields-in : (r : Instance) → In (nodes wanted s) r → (fs : List Instance) → ((f : Instance) → In fs f → In (fields_of r) f) → AllByRecursion IsPlainNode fs
      fields-in r i [] g = tt
      fields-in r i (f ∷ fs) g = (each-in IsPlainNode (nodes wanted s) f h (field-in-nodes wanted s r i f (g f (inl refl))), fields-in r i fs (λ x j. g x (inr j)))

      registers-in : (rs : List Instance) → ((r : Instance) → In rs r → In (primaries (nodes wanted s)) r) → AllByRecursion (λ r. AllByRecursion IsPlainNode (fields_of r)) rs
      registers-in [] g = tt
      registers-in (r ∷ rs) g =
          let own = filter-in (λ x. not (is_alias x)) (registers (nodes wanted s)) r (g r (inl refl)) in
          (fields-in r (filter-in (is_a kind.Reg) (nodes wanted s) r own) (fields_of r) (λ f j. j), registers-in rs (λ x j. g x (inr j)))

enums-clean : (us : List Seen) (b : Body) → of_judged us b ≡ [] → of_enums b ≡ []
enums-clean us b e = nil-right (twice_defined b) (of_enums b) (nil-left (twice_defined b ++ of_enums b) (flat_map of_use us) e)

over-none : (ns : List Instance) → first_over ns ≡ [] → ns ≡ []
over-none [] e = refl
over-none (n ∷ ns) e = cc

take-drop-none : (k : ℕ) (ns : List Instance) → drop k ns ≡ [] → take k ns ≡ ns
take-drop-none zero ns e = sym e
take-drop-none (suc k) [] e = refl
take-drop-none (suc k) (n ∷ ns) e = ap (λ xs. n ∷ xs) (take-drop-none k ns e)

-- Where no rule on instances fails and the names of entries are words, the enumerations of a source's fields are apart.
pub source-apart : (wanted : Option (List ℕ)) (s : Source) (b : Block) → HaveWordEntries s.items.now → instances wanted s [] → b.fields ≡ fields s (lineages wanted s) → AreApart b (source_encodings wanted s).list
source-apart wanted s b words clean is =
    let nothing = none_fails (failures3 wanted s) clean in
    let whole = take-drop-none most_nodes (nodes wanted s) (over-none _ (none_over wanted s nothing)) in
    let each = subst (AllByRecursion (λ n. of_node n ≡ [])) whole (nodes_nil wanted s nothing) in
    let plain = nodes-plain wanted s words (enums-clean (seen [] (root s)) (root s) (root_nil wanted s nothing)) (each-imp (λ n. of_node n ≡ []) IsClean (nodes wanted s) (λ n e. enums-clean (seen_in n) (body n) e) each) in
    encodings-apart b (all_fields (nodes wanted s)) (many-fields wanted s b is) (fields-plain wanted s plain)
