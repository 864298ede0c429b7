-- The fields of registers that are no aliases, in node order.
use Rattle.std.proofs.Common.{◌≡◌, ◌∙◌, ℕ, zero, suc, Bool, true, false, not, ◌&&◌, cond, List, [], ◌∷◌, ◌++◌, map, filter, flat_map, Option, refl, sym, ap, subst, append_assoc}
use Rattle.std.specs.List.{AllByRecursion}
use Rattle.std.proofs.lemmas.List.{map-append}
use Rattle.plain_lemmas.proofs.Bools.{and-left as both}
use Rattle.plain_lemmas.proofs.Lists.{each-imp, filter-append as filter-join}
use Rattle.rdl_tree.specs.declared.item.Kind.{Kind}
use Rattle.rdl_tree.specs.declared.item.Kind.TheVariants as kind
use Rattle.rdl_tree.specs.declared.item.Source.{Source}
use Rattle.rdl_tree.specs.Kinds.{same_kind}
use Rattle.rdl_values.specs.Instances.{Instance, children, kind_of, most_names, nodes, signals, top_of, with_below}
use Rattle.rdl_values.specs.Lineages.{Lineage, alone, lineages, lineages_below}
use Rattle.rdl_values.specs.NoNode.{holds, is_signal, may_hold}
use Rattle.rdl_values.proofs.Given.{IsAtRoot, IsChildOf, children-given, held, signals-given}
use Rattle.rdl_values.proofs.Numbered.{Deep, bottom, empty_of_none, lower, tops_deep}
use Rattle.rdl_layers.specs.Fields.{fields_of, is_a, is_alias}
use Rattle.rdl_rules.specs.Numbers.{all_fields, primaries, registers}
use Rattle.rdl_block_numbers.specs.Listed.{in_primary, is_own_field, is_primary}

abbrev pub own : List Lineage → List Instance
own ls = map (λ l. l.node) (filter is_own_field ls)

-- a node, where it is a field in a register that is no alias
abbrev alone-own : List Instance → Instance → List Instance
alone-own up n = cond (is_a kind.Field n && in_primary up) (n ∷ []) []

own-next : (l : Lineage) (ls : List Lineage) → own (l ∷ ls) ≡ alone-own l.ancestors l.node ++ own ls
own-next l ls = go (is_own_field l)
  where
    go : (b : Bool) → map (λ (m : Lineage). m.node) (cond b (l ∷ filter is_own_field ls) (filter is_own_field ls)) ≡ cond b (l.node ∷ []) [] ++ own ls
    go true = refl
    go false = refl

own-join : (ls ms : List Lineage) → own (ls ++ ms) ≡ own ls ++ own ms
own-join ls ms = ap (map (λ (l : Lineage). l.node)) (filter-join is_own_field ls ms) ∙ map-append (λ (l : Lineage). l.node) (filter is_own_field ls) (filter is_own_field ms)

flat-join : {X Y : Type 0} (f : X → List Y) (xs ys : List X) → flat_map f (xs ++ ys) ≡ flat_map f xs ++ flat_map f ys
flat-join f [] ys = refl
flat-join f (x ∷ xs) ys = ap (λ l. f x ++ l) (flat-join f xs ys) ∙ sym (append_assoc (f x) (flat_map f xs) (flat_map f ys))

fields-join : (xs ys : List Instance) → all_fields (xs ++ ys) ≡ all_fields xs ++ all_fields ys
fields-join xs ys =
    ap (λ rs. flat_map fields_of (filter (λ r. not (is_alias r)) rs)) (filter-join (is_a kind.Reg) xs ys)
    ∙ (ap (flat_map fields_of) (filter-join (λ r. not (is_alias r)) (registers xs) (registers ys)) ∙ flat-join fields_of (primaries xs) (primaries ys))

fields-next : (n : Instance) (ns : List Instance) → all_fields (n ∷ ns) ≡ cond (is_primary n) (fields_of n) [] ++ all_fields ns
fields-next n ns = go (is_a kind.Reg n) (not (is_alias n)) refl
  where
    go : (a b : Bool) → not (is_alias n) ≡ b → flat_map fields_of (filter (λ r. not (is_alias r)) (cond a (n ∷ registers ns) (registers ns))) ≡ cond (a && b) (fields_of n) [] ++ all_fields ns
    go false b e = refl
    go true true e = ap (λ t. flat_map fields_of (cond t (n ∷ primaries ns) (primaries ns))) e
    go true false e = ap (λ t. flat_map fields_of (cond t (n ∷ primaries ns) (primaries ns))) e

-- Nothing stands in what a register holds, and that is no register.

in-unit : (k : Kind) → holds kind.Reg k ≡ true → (l : Kind) → holds k l ≡ true → ⊥
in-unit kind.Field e l f = cc f
in-unit kind.Signal e l f = cc f
in-unit kind.Addrmap e l f = cc e
in-unit kind.Regfile e l f = cc e
in-unit kind.Reg e l f = cc e

no-register : (k : Kind) → holds kind.Reg k ≡ true → same_kind kind.Reg k ≡ false
no-register kind.Field e = refl
no-register kind.Signal e = refl
no-register kind.Addrmap e = refl
no-register kind.Regfile e = refl
no-register kind.Reg e = cc e

the-kind : (k : Kind) → same_kind kind.Reg k ≡ true → k ≡ kind.Reg
the-kind kind.Reg q = refl
the-kind _ q = cc q

child-held : (n c : Instance) → IsChildOf n c → holds (kind_of n) (kind_of c) ≡ true
child-held n c h = subst (λ p. may_hold p (kind_of c) ≡ true) h.in_body (held h.by c h.given_)

none-below : (n : Instance) (k : ℕ) (c : Instance) → is_primary n ≡ true → IsChildOf n c → all_fields (with_below k c) ≡ []
none-below n k c primary h = go k
  where
    in_register : holds kind.Reg (kind_of c) ≡ true
    in_register = subst (λ x. holds x (kind_of c) ≡ true) (the-kind (kind_of n) (both (is_a kind.Reg n) (not (is_alias n)) primary)) (child-held n c h)

    nothing : children c ≡ []
    nothing = empty_of_none (IsChildOf c) (children c) (λ d g. in-unit (kind_of c) in_register (kind_of d) (child-held c d g)) (children-given c)

    single : all_fields (c ∷ []) ≡ []
    single = ap (λ b. flat_map fields_of (filter (λ r. not (is_alias r)) (cond b (c ∷ []) []))) (no-register (kind_of c) in_register)

    go : (k : ℕ) → all_fields (with_below k c) ≡ []
    go zero = single
    go (suc k) = ap (λ cs. all_fields (c ∷ flat_map (with_below k) cs)) nothing ∙ single

-- The nodes below a node, level by level.

abbrev pub IsInOrder : ℕ → List Instance → Instance → Type 0
IsInOrder k up n = own (lineages_below k up n) ≡ alone-own up n ++ all_fields (with_below k n)

joined : (b : Bool) (n : Instance) (up : List Instance) → is_primary n ≡ b → (k : ℕ) (cs : List Instance) → AllByRecursion (IsInOrder k (n ∷ up)) cs → AllByRecursion (λ c. is_primary n ≡ true → all_fields (with_below k c) ≡ []) cs
    → own (flat_map (lineages_below k (n ∷ up)) cs) ≡ cond b (filter (is_a kind.Field) cs) [] ++ all_fields (flat_map (with_below k) cs)
joined true n up is k [] h g = refl
joined false n up is k [] h g = refl
joined true n up is k (c ∷ cs) h g =
    own-join (lineages_below k (n ∷ up) c) (flat_map (lineages_below k (n ∷ up)) cs)
    ∙ ((λ i. h.0 i ++ joined true n up is k cs h.1 g.1 i)
    ∙ ((λ i. (cond (is_a kind.Field c && is i) (c ∷ []) [] ++ g.0 is i) ++ (filter (is_a kind.Field) cs ++ all_fields (flat_map (with_below k) cs)))
    ∙ (by (is_a kind.Field c) ∙ ap (λ xs. cond (is_a kind.Field c) (c ∷ filter (is_a kind.Field) cs) (filter (is_a kind.Field) cs) ++ xs) (sym rest))))
  where
    rest : all_fields (with_below k c ++ flat_map (with_below k) cs) ≡ all_fields (flat_map (with_below k) cs)
    rest = fields-join (with_below k c) (flat_map (with_below k) cs) ∙ ap (λ xs. xs ++ all_fields (flat_map (with_below k) cs)) (g.0 is)

    by : (b : Bool) → (cond (b && true) (c ∷ []) [] ++ []) ++ (filter (is_a kind.Field) cs ++ all_fields (flat_map (with_below k) cs)) ≡ cond b (c ∷ filter (is_a kind.Field) cs) (filter (is_a kind.Field) cs) ++ all_fields (flat_map (with_below k) cs)
    by true = refl
    by false = refl
joined false n up is k (c ∷ cs) h g =
    own-join (lineages_below k (n ∷ up) c) (flat_map (lineages_below k (n ∷ up)) cs)
    ∙ ((λ i. h.0 i ++ joined false n up is k cs h.1 g.1 i)
    ∙ ((λ i. (cond (is_a kind.Field c && is i) (c ∷ []) [] ++ all_fields (with_below k c)) ++ all_fields (flat_map (with_below k) cs))
    ∙ (by (is_a kind.Field c) ∙ sym (fields-join (with_below k c) (flat_map (with_below k) cs)))))
  where
    by : (b : Bool) → (cond (b && false) (c ∷ []) [] ++ all_fields (with_below k c)) ++ all_fields (flat_map (with_below k) cs) ≡ all_fields (with_below k c) ++ all_fields (flat_map (with_below k) cs)
    by true = refl
    by false = refl

in-order : (k : ℕ) (up : List Instance) (n : Instance) → Deep k n → IsInOrder k up n
in-order zero up n d =
    own-next (record { node = n; ancestors = up }) []
    ∙ ap (λ xs. alone-own up n ++ xs) (sym (fields-next n [] ∙ go (is_primary n)))
  where
    go : (b : Bool) → cond b (fields_of n) [] ++ [] ≡ []
    go true = ap (λ cs. filter (is_a kind.Field) cs ++ []) (bottom n d)
    go false = refl
in-order (suc k) up n d =
    own-next (record { node = n; ancestors = up }) (flat_map (lineages_below k (n ∷ up)) (children n))
    ∙ ap (λ xs. alone-own up n ++ xs) (
    joined (is_primary n) n up refl k (children n) (each-imp (Deep k) (IsInOrder k (n ∷ up)) (children n) (λ c. in-order k (n ∷ up) c) (lower k n d)) (each-imp (IsChildOf n) (λ c. is_primary n ≡ true → all_fields (with_below k c) ≡ []) (children n) (λ c g p. none-below n k c p g) (children-given n))
    ∙ sym (fields-next n (flat_map (with_below k) (children n)))
    )

-- All nodes.

tops-order : (ns : List Instance) → AllByRecursion (Deep most_names) ns → own (flat_map (lineages_below most_names []) ns) ≡ all_fields (flat_map (with_below most_names) ns)
tops-order [] h = refl
tops-order (n ∷ ns) h =
    own-join (lineages_below most_names [] n) (flat_map (lineages_below most_names []) ns)
    ∙ ((λ i. in-order most_names [] n h.0 i ++ tops-order ns h.1 i)
    ∙ (by (is_a kind.Field n) ∙ sym (fields-join (with_below most_names n) (flat_map (with_below most_names) ns))))
  where
    by : (b : Bool) → (cond (b && false) (n ∷ []) [] ++ all_fields (with_below most_names n)) ++ all_fields (flat_map (with_below most_names) ns) ≡ all_fields (with_below most_names n) ++ all_fields (flat_map (with_below most_names) ns)
    by true = refl
    by false = refl

signals-own : (ns : List Instance) → own (map alone ns) ≡ []
signals-own [] = refl
signals-own (n ∷ ns) = own-next (alone n) (map alone ns) ∙ (go (is_a kind.Field n) ∙ signals-own ns)
  where
    go : (b : Bool) → cond (b && false) (n ∷ []) [] ++ own (map alone ns) ≡ own (map alone ns)
    go true = refl
    go false = refl

signals-none : (ns : List Instance) → AllByRecursion IsAtRoot ns → all_fields ns ≡ []
signals-none [] h = refl
signals-none (n ∷ ns) h = ap (λ b. flat_map fields_of (filter (λ r. not (is_alias r)) (cond b (n ∷ registers ns) (registers ns)))) (no-reg (kind_of n) kind_is) ∙ signals-none ns h.1
  where
    kind_is : is_signal (kind_of n) ≡ true
    kind_is = subst (λ p. may_hold p (kind_of n) ≡ true) h.0.in_body (held h.0.by n h.0.given_)

    no-reg : (k : Kind) → is_signal k ≡ true → same_kind kind.Reg k ≡ false
    no-reg kind.Signal e = refl
    no-reg kind.Addrmap e = refl
    no-reg kind.Regfile e = refl
    no-reg kind.Reg e = cc e
    no-reg kind.Field e = refl

pub fields-own : (wanted : Option (List ℕ)) (s : Source) → all_fields (nodes wanted s) ≡ own (lineages wanted s)
unfolding nodes lineages
fields-own wanted s =
    fields-join (signals s) (flat_map (with_below most_names) (top_of wanted s))
    ∙ ((λ i. signals-none (signals s) (signals-given s) i ++ sym (tops-order (top_of wanted s) (tops_deep wanted s)) i)
    ∙ ((λ i. sym (signals-own (signals s)) i ++ own (flat_map (lineages_below most_names []) (top_of wanted s)))
    ∙ sym (own-join (map alone (signals s)) (flat_map (lineages_below most_names []) (top_of wanted s)))))
