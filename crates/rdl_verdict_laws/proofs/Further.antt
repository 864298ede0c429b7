-- What the definitions give for further sources: bytes of strings, addresses far above the limit, an alias whose primary gave no
-- node, settings as the code has them, the first phase with a failure, and an order.
use Rattle.std.proofs.Common.{◌≡◌, ℕ, zero, suc, ◌+◌, ◌<◌, Bool, true, false, ◌&&◌, nat_lt, List, [], ◌∷◌, ◌++◌, length, get_or, Contains, map, flat_map, inl, inr, ◌⊎◌, Option, None, Some, refl, sym, subst, ◌∙◌, codes, arith, length-append}
use Rattle.std.specs.Fmt.{digits}
use Rattle.std.specs.List.{list_all}
use Rattle.std.proofs.lemmas.Bool.{and_parts}
use Rattle.std.proofs.lemmas.Bool.Decides.{nat_tests}
use Rattle.std.proofs.lemmas.List.Folds.{list_all_at}
use Rattle.std.proofs.lemmas.List.Sorted.{IsPermutation-refl}
use Rattle.std.proofs.Math.ListN.{get_or-append}
use Rattle.std.proofs.Math.Seq.{get_or-append_seam}
use Rattle.rdl_base.specs.declared.rule.Rule.TheVariants as rules
use Rattle.rdl_tree.specs.declared.expr.Path.{roll-Path}
use Rattle.rdl_tree.specs.declared.item.Kind.TheVariants as kind
use Rattle.rdl_props.specs.Table.{reference_props, props, left_out_names}
use Rattle.rdl_props.specs.declared.prop.Prop.TheVariants as prop
use Rattle.rdl_values.specs.Bodies.{below_top}
use Rattle.rdl_values.specs.Faults.{at_}
use Rattle.rdl_values.specs.Instances.{Instance, nodes, upto}
use Rattle.rdl_values.specs.Lineages.{lineages}
use Rattle.rdl_values.specs.Phase3.{failures3, fails3}
use Rattle.rdl_values.specs.Top.{top_use}
use Rattle.rdl_values.specs.Uses.{path_text}
use Rattle.rdl_values.specs.Verdict.{FirstOf, IsListOf, in_order}
use Rattle.rdl_values.proofs.Sorted.{in_order-is}
use Rattle.rdl_layers.specs.Forms.{text}
use Rattle.rdl_layers.specs.Phase4.{failures4, fails4}
use Rattle.rdl_layers.specs.Says.{Says}
use Rattle.rdl_layers.specs.Settings.{setting}
use Rattle.rdl_layers.specs.declared.setting.Setting.TheVariants as set
use Rattle.rdl_addr.specs.Layout.{layout}
use Rattle.rdl_addr.specs.Rules.{all_groups, failures_ab, registers}
use Rattle.rdl_refs.specs.Follows.{edges_of}
use Rattle.rdl_refs.specs.Graph.{Edges, Refers, IsOrder}
use Rattle.rdl_refs.specs.Items.{items, failures_r}
use Rattle.rdl_refs.specs.Leads.{led_to}
use Rattle.rdl_rules.specs.Numbers as numbers
use Rattle.rdl_rules.specs.RegisterRules.{of_alias}
use Rattle.rdl_verdict_laws.proofs.FurtherSources.{quoted_name, far_registers, alias_of_no_node, wire_of_a_signal}
use Rattle.rdl_verdict_laws.proofs.WorkedTrees.{lend, at, name, component, step_to, path_of}

-- a string has the bytes between its quotes, each backslash one of them
quoted_name_bytes : map (λ n. setting n prop.Name) (nodes None quoted_name) ≡ text (92 ∷ 34 ∷ 113 ∷ 92 ∷ 34 ∷ []) ∷ []
unfolding nodes lineages setting items led_to layout all_groups failures3 failures4 failures_ab failures_r edges_of digits props reference_props left_out_names roll-Path denote.Hole.Carrier.roll Rattle.rdl_tree.specs.declared.expr.Expr.TheBlock.hidden-the_row-Step-1 denote.Hole.Carrier.hidden Rattle.rdl_tree.specs.declared.item.Item.TheBlock.hidden-the_row-Item-0
quoted_name_bytes = refl

-- addresses are whole numbers, however large
far_addresses : map (λ p. p.address) (registers None far_registers) ≡ 36893488147419103228 ∷ 36893488147419103234 ∷ []
unfolding nodes lineages setting items led_to layout all_groups failures3 failures4 failures_ab failures_r edges_of digits props reference_props left_out_names roll-Path denote.Hole.Carrier.roll Rattle.rdl_tree.specs.declared.expr.Expr.TheBlock.hidden-the_row-Step-1 denote.Hole.Carrier.hidden Rattle.rdl_tree.specs.declared.item.Item.TheBlock.hidden-the_row-Item-0
far_addresses = refl

-- so the first register is aligned, 4 bytes below 2^65, and the second isn't; neither meets the other
far_registers_fail : in_order (failures_ab None far_registers) ≡ at_ rules.A4 (at 42) ∷ at_ rules.A3 (at 87) ∷ at_ rules.A4 (at 87) ∷ []
unfolding nodes lineages setting items led_to layout all_groups failures3 failures4 failures_ab failures_r edges_of digits props reference_props left_out_names roll-Path denote.Hole.Carrier.roll Rattle.rdl_tree.specs.declared.expr.Expr.TheBlock.hidden-the_row-Step-1 denote.Hole.Carrier.hidden Rattle.rdl_tree.specs.declared.item.Item.TheBlock.hidden-the_row-Item-0
far_registers_fail = refl

-- an alias stands where its primary gave no node, since the primary is judged by its form alone
alias_stands_alone : map (λ r. path_text r.path) (numbers.registers (nodes None alias_of_no_node)) ≡ codes "s" ∷ []
unfolding nodes lineages setting items led_to layout all_groups failures3 failures4 failures_ab failures_r edges_of digits props reference_props left_out_names roll-Path denote.Hole.Carrier.roll Rattle.rdl_tree.specs.declared.expr.Expr.TheBlock.hidden-the_row-Step-1 denote.Hole.Carrier.hidden Rattle.rdl_tree.specs.declared.item.Item.TheBlock.hidden-the_row-Item-0
alias_stands_alone = refl

-- nothing is asked of it against a primary, but its source fails before
alias_agrees_with_none : flat_map (of_alias (nodes None alias_of_no_node)) (numbers.registers (nodes None alias_of_no_node)) ≡ []
unfolding nodes lineages setting items led_to layout all_groups failures3 failures4 failures_ab failures_r edges_of digits props reference_props left_out_names roll-Path denote.Hole.Carrier.roll Rattle.rdl_tree.specs.declared.expr.Expr.TheBlock.hidden-the_row-Step-1 denote.Hole.Carrier.hidden Rattle.rdl_tree.specs.declared.item.Item.TheBlock.hidden-the_row-Item-0
alias_agrees_with_none = refl

-- the first phase that has a failure is answered
first_phase_answers : FirstOf ((λ list. IsListOf (fails3 None alias_of_no_node) list) ∷ (λ list. IsListOf (fails4 None alias_of_no_node) list) ∷ []) (at_ rules.E6 (at 71) ∷ [])
unfolding nodes lineages setting items led_to layout all_groups failures3 failures4 failures_ab failures_r edges_of digits props reference_props left_out_names roll-Path denote.Hole.Carrier.roll Rattle.rdl_tree.specs.declared.expr.Expr.TheBlock.hidden-the_row-Step-1 denote.Hole.Carrier.hidden Rattle.rdl_tree.specs.declared.item.Item.TheBlock.hidden-the_row-Item-0
first_phase_answers = inl (in_order-is (failures3 None alias_of_no_node), λ e. cc)

-- a later one where those before it have none
second_phase_passes : FirstOf ((λ list. IsListOf (fails3 None wire_of_a_signal) list) ∷ (λ list. IsListOf (fails4 None wire_of_a_signal) list) ∷ []) []
unfolding nodes lineages setting items led_to layout all_groups failures3 failures4 failures_ab failures_r edges_of digits props reference_props left_out_names roll-Path denote.Hole.Carrier.roll Rattle.rdl_tree.specs.declared.expr.Expr.TheBlock.hidden-the_row-Step-1 denote.Hole.Carrier.hidden Rattle.rdl_tree.specs.declared.item.Item.TheBlock.hidden-the_row-Item-0
second_phase_passes = inr (in_order-is (failures3 None wire_of_a_signal), inr (in_order-is (failures4 None wire_of_a_signal), refl))

-- Settings, as the code has them.

nobody : Instance
nobody = record { above = []; path = below_top []; use_ = top_use [] (component kind.Addrmap None [] 0 [] None) (name [] 0); closure = record { def = component kind.Addrmap None [] 0 [] None; scope = [] }; bound = [] }

abbrev node_at : ℕ → Instance
node_at k = get_or (nodes None wire_of_a_signal) k nobody

-- a number
width_is_said : Says (nodes None wire_of_a_signal) (set.Number 32) (setting (node_at 2) prop.Regwidth)
unfolding nodes lineages setting items led_to layout all_groups failures3 failures4 failures_ab failures_r edges_of digits props reference_props left_out_names roll-Path denote.Hole.Carrier.roll Rattle.rdl_tree.specs.declared.expr.Expr.TheBlock.hidden-the_row-Step-1 denote.Hole.Carrier.hidden Rattle.rdl_tree.specs.declared.item.Item.TheBlock.hidden-the_row-Item-0
width_is_said = refl

-- a reference, by the number of the register in whose body its assignment stands
reference_is_said : Says (nodes None wire_of_a_signal) (set.Ref (lend (path_of (step_to (name (codes "s") 66) [] ∷ []))) (lend None) 2 (at 56)) (setting (node_at 3) prop.Next)
unfolding nodes lineages setting items led_to layout all_groups failures3 failures4 failures_ab failures_r edges_of digits props reference_props left_out_names roll-Path denote.Hole.Carrier.roll Rattle.rdl_tree.specs.declared.expr.Expr.TheBlock.hidden-the_row-Step-1 denote.Hole.Carrier.hidden Rattle.rdl_tree.specs.declared.item.Item.TheBlock.hidden-the_row-Item-0
reference_is_said = (refl, refl, (node_at 2, refl, refl), refl)

-- An order.

-- each thing refers to those before it alone
abbrev falls_from : ℕ → Edges → Bool
falls_from k [] = true
falls_from k (bs ∷ more) = list_all (λ b. nat_lt b k) bs && falls_from (suc k) more

below : (k : ℕ) (bs : List ℕ) (b : ℕ) → list_all (λ b. nat_lt b k) bs ≡ true → Contains bs b → b < k
below k bs b h c = go (nat_lt (get_or bs c.0 b) k) refl
  where
    go : (t : Bool) → nat_lt (get_or bs c.0 b) k ≡ t → b < k
    go true e = let is : nat_lt b k ≡ true = subst (λ x. nat_lt x k ≡ true) c.2 e in grind (arith, nat_tests)
    go false e = let no : list_all (λ b. nat_lt b k) bs ≡ false = list_all_at (λ b. nat_lt b k) bs c.0 b c.1 e in cc

falls : (k : ℕ) (edges : Edges) (a b : ℕ) → falls_from k edges ≡ true → Refers edges a b → b < k + a
falls k [] a b h (bs, e, c) = cc
falls k (x ∷ edges) zero b h (bs, e, c) =
    let p = and_parts (list_all (λ b. nat_lt b k) x) (falls_from (suc k) edges) h in
    let l = below k x b p.0 (subst (λ o. In o b) (sym e) c) in
    omega (arith, l)
  where
    In : Option (List ℕ) → ℕ → Type 0
    In None b = ⊥
    In (Some bs) b = Contains bs b
falls k (x ∷ edges) (suc a) b h (bs, e, c) =
    let p = and_parts (list_all (λ b. nat_lt b k) x) (falls_from (suc k) edges) h in
    let l = falls (suc k) edges a b p.1 (bs, e, c) in
    omega (arith, l)

length-upto : (n : ℕ) → length (upto n) ≡ n
length-upto zero = refl
length-upto (suc n) = let e = length-upto n in let s = length-append (upto n) (n ∷ []) in omega (arith, e, s)

number_at : (n i d : ℕ) → i < n → get_or (upto n) i d ≡ i
number_at zero i d l = absurd (omega (arith, l))
number_at (suc n) i d l = by (split i n l) (number_at n i d)
  where
    split : (i n : ℕ) → i < suc n → (i ≡ n) ⊎ (i < n)
    split i n l = grind arith

    by : (i ≡ n) ⊎ (i < n) → (i < n → get_or (upto n) i d ≡ i) → get_or (upto n ++ (n ∷ [])) i d ≡ i
    by (inl e) earlier = let q : get_or (upto n ++ (n ∷ [])) (length (upto n)) d ≡ n = get_or-append_seam (upto n) n [] d in subst (λ k. get_or (upto n ++ (n ∷ [])) k d ≡ k) (sym e) (subst (λ k. get_or (upto n ++ (n ∷ [])) k d ≡ n) (length-upto n) q)
    by (inr h) earlier = let size = length-upto n in get_or-append (upto n) (n ∷ []) d i (omega (arith, h, size)) ∙ earlier h

in_order_of_numbers : (edges : Edges) → falls_from 0 edges ≡ true → IsOrder edges (upto (length edges))
in_order_of_numbers edges h = record {
  each_once = IsPermutation-refl (upto (length edges));
  after_its_own = λ i j d before inside r.
      let size = length-upto (length edges) in
      let l = falls 0 edges i j h (subst (λ b. Refers edges i b) (number_at (length edges) j d (omega (arith, inside, size))) (subst (λ a. Refers edges a (get_or (upto (length edges)) j d)) (number_at (length edges) i d (omega (arith, before, inside, size))) r)) in
      omega (arith, l, before);
  not_to_itself = λ i d inside r.
      let size = length-upto (length edges) in
      let q = number_at (length edges) i d (omega (arith, inside, size)) in
      let l = falls 0 edges i i h (subst (λ b. Refers edges i b) q (subst (λ a. Refers edges a (get_or (upto (length edges)) i d)) q r)) in
      omega (arith, l);
}

abbrev wire_edges : Edges
wire_edges = edges_of (lineages None wire_of_a_signal)

-- the signal, then a register's two items, and then those of a field that takes its value from the signal
wire_refers_to_the_signal : wire_edges ≡ [] ∷ [] ∷ [] ∷ (0 ∷ []) ∷ (3 ∷ []) ∷ (3 ∷ []) ∷ (3 ∷ []) ∷ [] ∷ [] ∷ [] ∷ [] ∷ [] ∷ [] ∷ []
unfolding nodes lineages setting items led_to layout all_groups failures3 failures4 failures_ab failures_r edges_of digits props reference_props left_out_names roll-Path denote.Hole.Carrier.roll Rattle.rdl_tree.specs.declared.expr.Expr.TheBlock.hidden-the_row-Step-1 denote.Hole.Carrier.hidden Rattle.rdl_tree.specs.declared.item.Item.TheBlock.hidden-the_row-Item-0
wire_refers_to_the_signal = refl

-- so the items are in order as they stand
order_of_a_wire : IsOrder wire_edges (upto 13)
order_of_a_wire = subst (λ e. IsOrder e (upto 13)) (sym wire_refers_to_the_signal) (in_order_of_numbers ([] ∷ [] ∷ [] ∷ (0 ∷ []) ∷ (3 ∷ []) ∷ (3 ∷ []) ∷ (3 ∷ []) ∷ [] ∷ [] ∷ [] ∷ [] ∷ [] ∷ [] ∷ []) refl)
