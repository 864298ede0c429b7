-- How many words there are.
use Rattle.std.proofs.Common.{◌≡◌, ◌∙◌, ◌⊎◌, inl, inr, ℕ, zero, suc, ◌+◌, ◌*◌, ◌/◌, ◌≤◌, Bool, true, false, not, ◌&&◌, cond, List, [], ◌∷◌, nat_lt, filter, flat_map, length, Option, Some, refl, sym, ap, subst, arith}
use Rattle.std.proofs.lemmas.Bool.Decides.{nat_tests}
use Rattle.std.proofs.lemmas.List.Sorted.{length_permutation}
use Rattle.plain_lemmas.proofs.Lists.{length-append as length-join, length-map}
use Rattle.rdl_base.specs.declared.rule.Rule.TheVariants as rules
use Rattle.rdl_tree.specs.declared.item.Kind.TheVariants as kind
use Rattle.rdl_tree.specs.declared.item.Source.{Source}
use Rattle.rdl_tree.specs.declared.node.Elab.{Elab}
use Rattle.rdl_values.specs.Elaborated.{top_name}
use Rattle.rdl_values.specs.Faults.{at_}
use Rattle.rdl_values.specs.Instances.{Instance, most_names, top_of, upto}
use Rattle.rdl_layers.specs.Answers.{IsSettled}
use Rattle.rdl_layers.specs.Fields.{fields_of, is_a}
use Rattle.rdl_nodes.proofs.Members.{In}
use Rattle.rdl_addr.specs.Answers.{IsPlaced}
use Rattle.rdl_addr.specs.Layout.{Placed, layout, placed_from, regalign}
use Rattle.rdl_addr.specs.Rules.{registers, too_many}
use Rattle.rb_model.specs.declared.block.Word.{Word}
use Rattle.rdl_rules.specs.Numbers.{Numbered, numbered, numbered_from}
use Rattle.rdl_rules.specs.Words.{AreByAddress, shares_with, word_of, words_but, words_of}
use Rattle.rdl_sound_laws.proofs.Meeting.{numbered-in}
use Rattle.rdl_sound_laws.proofs.Placed.{Stands, access, nil-left, none-many, stands, when-nil, width}

length-upto : (n : ℕ) → length (upto n) ≡ n
length-upto zero = refl
length-upto (suc n) = let join = length-join (upto n) (n ∷ []) in let rest = length-upto n in omega (arith, join, rest)

eight : (a w : ℕ) → (a ≡ 8) ⊎ (a ≡ 16) ⊎ (a ≡ 32) → w ≤ 64 → w / a ≤ 8
eight a w (inl e) l = subst (λ x. w / x ≤ 8) (sym e) (omega (arith, l))
eight a w (inr (inl e)) l = subst (λ x. w / x ≤ 8) (sym e) (omega (arith, l))
eight a w (inr (inr e)) l = subst (λ x. w / x ≤ 8) (sym e) (omega (arith, l))

of-register : (r : Numbered Placed) → Stands r.register → length (words_of r) ≤ 8
of-register r s =
    let n = width r.register.node / access r.register.node in
    let many = length-map (word_of r) (upto n) ∙ length-upto n in
    let few = eight (access r.register.node) (width r.register.node) s.widths_.wide s.widths_.most in
    omega (arith, many, few)

of-all : (p : Numbered Placed → Bool) (rs : List (Numbered Placed)) → ((r : Numbered Placed) → In rs r → Stands r.register) → length (flat_map words_of (filter p rs)) ≤ 8 * length rs
of-all p [] h = omega arith
of-all p (r ∷ rs) h = go (p r) (of-all p rs (λ x i. h x (inr i))) (of-register r (h r (inl refl)))
  where
    go : (b : Bool) → length (flat_map words_of (filter p rs)) ≤ 8 * length rs → length (words_of r) ≤ 8 → length (flat_map words_of (cond b (r ∷ filter p rs) (filter p rs))) ≤ 8 * suc (length rs)
    go true rest one = let join = length-join (words_of r) (flat_map words_of (filter p rs)) in omega (arith, rest, one, join)
    go false rest one = omega (arith, rest)

numbered-many : (k v : ℕ) (ps : List Placed) → length (numbered_from (λ p. p.node) k v ps) ≡ length ps
numbered-many k v [] = refl
numbered-many k v (p ∷ ps) = ap suc (numbered-many (k + 1) (v + length (fields_of p.node)) ps)

few-from : (n : ℕ) → nat_lt 8192 n ≡ false → n ≤ 8192
few-from n e = grind (arith, nat_tests, e)

-- where there is no top, there is no register
none-under : (ps : List Placed) → ps ≡ [] → length (filter (λ p. is_a kind.Reg p.node) ps) ≤ 8192
none-under ps e = subst (λ xs. length (filter (λ (p : Placed). is_a kind.Reg p.node) xs) ≤ 8192) (sym e) (omega arith)

few-registers : (wanted : Option (List ℕ)) (s : Source) → too_many (top_of wanted s) (registers wanted s) ≡ [] → length (registers wanted s) ≤ 8192
unfolding layout
few-registers wanted s none = by (top_of wanted s) refl
  where
    by : (ts : List Instance) → top_of wanted s ≡ ts → length (filter (λ p. is_a kind.Reg p.node) (flat_map (placed_from most_names regalign 0) (top_of wanted s))) ≤ 8192
    by [] e = none-under (flat_map (placed_from most_names regalign 0) (top_of wanted s)) (ap (flat_map (placed_from most_names regalign 0)) e)
    by (t ∷ ts) e = few-from (length (registers wanted s)) (when-nil (nat_lt 8192 (length (registers wanted s))) (at_ rules.A6 t.use_.name.place) (nil-left _ _ (sym (ap (λ xs. too_many xs (registers wanted s)) e) ∙ none)))

module _ (e : Elab) (settled : IsSettled e) (placed : IsPlaced e) where
  pub few-words : (test mate : Instance → Bool) (ws : List Word) → AreByAddress (words_but test mate (registers (Some (top_name e)) e.source.now)) ws → length ws ≤ 65536
  few-words test mate ws by =
      let ps = registers (Some (top_name e)) e.source.now in
      let same = length_permutation (words_but test mate ps) ws by.same in
      let few = few-registers (Some (top_name e)) e.source.now (none-many e settled placed) in
      let many = numbered-many 0 0 ps in
      let all = of-all (λ r. not (test r.register.node && shares_with mate ps r.register)) (numbered (λ (p : Placed). p.node) ps) (λ r i. stands e settled placed r.register (numbered-in 0 0 ps r i)) in
      omega (arith, same, few, many, all)
